use Rattle.lawful_names.proofs.Faultless.{AnyShape, stands}
use Rattle.lawful_names.proofs.Clean.{is_clean}
use Rattle.lawful_names.proofs.Places.{widths-fit}
use Rattle.lawful_names.proofs.laws.widths_agree.Goals as goal

pub returns : goal.returns
returns c = λ program typed is. stands program typed is _ (widths-fit typed program.items AnyShape is_clean)
