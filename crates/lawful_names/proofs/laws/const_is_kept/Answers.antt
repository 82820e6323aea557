use Rattle.lawful_names.proofs.Faultless.{AnyShape, stands}
use Rattle.lawful_names.proofs.Clean.{is_clean}
use Rattle.lawful_names.proofs.Places.{const-fits}
use Rattle.lawful_names.proofs.laws.const_is_kept.Goals as goal

pub returns : goal.returns
returns c = λ program typed is. stands program typed is _ (const-fits typed program.items AnyShape is_clean)
