use Rattle.lawful_names.proofs.Faultless.{AnyShape, stands}
use Rattle.lawful_names.proofs.Clean.{is_clean}
use Rattle.lawful_names.proofs.Tests.{arguments-fit}
use Rattle.lawful_names.proofs.laws.arguments_fit.Goals as goal

pub returns : goal.returns
returns c = λ program typed is. stands program typed is _ (arguments-fit typed program.items AnyShape is_clean)
