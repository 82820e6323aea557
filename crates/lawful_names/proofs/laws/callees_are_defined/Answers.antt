use Rattle.lawful_names.proofs.Faultless.{AnyShape, stands}
use Rattle.lawful_names.proofs.Clean.{is_clean}
use Rattle.lawful_names.proofs.Tests.{callees-fit}
use Rattle.lawful_names.proofs.laws.callees_are_defined.Goals as goal

pub returns : goal.returns
returns c = λ program typed is. stands program typed is _ (callees-fit typed program.items AnyShape is_clean)
