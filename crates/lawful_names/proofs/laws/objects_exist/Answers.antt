use Rattle.lawful_names.proofs.Faultless.{AnyShape, stands}
use Rattle.lawful_names.proofs.Clean.{is_clean}
use Rattle.lawful_names.proofs.Tests.{objects-fit}
use Rattle.lawful_names.proofs.laws.objects_exist.Goals as goal

pub returns : goal.returns
returns c = λ program typed is. stands program typed is _ (objects-fit typed program.items AnyShape is_clean)
