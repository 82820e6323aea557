use Rattle.lawful_names.proofs.Faultless.{AnyShape, stands}
use Rattle.lawful_names.proofs.Clean.{is_clean}
use Rattle.lawful_names.proofs.Tests.{functions-fit}
use Rattle.lawful_names.proofs.laws.functions_exist.Goals as goal

pub returns : goal.returns
returns c = λ program typed is. stands program typed is _ (functions-fit typed program.items AnyShape is_clean)
