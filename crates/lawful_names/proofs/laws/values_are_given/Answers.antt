use Rattle.lawful_names.proofs.Faultless.{AnyShape, stands}
use Rattle.lawful_names.proofs.Clean.{is_clean}
use Rattle.lawful_names.proofs.Tests.{values-fit}
use Rattle.lawful_names.proofs.laws.values_are_given.Goals as goal

pub returns : goal.returns
returns c = λ program typed is. stands program typed is _ (values-fit typed program.items AnyShape is_clean)
