use Rattle.lawful_names.proofs.Faultless.{AnyShape, stands}
use Rattle.lawful_names.proofs.Clean.{is_clean}
use Rattle.lawful_names.proofs.Tests.{main-fits}
use Rattle.lawful_names.proofs.laws.main_is_not_called.Goals as goal

pub returns : goal.returns
returns c = λ program typed is. stands program typed is _ (main-fits typed program.items AnyShape is_clean)
