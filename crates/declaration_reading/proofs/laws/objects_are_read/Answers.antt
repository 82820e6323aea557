use Rattle.declaration_reading.proofs.AllRight.{objects_are_read}
use Rattle.declaration_reading.proofs.laws.objects_are_read.Goals as goal

pub returns : goal.returns
returns c = objects_are_read
