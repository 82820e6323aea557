use Rattle.statement_reading.proofs.AllRight.{blocks_are_read}
use Rattle.statement_reading.proofs.laws.blocks_are_read.Goals as goal

pub returns : goal.returns
returns c = blocks_are_read
