-- Blocks are read rightly, whatever the limit.
use Rattle.statement_reading.specs.Laws.{BlocksAreRead}
use Rattle.statement_reading.proofs.Statements.StatementRight.{block_with_right}

pub blocks_are_read : BlocksAreRead
blocks_are_read objects right objects_right = block_with_right right objects objects_right
