use Rattle.item_reading.proofs.AllRight.{items_are_read}
use Rattle.item_reading.proofs.laws.items_are_read.Goals as goal

pub returns : goal.returns
returns c = items_are_read
