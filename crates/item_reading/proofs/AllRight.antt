-- Items are read rightly, whatever the limit.
use Rattle.item_reading.specs.Laws.{ItemsAreRead}
use Rattle.item_reading.proofs.Items.ItemsEnd.{items_end}
use Rattle.item_reading.proofs.Items.ItemsRight.{item_right, items_are, items_right, read_items}

pub items_are_read : ItemsAreRead
items_are_read n block right block_right i ends = record {
  read = read_items block n i;
  right = items_right n block block_right right i ends;
  same = items_are block n i;
  ended = items_end n block (item_right n block block_right right) i ends;
}
