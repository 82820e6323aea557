use Rattle.std.proofs.Common.{◌≡◌, false, take}
use Rattle.std.specs.List.{list_any}
use Rattle.c_seen.specs.Sources.{is_good_main}
use Rattle.c_seen.proofs.items.has_main.Given as goal

abbrev pub invariant-loop-item : goal.invariant-loop-item
invariant-loop-item l = list_any is_good_main (take l.item-index l.items) ≡ false
