use Rattle.std.proofs.Common.{◌≡◌, ◌++◌, take}
use Rattle.std.specs.List.{flat_map}
use Rattle.image_format.specs.ImageBytes.{entry_bytes}
use Rattle.image_format.proofs.spelling.push_entries.Given as goal

abbrev pub invariant-loop-entry : goal.invariant-loop-entry
invariant-loop-entry l = l.bytes.items ≡ l.fn.bytes.items ++ flat_map entry_bytes (take l.entry-index l.entries)
