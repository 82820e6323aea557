use Rattle.std.proofs.Common.{◌≡◌, drop}
use Rattle.c_seen.specs.Functions.{functions_from, functions_of}
use Rattle.c_seen.proofs.items.functions_of.Given as goal

abbrev pub invariant-loop-item : goal.invariant-loop-item
invariant-loop-item l = functions_from l.fn.items l.functions l.item (drop l.item l.items) ≡ functions_of l.fn.items
