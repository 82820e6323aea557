use Rattle.std.proofs.Common.{◌≡◌, ℕ, ◌<◌, length, get_or}
use Rattle.register_allocation.specs.Homes.{homes_at}
use Rattle.register_allocation.proofs.table.are_full.Given as goal

abbrev pub invariant-loop-function : goal.invariant-loop-function
invariant-loop-function l = (f : ℕ) → f < l.function → length (homes_at l.lists f) ≡ get_or l.counts f 0
