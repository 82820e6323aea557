use Rattle.std.proofs.Common.{◌≡◌, drop, length}
use Rattle.c_seen.specs.Functions.{same_each}
use Rattle.c_seen.proofs.functions.same_parameters.Given as goal

abbrev pub invariant-loop-place : goal.invariant-loop-place
invariant-loop-place l = record {
  rest : same_each (drop l.place l.some) (drop l.place l.others) ≡ same_each l.fn.some l.fn.others;
  long : length l.some ≡ length l.others;
}
