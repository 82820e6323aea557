use Rattle.std.proofs.Common.{◌≡◌, ◌^◌, pos}
use Rattle.range_core.specs.Kept.{Adds, IsInRows}
use Rattle.range_core.specs.Thresholds.{near_power}
use Rattle.range_core.proofs.constants.keep_powers.Given as goal

abbrev pub invariant-loop-k : goal.invariant-loop-k
invariant-loop-k l = record {
  power : l.power ≡ pos (2 ^ l.k);
  kept : Adds l.initial.values.items (IsInRows near_power l.k) l.values.items;
}
