use Rattle.std.proofs.Common.{subst, List, ℤ}
use Rattle.range_core.specs.Kept.{Adds, IsInRows}
use Rattle.range_core.specs.Thresholds.{AreThresholds, near_power}
use Rattle.range_core.proofs.Rows.{are_thresholds, same_thresholds, is_ladder}
use Rattle.range_core.proofs.constants.thresholds.Goals as goal

found : (c : goal.In_ok-sort) → AreThresholds c.args.constants.now c.sort.new.self.items
found c =
    let none = c.new-values.ensures.items in
    let powers = subst (λ (old : List ℤ). Adds old (IsInRows near_power 32) c.keep_powers.new.values.items) none c.in_ok-keep_powers.ensures in
    same_thresholds c.args.constants.now c.keep_constants.new.values.items c.sort.new.self.items c.in_ok-sort.ensures.permutation
    (are_thresholds c.args.constants.now c.keep_powers.new.values.items c.keep_constants.new.values.items powers c.in_ok-keep_constants.ensures)

pub invariant_of-result : goal.invariant_of-result
invariant_of-result c = is_ladder c.args.constants.now c.sort.new.self.items c.in_ok-sort.ensures.sorted (found c)

pub returns : goal.returns
returns c = found c
