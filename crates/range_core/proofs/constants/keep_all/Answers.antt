use Rattle.std.proofs.Common.{length, subst, ap, ◌≡◌, ℕ, ℤ, pos, get_or, w64, to_z, of_z, FitsSigned, ◌∷◌, [], rules, arith}
use Rattle.std.proofs.lemmas.Int.{to_z-of_z}
use Rattle.range_core.specs.Kept.{Adds, IsInRows}
use Rattle.range_core.proofs.Rows.{adds_row, adds_same, adds_singles, singles}
use Rattle.range_core.proofs.constants.keep_all.Goals as goal

pub loop-x-preserved : goal.loop-x-preserved
loop-x-preserved c =
    let x = get_or c.args.xs.now c.loop-x.x-index (pos 0) in
    let fits : FitsSigned w64 x = search rules in
    let kept = adds_same c.loop-x.values.items (to_z w64 (of_z w64 x) ∷ []) (x ∷ []) c.keep.new.values.items (ap (λ (z : ℤ). z ∷ []) (to_z-of_z w64 x fits)) c.in_ok-keep.ensures in
    adds_row (singles c.args.xs.now) c.loop-x.x-index c.args.values.now.items c.loop-x.values.items c.keep.new.values.items c.loop-x.invariant kept

pub returns : goal.returns
returns c =
    let e : c.loop-x.x-index ≡ length c.args.xs.now = omega arith in
    adds_singles _ c.args.xs.now _ (subst (λ (n : ℕ). Adds c.args.values.now.items (IsInRows (singles c.args.xs.now) n) c.loop-x.values.items) e c.loop-x.invariant)
