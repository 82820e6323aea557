use Rattle.std.proofs.Common.{◌≡◌, ◌-ℤ◌, ap, ◌∙◌, arith, w64, to_z, of_z}
use Rattle.std.proofs.lemmas.Int.{ints}
use Rattle.operator_meaning.specs.Clipping.{changes32}
use Rattle.operator_meaning.proofs.sum.difference_32.Goals as goal

pub returns-clause-clips : goal.returns-clause-clips
returns-clause-clips c =
    let e : to_z w64 (of_z w64 (to_z w64 (of_z w64 c.from.result) -ℤ to_z w64 (of_z w64 c.from-2.result))) ≡ c.args.x -ℤ c.args.y =
    omega (arith, ints, c.from.ensures, c.from-2.ensures, c.ranges.x, c.ranges.y)
    in
    c.to_32.ensures.clips ∙ ap changes32 e
