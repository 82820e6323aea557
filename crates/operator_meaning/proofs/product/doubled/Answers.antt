use Rattle.std.proofs.Common.{◌≡◌, ◌*ℤ◌, pos, ap, ◌∙◌, arith, w64, to_z, of_z}
use Rattle.std.proofs.lemmas.Int.{ints}
use Rattle.operator_meaning.specs.Clipping.{changes32}
use Rattle.operator_meaning.proofs.Products.{product_read}
use Rattle.operator_meaning.proofs.product.doubled.Goals as goal

pub returns-clause-clips : goal.returns-clause-clips
returns-clause-clips c =
    let product = c.product.result in
    let twice : to_z w64 (of_z w64 (pos 2 *ℤ to_z w64 (of_z w64 c.from.result))) ≡ pos 2 *ℤ product = omega (arith, ints, c.from.ensures, c.product.type_inv) in
    c.to_32.ensures.clips ∙ ap changes32 (twice ∙ ap (λ p. pos 2 *ℤ p) (c.product.ensures.value ∙ product_read c.args.a c.args.b c.ranges.a c.ranges.b))
