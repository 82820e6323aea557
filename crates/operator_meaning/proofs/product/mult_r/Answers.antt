use Rattle.std.proofs.Common.{◌≡◌, ◌+ℤ◌, ◌*ℤ◌, pos, ap, ◌∙◌, arith, w32, w64, to_z, of_z}
use Rattle.std.proofs.lemmas.Int.{ints}
use Rattle.sat_base.specs.Clip.{clip16}
use Rattle.operator_meaning.specs.Clipping.{changes16}
use Rattle.operator_meaning.specs.Value.{floor}
use Rattle.operator_meaning.proofs.Products.{product_read}
use Rattle.operator_meaning.proofs.product.mult_r.Goals as goal

fraction_is : (c : goal.After-to_16) → to_z w64 (of_z w64 c.from.result) ≡ floor (c.args.a *ℤ c.args.b +ℤ pos 16384) 32768
fraction_is c =
    let product = c.product.result in
    let whole : to_z w64 (of_z w64 c.from.result) ≡ c.fraction.result = omega (arith, ints, c.from.ensures, c.fraction.type_inv) in
    let sum : to_z w32 (of_z w32 (to_z w32 (of_z w32 product) +ℤ pos 16384)) ≡ product +ℤ pos 16384 = omega (arith, ints, c.product.ensures.bound, c.product.type_inv) in
    whole ∙ c.fraction.ensures ∙ ap (λ s. floor s 32768) (sum ∙ ap (λ p. p +ℤ pos 16384) (c.product.ensures.value ∙ product_read c.args.a c.args.b c.ranges.a c.ranges.b))

pub returns-clause-value : goal.returns-clause-value
returns-clause-value c = c.to_16.ensures.value ∙ ap clip16 (fraction_is c)

pub returns-clause-clips : goal.returns-clause-clips
returns-clause-clips c = c.to_16.ensures.clips ∙ ap changes16 (fraction_is c)
