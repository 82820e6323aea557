use Rattle.std.proofs.Common.{◌≡◌, [], ◌∷◌, arith, w64, to_z, of_z}
use Rattle.std.proofs.lemmas.Int.{ints, to_z-of_z}
use Rattle.sat_base.specs.declared.width.Width.TheVariants.{W32}
use Rattle.operator_meaning.specs.Table.{FitWidths}
use Rattle.range_transfer.specs.Box.{operands_of}
use Rattle.range_transfer.proofs.Operands.{two_operands, product_fits}
use Rattle.range_transfer.proofs.question.plain_number.Goals as goal

pub returns-in-Sum : goal.returns-in-Sum
returns-in-Sum c =
    let corner = c.args.corner in
    let fits : FitWidths (W32 ∷ W32 ∷ []) (operands_of corner) = rw c.in-Sum.is at c.requires.fit in
    let x : to_z w64 (of_z w64 c.from-x.result) ≡ corner.first = omega (arith, ints, c.from-x.ensures) in
    let y : to_z w64 (of_z w64 c.from-y.result) ≡ corner.second = omega (arith, ints, c.from-y.ensures) in
    rw (c.in-Sum.is, two_operands corner.count corner.first corner.second corner.third fits, x, y) (to_z-of_z w64 _ (omega (arith, ints)))

pub returns-in-Difference : goal.returns-in-Difference
returns-in-Difference c =
    let corner = c.args.corner in
    let fits : FitWidths (W32 ∷ W32 ∷ []) (operands_of corner) = rw c.in-Difference.is at c.requires.fit in
    let x : to_z w64 (of_z w64 c.from-x.result) ≡ corner.first = omega (arith, ints, c.from-x.ensures) in
    let y : to_z w64 (of_z w64 c.from-y.result) ≡ corner.second = omega (arith, ints, c.from-y.ensures) in
    rw (c.in-Difference.is, two_operands corner.count corner.first corner.second corner.third fits, x, y) (to_z-of_z w64 _ (omega (arith, ints)))

pub returns-in-Product : goal.returns-in-Product
returns-in-Product c =
    let corner = c.args.corner in
    let fits : FitWidths (W32 ∷ W32 ∷ []) (operands_of corner) = rw c.in-Product.is at c.requires.fit in
    let x : to_z w64 (of_z w64 c.from-x.result) ≡ corner.first = omega (arith, ints, c.from-x.ensures) in
    let y : to_z w64 (of_z w64 c.from-y.result) ≡ corner.second = omega (arith, ints, c.from-y.ensures) in
    rw (c.in-Product.is, two_operands corner.count corner.first corner.second corner.third fits, x, y) (to_z-of_z w64 _ (product_fits corner.first corner.second (omega (arith, ints)) (omega (arith, ints))))
