use Rattle.std.proofs.Common.{◌⊎◌, inl, inr, ℤ, [], ◌∷◌, arith}
use Rattle.std.proofs.lemmas.Int.{ints}
use Rattle.operator_meaning.specs.Table.{row_of}
use Rattle.range_transfer.specs.Image.{IsValueOn}
use Rattle.range_transfer.proofs.Least.{same_set}
use Rattle.range_transfer.proofs.Parts.{negatives, nothing, positives, part_fits, part_between, sign_of, of_parts, least_of_both}
use Rattle.range_transfer.proofs.Reach.{ranges_fit}
use Rattle.range_transfer.proofs.sign.image_by_sign.Goals as goal

pub image_at_corners-requires-clause-operands : goal.image_at_corners-requires-clause-operands
image_at_corners-requires-clause-operands c =
    part_fits (row_of c.args.op).takes c.meet-negative.result c.args.operand negatives c.meet-negative.ensures.range c.requires.operand c.meet-negative.ensures.common

pub image_at_corners-requires-clause-between : goal.image_at_corners-requires-clause-between
image_at_corners-requires-clause-between c =
    let part = c.meet-negative.result in
    let range = c.meet-negative.ensures.range in
    let common = c.meet-negative.ensures.common in
    part_between c.args.op part c.requires.turns (part_fits (row_of c.args.op).takes part c.args.operand negatives range c.requires.operand common)
    (sign_of part c.args.operand _ _ range common (inl (omega (arith, ints))))

pub image_at_corners-requires-2-clause-operands : goal.image_at_corners-requires-2-clause-operands
image_at_corners-requires-2-clause-operands c =
    part_fits (row_of c.args.op).takes c.meet-zero.result c.args.operand nothing c.meet-zero.ensures.range c.requires.operand c.meet-zero.ensures.common

pub image_at_corners-requires-2-clause-between : goal.image_at_corners-requires-2-clause-between
image_at_corners-requires-2-clause-between c =
    let part = c.meet-zero.result in
    let range = c.meet-zero.ensures.range in
    let common = c.meet-zero.ensures.common in
    part_between c.args.op part c.requires.turns (part_fits (row_of c.args.op).takes part c.args.operand nothing range c.requires.operand common)
    (sign_of part c.args.operand _ _ range common (inr (inl (omega (arith, ints), omega (arith, ints)))))

pub image_at_corners-requires-3-clause-operands : goal.image_at_corners-requires-3-clause-operands
image_at_corners-requires-3-clause-operands c =
    part_fits (row_of c.args.op).takes c.meet-positive.result c.args.operand positives c.meet-positive.ensures.range c.requires.operand c.meet-positive.ensures.common

pub image_at_corners-requires-3-clause-between : goal.image_at_corners-requires-3-clause-between
image_at_corners-requires-3-clause-between c =
    let part = c.meet-positive.result in
    let range = c.meet-positive.ensures.range in
    let common = c.meet-positive.ensures.common in
    part_between c.args.op part c.requires.turns (part_fits (row_of c.args.op).takes part c.args.operand positives range c.requires.operand common)
    (sign_of part c.args.operand _ _ range common (inr (inr (omega (arith, ints)))))

pub returns-clause-least : goal.returns-clause-least
returns-clause-least c =
    let negative : ℤ → Type 0 = IsValueOn c.args.op (c.meet-negative.result ∷ []) in
    let zero : ℤ → Type 0 = IsValueOn c.args.op (c.meet-zero.result ∷ []) in
    let positive : ℤ → Type 0 = IsValueOn c.args.op (c.meet-positive.result ∷ []) in
    let range = (ranges_fit (row_of c.args.op).takes (c.args.operand ∷ []) c.requires.operand).0 in
    same_set (λ (x : ℤ). (negative x ⊎ zero x) ⊎ positive x) (IsValueOn c.args.op (c.args.operand ∷ [])) c.join.result
    (of_parts c.args.op c.args.operand c.meet-negative.result c.meet-zero.result c.meet-positive.result range c.meet-negative.ensures.common c.meet-zero.ensures.common c.meet-positive.ensures.common)
    (least_of_both (λ (x : ℤ). negative x ⊎ zero x) positive c.join-not_positive.result c.image_at_corners-3.result c.join.result
    (least_of_both negative zero c.image_at_corners.result c.image_at_corners-2.result c.join-not_positive.result c.image_at_corners.ensures.least c.image_at_corners-2.ensures.least c.join-not_positive.ensures.least)
    c.image_at_corners-3.ensures.least c.join.ensures.least)
