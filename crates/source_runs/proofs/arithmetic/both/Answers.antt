use Rattle.std.proofs.Common.{◌+ℤ◌, ◌-ℤ◌, ◌*ℤ◌, ◌∙◌}
use Rattle.source_runs.specs.Marks.{within, both_meaning}
use Rattle.source_runs.proofs.Following.{follows-valued}
use Rattle.source_runs.proofs.Numbers.{read_two}
use Rattle.source_runs.proofs.arithmetic.both.Goals as goal

pub returns-in-Plus : goal.returns-in-Plus
unfolding both_meaning
returns-in-Plus c =
    let same = c.sum.ensures ∙ read_two (λ x y. within (x +ℤ y)) _ _ c.ranges.x c.ranges.y in
    rw c.in-Plus.is (λ kept. follows-valued c.args.site _ _ _ kept same c.plain.ensures)

pub returns-in-Minus : goal.returns-in-Minus
unfolding both_meaning
returns-in-Minus c =
    let same = c.difference.ensures ∙ read_two (λ x y. within (x -ℤ y)) _ _ c.ranges.x c.ranges.y in
    rw c.in-Minus.is (λ kept. follows-valued c.args.site _ _ _ kept same c.plain-in-Minus.ensures)

pub returns-in-Times : goal.returns-in-Times
unfolding both_meaning
returns-in-Times c =
    let same = c.product.ensures ∙ read_two (λ x y. within (x *ℤ y)) _ _ c.ranges.x c.ranges.y in
    rw c.in-Times.is (λ kept. follows-valued c.args.site _ _ _ kept same c.plain-in-Times.ensures)
