use Rattle.std.proofs.Common.{◌+ℤ◌, ◌-ℤ◌, ◌*ℤ◌, ◌∙◌}
use Rattle.source_runs.specs.Marks.{within, assigned}
use Rattle.source_runs.proofs.Following.{follows-valued}
use Rattle.source_runs.proofs.Numbers.{read_two}
use Rattle.source_runs.proofs.arithmetic.assigned.Goals as goal

pub returns-in-Plus : goal.returns-in-Plus
unfolding assigned
returns-in-Plus c =
    let same = c.sum.ensures ∙ read_two (λ x y. within (x +ℤ y)) _ _ c.ranges.old c.ranges.value in
    rw c.in-Plus.is (λ kept. follows-valued c.args.site _ _ _ kept same c.plain.ensures)

pub returns-in-Minus : goal.returns-in-Minus
unfolding assigned
returns-in-Minus c =
    let same = c.difference.ensures ∙ read_two (λ x y. within (x -ℤ y)) _ _ c.ranges.old c.ranges.value in
    rw c.in-Minus.is (λ kept. follows-valued c.args.site _ _ _ kept same c.plain-in-Minus.ensures)

pub returns-in-Times : goal.returns-in-Times
unfolding assigned
returns-in-Times c =
    let same = c.product.ensures ∙ read_two (λ x y. within (x *ℤ y)) _ _ c.ranges.old c.ranges.value in
    rw c.in-Times.is (λ kept. follows-valued c.args.site _ _ _ kept same c.plain-in-Times.ensures)
