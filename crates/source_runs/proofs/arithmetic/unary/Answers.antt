use Rattle.std.proofs.Common.{◌∙◌}
use Rattle.std.specs.Prelude.{neg_ℤ}
use Rattle.source_runs.specs.Marks.{within, unary_meaning}
use Rattle.source_runs.proofs.Following.{follows-valued}
use Rattle.source_runs.proofs.Numbers.{read_one}
use Rattle.source_runs.proofs.arithmetic.unary.Goals as goal

pub returns-in-Minus : goal.returns-in-Minus
unfolding unary_meaning
returns-in-Minus c =
    let same = c.opposite.ensures ∙ read_one (λ x. within (neg_ℤ x)) _ c.ranges.x in
    rw c.in-Minus.is (λ kept. follows-valued c.args.site _ _ _ kept same c.plain.ensures)
