use Rattle.std.proofs.Common.{rules}
use Rattle.code_pieces.proofs.Growing.{on_appends_own, on_appends_same, on_own_appends}
use Rattle.expression_words.proofs.emission.Emission.site.Goals as goal

-- src/expression.rt:78:5
pub returns : goal.returns
returns c =
    on_appends_same _ _ _ _ _ _ (on_own_appends _ _ _ _ _ _ _ c.in_ok-fetched.ensures (on_appends_own _ _ _ _ _ _ _ c.in_ok-push_site.ensures c.finished.ensures))
    (rw (c.site_registers.ensures.registers, c.operand_count-count.ensures) (search (rules)))
