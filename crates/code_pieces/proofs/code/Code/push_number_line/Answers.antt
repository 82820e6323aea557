use Rattle.std.proofs.Common.{rules}
use Rattle.code_pieces.proofs.Growing.{on_extends_as}
use Rattle.code_pieces.proofs.code.Code.push_number_line.Goals as goal

-- src/numbers.rt:54:5
pub returns-in_ok-push_own : goal.returns-in_ok-push_own
returns-in_ok-push_own c =
    on_extends_as _ _ _ _ _ _ _ c.in_ok-push_own.ensures c.push_own-else-near-2.ensures (rw (c.if-near.false, c.upper_of.ensures, c.lower_of.ensures) (search (rules)))
