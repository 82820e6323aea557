use Rattle.std.proofs.Common.{rules}
use Rattle.code_pieces.proofs.Growing.{on_extends_as}
use Rattle.code_pieces.proofs.code.Code.push_store.Goals as goal

-- src/memory.rt:35:5
pub returns : goal.returns
returns c =
    on_extends_as _ _ _ _ _ _ _ c.in_ok-push_own.ensures c.push_own-3.ensures (rw (c.if-slot-lt4096.false, c.upper_of.ensures, c.lower_of.ensures, c.in_ok-address.ensures) (search (rules)))
