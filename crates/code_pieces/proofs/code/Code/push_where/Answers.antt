use Rattle.std.proofs.Common.{rules, true, false}
use Rattle.code_pieces.proofs.Growing.{on_extends_as}
use Rattle.code_pieces.proofs.Branches.{over_is}
use Rattle.code_pieces.proofs.code.Code.push_where.Goals as goal

-- src/jumps.rt:108:5
pub returns-in_ok-push_own-in-Middle : goal.returns-in_ok-push_own-in-Middle
returns-in_ok-push_own-in-Middle c =
    on_extends_as _ _ _ _ _ _ _ c.in_ok-push_own-in-Middle.ensures c.push_past.ensures
    (rw (c.in-Middle.is, c.branch_by-in-Middle.ensures, c.opposite.ensures) (search (rules, over_is true c.args.test c.args.pair.first c.args.pair.second c.args.distance)))

-- src/jumps.rt:108:5
pub returns-in_ok-push_own-in-Long : goal.returns-in_ok-push_own-in-Long
returns-in_ok-push_own-in-Long c =
    on_extends_as _ _ _ _ _ _ _ c.in_ok-push_own-in-Long.ensures c.push_past-in-Long.ensures
    (rw (c.in-Long.is, c.branch_by-in-Long.ensures, c.opposite-in-Long.ensures) (search (rules, over_is false c.args.test c.args.pair.first c.args.pair.second c.args.distance)))
