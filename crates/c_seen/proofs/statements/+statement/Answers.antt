use Rattle.std.proofs.Common.{◌≡◌, List, [], ◌∷◌, ◌++◌, refl, ap, ◌∙◌, append_assoc}
use Rattle.c_seen.specs.declared.seen.Seen.{Seen}
use Rattle.c_seen.specs.Meanings.{names_of}
use Rattle.c_seen.specs.Statements.{seen_in_statement, seen_if_any}
use Rattle.c_seen.proofs.Restored.{restored-lists}
use Rattle.c_seen.proofs.Statements_seen.{sees-If}
use Rattle.c_seen.proofs.statements.+statement.Goals as goal

pub block-returns-clause-names : goal.block-returns-clause-names
block-returns-clause-names t c =
    ap names_of c.leave.ensures
    ∙ restored-lists (names_of c.args.scope.now) c.statements.new.scope c.len-len.result c.args.spot.depth c.as_slice.result.now (c.in_ok-statements.ensures.names ∙ c.in_ok-declarations.ensures.names) c.len-len.ensures

joined : (before cond one other : List Seen) (x : Seen) → before ++ x ∷ [] ++ cond ++ one ++ other ≡ before ++ x ∷ (cond ++ (one ++ other))
joined before cond one other x = simp append_assoc refl

pub statement-returns-in_ok-statement-in-If-clause-seen : goal.statement-returns-in_ok-statement-in-If-clause-seen
statement-returns-in_ok-statement-in-If-clause-seen t c =
    let whole : c.statement.new.seen.items ++ seen_if_any c.in-If.no (names_of c.statement.new.scope) c.args.spot ≡ c.args.seen.now.items ++ seen_in_statement c.args.stmt.now (names_of c.args.scope.now) c.args.spot =
    rw (c.in_ok-statement-in-If.ensures.names, c.in_ok-statement-in-If.ensures.seen, c.in_ok-expression-in-If.ensures, c.in_ok-stands-in-If.ensures, c.get.ensures, c.get-in-If.ensures, c.in-If.is, sees-If c.in-If.at c.in-If.cond c.in-If.yes c.in-If.no (names_of c.args.scope.now) c.args.spot) (joined _ _ _ _ _) in
    rw whole at c.else_if_any.ensures.seen
