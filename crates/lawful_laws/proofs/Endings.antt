-- A body surely returns exactly where it does once its names are tied: an induction over the tree.
use Rattle.std.proofs.Common.{◌≡◌, List, [], ◌∷◌, Bool, true, false, map, refl, sym, ap, ◌∙◌, subst}
use Rattle.std.specs.Prelude.{not, ◌&&◌, ◌||◌, Option, Some, None}
use Rattle.sat_base.specs.declared.name.At.{At}
use Rattle.c_tree.specs.declared.call.Arg.{Arg}
use Rattle.c_tree.specs.declared.call.Arg.TheOpen as node
use Rattle.c_tree.specs.declared.call.Call.{Call}
use Rattle.c_tree.specs.declared.expression.Expr.{Expr}
use Rattle.c_tree.specs.declared.expression.ExprKind.{ExprKind, ind-ExprKind, map-ExprKind, roll-ExprKind}
use Rattle.c_tree.specs.declared.expression.ExprKind.TheVariants as kind
use Rattle.c_tree.specs.declared.place.Place.{Place}
use Rattle.c_tree.specs.declared.statement.Block.{Block, ind-Block, roll-Block}
use Rattle.c_tree.specs.declared.statement.Stmt.TheOpen as layer
use Rattle.c_tree.specs.declared.statement.Stmt.{Stmt, map-Stmt, roll-Stmt}
use Rattle.c_tree.specs.declared.statement.Stmt.TheVariants as stmt
use Rattle.c_typed.specs.declared.expression.TypedExpr.{TypedExpr}
use Rattle.c_typed.specs.declared.expression.TypedExprKind.{TypedExprKind}
use Rattle.c_typed.specs.declared.simple.TypedSimple.{TypedSimple}
use Rattle.c_typed.specs.declared.statement.TypedBlock.{TypedBlock}
use Rattle.c_typed.specs.declared.statement.TypedStmt.{TypedStmt}
use Rattle.c_typed.specs.declared.statement.TypedStmt.TheOpen as inner
use Rattle.c_typed.specs.declared.statement.TypedStmt.TheFolds.{fold-TypedStmt, fold-roll-TypedStmt, fold_out-TypedBlock}
use Rattle.c_typed.specs.declared.statement.TypedStmt.TheVariants as typed
use Rattle.constant_expressions.specs.Returning as tree
use Rattle.constant_expressions.specs.Returning.{statement_returns, has_own_break, returns_in, any_breaks}
use Rattle.constant_expressions.proofs.Returned.{breaks-Block, breaks-If, breaks-Else, returns-Block, returns-If, returns-Else, returns-While, returns-For}
use Rattle.tied_names.specs.Ties.{Here}
use Rattle.tied_expressions.specs.Expressions.{tied_expression, tied_kind}
use Rattle.tied_expressions.specs.Sites.{Tied}
use Rattle.tied_expressions.proofs.Tied_equations as said
use Rattle.tied_statements.specs.declared.statements.Inside.{Inside}
use Rattle.tied_statements.specs.Declarations.{with_objects, starts_in_lists}
use Rattle.tied_statements.specs.Statements.{Done, tied_if_any, tied_statement, tied_block, tied_statements}
use Rattle.tied_statements.proofs.Statement_equations as ties
use Rattle.lawful_sources.specs.Returns.{Ending, some_returns, some_breaks, is_nonzero, is_endless, branches, loop, of_statement, of_block, ending_of}

-- ---- what the definition says of each statement

abbrev pub ending_in : TypedStmt → Ending
ending_in = fold-TypedStmt Ending Ending of_statement of_block

ends-Empty : (at : At) → ending_in (typed.Empty at) ≡ of_statement (inner.Empty at)
ends-Empty at = ap ending_in (sym (typed.rolls-Empty at)) ∙ fold-roll-TypedStmt Ending Ending of_statement of_block (inner.Empty at)

ends-Block : (block : TypedBlock) → ending_in (typed.Block block) ≡ of_statement (inner.Block (ending_of block))
ends-Block block = ap ending_in (sym (typed.rolls-Block block)) ∙ fold-roll-TypedStmt Ending Ending of_statement of_block (inner.Block block)

ends-Simple : (simple : TypedSimple) → ending_in (typed.Simple simple) ≡ of_statement (inner.Simple simple)
ends-Simple simple = ap ending_in (sym (typed.rolls-Simple simple)) ∙ fold-roll-TypedStmt Ending Ending of_statement of_block (inner.Simple simple)

ends-While : (at : At) (cond : TypedExpr) (body : TypedStmt) → ending_in (typed.While at cond body) ≡ of_statement (inner.While at cond (ending_in body))
ends-While at cond body = ap ending_in (sym (typed.rolls-While at cond body)) ∙ fold-roll-TypedStmt Ending Ending of_statement of_block (inner.While at cond body)

ends-Do : (at : At) (body : TypedStmt) (cond : TypedExpr) → ending_in (typed.Do at body cond) ≡ of_statement (inner.Do at (ending_in body) cond)
ends-Do at body cond = ap ending_in (sym (typed.rolls-Do at body cond)) ∙ fold-roll-TypedStmt Ending Ending of_statement of_block (inner.Do at body cond)

ends-For : (at : At) (first : List TypedSimple) (cond : Option TypedExpr) (last : List TypedSimple) (body : TypedStmt) → ending_in (typed.For at first cond last body) ≡ of_statement (inner.For at first cond last (ending_in body))
ends-For at first cond last body = ap ending_in (sym (typed.rolls-For at first cond last body)) ∙ fold-roll-TypedStmt Ending Ending of_statement of_block (inner.For at first cond last body)

ends-Break : (at : At) → ending_in (typed.Break at) ≡ of_statement (inner.Break at)
ends-Break at = ap ending_in (sym (typed.rolls-Break at)) ∙ fold-roll-TypedStmt Ending Ending of_statement of_block (inner.Break at)

ends-Continue : (at : At) → ending_in (typed.Continue at) ≡ of_statement (inner.Continue at)
ends-Continue at = ap ending_in (sym (typed.rolls-Continue at)) ∙ fold-roll-TypedStmt Ending Ending of_statement of_block (inner.Continue at)

ends-Return : (at : At) (value : Option TypedExpr) → ending_in (typed.Return at value) ≡ of_statement (inner.Return at value)
ends-Return at value = ap ending_in (sym (typed.rolls-Return at value)) ∙ fold-roll-TypedStmt Ending Ending of_statement of_block (inner.Return at value)

ends-Then : (at : At) (cond : TypedExpr) (this : TypedStmt) → ending_in (typed.If at cond this None) ≡ of_statement (inner.If at cond (ending_in this) None)
ends-Then at cond this = ap ending_in (sym (typed.rolls-If at cond this None)) ∙ fold-roll-TypedStmt Ending Ending of_statement of_block (inner.If at cond this None)

ends-Else : (at : At) (cond : TypedExpr) (this : TypedStmt) (other : TypedStmt) → ending_in (typed.If at cond this (Some other)) ≡ of_statement (inner.If at cond (ending_in this) (Some (ending_in other)))
ends-Else at cond this other = ap ending_in (sym (typed.rolls-If at cond this (Some other))) ∙ fold-roll-TypedStmt Ending Ending of_statement of_block (inner.If at cond this (Some other))

ends-block : (block : TypedBlock) → ending_of block ≡ of_block (record { at = block.at; objects = block.objects; stmts = map ending_in block.stmts })
ends-block block = fold_out-TypedBlock Ending Ending of_statement of_block block

-- ---- conditions

abbrev KindStays : ExprKind → Type 0
KindStays inside = (here : Here) → is_nonzero (tied_kind inside here).value ≡ tree.is_nonzero inside

abbrev SA : Type 0
SA = (x : Arg) × Unit {0}

abbrev SK : Type 0
SK = (x : ExprKind) × KindStays x

abbrev SP : Type 0
SP = (x : Place) × Unit {0}

abbrev SC : Type 0
SC = (x : Call) × Unit {0}

abbrev SE : Type 0
SE = (x : Expr) × Unit {0}

as-kind : (inside : ExprKind) (here : Here) (t : Tied TypedExprKind) → tied_kind inside here ≡ t → is_nonzero t.value ≡ tree.is_nonzero inside → is_nonzero (tied_kind inside here).value ≡ tree.is_nonzero inside
as-kind inside here t is p = ap (λ (t : Tied TypedExprKind). is_nonzero t.value) is ∙ p

on_kind : (y : node.ExprKind-F SA SK SP SC SE) → KindStays (roll-ExprKind (map-ExprKind SA SK SP SC SE Arg ExprKind Place Call Expr (λ q. q.0) (λ q. q.0) (λ q. q.0) (λ q. q.0) (λ q. q.0) y))
on_kind (node.Int value) = subst KindStays (sym (kind.rolls-Int value)) (λ here. as-kind _ here _ (said.tied-Int value here) refl)
on_kind (node.Read named) = subst KindStays (sym (kind.rolls-Read named.0)) (λ here. as-kind _ here _ (said.tied-Read named.0 here) refl)
on_kind (node.ReadOverflow word_at) = subst KindStays (sym (kind.rolls-ReadOverflow word_at)) (λ here. as-kind _ here _ (said.tied-ReadOverflow word_at here) refl)
on_kind (node.Unary mark mark_at part) = subst KindStays (sym (kind.rolls-Unary mark mark_at part.0)) (λ here. as-kind _ here _ (said.tied-Unary mark mark_at part.0 here) refl)
on_kind (node.Binary mark mark_at one other) = subst KindStays (sym (kind.rolls-Binary mark mark_at one.0 other.0)) (λ here. as-kind _ here _ (said.tied-Binary mark mark_at one.0 other.0 here) refl)
on_kind (node.Cast width part) = subst KindStays (sym (kind.rolls-Cast width part.0)) (λ here. as-kind _ here _ (said.tied-Cast width part.0 here) refl)
on_kind (node.Choose cond one other) = subst KindStays (sym (kind.rolls-Choose cond.0 one.0 other.0)) (λ here. as-kind _ here _ (said.tied-Choose cond.0 one.0 other.0 here) refl)
on_kind (node.Call call) = subst KindStays (sym (kind.rolls-Call call.0)) (λ here. as-kind _ here _ (said.tied-Call call.0 here) refl)

kind-stays : (inside : ExprKind) → KindStays inside
kind-stays = ind-ExprKind (λ x. Unit {0}) KindStays (λ x. Unit {0}) (λ x. Unit {0}) (λ x. Unit {0})
    (λ x y is. tt) (λ x y is. subst (λ z. KindStays (roll-ExprKind z)) is (on_kind y)) (λ x y is. tt) (λ x y is. tt) (λ x y is. tt)

endless-stays : (cond : Expr) (here : Here) → is_endless (Some (tied_expression cond here).value) ≡ tree.is_endless cond
endless-stays cond here = ap (λ (t : Tied TypedExpr). is_endless (Some t.value)) (said.tied-expression cond here) ∙ kind-stays cond.kind here

condition-stays : (cond : Option Expr) (here : Here) → is_endless (tied_if_any here cond).value ≡ tree.condition_is_endless cond
condition-stays None here = refl
condition-stays (Some cond) here = endless-stays cond here

-- ---- the induction

abbrev ends : Bool → Bool → Ending
ends returns breaks = record { returns = returns; breaks = breaks }

pair : (a b c d : Bool) → a ≡ b → c ≡ d → ends a c ≡ ends b d
pair a b c d p q = ap (λ (x : Bool). ends x c) p ∙ ap (λ (x : Bool). ends b x) q

and-false : (b : Bool) → (b && false) ≡ false
and-false true = refl
and-false false = refl

or-false : (b : Bool) → (b || false) ≡ b
or-false true = refl
or-false false = refl

abbrev EndsAlike : Stmt → Type 0
EndsAlike x = (here : Here) (inside : Inside) → ending_in (tied_statement x here inside).value ≡ ends (statement_returns x) (has_own_break x)

abbrev BlockEnds : Block → Type 0
BlockEnds x = (here : Here) (inside : Inside) → ending_of (tied_block x here inside).value ≡ ends (returns_in x) (any_breaks x.stmts)

abbrev SS : Type 0
SS = (x : Stmt) × EndsAlike x

abbrev SB : Type 0
SB = (x : Block) × BlockEnds x

step : (x : Stmt) (here : Here) (inside : Inside) (done : Done TypedStmt) (e : Ending) → tied_statement x here inside ≡ done → ending_in done.value ≡ e → e ≡ ends (statement_returns x) (has_own_break x)
    → ending_in (tied_statement x here inside).value ≡ ends (statement_returns x) (has_own_break x)
step x here inside done e tied stands same = ap (λ (d : Done TypedStmt). ending_in d.value) tied ∙ stands ∙ same

loops : (one other whole : Bool) (e : Ending) (breaks returns : Bool) → one ≡ other → e ≡ ends returns breaks → whole ≡ (other && not breaks) → loop one e ≡ ends whole false
loops one other whole e breaks returns p q r = ap (λ (b : Bool). loop b e) p ∙ ap (loop other) q ∙ pair _ _ _ _ (sym r) refl

on_statement : (y : layer.Stmt-F SS SB) → EndsAlike (roll-Stmt (map-Stmt SS SB Stmt Block (λ q. q.0) (λ q. q.0) y))
unfolding of_statement
on_statement (layer.Empty at) = subst EndsAlike (sym (stmt.rolls-Empty at)) (λ here inside. step _ here inside _ _ (ties.tied-Empty at here inside) (ends-Empty at) refl)
on_statement (layer.Block block) = subst EndsAlike (sym (stmt.rolls-Block block.0)) (λ here inside. step _ here inside _ _ (ties.tied-Block block.0 here inside) (ends-Block _)
    (block.1 here inside ∙ pair _ _ _ _ (sym (returns-Block block.0)) (sym (breaks-Block block.0))))
on_statement (layer.Simple s) = subst EndsAlike (sym (stmt.rolls-Simple s)) (λ here inside. step _ here inside _ _ (ties.tied-Simple s here inside) (ends-Simple _) refl)
on_statement (layer.If at cond one None) = subst EndsAlike (sym (stmt.rolls-If at cond one.0 None)) (λ here inside. step _ here inside _ _ (ties.tied-Then at cond one.0 here inside) (ends-Then at _ _)
    (ap (λ (e : Ending). branches e None) (one.1 here inside)
    ∙ pair _ _ _ _ (sym (returns-If at cond one.0 ∙ and-false (statement_returns one.0))) (sym (breaks-If at cond one.0 ∙ or-false (has_own_break one.0)))))
on_statement (layer.If at cond one (Some other)) = subst EndsAlike (sym (stmt.rolls-If at cond one.0 (Some other.0))) (λ here inside. step _ here inside _ _ (ties.tied-Else at cond one.0 other.0 here inside) (ends-Else at _ _ _)
    (ap (λ (e : Ending). branches e (Some (ending_in (tied_statement other.0 (with_objects here (tied_statement one.0 here inside).objects) inside).value))) (one.1 here inside)
    ∙ ap (λ (e : Ending). branches (ends (statement_returns one.0) (has_own_break one.0)) (Some e)) (other.1 (with_objects here (tied_statement one.0 here inside).objects) inside)
    ∙ pair _ _ _ _ (sym (returns-Else at cond one.0 other.0)) (sym (breaks-Else at cond one.0 other.0))))
on_statement (layer.While at cond body) = subst EndsAlike (sym (stmt.rolls-While at cond body.0)) (λ here inside. step _ here inside _ _ (ties.tied-While at cond body.0 here inside) (ends-While at _ _)
    (loops _ _ _ _ _ _ (endless-stays cond here) (body.1 here inside) (returns-While at cond body.0)))
on_statement (layer.Do at body cond) = subst EndsAlike (sym (stmt.rolls-Do at body.0 cond)) (λ here inside. step _ here inside _ _ (ties.tied-Do at body.0 cond here inside) (ends-Do at _ _) refl)
on_statement (layer.For at firsts cond lasts body) = subst EndsAlike (sym (stmt.rolls-For at firsts cond lasts body.0)) (λ here inside. step _ here inside _ _ (ties.tied-For at firsts cond lasts body.0 here inside) (ends-For at _ _ _ _)
    (loops _ _ _ _ _ _ (condition-stays cond here) (body.1 here inside) (returns-For at firsts cond lasts body.0)))
on_statement (layer.Break at) = subst EndsAlike (sym (stmt.rolls-Break at)) (λ here inside. step _ here inside _ _ (ties.tied-Break at here inside) (ends-Break at) refl)
on_statement (layer.Continue at) = subst EndsAlike (sym (stmt.rolls-Continue at)) (λ here inside. step _ here inside _ _ (ties.tied-Continue at here inside) (ends-Continue at) refl)
on_statement (layer.Return at value) = subst EndsAlike (sym (stmt.rolls-Return at value)) (λ here inside. step _ here inside _ _ (ties.tied-Return at value here inside) (ends-Return at _) refl)

listed-returns : (ys : List SS) (here : Here) (inside : Inside) → some_returns (map ending_in (tied_statements (map (λ (q : SS). q.0) ys) here inside).value) ≡ tree.some_returns (map (λ (q : SS). q.0) ys)
listed-returns [] here inside = refl
listed-returns (y ∷ ys) here inside =
    ap (λ (e : Ending). e.returns || some_returns (map ending_in (tied_statements (map (λ (q : SS). q.0) ys) (with_objects here (tied_statement y.0 here inside).objects) inside).value)) (y.1 here inside)
    ∙ ap (λ (b : Bool). statement_returns y.0 || b) (listed-returns ys (with_objects here (tied_statement y.0 here inside).objects) inside)

listed-breaks : (ys : List SS) (here : Here) (inside : Inside) → some_breaks (map ending_in (tied_statements (map (λ (q : SS). q.0) ys) here inside).value) ≡ any_breaks (map (λ (q : SS). q.0) ys)
listed-breaks [] here inside = refl
listed-breaks (y ∷ ys) here inside =
    ap (λ (e : Ending). e.breaks || some_breaks (map ending_in (tied_statements (map (λ (q : SS). q.0) ys) (with_objects here (tied_statement y.0 here inside).objects) inside).value)) (y.1 here inside)
    ∙ ap (λ (b : Bool). has_own_break y.0 || b) (listed-breaks ys (with_objects here (tied_statement y.0 here inside).objects) inside)

on_block : (y : layer.Block-F SS SB) → BlockEnds (record { at = y.at; objects = y.objects; stmts = map (λ (q : SS). q.0) y.stmts })
unfolding of_block
on_block y here inside =
    let block : Block = record { at = y.at; objects = y.objects; stmts = map (λ (q : SS). q.0) y.stmts } in
    ap (λ (d : Done TypedBlock). ending_of d.value) (ties.block-parts block here inside)
    ∙ ends-block _
    ∙ pair _ _ _ _ (listed-returns y.stmts (starts_in_lists here inside.function y.objects).after inside) (listed-breaks y.stmts (starts_in_lists here inside.function y.objects).after inside)

pub block-ends : (x : Block) → BlockEnds x
block-ends = ind-Block EndsAlike BlockEnds
    (λ x y is. subst (λ z. EndsAlike (roll-Stmt z)) is (on_statement y))
    (λ x y is. subst (λ z. BlockEnds (roll-Block z)) is (on_block y))
