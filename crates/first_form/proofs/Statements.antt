-- Statements and the whole source: what is found is the first form, and it is found wherever there is one.
use Rattle.std.proofs.Common.{◌≡◌, ◌==◌, true, false, Bool, ◌&&◌, List, [], ◌∷◌, length, map, Option, Some, None, codes, refl, sym, ap, subst, ◌∙◌, inl, inr, arith}
use Rattle.std.specs.Str.{bytes_eq}
use Rattle.std.proofs.lemmas.Bool.{cases_Bool, cond-true, cond-false}
use Rattle.std.proofs.lemmas.Bool.Decides.{nat_tests}
use Rattle.std.proofs.lemmas.Int.{ints}
use Rattle.std.proofs.lemmas.Option.{none-some, same_Some}
use Rattle.std.proofs.lemmas.Slice.Eq.{bytes_eq-Decides}
use Rattle.sat_base.specs.declared.width.Width.{Width}
use Rattle.sat_base.specs.declared.width.Width.TheVariants.{W16, W32}
use Rattle.c_tree.specs.declared.call.Arg.{Arg}
use Rattle.c_tree.specs.declared.expression.ExprKind.{ExprKind, Int as Number}
use Rattle.c_tree.specs.declared.function.Function.{Function}
use Rattle.c_tree.specs.declared.program.Item.{Item}
use Rattle.c_tree.specs.declared.program.Item.TheVariants as items
use Rattle.c_tree.specs.declared.simple.Simple.TheVariants as simple
use Rattle.c_tree.specs.declared.statement.Block.{Block}
use Rattle.c_tree.specs.declared.statement.Stmt.{Stmt, Simple as SimpleStmt, Return}
use Rattle.first_form.specs.declared.first.First.{First}
use Rattle.first_form.specs.declared.first.FirstExpr.{FirstExpr}
use Rattle.first_form.specs.Form.{IsOnlyArgument, IsOut, IsZero, IsReturn, AreStatements, HasBody, IsBody, IsMain, IsOnlyItem}
use Rattle.first_form.specs.Laws.{IsFirstAtMostOnce}
use Rattle.first_form.specs.Finding.{◌>>=◌, argument_of, only, out_of_call, out_of, is_zero, returns_zero, body_of, block_of, is_32, is_main, function_of, items_of}
use Rattle.first_form.proofs.Expressions.{bind_some, argument_sound, argument_complete}

-- ---- statements that write

only_sound : (args : List Arg) (e : FirstExpr) → only (map argument_of args) ≡ Some e → IsOnlyArgument args e
only_sound [] e h = absurd (none-some e h)
only_sound (arg ∷ []) e h = argument_sound arg e h
only_sound (arg ∷ next ∷ more) e h = absurd (none-some e h)

only_complete : (args : List Arg) (e : FirstExpr) → IsOnlyArgument args e → only (map argument_of args) ≡ Some e
only_complete (arg ∷ []) e h = argument_complete arg e h
only_complete args e h = absurd h

out_sound : (stmt : Stmt) (e : FirstExpr) → out_of stmt ≡ Some e → IsOut stmt e
unfolding out_of_call
out_sound (SimpleStmt (simple.Call call)) e h =
    elim (cases_Bool (bytes_eq call.name.name (codes "sample_out"))) [
      | inl is ↦
          let found = sym (cond-true _ (only (map argument_of call.args)) None is) ∙ h in
          ((bytes_eq-Decides call.name.name (codes "sample_out")).0 is, only_sound call.args e found)
      | inr not ↦ absurd (none-some e (sym (cond-false _ (only (map argument_of call.args)) None not) ∙ h))
    ]
out_sound stmt e h = absurd (none-some e h)

out_complete : (stmt : Stmt) (e : FirstExpr) → IsOut stmt e → out_of stmt ≡ Some e
unfolding out_of_call
out_complete (SimpleStmt (simple.Call call)) e h =
    cond-true _ (only (map argument_of call.args)) None ((bytes_eq-Decides call.name.name (codes "sample_out")).1 h.0) ∙ only_complete call.args e h.1
out_complete stmt e h = absurd h

-- ---- the statement that returns

zero_sound : (kind : ExprKind) → is_zero kind ≡ true → IsZero kind
zero_sound (Number n) h = grind (arith, ints)
zero_sound kind h = absurd cc

zero_complete : (kind : ExprKind) → IsZero kind → is_zero kind ≡ true
zero_complete (Number n) h = grind (arith, ints)
zero_complete kind h = absurd h

return_sound : (stmt : Stmt) → returns_zero stmt ≡ true → IsReturn stmt
return_sound (Return at (Some value)) h = zero_sound value.kind h
return_sound stmt h = absurd cc

return_complete : (stmt : Stmt) → IsReturn stmt → returns_zero stmt ≡ true
return_complete (Return at (Some value)) h = zero_complete value.kind h
return_complete stmt h = absurd h

-- ---- bodies

body_sound : (stmts : List Stmt) (es : List FirstExpr) → body_of stmts ≡ Some es → AreStatements stmts es
unfolding body_of
body_sound [] es h = absurd (none-some es h)
body_sound (stmt ∷ []) es h =
    elim (cases_Bool (returns_zero stmt)) [
      | inl is ↦ subst (AreStatements (stmt ∷ [])) (same_Some [] es (sym (cond-true _ (Some []) None is) ∙ h)) (return_sound stmt is)
      | inr not ↦ absurd (none-some es (sym (cond-false _ (Some []) None not) ∙ h))
    ]
body_sound (stmt ∷ next ∷ more) es h =
    let one = bind_some (out_of stmt) _ es h in
    let others = bind_some (body_of (next ∷ more)) _ es one.2 in
    let all : AreStatements (stmt ∷ next ∷ more) (one.0 ∷ others.0) = (out_sound stmt one.0 one.1, body_sound (next ∷ more) others.0 others.1) in
    subst (AreStatements (stmt ∷ next ∷ more)) (same_Some (one.0 ∷ others.0) es others.2) all

body_complete : (stmts : List Stmt) (es : List FirstExpr) → AreStatements stmts es → body_of stmts ≡ Some es
unfolding body_of
body_complete [] es h = absurd h
body_complete (stmt ∷ []) [] h = cond-true _ (Some []) None (return_complete stmt h)
body_complete (stmt ∷ []) (e ∷ es) h = absurd h.1
body_complete (stmt ∷ next ∷ more) [] h = absurd h
body_complete (stmt ∷ next ∷ more) (e ∷ es) h =
    let one = out_complete stmt e h.0 in
    let others = body_complete (next ∷ more) es h.1 in
    ap (λ (o : Option FirstExpr). o >>= (λ x. body_of (next ∷ more) >>= (λ xs. Some (x ∷ xs)))) one ∙ ap (λ (o : Option (List FirstExpr)). o >>= (λ xs. Some (e ∷ xs))) others

-- ---- functions

none_listed : {A : Type 0} (xs : List A) → (length xs == 0) ≡ true → xs ≡ []
none_listed [] h = refl
none_listed (x ∷ xs) h = absurd (grind (arith, nat_tests))

block_sound : (block : Block) (es : List FirstExpr) → block_of block ≡ Some es → IsBody block es
unfolding block_of
block_sound block es h =
    elim (cases_Bool (length block.objects == 0)) [
      | inl is ↦ record { objects = none_listed block.objects is; statements = body_sound block.stmts es (sym (cond-true _ (body_of block.stmts) None is) ∙ h) }
      | inr not ↦ absurd (none-some es (sym (cond-false _ (body_of block.stmts) None not) ∙ h))
    ]

block_complete : (block : Block) (es : List FirstExpr) → IsBody block es → block_of block ≡ Some es
unfolding block_of
block_complete block es h =
    let is : (length block.objects == 0) ≡ true = ap (λ (xs : List _). length xs == 0) h.objects in
    cond-true _ (body_of block.stmts) None is ∙ body_complete block.stmts es h.statements

gives_32 : (gives : Option Width) → is_32 gives ≡ true → gives ≡ Some W32
gives_32 (Some W32) h = refl
gives_32 (Some W16) h = absurd cc
gives_32 None h = absurd cc

both_true : (a b : Bool) → (a && b) ≡ true → (a ≡ true) × (b ≡ true)
both_true true b h = (refl, h)
both_true false b h = absurd cc

function_sound : (function : Function) (es : List FirstExpr) → function_of function ≡ Some es → IsMain function es
unfolding function_of is_main
function_sound function es h =
    elim (cases_Bool (is_main function)) [
      | inl is ↦
          let a = both_true (bytes_eq function.name.name (codes "main")) _ is in
          let b = both_true (is_32 function.gives) _ a.1 in
          record {
            named = (bytes_eq-Decides function.name.name (codes "main")).0 a.0;
            gives = gives_32 function.gives b.0;
            params = none_listed function.params b.1;
            body = held function.body (sym (cond-true _ (function.body >>= block_of) None is) ∙ h);
          }
      | inr not ↦ absurd (none-some es (sym (cond-false _ (function.body >>= block_of) None not) ∙ h))
    ] where
      held : (body : Option Block) → (body >>= block_of) ≡ Some es → HasBody body es
      held (Some block) e = block_sound block es e
      held None e = absurd (none-some es e)

function_complete : (function : Function) (es : List FirstExpr) → IsMain function es → function_of function ≡ Some es
unfolding function_of is_main
function_complete function es h =
    let named : bytes_eq function.name.name (codes "main") ≡ true = (bytes_eq-Decides function.name.name (codes "main")).1 h.named in
    let gives : is_32 function.gives ≡ true = ap is_32 h.gives in
    let params : (length function.params == 0) ≡ true = ap (λ (xs : List _). length xs == 0) h.params in
    let is : is_main function ≡ true = rw (named, gives, params) refl in
    cond-true _ (function.body >>= block_of) None is ∙ held function.body h.body where
      held : (body : Option Block) → HasBody body es → (body >>= block_of) ≡ Some es
      held (Some block) e = block_complete block es e
      held None e = absurd e

-- ---- the whole source

pub items_sound : (list : List Item) (es : List FirstExpr) → items_of list ≡ Some es → IsOnlyItem list es
unfolding items_of
items_sound (items.Function function ∷ []) es h = function_sound function es h
items_sound list es h = absurd (none-some es h)

pub items_complete : (list : List Item) (es : List FirstExpr) → IsOnlyItem list es → items_of list ≡ Some es
unfolding items_of
items_complete (items.Function function ∷ []) es h = function_complete function es h
items_complete list es h = absurd h

pub at_most_one : IsFirstAtMostOnce
at_most_one program p q one other =
    let same : p.outs ≡ q.outs = same_Some p.outs q.outs (sym (items_complete program.items p.outs one) ∙ items_complete program.items q.outs other) in
    ap (λ (es : List FirstExpr). let first : First = record { outs = es } in first) same
