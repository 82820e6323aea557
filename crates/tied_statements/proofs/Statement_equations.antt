-- What the definitions by folds say of each statement, and of lists of them, one more at a time.
use Rattle.std.proofs.Common.{◌≡◌, ℕ, ◌+◌, ◌<◌, ◌≤◌, List, [], ◌∷◌, ◌++◌, get_or, drop, length, refl, sym, ap, ◌∙◌, append_assoc}
use Rattle.std.specs.Prelude.{map, Option, Some, None}
use Rattle.std.proofs.lemmas.List.{append-nil, at_drop_more, at_drop_all}
use Rattle.sat_base.specs.declared.name.At.{At}
use Rattle.c_tree.specs.declared.declaration.Decl.{Decl}
use Rattle.c_tree.specs.declared.declaration.Objects.{Objects}
use Rattle.c_tree.specs.declared.expression.Expr.{Expr}
use Rattle.c_tree.specs.declared.simple.Simple.{Simple}
use Rattle.c_tree.specs.declared.statement.Block.{Block, fold_out-Block}
use Rattle.c_tree.specs.declared.statement.Stmt.TheOpen as node
use Rattle.c_tree.specs.declared.statement.Stmt.{Stmt, fold-roll-Stmt}
use Rattle.c_tree.specs.declared.statement.Stmt.TheVariants as stmt
use Rattle.c_typed.specs.declared.statement.TypedBlock.{TypedBlock}
use Rattle.c_typed.specs.declared.statement.TypedStmt.{TypedStmt}
use Rattle.c_typed.specs.declared.statement.TypedStmt.TheVariants as typed
use Rattle.tied_names.specs.Ties.{Here}
use Rattle.tied_expressions.specs.Expressions.{tied_expression}
use Rattle.tied_statements.specs.declared.statements.Inside.{Inside}
use Rattle.tied_statements.specs.Declarations.{with_objects, start_value, after_declared, after_objects, starts_of, starts_in_lists}
use Rattle.tied_statements.specs.Statements.{Done, Walk, all_of, of_block, of_statement, returned, tied_simple, tied_simples, tied_if_any, tied_statement, tied_block, tied_else, tied_statements}

pub tied-Empty : (at : At) (here : Here) (inside : Inside) → tied_statement (stmt.Empty at) here inside ≡ record { value = typed.Empty at; notes = []; objects = here.objects }
unfolding tied_statement
tied-Empty at here inside = ap (λ (s : Stmt). tied_statement s here inside) (sym (stmt.rolls-Empty at)) ∙ ap (λ (w : Walk TypedStmt). w here inside) (fold-roll-Stmt (Walk TypedStmt) (Walk TypedBlock) of_statement of_block (node.Empty at))

pub tied-Block : (block : Block) (here : Here) (inside : Inside) → tied_statement (stmt.Block block) here inside ≡ record { value = typed.Block (tied_block block here inside).value; notes = (tied_block block here inside).notes; objects = (tied_block block here inside).objects }
unfolding tied_statement tied_block
tied-Block block here inside = ap (λ (s : Stmt). tied_statement s here inside) (sym (stmt.rolls-Block block)) ∙ ap (λ (w : Walk TypedStmt). w here inside) (fold-roll-Stmt (Walk TypedStmt) (Walk TypedBlock) of_statement of_block (node.Block block))

pub tied-Simple : (s : Simple) (here : Here) (inside : Inside) → tied_statement (stmt.Simple s) here inside ≡ record { value = typed.Simple (tied_simple here s).value; notes = (tied_simple here s).notes; objects = here.objects }
unfolding tied_statement
tied-Simple s here inside = ap (λ (s : Stmt). tied_statement s here inside) (sym (stmt.rolls-Simple s)) ∙ ap (λ (w : Walk TypedStmt). w here inside) (fold-roll-Stmt (Walk TypedStmt) (Walk TypedBlock) of_statement of_block (node.Simple s))

pub tied-While : (at : At) (cond : Expr) (body : Stmt) (here : Here) (inside : Inside) → tied_statement (stmt.While at cond body) here inside ≡ record { value = typed.While at (tied_expression cond here).value (tied_statement body here inside).value; notes = (tied_expression cond here).notes ++ (tied_statement body here inside).notes; objects = (tied_statement body here inside).objects }
unfolding tied_statement
tied-While at cond body here inside = ap (λ (s : Stmt). tied_statement s here inside) (sym (stmt.rolls-While at cond body)) ∙ ap (λ (w : Walk TypedStmt). w here inside) (fold-roll-Stmt (Walk TypedStmt) (Walk TypedBlock) of_statement of_block (node.While at cond body))

pub tied-Do : (at : At) (body : Stmt) (cond : Expr) (here : Here) (inside : Inside) → tied_statement (stmt.Do at body cond) here inside ≡ record { value = typed.Do at (tied_statement body here inside).value (tied_expression cond (with_objects here (tied_statement body here inside).objects)).value; notes = (tied_statement body here inside).notes ++ (tied_expression cond (with_objects here (tied_statement body here inside).objects)).notes; objects = (tied_statement body here inside).objects }
unfolding tied_statement
tied-Do at body cond here inside = ap (λ (s : Stmt). tied_statement s here inside) (sym (stmt.rolls-Do at body cond)) ∙ ap (λ (w : Walk TypedStmt). w here inside) (fold-roll-Stmt (Walk TypedStmt) (Walk TypedBlock) of_statement of_block (node.Do at body cond))

pub tied-For : (at : At) (first : List Simple) (cond : Option Expr) (last : List Simple) (body : Stmt) (here : Here) (inside : Inside) → tied_statement (stmt.For at first cond last body) here inside ≡ record { value = typed.For at (tied_simples here first).value (tied_if_any here cond).value (tied_simples here last).value (tied_statement body here inside).value; notes = (tied_simples here first).notes ++ ((tied_if_any here cond).notes ++ ((tied_simples here last).notes ++ (tied_statement body here inside).notes)); objects = (tied_statement body here inside).objects }
unfolding tied_statement
tied-For at first cond last body here inside = ap (λ (s : Stmt). tied_statement s here inside) (sym (stmt.rolls-For at first cond last body)) ∙ ap (λ (w : Walk TypedStmt). w here inside) (fold-roll-Stmt (Walk TypedStmt) (Walk TypedBlock) of_statement of_block (node.For at first cond last body))

pub tied-Break : (at : At) (here : Here) (inside : Inside) → tied_statement (stmt.Break at) here inside ≡ record { value = typed.Break at; notes = []; objects = here.objects }
unfolding tied_statement
tied-Break at here inside = ap (λ (s : Stmt). tied_statement s here inside) (sym (stmt.rolls-Break at)) ∙ ap (λ (w : Walk TypedStmt). w here inside) (fold-roll-Stmt (Walk TypedStmt) (Walk TypedBlock) of_statement of_block (node.Break at))

pub tied-Continue : (at : At) (here : Here) (inside : Inside) → tied_statement (stmt.Continue at) here inside ≡ record { value = typed.Continue at; notes = []; objects = here.objects }
unfolding tied_statement
tied-Continue at here inside = ap (λ (s : Stmt). tied_statement s here inside) (sym (stmt.rolls-Continue at)) ∙ ap (λ (w : Walk TypedStmt). w here inside) (fold-roll-Stmt (Walk TypedStmt) (Walk TypedBlock) of_statement of_block (node.Continue at))

pub tied-Return : (at : At) (value : Option Expr) (here : Here) (inside : Inside) → tied_statement (stmt.Return at value) here inside ≡ record { value = typed.Return at (returned inside.gives (tied_if_any here value).value); notes = (tied_if_any here value).notes; objects = here.objects }
unfolding tied_statement
tied-Return at value here inside = ap (λ (s : Stmt). tied_statement s here inside) (sym (stmt.rolls-Return at value)) ∙ ap (λ (w : Walk TypedStmt). w here inside) (fold-roll-Stmt (Walk TypedStmt) (Walk TypedBlock) of_statement of_block (node.Return at value))

pub tied-Then : (at : At) (cond : Expr) (one : Stmt) (here : Here) (inside : Inside) → tied_statement (stmt.If at cond one None) here inside ≡ record { value = typed.If at (tied_expression cond here).value (tied_statement one here inside).value (tied_else None (with_objects here (tied_statement one here inside).objects) inside).value; notes = (tied_expression cond here).notes ++ ((tied_statement one here inside).notes ++ (tied_else None (with_objects here (tied_statement one here inside).objects) inside).notes); objects = (tied_else None (with_objects here (tied_statement one here inside).objects) inside).objects }
unfolding tied_statement
tied-Then at cond one here inside = ap (λ (s : Stmt). tied_statement s here inside) (sym (stmt.rolls-If at cond one None)) ∙ ap (λ (w : Walk TypedStmt). w here inside) (fold-roll-Stmt (Walk TypedStmt) (Walk TypedBlock) of_statement of_block (node.If at cond one None))

pub tied-Else : (at : At) (cond : Expr) (one other : Stmt) (here : Here) (inside : Inside) → tied_statement (stmt.If at cond one (Some other)) here inside ≡ record { value = typed.If at (tied_expression cond here).value (tied_statement one here inside).value (tied_else (Some other) (with_objects here (tied_statement one here inside).objects) inside).value; notes = (tied_expression cond here).notes ++ ((tied_statement one here inside).notes ++ (tied_else (Some other) (with_objects here (tied_statement one here inside).objects) inside).notes); objects = (tied_else (Some other) (with_objects here (tied_statement one here inside).objects) inside).objects }
unfolding tied_statement
tied-Else at cond one other here inside = ap (λ (s : Stmt). tied_statement s here inside) (sym (stmt.rolls-If at cond one (Some other))) ∙ ap (λ (w : Walk TypedStmt). w here inside) (fold-roll-Stmt (Walk TypedStmt) (Walk TypedBlock) of_statement of_block (node.If at cond one (Some other)))

pub tied-If : (at : At) (cond : Expr) (one : Stmt) (other : Option Stmt) (here : Here) (inside : Inside) → tied_statement (stmt.If at cond one other) here inside ≡ record { value = typed.If at (tied_expression cond here).value (tied_statement one here inside).value (tied_else other (with_objects here (tied_statement one here inside).objects) inside).value; notes = (tied_expression cond here).notes ++ ((tied_statement one here inside).notes ++ (tied_else other (with_objects here (tied_statement one here inside).objects) inside).notes); objects = (tied_else other (with_objects here (tied_statement one here inside).objects) inside).objects }
tied-If at cond one None here inside = tied-Then at cond one here inside
tied-If at cond one (Some other) here inside = tied-Else at cond one other here inside

listed : (stmts : List Stmt) (here : Here) (inside : Inside) → all_of (map tied_statement stmts) here inside ≡ tied_statements stmts here inside
listed [] here inside = refl
listed (s ∷ stmts) here inside =
    ap (λ (more : Done (List TypedStmt)). let whole : Done (List TypedStmt) = record { value = (tied_statement s here inside).value ∷ more.value; notes = (tied_statement s here inside).notes ++ more.notes; objects = more.objects } in whole) (listed stmts (with_objects here (tied_statement s here inside).objects) inside)

pub block-parts : (block : Block) (here : Here) (inside : Inside) → tied_block block here inside ≡ record {
  value = record { at = block.at; objects = (starts_in_lists here inside.function block.objects).value; stmts = (tied_statements block.stmts (starts_in_lists here inside.function block.objects).after inside).value };
  notes = (starts_in_lists here inside.function block.objects).notes ++ (tied_statements block.stmts (starts_in_lists here inside.function block.objects).after inside).notes;
  objects = (tied_statements block.stmts (starts_in_lists here inside.function block.objects).after inside).objects;
}
unfolding tied_block tied_statement
block-parts block here inside = ap (λ (w : Walk TypedBlock). w here inside) (fold_out-Block (Walk TypedStmt) (Walk TypedBlock) of_statement of_block block)
    ∙ ap (λ (more : Done (List TypedStmt)). let whole : Done TypedBlock = record { value = record { at = block.at; objects = (starts_in_lists here inside.function block.objects).value; stmts = more.value }; notes = (starts_in_lists here inside.function block.objects).notes ++ more.notes; objects = more.objects } in whole)
    (listed block.stmts (starts_in_lists here inside.function block.objects).after inside)

-- ---- lists, one more at a time

next : {X Y : Type 0} (F : List X → Y) (xs : List X) (i : ℕ) (x : X) → i < length xs → x ≡ get_or xs i x → F (drop i xs) ≡ F (x ∷ drop (i + 1) xs)
next F xs i x less is = at_drop_more F xs i x less ∙ ap (λ (y : _). F (y ∷ drop (i + 1) xs)) (sym is)

pub statements-next : (here : Here) (inside : Inside) (xs : List Stmt) (i : ℕ) (x : Stmt) → i < length xs → x ≡ get_or xs i x → tied_statements (drop i xs) here inside ≡ record { value = (tied_statement x here inside).value ∷ (tied_statements (drop (i + 1) xs) (with_objects here (tied_statement x here inside).objects) inside).value; notes = (tied_statement x here inside).notes ++ (tied_statements (drop (i + 1) xs) (with_objects here (tied_statement x here inside).objects) inside).notes; objects = (tied_statements (drop (i + 1) xs) (with_objects here (tied_statement x here inside).objects) inside).objects }
statements-next here inside xs i x less is = next (λ (l : List Stmt). tied_statements l here inside) xs i x less is

pub statements-end : (here : Here) (inside : Inside) (xs : List Stmt) (i : ℕ) → length xs ≤ i → tied_statements (drop i xs) here inside ≡ record { value = []; notes = []; objects = here.objects }
statements-end here inside xs i more = at_drop_all (λ (l : List Stmt). tied_statements l here inside) xs i more

pub simples-next : (here : Here) (xs : List Simple) (i : ℕ) (x : Simple) → i < length xs → x ≡ get_or xs i x → tied_simples here (drop i xs) ≡ record { value = (tied_simple here x).value ∷ (tied_simples here (drop (i + 1) xs)).value; notes = (tied_simple here x).notes ++ (tied_simples here (drop (i + 1) xs)).notes }
simples-next here xs i x less is = next (λ (l : List Simple). tied_simples here l) xs i x less is

pub simples-end : (here : Here) (xs : List Simple) (i : ℕ) → length xs ≤ i → tied_simples here (drop i xs) ≡ record { value = []; notes = [] }
simples-end here xs i more = at_drop_all (λ (l : List Simple). tied_simples here l) xs i more

pub objects-next : (here : Here) (xs : List Decl) (i : ℕ) (x : Decl) → i < length xs → x ≡ get_or xs i x → after_objects here (drop i xs) ≡ after_objects (after_declared here None x) (drop (i + 1) xs)
objects-next here xs i x less is = next (λ (l : List Decl). after_objects here l) xs i x less is

pub objects-end : (here : Here) (xs : List Decl) (i : ℕ) → length xs ≤ i → after_objects here (drop i xs) ≡ here
objects-end here xs i more = at_drop_all (λ (l : List Decl). after_objects here l) xs i more

pub starts-next : (here : Here) (function : ℕ) (xs : List Decl) (i : ℕ) (x : Decl) → i < length xs → x ≡ get_or xs i x → starts_of here function (drop i xs) ≡ record { value = record { object = length here.objects; value = (start_value here x).value } ∷ (starts_of (after_declared here (Some function) x) function (drop (i + 1) xs)).value; notes = (start_value here x).notes ++ (starts_of (after_declared here (Some function) x) function (drop (i + 1) xs)).notes; after = (starts_of (after_declared here (Some function) x) function (drop (i + 1) xs)).after }
starts-next here function xs i x less is = next (λ (l : List Decl). starts_of here function l) xs i x less is

pub starts-end : (here : Here) (function : ℕ) (xs : List Decl) (i : ℕ) → length xs ≤ i → starts_of here function (drop i xs) ≡ record { value = []; notes = []; after = here }
starts-end here function xs i more = at_drop_all (λ (l : List Decl). starts_of here function l) xs i more

pub lists-next : (here : Here) (function : ℕ) (xs : List Objects) (i : ℕ) (x : Objects) → i < length xs → x ≡ get_or xs i x → starts_in_lists here function (drop i xs) ≡ record { value = (starts_of here function x.decls).value ++ (starts_in_lists (starts_of here function x.decls).after function (drop (i + 1) xs)).value; notes = (starts_of here function x.decls).notes ++ (starts_in_lists (starts_of here function x.decls).after function (drop (i + 1) xs)).notes; after = (starts_in_lists (starts_of here function x.decls).after function (drop (i + 1) xs)).after }
lists-next here function xs i x less is = next (λ (l : List Objects). starts_in_lists here function l) xs i x less is

pub lists-end : (here : Here) (function : ℕ) (xs : List Objects) (i : ℕ) → length xs ≤ i → starts_in_lists here function (drop i xs) ≡ record { value = []; notes = []; after = here }
lists-end here function xs i more = at_drop_all (λ (l : List Objects). starts_in_lists here function l) xs i more

pub ruleset statements = (append_assoc, append-nil, tied-Empty, tied-Block, tied-Simple, tied-While, tied-Do, tied-For, tied-Break, tied-Continue, tied-Return, tied-If, block-parts, statements-next, statements-end, simples-next, simples-end, objects-next, objects-end, starts-next, starts-end, lists-next, lists-end)
