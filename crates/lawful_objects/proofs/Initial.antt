-- Each value that an object starts with fits its width: an induction over the tree, and item by item.
use Rattle.std.proofs.Common.{◌≡◌, ℕ, ◌+◌, List, [], ◌∷◌, ◌++◌, Bool, true, map, refl, sym, ap, ◌∙◌, subst}
use Rattle.std.specs.Prelude.{ℤ, ◌&&◌, not, ◌||◌, Option, Some, None, length}
use Rattle.std.specs.List.{list_all}
use Rattle.std.proofs.lemmas.List.Folds.{list_all-append}
use Rattle.c_tree.specs.declared.declaration.Decl.{Decl}
use Rattle.c_tree.specs.declared.declaration.Objects.{Objects}
use Rattle.c_tree.specs.declared.function.Function.{Function}
use Rattle.c_tree.specs.declared.function.Param.{Param}
use Rattle.c_tree.specs.declared.program.Item.{Item}
use Rattle.c_tree.specs.declared.program.Item.TheVariants as items
use Rattle.c_tree.specs.declared.program.Program.{Program}
use Rattle.c_tree.specs.declared.statement.Block.{Block, ind-Block, roll-Block, fold_out-Block}
use Rattle.c_tree.specs.declared.statement.Stmt.TheOpen as node
use Rattle.c_tree.specs.declared.statement.Stmt.{Stmt, fold-Stmt, map-Stmt, roll-Stmt, fold-roll-Stmt}
use Rattle.c_tree.specs.declared.statement.Stmt.TheVariants as stmt
use Rattle.c_typed.specs.declared.statement.TypedBlock.{TypedBlock}
use Rattle.c_typed.specs.declared.statement.TypedStmt.{TypedStmt}
use Rattle.c_typed.specs.declared.typed.Typed.{Typed}
use Rattle.operator_meaning.specs.declared.object.Object.{Object}
use Rattle.c_seen.specs.Sources.{seen_in_items, seen_of, end_of}
use Rattle.tied_names.specs.Numbers.{is_exposed}
use Rattle.tied_names.specs.Ties.{Here}
use Rattle.tied_statements.specs.declared.statements.Inside.{Inside}
use Rattle.tied_statements.specs.Declarations.{with_objects, after_declared, after_objects, starts_of, starts_in_lists}
use Rattle.tied_statements.specs.Statements.{Done, tied_statement, tied_block, tied_statements}
use Rattle.tied_statements.proofs.Statement_equations as ties
use Rattle.c_types.specs.Sources.{Source, parameter_of, after_parameter, parameters_of, number_of, after_declaration, inside_of, after_body, after_item, after_items}
use Rattle.c_types.specs.Tied.{IsTyped}
use Rattle.lawful_sources.specs.Objects.{initial_fits, is_parameter}
use Rattle.lawful_laws.proofs.Functions.{both, left, right}
use Rattle.lawful_laws.proofs.Objects.{items-hold}
use Rattle.lawful_laws.proofs.Statements.{earlier}
use Rattle.lawful_names.specs.Spelled.{AllSpelled}
use Rattle.lawful_names.proofs.Faultless.{seen-clean}
use Rattle.lawful_names.proofs.Keeping.{named-objects}
use Rattle.lawful_names.proofs.Shapes.{is_sound, all-sound}
use Rattle.lawful_names.proofs.Sources.{start_of, names_at_start}
use Rattle.lawful_objects.specs.Integers.{declaration_fits, declarations_fit, itself, of_statement, of_block, block_fits, body_fits, item_fits, IntegersFit}
use Rattle.lawful_objects.proofs.Counts.{counts, counts_by, each-counts}
use Rattle.lawful_objects.proofs.Folded.{all_fit, object_fits, declared-fits}

abbrev AllObjectsFit : List Object → Type 0
AllObjectsFit objects = list_all object_fits objects ≡ true

added : (objects : List Object) (one : Object) → AllObjectsFit objects → object_fits one ≡ true → AllObjectsFit (objects ++ one ∷ [])
added objects one p q = list_all-append object_fits objects (one ∷ []) ∙ both (list_all object_fits objects) _ p (both (object_fits one) true q refl)

-- ---- declarations

starts-fit : (here : Here) (function : ℕ) (decls : List Decl) → list_all declaration_fits decls ≡ true → AllObjectsFit here.objects → AllObjectsFit (starts_of here function decls).after.objects
starts-fit here function [] p q = q
starts-fit here function (decl ∷ decls) p q =
    starts-fit (after_declared here (Some function) decl) function decls (right (declaration_fits decl) _ p) (added here.objects _ q (declared-fits decl (Some function) (is_exposed here.exposed (length here.objects)) (left (declaration_fits decl) _ p)))

lists-fit : (here : Here) (function : ℕ) (lists : List Objects) → list_all declarations_fit lists ≡ true → AllObjectsFit here.objects → AllObjectsFit (starts_in_lists here function lists).after.objects
lists-fit here function [] p q = q
lists-fit here function (list ∷ lists) p q =
    lists-fit (starts_of here function list.decls).after function lists (right (declarations_fit list) _ p) (starts-fit here function list.decls (left (declarations_fit list) _ p) q)

outer-fit : (here : Here) (decls : List Decl) → list_all declaration_fits decls ≡ true → AllObjectsFit here.objects → AllObjectsFit (after_objects here decls).objects
outer-fit here [] p q = q
outer-fit here (decl ∷ decls) p q = outer-fit (after_declared here None decl) decls (right (declaration_fits decl) _ p) (added here.objects _ q (declared-fits decl None (is_exposed here.exposed (length here.objects)) (left (declaration_fits decl) _ p)))

parameters-fit : (here : Here) (function : ℕ) (params : List Param) → AllObjectsFit here.objects → AllObjectsFit (parameters_of here function params).after.objects
parameters-fit here function [] q = q
parameters-fit here function (param ∷ params) q =
    parameters-fit (after_parameter here function param) function params
    (subst AllObjectsFit (sym (named-objects here (parameter_of here function param) param.name)) (added here.objects _ q refl))

-- ---- statements

abbrev statement_fits : Stmt → Bool
statement_fits = fold-Stmt Bool Bool of_statement of_block

abbrev StatementFits : Stmt → Type 0
StatementFits x = (here : Here) (inside : Inside) → statement_fits x ≡ true → AllObjectsFit here.objects → AllObjectsFit (tied_statement x here inside).objects

abbrev BlockFits : Block → Type 0
BlockFits x = (here : Here) (inside : Inside) → block_fits x ≡ true → AllObjectsFit here.objects → AllObjectsFit (tied_block x here inside).objects

abbrev SS : Type 0
SS = (x : Stmt) × StatementFits x

abbrev SB : Type 0
SB = (x : Block) × BlockFits x

-- what the definition says of one statement
said : (y : node.Stmt-F Stmt Block) → statement_fits (roll-Stmt y) ≡ of_statement (map-Stmt Stmt Block Bool Bool statement_fits block_fits y)
said y = fold-roll-Stmt Bool Bool of_statement of_block y

step : (x : Stmt) (here : Here) (inside : Inside) (done : Done TypedStmt) (fits : Bool) → tied_statement x here inside ≡ done → statement_fits x ≡ fits → (fits ≡ true → AllObjectsFit done.objects) → statement_fits x ≡ true
    → AllObjectsFit (tied_statement x here inside).objects
step x here inside done fits tied is what p = subst (λ (d : Done TypedStmt). AllObjectsFit d.objects) (sym tied) (what (sym is ∙ p))

on_statement : (y : node.Stmt-F SS SB) → StatementFits (roll-Stmt (map-Stmt SS SB Stmt Block (λ q. q.0) (λ q. q.0) y))
unfolding of_statement
on_statement (node.Empty at) = subst StatementFits (sym (stmt.rolls-Empty at)) (λ here inside p q. step _ here inside _ _ (ties.tied-Empty at here inside) refl (λ r. q) p)
on_statement (node.Block block) = subst StatementFits (sym (stmt.rolls-Block block.0)) (λ here inside p q.
    step _ here inside _ _ (ties.tied-Block block.0 here inside) (ap statement_fits (sym (stmt.rolls-Block block.0)) ∙ said (node.Block block.0)) (λ r. block.1 here inside r q) p)
on_statement (node.Simple s) = subst StatementFits (sym (stmt.rolls-Simple s)) (λ here inside p q. step _ here inside _ _ (ties.tied-Simple s here inside) refl (λ r. q) p)
on_statement (node.If at cond one None) = subst StatementFits (sym (stmt.rolls-If at cond one.0 None)) (λ here inside p q.
    step _ here inside _ _ (ties.tied-Then at cond one.0 here inside) (ap statement_fits (sym (stmt.rolls-If at cond one.0 None)) ∙ said (node.If at cond one.0 None)) (λ r. one.1 here inside (left _ _ r) q) p)
on_statement (node.If at cond one (Some other)) = subst StatementFits (sym (stmt.rolls-If at cond one.0 (Some other.0))) (λ here inside p q.
    step _ here inside _ _ (ties.tied-Else at cond one.0 other.0 here inside) (ap statement_fits (sym (stmt.rolls-If at cond one.0 (Some other.0))) ∙ said (node.If at cond one.0 (Some other.0)))
    (λ r. other.1 (with_objects here (tied_statement one.0 here inside).objects) inside (right (statement_fits one.0) _ r) (one.1 here inside (left (statement_fits one.0) _ r) q)) p)
on_statement (node.While at cond body) = subst StatementFits (sym (stmt.rolls-While at cond body.0)) (λ here inside p q.
    step _ here inside _ _ (ties.tied-While at cond body.0 here inside) (ap statement_fits (sym (stmt.rolls-While at cond body.0)) ∙ said (node.While at cond body.0)) (λ r. body.1 here inside r q) p)
on_statement (node.Do at body cond) = subst StatementFits (sym (stmt.rolls-Do at body.0 cond)) (λ here inside p q.
    step _ here inside _ _ (ties.tied-Do at body.0 cond here inside) (ap statement_fits (sym (stmt.rolls-Do at body.0 cond)) ∙ said (node.Do at body.0 cond)) (λ r. body.1 here inside r q) p)
on_statement (node.For at firsts cond lasts body) = subst StatementFits (sym (stmt.rolls-For at firsts cond lasts body.0)) (λ here inside p q.
    step _ here inside _ _ (ties.tied-For at firsts cond lasts body.0 here inside) (ap statement_fits (sym (stmt.rolls-For at firsts cond lasts body.0)) ∙ said (node.For at firsts cond lasts body.0)) (λ r. body.1 here inside r q) p)
on_statement (node.Break at) = subst StatementFits (sym (stmt.rolls-Break at)) (λ here inside p q. step _ here inside _ _ (ties.tied-Break at here inside) refl (λ r. q) p)
on_statement (node.Continue at) = subst StatementFits (sym (stmt.rolls-Continue at)) (λ here inside p q. step _ here inside _ _ (ties.tied-Continue at here inside) refl (λ r. q) p)
on_statement (node.Return at value) = subst StatementFits (sym (stmt.rolls-Return at value)) (λ here inside p q. step _ here inside _ _ (ties.tied-Return at value here inside) refl (λ r. q) p)

listed : (ys : List SS) (here : Here) (inside : Inside) → list_all itself (map statement_fits (map (λ (q : SS). q.0) ys)) ≡ true → AllObjectsFit here.objects → AllObjectsFit (tied_statements (map (λ (q : SS). q.0) ys) here inside).objects
listed [] here inside p q = q
listed (y ∷ ys) here inside p q = listed ys (with_objects here (tied_statement y.0 here inside).objects) inside (right (statement_fits y.0) _ p) (y.1 here inside (left (statement_fits y.0) _ p) q)

on_block : (y : node.Block-F SS SB) → BlockFits (record { at = y.at; objects = y.objects; stmts = map (λ (q : SS). q.0) y.stmts })
unfolding of_block
on_block y here inside p q =
    let block : Block = record { at = y.at; objects = y.objects; stmts = map (λ (q : SS). q.0) y.stmts } in
    let parts : (list_all declarations_fit y.objects && list_all itself (map statement_fits (map (λ (q : SS). q.0) y.stmts))) ≡ true = sym (fold_out-Block Bool Bool of_statement of_block block) ∙ p in
    subst (λ (d : Done TypedBlock). AllObjectsFit d.objects) (sym (ties.block-parts block here inside))
    (listed y.stmts (starts_in_lists here inside.function y.objects).after inside (right (list_all declarations_fit y.objects) _ parts)
    (lists-fit here inside.function y.objects (left (list_all declarations_fit y.objects) _ parts) q))

block-fits : (x : Block) → BlockFits x
block-fits = ind-Block StatementFits BlockFits
    (λ x y is. subst (λ z. StatementFits (roll-Stmt z)) is (on_statement y))
    (λ x y is. subst (λ z. BlockFits (roll-Block z)) is (on_block y))

-- ---- items

body-fits : (s : Source) (number : ℕ) (g : Function) (body : Option Block) → body_fits body ≡ true → AllObjectsFit s.here.objects → AllObjectsFit (after_body s number g body).here.objects
body-fits s number g None p q = q
body-fits s number g (Some body) p q = block-fits body (parameters_of s.here number g.params).after (inside_of number g) p (parameters-fit s.here number g.params q)

items-fit : (s : Source) (item : ℕ) (list : List Item) → list_all item_fits list ≡ true → AllObjectsFit s.here.objects → AllObjectsFit (after_items s item list).here.objects
items-fit s item [] p q = q
items-fit s item (items.Objects list ∷ rest) p q =
    items-fit (after_item s item (items.Objects list)) (item + 1) rest (right (declarations_fit list) _ p) (outer-fit s.here list.decls (left (declarations_fit list) _ p) q)
items-fit s item (items.Function g ∷ rest) p q =
    items-fit (after_item s item (items.Function g)) (item + 1) rest (right (body_fits g.body) _ p) (body-fits (after_declaration s item g) (number_of s g) g g.body (left (body_fits g.body) _ p) q)
items-fit s item (items.ExternFlag at ∷ rest) p q = items-fit s (item + 1) rest p q

-- ---- the whole source

fit-by : (object : Object) (values : Option (List ℤ)) → counts_by object values ≡ true → all_fit object.width values ≡ true → initial_fits object values ≡ true
fit-by object None p q = p
fit-by object (Some values) p q =
    both _ _ (left (not (object.view || is_parameter object.storage)) _ p) (both _ _ (right (not (object.view || is_parameter object.storage)) _ p) q)

all-fit : (objects : List Object) → list_all counts objects ≡ true → AllObjectsFit objects → list_all (λ object. initial_fits object object.initial) objects ≡ true
all-fit [] p q = refl
all-fit (object ∷ objects) p q =
    both _ _ (fit-by object object.initial (left (counts object) _ p) (left (object_fits object) _ q)) (all-fit objects (right (counts object) _ p) (right (object_fits object) _ q))

pub initial-values-fit : (program : Program) (source : Typed) → AllSpelled program → IntegersFit program → IsTyped program source → list_all (λ object. initial_fits object object.initial) source.objects ≡ true
initial-values-fit program source spelled fits is =
    all-fit source.objects
    (ap (list_all counts) is.tied.objects
    ∙ items-hold is_sound counts each-counts (start_of program source) (names_at_start program) [] 0 program.items
    (earlier is_sound (seen_in_items (names_at_start program) [] 0 program.items) (end_of program ∷ []) (record { all = all-sound (seen_of program) (seen-clean program is.faultless) spelled })) refl)
    (ap (list_all object_fits) is.tied.objects ∙ items-fit (start_of program source) 0 program.items fits refl)
