-- The objects of a source begin with those that are declared up to a place: declarations and statements add to them.
use Rattle.std.proofs.Common.{◌≡◌, ℕ, List, [], ◌∷◌, ◌++◌, map, length, refl, sym, ap, ◌∙◌, subst, append_assoc}
use Rattle.std.specs.Prelude.{Option, Some, None, slice_get}
use Rattle.std.proofs.lemmas.List.{append-nil}
use Rattle.sat_base.specs.declared.name.Named.{Named}
use Rattle.c_tree.specs.declared.declaration.Decl.{Decl}
use Rattle.c_tree.specs.declared.declaration.Objects.{Objects}
use Rattle.c_tree.specs.declared.function.Param.{Param}
use Rattle.c_tree.specs.declared.statement.Block.{Block, ind-Block, roll-Block}
use Rattle.c_tree.specs.declared.statement.Stmt.TheOpen as node
use Rattle.c_tree.specs.declared.statement.Stmt.{Stmt, ind-Stmt, map-Stmt, roll-Stmt}
use Rattle.c_tree.specs.declared.statement.Stmt.TheVariants as stmt
use Rattle.c_typed.specs.declared.statement.TypedBlock.{TypedBlock}
use Rattle.c_typed.specs.declared.statement.TypedStmt.{TypedStmt}
use Rattle.operator_meaning.specs.declared.object.Object.{Object}
use Rattle.tied_names.specs.Ties.{Here}
use Rattle.tied_statements.specs.declared.statements.Inside.{Inside}
use Rattle.tied_statements.specs.Declarations.{with_objects, after_declared, after_objects, starts_of, starts_in_lists}
use Rattle.tied_statements.specs.Statements.{Done, tied_statement, tied_block, tied_statements}
use Rattle.tied_statements.proofs.Statement_equations as ties
use Rattle.c_types.specs.Sources.{after_named, after_parameter, parameter_of, parameters_of}

pub record Within (objects all : List Object) : Type 0 where
  pub rest : List Object
  pub is : all ≡ objects ++ rest

pub within-itself : (objects : List Object) → Within objects objects
within-itself objects = record { rest = []; is = sym (append-nil objects) }

pub within-more : (objects more all : List Object) → Within objects more → Within more all → Within objects all
within-more objects more all p q = record { rest = p.rest ++ q.rest; is = q.is ∙ ap (λ (l : List Object). l ++ q.rest) p.is ∙ append_assoc objects p.rest q.rest }

pub within-one : (objects : List Object) (one : Object) → Within objects (objects ++ one ∷ [])
within-one objects one = record { rest = one ∷ []; is = refl }

pub at-length : {A : Type 0} (xs : List A) (y : A) (ys : List A) → slice_get (xs ++ y ∷ ys) (length xs) ≡ Some y
at-length [] y ys = refl
at-length (x ∷ xs) y ys = at-length xs y ys

pub stands-last : (objects all : List Object) (one : Object) → Within (objects ++ one ∷ []) all → slice_get all (length objects) ≡ Some one
stands-last objects all one p = ap (λ (l : List Object). slice_get l (length objects)) (p.is ∙ append_assoc objects (one ∷ []) p.rest) ∙ at-length objects one p.rest

-- ---- declarations

pub starts-grow : (here : Here) (function : ℕ) (decls : List Decl) → Within here.objects (starts_of here function decls).after.objects
starts-grow here function [] = within-itself here.objects
starts-grow here function (decl ∷ decls) = within-more _ _ _ (within-one here.objects _) (starts-grow (after_declared here (Some function) decl) function decls)

pub lists-grow : (here : Here) (function : ℕ) (lists : List Objects) → Within here.objects (starts_in_lists here function lists).after.objects
lists-grow here function [] = within-itself here.objects
lists-grow here function (list ∷ lists) = within-more _ _ _ (starts-grow here function list.decls) (lists-grow (starts_of here function list.decls).after function lists)

pub objects-grow : (here : Here) (decls : List Decl) → Within here.objects (after_objects here decls).objects
objects-grow here [] = within-itself here.objects
objects-grow here (decl ∷ decls) = within-more _ _ _ (within-one here.objects _) (objects-grow (after_declared here None decl) decls)

pub named-grows : (here : Here) (one : Object) (name : Option Named) → Within here.objects (after_named here one name).objects
named-grows here one None = within-one here.objects one
named-grows here one (Some name) = within-one here.objects one

pub parameters-grow : (here : Here) (function : ℕ) (params : List Param) → Within here.objects (parameters_of here function params).after.objects
parameters-grow here function [] = within-itself here.objects
parameters-grow here function (param ∷ params) = within-more _ _ _ (named-grows here (parameter_of here function param) param.name) (parameters-grow (after_parameter here function param) function params)

-- ---- statements

abbrev StatementGrows : Stmt → Type 0
StatementGrows x = (here : Here) (inside : Inside) → Within here.objects (tied_statement x here inside).objects

abbrev BlockGrows : Block → Type 0
BlockGrows x = (here : Here) (inside : Inside) → Within here.objects (tied_block x here inside).objects

abbrev SS : Type 0
SS = (x : Stmt) × StatementGrows x

abbrev SB : Type 0
SB = (x : Block) × BlockGrows x

grows-by : (x : Stmt) (here : Here) (inside : Inside) (done : Done TypedStmt) → tied_statement x here inside ≡ done → Within here.objects done.objects → Within here.objects (tied_statement x here inside).objects
grows-by x here inside done tied p = subst (λ (d : Done TypedStmt). Within here.objects d.objects) (sym tied) p

on_statement : (y : node.Stmt-F SS SB) → StatementGrows (roll-Stmt (map-Stmt SS SB Stmt Block (λ q. q.0) (λ q. q.0) y))
on_statement (node.Empty at) = subst StatementGrows (sym (stmt.rolls-Empty at)) (λ here inside. grows-by _ here inside _ (ties.tied-Empty at here inside) (within-itself here.objects))
on_statement (node.Block block) = subst StatementGrows (sym (stmt.rolls-Block block.0)) (λ here inside. grows-by _ here inside _ (ties.tied-Block block.0 here inside) (block.1 here inside))
on_statement (node.Simple s) = subst StatementGrows (sym (stmt.rolls-Simple s)) (λ here inside. grows-by _ here inside _ (ties.tied-Simple s here inside) (within-itself here.objects))
on_statement (node.If at cond one None) = subst StatementGrows (sym (stmt.rolls-If at cond one.0 None)) (λ here inside. grows-by _ here inside _ (ties.tied-Then at cond one.0 here inside) (one.1 here inside))
on_statement (node.If at cond one (Some other)) = subst StatementGrows (sym (stmt.rolls-If at cond one.0 (Some other.0))) (λ here inside.
    grows-by _ here inside _ (ties.tied-Else at cond one.0 other.0 here inside) (within-more _ _ _ (one.1 here inside) (other.1 (with_objects here (tied_statement one.0 here inside).objects) inside)))
on_statement (node.While at cond body) = subst StatementGrows (sym (stmt.rolls-While at cond body.0)) (λ here inside. grows-by _ here inside _ (ties.tied-While at cond body.0 here inside) (body.1 here inside))
on_statement (node.Do at body cond) = subst StatementGrows (sym (stmt.rolls-Do at body.0 cond)) (λ here inside. grows-by _ here inside _ (ties.tied-Do at body.0 cond here inside) (body.1 here inside))
on_statement (node.For at firsts cond lasts body) =
    subst StatementGrows (sym (stmt.rolls-For at firsts cond lasts body.0)) (λ here inside. grows-by _ here inside _ (ties.tied-For at firsts cond lasts body.0 here inside) (body.1 here inside))
on_statement (node.Break at) = subst StatementGrows (sym (stmt.rolls-Break at)) (λ here inside. grows-by _ here inside _ (ties.tied-Break at here inside) (within-itself here.objects))
on_statement (node.Continue at) = subst StatementGrows (sym (stmt.rolls-Continue at)) (λ here inside. grows-by _ here inside _ (ties.tied-Continue at here inside) (within-itself here.objects))
on_statement (node.Return at value) = subst StatementGrows (sym (stmt.rolls-Return at value)) (λ here inside. grows-by _ here inside _ (ties.tied-Return at value here inside) (within-itself here.objects))

listed : (ys : List SS) (here : Here) (inside : Inside) → Within here.objects (tied_statements (map (λ (q : SS). q.0) ys) here inside).objects
listed [] here inside = within-itself here.objects
listed (y ∷ ys) here inside = within-more _ _ _ (y.1 here inside) (listed ys (with_objects here (tied_statement y.0 here inside).objects) inside)

on_block : (y : node.Block-F SS SB) → BlockGrows (record { at = y.at; objects = y.objects; stmts = map (λ (q : SS). q.0) y.stmts })
on_block y here inside =
    let block : Block = record { at = y.at; objects = y.objects; stmts = map (λ (q : SS). q.0) y.stmts } in
    subst (λ (d : Done TypedBlock). Within here.objects d.objects) (sym (ties.block-parts block here inside))
    (within-more _ _ _ (lists-grow here inside.function y.objects) (listed y.stmts (starts_in_lists here inside.function y.objects).after inside))

pub statement-grows : (x : Stmt) → StatementGrows x
statement-grows = ind-Stmt StatementGrows BlockGrows
    (λ x y is. subst (λ z. StatementGrows (roll-Stmt z)) is (on_statement y))
    (λ x y is. subst (λ z. BlockGrows (roll-Block z)) is (on_block y))

pub statements-grow : (list : List Stmt) (here : Here) (inside : Inside) → Within here.objects (tied_statements list here inside).objects
statements-grow [] here inside = within-itself here.objects
statements-grow (x ∷ list) here inside = within-more _ _ _ (statement-grows x here inside) (statements-grow list (with_objects here (tied_statement x here inside).objects) inside)

pub block-grows : (x : Block) → BlockGrows x
block-grows = ind-Block StatementGrows BlockGrows
    (λ x y is. subst (λ z. StatementGrows (roll-Stmt z)) is (on_statement y))
    (λ x y is. subst (λ z. BlockGrows (roll-Block z)) is (on_block y))
