-- No function is seen in a block: an induction over statements.
use Rattle.std.proofs.Common.{◌≡◌, ℕ, List, [], ◌∷◌, true, map, refl, sym, subst}
use Rattle.std.specs.Prelude.{flat_map, Option, Some, None}
use Rattle.c_tree.specs.declared.declaration.Decl.{Decl}
use Rattle.c_tree.specs.declared.declaration.Init.{Init}
use Rattle.c_tree.specs.declared.declaration.Init.TheVariants as init
use Rattle.c_tree.specs.declared.declaration.Objects.{Objects}
use Rattle.c_tree.specs.declared.declaration.Row.{Row}
use Rattle.c_tree.specs.declared.expression.Expr.{Expr}
use Rattle.c_tree.specs.declared.function.Function.{Function}
use Rattle.c_tree.specs.declared.simple.Simple.{Simple}
use Rattle.c_tree.specs.declared.simple.Simple.TheVariants as simple
use Rattle.c_tree.specs.declared.statement.Block.{Block, ind-Block, roll-Block}
use Rattle.c_tree.specs.declared.statement.Stmt.TheOpen as node
use Rattle.c_tree.specs.declared.statement.Stmt.{Stmt, map-Stmt, roll-Stmt}
use Rattle.c_tree.specs.declared.statement.Stmt.TheVariants as stmt
use Rattle.c_seen.specs.declared.seen.Need.TheVariants as needs
use Rattle.c_seen.specs.declared.seen.Seen.{Seen}
use Rattle.c_seen.specs.declared.statements.Spot.{Spot}
use Rattle.c_seen.specs.Declarations as scope
use Rattle.c_seen.specs.Declarations.{initialiser, number, numbers, row, number_if_any, seen_in_declared, seen_in_objects, seen_in_lists, after_lists}
use Rattle.c_seen.specs.Meanings.{Names}
use Rattle.c_seen.specs.Sources.{body_spot, seen_in_body}
use Rattle.c_seen.specs.Statements.{seen_in_simple, simples, seen_in_statement, seen_in_block, seen_in_statements}
use Rattle.c_seen.proofs.Statements_seen as sees
use Rattle.lawful_sources.proofs.Passing.{Each, none, next, joined}
use Rattle.lawful_names.proofs.NoFunctions.{is_inner, Inner, same, place-inner, call-inner, argument-inner, number-inner, number-if-any, dimension-inner}

simple-inner : (names : Names) (x : Simple) → Inner (seen_in_simple names x)
simple-inner names (simple.Assign at place mark mark_at value) = joined is_inner _ _ (place-inner place names _ needs.Target) (number-inner names value)
simple-inner names (simple.Step at place up mark_at) = place-inner place names _ needs.Target
simple-inner names (simple.SetOverflow at value) = number-inner names value
simple-inner names (simple.Call call) = call-inner call names needs.Nothing

simples-inner : (names : Names) (list : List Simple) → Inner (simples names list)
simples-inner names [] = none is_inner
simples-inner names (x ∷ list) = joined is_inner _ _ (simple-inner names x) (simples-inner names list)

numbers-inner : (names : Names) (values : List Expr) → Inner (numbers names values)
numbers-inner names [] = none is_inner
numbers-inner names (x ∷ values) = joined is_inner _ _ (number-inner names x) (numbers-inner names values)

rows-inner : (names : Names) (rows : List Row) → Inner (flat_map (row names) rows)
rows-inner names [] = none is_inner
rows-inner names (r ∷ rows) = joined is_inner _ _ (numbers-inner names r.values) (rows-inner names rows)

initialiser-inner : (names : Names) (decl : Decl) (start : Init) → Inner (initialiser names decl start)
initialiser-inner names decl init.Nothing = none is_inner
initialiser-inner names decl (init.One arg) = argument-inner arg names _
initialiser-inner names decl (init.Flat values) = numbers-inner names values
initialiser-inner names decl (init.Rows rows) = rows-inner names rows

declared-inner : (names : Names) (depth : ℕ) (decl : Decl) → Inner (seen_in_declared names depth decl)
declared-inner names depth decl =
    joined is_inner _ _ (dimension-inner names decl.rows) (joined is_inner _ _ (dimension-inner names decl.cols) (joined is_inner _ _ (initialiser-inner names decl decl.init) (next is_inner _ _ refl (next is_inner _ [] refl (none is_inner)))))

objects-inner : (names : Names) (depth : ℕ) (decls : List Decl) → Inner (seen_in_objects names depth decls)
objects-inner names depth [] = none is_inner
objects-inner names depth (decl ∷ decls) = joined is_inner _ _ (declared-inner names depth decl) (objects-inner (scope.after_declared names depth decl) depth decls)

lists-inner : (names : Names) (depth : ℕ) (lists : List Objects) → Inner (seen_in_lists names depth lists)
lists-inner names depth [] = none is_inner
lists-inner names depth (list ∷ lists) = joined is_inner _ _ (objects-inner names depth list.decls) (lists-inner (scope.after_objects names depth list.decls) depth lists)

-- ---- the induction

abbrev StatementInner : Stmt → Type 0
StatementInner x = (names : Names) (spot : Spot) → Inner (seen_in_statement x names spot)

abbrev BlockInner : Block → Type 0
BlockInner x = (names : Names) (spot : Spot) → Inner (seen_in_block x names spot)

abbrev SS : Type 0
SS = (x : Stmt) × StatementInner x

abbrev SB : Type 0
SB = (x : Block) × BlockInner x

one-more : (s : Seen) (list : List Seen) → is_inner s ≡ true → Inner list → Inner (s ∷ list)
one-more s list p q = next is_inner s list p q

on_statement : (y : node.Stmt-F SS SB) → StatementInner (roll-Stmt (map-Stmt SS SB Stmt Block (λ q. q.0) (λ q. q.0) y))
on_statement (node.Empty at) = subst StatementInner (sym (stmt.rolls-Empty at)) (λ names spot. same _ _ (sees.sees-Empty at names spot) (one-more _ [] refl (none is_inner)))
on_statement (node.Block block) = subst StatementInner (sym (stmt.rolls-Block block.0)) (λ names spot. same _ _ (sees.sees-Block block.0 names spot) (one-more _ _ refl (block.1 names _)))
on_statement (node.Simple s) = subst StatementInner (sym (stmt.rolls-Simple s)) (λ names spot. same _ _ (sees.sees-Simple s names spot) (one-more _ _ refl (simple-inner names s)))
on_statement (node.If at cond one None) = subst StatementInner (sym (stmt.rolls-If at cond one.0 None)) (λ names spot.
    same _ _ (sees.sees-If at cond one.0 None names spot) (one-more _ _ refl (joined is_inner _ _ (number-inner names cond) (joined is_inner _ _ (one.1 names spot) (none is_inner)))))
on_statement (node.If at cond one (Some other)) = subst StatementInner (sym (stmt.rolls-If at cond one.0 (Some other.0))) (λ names spot.
    same _ _ (sees.sees-If at cond one.0 (Some other.0) names spot) (one-more _ _ refl (joined is_inner _ _ (number-inner names cond) (joined is_inner _ _ (one.1 names spot) (other.1 names spot)))))
on_statement (node.While at cond body) = subst StatementInner (sym (stmt.rolls-While at cond body.0)) (λ names spot.
    same _ _ (sees.sees-While at cond body.0 names spot) (one-more _ _ refl (joined is_inner _ _ (number-inner names cond) (body.1 names _))))
on_statement (node.Do at body cond) = subst StatementInner (sym (stmt.rolls-Do at body.0 cond)) (λ names spot.
    same _ _ (sees.sees-Do at body.0 cond names spot) (one-more _ _ refl (joined is_inner _ _ (body.1 names _) (number-inner names cond))))
on_statement (node.For at firsts cond lasts body) = subst StatementInner (sym (stmt.rolls-For at firsts cond lasts body.0)) (λ names spot.
    same _ _ (sees.sees-For at firsts cond lasts body.0 names spot)
    (one-more _ _ refl (joined is_inner _ _ (simples-inner names firsts) (joined is_inner _ _ (number-if-any names cond) (joined is_inner _ _ (simples-inner names lasts) (body.1 names _))))))
on_statement (node.Break at) = subst StatementInner (sym (stmt.rolls-Break at)) (λ names spot. same _ _ (sees.sees-Break at names spot) (one-more _ _ refl (one-more _ [] refl (none is_inner))))
on_statement (node.Continue at) = subst StatementInner (sym (stmt.rolls-Continue at)) (λ names spot. same _ _ (sees.sees-Continue at names spot) (one-more _ _ refl (one-more _ [] refl (none is_inner))))
on_statement (node.Return at value) = subst StatementInner (sym (stmt.rolls-Return at value)) (λ names spot. same _ _ (sees.sees-Return at value names spot) (one-more _ _ refl (one-more _ _ refl (number-if-any names value))))

listed : (ys : List SS) (names : Names) (spot : Spot) → Inner (seen_in_statements (map (λ (q : SS). q.0) ys) names spot)
listed [] names spot = none is_inner
listed (y ∷ ys) names spot = joined is_inner _ _ (y.1 names spot) (listed ys names spot)

on_block : (y : node.Block-F SS SB) → BlockInner (record { at = y.at; objects = y.objects; stmts = map (λ (q : SS). q.0) y.stmts })
on_block y names spot =
    let block : Block = record { at = y.at; objects = y.objects; stmts = map (λ (q : SS). q.0) y.stmts } in
    same _ _ (sees.block-parts block names spot) (joined is_inner _ _ (lists-inner names spot.depth y.objects) (listed y.stmts (after_lists names spot.depth y.objects) spot))

block-inner : (x : Block) → BlockInner x
block-inner = ind-Block StatementInner BlockInner
    (λ x y is. subst (λ z. StatementInner (roll-Stmt z)) is (on_statement y))
    (λ x y is. subst (λ z. BlockInner (roll-Block z)) is (on_block y))

pub body-inner : (names : Names) (g : Function) (body : Option Block) → Each is_inner (seen_in_body names g body)
body-inner names g None = none is_inner
body-inner names g (Some body) = block-inner body names (body_spot g)
