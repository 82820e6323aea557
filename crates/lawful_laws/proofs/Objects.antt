-- What holds of each object, by what is seen of its declaration: inductions over statements, and item by item.
use Rattle.std.proofs.Common.{◌≡◌, ℕ, suc, ◌+◌, List, [], ◌∷◌, ◌++◌, Bool, true, false, map, refl, sym, ap, ◌∙◌, subst, arith}
use Rattle.std.specs.Prelude.{nat_lt, Option, Some, None, length, is_some}
use Rattle.std.specs.List.{list_all}
use Rattle.std.proofs.lemmas.Bool.Decides.{nat_tests}
use Rattle.std.proofs.lemmas.List.Folds.{list_all-append}
use Rattle.sat_base.specs.declared.name.Named.{Named}
use Rattle.c_scopes.specs.Scopes.{Known}
use Rattle.c_tree.specs.declared.declaration.Decl.{Decl}
use Rattle.c_tree.specs.declared.declaration.Objects.{Objects}
use Rattle.c_tree.specs.declared.function.Function.{Function}
use Rattle.c_tree.specs.declared.function.Param.{Param}
use Rattle.c_tree.specs.declared.program.Item.{Item}
use Rattle.c_tree.specs.declared.program.Item.TheVariants as items
use Rattle.c_tree.specs.declared.statement.Block.{Block, ind-Block, roll-Block}
use Rattle.c_tree.specs.declared.statement.Stmt.TheOpen as node
use Rattle.c_tree.specs.declared.statement.Stmt.{Stmt, map-Stmt, roll-Stmt}
use Rattle.c_tree.specs.declared.statement.Stmt.TheVariants as stmt
use Rattle.c_typed.specs.declared.statement.TypedBlock.{TypedBlock}
use Rattle.c_typed.specs.declared.statement.TypedStmt.{TypedStmt}
use Rattle.operator_meaning.specs.declared.object.Object.{Object}
use Rattle.c_seen.specs.declared.functions.Declaration.{Declaration}
use Rattle.c_seen.specs.declared.seen.Seen.{Seen}
use Rattle.c_seen.specs.declared.seen.Seen.TheVariants as seen
use Rattle.c_seen.specs.declared.statements.Spot.{Spot}
use Rattle.c_seen.specs.Declarations as scope
use Rattle.c_seen.specs.Declarations.{object, dimension, initialiser, number_if_any, seen_in_declared, seen_in_objects, seen_in_lists, after_lists, seen_in_parameters, after_parameters}
use Rattle.c_seen.specs.Meanings.{Names, is_taken}
use Rattle.c_seen.specs.Sources.{seen_in_body, seen_in_function, seen_in_items, after_item, functions_after, after_function}
use Rattle.c_seen.specs.Statements.{simples, seen_in_statement, seen_in_block, seen_in_statements}
use Rattle.c_seen.proofs.Statements_seen as sees
use Rattle.tied_names.specs.Numbers.{is_exposed}
use Rattle.tied_names.specs.Ties.{Here}
use Rattle.tied_objects.specs.Objects.{object_of, object_of_parameter}
use Rattle.tied_statements.specs.declared.statements.Inside.{Inside}
use Rattle.tied_statements.specs.Declarations.{with_objects, after_declared, after_objects, starts_of, starts_in_lists}
use Rattle.tied_statements.specs.Statements.{Done, tied_statement, tied_block, tied_statements}
use Rattle.tied_statements.proofs.Statement_equations as ties
use Rattle.c_types.specs.Sources as sources
use Rattle.c_types.specs.Sources.{Source, parameter_of, after_named, after_parameter, parameters_of, number_of, after_declaration, inside_of, after_body, after_items}
use Rattle.lawful_sources.proofs.Passing.{Each}
use Rattle.lawful_laws.proofs.Functions.{both}
use Rattle.lawful_laws.proofs.Statements.{earlier, later, tail, head}

pub deeper : (depth : ℕ) → nat_lt 0 (suc depth) ≡ true
deeper depth = grind (arith, nat_tests)

pub declared-sound : (sound : Seen → Bool) (names : Names) (depth : ℕ) (decl : Decl) → Each sound (seen_in_declared names depth decl) → sound (seen.Object (object decl (nat_lt 0 depth))) ≡ true
declared-sound sound names depth decl p =
    head sound _ _ (tail sound (seen.Name decl.name.at (is_taken names decl.name.name depth false)) _
    (later sound (initialiser names decl decl.init) _ (later sound (dimension names decl.cols) _ (later sound (dimension names decl.rows) _ p))))

-- of an object of a function, of one at file scope, and of a parameter
pub record HoldsOfObjects (sound : Seen → Bool) (holds : Object → Bool) : Type 0 where
  pub inner : (decl : Decl) (function : ℕ) (exposed : Bool) → sound (seen.Object (object decl true)) ≡ true → holds (object_of decl (Some function) exposed) ≡ true
  pub outer : (decl : Decl) (exposed : Bool) → sound (seen.Object (object decl false)) ≡ true → holds (object_of decl None exposed) ≡ true
  pub parameters : (param : Param) (function : ℕ) (exposed : Bool) → holds (object_of_parameter param function exposed) ≡ true

module _ (sound : Seen → Bool) (holds : Object → Bool) (each : HoldsOfObjects sound holds) where
  added : (objects : List Object) (one : Object) → list_all holds objects ≡ true → holds one ≡ true → list_all holds (objects ++ one ∷ []) ≡ true
  added objects one p q = list_all-append holds objects (one ∷ []) ∙ both (list_all holds objects) _ p (both (holds one) true q refl)

  inner-holds : (names : Names) (depth : ℕ) (decl : Decl) (function : ℕ) (exposed : Bool) → nat_lt 0 depth ≡ true → Each sound (seen_in_declared names depth decl) → holds (object_of decl (Some function) exposed) ≡ true
  inner-holds names depth decl function exposed deep p = each.inner decl function exposed (ap (λ (b : Bool). sound (seen.Object (object decl b))) (sym deep) ∙ declared-sound sound names depth decl p)

  starts-hold : (here : Here) (function : ℕ) (names : Names) (depth : ℕ) (decls : List Decl) → nat_lt 0 depth ≡ true → Each sound (seen_in_objects names depth decls)
      → list_all holds here.objects ≡ true → list_all holds (starts_of here function decls).after.objects ≡ true
  starts-hold here function names depth [] deep p q = q
  starts-hold here function names depth (decl ∷ decls) deep p q =
      starts-hold (after_declared here (Some function) decl) function (scope.after_declared names depth decl) depth decls deep
      (later sound (seen_in_declared names depth decl) (seen_in_objects (scope.after_declared names depth decl) depth decls) p)
      (added here.objects _ q (inner-holds names depth decl function (is_exposed here.exposed (length here.objects)) deep
      (earlier sound (seen_in_declared names depth decl) (seen_in_objects (scope.after_declared names depth decl) depth decls) p)))

  lists-hold : (here : Here) (function : ℕ) (names : Names) (depth : ℕ) (lists : List Objects) → nat_lt 0 depth ≡ true → Each sound (seen_in_lists names depth lists)
      → list_all holds here.objects ≡ true → list_all holds (starts_in_lists here function lists).after.objects ≡ true
  lists-hold here function names depth [] deep p q = q
  lists-hold here function names depth (list ∷ lists) deep p q =
      lists-hold (starts_of here function list.decls).after function (scope.after_objects names depth list.decls) depth lists deep
      (later sound (seen_in_objects names depth list.decls) (seen_in_lists (scope.after_objects names depth list.decls) depth lists) p)
      (starts-hold here function names depth list.decls deep (earlier sound (seen_in_objects names depth list.decls) (seen_in_lists (scope.after_objects names depth list.decls) depth lists) p) q)

  -- ---- statements

  abbrev spot : ℕ → Bool → Bool → Spot
  spot depth in_loop gives = record { depth = depth; in_loop = in_loop; gives = gives }

  abbrev StatementHolds : Stmt → Type 0
  StatementHolds x = (here : Here) (inside : Inside) (names : Names) (depth : ℕ) (in_loop gives : Bool) → nat_lt 0 depth ≡ true → list_all holds here.objects ≡ true
      → Each sound (seen_in_statement x names (spot depth in_loop gives)) → list_all holds (tied_statement x here inside).objects ≡ true

  abbrev BlockHolds : Block → Type 0
  BlockHolds x = (here : Here) (inside : Inside) (names : Names) (depth : ℕ) (in_loop gives : Bool) → nat_lt 0 depth ≡ true → list_all holds here.objects ≡ true
      → Each sound (seen_in_block x names (spot depth in_loop gives)) → list_all holds (tied_block x here inside).objects ≡ true

  abbrev SS : Type 0
  SS = (x : Stmt) × StatementHolds x

  abbrev SB : Type 0
  SB = (x : Block) × BlockHolds x

  step : (x : Stmt) (here : Here) (inside : Inside) (names : Names) (depth : ℕ) (in_loop gives : Bool) (done : Done TypedStmt) (list : List Seen)
      → tied_statement x here inside ≡ done → seen_in_statement x names (spot depth in_loop gives) ≡ list → (Each sound list → list_all holds done.objects ≡ true)
      → Each sound (seen_in_statement x names (spot depth in_loop gives)) → list_all holds (tied_statement x here inside).objects ≡ true
  step x here inside names depth in_loop gives done list tied sees what p =
      ap (λ (d : Done TypedStmt). list_all holds d.objects) tied ∙ what (subst (λ (l : List Seen). Each sound l) sees p)

  on_statement : (y : node.Stmt-F SS SB) → StatementHolds (roll-Stmt (map-Stmt SS SB Stmt Block (λ q. q.0) (λ q. q.0) y))
  on_statement (node.Empty at) = subst StatementHolds (sym (stmt.rolls-Empty at)) (λ here inside names depth in_loop gives deep q.
      step _ here inside names depth in_loop gives _ _ (ties.tied-Empty at here inside) (sees.sees-Empty at names _) (λ p. q))
  on_statement (node.Block block) = subst StatementHolds (sym (stmt.rolls-Block block.0)) (λ here inside names depth in_loop gives deep q.
      step _ here inside names depth in_loop gives _ _ (ties.tied-Block block.0 here inside) (sees.sees-Block block.0 names _)
      (λ p. block.1 here inside names (suc depth) in_loop gives (deeper depth) q (tail sound _ _ p)))
  on_statement (node.Simple s) = subst StatementHolds (sym (stmt.rolls-Simple s)) (λ here inside names depth in_loop gives deep q.
      step _ here inside names depth in_loop gives _ _ (ties.tied-Simple s here inside) (sees.sees-Simple s names _) (λ p. q))
  on_statement (node.If at cond one None) = subst StatementHolds (sym (stmt.rolls-If at cond one.0 None)) (λ here inside names depth in_loop gives deep q.
      step _ here inside names depth in_loop gives _ _ (ties.tied-Then at cond one.0 here inside) (sees.sees-If at cond one.0 None names _)
      (λ p. one.1 here inside names depth in_loop gives deep q (earlier sound _ _ (later sound _ _ (tail sound _ _ p)))))
  on_statement (node.If at cond one (Some other)) = subst StatementHolds (sym (stmt.rolls-If at cond one.0 (Some other.0))) (λ here inside names depth in_loop gives deep q.
      step _ here inside names depth in_loop gives _ _ (ties.tied-Else at cond one.0 other.0 here inside) (sees.sees-If at cond one.0 (Some other.0) names _)
      (λ p. other.1 (with_objects here (tied_statement one.0 here inside).objects) inside names depth in_loop gives deep
      (one.1 here inside names depth in_loop gives deep q (earlier sound _ _ (later sound _ _ (tail sound _ _ p)))) (later sound _ _ (later sound _ _ (tail sound _ _ p)))))
  on_statement (node.While at cond body) = subst StatementHolds (sym (stmt.rolls-While at cond body.0)) (λ here inside names depth in_loop gives deep q.
      step _ here inside names depth in_loop gives _ _ (ties.tied-While at cond body.0 here inside) (sees.sees-While at cond body.0 names _)
      (λ p. body.1 here inside names depth true gives deep q (later sound _ _ (tail sound _ _ p))))
  on_statement (node.Do at body cond) = subst StatementHolds (sym (stmt.rolls-Do at body.0 cond)) (λ here inside names depth in_loop gives deep q.
      step _ here inside names depth in_loop gives _ _ (ties.tied-Do at body.0 cond here inside) (sees.sees-Do at body.0 cond names _)
      (λ p. body.1 here inside names depth true gives deep q (earlier sound _ _ (tail sound _ _ p))))
  on_statement (node.For at firsts cond lasts body) = subst StatementHolds (sym (stmt.rolls-For at firsts cond lasts body.0)) (λ here inside names depth in_loop gives deep q.
      step _ here inside names depth in_loop gives _ _ (ties.tied-For at firsts cond lasts body.0 here inside) (sees.sees-For at firsts cond lasts body.0 names _)
      (λ p. body.1 here inside names depth true gives deep q (later sound (simples names lasts) _ (later sound (number_if_any names cond) _ (later sound (simples names firsts) _ (tail sound _ _ p))))))
  on_statement (node.Break at) = subst StatementHolds (sym (stmt.rolls-Break at)) (λ here inside names depth in_loop gives deep q.
      step _ here inside names depth in_loop gives _ _ (ties.tied-Break at here inside) (sees.sees-Break at names _) (λ p. q))
  on_statement (node.Continue at) = subst StatementHolds (sym (stmt.rolls-Continue at)) (λ here inside names depth in_loop gives deep q.
      step _ here inside names depth in_loop gives _ _ (ties.tied-Continue at here inside) (sees.sees-Continue at names _) (λ p. q))
  on_statement (node.Return at value) = subst StatementHolds (sym (stmt.rolls-Return at value)) (λ here inside names depth in_loop gives deep q.
      step _ here inside names depth in_loop gives _ _ (ties.tied-Return at value here inside) (sees.sees-Return at value names _) (λ p. q))

  listed : (ys : List SS) (here : Here) (inside : Inside) (names : Names) (depth : ℕ) (in_loop gives : Bool) → nat_lt 0 depth ≡ true → list_all holds here.objects ≡ true
      → Each sound (seen_in_statements (map (λ (q : SS). q.0) ys) names (spot depth in_loop gives)) → list_all holds (tied_statements (map (λ (q : SS). q.0) ys) here inside).objects ≡ true
  listed [] here inside names depth in_loop gives deep q p = q
  listed (y ∷ ys) here inside names depth in_loop gives deep q p =
      listed ys (with_objects here (tied_statement y.0 here inside).objects) inside names depth in_loop gives deep (y.1 here inside names depth in_loop gives deep q (earlier sound _ _ p)) (later sound _ _ p)

  on_block : (y : node.Block-F SS SB) → BlockHolds (record { at = y.at; objects = y.objects; stmts = map (λ (q : SS). q.0) y.stmts })
  on_block y here inside names depth in_loop gives deep q p =
      let block : Block = record { at = y.at; objects = y.objects; stmts = map (λ (q : SS). q.0) y.stmts } in
      let parts : Each sound (seen_in_lists names depth y.objects ++ seen_in_statements (map (λ (q : SS). q.0) y.stmts) (after_lists names depth y.objects) (spot depth in_loop gives)) =
      subst (λ (l : List Seen). Each sound l) (sees.block-parts block names (spot depth in_loop gives)) p in
      ap (λ (d : Done TypedBlock). list_all holds d.objects) (ties.block-parts block here inside)
      ∙ listed y.stmts (starts_in_lists here inside.function y.objects).after inside (after_lists names depth y.objects) depth in_loop gives deep
      (lists-hold here inside.function names depth y.objects deep (earlier sound (seen_in_lists names depth y.objects) _ parts) q) (later sound (seen_in_lists names depth y.objects) _ parts)

  block-holds : (x : Block) → BlockHolds x
  block-holds = ind-Block StatementHolds BlockHolds
      (λ x y is. subst (λ z. StatementHolds (roll-Stmt z)) is (on_statement y))
      (λ x y is. subst (λ z. BlockHolds (roll-Block z)) is (on_block y))

  -- ---- items

  outer-hold : (here : Here) (names : Names) (decls : List Decl) → Each sound (seen_in_objects names 0 decls) → list_all holds here.objects ≡ true → list_all holds (after_objects here decls).objects ≡ true
  outer-hold here names [] p q = q
  outer-hold here names (decl ∷ decls) p q =
      outer-hold (after_declared here None decl) (scope.after_declared names 0 decl) decls
      (later sound (seen_in_declared names 0 decl) (seen_in_objects (scope.after_declared names 0 decl) 0 decls) p)
      (added here.objects _ q (each.outer decl (is_exposed here.exposed (length here.objects)) (declared-sound sound names 0 decl (earlier sound (seen_in_declared names 0 decl) (seen_in_objects (scope.after_declared names 0 decl) 0 decls) p))))

  named-holds : (here : Here) (one : Object) (name : Option Named) → list_all holds here.objects ≡ true → holds one ≡ true → list_all holds (after_named here one name).objects ≡ true
  named-holds here one None p q = added here.objects one p q
  named-holds here one (Some name) p q = added here.objects one p q

  parameters-hold : (here : Here) (function : ℕ) (params : List Param) → list_all holds here.objects ≡ true → list_all holds (parameters_of here function params).after.objects ≡ true
  parameters-hold here function [] q = q
  parameters-hold here function (param ∷ params) q =
      parameters-hold (after_parameter here function param) function params
      (named-holds here (parameter_of here function param) param.name q (each.parameters param function (is_exposed here.exposed (length here.objects))))

  body-holds : (s : Source) (number : ℕ) (function : Function) (body : Option Block) (names : Names) → Each sound (seen_in_body names function body)
      → list_all holds s.here.objects ≡ true → list_all holds (after_body s number function body).here.objects ≡ true
  body-holds s number function None names p q = q
  body-holds s number function (Some body) names p q =
      block-holds body (parameters_of s.here number function.params).after (inside_of number function) names 1 false (is_some function.gives) refl
      (parameters-hold s.here number function.params q) p

  pub items-hold : (s : Source) (names : Names) (before : List (Known Declaration)) (item : ℕ) (list : List Item) → Each sound (seen_in_items names before item list)
      → list_all holds s.here.objects ≡ true → list_all holds (after_items s item list).here.objects ≡ true
  items-hold s names before item [] p q = q
  items-hold s names before item (items.Objects list ∷ rest) p q =
      let more : List Seen = seen_in_items (after_item names item (items.Objects list)) (functions_after names.items before item (items.Objects list)) (item + 1) rest in
      items-hold (sources.after_item s item (items.Objects list)) (after_item names item (items.Objects list)) before (item + 1) rest (later sound (seen_in_objects names 0 list.decls) more p)
      (outer-hold s.here names list.decls (earlier sound (seen_in_objects names 0 list.decls) more p) q)
  items-hold s names before item (items.Function function ∷ rest) p q =
      let more : List Seen = seen_in_items (after_item names item (items.Function function)) (functions_after names.items before item (items.Function function)) (item + 1) rest in
      let own : Names = after_function names item function in
      let body : Each sound (seen_in_body (after_parameters own function.params) function function.body) =
      later sound (seen_in_parameters own (is_some function.body) function.params) (seen_in_body (after_parameters own function.params) function function.body)
      (tail sound _ _ (tail sound _ _ (earlier sound (seen_in_function names before item function) more p))) in
      items-hold (sources.after_item s item (items.Function function)) (after_item names item (items.Function function)) (functions_after names.items before item (items.Function function)) (item + 1) rest
      (later sound (seen_in_function names before item function) more p)
      (body-holds (after_declaration s item function) (number_of s function) function function.body (after_parameters own function.params) body q)
  items-hold s names before item (items.ExternFlag at ∷ rest) p q = items-hold s names before (item + 1) rest p q
