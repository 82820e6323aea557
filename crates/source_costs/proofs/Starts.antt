-- The objects of a block cost no more than their declarations.
use Rattle.std.proofs.Common.{◌≡◌, ℕ, ◌+◌, ◌*◌, ◌≤◌, true, false, List, [], ◌∷◌, ◌++◌, length, inl, inr, refl, arith}
use Rattle.std.specs.Prelude.{Option, Some, None}
use Rattle.std.proofs.lemmas.Bool.{cases_Bool}
use Rattle.c_tree.specs.declared.declaration.Decl.{Decl}
use Rattle.c_tree.specs.declared.declaration.Init.{Init}
use Rattle.c_tree.specs.declared.declaration.Init.TheVariants as init
use Rattle.c_tree.specs.declared.declaration.Objects.{Objects}
use Rattle.c_typed.specs.declared.call.TypedArg.{TypedArg}
use Rattle.c_typed.specs.declared.statement.Start.{Start}
use Rattle.typed_meaning.specs.Statements.{option_of}
use Rattle.ir_arena.specs.Costs.{object_words, passing_words, cost_of, costs_of}
use Rattle.ir_arena.specs.Tree.{IrTree, trees_from}
use Rattle.source_trees.specs.Expressions.{TreeSetting, argument_tree}
use Rattle.source_trees.specs.Statements.{started, starts_in}
use Rattle.source_costs.specs.Costs.{total, cost_of_initialiser, cost_of_declared, cost_of_objects}
use Rattle.tied_names.specs.Ties.{Here}
use Rattle.tied_statements.specs.Declarations.{asked_by, start_value, after_declared, starts_of, starts_in_lists}
use Rattle.source_costs.proofs.Expressions.{argument_costs}

module _ (trees : TreeSetting) where
  -- the start of an object, where it has a value to start with
  abbrev value_cost : Option TypedArg → ℕ
  value_cost None = 0
  value_cost (Some value) = passing_words + cost_of (argument_tree trees value)

  -- objects, and their starts
  abbrev pub start_costs : List Start → ℕ
  start_costs [] = 0
  start_costs (start ∷ starts) = object_words + value_cost start.value + start_costs starts

  started_cost : (object : ℕ) (value : Option TypedArg) (rest : List IrTree)
      → costs_of (trees_from (started object (option_of (argument_tree trees) value) rest)) ≡ value_cost value + costs_of (trees_from rest)
  started_cost object None rest = omega arith
  started_cost object (Some value) rest = omega arith

  pub starts_cost : (starts : List Start) → length starts * object_words + costs_of (trees_from (starts_in trees starts)) ≡ start_costs starts
  starts_cost [] = omega arith
  starts_cost (start ∷ starts) = omega (arith, started_cost start.object start.value (starts_in trees starts), starts_cost starts)

  append_costs : (xs ys : List Start) → start_costs (xs ++ ys) ≡ start_costs xs + start_costs ys
  append_costs [] ys = omega arith
  append_costs (x ∷ xs) ys = omega (arith, append_costs xs ys)

  -- ---- one declaration

  static_costs : (here : Here) (decl : Decl) → decl.is_static ≡ true → value_cost (start_value here decl).value ≤ passing_words + cost_of_initialiser decl.init
  static_costs here decl is = rw is (omega arith)

  moving_costs : (here : Here) (decl : Decl) (start : Init) → decl.is_static ≡ false → decl.init ≡ start → value_cost (start_value here decl).value ≤ passing_words + cost_of_initialiser start
  moving_costs here decl init.Nothing is from = rw (is, from) (omega arith)
  moving_costs here decl (init.One arg) is from = rw (is, from) (omega (arith, argument_costs trees arg here (asked_by decl)))
  moving_costs here decl (init.Flat values) is from = rw (is, from) (omega arith)
  moving_costs here decl (init.Rows rows) is from = rw (is, from) (omega arith)

  declared_costs : (here : Here) (decl : Decl) → object_words + value_cost (start_value here decl).value ≤ cost_of_declared decl
  declared_costs here decl =
      elim (cases_Bool decl.is_static) [
        | inl is ↦ omega (arith, static_costs here decl is)
        | inr is ↦ omega (arith, moving_costs here decl decl.init is refl)
      ]

  -- ---- all declarations of a block

  line_costs : (here : Here) (function : ℕ) (decls : List Decl) → start_costs (starts_of here function decls).value ≤ total cost_of_declared decls
  line_costs here function [] = omega arith
  line_costs here function (decl ∷ decls) = omega (arith, declared_costs here decl, line_costs (after_declared here (Some function) decl) function decls)

  pub lines_cost : (here : Here) (function : ℕ) (lists : List Objects) → start_costs (starts_in_lists here function lists).value ≤ total cost_of_objects lists
  lines_cost here function [] = omega arith
  lines_cost here function (list ∷ lists) =
      let first = starts_of here function list.decls in
      omega (arith, append_costs first.value (starts_in_lists first.after function lists).value, line_costs here function list.decls, lines_cost first.after function lists)
