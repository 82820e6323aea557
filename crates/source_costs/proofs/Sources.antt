-- The trees of all functions of a source, item by item.
use Rattle.std.proofs.Common.{◌≡◌, ℕ, zero, suc, ◌+◌, ◌*◌, ◌≤◌, List, [], ◌∷◌, ◌++◌, length, refl, inl, inr, arith}
use Rattle.std.specs.Prelude.{nat_lt, slice_set, Option, Some, None}
use Rattle.std.proofs.lemmas.Bool.{cases_Bool}
use Rattle.c_tree.specs.declared.function.Function.{Function}
use Rattle.c_tree.specs.declared.function.Param.{Param}
use Rattle.c_tree.specs.declared.program.Item.{Item}
use Rattle.c_tree.specs.declared.program.Item.TheVariants as items
use Rattle.c_tree.specs.declared.statement.Block.{Block}
use Rattle.c_typed.specs.declared.statement.TypedBlock.{TypedBlock}
use Rattle.c_typed.specs.declared.typed.TypedFunction.{TypedFunction}
use Rattle.ir_arena.specs.Costs.{function_words, parameter_words, cost_of, cost_of_functions}
use Rattle.ir_arena.specs.Tree.{TreeFunction}
use Rattle.source_trees.specs.Expressions.{TreeSetting}
use Rattle.source_trees.specs.Statements.{block_tree}
use Rattle.source_costs.specs.Costs.{total, cost_if_any, cost_of_block, cost_of_function, cost_of_item}
use Rattle.tied_names.specs.Ties.{Here, tie_of}
use Rattle.c_types.specs.Sources.{Source, function_number, functions_or, declared, defined, defining, number_of, after_declaration, after_parameter, parameters_of, inside_of, body_of, after_body, after_item, after_items}
use Rattle.source_costs.specs.Trees.{with_tree, function_trees}
use Rattle.source_costs.proofs.Statements.{block_costs}

parameters_counted : (here : Here) (number : ℕ) (params : List Param) → length (parameters_of here number params).numbers ≡ length params
parameters_counted here number [] = omega arith
parameters_counted here number (p ∷ params) = omega (arith, parameters_counted (after_parameter here number p) number params)

module _ (trees : TreeSetting) (cuts : ℕ → ℕ) where
  abbrev own : ℕ → TypedFunction → Option TypedBlock → ℕ
  own cut function None = 0
  own cut function (Some body) = function_words + length function.params * parameter_words + cost_of (block_tree trees body cut).tree

  own_cost : (cut : ℕ) (function : TypedFunction) (body : Option TypedBlock) (rest : List TreeFunction) → cost_of_functions (with_tree trees cut function body rest) ≡ own cut function body + cost_of_functions rest
  own_cost cut function None rest = omega arith
  own_cost cut function (Some body) rest = omega arith

  -- the trees of these functions together, the first of which has this number
  abbrev pub all_costs : ℕ → List TypedFunction → ℕ
  all_costs number functions = cost_of_functions (function_trees trees cuts number functions)

  next_costs : (number : ℕ) (f : TypedFunction) (functions : List TypedFunction) → all_costs number (f ∷ functions) ≡ own (cuts number) f f.body + all_costs (number + 1) functions
  next_costs number f functions = own_cost (cuts number) f f.body (function_trees trees cuts (number + 1) functions)

  -- a function that is declared alone has no tree
  added_costs : (number : ℕ) (functions : List TypedFunction) (function : Function) → all_costs number (functions ++ declared function ∷ []) ≡ all_costs number functions
  added_costs number [] function = omega arith
  added_costs number (f ∷ functions) function =
      omega (arith, next_costs number f (functions ++ declared function ∷ []), next_costs number f functions, added_costs (number + 1) functions function)

  added_or_costs : (known : Option ℕ) (functions : List TypedFunction) (function : Function) → all_costs 0 (functions_or known functions function) ≡ all_costs 0 functions
  added_or_costs None functions function = added_costs 0 functions function
  added_or_costs (Some known) functions function = refl

  -- a definition in the place of a declaration, or of another definition
  set_costs : (number : ℕ) (functions : List TypedFunction) (place : ℕ) (function : TypedFunction) (most : ℕ) → ((cut : ℕ) → own cut function function.body ≤ most)
      → all_costs number (slice_set functions place function) ≤ all_costs number functions + most
  set_costs number [] place function most own_most = omega arith
  set_costs number (f ∷ functions) zero function most own_most =
      omega (arith, next_costs number function functions, next_costs number f functions, own_most (cuts number))
  set_costs number (f ∷ functions) (suc place) function most own_most =
      omega (arith, next_costs number f (slice_set functions place function), next_costs number f functions, set_costs (number + 1) functions place function most own_most)

  defining_costs : (functions : List TypedFunction) (place : ℕ) (function : TypedFunction) (most : ℕ) → ((cut : ℕ) → own cut function function.body ≤ most)
      → all_costs 0 (defining functions place function) ≤ all_costs 0 functions + most
  defining_costs functions place function most own_most =
      elim (cases_Bool (nat_lt place (length functions))) [
        | inl before ↦ rw before (set_costs 0 functions place function most own_most)
        | inr other ↦ rw other (omega arith)
      ]

  body_costs : (s : Source) (number : ℕ) (function : Function) (body : Option Block)
      → all_costs 0 (after_body s number function body).functions ≤ all_costs 0 s.functions + (function_words + length function.params * parameter_words + cost_if_any cost_of_block body)
  body_costs s number function None = omega arith
  body_costs s number function (Some body) =
      let params = parameters_of s.here number function.params in
      defining_costs s.functions number (defined function params.numbers (body_of s number function body).value) (cost_of_function (record function { body = Some body }))
      (λ cut. omega (arith, parameters_counted s.here number function.params, block_costs trees body params.after (inside_of number function) cut))

  item_costs : (s : Source) (item : ℕ) (x : Item) → all_costs 0 (after_item s item x).functions ≤ all_costs 0 s.functions + cost_of_item x
  item_costs s item (items.Objects list) = omega arith
  item_costs s item (items.Function function) =
      omega (arith, body_costs (after_declaration s item function) (number_of s function) function function.body, added_or_costs (function_number (tie_of s.here function.name.name)) s.functions function)
  item_costs s item (items.ExternFlag at) = omega arith

  pub items_cost : (s : Source) (item : ℕ) (list : List Item) → all_costs 0 (after_items s item list).functions ≤ all_costs 0 s.functions + total cost_of_item list
  items_cost s item [] = omega arith
  items_cost s item (x ∷ rest) = omega (arith, items_cost (after_item s item x) (item + 1) rest, item_costs s item x)
