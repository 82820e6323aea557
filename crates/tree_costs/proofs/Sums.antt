-- The costs of the functions of a source, in the order of their first declarations and in that of their definitions.
use Rattle.std.proofs.Common.{◌≡◌, ℕ, zero, suc, ◌+◌, ◌≤◌, List, [], ◌∷◌, length, map, sym, ap, ◌∙◌, subst, refl, inl, inr, arith}
use Rattle.std.specs.Prelude.{nat_lt, slice_set, Option, Some, None}
use Rattle.std.specs.List.{sum_by}
use Rattle.std.proofs.lemmas.Bool.{cases_Bool}
use Rattle.std.proofs.lemmas.List.Sums.{sum_by-cons, sum_by-append}
use Rattle.std.proofs.lemmas.List.Sorted.{sum_by-IsPermutation}
use Rattle.sat_base.specs.declared.name.At.{At}
use Rattle.c_tree.specs.declared.function.Function.{Function}
use Rattle.c_tree.specs.declared.program.Item.{Item}
use Rattle.c_tree.specs.declared.program.Item.TheVariants as items
use Rattle.c_tree.specs.declared.program.Program.{Program}
use Rattle.c_tree.specs.declared.statement.Block.{Block}
use Rattle.c_typed.specs.declared.statement.TypedBlock.{TypedBlock}
use Rattle.c_typed.specs.declared.typed.Typed.{Typed}
use Rattle.c_typed.specs.declared.typed.TypedFunction.{TypedFunction}
use Rattle.call_structure.specs.Definitions.{AreDefinitions, definition_of, defined_from}
use Rattle.ir_arena.specs.declared.ir.Ir.{Ir}
use Rattle.ir_arena.specs.Costs.{cost_of_function, cost_of_functions, cost_of_whole}
use Rattle.ir_arena.specs.Placed.{whole_of}
use Rattle.source_trees.specs.Expressions.{TreeSetting}
use Rattle.source_costs.specs.Costs.{cost_of_source}
use Rattle.source_costs.specs.Trees.{function_trees}
use Rattle.source_costs.proofs.Sources.{all_costs, items_cost}
use Rattle.tied_names.specs.Numbers.{token_of, exposed_in}
use Rattle.tied_names.specs.Ties.{tie_of}
use Rattle.c_types.specs.Sources.{Source, function_number, functions_or, defining, number_of, after_declaration, after_body, after_item, after_items, opening}
use Rattle.c_types.specs.Tied.{IsTied, notes_of}
use Rattle.whole_trees.specs.Sources.{setting_for, body_tree, function_tree, function_at, functions_along}
use Rattle.lawful_ir.specs.Built.{IsTreeOf}
use Rattle.tree_costs.proofs.Loops.{IsSteady, blocks_are_steady}

-- ---- a function is defined where it has a body

abbrev HasBody : Option At → Option TypedBlock → Type 0
HasBody None body = Unit {0}
HasBody (Some name) None = ⊥
HasBody (Some name) (Some body) = Unit {0}

abbrev pub HaveBodies : List TypedFunction → Type 0
HaveBodies [] = Unit {0}
HaveBodies (function ∷ functions) = HasBody function.defined function.body × HaveBodies functions

added : (number : Option ℕ) (functions : List TypedFunction) (function : Function) → HaveBodies functions → HaveBodies (functions_or number functions function)
added None [] function have = (tt, tt)
added None (f ∷ functions) function have = (have.0, added None functions function have.1)
added (Some number) functions function have = have

set : (functions : List TypedFunction) (number : ℕ) (function : TypedFunction) → HaveBodies functions → HasBody function.defined function.body → HaveBodies (slice_set functions number function)
set [] number function have has = tt
set (f ∷ functions) zero function have has = (has, have.1)
set (f ∷ functions) (suc number) function have has = (have.0, set functions number function have.1 has)

defining_keeps : (functions : List TypedFunction) (number : ℕ) (function : TypedFunction) → HaveBodies functions → HasBody function.defined function.body → HaveBodies (defining functions number function)
defining_keeps functions number function have has =
    elim (cases_Bool (nat_lt number (length functions))) [
      | inl before ↦ rw before (set functions number function have has)
      | inr other ↦ rw other have
    ]

after_some : (s : Source) (number : ℕ) (function : Function) (body : Option Block) → HaveBodies s.functions → HaveBodies (after_body s number function body).functions
after_some s number function None have = have
after_some s number function (Some body) have = defining_keeps s.functions number _ have tt

after_one : (s : Source) (item : ℕ) (x : Item) → HaveBodies s.functions → HaveBodies (after_item s item x).functions
after_one s item (items.Objects list) have = have
after_one s item (items.Function function) have =
    after_some (after_declaration s item function) (number_of s function) function function.body (added (function_number (tie_of s.here function.name.name)) s.functions function have)
after_one s item (items.ExternFlag at) have = have

pub have_bodies : (s : Source) (item : ℕ) (list : List Item) → HaveBodies s.functions → HaveBodies (after_items s item list).functions
have_bodies s item [] have = have
have_bodies s item (x ∷ rest) have = have_bodies (after_item s item x) (item + 1) rest (after_one s item x have)

-- ---- their sums

module _ (trees : TreeSetting) where
  -- the cost of a function where its cuts are numbered from 0
  abbrev pub own_cost : TypedFunction → ℕ
  own_cost function = cost_of_function (function_tree trees function 0).function

  body_steady : (body : Option TypedBlock) → IsSteady (body_tree trees body)
  body_steady None one other = refl
  body_steady (Some body) one other = blocks_are_steady trees body one other

  pub along : (functions : List TypedFunction) (first : ℕ) → cost_of_functions (functions_along trees functions first) ≡ sum_by own_cost functions
  along [] first = refl
  along (f ∷ functions) first =
      omega (arith, body_steady f.body (first + 1) (0 + 1), along functions (function_tree trees f first).next, sum_by-cons own_cost f functions)

  -- in the order of the first declarations
  abbrev if_defined : TypedFunction → Option At → ℕ
  if_defined function None = 0
  if_defined function (Some name) = own_cost function

  abbrev pub defined_costs : List TypedFunction → ℕ
  defined_costs functions = sum_by (λ (f : TypedFunction). if_defined f f.defined) functions

  one_tree : (f : TypedFunction) (functions : List TypedFunction) (number : ℕ) (name : Option At) (body : Option TypedBlock) → f.defined ≡ name → f.body ≡ body → HasBody name body
      → if_defined f name + cost_of_functions (function_trees trees (λ n. 1) (number + 1) functions) ≤ cost_of_functions (function_trees trees (λ n. 1) number (f ∷ functions))
  one_tree f functions number None None named is has = rw is (omega arith)
  one_tree f functions number None (Some body) named is has = rw is (omega arith)
  one_tree f functions number (Some name) None named is has = absurd has
  one_tree f functions number (Some name) (Some body) named is has = rw is (omega arith)

  pub trees_of : (functions : List TypedFunction) (number : ℕ) → HaveBodies functions → defined_costs functions ≤ cost_of_functions (function_trees trees (λ n. 1) number functions)
  trees_of [] number have = omega arith
  trees_of (f ∷ functions) number have =
      omega (arith, sum_by-cons (λ (g : TypedFunction). if_defined g g.defined) f functions, one_tree f functions number f.defined f.body refl refl have.0, trees_of functions (number + 1) have.1)

  -- by the numbers of the definitions
  abbrev numbered_cost : List TypedFunction → ℕ × At → ℕ
  numbered_cost all definition = own_cost (function_at all definition.0)

  one_definition : (all : List TypedFunction) (f : TypedFunction) (number : ℕ) (name : Option At) → function_at all number ≡ f → sum_by (numbered_cost all) (definition_of number name) ≡ if_defined f name
  one_definition all f number None is = refl
  one_definition all f number (Some name) is = omega (arith, ap own_cost is)

  numbered : (all functions : List TypedFunction) (number : ℕ) → ((next : ℕ) → function_at all (number + next) ≡ function_at functions next)
      → sum_by (numbered_cost all) (defined_from number functions) ≡ defined_costs functions
  numbered all [] number same = refl
  numbered all (f ∷ functions) number same =
      let here : function_at all number ≡ f = subst (λ n. function_at all n ≡ f) (omega arith) (same 0) in
      let later : (next : ℕ) → function_at all (suc number + next) ≡ function_at functions next = λ next. subst (λ n. function_at all n ≡ function_at functions next) (omega arith) (same (suc next)) in
      omega (
        arith,
        sum_by-append (numbered_cost all) (definition_of number f.defined) (defined_from (suc number) functions),
        one_definition all f number f.defined here,
        numbered all functions (suc number) later,
        sum_by-cons (λ (g : TypedFunction). if_defined g g.defined) f functions,
      )

  mapped : (all : List TypedFunction) (definitions : List (ℕ × At)) → sum_by own_cost (map (function_at all) (map (λ (definition : ℕ × At). definition.0) definitions)) ≡ sum_by (numbered_cost all) definitions
  mapped all [] = refl
  mapped all (d ∷ definitions) =
      omega (arith, sum_by-cons own_cost (function_at all d.0) (map (function_at all) (map (λ (definition : ℕ × At). definition.0) definitions)), sum_by-cons (numbered_cost all) d definitions, mapped all definitions)

  pub in_order_of_definitions : (typed : Typed) (definitions : List (ℕ × At)) → AreDefinitions typed definitions
      → sum_by own_cost (map (function_at typed.functions) (map (λ (definition : ℕ × At). definition.0) definitions)) ≡ defined_costs typed.functions
  in_order_of_definitions typed definitions are =
      mapped typed.functions definitions ∙ sum_by-IsPermutation (numbered_cost typed.functions) (defined_from 0 typed.functions) definitions are.each ∙ numbered typed.functions typed.functions 0 (λ next. ap (function_at typed.functions) (omega arith))

-- ---- the whole

pub costs_no_more : (program : Program) (typed : Typed) (ir : Ir) → IsTied program typed → IsTreeOf typed ir → cost_of_whole (whole_of ir) ≤ cost_of_source program
costs_no_more program typed ir tied is =
    let trees = setting_for typed is.definitions in
    let list = map (function_at typed.functions) (map (λ (definition : ℕ × At). definition.0) is.definitions) in
    let source = opening program.items (map token_of typed.sites) (exposed_in [] (notes_of program)) in
    let have : HaveBodies typed.functions = subst HaveBodies (sym tied.functions) (have_bodies source 0 program.items tt) in
    omega (
      arith,
      ap cost_of_whole is.is.tree,
      along trees list 0,
      in_order_of_definitions trees typed is.definitions is.are,
      trees_of trees typed.functions 0 have,
      ap (all_costs trees (λ n. 1) 0) tied.functions,
      items_cost trees (λ n. 1) source 0 program.items,
    )
