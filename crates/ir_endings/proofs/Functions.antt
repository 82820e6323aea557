-- The functions of a tree return as those of its source do, and their cuts are numbered in their order.
use Rattle.std.proofs.Common.{◌≡◌, ◌<◌, ℕ, suc, ◌+◌, List, [], ◌∷◌, Bool, true, false, length, map, get_or, refl, ap, ◌∙◌, subst, arith}
use Rattle.std.proofs.lemmas.Bool.{and_from}
use Rattle.std.specs.Prelude.{◌||◌, slice_get, Option, Some, None, is_some, is_none, codes}
use Rattle.std.specs.Str.{bytes_eq}
use Rattle.std.specs.List.{list_all}
use Rattle.c_typed.specs.declared.statement.TypedBlock.{TypedBlock}
use Rattle.c_typed.specs.declared.typed.Typed.{Typed}
use Rattle.c_typed.specs.declared.typed.TypedFunction.{TypedFunction}
use Rattle.call_structure.proofs.Reaching.{defined_at, as_many}
use Rattle.ir_arena.specs.declared.ir.Ir.{Ir}
use Rattle.ir_arena.specs.declared.ir.IrFunction.{IrFunction}
use Rattle.ir_arena.specs.Placed.{function_of, whole_of}
use Rattle.ir_arena.specs.Tree.{TreeFunction}
use Rattle.lawful_ir.specs.Built.{IsTreeOf}
use Rattle.source_trees.specs.Expressions.{TreeSetting}
use Rattle.whole_trees.specs.Sources.{setting_for, body_tree, function_tree, function_at, functions_along, numbers_defined, defined_functions}
use Rattle.lawful_sources.specs.Lawful.{IsLawful, body_returns, returns_surely}
use Rattle.lawful_sources.specs.Rows.{is_main}
use Rattle.lawful_ir.specs.Endings.{ending_in}
use Rattle.lawful_ir.specs.Lawful.{loops_in, loops_follow, table_function, returns_in}
use Rattle.lawful_ir.proofs.Alike.{never}
use Rattle.lawful_ir.proofs.Kept.{all-fine}
use Rattle.lawful_ir.proofs.Wholes.{at-all, functions-are, runs-well}
use Rattle.ir_endings.proofs.Endings.{Counts, counts-none}
use Rattle.ir_endings.proofs.Bodies.{block-made}

module _ (here : TreeSetting) where
  -- ---- loops

  body-counts : (body : Option TypedBlock) (next : ℕ) → Counts next (body_tree here body next).next (loops_in (body_tree here body next).tree)
  body-counts None next = counts-none next
  body-counts (Some body) next = (block-made here body next).counts

  pub loops-follow : (list : List TypedFunction) (first : ℕ) → loops_follow first (functions_along here list first) ≡ true
  loops-follow [] first = refl
  loops-follow (function ∷ list) first =
      let counts = body-counts function.body (first + 1) in
      and_from _ _ counts.follow
      (subst (λ n. loops_follow n (functions_along here list (function_tree here function first).next) ≡ true) (ap (λ n. n + 1) counts.count) (loops-follow list (function_tree here function first).next))

  -- ---- returns

  body-returns : (body : Option TypedBlock) (next : ℕ) → is_some body ≡ true → body_returns body ≡ true → (ending_in (body_tree here body next).tree).returns ≡ true
  body-returns None next complete p = never complete
  body-returns (Some body) next complete p = (block-made here body next).ends.returns p

  -- a function in the tree, by its name and by what it is there
  returns-there : (function : TypedFunction) (first : ℕ) (one : IrFunction) → one.name ≡ function.name → function_of one ≡ (function_tree here function first).function
      → is_some function.body ≡ true → returns_surely function ≡ true → returns_in one ≡ true
  returns-there function first one name is complete p =
      ap (λ (f : TreeFunction). is_none f.gives || (is_main (table_function one) || (ending_in f.body).returns)) is
      ∙ by (is_none function.gives) (is_main function) (is_main (table_function one)) (ap (λ (l : List ℕ). bytes_eq l (codes "main")) name) (body-returns function.body (first + 1) complete) p
    where
      by : (gives main other : Bool) → other ≡ main → (body_returns function.body ≡ true → (ending_in (body_tree here function.body (first + 1)).tree).returns ≡ true)
          → (gives || (main || body_returns function.body)) ≡ true → (gives || (other || (ending_in (body_tree here function.body (first + 1)).tree).returns)) ≡ true
      by true main other same f q = refl
      by false true other same f q = rw same refl
      by false false other same f q = rw same (f q)

module _ (typed : Typed) (ir : Ir) (lawful : IsLawful typed) (is : IsTreeOf typed ir) where
  pub loops-numbered : loops_follow 0 (whole_of ir).functions ≡ true
  loops-numbered = ap (loops_follow 0) (functions-are typed ir lawful is) ∙ loops-follow (setting_for typed is.definitions) (defined_functions typed is.definitions) 0

  surely : (number : ℕ) → returns_surely (function_at typed.functions number) ≡ true
  surely number = by (slice_get typed.functions number) refl
    where
      by : (x : Option TypedFunction) → slice_get typed.functions number ≡ x → returns_surely (function_at typed.functions number) ≡ true
      by None at = rw at refl
      by (Some function) at = rw at (at-all returns_surely typed.functions number function lawful.functions_return at)

  all-return : (list : List IrFunction) (numbers : List ℕ) (first : ℕ)
      → map function_of list ≡ functions_along (setting_for typed is.definitions) (map (function_at typed.functions) numbers) first
      → map (λ (function : IrFunction). function.name) list ≡ map (λ (number : ℕ). (function_at typed.functions number).name) numbers
      → ((k : ℕ) → k < length numbers → is_some (function_at typed.functions (get_or numbers k 0)).body ≡ true) → list_all returns_in list ≡ true
  all-return [] numbers first are named complete = refl
  all-return (one ∷ list) [] first are named complete = cc
  all-return (one ∷ list) (number ∷ numbers) first are named complete =
      let function : TypedFunction = function_at typed.functions number in
      and_from _ _ (returns-there (setting_for typed is.definitions) function first one (cc) (cc) (complete 0 (omega arith)) (surely number))
      (all-return list numbers (function_tree (setting_for typed is.definitions) function first).next (cc) (cc) (λ k low. complete (suc k) (omega (arith, low))))

  pub functions-return : list_all returns_in ir.functions ≡ true
  functions-return = all-return ir.functions (numbers_defined is.definitions) 0 (functions-are typed ir lawful is) is.is.names (λ k low.
      let many = as_many typed is.definitions is.are in
      (runs-well typed ir lawful is (all-fine typed lawful) _ (defined_at typed is.definitions is.are k (omega (arith, many, low)))).complete)
