-- A walk of calls in the tree is one in its source, where none leads from a function to itself.
use Rattle.std.proofs.Common.{◌≡◌, ◌<◌, ℕ, zero, suc, ◌+◌, List, [], ◌∷◌, ◌++◌, Bool, true, length, map, get_or, Contains, refl, sym, ap, ◌∙◌, subst, arith}
use Rattle.std.proofs.lemmas.Bool.{and_from}
use Rattle.std.proofs.lemmas.List.{length-map, map-append}
use Rattle.std.proofs.lemmas.List.Folds.{list_all-append}
use Rattle.std.proofs.lemmas.Option.{slice_get-map, slice_get-get_or}
use Rattle.std.specs.Prelude.{◌==◌, flat_map, slice_get, unwrap_or, Option, Some, None}
use Rattle.std.specs.List.{list_all}
use Rattle.std.specs.Option.{option_map}
use Rattle.c_typed.specs.declared.call.Callee.TheVariants.{Function}
use Rattle.c_typed.specs.declared.typed.Typed.{Typed}
use Rattle.c_typed.specs.declared.typed.TypedFunction.{TypedFunction}
use Rattle.called_functions.specs.Called.{called_in_option, called_in_block}
use Rattle.call_graph.specs.Walks.{callees, Calls, Walk, Reaches}
use Rattle.call_graph.proofs.Reversal.{caller-own}
use Rattle.call_structure.specs.Calls.{called_in_function, called_by}
use Rattle.call_structure.specs.Orders.{IsCallersFirst}
use Rattle.call_structure.specs.Reaching.{IsDefined, CallsFunction, CallWalk}
use Rattle.call_structure.proofs.Places.{further, here, first_or, place_found, at_place}
use Rattle.call_structure.proofs.Reaching.{as_many, defined_at, placed, orders_are_free}
use Rattle.ir_arena.specs.declared.ir.Ir.{Ir}
use Rattle.ir_arena.specs.Tree.{TreeFunction}
use Rattle.lawful_ir.specs.Built.{IsTreeOf}
use Rattle.whole_trees.specs.Sources.{setting_for, function_tree, function_at, nameless, functions_along, numbers_defined}
use Rattle.source_agreement.proofs.Numbers.{defined_by, number_is}
use Rattle.lawful_sources.specs.Lawful.{IsLawful}
use Rattle.lawful_sources.specs.Objects.{is_complete}
use Rattle.lawful_sources.specs.Rows.{takes_count}
use Rattle.lawful_sources.specs.Statements.{in_function}
use Rattle.lawful_sources.specs.Things.{Thing, Call, Mark, Conversion}
use Rattle.lawful_sources.proofs.Passing.{Each}
use Rattle.lawful_trees.proofs.Expressions.{defined-where}
use Rattle.lawful_ir.specs.Lawful.{tables_of, called_number, calls_in}
use Rattle.lawful_ir.specs.Positions.{TreeThing, things_of}
use Rattle.lawful_ir.specs.Walk.{function_stands}
use Rattle.lawful_ir.proofs.Alike.{right, head, tail, fine, number_at}
use Rattle.lawful_ir.proofs.Kept.{all-fine}
use Rattle.lawful_ir.proofs.Wholes.{at-all, numbers, functions-are, RunsWell, runs-well, body-stands}
use Rattle.ir_definitions.proofs.Read.{in_tree, all-alike}
use Rattle.ir_endings.proofs.Calls.{body-calls}

-- what stands in a list with other numbers
from-map : (f : ℕ → ℕ) (xs : List ℕ) (y : ℕ) → Contains (map f xs) y → (x : ℕ) × Contains xs x × (f x ≡ y)
from-map f [] y there = absurd (let low = there.1 in omega (arith, low))
from-map f (a ∷ xs) y there =
    first_or (λ v. (v ≡ y → (x : ℕ) × Contains (a ∷ xs) x × (f x ≡ y))) (f a) y (map f xs) there (λ same is. (a, here a xs, same))
    (λ later is. let found = from-map f xs y later in (found.0, further a xs found.0 found.1, found.2)) refl

moved-all : (f : ℕ → ℕ) (read : Thing → List ℕ) (list : List Thing) → flat_map (λ x. map f (read x)) list ≡ map f (flat_map read list)
moved-all f read [] = refl
moved-all f read (x ∷ list) = ap (λ l. map f (read x) ++ l) (moved-all f read list) ∙ sym (map-append f (read x) (flat_map read list))

called-there : (functions : List TypedFunction) (number : ℕ) → called_in_function (slice_get functions number) ≡ called_in_option called_in_block (function_at functions number).body
called-there functions number = by (slice_get functions number)
  where
    by : (x : Option TypedFunction) → called_in_function x ≡ called_in_option called_in_block (unwrap_or x nameless).body
    by None = refl
    by (Some function) = refl

module _ (typed : Typed) where
  complete : ℕ → Bool
  complete number = is_complete (slice_get typed.functions number)

  call-complete : (x : Thing) → fine typed x ≡ true → list_all complete (called_number x) ≡ true
  unfolding complete
  call-complete (Call (Function number) count is_needed) p = and_from _ true (right (count == takes_count typed (Function number)) _ p) refl
  call-complete x p = refl

  calls-complete : (list : List Thing) → Each (fine typed) list → list_all complete (flat_map called_number list) ≡ true
  calls-complete [] each = refl
  calls-complete (x ∷ list) each =
      list_all-append complete (called_number x) (flat_map called_number list) ∙ and_from _ _ (call-complete x (head (fine typed) x list each)) (calls-complete list (tail (fine typed) x list each))

module _ (typed : Typed) (ir : Ir) (lawful : IsLawful typed) (is : IsTreeOf typed ir) where
  abbrev place : ℕ → ℕ
  place number = number_at (numbers typed ir lawful is) number

  -- what a function of the source calls, by the numbers of the tree
  abbrev row_of : ℕ → List ℕ
  row_of number = map place (called_by typed number)

  -- the number in the source of a function of the tree
  abbrev number_of : ℕ → ℕ
  number_of place = get_or (numbers_defined is.definitions) place 0

  moves : (x : Thing) → flat_map called_number (in_tree typed ir lawful is x) ≡ map place (called_number x)
  moves (Call (Function number) count is_needed) = refl
  moves (Call callee count is_needed) = refl
  moves (Mark at site None) = refl
  moves (Mark at site (Some kind)) = refl
  moves (Conversion None None) = refl
  moves (Conversion None (Some due)) = refl
  moves (Conversion (Some width) due) = refl
  moves x = refl

  function-moves : (function : TypedFunction) (first : ℕ) → RunsWell typed ir lawful is function
      → flat_map called_number (things_of (function_stands (tables_of ir) (function_tree (setting_for typed is.definitions) function first).function)) ≡ map place (called_in_option called_in_block function.body)
  function-moves function first own =
      ap (λ (l : List TreeThing). flat_map called_number (things_of l)) (body-stands typed ir lawful is function.gives function.body (first + 1) own.complete own.each own.follows)
      ∙ all-alike typed ir lawful is called_number (λ x. map place (called_number x)) (λ x f. moves x) (in_function typed function) own.each
      ∙ moved-all place called_number (in_function typed function) ∙ ap (map place) (body-calls typed function.gives function.body).are

  well : (number : ℕ) → IsDefined typed.functions number → RunsWell typed ir lawful is (function_at typed.functions number)
  well = runs-well typed ir lawful is (all-fine typed lawful)

  along : (list : List ℕ) (first : ℕ) → ((k : ℕ) → k < length list → IsDefined typed.functions (get_or list k 0))
      → map (λ (function : TreeFunction). flat_map called_number (things_of (function_stands (tables_of ir) function))) (functions_along (setting_for typed is.definitions) (map (function_at typed.functions) list) first)
      ≡ map row_of list
  along [] first defined = refl
  along (number ∷ list) first defined =
      rw (
        function-moves (function_at typed.functions number) first (well number (defined 0 (omega arith))) ∙ sym (ap (map place) (called-there typed.functions number)),
        along list _ (λ k low. defined (suc k) (omega (arith, low))),
      ) refl

  calls-are : calls_in ir ≡ map row_of (numbers_defined is.definitions)
  calls-are =
      ap (map (λ (function : TreeFunction). flat_map called_number (things_of (function_stands (tables_of ir) function)))) (functions-are typed ir lawful is)
      ∙ along (numbers_defined is.definitions) 0 (λ k low. defined_at typed is.definitions is.are k (let many = as_many typed is.definitions is.are in omega (arith, many, low)))

  -- what is called has a definition
  callee-defined : (f g : ℕ) → IsDefined typed.functions f → Contains (called_by typed f) g → IsDefined typed.functions g
  unfolding complete
  callee-defined f g defined there =
      let all = calls-complete typed (in_function typed (function_at typed.functions f)) (well f defined).each in
      let same : flat_map called_number (in_function typed (function_at typed.functions f)) ≡ called_by typed f = (body-calls typed _ _).are ∙ sym (called-there typed.functions f) in
      let one : slice_get (called_by typed f) there.0 ≡ Some g = slice_get-get_or (called_by typed f) there.0 g there.1 ∙ ap Some there.2 in
      defined_by typed.functions g (defined-where typed.functions g lawful.functions_are_whole
      (at-all (complete typed) (called_by typed f) there.0 g (subst (λ l. list_all (complete typed) l ≡ true) same all) one))

  row-at : (p : ℕ) → p < length is.definitions → callees (calls_in ir) p ≡ row_of (number_of p)
  row-at p low =
      ap (λ (graph : List (List ℕ)). callees graph p) calls-are
      ∙ ap (λ (o : Option (List ℕ)). unwrap_or o []) (slice_get-map row_of (numbers_defined is.definitions) p
      ∙ ap (option_map row_of) (slice_get-get_or (numbers_defined is.definitions) p 0 (let many = as_many typed is.definitions is.are in omega (arith, many, low))))

  -- a function with a definition, by its place
  at-its-place : (g q : ℕ) → IsDefined typed.functions g → place g ≡ q → g ≡ number_of q
  at-its-place g q defined is-there =
      let found = place_found g (numbers_defined is.definitions) (placed typed is.definitions is.are g defined) in
      let same : found.0 ≡ q = sym (ap (λ (o : Option ℕ). unwrap_or o 0) found.1) ∙ sym (number_is typed is.definitions g defined) ∙ is-there in
      sym (at_place g found.0 (numbers_defined is.definitions) found.1).1 ∙ ap number_of same

  caller-low : (p q : ℕ) → Calls (calls_in ir) p q → p < length is.definitions
  caller-low p q calls =
      let long : length (calls_in ir) ≡ length is.definitions = ap length calls-are ∙ length-map (numbers_defined is.definitions) row_of ∙ as_many typed is.definitions is.are in
      omega (arith, long, caller-own (calls_in ir) p q calls.0)

  step : (p q : ℕ) → Calls (calls_in ir) p q → CallsFunction typed (number_of p) (number_of q)
  step p q calls =
      let caller = defined_at typed is.definitions is.are p (caller-low p q calls) in
      let found = from-map place (called_by typed (number_of p)) q (subst (λ l. Contains l q) (row-at p (caller-low p q calls)) calls.0) in
      let callee = callee-defined (number_of p) found.0 caller found.1 in
      let same = at-its-place found.0 q callee found.2 in
      record { caller = caller; callee = subst (IsDefined typed.functions) same callee; called = subst (Contains (called_by typed (number_of p))) same found.1 }

  walk : (n p q : ℕ) → Walk (calls_in ir) n p q → CallWalk typed n (number_of p) (number_of q)
  walk zero p q same = ap number_of same
  walk (suc n) p q steps = (number_of steps.0, step p steps.0 steps.1, walk n steps.0 q steps.2)

  pub calls-end : (order : List ℕ) → IsCallersFirst typed order → (function : ℕ) → Reaches (calls_in ir) function function → ⊥
  calls-end order first function reaches = orders_are_free typed order first (number_of function) (reaches.0, walk (suc reaches.0) function function reaches.1)
