-- What is asked of a call of the source holds of that of the tree: the function of its new number takes and gives the same.
use Rattle.std.proofs.Common.{◌≡◌, ℕ, List, [], Bool, true, refl, sym, ap, ◌∙◌}
use Rattle.std.proofs.lemmas.Bool.{lt-ltb}
use Rattle.std.proofs.lemmas.Option.{slice_get-map, slice_get-get_or, slice_get_within}
use Rattle.std.specs.Prelude.{◌==◌, ◌||◌, not, slice_get, unwrap_or, Option, Some, None, option_map}
use Rattle.c_typed.specs.declared.call.Callee.{Callee}
use Rattle.c_typed.specs.declared.call.Callee.TheVariants.{Function, Operator}
use Rattle.c_typed.specs.declared.typed.Typed.{Typed}
use Rattle.c_typed.specs.declared.typed.TypedFunction.{TypedFunction}
use Rattle.call_structure.specs.Reaching.{IsDefined}
use Rattle.call_structure.proofs.Places.{place_found, at_place}
use Rattle.call_structure.proofs.Reaching.{placed}
use Rattle.ir_arena.specs.declared.ir.Ir.{Ir}
use Rattle.ir_arena.specs.declared.ir.IrFunction.{IrFunction}
use Rattle.ir_arena.specs.Tree.{TreeFunction}
use Rattle.lawful_ir.specs.Built.{IsTreeOf}
use Rattle.source_agreement.proofs.Numbers.{number_is, there}
use Rattle.whole_trees.specs.Sources.{number_in, function_at, nameless, numbers_defined}
use Rattle.lawful_sources.specs.Lawful.{IsLawful}
use Rattle.lawful_sources.specs.Objects.{is_complete}
use Rattle.lawful_sources.specs.Rows.{callee_exists, function_exists, parameter_count, takes_count, arguments_are_counted, gives_number, gives_value, value_is_given, is_defined, is_called_main, is_no_main, main_is_not_called}
use Rattle.lawful_sources.specs.Things.{Call}
use Rattle.lawful_ir.specs.Lawful.{table_function, tables_of, EverywhereIn}
use Rattle.lawful_ir.specs.Walk.{nowhere_at}
use Rattle.lawful_ir.proofs.Alike.{right, never, fine, number_at, renamed}
use Rattle.lawful_ir.proofs.Wholes.{numbers, functions-are, complete-defined, table-there}
use Rattle.ir_rows.proofs.Standing.{Passes, pass}

-- a function of the source, as the tables of the tree have it
abbrev bare : TypedFunction → TypedFunction
bare function = record function { defined = Some nowhere_at; body = Some (record { at = nowhere_at; objects = []; stmts = [] }) }

table-is : (g : IrFunction) (f : TypedFunction) → g.name ≡ f.name → g.gives ≡ f.gives → g.params ≡ f.params → table_function g ≡ bare f
table-is g f name gives params = rw (name, gives, params) refl

-- what is asked of what is called
record Known : Type 0 where
  count : ℕ
  gives : Bool
  no_main : Bool

abbrev known_function : Option TypedFunction → Known
known_function function = record { count = parameter_count function; gives = gives_number function; no_main = not (is_called_main function) }

abbrev known : Typed → Callee → Known
known source callee = record { count = takes_count source callee; gives = gives_value source callee; no_main = is_no_main source callee }

module _ (typed : Typed) (ir : Ir) (lawful : IsLawful typed) (is : IsTreeOf typed ir) where
  -- the number of a definition is at its place
  at-number : (number : ℕ) → IsDefined typed.functions number → slice_get (numbers_defined is.definitions) (number_in is.definitions number) ≡ Some number
  at-number number defined =
      let p = place_found number (numbers_defined is.definitions) (placed typed is.definitions is.are number defined) in
      let at = at_place number p.0 (numbers_defined is.definitions) p.1 in
      ap (slice_get (numbers_defined is.definitions)) (ap (λ (o : Option ℕ). unwrap_or o 0) p.1) ∙ slice_get-get_or (numbers_defined is.definitions) p.0 0 at.0 ∙ ap Some at.1

  name-is : (number : ℕ) (g : IrFunction) → IsDefined typed.functions number → slice_get ir.functions (number_in is.definitions number) ≡ Some g → g.name ≡ (function_at typed.functions number).name
  name-is number g defined at =
      let place : ℕ = number_in is.definitions number in
      let same : Some g.name ≡ Some (function_at typed.functions number).name =
      sym (slice_get-map (λ (f : IrFunction). f.name) ir.functions place ∙ ap (option_map (λ (f : IrFunction). f.name)) at) ∙ ap (λ (l : List (List ℕ)). slice_get l place) is.is.names
      ∙ slice_get-map (λ (n : ℕ). (function_at typed.functions n).name) (numbers_defined is.definitions) place ∙ ap (option_map (λ (n : ℕ). (function_at typed.functions n).name)) (at-number number defined) in
      cc

  -- a function that is called has a new number
  record IsCalled (number : ℕ) : Type 0 where
    function : TypedFunction
    before : slice_get typed.functions number ≡ Some function
    after : slice_get (tables_of ir).functions (number_at (numbers typed ir lawful is) number) ≡ Some (bare function)

  defined-called : (number : ℕ) → IsDefined typed.functions number → IsCalled number
  defined-called number defined =
      let place : ℕ = number_in is.definitions number in
      let f : TypedFunction = defined.1.function in
      let found = there typed is.definitions is.are number defined in
      let g = table-there typed ir lawful is place _ ir.functions (ap (λ (l : List TreeFunction). slice_get l place) (functions-are typed ir lawful is) ∙ found.is) in
      let name : g.0.name ≡ f.name = name-is number g.0 defined g.1 ∙ ap (λ (o : Option TypedFunction). (unwrap_or o nameless).name) defined.1.there in
      record {
        function = f;
        before = defined.1.there;
        after = ap (slice_get (tables_of ir).functions) (number_is typed is.definitions number defined) ∙ slice_get-map table_function ir.functions place ∙ ap (option_map table_function) g.1
            ∙ ap Some (table-is g.0 f name (ap (λ (t : TreeFunction). t.gives) g.2) (ap (λ (t : TreeFunction). t.params) g.2));
      }

  complete-called : (number : ℕ) → is_complete (slice_get typed.functions number) ≡ true → IsCalled number
  complete-called number complete = by (slice_get typed.functions number) refl complete
    where
      by : (x : Option TypedFunction) → slice_get typed.functions number ≡ x → is_complete x ≡ true → IsCalled number
      by None at p = never p
      by (Some function) at p = defined-called number (complete-defined typed ir lawful is number function at p)

  known-alike : (callee : Callee) → is_defined typed callee ≡ true → known (tables_of ir) (renamed (numbers typed ir lawful is) callee) ≡ known typed callee
  known-alike (Function number) p = let called = complete-called number p in ap known_function called.after ∙ sym (ap known_function called.before)
  known-alike (Operator op) p = refl
  known-alike callee p = refl

  -- a test of what is known passes of the callee in the tree
  asks : (holds : Known → Bool) (callee : Callee) (count : ℕ) (is_needed : Bool) → fine typed (Call callee count is_needed) ≡ true → holds (known typed callee) ≡ true
      → holds (known (tables_of ir) (renamed (numbers typed ir lawful is) callee)) ≡ true
  asks holds callee count is_needed f p = ap holds (known-alike callee (right (count == takes_count typed callee) _ f)) ∙ p

  exists : (callee : Callee) → is_defined typed callee ≡ true → callee_exists (tables_of ir) (renamed (numbers typed ir lawful is) callee) ≡ true
  exists (Function number) p = let called = complete-called number p in lt-ltb _ _ (slice_get_within (tables_of ir).functions _ _ called.after)
  exists (Operator op) p = refl
  exists callee p = refl

  pub functions-exist : EverywhereIn ir (function_exists (tables_of ir))
  functions-exist = pass typed ir lawful is function_exists one lawful.functions_exist
    where
      one : Passes typed ir lawful is function_exists
      one (Call callee count is_needed) f p = exists callee (right (count == takes_count typed callee) _ f)
      one x f p = refl

  pub arguments-are-counted : EverywhereIn ir (arguments_are_counted (tables_of ir))
  arguments-are-counted = pass typed ir lawful is arguments_are_counted one lawful.arguments_are_counted
    where
      one : Passes typed ir lawful is arguments_are_counted
      one (Call callee count is_needed) f p = asks (λ k. count == k.count) callee count is_needed f p
      one x f p = refl

  pub values-are-given : EverywhereIn ir (value_is_given (tables_of ir))
  values-are-given = pass typed ir lawful is value_is_given one lawful.values_are_given
    where
      one : Passes typed ir lawful is value_is_given
      one (Call callee count is_needed) f p = asks (λ k. not is_needed || k.gives) callee count is_needed f p
      one x f p = refl

  pub main-is-not-called : EverywhereIn ir (main_is_not_called (tables_of ir))
  main-is-not-called = pass typed ir lawful is main_is_not_called one lawful.main_is_not_called
    where
      one : Passes typed ir lawful is main_is_not_called
      one (Call callee count is_needed) f p = asks (λ k. k.no_main) callee count is_needed f p
      one x f p = refl
