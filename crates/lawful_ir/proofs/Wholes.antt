-- What stands in the tree of a source is what stands in the definitions of the source.
use Rattle.std.proofs.Common.{◌≡◌, ◌<◌, ℕ, suc, ◌+◌, List, [], ◌∷◌, Bool, true, false, length, map, get_or, refl, sym, ap, ◌∙◌, subst, arith}
use Rattle.std.proofs.lemmas.List.Concat.{flat_map-append}
use Rattle.std.proofs.lemmas.Option.{slice_get-map, none-some}
use Rattle.std.specs.Prelude.{zero, flat_map, slice_get, unwrap_or, Option, Some, None, is_some}
use Rattle.std.specs.List.{list_all}
use Rattle.std.specs.Option.{option_map}
use Rattle.sat_base.specs.declared.name.At.{At}
use Rattle.sat_base.specs.declared.width.Width.{Width}
use Rattle.operator_meaning.specs.declared.object.Object.{Object}
use Rattle.c_typed.specs.declared.call.Callee.TheVariants.{Function}
use Rattle.c_typed.specs.declared.statement.TypedBlock.{TypedBlock}
use Rattle.c_typed.specs.declared.typed.Typed.{Typed}
use Rattle.c_typed.specs.declared.typed.TypedFunction.{TypedFunction}
use Rattle.call_structure.specs.Reaching.{IsDefined}
use Rattle.call_structure.proofs.Reaching.{defined_at, as_many}
use Rattle.ir_arena.specs.declared.ir.Ir.{Ir}
use Rattle.ir_arena.specs.declared.ir.IrFunction.{IrFunction}
use Rattle.ir_arena.specs.Placed.{function_of}
use Rattle.ir_arena.specs.Tree.{TreeFunction, IrWhole}
use Rattle.lawful_ir.specs.Built.{IsTreeOf}
use Rattle.whole_trees.specs.Sources.{number_in, numbers_of, renumbered, setting_for, body_tree, function_tree, function_at, nameless, functions_along, numbers_defined, defined_functions}
use Rattle.source_agreement.proofs.Numbers.{number_is, there}
use Rattle.lawful_sources.specs.Lawful.{IsLawful, Everywhere, is_whole}
use Rattle.lawful_sources.specs.Objects.{begun_in, follow_one_another, is_complete}
use Rattle.lawful_sources.specs.Statements.{in_function, in_body, in_source}
use Rattle.lawful_sources.specs.Things.{Thing, taken_at, taken_by_object, taken_by_parameter, parameter_object}
use Rattle.lawful_sources.proofs.Passing.{Each, none, joined}
use Rattle.lawful_ir.specs.Lawful.{table_function, tables_of, stands_in, EverywhereIn}
use Rattle.lawful_ir.specs.Positions.{TreeThing, Body, things_of, thing_of}
use Rattle.lawful_ir.specs.Walk.{stands, function_stands}
use Rattle.lawful_ir.proofs.Alike.{left, right, head, tail, earlier, later, never, fine, all_of, converts, number_at, Agrees}
use Rattle.lawful_ir.proofs.Followed.{one-later, taken-alike}
use Rattle.lawful_ir.proofs.Statements.{block-runs}

-- ---- elements of lists that pass

pub at-all : {A : Type 0} (test : A → Bool) (xs : List A) (n : ℕ) (x : A) → list_all test xs ≡ true → slice_get xs n ≡ Some x → test x ≡ true
at-all test [] n x p is = absurd (none-some x is)
at-all test (y ∷ xs) zero x p is = let same : y ≡ x = cc in subst (λ z. test z ≡ true) same (left (test y) _ p)
at-all test (y ∷ xs) (suc n) x p is = at-all test xs n x (right (test y) _ p) is

pub at-flat : {A B : Type 0} (test : B → Bool) (f : A → List B) (xs : List A) (n : ℕ) (x : A) → Each test (flat_map f xs) → slice_get xs n ≡ Some x → Each test (f x)
at-flat test f [] n x p is = absurd (none-some x is)
at-flat test f (y ∷ xs) zero x p is = let same : y ≡ x = cc in subst (λ z. Each test (f z)) same (earlier test (f y) _ p)
at-flat test f (y ∷ xs) (suc n) x p is = at-flat test f xs n x (later test (f y) _ p) is

-- a function with a name in its definition has a body
pub whole-complete : (function : TypedFunction) (name : At) → is_whole function ≡ true → function.defined ≡ Some name → is_some function.body ≡ true
whole-complete function name p is = by (is_some function.body) refl
  where
    by : (b : Bool) → is_some function.body ≡ b → is_some function.body ≡ true
    by true at = at
    by false at = never (rw (at, is) at p)

-- and the other way
pub whole-defined : (function : TypedFunction) → is_whole function ≡ true → is_some function.body ≡ true → (name : At) × (function.defined ≡ Some name)
whole-defined function p at = named function.defined (rw at at p)
  where
    named : (name : Option At) → is_some name ≡ true → (at : At) × (name ≡ Some at)
    named None q = never q
    named (Some name) q = (name, refl)

module _ (typed : Typed) (ir : Ir) (lawful : IsLawful typed) (is : IsTreeOf typed ir) where
  abbrev pub numbers : List ℕ
  numbers = numbers_of typed is.definitions

  pub objects-are : ir.objects ≡ map (renumbered is.definitions) typed.objects
  objects-are = ap (λ (w : IrWhole). w.objects) is.is.tree

  pub sites-are : ir.sites ≡ typed.sites
  sites-are = ap (λ (w : IrWhole). w.sites) is.is.tree

  pub functions-are : map function_of ir.functions ≡ functions_along (setting_for typed is.definitions) (defined_functions typed is.definitions) 0
  functions-are = ap (λ (w : IrWhole). w.functions) is.is.tree

  pub complete-defined : (number : ℕ) (function : TypedFunction) → slice_get typed.functions number ≡ Some function → is_some function.body ≡ true → IsDefined typed.functions number
  complete-defined number function at complete =
      let name : (name : At) × (function.defined ≡ Some name) = whole-defined function (at-all is_whole typed.functions number function lawful.functions_are_whole at) complete in
      (name.0, record { function = function; there = at; defined = name.1 })

  -- the function of a number in the tree
  pub table-there : (number : ℕ) (function : TreeFunction) (functions : List IrFunction) → slice_get (map function_of functions) number ≡ Some function
      → (g : IrFunction) × (slice_get functions number ≡ Some g) × (function_of g ≡ function)
  table-there number function functions at = by (slice_get functions number) refl (sym (slice_get-map function_of functions number) ∙ at)
    where
      by : (x : Option IrFunction) → slice_get functions number ≡ x → option_map function_of (slice_get functions number) ≡ Some function → (g : IrFunction) × (slice_get functions number ≡ Some g) × (function_of g ≡ function)
      by None same p = absurd (none-some function (rw same at p))
      by (Some g) same p = let own : Some (function_of g) ≡ Some function = rw same at p in (g, same, cc)

  parameters-alike : (x : Option ℕ) → taken_by_object (parameter_object (tables_of ir) x) ≡ taken_by_object (parameter_object typed x)
  parameters-alike None = refl
  parameters-alike (Some object) =
      taken-alike (number_in is.definitions) (slice_get typed.objects object) (slice_get ir.objects object) (ap (λ (l : List Object). slice_get l object) objects-are ∙ slice_get-map (renumbered is.definitions) typed.objects object)

  taken-there : (number : ℕ) (function : TypedFunction) → slice_get typed.functions number ≡ Some function → is_some function.body ≡ true → (parameter : ℕ)
      → taken_at (tables_of ir) (Function (number_at numbers number)) parameter ≡ taken_at typed (Function number) parameter
  unfolding complete-defined
  taken-there number function at complete parameter =
      let defined : IsDefined typed.functions number = complete-defined number function at complete in
      let found = there typed is.definitions is.are number defined in
      let g : (g : IrFunction) × (slice_get ir.functions (number_in is.definitions number) ≡ Some g) × (function_of g ≡ (function_tree (setting_for typed is.definitions) defined.1.function found.first).function) =
      table-there (number_in is.definitions number) _ ir.functions (ap (λ (l : List TreeFunction). slice_get l (number_in is.definitions number)) functions-are ∙ found.is) in
      let params : g.0.params ≡ function.params = ap (λ (f : TreeFunction). f.params) g.2 in
      ap (λ (n : ℕ). taken_by_parameter (tables_of ir) (slice_get (tables_of ir).functions n) parameter) (number_is typed is.definitions number defined)
      ∙ ap (λ (o : Option TypedFunction). taken_by_parameter (tables_of ir) o parameter) (slice_get-map table_function ir.functions (number_in is.definitions number) ∙ ap (option_map table_function) g.1)
      ∙ parameters-alike (slice_get g.0.params parameter) ∙ ap (λ (l : List ℕ). taken_by_object (parameter_object typed (slice_get l parameter))) params
      ∙ sym (ap (λ (o : Option TypedFunction). taken_by_parameter typed o parameter) at)

  pub agrees : Agrees typed (tables_of ir) numbers (number_in is.definitions)
  agrees = record {
    objects = λ number. ap (λ (l : List Object). slice_get l number) objects-are ∙ slice_get-map (renumbered is.definitions) typed.objects number;
    functions = λ number complete. by number (slice_get typed.functions number) refl complete;
  }
    where
      by : (number : ℕ) (x : Option TypedFunction) → slice_get typed.functions number ≡ x → is_complete (slice_get typed.functions number) ≡ true → (parameter : ℕ)
          → taken_at (tables_of ir) (Function (number_at numbers number)) parameter ≡ taken_at typed (Function number) parameter
      by number None at complete = never (rw at at complete)
      by number (Some function) at complete = taken-there number function at (rw at at complete)

  -- ---- the definitions

  -- what the walk of a definition asks for
  pub record RunsWell (function : TypedFunction) : Type 0 where
    pub complete : is_some function.body ≡ true
    pub each : Each (fine typed) (in_function typed function)
    pub follows : follow_one_another (begun_in (in_function typed function)) ≡ true

  pub runs-well : Each (fine typed) (in_source typed) → (number : ℕ) → IsDefined typed.functions number → RunsWell (function_at typed.functions number)
  runs-well each number defined =
      subst (λ (o : Option TypedFunction). RunsWell (unwrap_or o nameless)) (sym defined.1.there) (record {
        complete = whole-complete defined.1.function defined.0 (at-all is_whole typed.functions number defined.1.function lawful.functions_are_whole defined.1.there) defined.1.defined;
        each = at-flat (fine typed) (in_function typed) typed.functions number defined.1.function each defined.1.there;
        follows = one-later defined.1.function.params _ (subst (λ (l : List ℕ). follow_one_another l ≡ true) (sym (lawful.objects_are_declared number defined.1.function defined.1.there)) (lawful.objects_follow number));
      })

  pub body-stands : (gives : Option Width) (body : Option TypedBlock) (next : ℕ) → is_some body ≡ true → Each (fine typed) (in_body typed gives body) → follow_one_another (begun_in (in_body typed gives body)) ≡ true
      → stands (tables_of ir) (body_tree (setting_for typed is.definitions) body next).tree (Body (record { in_loop = false; gives = gives })) ≡ all_of typed (tables_of ir) numbers (in_body typed gives body)
  body-stands gives None next complete each follows = never complete
  body-stands gives (Some body) next complete each follows = (block-runs typed (tables_of ir) numbers (number_in is.definitions) agrees body next (record { in_loop = false; gives = gives })).0.runs each follows

  definitions-stand : (list : List ℕ) (first : ℕ) → ((k : ℕ) → k < length list → RunsWell (function_at typed.functions (get_or list k 0)))
      → flat_map (function_stands (tables_of ir)) (functions_along (setting_for typed is.definitions) (map (function_at typed.functions) list) first)
      ≡ all_of typed (tables_of ir) numbers (flat_map (in_function typed) (map (function_at typed.functions) list))
  definitions-stand [] first well = refl
  definitions-stand (number ∷ list) first well =
      let function : TypedFunction = function_at typed.functions number in
      let own : RunsWell function = well 0 (omega arith) in
      rw (body-stands function.gives function.body (first + 1) own.complete own.each own.follows, definitions-stand list _ (λ k low. well (suc k) (omega (arith, low))))
      (sym (flat_map-append (converts (tables_of ir) numbers) (in_function typed function) _))

  -- what stands in the definitions of the source
  abbrev pub defined_things : List Thing
  defined_things = flat_map (in_function typed) (defined_functions typed is.definitions)

  pub stands-are : Each (fine typed) (in_source typed) → stands_in ir ≡ all_of typed (tables_of ir) numbers defined_things
  stands-are each =
      ap (flat_map (function_stands (tables_of ir))) functions-are
      ∙ definitions-stand (numbers_defined is.definitions) 0 (λ k low. runs-well each _ (defined_at typed is.definitions is.are k (let many = as_many typed is.definitions is.are in omega (arith, many, low))))

  -- what passes everywhere in the source passes in its definitions
  named-passes : (test : Thing → Bool) (number : ℕ) → Each test (in_source typed) → Each test (in_function typed (function_at typed.functions number))
  named-passes test number each = by (slice_get typed.functions number) refl
    where
      by : (x : Option TypedFunction) → slice_get typed.functions number ≡ x → Each test (in_function typed (function_at typed.functions number))
      by None at = rw at (none test)
      by (Some function) at = rw at (at-flat test (in_function typed) typed.functions number function each at)

  listed-pass : (test : Thing → Bool) (list : List ℕ) → Each test (in_source typed) → Each test (flat_map (in_function typed) (map (function_at typed.functions) list))
  listed-pass test [] each = none test
  listed-pass test (number ∷ list) each = joined test _ _ (named-passes test number each) (listed-pass test list each)

  pub defined-pass : (test : Thing → Bool) → Each test (in_source typed) → Each test defined_things
  defined-pass test each = listed-pass test (numbers_defined is.definitions) each

  -- ---- tests

  things-pass : (test other : Thing → Bool) → ((x : Thing) → fine typed x ≡ true → test x ≡ true → Each other (things_of (converts (tables_of ir) numbers x))) → (list : List Thing)
      → Each (fine typed) list → Each test list → Each other (things_of (all_of typed (tables_of ir) numbers list))
  things-pass test other passes [] each all = none other
  things-pass test other passes (x ∷ list) each all =
      subst (λ (l : List Thing). Each other l) (sym (flat_map-append thing_of (converts (tables_of ir) numbers x) (all_of typed (tables_of ir) numbers list)))
      (joined other _ _ (passes x (head (fine typed) x list each) (head test x list all)) (things-pass test other passes list (tail (fine typed) x list each) (tail test x list all)))

  -- a test of the tree passes everywhere where one of the source does
  pub everywhere : (test other : Thing → Bool) → ((x : Thing) → fine typed x ≡ true → test x ≡ true → Each other (things_of (converts (tables_of ir) numbers x)))
      → Each (fine typed) (in_source typed) → Everywhere typed test → EverywhereIn ir other
  everywhere test other passes each all =
      (subst (λ (l : List TreeThing). Each other (things_of l)) (sym (stands-are each)) (things-pass test other passes defined_things (defined-pass (fine typed) each) (defined-pass test (record { all = all })))).all
