-- What the parameter at each place of a call takes, on both sides; and calls without a fault.
use Rattle.std.proofs.Common.{◌≡◌, ℕ, zero, suc, ◌<◌, List, [], ◌∷◌, Bool, true, false, map, length, refl, sym, ap, ◌∙◌, subst, arith}
use Rattle.std.specs.Prelude.{Option, Some, None, is_some, ◌==◌, nat_lt, codes, slice_get, if◌then◌else◌}
use Rattle.std.specs.Str.{bytes_eq}
use Rattle.std.proofs.lemmas.Bool.{eqb-true}
use Rattle.std.proofs.lemmas.Bool.Decides.{nat_tests}
use Rattle.sat_base.specs.declared.name.At.{At}
use Rattle.sat_base.specs.declared.width.Width.{Width}
use Rattle.c_tree.specs.declared.function.Function.{Function}
use Rattle.c_tree.specs.declared.function.Param.{Param}
use Rattle.c_tree.specs.declared.program.Item.{Item}
use Rattle.c_typed.specs.declared.call.Callee.{Callee}
use Rattle.c_typed.specs.declared.call.Callee.TheVariants as callees
use Rattle.c_typed.specs.declared.typed.Typed.{Typed}
use Rattle.c_typed.specs.declared.typed.TypedFunction.{TypedFunction}
use Rattle.operator_meaning.specs.declared.object.Object.{Object}
use Rattle.operator_meaning.specs.Table.{width_at}
use Rattle.predefined_calls.specs.Calls.{gives_of, takes_of}
use Rattle.c_seen.specs.declared.functions.Declaration.{Declaration}
use Rattle.c_scopes.specs.Scopes.{Known}
use Rattle.c_seen.specs.declared.seen.Called.{Called}
use Rattle.c_seen.specs.declared.seen.Called.TheVariants as calls
use Rattle.c_seen.specs.declared.seen.Kind.{Kind}
use Rattle.c_seen.specs.declared.seen.Meaning.{Meaning}
use Rattle.c_seen.specs.declared.seen.Meaning.TheVariants as means
use Rattle.c_seen.specs.declared.seen.Need.TheVariants as needs
use Rattle.c_seen.specs.declared.seen.Seen.{Seen}
use Rattle.c_seen.specs.declared.seen.Seen.TheVariants as seen
use Rattle.c_seen.specs.declared.seen.View.{View as SeenView}
use Rattle.c_seen.specs.declared.seen.Wanted.TheVariants as wants
use Rattle.c_seen.specs.Functions.{function_at, functions_of, is_defined}
use Rattle.c_seen.specs.Meanings.{Names, called_as, called_function, wanted_at, wanted_of_function}
use Rattle.tied_names.specs.declared.tie.Asked.TheVariants as asks
use Rattle.tied_names.specs.declared.tie.Tie.{Tie}
use Rattle.tied_names.specs.declared.tie.Tie.TheVariants as ties
use Rattle.tied_names.specs.Ties.{callee_by, asked_of, asked_by_function}
use Rattle.lawful_sources.specs.Things.{Taken, Number, View, Thing, Call, taken_at, taken_by, taken_by_object, taken_by_parameter, taken_by_predefined, parameter_object}
use Rattle.lawful_names.proofs.Agreement.{Sort, sort_of, IsParameter, AreParameters, IsFunction, Agrees, is_predefined}
use Rattle.lawful_names.proofs.Clean.{Clean, never}
use Rattle.lawful_names.proofs.Fitting.{Fits, IsGoodCall, wanted_for, asked_for, need_if}

-- ---- one parameter

abbrev pub taken_of : Sort → Taken
taken_of sort = if sort.view then View sort.width sort.is_const else Number sort.width

pub record TakesAt (source : Typed) (items : List Item) (meaning : Option Meaning) (tie : Option Tie) (callee : Callee) (place : ℕ) : Type 0 where
  pub taken : Taken
  pub wanted : wanted_at items meaning place ≡ wanted_for taken
  pub asked : asked_of items tie place ≡ asked_for taken
  pub takes : taken_at source callee place ≡ Some taken

record ParameterAt (source : Typed) (numbers : List ℕ) (params : List Param) (place : ℕ) : Type 0 where
  param : Param
  stands : slice_get params place ≡ Some param
  number : ℕ
  numbered : slice_get numbers place ≡ Some number
  is : IsParameter source number (sort_of param)

parameter-at : (source : Typed) (numbers : List ℕ) (params : List Param) (place : ℕ) → AreParameters source numbers (map sort_of params) → place < length params → ParameterAt source numbers params place
parameter-at source [] [] place all less = absurd (omega arith)
parameter-at source [] (param ∷ params) place all less = absurd all
parameter-at source (number ∷ numbers) [] place all less = absurd all
parameter-at source (number ∷ numbers) (param ∷ params) zero all less = record { param = param; stands = refl; number = number; numbered = refl; is = all.0 }
parameter-at source (number ∷ numbers) (param ∷ params) (suc place) all less =
    let later : ParameterAt source numbers params place = parameter-at source numbers params place all.1 (omega arith) in
    record { param = later.param; stands = later.stands; number = later.number; numbered = later.numbered; is = later.is }

wanted-sort : (view : Bool) (width : Width) (is_const : Bool) → (if view then wants.View (record { width = width; is_const = is_const }) else wants.Number) ≡ wanted_for (taken_of (record { view = view; width = width; is_const = is_const }))
wanted-sort true width is_const = refl
wanted-sort false width is_const = refl

asked-sort : (view : Bool) (width : Width) (is_const : Bool) → (if view then asks.View else asks.Number width) ≡ asked_for (taken_of (record { view = view; width = width; is_const = is_const }))
asked-sort true width is_const = refl
asked-sort false width is_const = refl

taken-sort : (source : Typed) (number : ℕ) (sort : Sort) (p : IsParameter source number sort) → taken_by p.object ≡ taken_of sort
taken-sort source number sort p = rw (p.views, p.widths, p.consts) refl

function-takes : (source : Typed) (items : List Item) (name : List ℕ) (item number : ℕ) (f : IsFunction source items name item number) → is_some f.function.body ≡ true → (place : ℕ) → place < length f.declaration.params
    → TakesAt source items (Some (means.Function item)) (Some (ties.Function number item)) (callees.Function number) place
function-takes source items name item number f whole place less =
    let p : ParameterAt source f.function.params f.declaration.params place = parameter-at source f.function.params f.declaration.params place (f.parameters whole) less in record {
      taken = taken_of (sort_of p.param);
      wanted = ap (λ (o : Option Function). wanted_of_function o place) f.declares ∙ rw p.stands (wanted-sort _ _ _);
      asked = ap (λ (o : Option Function). asked_by_function o place) f.declares ∙ rw p.stands (asked-sort _ _ _);
      takes = ap (λ (o : Option TypedFunction). taken_by_parameter source o place) f.stands
          ∙ ap (λ (o : Option ℕ). taken_by_object (parameter_object source o)) p.numbered
          ∙ ap taken_by_object p.is.stands
          ∙ ap (λ (t : Taken). Some t) (taken-sort source p.number (sort_of p.param) p.is);
    }

taken-predefined : (source : Typed) (callee : Callee) (place : ℕ) → is_predefined callee ≡ true → taken_at source callee place ≡ taken_by_predefined callee place
taken-predefined source (callees.Function number) place p = cc
taken-predefined source (callees.Operator op) place p = refl
taken-predefined source callees.Move16 place p = refl
taken-predefined source callees.Move32 place p = refl
taken-predefined source callees.Logic16 place p = refl
taken-predefined source callees.Logic32 place p = refl
taken-predefined source callees.Test place p = refl
taken-predefined source callees.SampleIn place p = refl
taken-predefined source callees.SampleLeft place p = refl
taken-predefined source callees.SampleOut place p = refl

predefined-takes : (source : Typed) (items : List Item) (callee : Callee) → is_predefined callee ≡ true → (place : ℕ) → place < length (takes_of callee)
    → TakesAt source items (Some (means.Predefined callee)) (Some (ties.Predefined callee)) callee place
predefined-takes source items callee own place less =
    let within : nat_lt place (length (takes_of callee)) ≡ true = grind (arith, nat_tests) in record {
      taken = Number (width_at (takes_of callee) place);
      wanted = rw within refl;
      asked = rw within refl;
      takes = taken-predefined source callee place own ∙ rw within refl;
    }

-- ---- calls

-- a call without a fault is no view
pub called-no-view : (at : At) (called : Called) (arguments : ℕ) (view : SeenView) (first : At) → Clean (seen.Call (record { at = at; called = called; arguments = arguments; need = needs.View view first })) → ⊥
called-no-view at calls.Unknown arguments view first c = never at c.unknown
called-no-view at calls.NoFunction arguments view first c = never at c.function
called-no-view at (calls.Function gives parameters defined main) arguments view first c = never first c.view

module _ (source : Typed) (items : List Item) (Shaped : Kind → Object → Type 0) where
  abbrev pub call_seen : At → Called → ℕ → Bool → Seen
  call_seen at called arguments is_needed = seen.Call (record { at = at; called = called; arguments = arguments; need = need_if is_needed })

  good-call : (name : List ℕ) (at : At) (gives : Bool) (parameters : ℕ) (defined main : Bool) (arguments : ℕ) (is_needed : Bool) → defined ≡ is_defined (functions_of items) name → main ≡ bytes_eq name (codes "main")
      → (same : Bool) → (arguments == parameters) ≡ same → Clean (call_seen at (calls.Function gives parameters defined main) arguments is_needed) → IsGoodCall items name gives parameters arguments is_needed
  good-call name at gives parameters defined main arguments is_needed d m false is c = let some = rw is at c.count in absurd (never at some)
  good-call name at gives parameters false main arguments is_needed d m true is c = absurd (never at c.definition)
  good-call name at gives parameters true true arguments is_needed d m true is c = absurd (never at c.calls_main)
  good-call name at false parameters true false arguments true d m true is c = absurd (never at c.value)
  good-call name at true parameters true false arguments true d m true is c = record { count = eqb-true arguments parameters is; needed = λ p. refl; complete = sym d; other = sym m }
  good-call name at gives parameters true false arguments false d m true is c = record { count = eqb-true arguments parameters is; needed = λ p. cc; complete = sym d; other = sym m }

  good-predefined : (at : At) (gives : Bool) (parameters arguments : ℕ) (is_needed : Bool) (same : Bool) → (arguments == parameters) ≡ same
      → Clean (call_seen at (calls.Function gives parameters true false) arguments is_needed) → (arguments ≡ parameters) × (is_needed ≡ true → gives ≡ true)
  good-predefined at gives parameters arguments is_needed false is c = let some = rw is at c.count in absurd (never at some)
  good-predefined at false parameters arguments true true is c = absurd (never at c.value)
  good-predefined at true parameters arguments true true is c = (eqb-true arguments parameters is, λ p. refl)
  good-predefined at gives parameters arguments false true is c = (eqb-true arguments parameters is, λ p. cc)

  -- a call stands rightly, and each of its arguments has a parameter
  pub record CallFits (test : Thing → Bool) (meaning : Option Meaning) (tie : Option Tie) (arguments : ℕ) (is_needed : Bool) : Type 0 where
    pub stands : test (Call (callee_by tie) arguments is_needed) ≡ true
    pub takes : (place : ℕ) → place < arguments → TakesAt source items meaning tie (callee_by tie) place

  function-fits : (sound : Seen → Bool) (test : Thing → Bool) → Fits source items Shaped sound test → (names : Names) → names.functions ≡ functions_of items → (at : At) (name : List ℕ) (item number declared : ℕ) (arguments : ℕ) (is_needed : Bool)
      → (f : IsFunction source items name item number) → item ≡ declared → Clean (call_seen at (called_function names name (Some f.declaration)) arguments is_needed)
      → CallFits test (Some (means.Function item)) (Some (ties.Function number declared)) arguments is_needed
  function-fits sound test fits names same at name item number declared arguments is_needed f is c =
      let good : IsGoodCall items name (is_some f.declaration.gives) (length f.declaration.params) arguments is_needed =
      good-call name at _ _ _ _ arguments is_needed (ap (λ (l : List (Known Declaration)). is_defined l name) same) refl (arguments == length f.declaration.params) refl c in
      subst (λ (d : ℕ). CallFits test (Some (means.Function item)) (Some (ties.Function number d)) arguments is_needed) is (record {
        stands = fits.calls name item number arguments is_needed f good;
        takes = λ place less. function-takes source items name item number f (f.defined ∙ good.complete) place (subst (λ (n : ℕ). place < n) good.count less);
      })

  pub call-fits : (sound : Seen → Bool) (test : Thing → Bool) → Fits source items Shaped sound test → (names : Names) → names.items ≡ items → names.functions ≡ functions_of items → (at : At) (name : List ℕ) (meaning : Option Meaning) (tie : Option Tie)
      → Agrees source items Shaped name meaning tie → (arguments : ℕ) (is_needed : Bool) → Clean (call_seen at (called_as names name meaning) arguments is_needed) → CallFits test meaning tie arguments is_needed
  call-fits sound test fits names same all at name None tie a arguments is_needed c = absurd (never at c.unknown)
  call-fits sound test fits names same all at name (Some (means.Object kind width is_const)) tie a arguments is_needed c = absurd (never at c.function)
  call-fits sound test fits names same all at name (Some (means.Function item)) None a arguments is_needed c = absurd a
  call-fits sound test fits names same all at name (Some (means.Function item)) (Some (ties.Object tied)) a arguments is_needed c = absurd a
  call-fits sound test fits names same all at name (Some (means.Function item)) (Some (ties.Predefined callee)) a arguments is_needed c = absurd a
  call-fits sound test fits names same all at name (Some (means.Function item)) (Some (ties.Function number declared)) a arguments is_needed c =
      let found : function_at names.items item ≡ Some a.0.declaration = ap (λ (l : List Item). function_at l item) same ∙ a.0.declares in
      function-fits sound test fits names all at name item number declared arguments is_needed a.0 a.1
      (subst (λ (o : Option Function). Clean (call_seen at (called_function names name o) arguments is_needed)) found c)
  call-fits sound test fits names same all at name (Some (means.Predefined callee)) None a arguments is_needed c = absurd a
  call-fits sound test fits names same all at name (Some (means.Predefined callee)) (Some (ties.Object tied)) a arguments is_needed c = absurd a
  call-fits sound test fits names same all at name (Some (means.Predefined callee)) (Some (ties.Function number declared)) a arguments is_needed c = absurd a
  call-fits sound test fits names same all at name (Some (means.Predefined callee)) (Some (ties.Predefined other)) a arguments is_needed c =
      let good : (arguments ≡ length (takes_of callee)) × (is_needed ≡ true → is_some (gives_of callee) ≡ true) = good-predefined at _ (length (takes_of callee)) arguments is_needed (arguments == length (takes_of callee)) refl c in
      subst (λ (o : Callee). CallFits test (Some (means.Predefined callee)) (Some (ties.Predefined o)) arguments is_needed) a.0 (record {
        stands = subst (λ (n : ℕ). test (Call callee n is_needed) ≡ true) (sym good.0) (fits.predefined callee is_needed a.1 good.1);
        takes = λ place less. predefined-takes source items callee a.1 place (subst (λ (n : ℕ). place < n) good.0 less);
      })
