-- What is kept of each function that was declared, from one item to the next: its number, what it gives and takes, and
-- whether it has a definition.
use Rattle.std.proofs.Common.{◌≡◌, ℕ, zero, suc, ◌<◌, List, [], ◌∷◌, ◌++◌, Bool, true, false, map, length, refl, sym, ap, ◌∙◌, subst, arith}
use Rattle.std.specs.Prelude.{Option, Some, None, is_some, ◌||◌, not, if◌then◌else◌, slice_get, slice_set}
use Rattle.std.specs.Str.{bytes_eq}
use Rattle.std.proofs.lemmas.Slice.Eq.{bytes_eq-Decides}
use Rattle.sat_base.specs.declared.name.At.{At}
use Rattle.sat_base.specs.declared.name.Named.{Named}
use Rattle.c_scopes.specs.declared.scopes.Declared.{Declared}
use Rattle.c_scopes.specs.Scopes.{Known, meaning_of}
use Rattle.c_tree.specs.declared.function.Function.{Function}
use Rattle.c_tree.specs.declared.function.Param.{Param}
use Rattle.c_tree.specs.declared.program.Item.{Item}
use Rattle.c_typed.specs.declared.typed.Typed.{Typed}
use Rattle.c_typed.specs.declared.typed.TypedFunction.{TypedFunction}
use Rattle.operator_meaning.specs.declared.object.Object.{Object}
use Rattle.predefined_calls.specs.Calls.{callee_of}
use Rattle.c_seen.specs.declared.functions.Declaration.{Declaration}
use Rattle.c_seen.specs.declared.seen.Meaning.{Meaning}
use Rattle.c_seen.specs.declared.seen.Meaning.TheVariants as means
use Rattle.c_seen.specs.declared.seen.Seen.TheVariants as seen
use Rattle.c_seen.specs.Functions.{function_at, is_defined, defined_by, is_alike, is_unlike, differs_from}
use Rattle.c_seen.specs.Meanings.{is_own}
use Rattle.c_seen.specs.Sources.{function_seen}
use Rattle.c_faults.specs.Rows.{at_if}
use Rattle.tied_names.specs.declared.tie.Tie.{Tie}
use Rattle.tied_names.specs.declared.tie.Tie.TheVariants as ties
use Rattle.tied_names.specs.declared.tie.TiedObject.{TiedObject}
use Rattle.tied_names.specs.Ties.{Here, tied_or}
use Rattle.c_types.specs.Sources.{function_number, declared, parameter_of, after_named, after_parameter, parameters_of, number_or, functions_or}
use Rattle.lawful_names.proofs.Agreement.{sort_of, sorts, AreParameters}
use Rattle.lawful_names.proofs.Alike.{alike-gives, alike-sorts}
use Rattle.lawful_names.proofs.Clean.{Clean, never}
use Rattle.lawful_names.proofs.Within.{Within, within-more, at-length, stands-last, parameters-grow}
use Rattle.lawful_names.proofs.Truths.{or-right}

-- what is in scope at file scope, as it is seen and as it is tied, with the functions on both sides
pub record State : Type 0 where
  pub seen : List (Known Meaning)
  pub tied : List (Known Tie)
  pub earlier : List (Known Declaration)
  pub functions : List TypedFunction

-- the number of the function that a name is tied to
abbrev pub number_in : List (Known Tie) → List ℕ → Option ℕ
number_in tied name = function_number (tied_or (meaning_of tied name) (callee_of name))

-- the function of this number is declared under the name, and gives and takes what this declaration of it does
pub record Keeps (source : Typed) (items : List Item) (name : List ℕ) (number : ℕ) (of : Function) (st : State) : Type 0 where
  pub last : ℕ
  pub scoped : meaning_of st.seen name ≡ Some (record { depth = 0; what = means.Function last })
  pub numbered : number_in st.tied name ≡ Some number
  pub newest : Declaration
  pub known : meaning_of st.earlier name ≡ Some (record { depth = 0; what = newest })
  pub function : Function
  pub declares : function_at items newest.item ≡ Some function
  pub gives : function.gives ≡ of.gives
  pub takes : sorts function ≡ sorts of
  pub typed : TypedFunction
  pub stands : slice_get st.functions number ≡ Some typed
  pub named : typed.name ≡ name
  pub typed_gives : typed.gives ≡ of.gives
  pub complete : is_some typed.body ≡ newest.is_defined
  pub parameters : is_some typed.body ≡ true → AreParameters source typed.params (sorts of)

-- no function is declared under the name, or one is kept
pub data Covers (source : Typed) (items : List Item) (name : List ℕ) (st : State) : Type 0 where
  Fresh : meaning_of st.earlier name ≡ None → number_in st.tied name ≡ None → Covers source items name st
  Kept : (number : ℕ) (of : Function) → Keeps source items name number of st → Covers source items name st

-- ---- names

if-true : {A : Type 0} (test : Bool) (x y : A) → test ≡ true → (if test then x else y) ≡ x
if-true true x y p = refl
if-true false x y p = cc

if-false : {A : Type 0} (test : Bool) (x y : A) → test ≡ false → (if test then x else y) ≡ y
if-false true x y p = cc
if-false false x y p = refl

pub passed : {A : Type 0} (n name : List ℕ) (one : Declared A) (known : List (Known A)) → bytes_eq n name ≡ false → meaning_of ((n, one) ∷ known) name ≡ meaning_of known name
passed n name one known apart = if-false (bytes_eq n name) (Some one) (meaning_of known name) apart

pub found : {A : Type 0} (n name : List ℕ) (one : Declared A) (known : List (Known A)) → bytes_eq n name ≡ true → meaning_of ((n, one) ∷ known) name ≡ Some one
found n name one known same = if-true (bytes_eq n name) (Some one) (meaning_of known name) same

-- ---- lists of functions

pub get-append : {A : Type 0} (xs ys : List A) (k : ℕ) (x : A) → slice_get xs k ≡ Some x → slice_get (xs ++ ys) k ≡ slice_get xs k
get-append [] ys k x p = cc
get-append (z ∷ xs) ys zero x p = refl
get-append (z ∷ xs) ys (suc k) x p = get-append xs ys k x p

pub get-set : {A : Type 0} (xs : List A) (k : ℕ) (x : A) → k < length xs → slice_get (slice_set xs k x) k ≡ Some x
get-set [] k x less = absurd (omega arith)
get-set (z ∷ xs) zero x less = refl
get-set (z ∷ xs) (suc k) x less = get-set xs k x (omega arith)

get-set-other : {A : Type 0} (xs : List A) (i k : ℕ) (x : A) → (i ≡ k → ⊥) → slice_get (slice_set xs i x) k ≡ slice_get xs k
get-set-other [] i k x apart = refl
get-set-other (z ∷ xs) zero zero x apart = absurd (apart refl)
get-set-other (z ∷ xs) zero (suc k) x apart = refl
get-set-other (z ∷ xs) (suc i) zero x apart = refl
get-set-other (z ∷ xs) (suc i) (suc k) x apart = get-set-other xs i k x (λ p. apart (ap suc p))

pub get-if : {A : Type 0} (test : Bool) (xs : List A) (i k : ℕ) (x : A) → (i ≡ k → ⊥) → slice_get (if test then slice_set xs i x else xs) k ≡ slice_get xs k
get-if true xs i k x apart = get-set-other xs i k x apart
get-if false xs i k x apart = refl

pub some-same : {A : Type 0} (x y : A) → Some x ≡ Some y → x ≡ y
some-same x y p = cc

-- ---- the parameters of a definition

pub named-objects : (here : Here) (one : Object) (name : Option Named) → (after_named here one name).objects ≡ here.objects ++ one ∷ []
named-objects here one None = refl
named-objects here one (Some name) = refl

pub parameters-are : (source : Typed) (here : Here) (number : ℕ) (params : List Param) → Within (parameters_of here number params).after.objects source.objects
    → AreParameters source (parameters_of here number params).numbers (map sort_of params)
parameters-are source here number [] within = tt
parameters-are source here number (param ∷ params) within =
    let one : Object = parameter_of here number param in
    let after : Within (after_parameter here number param).objects source.objects = within-more _ _ _ (parameters-grow (after_parameter here number param) number params) within in
    let grown : Within (here.objects ++ one ∷ []) source.objects = subst (λ (l : List Object). Within l source.objects) (named-objects here one param.name) after in (
      record { object = one; stands = stands-last here.objects source.objects one grown; views = refl; widths = refl; consts = refl },
      parameters-are source (after_parameter here number param) number params within,
    )

-- the number of a function that is declared, and the functions with it among them
abbrev pub own_number : State → List ℕ → ℕ
own_number st n = number_or (number_in st.tied n) (length st.functions)

abbrev pub own_functions : State → Function → List TypedFunction
own_functions st g = functions_or (number_in st.tied g.name.name) st.functions g

module _ (source : Typed) (items : List Item) where
  -- ---- another name is declared

  pub keeps-other : (n name : List ℕ) → bytes_eq n name ≡ false → (number : ℕ) (of : Function) (st : State) (one : Declared Meaning) (other : Declared Tie) (earlier : List (Known Declaration)) (functions : List TypedFunction)
      → meaning_of earlier name ≡ meaning_of st.earlier name → slice_get functions number ≡ slice_get st.functions number → Keeps source items name number of st
      → Keeps source items name number of (record { seen = (n, one) ∷ st.seen; tied = (n, other) ∷ st.tied; earlier = earlier; functions = functions })
  keeps-other n name apart number of st one other earlier functions same stays k = record {
    last = k.last;
    scoped = passed n name one st.seen apart ∙ k.scoped;
    numbered = ap (λ (o : Option (Declared Tie)). function_number (tied_or o (callee_of name))) (passed n name other st.tied apart) ∙ k.numbered;
    newest = k.newest;
    known = same ∙ k.known;
    function = k.function;
    declares = k.declares;
    gives = k.gives;
    takes = k.takes;
    typed = k.typed;
    stands = stays ∙ k.stands;
    named = k.named;
    typed_gives = k.typed_gives;
    complete = k.complete;
    parameters = k.parameters;
  }

  -- ---- an object is declared

  abbrev pub with_object : State → List ℕ → Declared Meaning → TiedObject → State
  with_object st n one tied = record { seen = (n, one) ∷ st.seen; tied = (n, record { depth = 0; what = ties.Object tied }) ∷ st.tied; earlier = st.earlier; functions = st.functions }

  -- a function keeps its name: an object may not take it
  kept-name : {A : Type 0} (n name : List ℕ) (at : At) (number : ℕ) (of : Function) (st : State) → bytes_eq n name ≡ true → Clean (seen.Name at (is_some (callee_of n) || is_own 0 false (meaning_of st.seen n)))
      → Keeps source items name number of st → A
  kept-name n name at number of st same c k =
      let is : n ≡ name = (bytes_eq-Decides n name).0 same in
      let own : is_own 0 false (meaning_of st.seen n) ≡ true = ap (λ (x : List ℕ). is_own 0 false (meaning_of st.seen x)) is ∙ ap (is_own 0 false) k.scoped in
      absurd (never at (subst (λ (b : Bool). at_if b at ≡ None) (or-right (is_some (callee_of n)) _ own) c.duplicate))

  object-keeps-by : (n name : List ℕ) (same : Bool) → bytes_eq n name ≡ same → (at : At) (number : ℕ) (of : Function) (st : State) (one : Declared Meaning) (tied : TiedObject)
      → Clean (seen.Name at (is_some (callee_of n) || is_own 0 false (meaning_of st.seen n))) → Keeps source items name number of st → Keeps source items name number of (with_object st n one tied)
  object-keeps-by n name true is at number of st one tied c k = kept-name n name at number of st is c k
  object-keeps-by n name false is at number of st one tied c k = keeps-other n name is number of st one _ st.earlier st.functions refl refl k

  pub object-keeps : (n name : List ℕ) (at : At) (number : ℕ) (of : Function) (st : State) (one : Declared Meaning) (tied : TiedObject)
      → Clean (seen.Name at (is_some (callee_of n) || is_own 0 false (meaning_of st.seen n))) → Keeps source items name number of st → Keeps source items name number of (with_object st n one tied)
  object-keeps n name = object-keeps-by n name (bytes_eq n name) refl

  fresh-object : (n name : List ℕ) (same : Bool) → bytes_eq n name ≡ same → (st : State) (tied : TiedObject) → number_in st.tied name ≡ None → number_in ((n, record { depth = 0; what = ties.Object tied }) ∷ st.tied) name ≡ None
  fresh-object n name true is st tied p = ap (λ (o : Option (Declared Tie)). function_number (tied_or o (callee_of name))) (found n name (record { depth = 0; what = ties.Object tied }) st.tied is)
  fresh-object n name false is st tied p = ap (λ (o : Option (Declared Tie)). function_number (tied_or o (callee_of name))) (passed n name (record { depth = 0; what = ties.Object tied }) st.tied is) ∙ p

  pub object-covers : (n name : List ℕ) (at : At) (st : State) (one : Declared Meaning) (tied : TiedObject) → Clean (seen.Name at (is_some (callee_of n) || is_own 0 false (meaning_of st.seen n)))
      → Covers source items name st → Covers source items name (with_object st n one tied)
  object-covers n name at st one tied c (Fresh none free) = Fresh none (fresh-object n name (bytes_eq n name) refl st tied free)
  object-covers n name at st one tied c (Kept number of k) = Kept number of (object-keeps n name at number of st one tied c k)

  -- ---- a function is declared

  -- the function of this number among these, as it is once this declaration is among those before
  pub record Entry (n : List ℕ) (of : Function) (number : ℕ) (functions : List TypedFunction) (is_complete : Bool) : Type 0 where
    pub typed : TypedFunction
    pub stands : slice_get functions number ≡ Some typed
    pub named : typed.name ≡ n
    pub gives : typed.gives ≡ of.gives
    pub complete : is_some typed.body ≡ is_complete
    pub parameters : is_some typed.body ≡ true → AreParameters source typed.params (sorts of)

  alike-by : (a b : Bool) (at : At) → at_if (a || not b) at ≡ None → b ≡ true
  alike-by true b at p = absurd (never at p)
  alike-by false true at p = refl
  alike-by false false at p = absurd (never at p)

  pub kept-alike : (g : Function) (number : ℕ) (of : Function) (st : State) → Clean (seen.Function (function_seen items st.earlier g)) → (k : Keeps source items g.name.name number of st) → is_alike k.function g ≡ true
  kept-alike g number of st c k =
      alike-by k.newest.differs (is_alike k.function g) g.name.at
      (subst (λ (o : Option Function). at_if (k.newest.differs || is_unlike o g) g.name.at ≡ None) k.declares
      (subst (λ (o : Option (Declared Declaration)). at_if (differs_from items o g) g.name.at ≡ None) k.known c.differs))

  pub entry-of : (g : Function) (st : State) → Clean (seen.Function (function_seen items st.earlier g)) → Covers source items g.name.name st
      → Entry g.name.name g (own_number st g.name.name) (own_functions st g) (is_defined st.earlier g.name.name)
  entry-of g st c (Fresh none free) =
      subst (λ (o : Option ℕ). Entry g.name.name g (number_or o (length st.functions)) (functions_or o st.functions g) (is_defined st.earlier g.name.name)) (sym free)
      (record { typed = declared g; stands = at-length st.functions (declared g) []; named = refl; gives = refl; complete = sym (ap defined_by none); parameters = λ p. absurd (not-none p) })
    where
      not-none : false ≡ true → ⊥
      not-none p = cc
  entry-of g st c (Kept number of k) =
      let alike : is_alike k.function g ≡ true = kept-alike g number of st c k in
      subst (λ (o : Option ℕ). Entry g.name.name g (number_or o (length st.functions)) (functions_or o st.functions g) (is_defined st.earlier g.name.name)) (sym k.numbered)
      (record {
        typed = k.typed;
        stands = k.stands;
        named = k.named;
        gives = k.typed_gives ∙ sym k.gives ∙ alike-gives k.function g alike;
        complete = k.complete ∙ sym (ap defined_by k.known);
        parameters = λ p. subst (AreParameters source k.typed.params) (sym k.takes ∙ alike-sorts k.function g alike) (k.parameters p);
      })
