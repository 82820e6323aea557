-- Definitions in the order of the text: one that stands after all others is the last.
use Rattle.std.proofs.Common.{◌≡◌, ℕ, zero, suc, ◌<◌, ◌≤◌, List, [], ◌∷◌, ◌++◌, Bool, true, false, refl, ap, ◌∙◌, inl, inr, arith}
use Rattle.std.specs.Prelude.{Option, Some, None, is_some, if◌then◌else◌, nat_lt, slice_get, slice_set}
use Rattle.std.proofs.lemmas.Bool.{cases_Bool}
use Rattle.std.proofs.lemmas.Bool.Decides.{nat_tests}
use Rattle.c_tree.specs.declared.function.Function.{Function}
use Rattle.c_typed.specs.declared.typed.TypedFunction.{TypedFunction}
use Rattle.c_types.specs.Sources.{declared, functions_or}
use Rattle.lawful_sources.specs.Lawful.{token_in, with_definition, definitions_in}
use Rattle.lawful_names.proofs.Keeping.{some-same}

-- the names in these definitions stand before a token
abbrev Before : ℕ → List TypedFunction → Type 0
Before n [] = Unit {0}
Before n (f ∷ rest) = (token_in f.defined < n) × Before n rest

-- so do those in the definitions among these functions
abbrev pub Below : ℕ → List TypedFunction → Type 0
Below n [] = Unit {0}
Below n (f ∷ rest) = (is_some f.body ≡ true → token_in f.defined < n) × Below n rest

pub below-more : (m n : ℕ) → m ≤ n → (functions : List TypedFunction) → Below m functions → Below n functions
below-more m n less [] all = tt
below-more m n less (f ∷ rest) all = ((λ p. let own : token_in f.defined < m = all.0 p in omega arith), below-more m n less rest all.1)

below-append : (n : ℕ) (functions : List TypedFunction) (g : Function) → Below n functions → Below n (functions ++ declared g ∷ [])
below-append n [] g all = ((λ p. cc), tt)
below-append n (f ∷ rest) g all = (all.0, below-append n rest g all.1)

pub below-or : (n : ℕ) (known : Option ℕ) (functions : List TypedFunction) (g : Function) → Below n functions → Below n (functions_or known functions g)
below-or n None functions g all = below-append n functions g all
below-or n (Some number) functions g all = all

pub below-set : (n : ℕ) (functions : List TypedFunction) (k : ℕ) (f : TypedFunction) → token_in f.defined < n → Below n functions → Below n (slice_set functions k f)
below-set n [] k f less all = tt
below-set n (h ∷ rest) zero f less all = ((λ p. less), all.1)
below-set n (h ∷ rest) (suc k) f less all = (all.0, below-set n rest k f less all.1)

-- ---- one definition among others

if-before : (test : Bool) (n : ℕ) (one other : List TypedFunction) → Before n one → Before n other → Before n (if test then one else other)
if-before true n one other p q = p
if-before false n one other p q = q

put-before : (n : ℕ) (f : TypedFunction) (list : List TypedFunction) → token_in f.defined < n → Before n list → Before n (with_definition f list)
put-before n f [] less all = (less, tt)
put-before n f (other ∷ rest) less all = if-before (nat_lt (token_in other.defined) (token_in f.defined)) n _ _ (all.0, put-before n f rest less all.1) (less, all)

if-defined : (test : Bool) (n : ℕ) (f : TypedFunction) (list : List TypedFunction) → (test ≡ true → token_in f.defined < n) → Before n list → Before n (if test then with_definition f list else list)
if-defined true n f list less all = put-before n f list (less refl) all
if-defined false n f list less all = all

all-before : (n : ℕ) (functions : List TypedFunction) → Below n functions → Before n (definitions_in functions)
all-before n [] all = tt
all-before n (f ∷ rest) all = if-defined (is_some f.body) n f (definitions_in rest) all.0 (all-before n rest all.1)

put-last : (f : TypedFunction) (list : List TypedFunction) → Before (token_in f.defined) list → with_definition f list ≡ list ++ f ∷ []
put-last f [] all = refl
put-last f (other ∷ rest) all =
    let less : token_in other.defined < token_in f.defined = all.0 in
    let test : nat_lt (token_in other.defined) (token_in f.defined) ≡ true = grind (arith, nat_tests) in
    rw test (ap (λ (l : List TypedFunction). other ∷ l) (put-last f rest all.1))

put-early : (g f : TypedFunction) (list : List TypedFunction) → token_in g.defined < token_in f.defined → with_definition g (list ++ f ∷ []) ≡ with_definition g list ++ f ∷ []
put-early g f [] less = let test : nat_lt (token_in f.defined) (token_in g.defined) ≡ false = grind (arith, nat_tests) in rw test refl
put-early g f (other ∷ rest) less =
    elim (cases_Bool (nat_lt (token_in other.defined) (token_in g.defined))) [
      | inl before ↦ rw before (ap (λ (l : List TypedFunction). other ∷ l) (put-early g f rest less))
      | inr later ↦ rw later refl
    ]

-- ---- all definitions

if-early : (test : Bool) (h f : TypedFunction) (list : List TypedFunction) → (test ≡ true → token_in h.defined < token_in f.defined)
    → (if test then with_definition h (list ++ f ∷ []) else list ++ f ∷ []) ≡ (if test then with_definition h list else list) ++ f ∷ []
if-early true h f list less = put-early h f list (less refl)
if-early false h f list less = refl

if-not : (test : Bool) (one other : List TypedFunction) → test ≡ false → other ≡ (if test then one else other)
if-not true one other p = cc
if-not false one other p = refl

-- a definition in the place of a declaration, after all others
pub defined-last : (functions : List TypedFunction) (k : ℕ) (t f : TypedFunction) → slice_get functions k ≡ Some t → is_some t.body ≡ false → is_some f.body ≡ true → Below (token_in f.defined) functions
    → definitions_in (slice_set functions k f) ≡ definitions_in functions ++ f ∷ []
defined-last [] k t f stands bare whole all = cc
defined-last (h ∷ rest) zero t f stands bare whole all =
    let same : h ≡ t = some-same h t stands in
    rw whole (put-last f (definitions_in rest) (all-before (token_in f.defined) rest all.1)
    ∙ ap (λ (l : List TypedFunction). l ++ f ∷ []) (if-not (is_some h.body) _ (definitions_in rest) (ap (λ (x : TypedFunction). is_some x.body) same ∙ bare)))
defined-last (h ∷ rest) (suc k) t f stands bare whole all =
    ap (λ (l : List TypedFunction). if is_some h.body then with_definition h l else l) (defined-last rest k t f stands bare whole all.1)
    ∙ if-early (is_some h.body) h f (definitions_in rest) all.0

declared-none : (functions : List TypedFunction) (g : Function) → definitions_in (functions ++ declared g ∷ []) ≡ definitions_in functions
declared-none [] g = refl
declared-none (h ∷ rest) g = ap (λ (l : List TypedFunction). if is_some h.body then with_definition h l else l) (declared-none rest g)

-- a declaration alone is none
pub known-none : (known : Option ℕ) (functions : List TypedFunction) (g : Function) → definitions_in (functions_or known functions g) ≡ definitions_in functions
known-none None functions g = declared-none functions g
known-none (Some number) functions g = refl
