-- Definitions whose names stand at tokens that rise are one list where they are the same definitions.
use Rattle.std.proofs.Common.{◌≡◌, ◌⊎◌, ℕ, zero, suc, ◌≤◌, List, [], ◌∷◌, Bool, true, false, refl, sym, ap, ◌∙◌, subst, inl, inr, arith}
use Rattle.std.specs.Prelude.{if◌then◌else◌, nat_lt, slice_get, Some}
use Rattle.std.proofs.lemmas.Bool.{cases_Bool}
use Rattle.std.proofs.lemmas.Bool.Decides.{nat_tests}
use Rattle.std.proofs.lemmas.Option.{none-some, same_Some}
use Rattle.c_typed.specs.declared.typed.TypedFunction.{TypedFunction}
use Rattle.lawful_sources.specs.Lawful.{token_in, with_definition}

-- ---- what is in a list

abbrev pub In : {A : Type 0} → List A → A → Type 0
In list x = (k : ℕ) × (slice_get list k ≡ Some x)

pub in-later : {A : Type 0} (y x : A) (list : List A) → In list x → In (y ∷ list) x
in-later y x list p = (suc p.0, p.1)

pub first-or : {A : Type 0} (y x : A) (list : List A) → In (y ∷ list) x → (y ≡ x) ⊎ In list x
first-or y x list (zero, p) = inl (same_Some y x p)
first-or y x list (suc k, p) = inr (k, p)

-- ---- rising tokens

-- from this token on
abbrev pub Rises : ℕ → List TypedFunction → Type 0
Rises n [] = Unit {0}
Rises n (f ∷ rest) = (n ≤ token_in f.defined) × Rises (suc (token_in f.defined)) rest

each-rises : (n : ℕ) (list : List TypedFunction) (f : TypedFunction) → Rises n list → In list f → n ≤ token_in f.defined
each-rises n [] f r p = absurd (none-some f p.1)
each-rises n (g ∷ list) f r p = elim (first-or g f list p) [
  | inl same ↦ subst (λ (h : TypedFunction). n ≤ token_in h.defined) same r.0
  | inr later ↦ let above = each-rises (suc (token_in g.defined)) list f r.1 later in omega (arith, r.0, above)
]

-- none stands after itself
not-again : (f g h : TypedFunction) (list : List TypedFunction) → f ≡ g → Rises (suc (token_in f.defined)) list → In list h → g ≡ h → ⊥
not-again f g h list same r p is =
    let above = each-rises (suc (token_in f.defined)) list h r p in
    let own : token_in f.defined ≡ token_in h.defined = ap (λ (x : TypedFunction). token_in x.defined) (same ∙ is) in
    omega (arith, above, own)

same-first : (f g : TypedFunction) (fs gs : List TypedFunction) → Rises (suc (token_in f.defined)) fs → Rises (suc (token_in g.defined)) gs → In (g ∷ gs) f → In (f ∷ fs) g → f ≡ g
same-first f g fs gs r s p q = elim (first-or g f gs p) [
  | inl same ↦ sym same
  | inr later ↦ elim (first-or f g fs q) [
    | inl same ↦ same
    | inr also ↦ absurd (let one = each-rises (suc (token_in g.defined)) gs f s later in let other = each-rises (suc (token_in f.defined)) fs g r also in omega (arith, one, other))
  ]
]

in-rest : (f g h : TypedFunction) (fs gs : List TypedFunction) → f ≡ g → Rises (suc (token_in f.defined)) fs → In fs h → In (g ∷ gs) h → In gs h
in-rest f g h fs gs same r p q = elim (first-or g h gs q) [
  | inl is ↦ absurd (not-again f g h fs same r p is)
  | inr later ↦ later
]

pub one-list : (n m : ℕ) (fs gs : List TypedFunction) → Rises n fs → Rises m gs → ((f : TypedFunction) → In fs f → In gs f) → ((f : TypedFunction) → In gs f → In fs f) → fs ≡ gs
one-list n m [] [] r s to from = refl
one-list n m [] (g ∷ gs) r s to from = absurd (none-some g (from g (0, refl)).1)
one-list n m (f ∷ fs) [] r s to from = absurd (none-some f (to f (0, refl)).1)
one-list n m (f ∷ fs) (g ∷ gs) r s to from =
    let same : f ≡ g = same-first f g fs gs r.1 s.1 (to f (0, refl)) (from g (0, refl)) in
    let rest : fs ≡ gs = one-list (suc (token_in f.defined)) (suc (token_in g.defined)) fs gs r.1 s.1
    (λ h p. in-rest f g h fs gs same r.1 p (to h (in-later f h fs p))) (λ h p. in-rest g f h gs fs (sym same) s.1 p (from h (in-later g h gs p))) in
    ap (λ (x : TypedFunction). x ∷ fs) same ∙ ap (λ (l : List TypedFunction). g ∷ l) rest

-- ---- one definition among others

pub put-rises : (n : ℕ) (f : TypedFunction) (list : List TypedFunction) → n ≤ token_in f.defined → Rises n list → ((g : TypedFunction) → In list g → token_in g.defined ≡ token_in f.defined → ⊥) → Rises n (with_definition f list)
put-rises n f [] less r apart = (less, tt)
put-rises n f (g ∷ list) less r apart = elim (cases_Bool (nat_lt (token_in g.defined) (token_in f.defined))) [
  | inl before ↦ rw before (r.0, put-rises (suc (token_in g.defined)) f list (grind (arith, nat_tests)) r.1 (λ h p. apart h (in-later g h list p)))
  | inr after ↦
      let other : token_in g.defined ≡ token_in f.defined → ⊥ = apart g (0, refl) in
      let more : suc (token_in f.defined) ≤ token_in g.defined = grind (arith, nat_tests) in
      rw after (less, (more, r.1))
]

pub from-put : (f g : TypedFunction) (list : List TypedFunction) → In (with_definition f list) g → (f ≡ g) ⊎ In list g
from-put f g [] p = first-or f g [] p
from-put f g (h ∷ list) p = by (nat_lt (token_in h.defined) (token_in f.defined)) (from-put f g list) p
  where
    by : (test : Bool) → (In (with_definition f list) g → (f ≡ g) ⊎ In list g) → In (if test then h ∷ with_definition f list else f ∷ h ∷ list) g → (f ≡ g) ⊎ In (h ∷ list) g
    by true later p = elim (first-or h g (with_definition f list) p) [
      | inl same ↦ inr (0, ap Some same)
      | inr rest ↦ elim (later rest) [
        | inl own ↦ inl own
        | inr other ↦ inr (in-later h g list other)
      ]
    ]
    by false later p = first-or f g (h ∷ list) p

pub put-own : (f : TypedFunction) (list : List TypedFunction) → In (with_definition f list) f
put-own f [] = (0, refl)
put-own f (h ∷ list) = by (nat_lt (token_in h.defined) (token_in f.defined)) (put-own f list)
  where
    by : (test : Bool) → In (with_definition f list) f → In (if test then h ∷ with_definition f list else f ∷ h ∷ list) f
    by true own = in-later h f (with_definition f list) own
    by false own = (0, refl)

pub put-other : (f g : TypedFunction) (list : List TypedFunction) → In list g → In (with_definition f list) g
put-other f g [] p = absurd (none-some g p.1)
put-other f g (h ∷ list) p = by (nat_lt (token_in h.defined) (token_in f.defined)) (put-other f g list) (first-or h g list p)
  where
    by : (test : Bool) → (In list g → In (with_definition f list) g) → (h ≡ g) ⊎ In list g → In (if test then h ∷ with_definition f list else f ∷ h ∷ list) g
    by true later q = elim q [
      | inl same ↦ (0, ap Some same)
      | inr rest ↦ in-later h g (with_definition f list) (later rest)
    ]
    by false later q = in-later f g (h ∷ list) p
