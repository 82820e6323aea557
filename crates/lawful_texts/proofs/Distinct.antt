-- Each constant once, where it first is seen: whether those before stand in the order of numbers or not.
use Rattle.std.proofs.Common.{◌≡◌, Ordering, Less, Equal, Greater, List, [], ◌∷◌, Bool, true, false, refl, sym, ap, ◌∙◌, inl, inr}
use Rattle.std.specs.Prelude.{ℤ, ◌||◌}
use Rattle.std.specs.BTreeSet.{insert_key}
use Rattle.std.specs.List.{list_any}
use Rattle.std.specs.Ordering.{match_ordering, int_cmp, int_eq}
use Rattle.std.proofs.lemmas.Bool.{cases_Bool}
use Rattle.std.proofs.lemmas.Bool.Decides.{Decides-int_eq}
use Rattle.std.proofs.lemmas.Map.Lookups.{exact_signed}
use Rattle.c_seen.specs.declared.seen.Seen.{Seen}
use Rattle.c_seen.specs.declared.seen.Seen.TheVariants as seen
use Rattle.c_types.specs.Constants.{constants_after}
use Rattle.lawful_sources.specs.Lawful.{distinct_after}
use Rattle.lawful_texts.proofs.Same.{values}

or-twice : (a b : Bool) → (a || b) ≡ (a || (a || b))
or-twice true b = refl
or-twice false b = refl

or-swap : (a b c : Bool) → (a || (b || c)) ≡ (b || (a || c))
or-swap true true c = refl
or-swap true false c = refl
or-swap false b c = refl

-- the value is one of these
abbrev among : List ℤ → ℤ → Bool
among set value = list_any (int_eq value) set

placed-among : (order : Ordering) (value other found : ℤ) (rest : List ℤ) → int_cmp value other ≡ order → among (insert_key int_cmp rest value) found ≡ (int_eq found value || among rest found)
    → among (match_ordering order (value ∷ other ∷ rest) (other ∷ rest) (other ∷ insert_key int_cmp rest value)) found ≡ (int_eq found value || (int_eq found other || among rest found))
placed-among Less value other found rest is q = refl
placed-among Equal value other found rest is q = rw (exact_signed value other is) (or-twice (int_eq found other) (among rest found))
placed-among Greater value other found rest is q = ap (λ (b : Bool). int_eq found other || b) q ∙ or-swap (int_eq found other) (int_eq found value) (among rest found)

insert-among : (set : List ℤ) (value found : ℤ) → among (insert_key int_cmp set value) found ≡ (int_eq found value || among set found)
insert-among [] value found = refl
insert-among (other ∷ rest) value found = placed-among (int_cmp value other) value other found rest refl (insert-among rest value found)

-- a value that is among them already
absorbed : (before : List ℤ) (value found : ℤ) (rest : Bool) → among before value ≡ true → rest ≡ among before found → (int_eq found value || rest) ≡ among before found
absorbed before value found rest there same =
    elim (cases_Bool (int_eq found value)) [
      | inl is ↦ rw (is, (Decides-int_eq found value).0 is) (sym there)
      | inr other ↦ rw other same
    ]

pub distinct : (set before : List ℤ) (list : List Seen) → ((found : ℤ) → among set found ≡ among before found) → constants_after set list ≡ distinct_after before (values list)
distinct set before [] same = refl
distinct set before (seen.Constant at value ∷ rest) same =
    elim (cases_Bool (among set value)) [
      | inl is ↦ let there : among before value ≡ true = sym (same value) ∙ is in
          rw (is, there) (distinct (insert_key int_cmp set value) before rest (λ found. insert-among set value found ∙ absorbed before value found _ there (same found)))
      | inr is ↦ let absent : among before value ≡ false = sym (same value) ∙ is in
          rw (is, absent) (ap (λ (l : List ℤ). value ∷ l) (distinct (insert_key int_cmp set value) (value ∷ before) rest (λ found. insert-among set value found ∙ ap (λ (b : Bool). int_eq found value || b) (same found))))
    ]
distinct set before (s ∷ rest) same = distinct set before rest same
