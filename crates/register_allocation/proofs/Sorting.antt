-- Slots in the order of their beginnings: they overlap nowhere where each ends before the next one starts.
use Rattle.std.proofs.Common.{◌≡◌, ℕ, ◌+◌, ◌<◌, ◌≤◌, Bool, true, false, List, arith, length, get_or, refl, sym, ap, ◌∙◌, inl, inr}
use Rattle.std.specs.Prelude.{not, ◌&&◌, ◌↔◌, IsTrue}
use Rattle.std.specs.List.{AllAdjacentBelow, IsAllAdjacentAnswer, IsDistinct}
use Rattle.std.specs.List.Sorted.{IsPermutation, IsNonDecreasingBy}
use Rattle.std.proofs.Math.Bool.{and_comm}
use Rattle.std.proofs.lemmas.Bool.{and_cases, leb-true, le-leb, not-false, true≢false}
use Rattle.std.proofs.lemmas.List.Elements.{All-get_or}
use Rattle.std.proofs.lemmas.List.Sorted.{IsPermutation-sym, All-permutation}
use Rattle.std.proofs.lemmas.Map.Keys.{IsDistinct-IsPermutation, IsDistinct-from_apart, apart_from_distinct}
use Rattle.register_allocation.specs.declared.spans.Span.{Span}
use Rattle.register_allocation.specs.Overlaps.{HaveBytes, precedes, overlaps}

abbrev pub start_of : Span → ℕ
start_of span = span.from

pub overlaps-flips : (one other : Span) → overlaps one other ≡ overlaps other one
overlaps-flips one other = and_comm (not (precedes one other)) (not (precedes other one))

-- where one precedes the other, they overlap not
pub apart-by : (one other : Span) → precedes one other ≡ true → overlaps one other ≡ false
apart-by one other is = ap (λ (t : Bool). not t && not (precedes other one)) is

-- where they overlap not, one precedes the other
pub precedes-by : (one other : Span) → overlaps one other ≡ false → one.from ≤ other.from → 0 < other.bytes → precedes one other ≡ true
precedes-by one other apart low filled = elim (and_cases (not (precedes one other)) (not (precedes other one)) apart) [
  | inl this ↦ not-false (precedes one other) this
  | inr that ↦ absurd (omega (arith, leb-true (other.from + other.bytes) one.from (not-false (precedes other one) that)))
]

module _ (spans : List Span) (in_order : IsNonDecreasingBy start_of spans) where
  distinct-when : AllAdjacentBelow (λ x y. true ≡ precedes x y) spans (length spans) → IsDistinct overlaps spans
  distinct-when adjacent =
      IsDistinct-from_apart overlaps spans (λ i j d low within.
      let next = leb-true ((get_or spans i d).from + (get_or spans i d).bytes) (get_or spans (i + 1) d).from (sym (adjacent i d (omega arith))) in
      let later : (get_or spans (i + 1) d).from ≤ (get_or spans j d).from = in_order (i + 1) j d (omega arith) within in
      apart-by (get_or spans i d) (get_or spans j d) (le-leb ((get_or spans i d).from + (get_or spans i d).bytes) (get_or spans j d).from (omega arith)))

  adjacent-when : HaveBytes spans → IsDistinct overlaps spans → (k : ℕ) (d : Span) → k + 1 < length spans → precedes (get_or spans k d) (get_or spans (k + 1) d) ≡ true
  adjacent-when filled distinct k d within =
      precedes-by (get_or spans k d) (get_or spans (k + 1) d) (apart_from_distinct overlaps spans k (k + 1) d distinct (omega arith) within)
      (in_order k (k + 1) d (omega arith) within) (All-get_or (λ span. 0 < span.bytes) spans (k + 1) d within filled)

  pub answered : HaveBytes spans → (answer : Bool) → IsAllAdjacentAnswer (λ x y b. b ≡ precedes x y) spans answer → IsTrue answer ↔ IsDistinct overlaps spans
  answered filled true adjacent = (λ _. distinct-when adjacent, λ _. refl)
  answered filled false (k, within, other) =
      let d : Span = record { from = 0; bytes = 0 } in
      (λ no. absurd (true≢false (sym no)), λ distinct. absurd (true≢false (sym (adjacent-when filled distinct k d within) ∙ sym (other d))))

-- before they were put in order
pub answered-of : (old new : List Span) → IsPermutation old new → IsNonDecreasingBy start_of new → HaveBytes old → (answer : Bool)
    → IsAllAdjacentAnswer (λ x y b. b ≡ precedes x y) new answer → IsTrue answer ↔ IsDistinct overlaps old
answered-of old new same in_order filled answer is =
    let both = answered new in_order (All-permutation (λ span. 0 < span.bytes) old new same filled) answer is in
    (λ yes. IsDistinct-IsPermutation overlaps overlaps-flips new old (IsPermutation-sym old new same) (both.0 yes), λ distinct. both.1 (IsDistinct-IsPermutation overlaps overlaps-flips old new same distinct))
