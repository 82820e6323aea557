-- Least ranges by their ends, and what two ranges have together and in common.
use Rattle.std.proofs.Common.{◌≡◌, ◌⊎◌, inl, inr, ℤ, ◌≤ℤ◌, ◌<ℤ◌, IsTrue, arith, sym, subst, ◌∙◌, refl}
use Rattle.std.specs.Int.{int_min, int_max}
use Rattle.std.specs.Int.Signed.{le_z}
use Rattle.std.proofs.lemmas.Int.{ints, clamps, by_lt_z}
use Rattle.range_core.specs.Range.{IsIn, Covers, IsLeast}
use Rattle.range_core.specs.declared.range.Range.{Range}
use Rattle.range_core.specs.declared.range.Range.TheVariants.{Empty, Span}

-- a range with both ends of a span covers it
pub covers_from_ends : (other : Range) (lo hi : ℤ) → IsIn lo other → IsIn hi other → Covers other (Span lo hi)
covers_from_ends Empty lo hi low high x h = low
covers_from_ends (Span a b) lo hi low high x h = (omega (arith, ints), omega (arith, ints))

-- a span is least where its ends are of the set and all of the set lies between them
pub least_from_ends : (P : ℤ → Type 0) (lo hi : ℤ) → ((x : ℤ) → P x → IsIn x (Span lo hi)) → P lo → P hi → IsLeast P (Span lo hi)
least_from_ends P lo hi between low high = record {
  has = between;
  least = λ other all. covers_from_ends other lo hi (all lo low) (all hi high);
}

pub int_min_cases : (a b : ℤ) → (int_min a b ≡ a) ⊎ (int_min a b ≡ b)
int_min_cases a b = by_lt_z a b (λ h. inl (omega (arith, ints, clamps, h))) (λ h. inr (omega (arith, ints, clamps, h)))

pub int_max_cases : (a b : ℤ) → (int_max a b ≡ a) ⊎ (int_max a b ≡ b)
int_max_cases a b = by_lt_z a b (λ h. inr (omega (arith, ints, clamps, h))) (λ h. inl (omega (arith, ints, clamps, h)))

-- the range from the lesser low end to the greater high end
pub joined : (a b c d lo hi : ℤ) → a ≤ℤ b → c ≤ℤ d → lo ≡ int_min a c → hi ≡ int_max b d → IsLeast (λ x. IsIn x (Span a b) ⊎ IsIn x (Span c d)) (Span lo hi)
joined a b c d lo hi left right low high =
    let P : ℤ → Type 0 = λ x. IsIn x (Span a b) ⊎ IsIn x (Span c d) in
    let first : IsIn a (Span a b) = (omega (arith, ints), left) in
    let second : IsIn c (Span c d) = (omega (arith, ints), right) in
    let first_end : IsIn b (Span a b) = (left, omega (arith, ints)) in
    let second_end : IsIn d (Span c d) = (right, omega (arith, ints)) in
    least_from_ends P lo hi
    (λ x h. elim h [
      | inl l ↦ (omega (arith, ints, clamps, l.0), omega (arith, ints, clamps, l.1))
      | inr r ↦ (omega (arith, ints, clamps, r.0), omega (arith, ints, clamps, r.1))
    ])
    (elim (int_min_cases a c) [ inl e ↦ subst P (sym (low ∙ e)) (inl first) | inr e ↦ subst P (sym (low ∙ e)) (inr second) ])
    (elim (int_max_cases b d) [ inl e ↦ subst P (sym (high ∙ e)) (inl first_end) | inr e ↦ subst P (sym (high ∙ e)) (inr second_end) ])

pub nothing_else : (range : Range) → ((lo hi : ℤ) → range ≡ Span lo hi → ⊥) → range ≡ Empty
nothing_else Empty h = refl
nothing_else (Span lo hi) h = absurd (h lo hi refl)

-- of two spans, one covers the other where its ends lie outside
pub covered : (a b c d : ℤ) → c ≤ℤ d → (Covers (Span a b) (Span c d) → (a ≤ℤ c) × (d ≤ℤ b)) × ((a ≤ℤ c) × (d ≤ℤ b) → Covers (Span a b) (Span c d))
covered a b c d some = (
  λ covers. ((covers c (omega (arith, ints), some)).0, (covers d (some, omega (arith, ints))).1),
  λ h x p. (omega (arith, ints, h, p), omega (arith, ints, h, p)),
)

-- the test at the high ends decides, where the low ends are in order or not; p and q are the two high ends
pub covered_by_test : (a b c d p q : ℤ) → c ≤ℤ d → a ≤ℤ c → p ≡ d → q ≡ b → (IsTrue (le_z p q) → Covers (Span a b) (Span c d)) × (Covers (Span a b) (Span c d) → IsTrue (le_z p q))
covered_by_test a b c d p q some low high_d high_b =
    let ends = covered a b c d some in
    rw (high_d, high_b) (λ t. ends.1 (low, grind (arith, ints)), λ covers. let h = (ends.0 covers).1 in grind (arith, ints))

pub not_covered_by_test : (a b c d p q : ℤ) → c ≤ℤ d → c <ℤ a → p ≡ a → q ≡ c → (IsTrue (le_z p q) → Covers (Span a b) (Span c d)) × (Covers (Span a b) (Span c d) → IsTrue (le_z p q))
not_covered_by_test a b c d p q some low low_a low_c =
    let ends = covered a b c d some in
    rw (low_a, low_c) (λ t. absurd (grind (arith, ints)), λ covers. let h = (ends.0 covers).0 in grind (arith, ints))
