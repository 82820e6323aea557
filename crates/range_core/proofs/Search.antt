-- What a binary search among ascending numbers finds.
use Rattle.std.proofs.Common.{◌≡◌, ℕ, ◌-◌, ◌<◌, ◌≤◌, inl, inr, ℤ, pos, negsuc, ◌≤ℤ◌, ◌<ℤ◌, FitsSigned, w32, List, length, get_or, Err, false, refl, subst, sym, arith}
use Rattle.std.specs.List.Sorted.{IsBinarySearchResult}
use Rattle.std.specs.Ordering.{MatchOrdering, int_cmp, is_lt}
use Rattle.std.specs.declared.cmp.Ordering.{Ordering}
use Rattle.std.specs.declared.cmp.Ordering.TheVariants.{Less, Greater}
use Rattle.std.proofs.lemmas.Bool.{cases_lt}
use Rattle.std.specs.Cmp.{int_cmp_is}
use Rattle.std.proofs.lemmas.Cmp.{int_ranked, int_cmp_total}
use Rattle.std.proofs.lemmas.Int.{ints, by_lt_z}
use Rattle.std.proofs.lemmas.List.{get_or_default}
use Rattle.std.proofs.lemmas.List.Sorted.{searchable_from_sorted, sorted_far, ranks_by}
use Rattle.range_core.specs.Kept.{IsLadder}
use Rattle.range_core.specs.Thresholds.{IsBelow, IsAbove}

-- x is none of the numbers, and those before the place are less
pub record IsGap (values : List ℤ) (x : ℤ) (place : ℕ) : Type 0 where
  before : (k : ℕ) (d : ℤ) → k < place → get_or values k d <ℤ x
  after : (k : ℕ) (d : ℤ) → place ≤ k → k < length values → x <ℤ get_or values k d

pub gap_from_search : (values seen : List ℤ) (x read : ℤ) (place : ℕ) → IsLadder values → seen ≡ values → read ≡ x → IsBinarySearchResult (λ y. int_cmp y read) seen (Err place) → IsGap values x place
gap_from_search values seen x read place ladder same e search' =
    let found = subst (λ (xs : List ℤ). IsBinarySearchResult (λ (y : ℤ). int_cmp y x) xs (Err place)) same (subst (λ (z : ℤ). IsBinarySearchResult (λ (y : ℤ). int_cmp y z) seen (Err place)) e search') in
    let parted = found (searchable_from_sorted int_cmp_total (λ y. y) values x ladder.sorted) in
    let ranked = λ (o : Ordering) (y : ℤ) (e : int_cmp y x ≡ o). let P : Ordering → Type 0 = λ r. MatchOrdering r (y <ℤ x) (y ≡ x) (x <ℤ y) in subst P e (int_ranked y x (int_cmp y x) refl) in
    record {
      before = λ k d h. ranked Less (get_or values k d) (parted.0 k d (omega arith) h);
      after = λ k d h l. ranked Greater (get_or values k d) (parted.1 k d h l);
    }

pub rises : (values : List ℤ) (i j : ℕ) (d : ℤ) → IsLadder values → i ≤ j → j < length values → get_or values i d ≤ℤ get_or values j d
rises values i j d ladder le within =
    let e = sorted_far (λ x y. is_lt (int_cmp x y)) (ranks_by int_cmp_total (λ y. y)) values ladder.sorted i j d le within in
    not_less (get_or values j d) (get_or values i d) e
  where
    not_less : (x y : ℤ) → is_lt (int_cmp x y) ≡ false → y ≤ℤ x
    not_less x y e = by_lt_z x y (λ h. let less : Less ≡ int_cmp x y = int_cmp_is x y Less h in cc) (λ h. h)

-- some number is less, since the least of all is there
pub some_before : (values : List ℤ) (x : ℤ) (place : ℕ) → IsLadder values → FitsSigned w32 x → IsGap values x place → 1 ≤ place
some_before values x place ladder fits gap =
    let (k, within, e) = ladder.lowest in
    elim (cases_lt 0 place) [
      | inl h ↦ omega arith
      | inr h ↦ absurd (omega (arith, ints, gap.after k (negsuc 2147483647) (omega arith) within, e))
    ]

pub some_after : (values : List ℤ) (x : ℤ) (place : ℕ) → IsLadder values → FitsSigned w32 x → IsGap values x place → place < length values
some_after values x place ladder fits gap =
    let (k, within, e) = ladder.highest in
    elim (cases_lt place (length values)) [
      | inl h ↦ h
      | inr h ↦ absurd (omega (arith, ints, gap.before k (pos 2147483647) (omega arith), e))
    ]

-- the number before the place is the greatest that is not above x
pub below_gap : (values : List ℤ) (x : ℤ) (place : ℕ) (low : ℤ) → IsLadder values → FitsSigned w32 x → IsGap values x place → low ≡ get_or values (place - 1) low → IsBelow values x low
below_gap values x place low ladder fits gap e =
    let some = some_before values x place ladder fits gap in
    let within = some_within values x place ladder fits gap in
    let read : get_or values (place - 1) low <ℤ x = gap.before (place - 1) low (omega arith) in
    record {
      is_one = (place - 1, omega arith, sym e);
      not_above = omega (arith, ints, read, e);
      greatest = λ t (k, l, is) h. elim (cases_lt k place) [
        | inl before ↦
            let up = rises values k (place - 1) t ladder (omega arith) (omega arith) in
            let same = get_or_default values (place - 1) t low (omega arith) in
            omega (arith, ints, up, same, is, e)
        | inr after ↦ absurd (omega (arith, ints, gap.after k t after l, is, h))
      ];
    }
  where
    some_within : (values : List ℤ) (x : ℤ) (place : ℕ) → IsLadder values → FitsSigned w32 x → IsGap values x place → place - 1 < length values
    some_within values x place ladder fits gap = let h = some_after values x place ladder fits gap in omega arith

-- the number at the place is the least that is not below x
pub above_gap : (values : List ℤ) (x : ℤ) (place : ℕ) (high : ℤ) → IsLadder values → FitsSigned w32 x → IsGap values x place → high ≡ get_or values place high → IsAbove values x high
above_gap values x place high ladder fits gap e =
    let within = some_after values x place ladder fits gap in
    let read : x <ℤ get_or values place high = gap.after place high (omega arith) within in
    record {
      is_one = (place, within, sym e);
      not_below = omega (arith, ints, read, e);
      least = λ t (k, l, is) h. elim (cases_lt k place) [
        | inl before ↦ absurd (omega (arith, ints, gap.before k t before, is, h))
        | inr after ↦
            let up = rises values place k t ladder after l in
            let same = get_or_default values place t high within in
            omega (arith, ints, up, same, is, e)
      ];
    }
