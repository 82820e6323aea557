-- The numbers of a site on a box lie between its numbers at corners.
use Rattle.std.proofs.Common.{◌≡◌, ℤ, pos, negsuc, ◌≤ℤ◌, ◌↔◌, FitsSigned, w32, w64, to_z, of_z, List, [], ◌∷◌, Option, Some, unwrap_or, subst, ap, ◌∙◌, arith}
use Rattle.std.specs.Int.{int_min, int_max}
use Rattle.std.proofs.lemmas.Int.{ints, clamps}
use Rattle.sat_base.specs.declared.width.Width.{Width}
use Rattle.sat_base.specs.declared.width.Width.TheVariants.{W16, W32}
use Rattle.operator_meaning.specs.Table.{row_of, FitsWidth}
use Rattle.operator_meaning.specs.Value.{value_of}
use Rattle.operator_meaning.specs.declared.operator.Op.{Op}
use Rattle.operator_meaning.specs.declared.site.SiteKind.{SiteKind}
use Rattle.operator_meaning.specs.declared.site.SiteKind.TheVariants.{Call, Sum, Difference, Product, Opposite, Bound, ViewBound, ViewEdge, Sample}
use Rattle.range_core.specs.declared.range.Range.{Range}
use Rattle.range_core.specs.declared.range.Range.TheVariants.{Empty, Span}
use Rattle.range_core.specs.Range.{IsLeast, IsRange}
use Rattle.range_transfer.proofs.Least.{least_from_ends}
use Rattle.range_transfer.specs.Box.{FitRanges, IsInBox, corners, HasEmpty}
use Rattle.range_transfer.specs.Image.{AreExtremes, LiesBetween, IsValueOn, IsBetweenCorners}
use Rattle.range_transfer.specs.Site.{widths_of, IsPlain, GivesNumber, number_of}
use Rattle.range_transfer.proofs.Reach.{ReachesEnds, reached, corner_in_box, one, two, three, by_steady}
use Rattle.range_transfer.proofs.Steady.{Steady, Rises, Falls, add_up, added_up, sub_up, subtracted_down, neg_down, times_steady, timed_steady, at_most_outer, at_least_outer}

-- the least and the greatest number of each box are at corners
pub record IsSteady (widths : List Width) (f : List ℤ → ℤ) : Type 0 where
  pub falls : (t : ℤ) → ReachesEnds widths (λ (xs : List ℤ). f xs ≤ℤ t)
  pub rises : (t : ℤ) → ReachesEnds widths (λ (xs : List ℤ). t ≤ℤ f xs)

pub one_steady : (w : Width) (f : List ℤ → ℤ) → Steady (λ (x : ℤ). f (x ∷ [])) → IsSteady (w ∷ []) f
one_steady w f first = record {
  falls = λ t. one w (λ (xs : List ℤ). f xs ≤ℤ t) (by_steady w (λ (y : ℤ). y ≤ℤ t) (λ (x : ℤ). f (x ∷ [])) (at_most_outer t) first);
  rises = λ t. one w (λ (xs : List ℤ). t ≤ℤ f xs) (by_steady w (λ (y : ℤ). t ≤ℤ y) (λ (x : ℤ). f (x ∷ [])) (at_least_outer t) first);
}

pub two_steady : (w v : Width) (f : List ℤ → ℤ) → ((y : ℤ) → FitsWidth v y → Steady (λ (x : ℤ). f (x ∷ y ∷ []))) → ((x : ℤ) → FitsWidth w x → Steady (λ (y : ℤ). f (x ∷ y ∷ []))) → IsSteady (w ∷ v ∷ []) f
two_steady w v f first second = record {
  falls = λ t. two w v (λ (xs : List ℤ). f xs ≤ℤ t)
      (λ y fits. by_steady w (λ (z : ℤ). z ≤ℤ t) (λ (x : ℤ). f (x ∷ y ∷ [])) (at_most_outer t) (first y fits))
      (λ x fits. by_steady v (λ (z : ℤ). z ≤ℤ t) (λ (y : ℤ). f (x ∷ y ∷ [])) (at_most_outer t) (second x fits));
  rises = λ t. two w v (λ (xs : List ℤ). t ≤ℤ f xs)
      (λ y fits. by_steady w (λ (z : ℤ). t ≤ℤ z) (λ (x : ℤ). f (x ∷ y ∷ [])) (at_least_outer t) (first y fits))
      (λ x fits. by_steady v (λ (z : ℤ). t ≤ℤ z) (λ (y : ℤ). f (x ∷ y ∷ [])) (at_least_outer t) (second x fits));
}

pub three_steady : (w v u : Width) (f : List ℤ → ℤ) → ((y z : ℤ) → Steady (λ (x : ℤ). f (x ∷ y ∷ z ∷ []))) → ((x z : ℤ) → Steady (λ (y : ℤ). f (x ∷ y ∷ z ∷ []))) → ((x y : ℤ) → Steady (λ (z : ℤ). f (x ∷ y ∷ z ∷ [])))
    → IsSteady (w ∷ v ∷ u ∷ []) f
three_steady w v u f first second third = record {
  falls = λ t. three w v u (λ (xs : List ℤ). f xs ≤ℤ t)
      (λ y z g h. by_steady w (λ (p : ℤ). p ≤ℤ t) (λ (x : ℤ). f (x ∷ y ∷ z ∷ [])) (at_most_outer t) (first y z))
      (λ x z g h. by_steady v (λ (p : ℤ). p ≤ℤ t) (λ (y : ℤ). f (x ∷ y ∷ z ∷ [])) (at_most_outer t) (second x z))
      (λ x y g h. by_steady u (λ (p : ℤ). p ≤ℤ t) (λ (z : ℤ). f (x ∷ y ∷ z ∷ [])) (at_most_outer t) (third x y));
  rises = λ t. three w v u (λ (xs : List ℤ). t ≤ℤ f xs)
      (λ y z g h. by_steady w (λ (p : ℤ). t ≤ℤ p) (λ (x : ℤ). f (x ∷ y ∷ z ∷ [])) (at_least_outer t) (first y z))
      (λ x z g h. by_steady v (λ (p : ℤ). t ≤ℤ p) (λ (y : ℤ). f (x ∷ y ∷ z ∷ [])) (at_least_outer t) (second x z))
      (λ x y g h. by_steady u (λ (p : ℤ). t ≤ℤ p) (λ (z : ℤ). f (x ∷ y ∷ z ∷ [])) (at_least_outer t) (third x y));
}

pub plain_steady : (kind : SiteKind) → IsPlain kind → IsSteady (widths_of kind) (number_of kind)
plain_steady Sum plain = two_steady W32 W32 (number_of Sum) (λ y f. Rises (add_up y)) (λ x f. Rises (added_up x))
plain_steady Difference plain = two_steady W32 W32 (number_of Difference) (λ y f. Rises (sub_up y)) (λ x f. Falls (subtracted_down x))
plain_steady Product plain = two_steady W32 W32 (number_of Product) (λ y f. times_steady y) (λ x f. timed_steady x)
plain_steady Opposite plain = one_steady W32 (number_of Opposite) (Falls neg_down)
plain_steady (Call op) plain = absurd plain
plain_steady (Bound n) plain = absurd plain
plain_steady ViewBound plain = absurd plain
plain_steady ViewEdge plain = absurd plain
plain_steady Sample plain = absurd plain

pub plain_gives : (kind : SiteKind) → IsPlain kind → GivesNumber kind
plain_gives Sum plain = tt
plain_gives Difference plain = tt
plain_gives Product plain = tt
plain_gives Opposite plain = tt
plain_gives (Call op) plain = absurd plain
plain_gives (Bound n) plain = absurd plain
plain_gives ViewBound plain = absurd plain
plain_gives ViewEdge plain = absurd plain
plain_gives Sample plain = absurd plain

pub empty_box : (ranges : List Range) (args : List ℤ) → HasEmpty ranges → IsInBox args ranges → ⊥
empty_box [] args none in' = none
empty_box (Empty ∷ ranges) [] none in' = in'
empty_box (Empty ∷ ranges) (x ∷ xs) none in' = in'.0
empty_box (Span lo hi ∷ ranges) [] none in' = in'
empty_box (Span lo hi ∷ ranges) (x ∷ xs) none in' = empty_box ranges xs none in'.1

-- the extremes at corners are those of the box
pub record Bounds (f : List ℤ → ℤ) (ranges : List Range) (least most : ℤ) : Type 0 where
  pub low : (args : List ℤ) × IsInBox args ranges × (f args ≡ least)
  pub high : (args : List ℤ) × IsInBox args ranges × (f args ≡ most)
  pub between : (args : List ℤ) → IsInBox args ranges → (least ≤ℤ f args) × (f args ≤ℤ most)

pub bounds_between : (widths : List Width) (f : List ℤ → ℤ) (given : List ℤ) (ranges : List Range) (least most : ℤ) → IsBetweenCorners f ranges → FitRanges widths ranges → given ≡ []
    → AreExtremes f (corners given ranges) least most → Bounds f ranges least most
bounds_between widths f given ranges least most inside fit start found =
    let extremes = subst (λ (g : List ℤ). AreExtremes f (corners g ranges) least most) start found in
    record {
      low = let (corner, there, e) = extremes.low in let (args, in', is) = corner_in_box widths [] ranges corner fit there in (args, in', subst (λ (c : List ℤ). f c ≡ least) is e);
      high = let (corner, there, e) = extremes.high in let (args, in', is) = corner_in_box widths [] ranges corner fit there in (args, in', subst (λ (c : List ℤ). f c ≡ most) is e);
      between = λ args in'.
          let ((below, there, under), (above, there', over)) = inside args in' in
          (omega (arith, ints, under, (extremes.between below there).0), omega (arith, ints, over, (extremes.between above there').1));
    }

pub steady_between : (widths : List Width) (f : List ℤ → ℤ) (ranges : List Range) → IsSteady widths f → FitRanges widths ranges → IsBetweenCorners f ranges
steady_between widths f ranges steady fit args in' = (
  reached widths (λ (xs : List ℤ). f xs ≤ℤ f args) ranges args (steady.falls (f args)) fit in' (omega (arith, ints)),
  reached widths (λ (xs : List ℤ). f args ≤ℤ f xs) ranges args (steady.rises (f args)) fit in' (omega (arith, ints)),
)

pub bounds_of : (widths : List Width) (f : List ℤ → ℤ) (given : List ℤ) (ranges : List Range) (least most : ℤ) → IsSteady widths f → FitRanges widths ranges → given ≡ []
    → AreExtremes f (corners given ranges) least most → Bounds f ranges least most
bounds_of widths f given ranges least most steady fit = bounds_between widths f given ranges least most (steady_between widths f ranges steady fit) fit

-- the numbers of 32 bits between the extremes
pub lies_between : (kind : SiteKind) (ranges : List Range) (least most lo hi x : ℤ) → Bounds (number_of kind) ranges least most → lo ≡ int_max least (negsuc 2147483647) → hi ≡ int_min most (pos 2147483647)
    → ((lo ≤ℤ x) × (x ≤ℤ hi)) ↔ LiesBetween kind ranges x
lies_between kind ranges least most lo hi x bounds low high = (
  λ h.
      let (args, in', e) = bounds.low in
      let (args', in'', e') = bounds.high in
      (omega (arith, ints, clamps, h, low, high), (args, in', omega (arith, ints, clamps, h, low, e)), (args', in'', omega (arith, ints, clamps, h, high, e'))),
  λ h.
      let (fits, (args, in', le), (args', in'', le')) = h in
      (omega (arith, ints, clamps, fits, low, le, (bounds.between args in').0), omega (arith, ints, clamps, fits, high, le', (bounds.between args' in'').1)),
)

-- the range between the extremes is the least with the operator's values
pub least_of_bounds : (op : Op) (ranges : List Range) (least most : ℤ) → ((args : List ℤ) → IsInBox args ranges → value_of op args ≡ Some (number_of (Call op) args)) → Bounds (number_of (Call op)) ranges least most
    → IsLeast (IsValueOn op ranges) (Span least most)
least_of_bounds op ranges least most valued bounds =
    least_from_ends (IsValueOn op ranges) least most
    (λ x (args, in', e).
    let same : number_of (Call op) args ≡ x = ap (λ (o : Option ℤ). unwrap_or o (pos 0)) e in
    let between = bounds.between args in' in
    (omega (arith, ints, between.0, same), omega (arith, ints, between.1, same)))
    (let (args, in', e) = bounds.low in (args, in', valued args in' ∙ ap Some e))
    (let (args, in', e) = bounds.high in (args, in', valued args in' ∙ ap Some e))

fits_32 : (width : Width) (x : ℤ) → FitsWidth width x → FitsSigned w32 x
fits_32 W16 x fits = omega (arith, ints, fits)
fits_32 W32 x fits = fits

pub range_of_bounds : (op : Op) (ranges : List Range) (least most : ℤ) → ((args : List ℤ) → IsInBox args ranges → FitsWidth (row_of op).gives (number_of (Call op) args)) → Bounds (number_of (Call op)) ranges least most → IsRange (Span least most)
range_of_bounds op ranges least most fits bounds =
    let (args, in', e) = bounds.low in
    let (args', in'', e') = bounds.high in
    let between = bounds.between args in' in
    let low = fits_32 (row_of op).gives _ (fits args in') in
    let high = fits_32 (row_of op).gives _ (fits args' in'') in
    (omega (arith, ints, e, between.1), subst (FitsSigned w32) e low, subst (FitsSigned w32) e' high)

-- an end as it is read
pub read_end : (x : ℤ) → FitsSigned w32 x → to_z w64 (of_z w64 x) ≡ x
read_end x fits = omega (arith, ints, fits)
