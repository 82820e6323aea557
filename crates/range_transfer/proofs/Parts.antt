-- The values on the parts of a range: its negative numbers, 0, and its positive numbers.
use Rattle.std.proofs.Common.{◌≡◌, ◌≢◌, ℕ, ◌+◌, ◌^◌, ◌≤◌, ◌⊎◌, inl, inr, ◌↔◌, ℤ, pos, negsuc, ◌≤ℤ◌, ◌<ℤ◌, unsigned_abs, FitsSigned, w32, List, [], ◌∷◌, refl, subst, ap, arith}
use Rattle.std.specs.List.{Contains}
use Rattle.std.proofs.lemmas.Int.{ints, clamps, by_lt_z}
use Rattle.sat_base.specs.declared.width.Width.{Width}
use Rattle.operator_meaning.specs.Table.{row_of}
use Rattle.operator_meaning.specs.Value.{norm}
use Rattle.operator_meaning.specs.declared.operator.Op.{Op}
use Rattle.operator_meaning.specs.declared.operator.Op.TheVariants.{Add, Sub, AbsS, Shl, Shr, ExtractH, ExtractL, Mult, LMult, Negate, Round, LMac, LMsu, MacR, MsuR, LAdd, LSub, LNegate, MultR, LShl, LShr, ShrR, LShrR, LAbs, LDepositH, LDepositL, NormS, NormL, DivS}
use Rattle.operator_meaning.specs.declared.site.SiteKind.TheVariants.{Call}
use Rattle.range_core.specs.Range.{IsRange, IsIn, IsLeast}
use Rattle.range_core.specs.declared.range.Range.{Range}
use Rattle.range_core.specs.declared.range.Range.TheVariants.{Empty, Span}
use Rattle.range_transfer.specs.Box.{FitsRange, FitRanges}
use Rattle.range_transfer.specs.Image.{IsValueOn, IsBetweenCorners}
use Rattle.range_transfer.specs.Site.{TurnsAtZero, number_of}
use Rattle.range_transfer.proofs.Reach.{between_fits}
use Rattle.range_transfer.proofs.Signs.{norm_falls, norm_rises, abs16_falls, abs16_rises, abs32_falls, abs32_rises}

-- the numbers that two ranges have in common
abbrev pub IsCommon : Range → Range → Range → Type 0
IsCommon part range other = (x : ℤ) → IsIn x part ↔ (IsIn x range × IsIn x other)

-- what the least ranges of two sets have together is the least range of both sets
pub least_of_both : (P Q : ℤ → Type 0) (a b range : Range) → IsLeast P a → IsLeast Q b → IsLeast (λ (x : ℤ). IsIn x a ⊎ IsIn x b) range → IsLeast (λ (x : ℤ). P x ⊎ Q x) range
least_of_both P Q a b range left right both = record {
  has = λ x h. elim h [ inl p ↦ both.has x (inl (left.has x p)) | inr q ↦ both.has x (inr (right.has x q)) ];
  least = λ other all. both.least other (λ x h. elim h [
    | inl i ↦ left.least other (λ y p. all y (inl p)) x i
    | inr i ↦ right.least other (λ y q. all y (inr q)) x i
  ]);
}

part_fits_width : (width : Width) (part range other : Range) → IsRange part → FitsRange width range → IsCommon part range other → FitsRange width part
part_fits_width width Empty range other is fit common = tt
part_fits_width width (Span lo hi) Empty other is fit common = absurd ((common lo).0 (omega (arith, ints), is.0)).0
part_fits_width width (Span lo hi) (Span a b) other is fit common =
    let low = ((common lo).0 (omega (arith, ints), is.0)).0 in
    let high = ((common hi).0 (is.0, omega (arith, ints))).0 in
    (is.0, between_fits width a lo b fit.1 fit.2 low.0 low.1, between_fits width a hi b fit.1 fit.2 high.0 high.1)

pub part_fits : (widths : List Width) (part range other : Range) → IsRange part → FitRanges widths (range ∷ []) → IsCommon part range other → FitRanges widths (part ∷ [])
part_fits [] part range other is fit common = absurd fit
part_fits (width ∷ []) part range other is fit common = (part_fits_width width part range other is fit.0 common, tt)
part_fits (width ∷ w ∷ widths) part range other is fit common = absurd fit.1

wider : (op : Op) (part range other : Range) → IsCommon part range other → (x : ℤ) → IsValueOn op (part ∷ []) x → IsValueOn op (range ∷ []) x
wider op part range other common x ([], in', e) = absurd in'
wider op part range other common x (y ∷ [], in', e) = (y ∷ [], (((common y).0 in'.0).0, tt), e)
wider op part range other common x (y ∷ z ∷ zs, in', e) = absurd in'.1

pub fits_32 : (range : Range) → IsRange range → (y : ℤ) → IsIn y range → FitsSigned w32 y
fits_32 Empty is y in' = absurd in'
fits_32 (Span lo hi) is y in' = omega (arith, ints, is.1, is.2, in'.0, in'.1)

abbrev pub negatives : Range
negatives = Span (negsuc 2147483647) (negsuc 0)

abbrev pub nothing : Range
nothing = Span (pos 0) (pos 0)

abbrev pub positives : Range
positives = Span (pos 1) (pos 2147483647)

-- a value on a range is a value on one of its parts
pub of_parts : (op : Op) (range a b c : Range) → IsRange range → IsCommon a range negatives → IsCommon b range nothing → IsCommon c range positives
    → (x : ℤ) → ((IsValueOn op (a ∷ []) x ⊎ IsValueOn op (b ∷ []) x) ⊎ IsValueOn op (c ∷ []) x) ↔ IsValueOn op (range ∷ []) x
of_parts op range a b c is first second third x = (
  λ h. elim h [
    | inl (inl v) ↦ wider op a range negatives first x v
    | inl (inr v) ↦ wider op b range nothing second x v
    | inr v ↦ wider op c range positives third x v
  ],
  back,
)
  where
    back : IsValueOn op (range ∷ []) x → (IsValueOn op (a ∷ []) x ⊎ IsValueOn op (b ∷ []) x) ⊎ IsValueOn op (c ∷ []) x
    back ([], in', e) = absurd in'
    back (y ∷ z ∷ zs, in', e) = absurd in'.1
    back (y ∷ [], in', e) =
        let fits = fits_32 range is y in'.0 in
        by_lt_z y (pos 0)
        (λ less. inl (inl (y ∷ [], ((first y).1 (in'.0, (omega (arith, ints, fits), omega (arith, ints, less))), tt), e)))
        (λ more. by_lt_z (pos 0) y
        (λ some. inr (y ∷ [], ((third y).1 (in'.0, (omega (arith, ints, some), omega (arith, ints, fits))), tt), e))
        (λ none. inl (inr (y ∷ [], ((second y).1 (in'.0, (omega (arith, ints, more), omega (arith, ints, none))), tt), e))))

-- ---- on each part the values only rise or only fall

data SteadyOn (f : ℤ → ℤ) (lo hi : ℤ) : Type 0 where
  RisesOn : ((x y : ℤ) → lo ≤ℤ x → x ≤ℤ y → y ≤ℤ hi → f x ≤ℤ f y) → SteadyOn f lo hi
  FallsOn : ((x y : ℤ) → lo ≤ℤ x → x ≤ℤ y → y ≤ℤ hi → f y ≤ℤ f x) → SteadyOn f lo hi

-- all numbers between them are negative, or 0, or positive
abbrev AreOfOneSign : ℤ → ℤ → Type 0
AreOfOneSign lo hi = (hi <ℤ pos 0) ⊎ ((pos 0 ≤ℤ lo) × (hi ≤ℤ pos 0)) ⊎ (pos 0 <ℤ lo)

abbrev pub IsOfOneSign : Range → Type 0
IsOfOneSign Empty = Unit {0}
IsOfOneSign (Span lo hi) = AreOfOneSign lo hi

pub sign_of : (part range : Range) (l h : ℤ) → IsRange part → IsCommon part range (Span l h) → AreOfOneSign l h → IsOfOneSign part
sign_of Empty range l h is common sign = tt
sign_of (Span lo hi) range l h is common sign =
    let low = ((common lo).0 (omega (arith, ints), is.0)).1 in
    let high = ((common hi).0 (is.0, omega (arith, ints))).1 in
    elim sign [
      | inl negative ↦ inl (omega (arith, ints, negative, high.1))
      | inr (inl none) ↦ inr (inl (omega (arith, ints, none.0, low.0), omega (arith, ints, none.1, high.1)))
      | inr (inr positive) ↦ inr (inr (omega (arith, ints, positive, low.0)))
    ]

norms_fall : (k : ℕ) (x y : ℤ) → pos 0 <ℤ x → x ≤ℤ y → y <ℤ pos (2 ^ (k + 1)) → norm k y ≤ℤ norm k x
norms_fall k (pos a) (pos b) some le most = norm_falls k a b (omega (arith, ints, some)) (omega (arith, ints, le)) (omega (arith, ints, most))
norms_fall k (pos a) (negsuc b) some le most = absurd (omega (arith, ints, le))
norms_fall k (negsuc a) y some le most = absurd (omega (arith, ints, some))

norms_rise : (k : ℕ) (x y : ℤ) → y <ℤ pos 0 → x ≤ℤ y → unsigned_abs x ≤ 2 ^ (k + 1) → norm k x ≤ℤ norm k y
norms_rise k (negsuc a) (negsuc b) negative le most = norm_rises k a b (omega (arith, ints, le)) (omega (arith, most))
norms_rise k x (pos b) negative le most = absurd (omega (arith, ints, negative))
norms_rise k (pos a) (negsuc b) negative le most = absurd (omega (arith, ints, le))

steady_same : (f : ℤ → ℤ) (lo hi : ℤ) → pos 0 ≤ℤ lo → hi ≤ℤ pos 0 → SteadyOn f lo hi
steady_same f lo hi low high = RisesOn (λ x y le le' le''.
    let same : x ≡ y = omega (arith, ints, low, high, le, le', le'') in
    omega (arith, ints, ap f same))

steady_abs : (f : ℤ → ℤ) (lo hi : ℤ) → ((x y : ℤ) → x ≤ℤ y → y <ℤ pos 0 → f y ≤ℤ f x) → ((x y : ℤ) → x ≤ℤ y → pos 0 ≤ℤ x → f x ≤ℤ f y) → AreOfOneSign lo hi → SteadyOn f lo hi
steady_abs f lo hi falls rises sign =
    elim sign [
      | inl negative ↦ FallsOn (λ x y le le' le''. falls x y le' (omega (arith, ints, negative, le'')))
      | inr (inl none) ↦ RisesOn (λ x y le le' le''. rises x y le' (omega (arith, ints, none.0, le)))
      | inr (inr positive) ↦ RisesOn (λ x y le le' le''. rises x y le' (omega (arith, ints, positive, le)))
    ]

steady_on : (op : Op) → TurnsAtZero op → (lo hi : ℤ) → FitRanges (row_of op).takes (Span lo hi ∷ []) → AreOfOneSign lo hi → SteadyOn (λ (x : ℤ). number_of (Call op) (x ∷ [])) lo hi
steady_on AbsS turns lo hi fit sign = steady_abs (λ (x : ℤ). number_of (Call AbsS) (x ∷ [])) lo hi abs16_falls abs16_rises sign
steady_on LAbs turns lo hi fit sign = steady_abs (λ (x : ℤ). number_of (Call LAbs) (x ∷ [])) lo hi abs32_falls abs32_rises sign
steady_on NormS turns lo hi fit sign =
    elim sign [
      | inl negative ↦ RisesOn (λ x y le le' le''. norms_rise 14 x y (omega (arith, ints, negative, le'')) le' (omega (arith, ints, clamps, fit.0.1, le, le', le'', negative)))
      | inr (inl none) ↦ steady_same (λ (x : ℤ). number_of (Call NormS) (x ∷ [])) lo hi none.0 none.1
      | inr (inr positive) ↦ FallsOn (λ x y le le' le''. norms_fall 14 x y (omega (arith, ints, positive, le)) le' (omega (arith, ints, fit.0.2, le'')))
    ]
steady_on NormL turns lo hi fit sign =
    elim sign [
      | inl negative ↦ RisesOn (λ x y le le' le''. norms_rise 30 x y (omega (arith, ints, negative, le'')) le' (omega (arith, ints, clamps, fit.0.1, le, le', le'', negative)))
      | inr (inl none) ↦ steady_same (λ (x : ℤ). number_of (Call NormL) (x ∷ [])) lo hi none.0 none.1
      | inr (inr positive) ↦ FallsOn (λ x y le le' le''. norms_fall 30 x y (omega (arith, ints, positive, le)) le' (omega (arith, ints, fit.0.2, le'')))
    ]
steady_on Add turns lo hi fit sign = absurd turns
steady_on Sub turns lo hi fit sign = absurd turns
steady_on Shl turns lo hi fit sign = absurd turns
steady_on Shr turns lo hi fit sign = absurd turns
steady_on ExtractH turns lo hi fit sign = absurd turns
steady_on ExtractL turns lo hi fit sign = absurd turns
steady_on Mult turns lo hi fit sign = absurd turns
steady_on LMult turns lo hi fit sign = absurd turns
steady_on Negate turns lo hi fit sign = absurd turns
steady_on Round turns lo hi fit sign = absurd turns
steady_on LMac turns lo hi fit sign = absurd turns
steady_on LMsu turns lo hi fit sign = absurd turns
steady_on MacR turns lo hi fit sign = absurd turns
steady_on MsuR turns lo hi fit sign = absurd turns
steady_on LAdd turns lo hi fit sign = absurd turns
steady_on LSub turns lo hi fit sign = absurd turns
steady_on LNegate turns lo hi fit sign = absurd turns
steady_on MultR turns lo hi fit sign = absurd turns
steady_on LShl turns lo hi fit sign = absurd turns
steady_on LShr turns lo hi fit sign = absurd turns
steady_on ShrR turns lo hi fit sign = absurd turns
steady_on LShrR turns lo hi fit sign = absurd turns
steady_on LDepositH turns lo hi fit sign = absurd turns
steady_on LDepositL turns lo hi fit sign = absurd turns
steady_on DivS turns lo hi fit sign = absurd turns

between_ends : (f : List ℤ → ℤ) (lo x hi : ℤ) → SteadyOn (λ (y : ℤ). f (y ∷ [])) lo hi → lo ≤ℤ x → x ≤ℤ hi
    → ((corner : List ℤ) × Contains ((lo ∷ []) ∷ (hi ∷ []) ∷ []) corner × (f corner ≤ℤ f (x ∷ []))) × ((corner : List ℤ) × Contains ((lo ∷ []) ∷ (hi ∷ []) ∷ []) corner × (f (x ∷ []) ≤ℤ f corner))
between_ends f lo x hi (RisesOn up) le le' = (
  (lo ∷ [], (0, omega arith, refl), up lo x (omega (arith, ints)) le le'),
  (hi ∷ [], (1, omega arith, refl), up x hi le le' (omega (arith, ints))),
)
between_ends f lo x hi (FallsOn down) le le' = (
  (hi ∷ [], (1, omega arith, refl), down x hi le le' (omega (arith, ints))),
  (lo ∷ [], (0, omega arith, refl), down lo x (omega (arith, ints)) le le'),
)

pub part_between : (op : Op) (part : Range) → TurnsAtZero op → FitRanges (row_of op).takes (part ∷ []) → IsOfOneSign part → IsBetweenCorners (number_of (Call op)) (part ∷ [])
part_between op part turns fit sign [] in' = absurd in'
part_between op Empty turns fit sign (x ∷ xs) in' = absurd in'.0
part_between op (Span lo hi) turns fit sign (x ∷ []) in' = between_ends (number_of (Call op)) lo x hi (steady_on op turns lo hi fit sign) in'.0.0 in'.0.1
part_between op (Span lo hi) turns fit sign (x ∷ y ∷ ys) in' = absurd in'.1

pub turns_not_division : (op : Op) → TurnsAtZero op → op ≢ DivS
turns_not_division op turns e = subst TurnsAtZero e turns
