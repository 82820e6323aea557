-- Where some operands of a box have a property, some corner has it.
use Rattle.std.proofs.Common.{◌≡◌, ◌⊎◌, inl, inr, ℤ, ◌≤ℤ◌, List, [], ◌∷◌, ◌++◌, append_assoc, append-nil, Option, Some, None, length, Bool, true, false, ◌||◌, IsTrue, refl, sym, subst, ap, ◌∙◌, zero, suc, arith}
use Rattle.std.specs.List.{Contains}
use Rattle.std.proofs.lemmas.Int.{ints}
use Rattle.std.proofs.lemmas.List.Elements.{Contains-append_left, Contains-append_right, Contains-append_cases}
use Rattle.sat_base.specs.declared.width.Width.{Width}
use Rattle.sat_base.specs.declared.width.Width.TheVariants.{W16, W32}
use Rattle.operator_meaning.specs.Table.{FitsWidth, FitWidths}
use Rattle.range_core.specs.declared.range.Range.{Range}
use Rattle.range_core.specs.declared.range.Range.TheVariants.{Empty, Span}
use Rattle.range_transfer.specs.Box.{FitRanges, IsInBox, corners, Finds, IsFirstCorner}
use Rattle.range_transfer.specs.Fitting.{AreRanges, AllFit}
use Rattle.range_transfer.specs.Site.{widths_of}
use Rattle.range_transfer.specs.declared.corner.Corner.{Corner}
use Rattle.operator_meaning.specs.declared.site.SiteKind.{SiteKind}
use Rattle.range_transfer.proofs.Steady.{Steady, Rises, Falls, IsOuter}

-- a property of one operand that reaches an end of each range in which it holds
abbrev pub ReachesEnd : Width → (ℤ → Type 0) → Type 0
ReachesEnd width P = (lo x hi : ℤ) → FitsWidth width lo → FitsWidth width hi → lo ≤ℤ x → x ≤ℤ hi → P x → P lo ⊎ P hi

-- a property of operands that does so in each of them, whatever the others are
abbrev pub ReachesEnds : List Width → (List ℤ → Type 0) → Type 0
ReachesEnds [] P = Unit {0}
ReachesEnds (width ∷ widths) P =
    ((xs : List ℤ) → FitWidths widths xs → ReachesEnd width (λ (x : ℤ). P (x ∷ xs)))
    × ((x : ℤ) → FitsWidth width x → ReachesEnds widths (λ (xs : List ℤ). P (x ∷ xs)))

pub between_fits : (width : Width) (lo x hi : ℤ) → FitsWidth width lo → FitsWidth width hi → lo ≤ℤ x → x ≤ℤ hi → FitsWidth width x
between_fits W16 lo x hi low high le le' = omega (arith, ints, low, high, le, le')
between_fits W32 lo x hi low high le le' = omega (arith, ints, low, high, le, le')

pub box_fits : (widths : List Width) (ranges : List Range) (xs : List ℤ) → FitRanges widths ranges → IsInBox xs ranges → FitWidths widths xs
box_fits [] [] [] fit in' = tt
box_fits (width ∷ widths) (Span lo hi ∷ ranges) (x ∷ xs) fit in' = (between_fits width lo x hi fit.0.1 fit.0.2 in'.0.0 in'.0.1, box_fits widths ranges xs fit.1 in'.1)
box_fits (width ∷ widths) (Empty ∷ ranges) (x ∷ xs) fit in' = absurd in'.0
box_fits [] (range ∷ ranges) xs fit in' = absurd fit
box_fits (width ∷ widths) [] xs fit in' = absurd fit
box_fits [] [] (x ∷ xs) fit in' = absurd in'
box_fits (width ∷ widths) (range ∷ ranges) [] fit in' = absurd in'

-- P is the property, Q what it is of the operands that are left
reached_from : (widths : List Width) (P Q : List ℤ → Type 0) (given : List ℤ) (ranges : List Range) (xs : List ℤ) → ((ys : List ℤ) → Q ys → P (given ++ ys))
    → ReachesEnds widths Q → FitRanges widths ranges → IsInBox xs ranges → Q xs → (corner : List ℤ) × Contains (corners given ranges) corner × P corner
reached_from [] P Q given [] [] turn reaches fit in' q = (given, (0, omega arith, refl), subst P (append-nil given) (turn [] q))
reached_from (width ∷ widths) P Q given (Span lo hi ∷ ranges) (x ∷ xs) turn reaches fit in' q =
    let others = box_fits widths ranges xs fit.1 in'.1 in
    let low : Q (lo ∷ xs) → (corner : List ℤ) × Contains (corners given (Span lo hi ∷ ranges)) corner × P corner = λ p.
    let (corner, there, holds) = reached_from widths P (λ (ys : List ℤ). Q (lo ∷ ys)) (given ++ lo ∷ []) ranges xs
    (λ ys r. subst P (sym (append_assoc given (lo ∷ []) ys)) (turn (lo ∷ ys) r)) (reaches.1 lo fit.0.1) fit.1 in'.1 p in
    (corner, Contains-append_left (corners (given ++ lo ∷ []) ranges) (corners (given ++ hi ∷ []) ranges) corner there, holds) in
    let high : Q (hi ∷ xs) → (corner : List ℤ) × Contains (corners given (Span lo hi ∷ ranges)) corner × P corner = λ p.
    let (corner, there, holds) = reached_from widths P (λ (ys : List ℤ). Q (hi ∷ ys)) (given ++ hi ∷ []) ranges xs
    (λ ys r. subst P (sym (append_assoc given (hi ∷ []) ys)) (turn (hi ∷ ys) r)) (reaches.1 hi fit.0.2) fit.1 in'.1 p in
    (corner, Contains-append_right (corners (given ++ lo ∷ []) ranges) (corners (given ++ hi ∷ []) ranges) corner there, holds) in
    elim (reaches.0 xs others lo x hi fit.0.1 fit.0.2 in'.0.0 in'.0.1 q) [ inl p ↦ low p | inr p ↦ high p ]
reached_from (width ∷ widths) P Q given (Empty ∷ ranges) (x ∷ xs) turn reaches fit in' q = absurd in'.0
reached_from [] P Q given (range ∷ ranges) xs turn reaches fit in' q = absurd fit
reached_from (width ∷ widths) P Q given [] xs turn reaches fit in' q = absurd fit
reached_from [] P Q given [] (x ∷ xs) turn reaches fit in' q = absurd in'
reached_from (width ∷ widths) P Q given (range ∷ ranges) [] turn reaches fit in' q = absurd in'

-- where operands of the box have the property, a corner has it
pub reached : (widths : List Width) (P : List ℤ → Type 0) (ranges : List Range) (xs : List ℤ) → ReachesEnds widths P → FitRanges widths ranges → IsInBox xs ranges → P xs
    → (corner : List ℤ) × Contains (corners [] ranges) corner × P corner
reached widths P ranges xs reaches fit in' p = reached_from widths P P [] ranges xs (λ ys q. q) reaches fit in' p

-- ---- corners are operands of the box

pub ranges_fit : (widths : List Width) (ranges : List Range) → FitRanges widths ranges → AreRanges ranges
ranges_fit [] [] fit = tt
ranges_fit (width ∷ widths) (Empty ∷ ranges) fit = (tt, ranges_fit widths ranges fit.1)
ranges_fit (W16 ∷ widths) (Span lo hi ∷ ranges) fit = ((fit.0.0, omega (arith, ints, fit.0.1), omega (arith, ints, fit.0.2)), ranges_fit widths ranges fit.1)
ranges_fit (W32 ∷ widths) (Span lo hi ∷ ranges) fit = ((fit.0.0, fit.0.1, fit.0.2), ranges_fit widths ranges fit.1)
ranges_fit [] (range ∷ ranges) fit = absurd fit
ranges_fit (width ∷ widths) [] fit = absurd fit

-- each corner is what is given, and then operands of the box
pub corner_in_box : (widths : List Width) (given : List ℤ) (ranges : List Range) (corner : List ℤ) → FitRanges widths ranges → Contains (corners given ranges) corner
    → (xs : List ℤ) × IsInBox xs ranges × (corner ≡ given ++ xs)
corner_in_box [] given [] corner fit there = ([], tt, only given corner there)
  where
    only : (a b : List ℤ) → Contains (a ∷ []) b → b ≡ a ++ []
    only a b (zero, less, e) = sym e ∙ sym (append-nil a)
    only a b (suc k, less, e) = absurd (omega (arith, less))
corner_in_box (width ∷ widths) given (Span lo hi ∷ ranges) corner fit there =
    elim (Contains-append_cases (corners (given ++ lo ∷ []) ranges) (corners (given ++ hi ∷ []) ranges) corner there) [
      | inl h ↦
          let (xs, in', e) = corner_in_box widths (given ++ lo ∷ []) ranges corner fit.1 h in
          (lo ∷ xs, ((omega (arith, ints), fit.0.0), in'), e ∙ append_assoc given (lo ∷ []) xs)
      | inr h ↦
          let (xs, in', e) = corner_in_box widths (given ++ hi ∷ []) ranges corner fit.1 h in
          (hi ∷ xs, ((fit.0.0, omega (arith, ints)), in'), e ∙ append_assoc given (hi ∷ []) xs)
    ]
corner_in_box (width ∷ widths) given (Empty ∷ ranges) corner fit there = absurd (omega (arith, there.1))
corner_in_box [] given (range ∷ ranges) corner fit there = absurd fit
corner_in_box (width ∷ widths) given [] corner fit there = absurd fit

-- ---- properties of one, two and three operands

pub one : (w : Width) (P : List ℤ → Type 0) → ReachesEnd w (λ (x : ℤ). P (x ∷ [])) → ReachesEnds (w ∷ []) P
one w P first = (none, λ x fits. tt)
  where
    none : (xs : List ℤ) → FitWidths [] xs → ReachesEnd w (λ (x : ℤ). P (x ∷ xs))
    none [] fits = first
    none (y ∷ ys) fits = absurd fits

pub two : (w v : Width) (P : List ℤ → Type 0) → ((y : ℤ) → FitsWidth v y → ReachesEnd w (λ (x : ℤ). P (x ∷ y ∷ []))) → ((x : ℤ) → FitsWidth w x → ReachesEnd v (λ (y : ℤ). P (x ∷ y ∷ [])))
    → ReachesEnds (w ∷ v ∷ []) P
two w v P first second = (left, λ x fits. one v (λ (ys : List ℤ). P (x ∷ ys)) (second x fits))
  where
    left : (xs : List ℤ) → FitWidths (v ∷ []) xs → ReachesEnd w (λ (x : ℤ). P (x ∷ xs))
    left [] fits = absurd fits
    left (y ∷ []) fits = first y fits.0
    left (y ∷ z ∷ zs) fits = absurd fits.1

pub three : (w v u : Width) (P : List ℤ → Type 0) → ((y z : ℤ) → FitsWidth v y → FitsWidth u z → ReachesEnd w (λ (x : ℤ). P (x ∷ y ∷ z ∷ [])))
    → ((x z : ℤ) → FitsWidth w x → FitsWidth u z → ReachesEnd v (λ (y : ℤ). P (x ∷ y ∷ z ∷ []))) → ((x y : ℤ) → FitsWidth w x → FitsWidth v y → ReachesEnd u (λ (z : ℤ). P (x ∷ y ∷ z ∷ [])))
    → ReachesEnds (w ∷ v ∷ u ∷ []) P
three w v u P first second third = (left, λ x fits. two v u (λ (ys : List ℤ). P (x ∷ ys)) (λ z fit. second x z fits fit) (λ y fit. third x y fits fit))
  where
    left : (xs : List ℤ) → FitWidths (v ∷ u ∷ []) xs → ReachesEnd w (λ (x : ℤ). P (x ∷ xs))
    left [] fits = absurd fits
    left (y ∷ []) fits = absurd fits.1
    left (y ∷ z ∷ []) fits = first y z fits.0 fits.1.0
    left (y ∷ z ∷ t ∷ ts) fits = absurd fits.1.1

pub by_steady : (w : Width) (P : ℤ → Type 0) (f : ℤ → ℤ) → IsOuter P → Steady f → ReachesEnd w (λ (x : ℤ). P (f x))
by_steady w P f outer (Rises up) lo x hi low high le le' p = outer (f lo) (f x) (f hi) (up lo x le) (up x hi le') p
by_steady w P f outer (Falls down) lo x hi low high le le' p =
    elim (outer (f hi) (f x) (f lo) (down x hi le') (down lo x le) p) [ inl h ↦ inr h | inr h ↦ inl h ]

pub either : (w : Width) (p q : ℤ → Bool) → ReachesEnd w (λ (x : ℤ). IsTrue (p x)) → ReachesEnd w (λ (x : ℤ). IsTrue (q x)) → ReachesEnd w (λ (x : ℤ). IsTrue (p x || q x))
either w p q first second lo x hi low high le le' h =
    elim (one_of (p x) (q x) h) [
      | inl holds ↦ elim (first lo x hi low high le le' holds) [ inl e ↦ inl (left_of (p lo) (q lo) e) | inr e ↦ inr (left_of (p hi) (q hi) e) ]
      | inr holds ↦ elim (second lo x hi low high le le' holds) [ inl e ↦ inl (right_of (p lo) (q lo) e) | inr e ↦ inr (right_of (p hi) (q hi) e) ]
    ]
  where
    one_of : (a b : Bool) → IsTrue (a || b) → IsTrue a ⊎ IsTrue b
    one_of true b e = inl refl
    one_of false b e = inr e

    left_of : (a b : Bool) → IsTrue a → IsTrue (a || b)
    left_of true b e = refl
    left_of false b e = cc

    right_of : (a b : Bool) → IsTrue b → IsTrue (a || b)
    right_of true b e = refl
    right_of false b e = e

pub never : (w : Width) → ReachesEnd w (λ (x : ℤ). IsTrue false)
never w lo x hi low high le le' h = inl h

-- ---- what is found is the first corner of the box

pub first_corner : (widths : List Width) (P : List ℤ → Type 0) (given : List ℤ) (ranges : List Range) (result : Option Corner) → ReachesEnds widths P → FitRanges widths ranges → given ≡ []
    → Finds P (corners given ranges) result → IsFirstCorner P ranges result
first_corner widths P given ranges result reaches fit start found = go result (subst (λ (g : List ℤ). Finds P (corners g ranges) result) start found)
  where
    go : (r : Option Corner) → Finds P (corners [] ranges) r → IsFirstCorner P ranges r
    go None none = λ args in' p. let (corner, there, holds) = reached widths P ranges args reaches fit in' p in none corner there holds
    go (Some corner) first = first

pub corners_fit : (kind : SiteKind) (given : List ℤ) (ranges : List Range) → FitRanges (widths_of kind) ranges → given ≡ [] → AllFit kind (corners given ranges)
corners_fit kind given ranges fit start args there =
    let (xs, in', e) = corner_in_box (widths_of kind) given ranges args fit there in
    subst (FitWidths (widths_of kind)) (sym (e ∙ ap (λ (g : List ℤ). g ++ xs) start)) (box_fits (widths_of kind) ranges xs fit in')

pub length_fits : (widths : List Width) (ranges : List Range) → FitRanges widths ranges → length ranges ≡ length widths
length_fits [] [] fit = refl
length_fits (width ∷ widths) (range ∷ ranges) fit = omega (arith, length_fits widths ranges fit.1)
length_fits [] (range ∷ ranges) fit = absurd fit
length_fits (width ∷ widths) [] fit = absurd fit
