-- The corners of a box, one range after the other.
use Rattle.std.proofs.Common.{◌≡◌, ℕ, suc, ◌-◌, ◌≤◌, inl, inr, ℤ, FitsSigned, w32, List, [], ◌∷◌, ◌++◌, length, get_or, take, drop, Option, Some, None, refl, sym, subst, ap, ◌∙◌, arith, to_z, of_z, w64}
use Rattle.std.proofs.lemmas.Int.{ints}
use Rattle.std.proofs.lemmas.List.Elements.{Contains-append_left, Contains-append_right, Contains-append_cases}
use Rattle.operator_meaning.specs.declared.site.SiteKind.{SiteKind}
use Rattle.range_core.specs.declared.range.Range.{Range}
use Rattle.range_core.specs.declared.range.Range.TheVariants.{Empty, Span}
use Rattle.range_core.specs.Range.{IsRange}
use Rattle.range_transfer.specs.declared.corner.Corner.{Corner}
use Rattle.range_transfer.specs.Box.{corners, operands_of, IsFirst, IsNone, Finds}
use Rattle.range_transfer.specs.Fitting.{AreRanges, AllFit}

take_whole : (l : List Range) → take (length l) l ≡ l
take_whole [] = refl
take_whole (x ∷ l) = ap (λ (m : List Range). x ∷ m) (take_whole l)

-- the ranges are a first one and the rest, as a slice is read
pub read_ranges : (ranges : List Range) (range : Range) → 1 ≤ length ranges → get_or ranges 0 Empty ≡ range → ranges ≡ range ∷ take (length ranges - 1) (drop 1 ranges)
read_ranges [] range some e = absurd (omega (arith, some))
read_ranges (r ∷ rest) range some e =
    let long : suc (length rest) - 1 ≡ length rest = omega arith in
    ap (λ (q : Range). q ∷ rest) e ∙ ap (λ (l : List Range). range ∷ l) (sym (ap (λ (n : ℕ). take n rest) long ∙ take_whole rest))

-- an end as it is read
pub end_is : (x : ℤ) → FitsSigned w32 x → to_z w32 (of_z w32 (to_z w64 (of_z w64 x))) ≡ x
end_is x fits = omega (arith, ints, fits)

pub step : (given at : List ℤ) (read x : ℤ) → at ≡ given ++ read ∷ [] → read ≡ x → at ≡ given ++ x ∷ []
step given at read x e same = e ∙ ap (λ (y : ℤ). given ++ y ∷ []) same

pub tail_ranges : (ranges tail : List Range) (lo hi : ℤ) → ranges ≡ Span lo hi ∷ tail → AreRanges ranges → AreRanges tail
tail_ranges ranges tail lo hi e h = (subst AreRanges e h).1

pub head_range : (ranges tail : List Range) (lo hi : ℤ) → ranges ≡ Span lo hi ∷ tail → AreRanges ranges → IsRange (Span lo hi)
head_range ranges tail lo hi e h = (subst AreRanges e h).0

pub low_fits : (kind : SiteKind) (given at : List ℤ) (ranges tail : List Range) (lo hi : ℤ) → ranges ≡ Span lo hi ∷ tail → at ≡ given ++ lo ∷ [] → AllFit kind (corners given ranges) → AllFit kind (corners at tail)
low_fits kind given at ranges tail lo hi e is fit =
    let all = subst (λ (l : List Range). AllFit kind (corners given l)) e fit in
    subst (λ (g : List ℤ). AllFit kind (corners g tail)) (sym is) (λ args h. all args (Contains-append_left _ _ args h))

pub high_fits : (kind : SiteKind) (given at : List ℤ) (ranges tail : List Range) (lo hi : ℤ) → ranges ≡ Span lo hi ∷ tail → at ≡ given ++ hi ∷ [] → AllFit kind (corners given ranges) → AllFit kind (corners at tail)
high_fits kind given at ranges tail lo hi e is fit =
    let all = subst (λ (l : List Range). AllFit kind (corners given l)) e fit in
    subst (λ (g : List ℤ). AllFit kind (corners g tail)) (sym is) (λ args h. all args (Contains-append_right _ _ args h))

first_left : (P : List ℤ → Type 0) (xs ys : List (List ℤ)) (args : List ℤ) → IsFirst P xs args → IsFirst P (xs ++ ys) args
first_left P [] ys args h = absurd h
first_left P (x ∷ xs) ys args (inl h) = inl h
first_left P (x ∷ xs) ys args (inr (not', h)) = inr (not', first_left P xs ys args h)

none_here : (P : List ℤ → Type 0) (x : List ℤ) (xs : List (List ℤ)) → IsNone P (x ∷ xs) → P x → ⊥
none_here P x xs none p = none x (0, omega arith, refl) p

none_later : (P : List ℤ → Type 0) (x : List ℤ) (xs : List (List ℤ)) → IsNone P (x ∷ xs) → IsNone P xs
none_later P x xs none args (k, less, e) p = none args (suc k, omega (arith, less), e) p

first_right : (P : List ℤ → Type 0) (xs ys : List (List ℤ)) (args : List ℤ) → IsNone P xs → IsFirst P ys args → IsFirst P (xs ++ ys) args
first_right P [] ys args none h = h
first_right P (x ∷ xs) ys args none h = inr (none_here P x xs none, first_right P xs ys args (none_later P x xs none) h)

none_both : (P : List ℤ → Type 0) (xs ys : List (List ℤ)) → IsNone P xs → IsNone P ys → IsNone P (xs ++ ys)
none_both P xs ys left right args h p = elim (Contains-append_cases xs ys args h) [ inl there ↦ left args there p | inr there ↦ right args there p ]

-- the first corner with the low end, or else the first with the high end
pub first_low : (P : List ℤ → Type 0) (given at : List ℤ) (ranges tail : List Range) (lo hi : ℤ) (args : List ℤ) → ranges ≡ Span lo hi ∷ tail → at ≡ given ++ lo ∷ [] → IsFirst P (corners at tail) args → IsFirst P (corners given ranges) args
first_low P given at ranges tail lo hi args e is h =
    subst (λ (l : List Range). IsFirst P (corners given l) args) (sym e)
    (first_left P (corners (given ++ lo ∷ []) tail) (corners (given ++ hi ∷ []) tail) args (subst (λ (g : List ℤ). IsFirst P (corners g tail) args) is h))

finds_right : (P : List ℤ → Type 0) (xs ys : List (List ℤ)) (result : Option Corner) → IsNone P xs → Finds P ys result → Finds P (xs ++ ys) result
finds_right P xs ys None none h = none_both P xs ys none h
finds_right P xs ys (Some c) none h = first_right P xs ys (operands_of c) none h

pub first_high : (P : List ℤ → Type 0) (given below above : List ℤ) (ranges tail : List Range) (lo hi : ℤ) (result : Option Corner) → ranges ≡ Span lo hi ∷ tail → below ≡ given ++ lo ∷ [] → above ≡ given ++ hi ∷ []
    → IsNone P (corners below tail) → Finds P (corners above tail) result → Finds P (corners given ranges) result
first_high P given below above ranges tail lo hi result e low high none h =
    subst (λ (l : List Range). Finds P (corners given l) result) (sym e)
    (finds_right P (corners (given ++ lo ∷ []) tail) (corners (given ++ hi ∷ []) tail) result
    (subst (λ (g : List ℤ). IsNone P (corners g tail)) low none)
    (subst (λ (g : List ℤ). Finds P (corners g tail) result) high h))
