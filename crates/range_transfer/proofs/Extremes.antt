-- The extremes of a function's numbers at corners.
use Rattle.std.proofs.Common.{◌≡◌, inl, inr, ℤ, List, [], ◌∷◌, ◌++◌, subst, sym, arith}
use Rattle.std.specs.Int.{int_min, int_max}
use Rattle.std.proofs.lemmas.Int.{ints, clamps, by_lt_z}
use Rattle.std.proofs.lemmas.List.Elements.{Contains-append_left, Contains-append_right, Contains-append_cases}
use Rattle.range_core.specs.declared.range.Range.{Range}
use Rattle.range_core.specs.declared.range.Range.TheVariants.{Span}
use Rattle.range_transfer.specs.Box.{corners, HasEmpty}
use Rattle.range_transfer.specs.Image.{AreExtremes}

extremes_of_both : (f : List ℤ → ℤ) (xs ys : List (List ℤ)) (a b c d least most : ℤ) → AreExtremes f xs a b → AreExtremes f ys c d → least ≡ int_min a c → most ≡ int_max b d → AreExtremes f (xs ++ ys) least most
extremes_of_both f xs ys a b c d least most left right low high = record {
  low = by_lt_z a c
      (λ h. let (x, there, e) = left.low in (x, Contains-append_left xs ys x there, omega (arith, ints, clamps, e, h, low)))
      (λ h. let (x, there, e) = right.low in (x, Contains-append_right xs ys x there, omega (arith, ints, clamps, e, h, low)));
  high = by_lt_z b d
      (λ h. let (x, there, e) = right.high in (x, Contains-append_right xs ys x there, omega (arith, ints, clamps, e, h, high)))
      (λ h. let (x, there, e) = left.high in (x, Contains-append_left xs ys x there, omega (arith, ints, clamps, e, h, high)));
  between = λ x there. elim (Contains-append_cases xs ys x there) [
    | inl h ↦ let (p, q) = left.between x h in (omega (arith, ints, clamps, p, low), omega (arith, ints, clamps, q, high))
    | inr h ↦ let (p, q) = right.between x h in (omega (arith, ints, clamps, p, low), omega (arith, ints, clamps, q, high))
  ];
}

pub extremes_of_span : (f : List ℤ → ℤ) (given below above : List ℤ) (ranges tail : List Range) (lo hi a b c d least most : ℤ) → ranges ≡ Span lo hi ∷ tail → below ≡ given ++ lo ∷ [] → above ≡ given ++ hi ∷ []
    → AreExtremes f (corners below tail) a b → AreExtremes f (corners above tail) c d → least ≡ int_min a c → most ≡ int_max b d → AreExtremes f (corners given ranges) least most
extremes_of_span f given below above ranges tail lo hi a b c d least most whole low high left right is_least is_most =
    subst (λ (l : List Range). AreExtremes f (corners given l) least most) (sym whole)
    (extremes_of_both f (corners (given ++ lo ∷ []) tail) (corners (given ++ hi ∷ []) tail) a b c d least most
    (subst (λ (g : List ℤ). AreExtremes f (corners g tail) a b) low left)
    (subst (λ (g : List ℤ). AreExtremes f (corners g tail) c d) high right) is_least is_most)

pub empty_tail : (ranges tail : List Range) (lo hi : ℤ) → ranges ≡ Span lo hi ∷ tail → HasEmpty tail → HasEmpty ranges
empty_tail ranges tail lo hi whole h = subst HasEmpty (sym whole) h
