-- What the words make of a shift to the left, near and far.
use Rattle.std.proofs.Common.{◌≡◌, ◌≢◌, ℕ, ◌*◌, ◌^◌, ◌<◌, ◌≤◌, ℤ, pos, negsuc, ◌-ℤ◌, ◌*ℤ◌, ◌≤ℤ◌, ◌<ℤ◌, true, false, if◌then◌else◌, ◌⊎◌, inl, inr, List, refl, sym, ap, ◌∙◌, subst, arith, ⊎_elim, lit≤, lit<, pow_pos, pow_mono}
use Rattle.std.specs.Prelude.{FitsSigned}
use Rattle.std.specs.Int.{w16, w32}
use Rattle.std.proofs.lemmas.Bool.{cases_Bool}
use Rattle.std.proofs.lemmas.Int.{ints}
use Rattle.sat_base.specs.Clip.{clip16, clip32}
use Rattle.operator_meaning.specs.Clipping.{changes16, changes32}
use Rattle.template_runs.specs.Courses.{Final, Ends}
use Rattle.template_runs.specs.Values.{added, less, equal, to_left, to_right_signed, other_bits, upper, amount_of}
use Rattle.operator_lowering.proofs.Numbers.{less_true, less_false, equal_true, equal_false, kept16, above16, below16, by_range16, kept32, above32, below32, by_range32}
use Rattle.operator_lowering.proofs.Shifts.{left_exact, left_fits, back_exact, product_of_back, big_positive, big_negative, product_positive, product_negative, short_product, amount_is}
use Rattle.operator_lowering.proofs.Sums.{low_half, half_within, half_fits, sign_negative, sign_positive}
use Rattle.operator_lowering.proofs.Trees.{Sets, by_clip}

-- ---- the end by the sign

abbrev pub end16 : ℤ → ℤ
end16 y = other_bits (added (upper 8) (negsuc 0)) (to_right_signed y 31)

greatest16 : other_bits (added (upper 8) (negsuc 0)) (pos 0) ≡ pos 32767
unfolding other_bits added upper
greatest16 = refl

least16 : other_bits (added (upper 8) (negsuc 0)) (negsuc 0) ≡ negsuc 32767
unfolding other_bits added upper
least16 = refl

abbrev pub end32 : ℤ → ℤ
end32 y = other_bits (added (upper 0x80000) (negsuc 0)) (to_right_signed y 31)

greatest32 : other_bits (added (upper 0x80000) (negsuc 0)) (pos 0) ≡ pos 2147483647
unfolding other_bits added upper
greatest32 = refl

least32 : other_bits (added (upper 0x80000) (negsuc 0)) (negsuc 0) ≡ negsuc 2147483647
unfolding other_bits added upper
least32 = refl

lowest : (y : ℤ) → FitsSigned w32 y → negsuc 2147483647 ≤ℤ y
lowest y fits = grind (arith, ints)

highest : (y : ℤ) → FitsSigned w32 y → y ≤ℤ pos 2147483647
highest y fits = grind (arith, ints)

-- a number y of 32 bits that has the sign of a number t beyond a clip

module _ (y t : ℤ) (fits : FitsSigned w32 y) (positive : pos 0 ≤ℤ y → pos 0 ≤ℤ t) (negative : y <ℤ pos 0 → t <ℤ pos 0) where
  pub clipped16 : (negsuc 32767 ≤ℤ t → t ≤ℤ pos 32767 → ⊥) → (end16 y ≡ clip16 t) × (changes16 t ≡ true)
  clipped16 outside =
      ⊎_elim
      (λ (sign : less y (pos 0) ≡ true).
      let low = less_true _ _ sign in
      by_range16 t (λ a b. absurd (outside a b)) (λ over. absurd (not_over over (negative low)))
      (λ under. let k = below16 t under in (ap (other_bits (added (upper 8) (negsuc 0))) (sign_negative y (lowest y fits) low) ∙ least16 ∙ k.0, k.1)))
      (λ (sign : less y (pos 0) ≡ false).
      let low = less_false _ _ sign in
      by_range16 t (λ a b. absurd (outside a b))
      (λ over. let k = above16 t over in (ap (other_bits (added (upper 8) (negsuc 0))) (sign_positive y low (highest y fits)) ∙ greatest16 ∙ k.0, k.1))
      (λ under. absurd (not_under under (positive low))))
      (cases_Bool (less y (pos 0)))
    where
      not_over : pos 32767 <ℤ t → t <ℤ pos 0 → ⊥
      not_over over high = grind (arith, ints)

      not_under : t <ℤ negsuc 32767 → pos 0 ≤ℤ t → ⊥
      not_under under low = grind (arith, ints)

module _ (y t : ℤ) (fits : FitsSigned w32 y) (positive : pos 0 ≤ℤ y → pos 0 ≤ℤ t) (negative : y <ℤ pos 0 → t <ℤ pos 0) where
  pub clipped32 : (negsuc 2147483647 ≤ℤ t → t ≤ℤ pos 2147483647 → ⊥) → (end32 y ≡ clip32 t) × (changes32 t ≡ true)
  clipped32 outside =
      ⊎_elim
      (λ (sign : less y (pos 0) ≡ true).
      let low = less_true _ _ sign in
      by_range32 t (λ a b. absurd (outside a b)) (λ over. absurd (not_over over (negative low)))
      (λ under. let k = below32 t under in (ap (other_bits (added (upper 0x80000) (negsuc 0))) (sign_negative y (lowest y fits) low) ∙ least32 ∙ k.0, k.1)))
      (λ (sign : less y (pos 0) ≡ false).
      let low = less_false _ _ sign in
      by_range32 t (λ a b. absurd (outside a b))
      (λ over. let k = above32 t over in (ap (other_bits (added (upper 0x80000) (negsuc 0))) (sign_positive y low (highest y fits)) ∙ greatest32 ∙ k.0, k.1))
      (λ under. absurd (not_under under (positive low))))
      (cases_Bool (less y (pos 0)))
    where
      not_over : pos 2147483647 <ℤ t → t <ℤ pos 0 → ⊥
      not_over over high = grind (arith, ints)

      not_under : t <ℤ negsuc 2147483647 → pos 0 ≤ℤ t → ⊥
      not_under under low = grind (arith, ints)

zero_sum : added (pos 0) (pos 0) ≡ pos 0
unfolding added
zero_sum = refl

pub own_sum : (x : ℤ) → FitsSigned w32 x → added x (pos 0) ≡ x
unfolding added
own_sum x fits = grind (arith, ints)

zero_product : (p : ℕ) → pos 0 *ℤ pos p ≡ pos 0
zero_product p = ap pos (let e : 0 * p ≡ 0 = omega arith in e)

at_most_0 : (x : ℤ) → x ≢ pos 0 → (pos 0 <ℤ x) ⊎ (x <ℤ pos 0)
at_most_0 x other =
    ⊎_elim (λ (e : less x (pos 0) ≡ true). inr (less_true _ _ e)) (λ (e : less x (pos 0) ≡ false). inl (more x (less_false _ _ e) other)) (cases_Bool (less x (pos 0)))
  where
    more : (x : ℤ) → pos 0 ≤ℤ x → x ≢ pos 0 → pos 0 <ℤ x
    more x low other = grind (arith, ints)

-- ---- a product by its sign, where the operand is not 0

module _ (x : ℤ) (n : ℕ) where
  abbrev product : ℤ
  product = x *ℤ pos (2 ^ n)

  none_left : x ≡ pos 0 → product ≡ pos 0
  none_left none = ap (λ y. y *ℤ pos (2 ^ n)) none ∙ zero_product (2 ^ n)

  low_sign : pos 0 ≤ℤ x → pos 0 ≤ℤ product
  low_sign low = product_positive x (2 ^ n) low

  high_sign : x <ℤ pos 0 → product <ℤ pos 0
  high_sign high = product_negative x (2 ^ n) high (pow_pos n)

-- ---- 16 bits: the low half of a shift tells

abbrev pub check16 : (y kept changed : ℤ) → List ℤ → Final
check16 y kept changed input = if equal (low_half y) y then Ends (low_half y) kept input else Ends (end16 y) changed input

module _ (x : ℤ) (n : ℕ) (fits : FitsSigned w16 x) where
  abbrev t16 : ℤ
  t16 = product x n

  long16 : FitsSigned w32 x
  long16 = grind (arith, ints)

  module _ (near : n < 16) where
    abbrev y16 : ℤ
    y16 = to_left x (amount_of (pos n))

    left16 : y16 ≡ t16
    left16 = ap (to_left x) (amount_is n (omega arith)) ∙ left_exact x n long16 (omega arith) (short_product x n fits (omega arith))

    near_kept16 : equal (low_half y16) y16 ≡ true → (low_half y16 ≡ clip16 t16) × (changes16 t16 ≡ false)
    near_kept16 e =
        let same = equal_true _ _ e ∙ left16 in
        let range = half_fits y16 (left_fits x (amount_of (pos n))) in
        let k = kept16 t16 (subst (λ y. negsuc 32767 ≤ℤ y) same range.0) (subst (λ y. y ≤ℤ pos 32767) same range.1) in
        (same ∙ k.0, k.1)

    near_changed16 : equal (low_half y16) y16 ≡ false → (end16 y16 ≡ clip16 t16) × (changes16 t16 ≡ true)
    near_changed16 e =
        clipped16 y16 t16 (left_fits x (amount_of (pos n))) (subst (λ y. pos 0 ≤ℤ y) left16) (subst (λ y. y <ℤ pos 0) left16)
        (λ low high. equal_false _ _ e (half_within _ (subst (λ y. negsuc 32767 ≤ℤ y) (sym left16) low) (subst (λ y. y ≤ℤ pos 32767) (sym left16) high)))

    pub near_is16 : (kept changed final : ℤ) (input : List ℤ) → Sets (changes16 t16) kept changed final → check16 y16 kept changed input ≡ Ends (clip16 t16) final input
    near_is16 kept changed final input sets = by_clip (equal (low_half y16) y16) sets near_kept16 near_changed16

  -- beyond 16, a shift by 16 keeps 0 alone too
  module _ (far : 16 ≤ n) where
    abbrev z16 : ℤ
    z16 = to_left x 16

    shifted16 : z16 ≡ x *ℤ pos 65536
    shifted16 = left_exact x 16 long16 (lit< tt) (short_product x 16 fits (lit≤ tt))

    far_kept16 : equal (low_half z16) z16 ≡ true → (low_half z16 ≡ clip16 t16) × (changes16 t16 ≡ false)
    far_kept16 e =
        let same : low_half z16 ≡ x *ℤ pos 65536 = equal_true _ _ e ∙ shifted16 in
        let range = half_fits z16 (left_fits x 16) in
        let none : x ≡ pos 0 = only_zero x (subst (λ y. negsuc 32767 ≤ℤ y) same range.0) (subst (λ y. y ≤ℤ pos 32767) same range.1) in
        let zero_is : t16 ≡ pos 0 = none_left x n none in
        let k = kept16 t16 (subst (λ y. negsuc 32767 ≤ℤ y) (sym zero_is) (grind (arith, ints))) (subst (λ y. y ≤ℤ pos 32767) (sym zero_is) (grind (arith, ints))) in
        (same ∙ ap (λ y. y *ℤ pos 65536) none ∙ zero_product 65536 ∙ sym zero_is ∙ k.0, k.1)
      where
        only_zero : (x : ℤ) → negsuc 32767 ≤ℤ (x *ℤ pos 65536) → (x *ℤ pos 65536) ≤ℤ pos 32767 → x ≡ pos 0
        only_zero x low high = grind (arith, ints)

    pub outside16 : x ≢ pos 0 → negsuc 32767 ≤ℤ t16 → t16 ≤ℤ pos 32767 → ⊥
    outside16 other low high =
        ⊎_elim (λ (some : pos 0 <ℤ x). too_great (big_positive x (2 ^ n) 65536 some (pow_mono far)) high) (λ (few : x <ℤ pos 0). too_small (big_negative x (2 ^ n) 65536 few (pow_mono far)) low) (at_most_0 x other)
      where
        too_great : pos 65536 ≤ℤ t16 → t16 ≤ℤ pos 32767 → ⊥
        too_great big high = grind (arith, ints)

        too_small : t16 ≤ℤ (pos 0 -ℤ pos 65536) → negsuc 32767 ≤ℤ t16 → ⊥
        too_small big low = grind (arith, ints)

    far_changed16 : equal (low_half z16) z16 ≡ false → (end16 z16 ≡ clip16 t16) × (changes16 t16 ≡ true)
    far_changed16 e =
        clipped16 z16 t16 (left_fits x 16) (λ low. low_sign x n (not_less x (subst (λ y. pos 0 ≤ℤ y) shifted16 low))) (λ high. high_sign x n (is_less x (subst (λ y. y <ℤ pos 0) shifted16 high)))
        (outside16 (λ none. equal_false _ _ e (stays (shifted16 ∙ ap (λ y. y *ℤ pos 65536) none ∙ zero_product 65536))))
      where
        not_less : (x : ℤ) → pos 0 ≤ℤ (x *ℤ pos 65536) → pos 0 ≤ℤ x
        not_less x low = grind (arith, ints)

        is_less : (x : ℤ) → (x *ℤ pos 65536) <ℤ pos 0 → x <ℤ pos 0
        is_less x high = grind (arith, ints)

        stays : z16 ≡ pos 0 → low_half z16 ≡ z16
        stays zero_is = half_within z16 (subst (λ y. negsuc 32767 ≤ℤ y) (sym zero_is) (grind (arith, ints))) (subst (λ y. y ≤ℤ pos 32767) (sym zero_is) (grind (arith, ints)))

    pub far_is16 : (kept changed final : ℤ) (input : List ℤ) → Sets (changes16 t16) kept changed final → check16 z16 kept changed input ≡ Ends (clip16 t16) final input
    far_is16 kept changed final input sets = by_clip (equal (low_half z16) z16) sets far_kept16 far_changed16

-- ---- 32 bits: the shift back tells

none_right : (m : ℕ) → to_right_signed (pos 0) m ≡ pos 0
unfolding to_right_signed
none_right m = grind (arith, ints)

-- a register has the operand
abbrev pub check32 : (operand y : ℤ) (amount : ℕ) (kept changed : ℤ) → List ℤ → Final
check32 operand y amount kept changed input = if equal (to_right_signed y amount) operand then Ends y kept input else Ends (end32 operand) changed input

module _ (x operand : ℤ) (is : operand ≡ x) (n : ℕ) (fits : FitsSigned w32 x) where
  abbrev t32 : ℤ
  t32 = product x n

  end_of_operand : (negsuc 2147483647 ≤ℤ t32 → t32 ≤ℤ pos 2147483647 → ⊥) → (end32 operand ≡ clip32 t32) × (changes32 t32 ≡ true)
  end_of_operand outside = let k = clipped32 x t32 fits (low_sign x n) (high_sign x n) outside in (ap end32 is ∙ k.0, k.1)

  module _ (near : n < 32) where
    abbrev y32 : ℤ
    y32 = to_left x (amount_of (pos n))

    abbrev back32 : ℤ
    back32 = to_right_signed y32 (amount_of (pos n))

    amount32 : back32 ≡ to_right_signed (to_left x n) n
    amount32 = ap (λ m. to_right_signed (to_left x m) m) (amount_is n near)

    near_kept32 : equal back32 operand ≡ true → (y32 ≡ clip32 t32) × (changes32 t32 ≡ false)
    near_kept32 e =
        let same = product_of_back (to_left x n) x n (left_fits x n) near (sym amount32 ∙ equal_true _ _ e ∙ is) in
        let k = kept32 t32 (lowest t32 same) (highest t32 same) in
        (ap (to_left x) (amount_is n near) ∙ left_exact x n fits near same ∙ k.0, k.1)

    near_changed32 : equal back32 operand ≡ false → (end32 operand ≡ clip32 t32) × (changes32 t32 ≡ true)
    near_changed32 e =
        end_of_operand (λ low high. equal_false _ _ e (amount32 ∙ ap (λ y. to_right_signed y n) (left_exact x n fits near (fits_of low high)) ∙ back_exact x n ∙ sym is))
      where
        fits_of : negsuc 2147483647 ≤ℤ t32 → t32 ≤ℤ pos 2147483647 → FitsSigned w32 t32
        fits_of low high = grind (arith, ints)

    pub near_is32 : (kept changed final : ℤ) (input : List ℤ) → Sets (changes32 t32) kept changed final → check32 operand y32 (amount_of (pos n)) kept changed input ≡ Ends (clip32 t32) final input
    near_is32 kept changed final input sets = by_clip (equal back32 operand) sets near_kept32 near_changed32

  -- beyond 32 the words take 0 for the product
  module _ (far : 32 ≤ n) where
    abbrev z32 : ℤ
    z32 = to_right_signed (added (pos 0) (pos 0)) (amount_of (pos n))

    none32 : z32 ≡ pos 0
    none32 = ap (λ y. to_right_signed y (amount_of (pos n))) zero_sum ∙ none_right (amount_of (pos n))

    far_kept32 : equal z32 operand ≡ true → (added (pos 0) (pos 0) ≡ clip32 t32) × (changes32 t32 ≡ false)
    far_kept32 e =
        let none : x ≡ pos 0 = sym is ∙ sym (equal_true _ _ e) ∙ none32 in
        let zero_is : t32 ≡ pos 0 = none_left x n none in
        let k = kept32 t32 (subst (λ y. negsuc 2147483647 ≤ℤ y) (sym zero_is) (grind (arith, ints))) (subst (λ y. y ≤ℤ pos 2147483647) (sym zero_is) (grind (arith, ints))) in
        (zero_sum ∙ sym zero_is ∙ k.0, k.1)

    pub outside32 : x ≢ pos 0 → negsuc 2147483647 ≤ℤ t32 → t32 ≤ℤ pos 2147483647 → ⊥
    outside32 other low high =
        ⊎_elim (λ (some : pos 0 <ℤ x). too_great (big_positive x (2 ^ n) 4294967296 some (pow_mono far)) high) (λ (few : x <ℤ pos 0). too_small (big_negative x (2 ^ n) 4294967296 few (pow_mono far)) low) (at_most_0 x other)
      where
        too_great : pos 4294967296 ≤ℤ t32 → t32 ≤ℤ pos 2147483647 → ⊥
        too_great big high = grind (arith, ints)

        too_small : t32 ≤ℤ (pos 0 -ℤ pos 4294967296) → negsuc 2147483647 ≤ℤ t32 → ⊥
        too_small big low = grind (arith, ints)

    far_changed32 : equal z32 operand ≡ false → (end32 operand ≡ clip32 t32) × (changes32 t32 ≡ true)
    far_changed32 e = end_of_operand (outside32 (λ none. equal_false _ _ e (none32 ∙ sym (is ∙ none))))

    pub far_is32 : (kept changed final : ℤ) (input : List ℤ) → Sets (changes32 t32) kept changed final → check32 operand (added (pos 0) (pos 0)) (amount_of (pos n)) kept changed input ≡ Ends (clip32 t32) final input
    far_is32 kept changed final input sets = by_clip (equal z32 operand) sets far_kept32 far_changed32
