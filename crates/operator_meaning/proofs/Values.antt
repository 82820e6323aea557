-- Each operator has a value but where `div_s` is off its valid pairs, and the value lies in its width.
use Rattle.std.proofs.Common.{◌≡◌, ℕ, zero, suc, ◌+◌, ◌-◌, ◌*◌, ◌/◌, ◌^◌, ◌==◌, ◌<◌, ◌≤◌, inl, inr, false, if◌then◌else◌, leb, ℤ, pos, negsuc, ◌+ℤ◌, ◌-ℤ◌, ◌*ℤ◌, neg_ℤ, unsigned_abs, FitsSigned, List, [], ◌∷◌, Option, Some, None, refl, sym, subst, arith, w16, w32, pow_pos, lit<}
use Rattle.std.specs.Int.Signed.{mag, mag_shr}
use Rattle.std.proofs.Math.Nat.{div-lt_iff_lt-mul}
use Rattle.std.proofs.lemmas.Nat.{mul-le}
use Rattle.std.proofs.lemmas.Int.{ints, clamps, SFits-int_wrap}
use Rattle.std.proofs.lemmas.Bool.{cases_lt, cond_both, eqb-false, leb-false}
use Rattle.sat_base.specs.Clip.{clip16, clip32}
use Rattle.sat_base.specs.declared.width.Width.{Width}
use Rattle.sat_base.specs.declared.width.Width.TheVariants.{W16, W32}
use Rattle.operator_meaning.specs.Table.{row_of, FitsWidth, FitWidths, AreOperands}
use Rattle.operator_meaning.specs.Value.{floor, shifted, shifted_back, rounded, product_of, accumulated, reduced, norm, quotient, value_of}
use Rattle.operator_meaning.specs.declared.operator.Op.{Op}
use Rattle.operator_meaning.specs.declared.operator.Op.TheVariants.{Add, Sub, AbsS, Shl, Shr, ExtractH, ExtractL, Mult, LMult, Negate, Round, LMac, LMsu, MacR, MsuR, LAdd, LSub, LNegate, MultR, LShl, LShr, ShrR, LShrR, LAbs, LDepositH, LDepositL, NormS, NormL, DivS}
use Rattle.operator_meaning.proofs.Norms.{IsCounted, counted}
use Rattle.operator_meaning.proofs.Reading.{fits_32}
use Rattle.operator_meaning.proofs.Shifts.{floor_is, twice}

-- ---- the numbers

pub clip16_fits : (x : ℤ) → FitsSigned w16 (clip16 x)
clip16_fits x = omega (arith, ints, clamps)

pub clip32_fits : (x : ℤ) → FitsSigned w32 (clip32 x)
clip32_fits x = omega (arith, ints, clamps)

mag_floor : (x : ℤ) (n : ℕ) → mag (floor x n) ≤ mag x
mag_floor x n = rw (floor_is x n) (mag_shr x n)

shifted_fits_16 : (x c : ℤ) → FitsSigned w16 x → FitsSigned w16 (shifted clip16 x c)
shifted_fits_16 x (pos n) fits = clip16_fits (x *ℤ pos (2 ^ n))
shifted_fits_16 x (negsuc n) fits = let less = mag_floor x (2 ^ (n + 1)) in let small = fits.sfits in record { sfits = omega (arith, less, small) }

shifted_fits_32 : (x c : ℤ) → FitsSigned w32 x → FitsSigned w32 (shifted clip32 x c)
shifted_fits_32 x (pos n) fits = clip32_fits (x *ℤ pos (2 ^ n))
shifted_fits_32 x (negsuc n) fits = let less = mag_floor x (2 ^ (n + 1)) in let small = fits.sfits in record { sfits = omega (arith, less, small) }

mag_sum : (x : ℤ) (m : ℕ) → mag (x +ℤ pos m) ≤ mag x + m
mag_sum (pos a) m = omega arith
mag_sum (negsuc a) m =
    elim (cases_lt a m) [
      | inl below ↦
          let e : negsuc a +ℤ pos m ≡ pos (m - suc a) = omega (arith, ints, below) in
          rw e (omega arith)
      | inr above ↦
          let e : negsuc a +ℤ pos m ≡ negsuc (a - m) = omega (arith, ints, above) in
          rw e (omega arith)
    ]

half_small : (a m h : ℕ) → 0 < m → 0 < h → a < h + m → a / (2 * m) < h
half_small a m h some high small =
    let left : h * 1 ≤ h * m = mul-le h 1 h m (omega arith) (omega arith) in
    let right : 1 * m ≤ h * m = mul-le 1 m h m (omega arith) (omega arith) in
    (div-lt_iff_lt-mul (omega arith)).1 (omega (arith, left, right, small))

mag_nearest : (y : ℤ) (n h : ℕ) → 0 < h → mag y < h + 2 ^ n → mag (floor y (2 ^ (n + 1))) < h
mag_nearest (pos a) n h high small = let double = twice n in rw double (half_small a (2 ^ n) h (pow_pos n) high small)
mag_nearest (negsuc a) n h high small = let double = twice n in rw double (half_small a (2 ^ n) h (pow_pos n) high small)

nearest_small : (x : ℤ) (n h : ℕ) → mag x < h → mag (floor (x +ℤ pos (2 ^ n)) (2 ^ (n + 1))) < h
nearest_small x n h small = let sum = mag_sum x (2 ^ n) in mag_nearest (x +ℤ pos (2 ^ n)) n h (omega (arith, small)) (omega (arith, small, sum))

shifted_back_fits_16 : (x c : ℤ) → FitsSigned w16 x → FitsSigned w16 (shifted_back clip16 x c)
shifted_back_fits_16 x (pos (suc n)) fits = record { sfits = nearest_small x n 32768 fits.sfits }
shifted_back_fits_16 x (pos zero) fits = clip16_fits (x *ℤ pos (2 ^ 0))
shifted_back_fits_16 x (negsuc n) fits = clip16_fits (x *ℤ pos (2 ^ suc n))

shifted_back_fits_32 : (x c : ℤ) → FitsSigned w32 x → FitsSigned w32 (shifted_back clip32 x c)
shifted_back_fits_32 x (pos (suc n)) fits = record { sfits = nearest_small x n 2147483648 fits.sfits }
shifted_back_fits_32 x (pos zero) fits = clip32_fits (x *ℤ pos (2 ^ 0))
shifted_back_fits_32 x (negsuc n) fits = clip32_fits (x *ℤ pos (2 ^ suc n))

mag_upper : (x : ℤ) → mag x < 2147483648 → mag (floor x 65536) < 32768
mag_upper (pos a) small = omega arith
mag_upper (negsuc a) small = omega arith

upper_fits : (x : ℤ) → FitsSigned w32 x → FitsSigned w16 (floor x 65536)
upper_fits x fits = record { sfits = mag_upper x fits.sfits }

rounded_fits : (x : ℤ) → FitsSigned w16 (rounded x)
rounded_fits x = upper_fits (clip32 (x +ℤ pos 32768)) (clip32_fits (x +ℤ pos 32768))

deposit_fits : (x : ℤ) → FitsSigned w16 x → FitsSigned w32 (pos 65536 *ℤ x)
deposit_fits x fits = omega (arith, ints)

norm_fits : (k s : ℕ) (x : ℤ) → k + s ≡ 31 → mag x < 2 ^ (k + 1) → FitsSigned w16 (norm k x)
norm_fits k s (pos zero) sum small = record { sfits = lit< tt }
norm_fits k s (pos (suc a)) sum small =
    let known : IsCounted k s (pos (suc a)) = counted k s (pos (suc a)) sum (λ e. cc) small in
    let few = known.few in
    let e = known.value in
    let P : ℤ → Type 0 = λ z. FitsSigned w16 z in
    subst P (sym e) (record { sfits = omega (arith, few) })
norm_fits k s (negsuc a) sum small =
    let known : IsCounted k s (negsuc a) = counted k s (negsuc a) sum (λ e. cc) small in
    let few = known.few in
    let e = known.value in
    let P : ℤ → Type 0 = λ z. FitsSigned w16 z in
    subst P (sym e) (record { sfits = omega (arith, few) })

-- ---- the operators

-- the value, where there is one, lies in the width of the result
abbrev pub IsSettled : Op → Option ℤ → Type 0
IsSettled op None = Unit {0}
IsSettled op (Some x) = FitsWidth (row_of op).gives x

one : (P : List ℤ → Type 0) (u : Width) (args : List ℤ) → FitWidths (u ∷ []) args → ((x : ℤ) → FitsWidth u x → P (x ∷ [])) → P args
one P u [] fits have = absurd fits
one P u (x ∷ []) fits have = have x fits.0
one P u (x ∷ y ∷ more) fits have = absurd fits.1

two : (P : List ℤ → Type 0) (u v : Width) (args : List ℤ) → FitWidths (u ∷ v ∷ []) args → ((x y : ℤ) → FitsWidth u x → FitsWidth v y → P (x ∷ y ∷ [])) → P args
two P u v [] fits have = absurd fits
two P u v (x ∷ []) fits have = absurd fits.1
two P u v (x ∷ y ∷ []) fits have = have x y fits.0 fits.1.0
two P u v (x ∷ y ∷ z ∷ more) fits have = absurd fits.1.1

three : (P : List ℤ → Type 0) (u v w : Width) (args : List ℤ) → FitWidths (u ∷ v ∷ w ∷ []) args → ((x y z : ℤ) → FitsWidth u x → FitsWidth v y → FitsWidth w z → P (x ∷ y ∷ z ∷ [])) → P args
three P u v w [] fits have = absurd fits
three P u v w (x ∷ []) fits have = absurd fits.1
three P u v w (x ∷ y ∷ []) fits have = absurd fits.1.1
three P u v w (x ∷ y ∷ z ∷ []) fits have = have x y z fits.0 fits.1.0 fits.1.1.0
three P u v w (x ∷ y ∷ z ∷ t ∷ more) fits have = absurd fits.1.1.1

quotient_small : (a b : ℕ) → a < b → 0 < b → 32768 * a / b < 32768
quotient_small a b less some =
    let p : 32768 * (a + 1) ≤ 32768 * b = mul-le 32768 (a + 1) 32768 b (omega arith) (omega arith) in
    (div-lt_iff_lt-mul some).1 (omega (arith, p))

different : (a b : ℕ) → suc b ≤ a → leb (suc b + 1) a ≡ false → (a == suc b) ≡ false → ⊥
different a b above e g =
    let below = leb-false (suc b + 1) a e in
    eqb-false a (suc b) g (omega (arith, below, above))

quotient_settled : (a b : ℤ) → IsSettled DivS (quotient a b)
quotient_settled (pos a) (pos zero) = tt
quotient_settled (pos a) (pos (suc b)) =
    let P : Option ℤ → Type 0 = λ o. IsSettled DivS o in
    let proper : Option ℤ = Some (floor (pos (32768 * a)) (suc b)) in
    let equal : Option ℤ = if a == suc b then Some (pos 32767) else proper in
    let positive : Option ℤ = if a == 0 then Some (pos 0) else equal in
    elim (cases_lt a (suc b)) [
      | inl below ↦
          let small = quotient_small a (suc b) below (omega arith) in
          let last : P proper = record { sfits = small } in
          cond_both (leb (suc b + 1) a) None positive P (λ e. tt)
          (λ e. cond_both (a == 0) (Some (pos 0)) equal P (λ f. record { sfits = lit< tt }) (λ f. cond_both (a == suc b) (Some (pos 32767)) proper P (λ g. record { sfits = lit< tt }) (λ g. last)))
      | inr above ↦
          cond_both (leb (suc b + 1) a) None positive P (λ e. tt)
          (λ e. cond_both (a == 0) (Some (pos 0)) equal P (λ f. record { sfits = lit< tt }) (λ f. cond_both (a == suc b) (Some (pos 32767)) proper P (λ g. record { sfits = lit< tt }) (λ g. absurd (different a b above e g))))
    ]
quotient_settled (pos a) (negsuc b) = tt
quotient_settled (negsuc a) b = tt

pub settled : (op : Op) (args : List ℤ) → AreOperands op args → IsSettled op (value_of op args)
settled Add args fits = two (λ l. IsSettled Add (value_of Add l)) W16 W16 args fits (λ x y first second. clip16_fits (x +ℤ y))
settled Sub args fits = two (λ l. IsSettled Sub (value_of Sub l)) W16 W16 args fits (λ x y first second. clip16_fits (x -ℤ y))
settled AbsS args fits = one (λ l. IsSettled AbsS (value_of AbsS l)) W16 args fits (λ x first. clip16_fits (pos (unsigned_abs x)))
settled Shl args fits = two (λ l. IsSettled Shl (value_of Shl l)) W16 W16 args fits (λ x y first second. shifted_fits_16 x y first)
settled Shr args fits = two (λ l. IsSettled Shr (value_of Shr l)) W16 W16 args fits (λ x y first second. shifted_fits_16 x (neg_ℤ y) first)
settled ExtractH args fits = one (λ l. IsSettled ExtractH (value_of ExtractH l)) W32 args fits (λ x first. upper_fits x first)
settled ExtractL args fits = one (λ l. IsSettled ExtractL (value_of ExtractL l)) W32 args fits (λ x first. SFits-int_wrap w16 x)
settled Mult args fits = two (λ l. IsSettled Mult (value_of Mult l)) W16 W16 args fits (λ x y first second. clip16_fits (floor (x *ℤ y) (2 ^ 15)))
settled LMult args fits = two (λ l. IsSettled LMult (value_of LMult l)) W16 W16 args fits (λ x y first second. clip32_fits (product_of x y))
settled Negate args fits = one (λ l. IsSettled Negate (value_of Negate l)) W16 args fits (λ x first. clip16_fits (neg_ℤ x))
settled Round args fits = one (λ l. IsSettled Round (value_of Round l)) W32 args fits (λ x first. rounded_fits x)
settled LMac args fits = three (λ l. IsSettled LMac (value_of LMac l)) W32 W16 W16 args fits (λ x y z first second third. clip32_fits (x +ℤ clip32 (product_of y z)))
settled LMsu args fits = three (λ l. IsSettled LMsu (value_of LMsu l)) W32 W16 W16 args fits (λ x y z first second third. clip32_fits (x -ℤ clip32 (product_of y z)))
settled MacR args fits = three (λ l. IsSettled MacR (value_of MacR l)) W32 W16 W16 args fits (λ x y z first second third. rounded_fits (accumulated x y z))
settled MsuR args fits = three (λ l. IsSettled MsuR (value_of MsuR l)) W32 W16 W16 args fits (λ x y z first second third. rounded_fits (reduced x y z))
settled LAdd args fits = two (λ l. IsSettled LAdd (value_of LAdd l)) W32 W32 args fits (λ x y first second. clip32_fits (x +ℤ y))
settled LSub args fits = two (λ l. IsSettled LSub (value_of LSub l)) W32 W32 args fits (λ x y first second. clip32_fits (x -ℤ y))
settled LNegate args fits = one (λ l. IsSettled LNegate (value_of LNegate l)) W32 args fits (λ x first. clip32_fits (neg_ℤ x))
settled MultR args fits = two (λ l. IsSettled MultR (value_of MultR l)) W16 W16 args fits (λ x y first second. clip16_fits (floor (x *ℤ y +ℤ pos (2 ^ 14)) (2 ^ 15)))
settled LShl args fits = two (λ l. IsSettled LShl (value_of LShl l)) W32 W16 args fits (λ x y first second. shifted_fits_32 x y first)
settled LShr args fits = two (λ l. IsSettled LShr (value_of LShr l)) W32 W16 args fits (λ x y first second. shifted_fits_32 x (neg_ℤ y) first)
settled ShrR args fits = two (λ l. IsSettled ShrR (value_of ShrR l)) W16 W16 args fits (λ x y first second. shifted_back_fits_16 x y first)
settled LShrR args fits = two (λ l. IsSettled LShrR (value_of LShrR l)) W32 W16 args fits (λ x y first second. shifted_back_fits_32 x y first)
settled LAbs args fits = one (λ l. IsSettled LAbs (value_of LAbs l)) W32 args fits (λ x first. clip32_fits (pos (unsigned_abs x)))
settled LDepositH args fits = one (λ l. IsSettled LDepositH (value_of LDepositH l)) W16 args fits (λ x first. deposit_fits x first)
settled LDepositL args fits = one (λ l. IsSettled LDepositL (value_of LDepositL l)) W16 args fits (λ x first. fits_32 W16 x first)
settled NormS args fits = one (λ l. IsSettled NormS (value_of NormS l)) W16 args fits (λ x first. norm_fits 14 17 x refl first.sfits)
settled NormL args fits = one (λ l. IsSettled NormL (value_of NormL l)) W32 args fits (λ x first. norm_fits 30 1 x refl first.sfits)
settled DivS args fits = two (λ l. IsSettled DivS (value_of DivS l)) W16 W16 args fits (λ x y first second. quotient_settled x y)

pub values_fit : (op : Op) (args : List ℤ) (x : ℤ) → AreOperands op args → value_of op args ≡ Some x → FitsWidth (row_of op).gives x
values_fit op args x fits e = let P : Option ℤ → Type 0 = λ o. IsSettled op o in subst P e (settled op args fits)
