-- Laws of shifts, of sums of products, and of norms.
use Rattle.std.proofs.Common.{◌≡◌, ℕ, suc, ◌+◌, ◌-◌, ◌*◌, ◌/◌, ◌^◌, ◌<◌, ◌≤◌, ◌⊎◌, inl, inr, true, false, ℤ, pos, negsuc, ◌+ℤ◌, ◌-ℤ◌, ◌*ℤ◌, Some, refl, sym, ap, ◌∙◌, arith, int_eq, pow_pos}
use Rattle.std.proofs.Math.Nat.{div-eq_of_lt, div-div-eq-div-mul, add-div_right}
use Rattle.std.proofs.Math.IntN.{neg_ℤ-neg_ℤ}
use Rattle.std.specs.Int.Signed.{mag}
use Rattle.std.proofs.lemmas.Bool.{cases_lt, or_parts, cases_Bool, not_from_false}
use Rattle.std.proofs.lemmas.Bool.Decides.{Decides-int_eq}
use Rattle.std.proofs.lemmas.Int.{ints}
use Rattle.sat_base.specs.Clip.{clip16, clip32}
use Rattle.operator_meaning.specs.Clipping.{changes32}
use Rattle.operator_meaning.specs.Laws.{CountsTurn, SignsDiffer, ShiftsRound, NormsReach, IsWithin}
use Rattle.operator_meaning.specs.Value.{floor, product_of, shifted}
use Rattle.operator_meaning.proofs.Shifts.{twice}
use Rattle.operator_meaning.proofs.Norms.{IsCounted, counted}

pub counts_turn : CountsTurn
counts_turn x count =
    let back = neg_ℤ-neg_ℤ count in
    (refl, ap (λ c. Some (shifted clip16 x c)) back, refl, ap (λ c. Some (shifted clip32 x c)) back)

unchanged : (p : ℤ) → changes32 p ≡ false → clip32 p ≡ p
unchanged p e =
    elim (cases_Bool (int_eq (clip32 p) p)) [
      | inl same ↦ (Decides-int_eq (clip32 p) p).0 same
      | inr other ↦ let h = not_from_false (int_eq (clip32 p) p) other in let bad : true ≡ false = sym h ∙ e in cc
    ]

pub signs_differ : SignsDiffer
signs_differ x a b =
    let p = product_of a b in (
      λ e.
          let parts = or_parts (changes32 p) (changes32 (x +ℤ clip32 p)) e in
          let first = unchanged p parts.0 in
          ap Some (unchanged (x +ℤ clip32 p) parts.1 ∙ ap (λ y. x +ℤ y) first),
      λ e.
          let parts = or_parts (changes32 p) (changes32 (x -ℤ clip32 p)) e in
          let first = unchanged p parts.0 in
          ap Some (unchanged (x -ℤ clip32 p) parts.1 ∙ ap (λ y. x -ℤ y) first),
    )

floor_twice : (y : ℤ) (m : ℕ) → floor y (m * 2) ≡ floor (floor y m) 2
floor_twice (pos a) m = ap pos (sym (div-div-eq-div-mul a m 2))
floor_twice (negsuc a) m = ap negsuc (sym (div-div-eq-div-mul a m 2))

floor_more : (x : ℤ) (m : ℕ) → 0 < m → floor (x +ℤ pos m) m ≡ floor x m +ℤ pos 1
floor_more (pos a) m some = ap pos (add-div_right a some)
floor_more (negsuc a) m some =
    elim (cases_lt a m) [
      | inl below ↦
          let sum : negsuc a +ℤ pos m ≡ pos (m - suc a) = omega (arith, ints, below) in
          let before : (m - suc a) / m ≡ 0 = div-eq_of_lt (omega arith) in
          let after : a / m ≡ 0 = div-eq_of_lt below in
          ap (λ y. floor y m) sum ∙ ap pos before ∙ ap (λ q. negsuc q +ℤ pos 1) (sym after)
      | inr above ↦
          let sum : negsuc a +ℤ pos m ≡ negsuc (a - m) = omega (arith, ints, above) in
          let back : a ≡ a - m + m = omega arith in
          let more : a / m ≡ (a - m) / m + 1 = ap (λ n. n / m) back ∙ add-div_right (a - m) some in
          ap (λ y. floor y m) sum ∙ omega (arith, ints, more)
    ]

round_is : (x : ℤ) (n : ℕ) → floor (x +ℤ pos (2 ^ n)) (2 ^ (n + 1)) ≡ floor (floor x (2 ^ n) +ℤ pos 1) 2
round_is x n =
    let m = 2 ^ n in
    let double : 2 ^ (n + 1) ≡ m * 2 = omega (arith, twice n) in
    ap (floor (x +ℤ pos m)) double ∙ floor_twice (x +ℤ pos m) m ∙ ap (λ y. floor y 2) (floor_more x m (pow_pos n))

pub shifts_round : ShiftsRound
shifts_round x n = (ap Some (round_is x n), ap Some (round_is x n))

within_16 : (y : ℤ) → 16384 ≤ mag y → mag y < 32768 → IsWithin (pos 16384) (pos 32767) y ⊎ IsWithin (negsuc 32767) (negsuc 16384) y
within_16 (pos a) low high = inl (omega (arith, ints), omega (arith, ints))
within_16 (negsuc a) low high = inr (omega (arith, ints), omega (arith, ints))

within_32 : (y : ℤ) → 1073741824 ≤ mag y → mag y < 2147483648 → IsWithin (pos 1073741824) (pos 2147483647) y ⊎ IsWithin (negsuc 2147483647) (negsuc 1073741824) y
within_32 (pos a) low high = inl (omega (arith, ints), omega (arith, ints))
within_32 (negsuc a) low high = inr (omega (arith, ints), omega (arith, ints))

pub norms_reach : NormsReach
norms_reach x some = (
  λ fits.
      let known : IsCounted 14 17 x = counted 14 17 x refl some fits.sfits in
      (known.shifts, ap Some known.value, within_16 (x *ℤ pos (2 ^ known.shifts)) known.low known.high),
  λ fits.
      let known : IsCounted 30 1 x = counted 30 1 x refl some fits.sfits in
      (known.shifts, ap Some known.value, within_32 (x *ℤ pos (2 ^ known.shifts)) known.low known.high),
)
