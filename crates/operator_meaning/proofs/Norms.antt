-- The doublings that normalize a number, by its leading zeros.
use Rattle.std.proofs.Common.{◌≡◌, ℕ, zero, suc, ◌+◌, ◌-◌, ◌*◌, ◌^◌, ◌<◌, ◌≤◌, inl, inr, Bool, true, false, if◌then◌else◌, ℤ, pos, negsuc, ◌*ℤ◌, neg_ℤ, refl, sym, ap, ◌∙◌, arith, pow_pos, pow_mono, add-one, le-leb}
use Rattle.std.specs.Int.Signed.{mag}
use Rattle.std.specs.Int.Count.{count_leading_zeros, leading_of_zero}
use Rattle.std.proofs.lemmas.Nat.{leading_top, mul-le}
use Rattle.std.proofs.Math.Pow.{pow-add}
use Rattle.std.proofs.lemmas.Bool.{cases_lt, and_from, and_left, lt-leb}
use Rattle.operator_meaning.specs.Value.{is_normal, doublings, norm}
use Rattle.operator_meaning.proofs.Shifts.{neg_of_pos, twice}

pub normal : (k : ℕ) (x : ℤ) → 2 ^ k ≤ mag x → mag x < 2 ^ (k + 1) → is_normal k x ≡ true
normal k (pos n) low high = and_from _ _ (le-leb (2 ^ k) n low) (le-leb (n + 1) (2 ^ (k + 1)) (omega arith))
normal k (negsuc n) low high = and_from _ _ (le-leb (2 ^ k + 1) (n + 1) (omega arith)) (le-leb (n + 1) (2 ^ (k + 1)) (omega arith))

not_normal : (k : ℕ) (x : ℤ) → mag x < 2 ^ k → is_normal k x ≡ false
not_normal k (pos n) small = and_left _ _ (lt-leb (2 ^ k) n small)
not_normal k (negsuc n) small = and_left _ _ (lt-leb (2 ^ k + 1) (n + 1) (omega arith))

mag_neg : (n : ℕ) → 0 < n → mag (neg_ℤ (pos n)) ≡ n - 1
mag_neg n some = ap mag (neg_of_pos n some)

twice_low : (j : ℕ) (x : ℤ) → 2 ^ j ≤ mag x → 2 ^ (j + 1) ≤ mag (pos 2 *ℤ x)
twice_low j (pos n) low = omega (arith, twice j)
twice_low j (negsuc n) low = let e = mag_neg (2 * suc n) (omega arith) in omega (arith, twice j, e)

twice_high : (j : ℕ) (x : ℤ) → mag x < 2 ^ j → mag (pos 2 *ℤ x) < 2 ^ (j + 1)
twice_high j (pos n) high = omega (arith, twice j)
twice_high j (negsuc n) high = let e = mag_neg (2 * suc n) (omega arith) in omega (arith, twice j, e)

doublings_are : (k most j : ℕ) (x : ℤ) → 2 ^ j ≤ mag x → mag x < 2 ^ (j + 1) → j ≤ k → k ≤ most + j → doublings k most x ≡ k - j
doublings_are k zero j x low high within enough = omega arith
doublings_are k (suc most) j x low high within enough =
    let choose : Bool → ℕ = λ b. if b then 0 else doublings k most (pos 2 *ℤ x) + 1 in
    elim (cases_lt j k) [
      | inl below ↦
          let power : 2 ^ (j + 1) ≤ 2 ^ k = pow_mono (omega arith) in
          let again = doublings_are k most (j + 1) (pos 2 *ℤ x) (twice_low j x low) (twice_high (j + 1) x high) (omega arith) (omega arith) in
          ap choose (not_normal k x (omega (arith, power, high))) ∙ omega (arith, again)
      | inr above ↦
          let same : j ≡ k = omega arith in
          let here : is_normal k x ≡ true = rw (sym same) (normal j x low high) in
          ap choose here ∙ omega arith
    ]

-- what the leading zeros tell, where s is how many there are at a number that needs no shift
pub record IsCounted (k s : ℕ) (x : ℤ) : Type 0 where
  pub shifts : ℕ
  pub few : shifts < 33
  pub zeros : count_leading_zeros 32 (mag x) ≡ shifts + s
  pub value : norm k x ≡ pos shifts
  pub low : 2 ^ k ≤ mag (x *ℤ pos (2 ^ shifts))
  pub high : mag (x *ℤ pos (2 ^ shifts)) < 2 ^ (k + 1)

-- the bounds of a number that is shifted
low_after : (x : ℤ) (j m : ℕ) → 2 ^ j ≤ mag x → 0 < m → 2 ^ j * m ≤ mag (x *ℤ pos m)
low_after (pos a) j m low some = mul-le (2 ^ j) m a m low (omega arith)
low_after (negsuc a) j m low some =
    let p : (2 ^ j + 1) * m ≤ suc a * m = mul-le (2 ^ j + 1) m (suc a) m (omega arith) (omega arith) in
    let e = mag_neg (suc a * m) (omega (arith, p)) in
    omega (arith, p, e)

high_after : (x : ℤ) (j m : ℕ) → mag x < 2 ^ j → 0 < m → mag (x *ℤ pos m) < 2 ^ j * m
high_after (pos a) j m high some =
    let p : (a + 1) * m ≤ 2 ^ j * m = mul-le (a + 1) m (2 ^ j) m (omega arith) (omega arith) in
    omega (arith, p)
high_after (negsuc a) j m high some =
    let p : suc a * m ≤ 2 ^ j * m = mul-le (suc a) m (2 ^ j) m (omega arith) (omega arith) in
    let q : 1 * 1 ≤ suc a * m = mul-le 1 1 (suc a) m (omega arith) (omega arith) in
    let e = mag_neg (suc a * m) (omega (arith, q)) in
    omega (arith, p, q, e)

top_below : (i m : ℕ) → 2 ^ i ≤ m → (k : ℕ) → m < 2 ^ (k + 1) → i ≤ k
top_below i m low k high =
    elim (cases_lt k i) [
      | inl above ↦ let power : 2 ^ (k + 1) ≤ 2 ^ i = pow_mono (omega arith) in omega (arith, power)
      | inr within ↦ within
    ]

counted_from : (k s : ℕ) (x : ℤ) → k + s ≡ 31 → 0 < mag x → mag x < 2 ^ (k + 1) → norm k x ≡ pos (doublings k (k + 1) x) → IsCounted k s x
counted_from k s x sum some high e =
    let few : k + 1 ≤ 32 = omega (arith, sum) in
    let most : 2 ^ (k + 1) ≤ 4294967296 = pow_mono few in
    let top = leading_top 32 (mag x) some (omega (arith, most, high)) in
    let j = top.0 in
    let zeros = top.1 in
    let low = top.2 in
    let next = add-one j in
    let below : mag x < 2 ^ (j + 1) = rw next top.3 in
    let within : j ≤ k = top_below j (mag x) low k high in
    let count : doublings k (k + 1) x ≡ k - j = doublings_are k (k + 1) j x low below within (omega arith) in
    let m = 2 ^ (k - j) in
    let whole : 2 ^ k ≡ 2 ^ j * m = ap (λ n. 2 ^ n) (omega (arith, within)) ∙ pow-add 2 j (k - j) in
    let double : 2 ^ (k + 1) ≡ 2 ^ (j + 1) * m = ap (λ n. 2 ^ n) (omega (arith, within)) ∙ pow-add 2 (j + 1) (k - j) in
    let lower = low_after x j m low (pow_pos (k - j)) in
    let upper = high_after x (j + 1) m below (pow_pos (k - j)) in
    record { shifts = k - j; few = omega arith; zeros = omega (arith, zeros, sum, within); value = e ∙ ap pos count; low = omega (arith, whole, lower); high = omega (arith, double, upper) }

pub counted : (k s : ℕ) (x : ℤ) → k + s ≡ 31 → (x ≡ pos 0 → ⊥) → mag x < 2 ^ (k + 1) → IsCounted k s x
counted k s (pos zero) sum some high = absurd (some refl)
counted k s (negsuc zero) sum some high =
    let all = leading_of_zero 32 in
    let m = 2 ^ (k + 1) in
    let e = mag_neg (1 * m) (omega (arith, pow_pos (k + 1))) in
    let double = twice k in
    let power = pow_pos k in
    record { shifts = k + 1; few = omega arith; zeros = omega (arith, all, sum); value = refl; low = omega (arith, e, double, power); high = omega (arith, e, double, power) }
counted k s (pos (suc a)) sum some high = counted_from k s (pos (suc a)) sum (omega arith) high refl
counted k s (negsuc (suc a)) sum some high = counted_from k s (negsuc (suc a)) sum (omega arith) high refl
