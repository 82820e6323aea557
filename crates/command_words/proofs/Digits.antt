-- Numbers by their decimal digits.
use Rattle.std.proofs.Common.{◌≡◌, ℕ, suc, ◌+◌, ◌-◌, ◌*◌, ◌^◌, ◌<◌, ◌≤◌, List, ◌∷◌, drop, get_or, length, sym, ap, ◌∙◌, arith, drop-cons, mul_assoc, add-mul}
use Rattle.std.proofs.Math.Nat.{pow-succ', one-le-pow, le-mul_of_pos_right}
use Rattle.command_words.specs.Numbers.{number_in}

-- a number, and then the digits of this list
abbrev pub number_then : ℕ → List ℕ → ℕ
number_then number digits = number * 10 ^ length digits + number_in digits

-- one digit more
next : (number digit : ℕ) (digits : List ℕ) → number_then number (digit ∷ digits) ≡ number_then (number * 10 + (digit - 48)) digits
next number digit digits =
    let power = 10 ^ length digits in
    let value = digit - 48 in
    let more : 10 ^ suc (length digits) ≡ 10 * power = pow-succ' 10 (length digits) in
    let left : number * 10 ^ suc (length digits) ≡ number * 10 * power = ap (λ p. number * p) more ∙ sym (mul_assoc number 10 power) in
    let right : (number * 10 + value) * power ≡ number * 10 * power + value * power = add-mul (number * 10) value power in
    omega (arith, left, right)

pub next_digit : (number i : ℕ) (digits : List ℕ) → i < length digits
    → number_then number (drop i digits) ≡ number_then (number * 10 + (get_or digits i 0 - 48)) (drop (i + 1) digits)
next_digit number i digits within =
    let one : i + 1 ≡ suc i = omega arith in
    ap (number_then number) (drop-cons digits i 0 within) ∙ next number (get_or digits i 0) (drop (suc i) digits)
    ∙ ap (λ k. number_then (number * 10 + (get_or digits i 0 - 48)) (drop k digits)) (sym one)

-- digits that follow make no number less
pub not_less : (number : ℕ) (digits : List ℕ) → number ≤ number_then number digits
not_less number digits =
    let power : 1 ≤ 10 ^ length digits = one-le-pow (length digits) 10 (omega arith) in
    let more : number ≤ number * 10 ^ length digits = le-mul_of_pos_right number (omega (arith, power)) in
    omega (arith, more)
