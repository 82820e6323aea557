-- The quotients of `div_s` rise with the first operand and fall with the second.
use Rattle.std.proofs.Common.{◌≡◌, ℕ, zero, suc, ◌*◌, ◌/◌, ◌<◌, ◌≤◌, inl, inr, ◌==◌, pos, if◌then◌else◌, Some, refl, ap, arith}
use Rattle.std.proofs.Math.Nat.{div-mul-le_self, div-lt_iff_lt-mul}
use Rattle.std.proofs.lemmas.Bool.{cases_lt}
use Rattle.std.proofs.lemmas.Bool.Decides.{nat_tests}
use Rattle.std.proofs.lemmas.Nat.{mul-le, le-div}
use Rattle.operator_meaning.specs.Value.{quotient}

-- the quotient of valid operands
abbrev pub fraction : ℕ → ℕ → ℕ
fraction a b = if a == 0 then 0 else if a == b then 32767 else 32768 * a / b

pub quotient_is : (a b : ℕ) → a ≤ suc b → quotient (pos a) (pos (suc b)) ≡ Some (pos (fraction a (suc b)))
quotient_is a b le = grind (arith, nat_tests, le)

of_none : (b : ℕ) → fraction 0 b ≡ 0
of_none b = refl

pub of_same : (b : ℕ) → 0 < b → fraction b b ≡ 32767
of_same b some = grind (arith, nat_tests, some)

of_less : (a b : ℕ) → 0 < a → a < b → fraction a b ≡ 32768 * a / b
of_less a b some less = grind (arith, nat_tests, some, less)

pub at_most : (a b : ℕ) → 0 < b → a ≤ b → fraction a b ≤ 32767
at_most zero b some le = omega arith
at_most (suc a) b some le =
    elim (cases_lt (suc a) b) [
      | inl less ↦
          let small : 32768 * suc a / b < 32768 = (div-lt_iff_lt-mul some).1 (omega (arith, less)) in
          let e = of_less (suc a) b (omega arith) less in
          omega (arith, e, small)
      | inr same ↦
          let e : suc a ≡ b = omega (arith, same, le) in
          let f = of_same b some in
          rw e (omega (arith, f))
    ]

pub fraction_rises : (a c b : ℕ) → 0 < b → a ≤ c → c ≤ b → fraction a b ≤ fraction c b
fraction_rises zero c b some le le' = omega arith
fraction_rises (suc a) c b some le le' =
    elim (cases_lt c b) [
      | inl less ↦
          let e = of_less (suc a) b (omega arith) (omega (arith, le, less)) in
          let f = of_less c b (omega (arith, le)) less in
          let q = 32768 * suc a / b in
          let rest : q ≤ 32768 * c / b = le-div q (32768 * c) b some (omega (arith, div-mul-le_self (32768 * suc a) b, le)) in
          omega (arith, e, f, rest)
      | inr same ↦
          let e : c ≡ b = omega (arith, same, le') in
          let f = of_same b some in
          let most = at_most (suc a) b some (omega (arith, le, le')) in
          rw e (omega (arith, f, most))
    ]

pub fraction_falls : (a b d : ℕ) → 0 < b → a ≤ b → b ≤ d → fraction a d ≤ fraction a b
fraction_falls zero b d some le le' = omega arith
fraction_falls (suc a) b d some le le' =
    elim (cases_lt (suc a) b) [
      | inl less ↦
          let e = of_less (suc a) b (omega arith) less in
          let f = of_less (suc a) d (omega arith) (omega (arith, less, le')) in
          let q = 32768 * suc a / d in
          let more : q * b ≤ q * d = mul-le q b q d (omega arith) le' in
          let rest : q ≤ 32768 * suc a / b = le-div q (32768 * suc a) b some (omega (arith, div-mul-le_self (32768 * suc a) d, more)) in
          omega (arith, e, f, rest)
      | inr same ↦
          let e : suc a ≡ b = omega (arith, same, le) in
          let f = of_same b some in
          let most = at_most (suc a) d (omega (arith, some, le')) (omega (arith, le, le')) in
          omega (arith, most, ap (λ n. fraction n b) e, f)
    ]
