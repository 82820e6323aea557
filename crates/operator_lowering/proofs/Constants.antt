-- Numbers that words make, and stops.
use Rattle.std.proofs.Common.{◌≡◌, ℕ, ◌+◌, ◌/◌, ◌%◌, ◌^◌, ◌<◌, pos, ◌-ℤ◌, true, false, nat_lt, refl, arith, ⊎_elim}
use Rattle.std.specs.Int.{w32, cast_signed}
use Rattle.std.proofs.lemmas.Bool.{cases_Bool, ltb-true}
use Rattle.std.proofs.lemmas.Int.{ints}
use Rattle.template_runs.specs.Values.{added, upper}

small_constant : (n : ℕ) → n < 2048 → added (pos 0) (pos n) ≡ cast_signed w32 n
unfolding added
small_constant n less = grind (arith, ints)

large_constant : (n : ℕ) → n < 2 ^ 32 → added (upper ((n + 2048) / 4096 % 2 ^ 20)) (pos ((n + 2048) % 4096) -ℤ pos 2048) ≡ cast_signed w32 n
unfolding added upper
large_constant n less = grind (arith, ints)

-- a number has one word or two
pub by_size : {P : Type 0} (n : ℕ) → (nat_lt n 2048 ≡ true → added (pos 0) (pos n) ≡ cast_signed w32 n → P)
    → (nat_lt n 2048 ≡ false → added (upper ((n + 2048) / 4096 % 2 ^ 20)) (pos ((n + 2048) % 4096) -ℤ pos 2048) ≡ cast_signed w32 n → P) → n < 2 ^ 32 → P
by_size {P} n one two less =
    ⊎_elim (λ (e : nat_lt n 2048 ≡ true). one e (small_constant n (ltb-true n 2048 e))) (λ (e : nat_lt n 2048 ≡ false). two e (large_constant n less)) (cases_Bool (nat_lt n 2048))

-- the numbers of environment calls
pub one : added (pos 0) (pos 1) ≡ pos 1
unfolding added
one = refl

pub two : added (pos 0) (pos 2) ≡ pos 2
unfolding added
two = refl

pub five : added (pos 0) (pos 5) ≡ pos 5
unfolding added
five = refl
