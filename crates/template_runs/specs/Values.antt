-- What the instructions of templates compute of two numbers of 32 bits (RISC-V unprivileged specification, RV32I base
-- integer instruction set and M extension). These names stay closed, so that a course over them stays short.
use Rattle.std.specs.Prelude.{ℕ, ◌*◌, ◌^◌, ℤ, Bool, int_lt}
use Rattle.std.specs.Int.{w32, cast_signed, int_wrapping_add, int_wrapping_sub, int_wrapping_mul, int_bit_and, int_bit_or, int_bit_xor}
use Rattle.std.specs.Ordering.{int_eq}
use Rattle.rv_encode.specs.Arithmetic.{flag_of, is_below, shift_amount, shifted_left, shifted_right, shifted_right_signed, upper_product, quotient}

unfoldable pub upper : ℕ → ℤ
upper imm = cast_signed w32 (imm * 2 ^ 12)

unfoldable pub added : ℤ → ℤ → ℤ
added a b = int_wrapping_add w32 a b

unfoldable pub taken : ℤ → ℤ → ℤ
taken a b = int_wrapping_sub w32 a b

unfoldable pub multiplied : ℤ → ℤ → ℤ
multiplied a b = int_wrapping_mul w32 a b

unfoldable pub multiplied_high : ℤ → ℤ → ℤ
multiplied_high a b = upper_product a b

unfoldable pub divided : ℤ → ℤ → ℤ
divided a b = quotient a b

unfoldable pub both_bits : ℤ → ℤ → ℤ
both_bits a b = int_bit_and w32 a b

unfoldable pub any_bits : ℤ → ℤ → ℤ
any_bits a b = int_bit_or w32 a b

unfoldable pub other_bits : ℤ → ℤ → ℤ
other_bits a b = int_bit_xor w32 a b

unfoldable pub to_left : ℤ → ℕ → ℤ
to_left a amount = shifted_left a amount

unfoldable pub to_right : ℤ → ℕ → ℤ
to_right a amount = shifted_right a amount

unfoldable pub to_right_signed : ℤ → ℕ → ℤ
to_right_signed a amount = shifted_right_signed a amount

unfoldable pub amount_of : ℤ → ℕ
amount_of b = shift_amount b

unfoldable pub flag_below : ℤ → ℤ → ℤ
flag_below a b = flag_of (is_below a b)

unfoldable pub equal : ℤ → ℤ → Bool
equal a b = int_eq a b

unfoldable pub less : ℤ → ℤ → Bool
less a b = int_lt a b

unfoldable pub below : ℤ → ℤ → Bool
below a b = is_below a b
