-- What the instructions compute of two numbers of 32 bits (RISC-V unprivileged specification, RV32I base integer
-- instruction set and M extension for integer multiplication and division).
use Rattle.std.specs.Prelude.{ℕ, ◌*◌, ◌/◌, ◌%◌, ◌^◌, ◌==◌, ℤ, pos, negsuc, ◌*ℤ◌, Bool, nat_lt, int_rem, if◌then◌else◌}
use Rattle.std.specs.Int.{w32, cast_signed, cast_unsigned, int_wrapping_div, int_shl, int_shr}
use Rattle.std.specs.Ordering.{int_eq}

-- 1 where it holds, else 0
abbrev pub flag_of : Bool → ℤ
flag_of holds = if holds then pos 1 else pos 0

-- less, as unsigned numbers
abbrev pub is_below : ℤ → ℤ → Bool
is_below a b = nat_lt (cast_unsigned w32 a) (cast_unsigned w32 b)

-- the low 5 bits, by which a register is shifted
abbrev pub shift_amount : ℤ → ℕ
shift_amount b = cast_unsigned w32 b % 32

abbrev pub shifted_left : ℤ → ℕ → ℤ
shifted_left a amount = int_shl w32 a amount

-- zeros come in from the left
abbrev pub shifted_right : ℤ → ℕ → ℤ
shifted_right a amount = cast_signed w32 (cast_unsigned w32 a / 2 ^ amount)

-- the sign comes in from the left
abbrev pub shifted_right_signed : ℤ → ℕ → ℤ
shifted_right_signed a amount = int_shr a amount

-- the upper 32 bits of a product of 64 bits: of two signed numbers, of a signed and an unsigned one, and of two unsigned ones
abbrev pub upper_product : ℤ → ℤ → ℤ
upper_product a b = int_shr (a *ℤ b) 32

abbrev pub upper_product_mixed : ℤ → ℤ → ℤ
upper_product_mixed a b = int_shr (a *ℤ pos (cast_unsigned w32 b)) 32

abbrev pub upper_product_unsigned : ℤ → ℤ → ℤ
upper_product_unsigned a b = cast_signed w32 (cast_unsigned w32 a * cast_unsigned w32 b / 2 ^ 32)

-- rounded toward zero; all bits are ones where the divisor is 0, and -2^31 by -1 is -2^31
abbrev pub quotient : ℤ → ℤ → ℤ
quotient a b = if int_eq b (pos 0) then negsuc 0 else int_wrapping_div w32 a b

-- of the sign of the dividend, and the dividend where the divisor is 0; that of -2^31 by -1 is 0
abbrev pub remainder : ℤ → ℤ → ℤ
remainder a b = if int_eq b (pos 0) then a else int_rem a b

abbrev pub quotient_unsigned : ℤ → ℤ → ℤ
quotient_unsigned a b =
    if cast_unsigned w32 b == 0 then negsuc 0 else cast_signed w32 (cast_unsigned w32 a / cast_unsigned w32 b)

abbrev pub remainder_unsigned : ℤ → ℤ → ℤ
remainder_unsigned a b = if cast_unsigned w32 b == 0 then a else cast_signed w32 (cast_unsigned w32 a % cast_unsigned w32 b)
