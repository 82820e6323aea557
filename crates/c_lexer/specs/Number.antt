-- The values of numbers (ISO/IEC 9899:1990, 6.1.3.2, at 32 bits). The letters `L` and `l` at the end change none.
use Rattle.std.specs.Prelude.{ℕ, ◌-◌, ◌^◌, nat_le, nat_lt, slice_index, ◌==◌, Bool, ◌&&◌, ◌||◌, if◌then◌else◌, ℤ, pos, ◌-ℤ◌, List, length, take, drop, Option, Some, None, option_map}
use Rattle.std.specs.List.{list_all}
use Rattle.std.specs.Char.{is_digit}
use Rattle.std.specs.Str.Parse.{digits_value}

-- what digits write, at least one, if it is at most this
unfoldable pub numeral : ℕ → ℕ → List ℕ → Option ℕ
numeral radix most digits =
    if nat_lt 0 (length digits) && list_all (λ c. is_digit c radix) digits && nat_le (digits_value radix digits) most then Some (digits_value radix digits) else None

-- the number without one `L` or `l` at its end
abbrev pub without_suffix : List ℕ → List ℕ
without_suffix piece =
    let last = length piece - 1 in
    if nat_lt 0 (length piece) && (slice_index piece last == 76 || slice_index piece last == 108) then take last piece else piece

-- `0x` or `0X` stands first
abbrev pub is_hexadecimal : List ℕ → Bool
is_hexadecimal digits = nat_lt 1 (length digits) && slice_index digits 0 == 48 && (slice_index digits 1 == 120 || slice_index digits 1 == 88)

-- a 0 stands before more digits
abbrev pub is_octal : List ℕ → Bool
is_octal digits = nat_lt 1 (length digits) && slice_index digits 0 == 48

-- a number below 2 ^ 32 as the 32-bit signed number with its pattern
abbrev pub signed_pattern : ℕ → ℤ
signed_pattern n = if nat_lt n (2 ^ 31) then pos n else pos n -ℤ pos (2 ^ 32)

-- an octal number after a 0, or else a decimal one, of 31 bits
unfoldable pub octal_or_decimal : List ℕ → Option ℕ
octal_or_decimal digits = if is_octal digits then numeral 8 2147483647 (drop 1 digits) else numeral 10 2147483647 digits

-- the value of what is left without the `L`
unfoldable pub digits_number : List ℕ → Option ℤ
digits_number digits =
    if is_hexadecimal digits then option_map signed_pattern (numeral 16 0xFFFFFFFF (drop 2 digits)) else option_map pos (octal_or_decimal digits)

-- the value of a number, if it keeps the rules
abbrev pub number_value : List ℕ → Option ℤ
number_value piece = digits_number (without_suffix piece)
