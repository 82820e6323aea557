-- Immediates: the parts that a word has of them, joined and read as signed.
use Rattle.std.proofs.Common.{◌≡◌, ℕ, ◌+◌, ◌*◌, ◌%◌, ◌^◌, ◌<◌, ℤ, ap, ◌∙◌, arith}
use Rattle.std.specs.Int.{w32, cast_unsigned}
use Rattle.std.proofs.lemmas.Int.{ints}
use Rattle.rv_encode.specs.Words.{IsWithin, IsEven, part, sign_extended}

-- the parts of a number in two's complement, joined and read as signed, are the number
pub i_parts_back : (imm : ℤ) → IsWithin 2048 imm → sign_extended 2048 (part imm 0 12) ≡ imm
i_parts_back imm within = let low = within.0 in let high = within.1 in grind (arith, ints)

pub s_parts_back : (imm : ℤ) → IsWithin 2048 imm → sign_extended 2048 (part imm 5 7 * 32 + part imm 0 5) ≡ imm
s_parts_back imm within =
    let joined : part imm 5 7 * 32 + part imm 0 5 ≡ part imm 0 12 = omega arith in
    ap (sign_extended 2048) joined ∙ i_parts_back imm within

pub b_parts_back : (imm : ℤ) → IsWithin 4096 imm → IsEven imm
    → sign_extended 4096 (part imm 12 1 * 4096 + part imm 11 1 * 2048 + part imm 5 6 * 32 + part imm 1 4 * 2) ≡ imm
b_parts_back imm within even =
    let joined : part imm 12 1 * 4096 + part imm 11 1 * 2048 + part imm 5 6 * 32 + part imm 1 4 * 2 ≡ part imm 0 13 = omega arith in
    let whole : sign_extended 4096 (part imm 0 13) ≡ imm = let low = within.0 in let high = within.1 in grind (arith, ints) in
    ap (sign_extended 4096) joined ∙ whole

pub j_parts_back : (imm : ℤ) → IsWithin (2 ^ 20) imm → IsEven imm
    → sign_extended 1048576 (part imm 20 1 * 1048576 + part imm 12 8 * 4096 + part imm 11 1 * 2048 + part imm 1 10 * 2) ≡ imm
j_parts_back imm within even =
    let joined : part imm 20 1 * 1048576 + part imm 12 8 * 4096 + part imm 11 1 * 2048 + part imm 1 10 * 2 ≡ part imm 0 21 = omega arith in
    let whole : sign_extended 1048576 (part imm 0 21) ≡ imm = let low = within.0 in let high = within.1 in grind (arith, ints) in
    ap (sign_extended 1048576) joined ∙ whole

-- what is read of so many bits is within their range
pub sign_extended_within : (sign value : ℕ) → value < 2 * sign → IsWithin sign (sign_extended sign value)
sign_extended_within sign value small = grind (arith, ints)

-- the low bits of what is read of them are they
pub low_12 : (value : ℕ) → value < 4096 → cast_unsigned w32 (sign_extended 2048 value) % 4096 ≡ value
low_12 value small = grind (arith, ints)

pub low_13 : (value : ℕ) → value < 8192 → cast_unsigned w32 (sign_extended 4096 value) % 8192 ≡ value
low_13 value small = grind (arith, ints)

pub low_21 : (value : ℕ) → value < 2097152 → cast_unsigned w32 (sign_extended 1048576 value) % 2097152 ≡ value
low_21 value small = grind (arith, ints)

-- an even number of bits is read as an even number
pub even_13 : (value : ℕ) → value < 8192 → value % 2 ≡ 0 → IsEven (sign_extended 4096 value)
even_13 value small even = grind (arith, ints)

pub even_21 : (value : ℕ) → value < 2097152 → value % 2 ≡ 0 → IsEven (sign_extended 1048576 value)
even_21 value small even = grind (arith, ints)
