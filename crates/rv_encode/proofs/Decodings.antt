-- An instruction that a word is decoded to has that word, and fields in their ranges; a word that is decoded to none
-- is off the table.
use Rattle.std.proofs.Common.{◌≡◌, ℕ, ◌+◌, ◌*◌, ◌/◌, ◌%◌, ◌^◌, ◌<◌, ◌&&◌, ◌==◌, cond, Option, Some, None, IfSome, IsNone, refl, sym, subst, arith}
use Rattle.std.specs.Int.{w32, cast_unsigned}
use Rattle.std.proofs.lemmas.Bool.{eqb-true, and_parts, cond_both}
use Rattle.rv_encode.specs.declared.instruction.Instr.{Instr}
use Rattle.rv_encode.specs.Words.{IsRegister, IsWithin, IsEven, Fits, IsOffTable, encoded, bits, opcode, funct3, funct7, rd_of, rs1_of, rs2_of, i_immediate, s_immediate, b_immediate, u_immediate, j_immediate, fence_fields, r_word, i_word, s_word, b_word, u_word, j_word, fence_word}
use Rattle.rv_encode.specs.Decoding.{decoded, jump_register_of, branch_of, load_of, store_of, shift_of, immediate_of, plain_operation_of, other_operation_of, product_of, operation_of, fence_of, whole_word_of}
use Rattle.rv_encode.proofs.Immediates.{sign_extended_within, low_12, low_13, low_21, even_13, even_21}
use Rattle.rv_encode.proofs.Encodings.{encoded_decodes}

-- A word of 32 bits is made of its fields, in each format. Of an immediate u, in two's complement, only the low
-- bits are in the word.
r_word_back : (o f g word : ℕ) → word < 2 ^ 32 → opcode word ≡ o → funct3 word ≡ f → funct7 word ≡ g
    → r_word o f g (rd_of word) (rs1_of word) (rs2_of word) ≡ word
r_word_back o f g word small by_opcode by_funct3 by_funct7 = omega arith

i_word_by : (o f word u : ℕ) → word < 2 ^ 32 → opcode word ≡ o → funct3 word ≡ f → u % 4096 ≡ bits word 20 12
    → bits u 0 12 * 2 ^ 20 + rs1_of word * 2 ^ 15 + f * 2 ^ 12 + rd_of word * 2 ^ 7 + o ≡ word
i_word_by o f word u small by_opcode by_funct3 low = omega arith

i_word_back : (o f word : ℕ) → word < 2 ^ 32 → opcode word ≡ o → funct3 word ≡ f
    → i_word o f (rd_of word) (rs1_of word) (i_immediate word) ≡ word
i_word_back o f word small by_opcode by_funct3 =
    i_word_by o f word (cast_unsigned w32 (i_immediate word)) small by_opcode by_funct3 (low_12 (bits word 20 12) (omega arith))

s_word_by : (o f word u : ℕ) → word < 2 ^ 32 → opcode word ≡ o → funct3 word ≡ f → u % 4096 ≡ bits word 25 7 * 32 + bits word 7 5
    → bits u 5 7 * 2 ^ 25 + rs2_of word * 2 ^ 20 + rs1_of word * 2 ^ 15 + f * 2 ^ 12 + bits u 0 5 * 2 ^ 7 + o ≡ word
s_word_by o f word u small by_opcode by_funct3 low =
    let upper : bits u 5 7 ≡ bits word 25 7 = omega arith in
    let lower : bits u 0 5 ≡ bits word 7 5 = omega arith in
    omega arith

s_word_back : (o f word : ℕ) → word < 2 ^ 32 → opcode word ≡ o → funct3 word ≡ f
    → s_word o f (rs1_of word) (rs2_of word) (s_immediate word) ≡ word
s_word_back o f word small by_opcode by_funct3 =
    s_word_by o f word (cast_unsigned w32 (s_immediate word)) small by_opcode by_funct3 (low_12 (bits word 25 7 * 32 + bits word 7 5) (omega arith))

b_word_by : (o f word u : ℕ) → word < 2 ^ 32 → opcode word ≡ o → funct3 word ≡ f
    → u % 8192 ≡ bits word 31 1 * 4096 + bits word 7 1 * 2048 + bits word 25 6 * 32 + bits word 8 4 * 2
    → bits u 12 1 * 2 ^ 31 + bits u 5 6 * 2 ^ 25 + rs2_of word * 2 ^ 20 + rs1_of word * 2 ^ 15 + f * 2 ^ 12 + bits u 1 4 * 2 ^ 8 + bits u 11 1 * 2 ^ 7 + o ≡ word
b_word_by o f word u small by_opcode by_funct3 low =
    let bit_12 : bits u 12 1 ≡ bits word 31 1 = omega arith in
    let bit_11 : bits u 11 1 ≡ bits word 7 1 = omega arith in
    let bits_5 : bits u 5 6 ≡ bits word 25 6 = omega arith in
    let bits_1 : bits u 1 4 ≡ bits word 8 4 = omega arith in
    omega arith

b_word_back : (o f word : ℕ) → word < 2 ^ 32 → opcode word ≡ o → funct3 word ≡ f
    → b_word o f (rs1_of word) (rs2_of word) (b_immediate word) ≡ word
b_word_back o f word small by_opcode by_funct3 =
    b_word_by o f word (cast_unsigned w32 (b_immediate word)) small by_opcode by_funct3 (low_13 (bits word 31 1 * 4096 + bits word 7 1 * 2048 + bits word 25 6 * 32 + bits word 8 4 * 2) (omega arith))

u_word_back : (o word : ℕ) → word < 2 ^ 32 → opcode word ≡ o → u_word o (rd_of word) (u_immediate word) ≡ word
u_word_back o word small by_opcode = omega arith

j_word_by : (o word u : ℕ) → word < 2 ^ 32 → opcode word ≡ o
    → u % 2097152 ≡ bits word 31 1 * 1048576 + bits word 12 8 * 4096 + bits word 20 1 * 2048 + bits word 21 10 * 2
    → bits u 20 1 * 2 ^ 31 + bits u 1 10 * 2 ^ 21 + bits u 11 1 * 2 ^ 20 + bits u 12 8 * 2 ^ 12 + rd_of word * 2 ^ 7 + o ≡ word
j_word_by o word u small by_opcode low =
    let bit_20 : bits u 20 1 ≡ bits word 31 1 = omega arith in
    let bits_1 : bits u 1 10 ≡ bits word 21 10 = omega arith in
    let bit_11 : bits u 11 1 ≡ bits word 20 1 = omega arith in
    let bits_12 : bits u 12 8 ≡ bits word 12 8 = omega arith in
    omega arith

j_word_back : (o word : ℕ) → word < 2 ^ 32 → opcode word ≡ o → j_word o (rd_of word) (j_immediate word) ≡ word
j_word_back o word small by_opcode =
    j_word_by o word (cast_unsigned w32 (j_immediate word)) small by_opcode (low_21 (bits word 31 1 * 1048576 + bits word 12 8 * 4096 + bits word 20 1 * 2048 + bits word 21 10 * 2) (omega arith))

fence_word_back : (o f word : ℕ) → word < 2 ^ 32 → opcode word ≡ o → funct3 word ≡ f → fence_word o f (fence_fields word) ≡ word
fence_word_back o f word small by_opcode by_funct3 =
    let upper : fence_fields word / 1024 ≡ bits word 20 12 = omega arith in
    let middle : fence_fields word / 32 % 32 ≡ rs1_of word = omega arith in
    let lower : fence_fields word % 32 ≡ rd_of word = omega arith in
    omega arith

-- the instruction has this word, and fields in their ranges
abbrev IsOfWord : ℕ → Option Instr → Type 0
IsOfWord word found = IfSome found (λ i. Fits i × (encoded i ≡ word))

module _ (word : ℕ) (small : word < 2 ^ 32) where
  rd_fits : IsRegister (rd_of word)
  rd_fits = omega arith

  rs1_fits : IsRegister (rs1_of word)
  rs1_fits = omega arith

  rs2_fits : IsRegister (rs2_of word)
  rs2_fits = omega arith

  i_within : IsWithin 2048 (i_immediate word)
  i_within = sign_extended_within 2048 (bits word 20 12) (omega arith)

  s_within : IsWithin 2048 (s_immediate word)
  s_within = sign_extended_within 2048 (bits word 25 7 * 32 + bits word 7 5) (omega arith)

  b_within : IsWithin 4096 (b_immediate word) × IsEven (b_immediate word)
  b_within =
      let value = bits word 31 1 * 4096 + bits word 7 1 * 2048 + bits word 25 6 * 32 + bits word 8 4 * 2 in
      (sign_extended_within 4096 value (omega arith), even_13 value (omega arith) (omega arith))

  j_within : IsWithin (2 ^ 20) (j_immediate word) × IsEven (j_immediate word)
  j_within =
      let value = bits word 31 1 * 1048576 + bits word 12 8 * 4096 + bits word 20 1 * 2048 + bits word 21 10 * 2 in
      (sign_extended_within 1048576 value (omega arith), even_21 value (omega arith) (omega arith))

  u_small : u_immediate word < 2 ^ 20
  u_small = omega arith

  fence_small : fence_fields word < 2 ^ 22
  fence_small = omega arith

  -- a row that stands where a number is as the row has it, or two numbers are
  row : (n m : ℕ) (here rest : Option Instr) → (n ≡ m → IsOfWord word here) → IsOfWord word rest
      → IsOfWord word (cond (n == m) here rest)
  row n m here rest has there = cond_both (n == m) here rest (IsOfWord word) (λ e. has (eqb-true n m e)) (λ _. there)

  row_of_two : (n m p q : ℕ) (here rest : Option Instr) → (n ≡ m → p ≡ q → IsOfWord word here) → IsOfWord word rest
      → IsOfWord word (cond ((n == m) && (p == q)) here rest)
  row_of_two n m p q here rest has there =
      cond_both ((n == m) && (p == q)) here rest (IsOfWord word)
      (λ e. let both = and_parts (n == m) (p == q) e in has (eqb-true n m both.0) (eqb-true p q both.1))
      (λ _. there)

  jump_register : opcode word ≡ 103 → IsOfWord word (jump_register_of (funct3 word) word)
  jump_register o =
      row (funct3 word) 0 _ _ (λ f. ((rd_fits, rs1_fits, i_within), i_word_back 103 0 word small o f)) tt

  branch : opcode word ≡ 99 → IsOfWord word (branch_of (funct3 word) word)
  branch o =
      row (funct3 word) 0 _ _ (λ f. ((rs1_fits, rs2_fits, b_within.0, b_within.1), b_word_back 99 0 word small o f))
      (row (funct3 word) 1 _ _ (λ f. ((rs1_fits, rs2_fits, b_within.0, b_within.1), b_word_back 99 1 word small o f))
      (row (funct3 word) 4 _ _ (λ f. ((rs1_fits, rs2_fits, b_within.0, b_within.1), b_word_back 99 4 word small o f))
      (row (funct3 word) 5 _ _ (λ f. ((rs1_fits, rs2_fits, b_within.0, b_within.1), b_word_back 99 5 word small o f))
      (row (funct3 word) 6 _ _ (λ f. ((rs1_fits, rs2_fits, b_within.0, b_within.1), b_word_back 99 6 word small o f))
      (row (funct3 word) 7 _ _ (λ f. ((rs1_fits, rs2_fits, b_within.0, b_within.1), b_word_back 99 7 word small o f)) tt)))))

  load : opcode word ≡ 3 → IsOfWord word (load_of (funct3 word) word)
  load o =
      row (funct3 word) 0 _ _ (λ f. ((rd_fits, rs1_fits, i_within), i_word_back 3 0 word small o f))
      (row (funct3 word) 1 _ _ (λ f. ((rd_fits, rs1_fits, i_within), i_word_back 3 1 word small o f))
      (row (funct3 word) 2 _ _ (λ f. ((rd_fits, rs1_fits, i_within), i_word_back 3 2 word small o f))
      (row (funct3 word) 4 _ _ (λ f. ((rd_fits, rs1_fits, i_within), i_word_back 3 4 word small o f))
      (row (funct3 word) 5 _ _ (λ f. ((rd_fits, rs1_fits, i_within), i_word_back 3 5 word small o f)) tt))))

  store : opcode word ≡ 35 → IsOfWord word (store_of (funct3 word) word)
  store o =
      row (funct3 word) 0 _ _ (λ f. ((rs1_fits, rs2_fits, s_within), s_word_back 35 0 word small o f))
      (row (funct3 word) 1 _ _ (λ f. ((rs1_fits, rs2_fits, s_within), s_word_back 35 1 word small o f))
      (row (funct3 word) 2 _ _ (λ f. ((rs1_fits, rs2_fits, s_within), s_word_back 35 2 word small o f)) tt))

  shift : opcode word ≡ 19 → IsOfWord word (shift_of (funct3 word) (funct7 word) word)
  shift o =
      row_of_two (funct3 word) 1 (funct7 word) 0 _ _ (λ f g. ((rd_fits, rs1_fits, rs2_fits), r_word_back 19 1 0 word small o f g))
      (row_of_two (funct3 word) 5 (funct7 word) 0 _ _ (λ f g. ((rd_fits, rs1_fits, rs2_fits), r_word_back 19 5 0 word small o f g))
      (row_of_two (funct3 word) 5 (funct7 word) 32 _ _ (λ f g. ((rd_fits, rs1_fits, rs2_fits), r_word_back 19 5 32 word small o f g)) tt))

  immediate : opcode word ≡ 19 → IsOfWord word (immediate_of (funct3 word) (funct7 word) word)
  immediate o =
      row (funct3 word) 0 _ _ (λ f. ((rd_fits, rs1_fits, i_within), i_word_back 19 0 word small o f))
      (row (funct3 word) 2 _ _ (λ f. ((rd_fits, rs1_fits, i_within), i_word_back 19 2 word small o f))
      (row (funct3 word) 3 _ _ (λ f. ((rd_fits, rs1_fits, i_within), i_word_back 19 3 word small o f))
      (row (funct3 word) 4 _ _ (λ f. ((rd_fits, rs1_fits, i_within), i_word_back 19 4 word small o f))
      (row (funct3 word) 6 _ _ (λ f. ((rd_fits, rs1_fits, i_within), i_word_back 19 6 word small o f))
      (row (funct3 word) 7 _ _ (λ f. ((rd_fits, rs1_fits, i_within), i_word_back 19 7 word small o f)) (shift o))))))

  plain_operation : opcode word ≡ 51 → funct7 word ≡ 0 → IsOfWord word (plain_operation_of (funct3 word) word)
  plain_operation o g =
      row (funct3 word) 0 _ _ (λ f. ((rd_fits, rs1_fits, rs2_fits), r_word_back 51 0 0 word small o f g))
      (row (funct3 word) 1 _ _ (λ f. ((rd_fits, rs1_fits, rs2_fits), r_word_back 51 1 0 word small o f g))
      (row (funct3 word) 2 _ _ (λ f. ((rd_fits, rs1_fits, rs2_fits), r_word_back 51 2 0 word small o f g))
      (row (funct3 word) 3 _ _ (λ f. ((rd_fits, rs1_fits, rs2_fits), r_word_back 51 3 0 word small o f g))
      (row (funct3 word) 4 _ _ (λ f. ((rd_fits, rs1_fits, rs2_fits), r_word_back 51 4 0 word small o f g))
      (row (funct3 word) 5 _ _ (λ f. ((rd_fits, rs1_fits, rs2_fits), r_word_back 51 5 0 word small o f g))
      (row (funct3 word) 6 _ _ (λ f. ((rd_fits, rs1_fits, rs2_fits), r_word_back 51 6 0 word small o f g))
      (row (funct3 word) 7 _ _ (λ f. ((rd_fits, rs1_fits, rs2_fits), r_word_back 51 7 0 word small o f g)) tt)))))))

  other_operation : opcode word ≡ 51 → funct7 word ≡ 32 → IsOfWord word (other_operation_of (funct3 word) word)
  other_operation o g =
      row (funct3 word) 0 _ _ (λ f. ((rd_fits, rs1_fits, rs2_fits), r_word_back 51 0 32 word small o f g))
      (row (funct3 word) 5 _ _ (λ f. ((rd_fits, rs1_fits, rs2_fits), r_word_back 51 5 32 word small o f g)) tt)

  product : opcode word ≡ 51 → funct7 word ≡ 1 → IsOfWord word (product_of (funct3 word) word)
  product o g =
      row (funct3 word) 0 _ _ (λ f. ((rd_fits, rs1_fits, rs2_fits), r_word_back 51 0 1 word small o f g))
      (row (funct3 word) 1 _ _ (λ f. ((rd_fits, rs1_fits, rs2_fits), r_word_back 51 1 1 word small o f g))
      (row (funct3 word) 2 _ _ (λ f. ((rd_fits, rs1_fits, rs2_fits), r_word_back 51 2 1 word small o f g))
      (row (funct3 word) 3 _ _ (λ f. ((rd_fits, rs1_fits, rs2_fits), r_word_back 51 3 1 word small o f g))
      (row (funct3 word) 4 _ _ (λ f. ((rd_fits, rs1_fits, rs2_fits), r_word_back 51 4 1 word small o f g))
      (row (funct3 word) 5 _ _ (λ f. ((rd_fits, rs1_fits, rs2_fits), r_word_back 51 5 1 word small o f g))
      (row (funct3 word) 6 _ _ (λ f. ((rd_fits, rs1_fits, rs2_fits), r_word_back 51 6 1 word small o f g))
      (row (funct3 word) 7 _ _ (λ f. ((rd_fits, rs1_fits, rs2_fits), r_word_back 51 7 1 word small o f g)) tt)))))))

  operation : opcode word ≡ 51 → IsOfWord word (operation_of (funct3 word) (funct7 word) word)
  operation o =
      row (funct7 word) 0 _ _ (plain_operation o)
      (row (funct7 word) 32 _ _ (other_operation o)
      (row (funct7 word) 1 _ _ (product o) tt))

  fence : opcode word ≡ 15 → IsOfWord word (fence_of (funct3 word) word)
  fence o =
      row (funct3 word) 0 _ _ (λ f. (fence_small, fence_word_back 15 0 word small o f)) tt

  whole_word : IsOfWord word (whole_word_of word)
  whole_word =
      row word 115 _ _ (λ e. (tt, sym e))
      (row word 1048691 _ _ (λ e. (tt, sym e)) tt)

  decoded_has_word : IsOfWord word (decoded word)
  decoded_has_word =
      row (opcode word) 55 _ _ (λ o. ((rd_fits, u_small), u_word_back 55 word small o))
      (row (opcode word) 23 _ _ (λ o. ((rd_fits, u_small), u_word_back 23 word small o))
      (row (opcode word) 111 _ _ (λ o. ((rd_fits, j_within.0, j_within.1), j_word_back 111 word small o))
      (row (opcode word) 103 _ _ jump_register
      (row (opcode word) 99 _ _ branch
      (row (opcode word) 3 _ _ load
      (row (opcode word) 35 _ _ store
      (row (opcode word) 19 _ _ immediate
      (row (opcode word) 51 _ _ operation
      (row (opcode word) 15 _ _ fence whole_word)))))))))

-- an instruction that a word is decoded to fits, and has that word
pub decoded_encodes : (word : ℕ) (i : Instr) → word < 2 ^ 32 → decoded word ≡ Some i → Fits i × (encoded i ≡ word)
decoded_encodes word i small is = subst (IsOfWord word) is (decoded_has_word word small)

-- what a word is decoded to has that word
pub decoded_on_table : (word : ℕ) → word < 2 ^ 32 → IfSome (decoded word) (λ i. Fits i × (encoded i ≡ word))
decoded_on_table word small = decoded_has_word word small

-- a word that is decoded to none is off the table, and no other is
not_none : (i : Instr) → IsNone (Some i) → ⊥
not_none i none = cc

off_where_none : (word : ℕ) → IsNone (decoded word) → IsOffTable word
off_where_none word none i fits is =
    let back : decoded word ≡ Some i = subst (λ w. decoded w ≡ Some i) is (encoded_decodes i fits) in
    not_none i (subst IsNone back none)

none_where_off : (word : ℕ) (found : Option Instr) → IsOfWord word found → IsOffTable word → IsNone found
none_where_off word None has off = refl
none_where_off word (Some i) has off = absurd (off i has.0 has.1)

pub decoded_off_table : (word : ℕ) → word < 2 ^ 32 → (IsNone (decoded word) → IsOffTable word) × (IsOffTable word → IsNone (decoded word))
decoded_off_table word small = (off_where_none word, none_where_off word (decoded word) (decoded_has_word word small))
