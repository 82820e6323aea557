-- A number into a register, and a weight into the count.
use Rattle.std.proofs.Common.{◌≡◌, ◌≢◌, ℕ, ◌+◌, ◌*◌, ◌%◌, ◌^◌, ◌<◌, ℤ, pos, Bool, true, false, ◌==◌, nat_lt, List, [], ◌∷◌, ◌++◌, refl, arith}
use Rattle.std.specs.Prelude.{FitsSigned}
use Rattle.std.specs.Int.{w32, cast_signed, cast_unsigned, int_wrapping_add}
use Rattle.std.proofs.lemmas.Bool.Decides.{nat_tests}
use Rattle.std.proofs.lemmas.Int.{ints}
use Rattle.rv_encode.specs.Arithmetic.{flag_of, is_below}
use Rattle.code_lines.specs.declared.word.Word.{Word}
use Rattle.code_lines.specs.Words.{instr_of}
use Rattle.code_lines.specs.Own.{Add, Sltu}
use Rattle.code_lines.specs.Lines.{File, target_of, value_in, with_value, file_after}
use Rattle.code_lines.specs.Pieces.{is_near, upper_of, lower_of, number_line, number_code, NumbersAreMade, count_line, HasHalves, IsCounted, CountsAreAdded}

itself : (n : ℕ) → (n == n) ≡ true
itself n = grind (arith, nat_tests)

another : (n rd : ℕ) → n ≢ rd → (n == rd) ≡ false
another n rd other = grind (arith, nat_tests)

-- ---- numbers

near_made : (n : ℤ) → FitsSigned w32 n → int_wrapping_add w32 (pos 0) n ≡ n
near_made n fits = grind (arith, ints)

far_made : (n : ℤ) → FitsSigned w32 n → int_wrapping_add w32 (cast_signed w32 (upper_of n * 2 ^ 12)) (lower_of n) ≡ n
far_made n fits = grind (arith, ints)

made : (near : Bool) (rd : ℕ) (n : ℤ) (f : File) → rd ≢ 0 → FitsSigned w32 n → f 0 ≡ pos 0
    → (file_after (number_line near rd n) f rd ≡ n) × ((other : ℕ) → other ≢ rd → file_after (number_line near rd n) f other ≡ f other)
made true rd n f some fits zero = (rw (itself rd, zero) (near_made n fits), λ other apart. rw (another other rd apart) refl)
made false rd n f some fits zero = (rw (itself rd) (far_made n fits), λ other apart. rw (another other rd apart) refl)

pub numbers_are_made : NumbersAreMade
numbers_are_made rd n f some fits zero = made (is_near n) rd n f some fits zero

-- ---- the count

abbrev low_after : ℤ → ℕ → ℤ
low_after low weight = int_wrapping_add w32 low (pos weight)

abbrev high_after : (high low : ℤ) → ℕ → ℤ
high_after high low weight = int_wrapping_add w32 high (flag_of (is_below (low_after low weight) (pos weight)))

fits_after : (x y : ℤ) → FitsSigned w32 x → FitsSigned w32 y → FitsSigned w32 (int_wrapping_add w32 x y)
fits_after x y fits fits2 = grind (arith, ints)

flag_fits : (b : Bool) → FitsSigned w32 (flag_of b)
flag_fits true = grind (arith, ints)
flag_fits false = grind (arith, ints)

-- the halves of a sum
carried : (high low : ℤ) (weight : ℕ) → FitsSigned w32 low → FitsSigned w32 high → weight < 2 ^ 31
    → cast_unsigned w32 (high_after high low weight) * 2 ^ 32 + cast_unsigned w32 (low_after low weight) ≡ (cast_unsigned w32 high * 2 ^ 32 + cast_unsigned w32 low + weight) % 2 ^ 64
carried high low weight fits fits2 small = grind (arith, ints, nat_tests)

number_fits : (weight : ℕ) → weight < 2 ^ 31 → FitsSigned w32 (pos weight)
number_fits weight small = grind (arith, ints)

pub appended : (xs ys : List Word) (f : File) → file_after (xs ++ ys) f ≡ file_after ys (file_after xs f)
appended [] ys f = refl
appended (x ∷ xs) ys f = appended xs ys (with_value (target_of (instr_of x)) (value_in (instr_of x) f) f)

counted : (near : Bool) (weight : ℕ) (f : File) → weight < 2 ^ 31 → f 0 ≡ pos 0 → HasHalves f → IsCounted weight f (file_after (count_line near weight) f)
counted true weight f small zero halves = record {
  count = carried (f 25) (f 24) weight halves.0 halves.1 small;
  halves = (fits_after _ _ halves.0 (number_fits weight small), fits_after _ _ halves.1 (flag_fits _));
  others = λ n apart. rw (another n 25 apart.3, another n 5 apart.0, another n 24 apart.2) refl;
}
counted false weight f small zero halves =
    let g = file_after (number_code 6 (pos weight)) f in
    let number = numbers_are_made 6 (pos weight) f (λ e. cc) (number_fits weight small) zero in
    let low : g 24 ≡ f 24 = number.1 24 (λ e. cc) in
    let high : g 25 ≡ f 25 = number.1 25 (λ e. cc) in
    rw (appended (number_code 6 (pos weight)) (Add 24 24 6 ∷ Sltu 5 24 6 ∷ Add 25 25 5 ∷ []) f) (record {
      count = rw (number.0, low, high) (carried (f 25) (f 24) weight halves.0 halves.1 small);
      halves = rw (number.0, low, high) (fits_after _ _ halves.0 (number_fits weight small), fits_after _ _ halves.1 (flag_fits _));
      others = λ n apart. rw (another n 25 apart.3, another n 5 apart.0, another n 24 apart.2) (number.1 n apart.1);
    })

pub counts_are_added : CountsAreAdded
counts_are_added weight f small zero halves = counted (nat_lt weight 2048) weight f small zero halves
