-- Short lines of which all emitted code is made: a number into a register, and a weight into the count.
use Rattle.std.specs.Prelude.{◌≡◌, ◌≢◌, ℕ, zero, suc, ◌+◌, ◌*◌, ◌/◌, ◌%◌, ◌^◌, ◌<◌, ℤ, pos, negsuc, ◌-ℤ◌, Bool, true, false, ◌&&◌, int_le, nat_lt, List, [], ◌∷◌, ◌++◌, FitsSigned}
use Rattle.std.specs.Int.{w32, cast_unsigned}
use Rattle.code_lines.specs.declared.word.Word.{Word}
use Rattle.code_lines.specs.Own.{Lui, Addi, Sltiu, Add, Sltu}
use Rattle.code_lines.specs.Lines.{File, file_after}

-- ---- numbers

-- the number fits in the immediate field of an instruction
abbrev pub is_near : ℤ → Bool
is_near n = int_le (negsuc 2047) n && int_le n (pos 2047)

-- the upper 20 bits, so that what is left for a second instruction is near, and what is left
abbrev pub upper_of : ℤ → ℕ
upper_of n = (cast_unsigned w32 n + 2048) / 4096 % 2 ^ 20

abbrev pub lower_of : ℤ → ℤ
lower_of n = pos ((cast_unsigned w32 n + 2048) % 4096) -ℤ pos 2048

abbrev pub number_line : (near : Bool) → (rd : ℕ) → ℤ → List Word
number_line true rd n = Addi rd 0 n ∷ []
number_line false rd n = Lui rd (upper_of n) ∷ Addi rd rd (lower_of n) ∷ []

-- a number into a register
abbrev pub number_code : (rd : ℕ) → ℤ → List Word
number_code rd n = number_line (is_near n) rd n

-- no other register changes
abbrev pub NumbersAreMade : Type 0
NumbersAreMade = (rd : ℕ) (n : ℤ) (f : File) → rd ≢ 0 → FitsSigned w32 n → f 0 ≡ pos 0
    → (file_after (number_code rd n) f rd ≡ n) × ((other : ℕ) → other ≢ rd → file_after (number_code rd n) f other ≡ f other)

-- ---- the count

-- the weighted count, of which x25 has the upper 32 bits and x24 the lower
abbrev pub count_in : File → ℕ
count_in f = cast_unsigned w32 (f 25) * 2 ^ 32 + cast_unsigned w32 (f 24)

-- the carry of the lower half, in x5, goes into the upper one
abbrev pub count_line : (near : Bool) → (weight : ℕ) → List Word
count_line true weight = Addi 24 24 (pos weight) ∷ Sltiu 5 24 (pos weight) ∷ Add 25 25 5 ∷ []
count_line false weight = number_code 6 (pos weight) ++ (Add 24 24 6 ∷ Sltu 5 24 6 ∷ Add 25 25 5 ∷ [])

-- a weight into the count
abbrev pub count_code : ℕ → List Word
count_code weight = count_line (nat_lt weight 2048) weight

-- the weight by which the count lags behind is added, if there is any
abbrev pub flush_code : ℕ → List Word
flush_code zero = []
flush_code (suc weight) = count_code (suc weight)

-- a register that no weight changes
abbrev pub IsNoCount : ℕ → Type 0
IsNoCount n = (n ≢ 5) × (n ≢ 6) × (n ≢ 24) × (n ≢ 25)

-- both halves are numbers of 32 bits
abbrev pub HasHalves : File → Type 0
HasHalves f = FitsSigned w32 (f 24) × FitsSigned w32 (f 25)

-- the weight is in the count, which is taken modulo 2^64, and only the registers of a count have changed
pub record IsCounted (weight : ℕ) (f g : File) : Type 0 where
  pub count : count_in g ≡ (count_in f + weight) % 2 ^ 64
  pub halves : HasHalves g
  pub others : (other : ℕ) → IsNoCount other → g other ≡ f other

abbrev pub CountsAreAdded : Type 0
CountsAreAdded = (weight : ℕ) (f : File) → weight < 2 ^ 31 → f 0 ≡ pos 0 → HasHalves f → IsCounted weight f (file_after (count_code weight) f)
