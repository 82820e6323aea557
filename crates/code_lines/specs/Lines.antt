-- Code of its own words that sets registers alone, word after word, over the values of all registers.
use Rattle.std.specs.Prelude.{◌≡◌, ℕ, ◌+◌, ◌*◌, ◌^◌, ℤ, pos, Bool, true, false, not, ◌&&◌, ◌==◌, nat_lt, int_lt, if◌then◌else◌, List, [], ◌∷◌, length, Option, Some, None}
use Rattle.std.specs.Int.{w32, cast_signed, int_wrapping_add, int_wrapping_sub, int_wrapping_mul, int_bit_and, int_bit_or, int_bit_xor}
use Rattle.rv_encode.specs.declared.instruction.Instr.{Instr}
use Rattle.rv_encode.specs.declared.instruction.Instr.TheVariants.{Lui, Addi, Slti, Sltiu, Xori, Ori, Andi, Slli, Srli, Srai, Add, Sll, Slt, Sltu, Xor, Srl, Or, And, Sub, Sra, Mul, Mulh}
use Rattle.rv_encode.specs.Arithmetic.{flag_of, is_below, shift_amount, shifted_left, shifted_right, shifted_right_signed, upper_product}
use Rattle.rv_encode.specs.State.{MachineState, Running, register}
use Rattle.template_runs.specs.Machine.{IsBefore}
use Rattle.code_lines.specs.declared.word.Word.{Word}
use Rattle.code_lines.specs.declared.word.Word.TheVariants.{Own}
use Rattle.code_lines.specs.Words.{Code, StandHere, instr_of}
use Rattle.code_lines.specs.Leading.{Leads}

-- the values of registers by their numbers
abbrev pub File : Type 0
File = ℕ → ℤ

-- the register that an instruction sets, of those that set one by the values of registers
abbrev pub target_of : Instr → Option ℕ
target_of (Lui rd imm) = Some rd
target_of (Addi rd rs1 imm) = Some rd
target_of (Slti rd rs1 imm) = Some rd
target_of (Sltiu rd rs1 imm) = Some rd
target_of (Xori rd rs1 imm) = Some rd
target_of (Ori rd rs1 imm) = Some rd
target_of (Andi rd rs1 imm) = Some rd
target_of (Slli rd rs1 imm) = Some rd
target_of (Srli rd rs1 imm) = Some rd
target_of (Srai rd rs1 imm) = Some rd
target_of (Add rd rs1 rs2) = Some rd
target_of (Sll rd rs1 rs2) = Some rd
target_of (Slt rd rs1 rs2) = Some rd
target_of (Sltu rd rs1 rs2) = Some rd
target_of (Xor rd rs1 rs2) = Some rd
target_of (Srl rd rs1 rs2) = Some rd
target_of (Or rd rs1 rs2) = Some rd
target_of (And rd rs1 rs2) = Some rd
target_of (Sub rd rs1 rs2) = Some rd
target_of (Sra rd rs1 rs2) = Some rd
target_of (Mul rd rs1 rs2) = Some rd
target_of (Mulh rd rs1 rs2) = Some rd
target_of instr = None

-- what it sets it to
abbrev pub value_in : Instr → File → ℤ
value_in (Lui rd imm) f = cast_signed w32 (imm * 2 ^ 12)
value_in (Addi rd rs1 imm) f = int_wrapping_add w32 (f rs1) imm
value_in (Slti rd rs1 imm) f = flag_of (int_lt (f rs1) imm)
value_in (Sltiu rd rs1 imm) f = flag_of (is_below (f rs1) imm)
value_in (Xori rd rs1 imm) f = int_bit_xor w32 (f rs1) imm
value_in (Ori rd rs1 imm) f = int_bit_or w32 (f rs1) imm
value_in (Andi rd rs1 imm) f = int_bit_and w32 (f rs1) imm
value_in (Slli rd rs1 imm) f = shifted_left (f rs1) imm
value_in (Srli rd rs1 imm) f = shifted_right (f rs1) imm
value_in (Srai rd rs1 imm) f = shifted_right_signed (f rs1) imm
value_in (Add rd rs1 rs2) f = int_wrapping_add w32 (f rs1) (f rs2)
value_in (Sll rd rs1 rs2) f = shifted_left (f rs1) (shift_amount (f rs2))
value_in (Slt rd rs1 rs2) f = flag_of (int_lt (f rs1) (f rs2))
value_in (Sltu rd rs1 rs2) f = flag_of (is_below (f rs1) (f rs2))
value_in (Xor rd rs1 rs2) f = int_bit_xor w32 (f rs1) (f rs2)
value_in (Srl rd rs1 rs2) f = shifted_right (f rs1) (shift_amount (f rs2))
value_in (Or rd rs1 rs2) f = int_bit_or w32 (f rs1) (f rs2)
value_in (And rd rs1 rs2) f = int_bit_and w32 (f rs1) (f rs2)
value_in (Sub rd rs1 rs2) f = int_wrapping_sub w32 (f rs1) (f rs2)
value_in (Sra rd rs1 rs2) f = shifted_right_signed (f rs1) (shift_amount (f rs2))
value_in (Mul rd rs1 rs2) f = int_wrapping_mul w32 (f rs1) (f rs2)
value_in (Mulh rd rs1 rs2) f = upper_product (f rs1) (f rs2)
value_in instr f = pos 0

-- the values where one register has another value
abbrev pub with_value : Option ℕ → ℤ → File → File
with_value None x f = f
with_value (Some rd) x f = λ n. if n == rd then x else f n

-- the values after these words
abbrev pub file_after : List Word → File → File
file_after [] f = f
file_after (word ∷ words) f = file_after words (with_value (target_of (instr_of word)) (value_in (instr_of word) f) f)

-- it sets a register that can be set
abbrev pub can_be_set : Option ℕ → Bool
can_be_set None = false
can_be_set (Some rd) = not (rd == 0) && nat_lt rd 32

abbrev pub is_line : List Word → Bool
is_line [] = true
is_line (Own instr ∷ words) = can_be_set (target_of instr) && is_line words
is_line (word ∷ words) = false

-- the machine before the word of this number, with these values in its registers, and all else as it was
pub record IsLeft (k : ℕ) (f : File) (s t : MachineState) : Type 0 where
  pub before : IsBefore k t
  pub file : (n : ℕ) → register t n ≡ f n
  pub memory : t.memory ≡ s.memory
  pub input : t.input ≡ s.input
  pub output : t.output ≡ s.output

-- where such code stands, the machine comes to its end, and enters no site
abbrev pub LinesRun : Type 0
LinesRun = (code : Code) (k : ℕ) (words : List Word) (s : MachineState) → StandHere code k words → IsBefore k s → is_line words ≡ true
    → (t : MachineState) × Leads code (Running s) (Running t) × IsLeft (k + length words) (file_after words (register s)) s t
