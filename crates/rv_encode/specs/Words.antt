-- The words of instructions, and their fields (RISC-V unprivileged specification, instruction formats and immediate
-- encoding variants).
use Rattle.std.specs.Prelude.{◌≡◌, ℕ, ◌+◌, ◌*◌, ◌/◌, ◌%◌, ◌^◌, ◌<◌, ℤ, pos, ◌-ℤ◌, ◌≤ℤ◌, ◌<ℤ◌, nat_lt, if◌then◌else◌}
use Rattle.std.specs.Int.{w32, cast_unsigned}
use Rattle.rv_encode.specs.declared.instruction.Instr.{Instr}
use Rattle.rv_encode.specs.declared.row.Row.{Row}
use Rattle.rv_encode.specs.declared.row.Row.TheVariants.{RType, IType, ShiftType, SType, BType, UType, JType, FenceType, WholeWord}
use Rattle.rv_encode.specs.Table.{row_of}

-- ---- which instructions have a word

-- the number of a register
abbrev pub IsRegister : ℕ → Type 0
IsRegister r = r < 32

-- a signed number of this many units on either side of 0
abbrev pub IsWithin : ℕ → ℤ → Type 0
IsWithin half imm = ((pos 0 -ℤ pos half) ≤ℤ imm) × (imm <ℤ pos half)

-- a distance in whole half-words
abbrev pub IsEven : ℤ → Type 0
IsEven imm = cast_unsigned w32 imm % 2 ≡ 0

-- each field is in the range of its format
abbrev pub IsInRange : Row → Type 0
IsInRange (RType opcode funct3 funct7 rd rs1 rs2) = IsRegister rd × IsRegister rs1 × IsRegister rs2
IsInRange (IType opcode funct3 rd rs1 imm) = IsRegister rd × IsRegister rs1 × IsWithin 2048 imm
IsInRange (ShiftType opcode funct3 funct7 rd rs1 imm) = IsRegister rd × IsRegister rs1 × (imm < 32)
IsInRange (SType opcode funct3 rs1 rs2 imm) = IsRegister rs1 × IsRegister rs2 × IsWithin 2048 imm
IsInRange (BType opcode funct3 rs1 rs2 imm) = IsRegister rs1 × IsRegister rs2 × IsWithin 4096 imm × IsEven imm
IsInRange (UType opcode rd imm) = IsRegister rd × (imm < 2 ^ 20)
IsInRange (JType opcode rd imm) = IsRegister rd × IsWithin (2 ^ 20) imm × IsEven imm
IsInRange (FenceType opcode funct3 fields) = fields < 2 ^ 22
IsInRange (WholeWord word) = Unit {0}

abbrev pub Fits : Instr → Type 0
Fits instr = IsInRange (row_of instr)

-- ---- the fields of a word

-- this many bits of a word, from the bit of this number on
abbrev pub bits : ℕ → ℕ → ℕ → ℕ
bits word low count = word / 2 ^ low % 2 ^ count

abbrev pub opcode : ℕ → ℕ
opcode word = bits word 0 7

abbrev pub funct3 : ℕ → ℕ
funct3 word = bits word 12 3

abbrev pub funct7 : ℕ → ℕ
funct7 word = bits word 25 7

abbrev pub rd_of : ℕ → ℕ
rd_of word = bits word 7 5

abbrev pub rs1_of : ℕ → ℕ
rs1_of word = bits word 15 5

abbrev pub rs2_of : ℕ → ℕ
rs2_of word = bits word 20 5

-- a field whose uppermost bit, worth `sign`, is a sign
abbrev pub sign_extended : ℕ → ℕ → ℤ
sign_extended sign value = if nat_lt value sign then pos value else pos value -ℤ pos (2 * sign)

abbrev pub i_immediate : ℕ → ℤ
i_immediate word = sign_extended 2048 (bits word 20 12)

-- a shift's amount stands where other formats have rs2
abbrev pub amount_of : ℕ → ℕ
amount_of word = bits word 20 5

abbrev pub s_immediate : ℕ → ℤ
s_immediate word = sign_extended 2048 (bits word 25 7 * 32 + bits word 7 5)

abbrev pub b_immediate : ℕ → ℤ
b_immediate word =
    sign_extended 4096 (bits word 31 1 * 4096 + bits word 7 1 * 2048 + bits word 25 6 * 32 + bits word 8 4 * 2)

abbrev pub u_immediate : ℕ → ℕ
u_immediate word = bits word 12 20

abbrev pub j_immediate : ℕ → ℤ
j_immediate word =
    sign_extended 1048576 (bits word 31 1 * 1048576 + bits word 12 8 * 4096 + bits word 20 1 * 2048 + bits word 21 10 * 2)

-- FENCE's upper 12 bits, rs1 and rd as one number
abbrev pub fence_fields : ℕ → ℕ
fence_fields word = bits word 20 12 * 1024 + rs1_of word * 32 + rd_of word

-- ---- the word of an instruction

-- this many bits of an immediate, from the bit of this number on
abbrev pub part : ℤ → ℕ → ℕ → ℕ
part imm low count = bits (cast_unsigned w32 imm) low count

abbrev pub r_word : (opcode funct3 funct7 rd rs1 rs2 : ℕ) → ℕ
r_word opcode funct3 funct7 rd rs1 rs2 =
    funct7 * 2 ^ 25 + rs2 * 2 ^ 20 + rs1 * 2 ^ 15 + funct3 * 2 ^ 12 + rd * 2 ^ 7 + opcode

abbrev pub i_word : (opcode funct3 rd rs1 : ℕ) → ℤ → ℕ
i_word opcode funct3 rd rs1 imm = part imm 0 12 * 2 ^ 20 + rs1 * 2 ^ 15 + funct3 * 2 ^ 12 + rd * 2 ^ 7 + opcode

abbrev pub s_word : (opcode funct3 rs1 rs2 : ℕ) → ℤ → ℕ
s_word opcode funct3 rs1 rs2 imm =
    part imm 5 7 * 2 ^ 25 + rs2 * 2 ^ 20 + rs1 * 2 ^ 15 + funct3 * 2 ^ 12 + part imm 0 5 * 2 ^ 7 + opcode

abbrev pub b_word : (opcode funct3 rs1 rs2 : ℕ) → ℤ → ℕ
b_word opcode funct3 rs1 rs2 imm =
    part imm 12 1 * 2 ^ 31 + part imm 5 6 * 2 ^ 25 + rs2 * 2 ^ 20 + rs1 * 2 ^ 15 + funct3 * 2 ^ 12 + part imm 1 4 * 2 ^ 8
    + part imm 11 1 * 2 ^ 7 + opcode

abbrev pub u_word : (opcode rd imm : ℕ) → ℕ
u_word opcode rd imm = imm * 2 ^ 12 + rd * 2 ^ 7 + opcode

abbrev pub j_word : (opcode rd : ℕ) → ℤ → ℕ
j_word opcode rd imm =
    part imm 20 1 * 2 ^ 31 + part imm 1 10 * 2 ^ 21 + part imm 11 1 * 2 ^ 20 + part imm 12 8 * 2 ^ 12 + rd * 2 ^ 7 + opcode

abbrev pub fence_word : (opcode funct3 fields : ℕ) → ℕ
fence_word opcode funct3 fields =
    fields / 1024 * 2 ^ 20 + fields / 32 % 32 * 2 ^ 15 + funct3 * 2 ^ 12 + fields % 32 * 2 ^ 7 + opcode

abbrev pub word_of : Row → ℕ
word_of (RType opcode funct3 funct7 rd rs1 rs2) = r_word opcode funct3 funct7 rd rs1 rs2
word_of (IType opcode funct3 rd rs1 imm) = i_word opcode funct3 rd rs1 imm
word_of (ShiftType opcode funct3 funct7 rd rs1 imm) = r_word opcode funct3 funct7 rd rs1 imm
word_of (SType opcode funct3 rs1 rs2 imm) = s_word opcode funct3 rs1 rs2 imm
word_of (BType opcode funct3 rs1 rs2 imm) = b_word opcode funct3 rs1 rs2 imm
word_of (UType opcode rd imm) = u_word opcode rd imm
word_of (JType opcode rd imm) = j_word opcode rd imm
word_of (FenceType opcode funct3 fields) = fence_word opcode funct3 fields
word_of (WholeWord word) = word

abbrev pub encoded : Instr → ℕ
encoded instr = word_of (row_of instr)

-- a word that no row has: no instruction whose fields are in their ranges has it
abbrev pub IsOffTable : ℕ → Type 0
IsOffTable word = (instr : Instr) → Fits instr → ¬ (encoded instr ≡ word)
