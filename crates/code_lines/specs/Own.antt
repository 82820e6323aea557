-- The instructions of which a code's own words are made.
use Rattle.std.specs.Prelude.{ℕ, ℤ}
use Rattle.rv_encode.specs.declared.instruction.Instr.TheVariants as instr
use Rattle.code_lines.specs.declared.word.Word.{Word}
use Rattle.code_lines.specs.declared.word.Word.TheVariants.{Own}

abbrev pub Lui : ℕ → ℕ → Word
Lui rd imm = Own (instr.Lui rd imm)

abbrev pub Auipc : ℕ → ℕ → Word
Auipc rd imm = Own (instr.Auipc rd imm)

abbrev pub Jal : ℕ → ℤ → Word
Jal rd imm = Own (instr.Jal rd imm)

abbrev pub Jalr : ℕ → ℕ → ℤ → Word
Jalr rd rs1 imm = Own (instr.Jalr rd rs1 imm)

abbrev pub Beq : ℕ → ℕ → ℤ → Word
Beq rs1 rs2 imm = Own (instr.Beq rs1 rs2 imm)

abbrev pub Bne : ℕ → ℕ → ℤ → Word
Bne rs1 rs2 imm = Own (instr.Bne rs1 rs2 imm)

abbrev pub Blt : ℕ → ℕ → ℤ → Word
Blt rs1 rs2 imm = Own (instr.Blt rs1 rs2 imm)

abbrev pub Bge : ℕ → ℕ → ℤ → Word
Bge rs1 rs2 imm = Own (instr.Bge rs1 rs2 imm)

abbrev pub Lw : ℕ → ℕ → ℤ → Word
Lw rd rs1 imm = Own (instr.Lw rd rs1 imm)

abbrev pub Sw : ℕ → ℕ → ℤ → Word
Sw rs1 rs2 imm = Own (instr.Sw rs1 rs2 imm)

abbrev pub Addi : ℕ → ℕ → ℤ → Word
Addi rd rs1 imm = Own (instr.Addi rd rs1 imm)

abbrev pub Sltiu : ℕ → ℕ → ℤ → Word
Sltiu rd rs1 imm = Own (instr.Sltiu rd rs1 imm)

abbrev pub Xori : ℕ → ℕ → ℤ → Word
Xori rd rs1 imm = Own (instr.Xori rd rs1 imm)

abbrev pub Slli : ℕ → ℕ → ℕ → Word
Slli rd rs1 amount = Own (instr.Slli rd rs1 amount)

abbrev pub Srai : ℕ → ℕ → ℕ → Word
Srai rd rs1 amount = Own (instr.Srai rd rs1 amount)

abbrev pub Add : ℕ → ℕ → ℕ → Word
Add rd rs1 rs2 = Own (instr.Add rd rs1 rs2)

abbrev pub Slt : ℕ → ℕ → ℕ → Word
Slt rd rs1 rs2 = Own (instr.Slt rd rs1 rs2)

abbrev pub Sltu : ℕ → ℕ → ℕ → Word
Sltu rd rs1 rs2 = Own (instr.Sltu rd rs1 rs2)

abbrev pub Xor : ℕ → ℕ → ℕ → Word
Xor rd rs1 rs2 = Own (instr.Xor rd rs1 rs2)

abbrev pub Or : ℕ → ℕ → ℕ → Word
Or rd rs1 rs2 = Own (instr.Or rd rs1 rs2)

abbrev pub And : ℕ → ℕ → ℕ → Word
And rd rs1 rs2 = Own (instr.And rd rs1 rs2)

abbrev pub Sub : ℕ → ℕ → ℕ → Word
Sub rd rs1 rs2 = Own (instr.Sub rd rs1 rs2)

abbrev pub Ecall : Word
Ecall = Own instr.Ecall
