-- The instructions that compare two numbers.
use Rattle.std.specs.Prelude.{ℕ, Bool, false, not, ◌&&◌, ◌==◌}
use Rattle.rv_encode.specs.declared.instruction.Instr.{Instr}
use Rattle.rv_encode.specs.declared.instruction.Instr.TheVariants.{Beq, Bne, Blt, Bge, Bltu, Bgeu, Slt, Slti, Sltiu, Sltu}
use Rattle.rv_encode.specs.declared.register.TheConstants.{COUNT}

-- not the register of the weighted count's lower half, whose carry is found by a comparison
abbrev pub is_not_count : (rs : ℕ) → Bool
is_not_count rs = not (rs == COUNT)

-- a BRANCH, SLT, SLTI, SLTU or SLTIU that does not read x24
abbrev pub is_comparing : Instr → Bool
is_comparing (Beq rs1 rs2 imm) = is_not_count rs1 && is_not_count rs2
is_comparing (Bne rs1 rs2 imm) = is_not_count rs1 && is_not_count rs2
is_comparing (Blt rs1 rs2 imm) = is_not_count rs1 && is_not_count rs2
is_comparing (Bge rs1 rs2 imm) = is_not_count rs1 && is_not_count rs2
is_comparing (Bltu rs1 rs2 imm) = is_not_count rs1 && is_not_count rs2
is_comparing (Bgeu rs1 rs2 imm) = is_not_count rs1 && is_not_count rs2
is_comparing (Slt rd rs1 rs2) = is_not_count rs1 && is_not_count rs2
is_comparing (Sltu rd rs1 rs2) = is_not_count rs1 && is_not_count rs2
is_comparing (Slti rd rs1 imm) = is_not_count rs1
is_comparing (Sltiu rd rs1 imm) = is_not_count rs1
is_comparing instr = false
