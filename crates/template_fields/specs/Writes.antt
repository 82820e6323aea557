-- Which instructions write Overflow.
use Rattle.std.specs.Prelude.{ℕ, Bool, false, ◌==◌, Option, Some, None}
use Rattle.rv_encode.specs.declared.instruction.Instr.{Instr}
use Rattle.rv_encode.specs.declared.instruction.Instr.TheVariants.{Auipc, Jal, Jalr, Lb, Lh, Lw, Lbu, Lhu, Mulhsu, Mulhu, Div, Divu, Rem, Remu}
use Rattle.rv_encode.specs.declared.register.TheConstants.{OVERFLOW}
use Rattle.code_lines.specs.Lines.{target_of}

-- the register that an instruction writes, also by the program counter, by the memory, or by a product or a quotient
abbrev pub written_by : Instr → Option ℕ
written_by (Auipc rd imm) = Some rd
written_by (Jal rd imm) = Some rd
written_by (Jalr rd rs1 imm) = Some rd
written_by (Lb rd rs1 imm) = Some rd
written_by (Lh rd rs1 imm) = Some rd
written_by (Lw rd rs1 imm) = Some rd
written_by (Lbu rd rs1 imm) = Some rd
written_by (Lhu rd rs1 imm) = Some rd
written_by (Mulhsu rd rs1 rs2) = Some rd
written_by (Mulhu rd rs1 rs2) = Some rd
written_by (Div rd rs1 rs2) = Some rd
written_by (Divu rd rs1 rs2) = Some rd
written_by (Rem rd rs1 rs2) = Some rd
written_by (Remu rd rs1 rs2) = Some rd
written_by instr = target_of instr

abbrev pub is_overflow : Option ℕ → Bool
is_overflow None = false
is_overflow (Some rd) = rd == OVERFLOW

abbrev pub is_overflow_write : Instr → Bool
is_overflow_write instr = is_overflow (written_by instr)
