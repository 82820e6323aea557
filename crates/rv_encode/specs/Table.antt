-- The table of instructions (RISC-V unprivileged specification, the listings of RV32I and of the extension M).
use Rattle.std.specs.Prelude.{◌<◌}
use Rattle.rv_encode.specs.declared.instruction.Instr.{Instr}
use Rattle.rv_encode.specs.declared.instruction.Instr.TheVariants.{Lui, Auipc, Jal, Jalr, Beq, Bne, Blt, Bge, Bltu, Bgeu, Lb, Lh, Lw, Lbu, Lhu, Sb, Sh, Sw, Addi, Slti, Sltiu, Xori, Ori, Andi, Slli, Srli, Srai, Add, Sll, Slt, Sltu, Xor, Srl, Or, And, Sub, Sra, Mul, Mulh, Mulhsu, Mulhu, Div, Divu, Rem, Remu, Fence, Ecall, Ebreak}
use Rattle.rv_encode.specs.declared.row.Row.{Row}
use Rattle.rv_encode.specs.declared.row.Row.TheVariants.{RType, IType, ShiftType, SType, BType, UType, JType, FenceType, WholeWord}

-- one row for each instruction: its format, the opcode, funct3 and funct7 that the format has, and the fields
abbrev pub row_of : Instr → Row
row_of (Lui rd imm) = UType 0b0110111 rd imm
row_of (Auipc rd imm) = UType 0b0010111 rd imm
row_of (Jal rd imm) = JType 0b1101111 rd imm
row_of (Jalr rd rs1 imm) = IType 0b1100111 0b000 rd rs1 imm
row_of (Beq rs1 rs2 imm) = BType 0b1100011 0b000 rs1 rs2 imm
row_of (Bne rs1 rs2 imm) = BType 0b1100011 0b001 rs1 rs2 imm
row_of (Blt rs1 rs2 imm) = BType 0b1100011 0b100 rs1 rs2 imm
row_of (Bge rs1 rs2 imm) = BType 0b1100011 0b101 rs1 rs2 imm
row_of (Bltu rs1 rs2 imm) = BType 0b1100011 0b110 rs1 rs2 imm
row_of (Bgeu rs1 rs2 imm) = BType 0b1100011 0b111 rs1 rs2 imm
row_of (Lb rd rs1 imm) = IType 0b0000011 0b000 rd rs1 imm
row_of (Lh rd rs1 imm) = IType 0b0000011 0b001 rd rs1 imm
row_of (Lw rd rs1 imm) = IType 0b0000011 0b010 rd rs1 imm
row_of (Lbu rd rs1 imm) = IType 0b0000011 0b100 rd rs1 imm
row_of (Lhu rd rs1 imm) = IType 0b0000011 0b101 rd rs1 imm
row_of (Sb rs1 rs2 imm) = SType 0b0100011 0b000 rs1 rs2 imm
row_of (Sh rs1 rs2 imm) = SType 0b0100011 0b001 rs1 rs2 imm
row_of (Sw rs1 rs2 imm) = SType 0b0100011 0b010 rs1 rs2 imm
row_of (Addi rd rs1 imm) = IType 0b0010011 0b000 rd rs1 imm
row_of (Slti rd rs1 imm) = IType 0b0010011 0b010 rd rs1 imm
row_of (Sltiu rd rs1 imm) = IType 0b0010011 0b011 rd rs1 imm
row_of (Xori rd rs1 imm) = IType 0b0010011 0b100 rd rs1 imm
row_of (Ori rd rs1 imm) = IType 0b0010011 0b110 rd rs1 imm
row_of (Andi rd rs1 imm) = IType 0b0010011 0b111 rd rs1 imm
row_of (Slli rd rs1 imm) = ShiftType 0b0010011 0b001 0b0000000 rd rs1 imm
row_of (Srli rd rs1 imm) = ShiftType 0b0010011 0b101 0b0000000 rd rs1 imm
row_of (Srai rd rs1 imm) = ShiftType 0b0010011 0b101 0b0100000 rd rs1 imm
row_of (Add rd rs1 rs2) = RType 0b0110011 0b000 0b0000000 rd rs1 rs2
row_of (Sll rd rs1 rs2) = RType 0b0110011 0b001 0b0000000 rd rs1 rs2
row_of (Slt rd rs1 rs2) = RType 0b0110011 0b010 0b0000000 rd rs1 rs2
row_of (Sltu rd rs1 rs2) = RType 0b0110011 0b011 0b0000000 rd rs1 rs2
row_of (Xor rd rs1 rs2) = RType 0b0110011 0b100 0b0000000 rd rs1 rs2
row_of (Srl rd rs1 rs2) = RType 0b0110011 0b101 0b0000000 rd rs1 rs2
row_of (Or rd rs1 rs2) = RType 0b0110011 0b110 0b0000000 rd rs1 rs2
row_of (And rd rs1 rs2) = RType 0b0110011 0b111 0b0000000 rd rs1 rs2
row_of (Sub rd rs1 rs2) = RType 0b0110011 0b000 0b0100000 rd rs1 rs2
row_of (Sra rd rs1 rs2) = RType 0b0110011 0b101 0b0100000 rd rs1 rs2
row_of (Mul rd rs1 rs2) = RType 0b0110011 0b000 0b0000001 rd rs1 rs2
row_of (Mulh rd rs1 rs2) = RType 0b0110011 0b001 0b0000001 rd rs1 rs2
row_of (Mulhsu rd rs1 rs2) = RType 0b0110011 0b010 0b0000001 rd rs1 rs2
row_of (Mulhu rd rs1 rs2) = RType 0b0110011 0b011 0b0000001 rd rs1 rs2
row_of (Div rd rs1 rs2) = RType 0b0110011 0b100 0b0000001 rd rs1 rs2
row_of (Divu rd rs1 rs2) = RType 0b0110011 0b101 0b0000001 rd rs1 rs2
row_of (Rem rd rs1 rs2) = RType 0b0110011 0b110 0b0000001 rd rs1 rs2
row_of (Remu rd rs1 rs2) = RType 0b0110011 0b111 0b0000001 rd rs1 rs2
row_of (Fence fields) = FenceType 0b0001111 0b000 fields
row_of Ecall = WholeWord 0x00000073
row_of Ebreak = WholeWord 0x00100073

-- an opcode has 7 bits, funct3 has 3 and funct7 has 7
abbrev pub HasNumbers : Row → Type 0
HasNumbers (RType opcode funct3 funct7 rd rs1 rs2) = (opcode < 128) × (funct3 < 8) × (funct7 < 128)
HasNumbers (IType opcode funct3 rd rs1 imm) = (opcode < 128) × (funct3 < 8)
HasNumbers (ShiftType opcode funct3 funct7 rd rs1 imm) = (opcode < 128) × (funct3 < 8) × (funct7 < 128)
HasNumbers (SType opcode funct3 rs1 rs2 imm) = (opcode < 128) × (funct3 < 8)
HasNumbers (BType opcode funct3 rs1 rs2 imm) = (opcode < 128) × (funct3 < 8)
HasNumbers (UType opcode rd imm) = opcode < 128
HasNumbers (JType opcode rd imm) = opcode < 128
HasNumbers (FenceType opcode funct3 fields) = (opcode < 128) × (funct3 < 8)
HasNumbers (WholeWord word) = Unit {0}
