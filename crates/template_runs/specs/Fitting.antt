-- The fields of a template's instructions are in the ranges of their formats over any registers of a site.
use Rattle.std.specs.Prelude.{ℕ, ◌%◌, ℤ, pos, negsuc, Bool, true, false, ◌&&◌, ◌==◌, nat_lt, List, [], ◌∷◌, All, IsTrue}
use Rattle.std.specs.Int.{w32, cast_unsigned}
use Rattle.rv_encode.specs.declared.instruction.Instr.{Instr}
use Rattle.rv_encode.specs.declared.instruction.Instr.TheVariants.{Lui, Jal, Beq, Bne, Blt, Bge, Bltu, Bgeu, Addi, Sltiu, Ori, Andi, Slli, Srli, Srai, Add, Sll, Xor, Sub, Sra, Mul, Mulh, Div, Ecall}
use Rattle.rv_encode.specs.Words.{Fits}
use Rattle.template_runs.specs.declared.registers.Registers.{Registers}
use Rattle.template_runs.specs.Renaming.{AreInRange, all_over}

-- a number of a register
abbrev pub is_register : ℕ → Bool
is_register number = nat_lt number 32

-- a signed number of this many units on either side of 0
abbrev pub is_near : ℕ → ℤ → Bool
is_near half (pos n) = nat_lt n half
is_near half (negsuc n) = nat_lt n half

abbrev pub is_even : ℤ → Bool
is_even imm = cast_unsigned w32 imm % 2 == 0

abbrev pub are_branch_fields : (rs1 rs2 : ℕ) → ℤ → Bool
are_branch_fields rs1 rs2 imm = is_register rs1 && is_register rs2 && is_near 4096 imm && is_even imm

abbrev pub are_immediate_fields : (rd rs1 : ℕ) → ℤ → Bool
are_immediate_fields rd rs1 imm = is_register rd && is_register rs1 && is_near 2048 imm

abbrev pub are_shift_fields : (rd rs1 : ℕ) → ℕ → Bool
are_shift_fields rd rs1 amount = is_register rd && is_register rs1 && nat_lt amount 32

abbrev pub are_register_fields : (rd rs1 rs2 : ℕ) → Bool
are_register_fields rd rs1 rs2 = is_register rd && is_register rs1 && is_register rs2

abbrev pub is_fit : Instr → Bool
is_fit (Lui rd imm) = is_register rd && nat_lt imm 1048576
is_fit (Jal rd imm) = is_register rd && is_near 1048576 imm && is_even imm
is_fit (Beq rs1 rs2 imm) = are_branch_fields rs1 rs2 imm
is_fit (Bne rs1 rs2 imm) = are_branch_fields rs1 rs2 imm
is_fit (Blt rs1 rs2 imm) = are_branch_fields rs1 rs2 imm
is_fit (Bge rs1 rs2 imm) = are_branch_fields rs1 rs2 imm
is_fit (Bltu rs1 rs2 imm) = are_branch_fields rs1 rs2 imm
is_fit (Bgeu rs1 rs2 imm) = are_branch_fields rs1 rs2 imm
is_fit (Addi rd rs1 imm) = are_immediate_fields rd rs1 imm
is_fit (Sltiu rd rs1 imm) = are_immediate_fields rd rs1 imm
is_fit (Ori rd rs1 imm) = are_immediate_fields rd rs1 imm
is_fit (Andi rd rs1 imm) = are_immediate_fields rd rs1 imm
is_fit (Slli rd rs1 imm) = are_shift_fields rd rs1 imm
is_fit (Srli rd rs1 imm) = are_shift_fields rd rs1 imm
is_fit (Srai rd rs1 imm) = are_shift_fields rd rs1 imm
is_fit (Add rd rs1 rs2) = are_register_fields rd rs1 rs2
is_fit (Sll rd rs1 rs2) = are_register_fields rd rs1 rs2
is_fit (Xor rd rs1 rs2) = are_register_fields rd rs1 rs2
is_fit (Sub rd rs1 rs2) = are_register_fields rd rs1 rs2
is_fit (Sra rd rs1 rs2) = are_register_fields rd rs1 rs2
is_fit (Mul rd rs1 rs2) = are_register_fields rd rs1 rs2
is_fit (Mulh rd rs1 rs2) = are_register_fields rd rs1 rs2
is_fit (Div rd rs1 rs2) = are_register_fields rd rs1 rs2
is_fit Ecall = true
is_fit instr = false

abbrev pub are_fit : List Instr → Bool
are_fit [] = true
are_fit (instr ∷ instrs) = is_fit instr && are_fit instrs

-- instructions that are fit in a template are fit over the registers of any site
abbrev pub FieldsFit : Type 0
FieldsFit = (regs : Registers) → AreInRange regs → (instrs : List Instr) → IsTrue (are_fit instrs) → All Fits (all_over regs instrs)
