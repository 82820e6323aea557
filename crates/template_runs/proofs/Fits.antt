-- The fields of instructions over the registers of a site.
use Rattle.std.proofs.Common.{◌≡◌, ℕ, ◌<◌, ◌%◌, ℤ, pos, negsuc, true, ◌&&◌, nat_lt, List, [], ◌∷◌, arith, ⊎_elim}
use Rattle.std.specs.Prelude.{All}
use Rattle.std.specs.Int.{w32, cast_unsigned}
use Rattle.std.proofs.lemmas.Bool.{eqb-true, ltb-true}
use Rattle.std.proofs.lemmas.Int.{ints}
use Rattle.std.proofs.lemmas.List.Elements.{All-nil, All-cons}
use Rattle.rv_encode.specs.declared.instruction.Instr.{Instr}
use Rattle.rv_encode.specs.declared.instruction.Instr.TheVariants.{Lui, Auipc, Jal, Jalr, Beq, Bne, Blt, Bge, Bltu, Bgeu, Lb, Lh, Lw, Lbu, Lhu, Sb, Sh, Sw, Addi, Slti, Sltiu, Xori, Ori, Andi, Slli, Srli, Srai, Add, Sll, Slt, Sltu, Xor, Srl, Or, And, Sub, Sra, Mul, Mulh, Mulhsu, Mulhu, Div, Divu, Rem, Remu, Fence, Ecall, Ebreak}
use Rattle.rv_encode.specs.Words.{Fits, IsWithin, IsEven}
use Rattle.template_runs.specs.declared.registers.Registers.{Registers}
use Rattle.template_runs.specs.Fitting.{is_register, is_near, is_even, are_branch_fields, are_immediate_fields, are_shift_fields, are_register_fields, is_fit, are_fit, FieldsFit}
use Rattle.template_runs.specs.Renaming.{AreInRange, IsOperandPlace, renamed, over, all_over}
use Rattle.template_runs.proofs.Names.{and_parts}

near_is : (half : ℕ) (imm : ℤ) → is_near half imm ≡ true → IsWithin half imm
near_is half (pos n) e = let less = ltb-true n half e in (grind (arith, ints), grind (arith, ints))
near_is half (negsuc n) e = let less = ltb-true n half e in (grind (arith, ints), grind (arith, ints))

even_is : (imm : ℤ) → is_even imm ≡ true → IsEven imm
even_is imm e = eqb-true (cast_unsigned w32 imm % 2) 0 e

module _ (regs : Registers) (range : AreInRange regs) where
  operand_fits : (n : ℕ) → IsOperandPlace n → n < 32
  operand_fits n place = ⊎_elim (λ inside. let high = inside.1 in omega arith) (λ kept. omega arith) place

  register_fits : (n : ℕ) → is_register n ≡ true → renamed regs n < 32
  register_fits n e =
      let less = ltb-true n 32 e in
      let result = range.result.1 in
      let first = operand_fits regs.first range.first in
      let second = operand_fits regs.second range.second in
      let third = operand_fits regs.third range.third in
      grind arith

  branch_fits : (rs1 rs2 : ℕ) (imm : ℤ) → are_branch_fields rs1 rs2 imm ≡ true → (renamed regs rs1 < 32) × (renamed regs rs2 < 32) × IsWithin 4096 imm × IsEven imm
  branch_fits rs1 rs2 imm e =
      let a = and_parts (is_register rs1 && is_register rs2 && is_near 4096 imm) (is_even imm) e in
      let b = and_parts (is_register rs1 && is_register rs2) (is_near 4096 imm) a.0 in
      let c = and_parts (is_register rs1) (is_register rs2) b.0 in
      (register_fits rs1 c.0, register_fits rs2 c.1, near_is 4096 imm b.1, even_is imm a.1)

  immediate_fits : (rd rs1 : ℕ) (imm : ℤ) → are_immediate_fields rd rs1 imm ≡ true → (renamed regs rd < 32) × (renamed regs rs1 < 32) × IsWithin 2048 imm
  immediate_fits rd rs1 imm e =
      let a = and_parts (is_register rd && is_register rs1) (is_near 2048 imm) e in
      let b = and_parts (is_register rd) (is_register rs1) a.0 in
      (register_fits rd b.0, register_fits rs1 b.1, near_is 2048 imm a.1)

  shift_fits : (rd rs1 amount : ℕ) → are_shift_fields rd rs1 amount ≡ true → (renamed regs rd < 32) × (renamed regs rs1 < 32) × (amount < 32)
  shift_fits rd rs1 amount e =
      let a = and_parts (is_register rd && is_register rs1) (nat_lt amount 32) e in
      let b = and_parts (is_register rd) (is_register rs1) a.0 in
      (register_fits rd b.0, register_fits rs1 b.1, ltb-true amount 32 a.1)

  registers_fit : (rd rs1 rs2 : ℕ) → are_register_fields rd rs1 rs2 ≡ true → (renamed regs rd < 32) × (renamed regs rs1 < 32) × (renamed regs rs2 < 32)
  registers_fit rd rs1 rs2 e =
      let a = and_parts (is_register rd && is_register rs1) (is_register rs2) e in
      let b = and_parts (is_register rd) (is_register rs1) a.0 in
      (register_fits rd b.0, register_fits rs1 b.1, register_fits rs2 a.1)

  pub instr_fits : (instr : Instr) → is_fit instr ≡ true → Fits (over regs instr)
  instr_fits (Lui rd imm) e = let a = and_parts (is_register rd) (nat_lt imm 1048576) e in (register_fits rd a.0, ltb-true imm 1048576 a.1)
  instr_fits (Jal rd imm) e =
      let a = and_parts (is_register rd && is_near 1048576 imm) (is_even imm) e in
      let b = and_parts (is_register rd) (is_near 1048576 imm) a.0 in
      (register_fits rd b.0, near_is 1048576 imm b.1, even_is imm a.1)
  instr_fits (Beq rs1 rs2 imm) e = branch_fits rs1 rs2 imm e
  instr_fits (Bne rs1 rs2 imm) e = branch_fits rs1 rs2 imm e
  instr_fits (Blt rs1 rs2 imm) e = branch_fits rs1 rs2 imm e
  instr_fits (Bge rs1 rs2 imm) e = branch_fits rs1 rs2 imm e
  instr_fits (Bltu rs1 rs2 imm) e = branch_fits rs1 rs2 imm e
  instr_fits (Bgeu rs1 rs2 imm) e = branch_fits rs1 rs2 imm e
  instr_fits (Addi rd rs1 imm) e = immediate_fits rd rs1 imm e
  instr_fits (Sltiu rd rs1 imm) e = immediate_fits rd rs1 imm e
  instr_fits (Ori rd rs1 imm) e = immediate_fits rd rs1 imm e
  instr_fits (Andi rd rs1 imm) e = immediate_fits rd rs1 imm e
  instr_fits (Slli rd rs1 imm) e = shift_fits rd rs1 imm e
  instr_fits (Srli rd rs1 imm) e = shift_fits rd rs1 imm e
  instr_fits (Srai rd rs1 imm) e = shift_fits rd rs1 imm e
  instr_fits (Add rd rs1 rs2) e = registers_fit rd rs1 rs2 e
  instr_fits (Sll rd rs1 rs2) e = registers_fit rd rs1 rs2 e
  instr_fits (Xor rd rs1 rs2) e = registers_fit rd rs1 rs2 e
  instr_fits (Sub rd rs1 rs2) e = registers_fit rd rs1 rs2 e
  instr_fits (Sra rd rs1 rs2) e = registers_fit rd rs1 rs2 e
  instr_fits (Mul rd rs1 rs2) e = registers_fit rd rs1 rs2 e
  instr_fits (Mulh rd rs1 rs2) e = registers_fit rd rs1 rs2 e
  instr_fits (Div rd rs1 rs2) e = registers_fit rd rs1 rs2 e
  instr_fits Ecall e = tt
  instr_fits (Auipc rd imm) e = absurd (let f = e in cc)
  instr_fits (Jalr rd rs1 imm) e = absurd (let f = e in cc)
  instr_fits (Lb rd rs1 imm) e = absurd (let f = e in cc)
  instr_fits (Lh rd rs1 imm) e = absurd (let f = e in cc)
  instr_fits (Lw rd rs1 imm) e = absurd (let f = e in cc)
  instr_fits (Lbu rd rs1 imm) e = absurd (let f = e in cc)
  instr_fits (Lhu rd rs1 imm) e = absurd (let f = e in cc)
  instr_fits (Sb rs1 rs2 imm) e = absurd (let f = e in cc)
  instr_fits (Sh rs1 rs2 imm) e = absurd (let f = e in cc)
  instr_fits (Sw rs1 rs2 imm) e = absurd (let f = e in cc)
  instr_fits (Slti rd rs1 imm) e = absurd (let f = e in cc)
  instr_fits (Xori rd rs1 imm) e = absurd (let f = e in cc)
  instr_fits (Slt rd rs1 rs2) e = absurd (let f = e in cc)
  instr_fits (Sltu rd rs1 rs2) e = absurd (let f = e in cc)
  instr_fits (Srl rd rs1 rs2) e = absurd (let f = e in cc)
  instr_fits (Or rd rs1 rs2) e = absurd (let f = e in cc)
  instr_fits (And rd rs1 rs2) e = absurd (let f = e in cc)
  instr_fits (Mulhsu rd rs1 rs2) e = absurd (let f = e in cc)
  instr_fits (Mulhu rd rs1 rs2) e = absurd (let f = e in cc)
  instr_fits (Divu rd rs1 rs2) e = absurd (let f = e in cc)
  instr_fits (Rem rd rs1 rs2) e = absurd (let f = e in cc)
  instr_fits (Remu rd rs1 rs2) e = absurd (let f = e in cc)
  instr_fits (Fence fields) e = absurd (let f = e in cc)
  instr_fits Ebreak e = absurd (let f = e in cc)

  pub all_fit : (instrs : List Instr) → are_fit instrs ≡ true → All Fits (all_over regs instrs)
  all_fit [] e = All-nil _
  all_fit (instr ∷ instrs) e =
      let parts = and_parts (is_fit instr) (are_fit instrs) e in
      All-cons Fits (over regs instr) (all_over regs instrs) (instr_fits instr parts.0) (all_fit instrs parts.1)

pub fields_fit : FieldsFit
fields_fit regs range instrs fit = all_fit regs range instrs fit
