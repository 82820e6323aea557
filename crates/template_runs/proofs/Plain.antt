-- Instructions that compare nothing.
use Rattle.std.proofs.Common.{◌≡◌, true, false, List, [], ◌∷◌, refl}
use Rattle.std.specs.Prelude.{All}
use Rattle.std.proofs.lemmas.List.Elements.{All-nil, All-cons}
use Rattle.rv_encode.specs.declared.instruction.Instr.{Instr}
use Rattle.rv_encode.specs.declared.instruction.Instr.TheVariants.{Lui, Auipc, Jal, Jalr, Beq, Bne, Blt, Bge, Bltu, Bgeu, Lb, Lh, Lw, Lbu, Lhu, Sb, Sh, Sw, Addi, Slti, Sltiu, Xori, Ori, Andi, Slli, Srli, Srai, Add, Sll, Slt, Sltu, Xor, Srl, Or, And, Sub, Sra, Mul, Mulh, Mulhsu, Mulhu, Div, Divu, Rem, Remu, Fence, Ecall, Ebreak}
use Rattle.rv_encode.specs.Comparing.{is_comparing}
use Rattle.template_runs.specs.declared.registers.Registers.{Registers}
use Rattle.template_runs.specs.Plainness.{is_plain, are_plain, PlainStay}
use Rattle.template_runs.specs.Renaming.{over, all_over}
use Rattle.template_runs.proofs.Names.{and_parts}

one_plain : (regs : Registers) (instr : Instr) → is_plain instr ≡ true → is_comparing (over regs instr) ≡ false
one_plain regs (Lui rd imm) e = refl
one_plain regs (Auipc rd imm) e = absurd (let f = e in cc)
one_plain regs (Jal rd imm) e = refl
one_plain regs (Jalr rd rs1 imm) e = absurd (let f = e in cc)
one_plain regs (Beq rs1 rs2 imm) e = absurd (let f = e in cc)
one_plain regs (Bne rs1 rs2 imm) e = absurd (let f = e in cc)
one_plain regs (Blt rs1 rs2 imm) e = absurd (let f = e in cc)
one_plain regs (Bge rs1 rs2 imm) e = absurd (let f = e in cc)
one_plain regs (Bltu rs1 rs2 imm) e = absurd (let f = e in cc)
one_plain regs (Bgeu rs1 rs2 imm) e = absurd (let f = e in cc)
one_plain regs (Lb rd rs1 imm) e = absurd (let f = e in cc)
one_plain regs (Lh rd rs1 imm) e = absurd (let f = e in cc)
one_plain regs (Lw rd rs1 imm) e = absurd (let f = e in cc)
one_plain regs (Lbu rd rs1 imm) e = absurd (let f = e in cc)
one_plain regs (Lhu rd rs1 imm) e = absurd (let f = e in cc)
one_plain regs (Sb rs1 rs2 imm) e = absurd (let f = e in cc)
one_plain regs (Sh rs1 rs2 imm) e = absurd (let f = e in cc)
one_plain regs (Sw rs1 rs2 imm) e = absurd (let f = e in cc)
one_plain regs (Addi rd rs1 imm) e = refl
one_plain regs (Slti rd rs1 imm) e = absurd (let f = e in cc)
one_plain regs (Sltiu rd rs1 imm) e = absurd (let f = e in cc)
one_plain regs (Xori rd rs1 imm) e = absurd (let f = e in cc)
one_plain regs (Ori rd rs1 imm) e = refl
one_plain regs (Andi rd rs1 imm) e = refl
one_plain regs (Slli rd rs1 imm) e = refl
one_plain regs (Srli rd rs1 imm) e = refl
one_plain regs (Srai rd rs1 imm) e = refl
one_plain regs (Add rd rs1 rs2) e = refl
one_plain regs (Sll rd rs1 rs2) e = refl
one_plain regs (Slt rd rs1 rs2) e = absurd (let f = e in cc)
one_plain regs (Sltu rd rs1 rs2) e = absurd (let f = e in cc)
one_plain regs (Xor rd rs1 rs2) e = refl
one_plain regs (Srl rd rs1 rs2) e = absurd (let f = e in cc)
one_plain regs (Or rd rs1 rs2) e = absurd (let f = e in cc)
one_plain regs (And rd rs1 rs2) e = absurd (let f = e in cc)
one_plain regs (Sub rd rs1 rs2) e = refl
one_plain regs (Sra rd rs1 rs2) e = refl
one_plain regs (Mul rd rs1 rs2) e = refl
one_plain regs (Mulh rd rs1 rs2) e = refl
one_plain regs (Mulhsu rd rs1 rs2) e = absurd (let f = e in cc)
one_plain regs (Mulhu rd rs1 rs2) e = absurd (let f = e in cc)
one_plain regs (Div rd rs1 rs2) e = refl
one_plain regs (Divu rd rs1 rs2) e = absurd (let f = e in cc)
one_plain regs (Rem rd rs1 rs2) e = absurd (let f = e in cc)
one_plain regs (Remu rd rs1 rs2) e = absurd (let f = e in cc)
one_plain regs (Fence fields) e = absurd (let f = e in cc)
one_plain regs Ecall e = refl
one_plain regs Ebreak e = absurd (let f = e in cc)

all_plain : (regs : Registers) (instrs : List Instr) → are_plain instrs ≡ true → All (λ instr. is_comparing instr ≡ false) (all_over regs instrs)
all_plain regs [] e = All-nil _
all_plain regs (instr ∷ instrs) e =
    let parts = and_parts (is_plain instr) (are_plain instrs) e in
    All-cons (λ i. is_comparing i ≡ false) (over regs instr) (all_over regs instrs) (one_plain regs instr parts.0) (all_plain regs instrs parts.1)

pub plain_stay : PlainStay
plain_stay regs instrs plain = all_plain regs instrs plain
