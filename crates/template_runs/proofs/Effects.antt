-- What an instruction of a template does over the registers of a site.
use Rattle.std.proofs.Common.{◌≡◌, ℕ, ℤ, Bool, true, false, not, ◌==◌, if◌then◌else◌, int_lt, refl, ap}
use Rattle.std.specs.Ordering.{int_eq}
use Rattle.std.proofs.lemmas.Bool.{eqb-true}
use Rattle.rv_encode.specs.declared.instruction.Instr.{Instr}
use Rattle.rv_encode.specs.declared.instruction.Instr.TheVariants.{Lui, Auipc, Jal, Jalr, Beq, Bne, Blt, Bge, Bltu, Bgeu, Lb, Lh, Lw, Lbu, Lhu, Sb, Sh, Sw, Addi, Slti, Sltiu, Xori, Ori, Andi, Slli, Srli, Srai, Add, Sll, Slt, Sltu, Xor, Srl, Or, And, Sub, Sra, Mul, Mulh, Mulhsu, Mulhu, Div, Divu, Rem, Remu, Fence, Ecall, Ebreak}
use Rattle.rv_encode.specs.Arithmetic.{is_below}
use Rattle.rv_encode.specs.State.{MachineState, Moment, register}
use Rattle.rv_encode.specs.Effects.{effect_of, sets, jumps, goes_on, linked, calls}
use Rattle.template_runs.specs.Parts.{Part, Sets, Jumps, Calls, Other, part_of}
use Rattle.template_runs.specs.Values.{upper, added, taken, multiplied, multiplied_high, divided, both_bits, any_bits, other_bits, to_left, to_right, to_right_signed, amount_of, flag_below, equal, less, below}
use Rattle.template_runs.specs.declared.registers.Registers.{Registers}
use Rattle.template_runs.specs.Renaming.{renamed, over}

-- the effect of a part over these registers, where it sets a register or jumps
abbrev pub HasEffect : Registers → Part → MachineState → Moment → Type 0
HasEffect regs (Sets rd rs1 rs2 f) s at = at ≡ sets s (renamed regs rd) (f (register s (renamed regs rs1)) (register s (renamed regs rs2)))
HasEffect regs (Jumps rs1 rs2 test imm) s at =
    at ≡ (if test (register s (renamed regs rs1)) (register s (renamed regs rs2)) then jumps s s.registers imm else goes_on s)
HasEffect regs Calls s at = at ≡ calls s (register s 17)
HasEffect regs Other s at = Unit {0}

turned : (holds : Bool) (a b : Moment) → (if holds then a else b) ≡ (if not holds then b else a)
turned true a b = refl
turned false a b = refl

-- a jump without a link
jump_effect : (regs : Registers) (rd : ℕ) (imm : ℤ) (s : MachineState) (b : Bool) → (rd == 0) ≡ b
    → HasEffect regs (if b then Jumps 0 0 (λ a c. true) imm else Other) s (effect_of (Jal (renamed regs rd) imm) s)
jump_effect regs rd imm s true none = ap (λ r. jumps s (linked s (renamed regs r)) imm) (eqb-true rd 0 none)
jump_effect regs rd imm s false some = tt

pub part_effect : (regs : Registers) (instr : Instr) (s : MachineState) → HasEffect regs (part_of instr) s (effect_of (over regs instr) s)
unfolding upper added taken multiplied multiplied_high divided both_bits any_bits other_bits to_left to_right to_right_signed amount_of flag_below equal less below
part_effect regs (Lui rd imm) s = refl
part_effect regs (Jal rd imm) s = jump_effect regs rd imm s (rd == 0) refl
part_effect regs (Beq rs1 rs2 imm) s = refl
part_effect regs (Bne rs1 rs2 imm) s = turned (int_eq (register s (renamed regs rs1)) (register s (renamed regs rs2))) (goes_on s) (jumps s s.registers imm)
part_effect regs (Blt rs1 rs2 imm) s = refl
part_effect regs (Bge rs1 rs2 imm) s = turned (int_lt (register s (renamed regs rs1)) (register s (renamed regs rs2))) (goes_on s) (jumps s s.registers imm)
part_effect regs (Bltu rs1 rs2 imm) s = refl
part_effect regs (Bgeu rs1 rs2 imm) s = turned (is_below (register s (renamed regs rs1)) (register s (renamed regs rs2))) (goes_on s) (jumps s s.registers imm)
part_effect regs (Addi rd rs1 imm) s = refl
part_effect regs (Slti rd rs1 imm) s = tt
part_effect regs (Sltiu rd rs1 imm) s = refl
part_effect regs (Xori rd rs1 imm) s = tt
part_effect regs (Ori rd rs1 imm) s = refl
part_effect regs (Andi rd rs1 imm) s = refl
part_effect regs (Slli rd rs1 imm) s = refl
part_effect regs (Srli rd rs1 imm) s = refl
part_effect regs (Srai rd rs1 imm) s = refl
part_effect regs (Add rd rs1 rs2) s = refl
part_effect regs (Sll rd rs1 rs2) s = refl
part_effect regs (Slt rd rs1 rs2) s = tt
part_effect regs (Sltu rd rs1 rs2) s = tt
part_effect regs (Xor rd rs1 rs2) s = refl
part_effect regs (Srl rd rs1 rs2) s = tt
part_effect regs (Or rd rs1 rs2) s = tt
part_effect regs (And rd rs1 rs2) s = tt
part_effect regs (Sub rd rs1 rs2) s = refl
part_effect regs (Sra rd rs1 rs2) s = refl
part_effect regs (Mul rd rs1 rs2) s = refl
part_effect regs (Mulh rd rs1 rs2) s = refl
part_effect regs (Mulhsu rd rs1 rs2) s = tt
part_effect regs (Mulhu rd rs1 rs2) s = tt
part_effect regs (Div rd rs1 rs2) s = refl
part_effect regs (Divu rd rs1 rs2) s = tt
part_effect regs (Rem rd rs1 rs2) s = tt
part_effect regs (Remu rd rs1 rs2) s = tt
part_effect regs (Auipc rd imm) s = tt
part_effect regs (Jalr rd rs1 imm) s = tt
part_effect regs (Lb rd rs1 imm) s = tt
part_effect regs (Lh rd rs1 imm) s = tt
part_effect regs (Lw rd rs1 imm) s = tt
part_effect regs (Lbu rd rs1 imm) s = tt
part_effect regs (Lhu rd rs1 imm) s = tt
part_effect regs (Sb rs1 rs2 imm) s = tt
part_effect regs (Sh rs1 rs2 imm) s = tt
part_effect regs (Sw rs1 rs2 imm) s = tt
part_effect regs (Fence fields) s = tt
part_effect regs Ecall s = refl
part_effect regs Ebreak s = tt
