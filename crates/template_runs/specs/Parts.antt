-- What an instruction of a template does, by what it reads and writes.
use Rattle.std.specs.Prelude.{ℕ, ℤ, Bool, true, not, ◌==◌, if◌then◌else◌}
use Rattle.rv_encode.specs.declared.instruction.Instr.{Instr}
use Rattle.rv_encode.specs.declared.instruction.Instr.TheVariants.{Lui, Jal, Beq, Bne, Blt, Bge, Bltu, Bgeu, Addi, Sltiu, Ori, Andi, Slli, Srli, Srai, Add, Sll, Xor, Sub, Sra, Mul, Mulh, Div, Ecall}
use Rattle.template_runs.specs.Values.{upper, added, taken, multiplied, multiplied_high, divided, both_bits, any_bits, other_bits, to_left, to_right, to_right_signed, amount_of, flag_below, equal, less, below}

pub data Part : Type 0 where
  -- rd becomes a value of rs1 and rs2
  Sets : (rd rs1 rs2 : ℕ) → (ℤ → ℤ → ℤ) → Part
  -- a jump by a distance where rs1 and rs2 pass a test
  Jumps : (rs1 rs2 : ℕ) → (ℤ → ℤ → Bool) → (imm : ℤ) → Part
  -- an environment call
  Calls : Part
  -- what no template has
  Other : Part

abbrev pub part_of : Instr → Part
part_of (Lui rd imm) = Sets rd 0 0 (λ a b. upper imm)
part_of (Jal rd imm) = if rd == 0 then Jumps 0 0 (λ a b. true) imm else Other
part_of (Beq rs1 rs2 imm) = Jumps rs1 rs2 (λ a b. equal a b) imm
part_of (Bne rs1 rs2 imm) = Jumps rs1 rs2 (λ a b. not (equal a b)) imm
part_of (Blt rs1 rs2 imm) = Jumps rs1 rs2 (λ a b. less a b) imm
part_of (Bge rs1 rs2 imm) = Jumps rs1 rs2 (λ a b. not (less a b)) imm
part_of (Bltu rs1 rs2 imm) = Jumps rs1 rs2 (λ a b. below a b) imm
part_of (Bgeu rs1 rs2 imm) = Jumps rs1 rs2 (λ a b. not (below a b)) imm
part_of (Addi rd rs1 imm) = Sets rd rs1 rs1 (λ a b. added a imm)
part_of (Sltiu rd rs1 imm) = Sets rd rs1 rs1 (λ a b. flag_below a imm)
part_of (Ori rd rs1 imm) = Sets rd rs1 rs1 (λ a b. any_bits a imm)
part_of (Andi rd rs1 imm) = Sets rd rs1 rs1 (λ a b. both_bits a imm)
part_of (Slli rd rs1 imm) = Sets rd rs1 rs1 (λ a b. to_left a imm)
part_of (Srli rd rs1 imm) = Sets rd rs1 rs1 (λ a b. to_right a imm)
part_of (Srai rd rs1 imm) = Sets rd rs1 rs1 (λ a b. to_right_signed a imm)
part_of (Add rd rs1 rs2) = Sets rd rs1 rs2 (λ a b. added a b)
part_of (Sll rd rs1 rs2) = Sets rd rs1 rs2 (λ a b. to_left a (amount_of b))
part_of (Xor rd rs1 rs2) = Sets rd rs1 rs2 (λ a b. other_bits a b)
part_of (Sub rd rs1 rs2) = Sets rd rs1 rs2 (λ a b. taken a b)
part_of (Sra rd rs1 rs2) = Sets rd rs1 rs2 (λ a b. to_right_signed a (amount_of b))
part_of (Mul rd rs1 rs2) = Sets rd rs1 rs2 (λ a b. multiplied a b)
part_of (Mulh rd rs1 rs2) = Sets rd rs1 rs2 (λ a b. multiplied_high a b)
part_of (Div rd rs1 rs2) = Sets rd rs1 rs2 (λ a b. divided a b)
part_of Ecall = Calls
part_of instr = Other
