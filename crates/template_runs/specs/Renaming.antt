-- The registers of a template, and those of a site.
use Rattle.std.specs.Prelude.{ℕ, ◌≡◌, ◌≢◌, ◌==◌, ◌≤◌, ◌⊎◌, Bool, true, if◌then◌else◌, List, map}
use Rattle.rv_encode.specs.declared.instruction.Instr.{Instr}
use Rattle.template_runs.specs.declared.registers.Registers.{Registers}
use Rattle.rv_encode.specs.declared.instruction.Instr.TheVariants.{Lui, Jal, Beq, Bne, Blt, Bge, Bltu, Bgeu, Addi, Sltiu, Ori, Andi, Slli, Srli, Srai, Add, Sll, Xor, Sub, Sra, Mul, Mulh, Div}

-- a template is written with its result in x8 and its operands in x11, x12 and x13
abbrev pub renamed : Registers → ℕ → ℕ
renamed regs number =
    if number == 8 then regs.result else
    (if number == 11 then regs.first else (if number == 12 then regs.second else (if number == 13 then regs.third else number)))

-- these operands do not lie in the register of the result
abbrev pub AreApart : Registers → (apart : ℕ → Bool) → Type 0
AreApart regs apart = (n : ℕ) → apart n ≡ true → regs.result ≢ renamed regs n

-- an instruction of a template, over the registers of a site
abbrev pub over : Registers → Instr → Instr
over regs (Lui rd imm) = Lui (renamed regs rd) imm
over regs (Jal rd imm) = Jal (renamed regs rd) imm
over regs (Beq rs1 rs2 imm) = Beq (renamed regs rs1) (renamed regs rs2) imm
over regs (Bne rs1 rs2 imm) = Bne (renamed regs rs1) (renamed regs rs2) imm
over regs (Blt rs1 rs2 imm) = Blt (renamed regs rs1) (renamed regs rs2) imm
over regs (Bge rs1 rs2 imm) = Bge (renamed regs rs1) (renamed regs rs2) imm
over regs (Bltu rs1 rs2 imm) = Bltu (renamed regs rs1) (renamed regs rs2) imm
over regs (Bgeu rs1 rs2 imm) = Bgeu (renamed regs rs1) (renamed regs rs2) imm
over regs (Addi rd rs1 imm) = Addi (renamed regs rd) (renamed regs rs1) imm
over regs (Sltiu rd rs1 imm) = Sltiu (renamed regs rd) (renamed regs rs1) imm
over regs (Ori rd rs1 imm) = Ori (renamed regs rd) (renamed regs rs1) imm
over regs (Andi rd rs1 imm) = Andi (renamed regs rd) (renamed regs rs1) imm
over regs (Slli rd rs1 imm) = Slli (renamed regs rd) (renamed regs rs1) imm
over regs (Srli rd rs1 imm) = Srli (renamed regs rd) (renamed regs rs1) imm
over regs (Srai rd rs1 imm) = Srai (renamed regs rd) (renamed regs rs1) imm
over regs (Add rd rs1 rs2) = Add (renamed regs rd) (renamed regs rs1) (renamed regs rs2)
over regs (Sll rd rs1 rs2) = Sll (renamed regs rd) (renamed regs rs1) (renamed regs rs2)
over regs (Xor rd rs1 rs2) = Xor (renamed regs rd) (renamed regs rs1) (renamed regs rs2)
over regs (Sub rd rs1 rs2) = Sub (renamed regs rd) (renamed regs rs1) (renamed regs rs2)
over regs (Sra rd rs1 rs2) = Sra (renamed regs rd) (renamed regs rs1) (renamed regs rs2)
over regs (Mul rd rs1 rs2) = Mul (renamed regs rd) (renamed regs rs1) (renamed regs rs2)
over regs (Mulh rd rs1 rs2) = Mulh (renamed regs rd) (renamed regs rs1) (renamed regs rs2)
over regs (Div rd rs1 rs2) = Div (renamed regs rd) (renamed regs rs1) (renamed regs rs2)
over regs instr = instr

abbrev pub all_over : Registers → List Instr → List Instr
all_over regs instrs = map (over regs) instrs

-- the registers of results and operands, x8 to x23
abbrev pub IsPlace : ℕ → Type 0
IsPlace number = (8 ≤ number) × (number ≤ 23)

-- an operand may also be kept in x28, which no words of a template name
abbrev pub IsOperandPlace : ℕ → Type 0
IsOperandPlace number = IsPlace number ⊎ (number ≡ 28)

pub record AreInRange (regs : Registers) : Type 0 where
  pub result : IsPlace regs.result
  pub first : IsOperandPlace regs.first
  pub second : IsOperandPlace regs.second
  pub third : IsOperandPlace regs.third
