-- Instructions of a template that compare nothing compare nothing over the registers of any site.
use Rattle.std.specs.Prelude.{◌≡◌, Bool, true, false, ◌&&◌, List, [], ◌∷◌, All, IsTrue}
use Rattle.rv_encode.specs.declared.instruction.Instr.{Instr}
use Rattle.rv_encode.specs.declared.instruction.Instr.TheVariants.{Lui, Jal, Addi, Ori, Andi, Slli, Srli, Srai, Add, Sll, Xor, Sub, Sra, Mul, Mulh, Div, Ecall}
use Rattle.rv_encode.specs.Comparing.{is_comparing}
use Rattle.template_runs.specs.declared.registers.Registers.{Registers}
use Rattle.template_runs.specs.Renaming.{all_over}

-- instructions of templates that are no comparison
abbrev pub is_plain : Instr → Bool
is_plain (Lui rd imm) = true
is_plain (Jal rd imm) = true
is_plain (Addi rd rs1 imm) = true
is_plain (Ori rd rs1 imm) = true
is_plain (Andi rd rs1 imm) = true
is_plain (Slli rd rs1 imm) = true
is_plain (Srli rd rs1 imm) = true
is_plain (Srai rd rs1 imm) = true
is_plain (Add rd rs1 rs2) = true
is_plain (Sll rd rs1 rs2) = true
is_plain (Xor rd rs1 rs2) = true
is_plain (Sub rd rs1 rs2) = true
is_plain (Sra rd rs1 rs2) = true
is_plain (Mul rd rs1 rs2) = true
is_plain (Mulh rd rs1 rs2) = true
is_plain (Div rd rs1 rs2) = true
is_plain Ecall = true
is_plain instr = false

abbrev pub are_plain : List Instr → Bool
are_plain [] = true
are_plain (instr ∷ instrs) = is_plain instr && are_plain instrs

abbrev pub PlainStay : Type 0
PlainStay = (regs : Registers) (instrs : List Instr) → IsTrue (are_plain instrs) → All (λ instr. is_comparing instr ≡ false) (all_over regs instrs)
