-- An instruction takes nothing back of what was written.
use Rattle.std.proofs.Common.{ℕ, zero, suc, ◌-◌, ◌%◌, ◌==◌, ℤ, pos, Bool, true, false, int_lt, if◌then◌else◌, List, [], ◌∷◌, ◌++◌, Option, Some, None, refl, sym, ap, ◌∙◌, append-nil, append_assoc}
use Rattle.std.specs.Ordering.{int_eq}
use Rattle.sat_base.specs.Clip.{low16}
use Rattle.sat_base.specs.declared.machine_fault.MachineFault.{MachineFault}
use Rattle.sat_base.specs.declared.machine_fault.MachineFault.TheVariants.{Load, Store}
use Rattle.rv_encode.specs.declared.instruction.Instr.{Instr}
use Rattle.rv_encode.specs.declared.instruction.Instr.TheVariants.{Lui, Auipc, Jal, Jalr, Beq, Bne, Blt, Bge, Bltu, Bgeu, Lb, Lh, Lw, Lbu, Lhu, Sb, Sh, Sw, Addi, Slti, Sltiu, Xori, Ori, Andi, Slli, Srli, Srai, Add, Sll, Slt, Sltu, Xor, Srl, Or, And, Sub, Sra, Mul, Mulh, Mulhsu, Mulhu, Div, Divu, Rem, Remu, Fence, Ecall, Ebreak}
use Rattle.rv_encode.specs.Arithmetic.{is_below}
use Rattle.rv_encode.specs.Decoding.{decoded}
use Rattle.rv_encode.specs.Effects.{effect_of, linked, jumps_to, accesses, takes, calls}
use Rattle.rv_encode.specs.Runs.{fetched, carried_out, executed, next_moment, moment_after, IsPrefix}
use Rattle.rv_encode.specs.State.{MachineState, Moment, Running, Over, register, target_pc, address_of, is_inside, written}

prefix_of_self : (xs : List ℤ) → IsPrefix xs xs
prefix_of_self xs = ([], sym (append-nil xs))

pub prefix_of_prefix : (xs ys zs : List ℤ) → IsPrefix xs ys → IsPrefix ys zs → IsPrefix xs zs
prefix_of_prefix xs ys zs p q = (p.0 ++ q.0, q.1 ∙ ap (λ l. l ++ q.0) p.1 ∙ append_assoc xs p.0 q.0)

-- what was written before an instruction begins what was written after it
abbrev Keeps : MachineState → Moment → Type 0
Keeps s at = IsPrefix s.output (written at)

stays : (s : MachineState) → IsPrefix s.output s.output
stays s = prefix_of_self s.output

either_keeps : (s : MachineState) (holds : Bool) (a b : Moment) → Keeps s a → Keeps s b → Keeps s (if holds then a else b)
either_keeps s true a b left right = left
either_keeps s false a b left right = right

jumps_keep : (s : MachineState) (registers : List ℤ) (target : ℕ) → Keeps s (jumps_to s registers target)
jumps_keep s registers target = either_keeps s (target % 4 == 0) _ _ (stays s) (stays s)

accesses_keep : (s : MachineState) (address size : ℕ) (outside : MachineFault) (at : Moment) → Keeps s at → Keeps s (accesses s address size outside at)
accesses_keep s address size outside at kept =
    either_keeps s (address % size == 0) _ _ (either_keeps s (is_inside s.memory address size) _ _ kept (stays s)) (stays s)

takes_keep : (s : MachineState) (input : List ℤ) → Keeps s (takes s input)
takes_keep s [] = stays s
takes_keep s (sample ∷ rest) = stays s

calls_keep : (s : MachineState) (number : ℤ) → Keeps s (calls s number)
calls_keep s number =
    either_keeps s (int_eq number (pos 1)) _ _ (stays s)
    (either_keeps s (int_eq number (pos 2)) _ _ (takes_keep s s.input)
    (either_keeps s (int_eq number (pos 3)) _ _ (low16 (register s 10) ∷ [], refl)
    (either_keeps s (int_eq number (pos 4)) _ _ (stays s) (either_keeps s (int_eq number (pos 5)) _ _ (stays s) (stays s)))))

output_kept : (instr : Instr) (s : MachineState) → Keeps s (effect_of instr s)
output_kept (Lui rd imm) s = stays s
output_kept (Auipc rd imm) s = stays s
output_kept (Jal rd imm) s = jumps_keep s (linked s rd) (target_pc s.pc imm)
output_kept (Jalr rd rs1 imm) s = let address = address_of s rs1 imm in jumps_keep s (linked s rd) (address - address % 2)
output_kept (Beq rs1 rs2 imm) s = either_keeps s (int_eq (register s rs1) (register s rs2)) _ _ (jumps_keep s s.registers (target_pc s.pc imm)) (stays s)
output_kept (Bne rs1 rs2 imm) s = either_keeps s (int_eq (register s rs1) (register s rs2)) _ _ (stays s) (jumps_keep s s.registers (target_pc s.pc imm))
output_kept (Blt rs1 rs2 imm) s = either_keeps s (int_lt (register s rs1) (register s rs2)) _ _ (jumps_keep s s.registers (target_pc s.pc imm)) (stays s)
output_kept (Bge rs1 rs2 imm) s = either_keeps s (int_lt (register s rs1) (register s rs2)) _ _ (stays s) (jumps_keep s s.registers (target_pc s.pc imm))
output_kept (Bltu rs1 rs2 imm) s = either_keeps s (is_below (register s rs1) (register s rs2)) _ _ (jumps_keep s s.registers (target_pc s.pc imm)) (stays s)
output_kept (Bgeu rs1 rs2 imm) s = either_keeps s (is_below (register s rs1) (register s rs2)) _ _ (stays s) (jumps_keep s s.registers (target_pc s.pc imm))
output_kept (Lb rd rs1 imm) s = accesses_keep s (address_of s rs1 imm) 1 Load _ (stays s)
output_kept (Lh rd rs1 imm) s = accesses_keep s (address_of s rs1 imm) 2 Load _ (stays s)
output_kept (Lw rd rs1 imm) s = accesses_keep s (address_of s rs1 imm) 4 Load _ (stays s)
output_kept (Lbu rd rs1 imm) s = accesses_keep s (address_of s rs1 imm) 1 Load _ (stays s)
output_kept (Lhu rd rs1 imm) s = accesses_keep s (address_of s rs1 imm) 2 Load _ (stays s)
output_kept (Sb rs1 rs2 imm) s = accesses_keep s (address_of s rs1 imm) 1 Store _ (stays s)
output_kept (Sh rs1 rs2 imm) s = accesses_keep s (address_of s rs1 imm) 2 Store _ (stays s)
output_kept (Sw rs1 rs2 imm) s = accesses_keep s (address_of s rs1 imm) 4 Store _ (stays s)
output_kept (Addi rd rs1 imm) s = stays s
output_kept (Slti rd rs1 imm) s = stays s
output_kept (Sltiu rd rs1 imm) s = stays s
output_kept (Xori rd rs1 imm) s = stays s
output_kept (Ori rd rs1 imm) s = stays s
output_kept (Andi rd rs1 imm) s = stays s
output_kept (Slli rd rs1 imm) s = stays s
output_kept (Srli rd rs1 imm) s = stays s
output_kept (Srai rd rs1 imm) s = stays s
output_kept (Add rd rs1 rs2) s = stays s
output_kept (Sll rd rs1 rs2) s = stays s
output_kept (Slt rd rs1 rs2) s = stays s
output_kept (Sltu rd rs1 rs2) s = stays s
output_kept (Xor rd rs1 rs2) s = stays s
output_kept (Srl rd rs1 rs2) s = stays s
output_kept (Or rd rs1 rs2) s = stays s
output_kept (And rd rs1 rs2) s = stays s
output_kept (Sub rd rs1 rs2) s = stays s
output_kept (Sra rd rs1 rs2) s = stays s
output_kept (Mul rd rs1 rs2) s = stays s
output_kept (Mulh rd rs1 rs2) s = stays s
output_kept (Mulhsu rd rs1 rs2) s = stays s
output_kept (Mulhu rd rs1 rs2) s = stays s
output_kept (Div rd rs1 rs2) s = stays s
output_kept (Divu rd rs1 rs2) s = stays s
output_kept (Rem rd rs1 rs2) s = stays s
output_kept (Remu rd rs1 rs2) s = stays s
output_kept (Fence fields) s = stays s
output_kept Ecall s = calls_keep s (register s 17)
output_kept Ebreak s = stays s

carried_out_kept : (instr : Option Instr) (s : MachineState) → Keeps s (carried_out instr s)
carried_out_kept None s = stays s
carried_out_kept (Some instr) s = output_kept instr s

executed_kept : (word : Option ℕ) (s : MachineState) → Keeps s (executed word s)
executed_kept None s = stays s
executed_kept (Some word) s = carried_out_kept (decoded word) s

next_kept : (code : List ℕ) (at : Moment) → IsPrefix (written at) (written (next_moment code at))
next_kept code (Running s) = executed_kept (fetched code s.pc) s
next_kept code (Over ending output) = prefix_of_self output

-- nor do so many of them
pub output_grows : (code : List ℕ) (n : ℕ) (at : Moment) → IsPrefix (written at) (written (moment_after code n at))
output_grows code zero at = prefix_of_self (written at)
output_grows code (suc n) at =
    prefix_of_prefix (written at) (written (next_moment code at)) (written (moment_after code (suc n) at)) (next_kept code at) (output_grows code n (next_moment code at))
