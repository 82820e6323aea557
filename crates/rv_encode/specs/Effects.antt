-- What each instruction does (RISC-V unprivileged specification, RV32I base integer instruction set and M extension),
-- with this project's environment calls.
use Rattle.std.specs.Prelude.{ℕ, ◌+◌, ◌-◌, ◌*◌, ◌%◌, ◌^◌, ℤ, pos, Bool, true, false, List, [], ◌∷◌, ◌++◌, ◌==◌, int_lt, if◌then◌else◌}
use Rattle.std.specs.Int.{w8, w16, w32, cast_signed, cast_unsigned, int_wrapping_add, int_wrapping_sub, int_wrapping_mul, int_bit_and, int_bit_or, int_bit_xor}
use Rattle.std.specs.Ordering.{int_eq}
use Rattle.sat_base.specs.Clip.{low16}
use Rattle.sat_base.specs.declared.machine_fault.MachineFault.{MachineFault}
use Rattle.sat_base.specs.declared.machine_fault.MachineFault.TheVariants.{Jump, Load, Store, Align, Break, Call, Input}
use Rattle.rv_encode.specs.declared.instruction.Instr.{Instr}
use Rattle.rv_encode.specs.declared.instruction.Instr.TheVariants.{Lui, Auipc, Jal, Jalr, Beq, Bne, Blt, Bge, Bltu, Bgeu, Lb, Lh, Lw, Lbu, Lhu, Sb, Sh, Sw, Addi, Slti, Sltiu, Xori, Ori, Andi, Slli, Srli, Srai, Add, Sll, Slt, Sltu, Xor, Srl, Or, And, Sub, Sra, Mul, Mulh, Mulhsu, Mulhu, Div, Divu, Rem, Remu, Fence, Ecall, Ebreak}
use Rattle.rv_encode.specs.Arithmetic.{flag_of, is_below, shift_amount, shifted_left, shifted_right, shifted_right_signed, upper_product, upper_product_mixed, upper_product_unsigned, quotient, remainder, quotient_unsigned, remainder_unsigned}
use Rattle.rv_encode.specs.State.{MachineState, Ended, Stopped, Faulted, Moment, Running, Over, register, registers_with, next_pc, target_pc, address_of, count_of, is_inside, word_at, with_word, half_at, with_half, byte_at, with_byte}

-- a register gets a value, and the next instruction follows
abbrev pub sets : MachineState → ℕ → ℤ → Moment
sets s rd value = Running (record s { registers = registers_with s.registers rd value; pc = next_pc s.pc })

abbrev pub goes_on : MachineState → Moment
goes_on s = Running (record s { pc = next_pc s.pc })

abbrev pub faults : MachineState → MachineFault → Moment
faults s kind = Over (Faulted s.pc kind) s.output

-- a jump to a target, with these registers; the target must be a multiple of 4
abbrev pub jumps_to : MachineState → List ℤ → (target : ℕ) → Moment
jumps_to s registers target =
    if target % 4 == 0 then Running (record s { registers = registers; pc = target }) else faults s Jump

-- a jump by a distance from the pc
abbrev pub jumps : MachineState → List ℤ → ℤ → Moment
jumps s registers imm = jumps_to s registers (target_pc s.pc imm)

-- the registers with the address of the next instruction in rd
abbrev pub linked : MachineState → (rd : ℕ) → List ℤ
linked s rd = registers_with s.registers rd (cast_signed w32 (next_pc s.pc))

-- an access to this many bytes: their address must be a multiple of their number, and then all of them must lie
-- in the data memory
abbrev pub accesses : MachineState → (address size : ℕ) → (outside : MachineFault) → Moment → Moment
accesses s address size outside effect =
    if address % size == 0 then (if is_inside s.memory address size then effect else faults s outside) else faults s Align

-- the word at an address into a register, as signed
abbrev pub loads : MachineState → (rd address : ℕ) → Moment
loads s rd address = accesses s address 4 Load (sets s rd (cast_signed w32 (word_at s.memory address)))

-- two bytes and one byte at an address into a register, as signed or as unsigned
abbrev pub loads_half : MachineState → (rd address : ℕ) → (signed : Bool) → Moment
loads_half s rd address signed =
    let half = half_at s.memory address in
    accesses s address 2 Load (sets s rd (if signed then cast_signed w16 half else pos half))

abbrev pub loads_byte : MachineState → (rd address : ℕ) → (signed : Bool) → Moment
loads_byte s rd address signed =
    let byte = byte_at s.memory address in accesses s address 1 Load (sets s rd (if signed then cast_signed w8 byte else pos byte))

-- a memory, and the next instruction
abbrev pub remembers : MachineState → List ℕ → Moment
remembers s memory = Running (record s { memory = memory; pc = next_pc s.pc })

-- a signed value to the word at an address, and its low bits to two bytes and to one
abbrev pub stores : MachineState → (address : ℕ) → ℤ → Moment
stores s address value = accesses s address 4 Store (remembers s (with_word s.memory address (cast_unsigned w32 value)))

abbrev pub stores_half : MachineState → (address : ℕ) → ℤ → Moment
stores_half s address value =
    accesses s address 2 Store (remembers s (with_half s.memory address (cast_unsigned w32 value % 2 ^ 16)))

abbrev pub stores_byte : MachineState → (address : ℕ) → ℤ → Moment
stores_byte s address value =
    accesses s address 1 Store (remembers s (with_byte s.memory address (cast_unsigned w32 value % 2 ^ 8)))

-- 1 where a sample is left, else 0
abbrev pub left_flag : List ℤ → ℤ
left_flag [] = pos 0
left_flag (sample ∷ rest) = pos 1

-- the next sample, if there is one, into x10
abbrev pub takes : MachineState → List ℤ → Moment
takes s [] = faults s Input
takes s (sample ∷ rest) = sets (record s { input = rest }) 10 sample

-- a sample is written, and the next instruction follows
abbrev pub writes : MachineState → ℤ → Moment
writes s sample = Running (record s { pc = next_pc s.pc; output = s.output ++ sample ∷ [] })

-- an environment call by the number in x17: 1 asks whether a sample is left, 2 takes the next one, 3 writes the
-- low 16 bits of x10, 4 ends the run, and 5 stops it at the site in x10
abbrev pub calls : MachineState → ℤ → Moment
calls s number =
    if int_eq number (pos 1) then sets s 10 (left_flag s.input) else
    (if int_eq number (pos 2) then takes s s.input else
    (if int_eq number (pos 3) then writes s (low16 (register s 10)) else
    (if int_eq number (pos 4) then Over (Ended (register s 27) (count_of s)) s.output else
    (if int_eq number (pos 5) then Over (Stopped (cast_unsigned w32 (register s 10))) s.output else faults s Call))))

-- one line for each instruction
abbrev pub effect_of : Instr → MachineState → Moment
effect_of (Lui rd imm) s = sets s rd (cast_signed w32 (imm * 2 ^ 12))
effect_of (Auipc rd imm) s = sets s rd (cast_signed w32 ((s.pc + imm * 2 ^ 12) % 2 ^ 32))
effect_of (Jal rd imm) s = jumps s (linked s rd) imm
effect_of (Jalr rd rs1 imm) s = let address = address_of s rs1 imm in jumps_to s (linked s rd) (address - address % 2)
effect_of (Beq rs1 rs2 imm) s = if int_eq (register s rs1) (register s rs2) then jumps s s.registers imm else goes_on s
effect_of (Bne rs1 rs2 imm) s = if int_eq (register s rs1) (register s rs2) then goes_on s else jumps s s.registers imm
effect_of (Blt rs1 rs2 imm) s = if int_lt (register s rs1) (register s rs2) then jumps s s.registers imm else goes_on s
effect_of (Bge rs1 rs2 imm) s = if int_lt (register s rs1) (register s rs2) then goes_on s else jumps s s.registers imm
effect_of (Bltu rs1 rs2 imm) s = if is_below (register s rs1) (register s rs2) then jumps s s.registers imm else goes_on s
effect_of (Bgeu rs1 rs2 imm) s = if is_below (register s rs1) (register s rs2) then goes_on s else jumps s s.registers imm
effect_of (Lb rd rs1 imm) s = loads_byte s rd (address_of s rs1 imm) true
effect_of (Lh rd rs1 imm) s = loads_half s rd (address_of s rs1 imm) true
effect_of (Lw rd rs1 imm) s = loads s rd (address_of s rs1 imm)
effect_of (Lbu rd rs1 imm) s = loads_byte s rd (address_of s rs1 imm) false
effect_of (Lhu rd rs1 imm) s = loads_half s rd (address_of s rs1 imm) false
effect_of (Sb rs1 rs2 imm) s = stores_byte s (address_of s rs1 imm) (register s rs2)
effect_of (Sh rs1 rs2 imm) s = stores_half s (address_of s rs1 imm) (register s rs2)
effect_of (Sw rs1 rs2 imm) s = stores s (address_of s rs1 imm) (register s rs2)
effect_of (Addi rd rs1 imm) s = sets s rd (int_wrapping_add w32 (register s rs1) imm)
effect_of (Slti rd rs1 imm) s = sets s rd (flag_of (int_lt (register s rs1) imm))
effect_of (Sltiu rd rs1 imm) s = sets s rd (flag_of (is_below (register s rs1) imm))
effect_of (Xori rd rs1 imm) s = sets s rd (int_bit_xor w32 (register s rs1) imm)
effect_of (Ori rd rs1 imm) s = sets s rd (int_bit_or w32 (register s rs1) imm)
effect_of (Andi rd rs1 imm) s = sets s rd (int_bit_and w32 (register s rs1) imm)
effect_of (Slli rd rs1 imm) s = sets s rd (shifted_left (register s rs1) imm)
effect_of (Srli rd rs1 imm) s = sets s rd (shifted_right (register s rs1) imm)
effect_of (Srai rd rs1 imm) s = sets s rd (shifted_right_signed (register s rs1) imm)
effect_of (Add rd rs1 rs2) s = sets s rd (int_wrapping_add w32 (register s rs1) (register s rs2))
effect_of (Sll rd rs1 rs2) s = sets s rd (shifted_left (register s rs1) (shift_amount (register s rs2)))
effect_of (Slt rd rs1 rs2) s = sets s rd (flag_of (int_lt (register s rs1) (register s rs2)))
effect_of (Sltu rd rs1 rs2) s = sets s rd (flag_of (is_below (register s rs1) (register s rs2)))
effect_of (Xor rd rs1 rs2) s = sets s rd (int_bit_xor w32 (register s rs1) (register s rs2))
effect_of (Srl rd rs1 rs2) s = sets s rd (shifted_right (register s rs1) (shift_amount (register s rs2)))
effect_of (Or rd rs1 rs2) s = sets s rd (int_bit_or w32 (register s rs1) (register s rs2))
effect_of (And rd rs1 rs2) s = sets s rd (int_bit_and w32 (register s rs1) (register s rs2))
effect_of (Sub rd rs1 rs2) s = sets s rd (int_wrapping_sub w32 (register s rs1) (register s rs2))
effect_of (Sra rd rs1 rs2) s = sets s rd (shifted_right_signed (register s rs1) (shift_amount (register s rs2)))
effect_of (Mul rd rs1 rs2) s = sets s rd (int_wrapping_mul w32 (register s rs1) (register s rs2))
effect_of (Mulh rd rs1 rs2) s = sets s rd (upper_product (register s rs1) (register s rs2))
effect_of (Mulhsu rd rs1 rs2) s = sets s rd (upper_product_mixed (register s rs1) (register s rs2))
effect_of (Mulhu rd rs1 rs2) s = sets s rd (upper_product_unsigned (register s rs1) (register s rs2))
effect_of (Div rd rs1 rs2) s = sets s rd (quotient (register s rs1) (register s rs2))
effect_of (Divu rd rs1 rs2) s = sets s rd (quotient_unsigned (register s rs1) (register s rs2))
effect_of (Rem rd rs1 rs2) s = sets s rd (remainder (register s rs1) (register s rs2))
effect_of (Remu rd rs1 rs2) s = sets s rd (remainder_unsigned (register s rs1) (register s rs2))
effect_of (Fence fields) s = goes_on s
effect_of Ecall s = calls s (register s 17)
effect_of Ebreak s = faults s Break
