-- The state of the machine (RISC-V unprivileged specification, RV32I base integer instruction set), with this
-- project's memory map.
use Rattle.std.specs.Prelude.{ℕ, ◌+◌, ◌-◌, ◌*◌, ◌%◌, ◌^◌, ℤ, pos, Bool, ◌&&◌, List, ◌++◌, ◌==◌, nat_le, if◌then◌else◌, length, take, drop, slice_index_or, slice_set}
use Rattle.std.specs.Int.{w16, w32, cast_unsigned, from_le_bytes, to_le_bytes}
use Rattle.sat_base.specs.Observation.{Observation, End, Stop, Going, Fault}
use Rattle.sat_base.specs.declared.machine_fault.MachineFault.{MachineFault}

-- the registers x0 to x31, the program counter, the bytes of the data memory, the samples that are left to read,
-- and those that were written
pub record MachineState : Type 0 where
  pub registers : List ℤ
  pub pc : ℕ
  pub memory : List ℕ
  pub input : List ℤ
  pub output : List ℤ

-- how a run is over: it ended with the value of Overflow and the weighted count, it stopped at a site, or the
-- instruction at a pc faulted
pub data Ending : Type 0 where
  Ended : (overflow : ℤ) (count : ℕ) → Ending
  Stopped : (site : ℕ) → Ending
  Faulted : (pc : ℕ) → MachineFault → Ending

-- the machine runs on, or its run is over, with what it wrote
pub data Moment : Type 0 where
  Running : MachineState → Moment
  Over : Ending → (output : List ℤ) → Moment

-- what is observed at a moment
abbrev pub observation_of : Moment → Observation
observation_of (Running s) = Going s.output
observation_of (Over (Ended overflow count) output) = End output overflow count
observation_of (Over (Stopped site) output) = Stop site output
observation_of (Over (Faulted pc kind) output) = Fault pc kind output

-- what was written up to a moment
abbrev pub written : Moment → List ℤ
written (Running s) = s.output
written (Over ending output) = output

-- ---- the memory map

-- where the code begins
abbrev pub code_start : ℕ
code_start = 0x00010000

-- where the data memory begins
abbrev pub data_start : ℕ
data_start = 0x10000000

-- this many bytes from an address on all lie in the data memory
abbrev pub is_inside : List ℕ → (address size : ℕ) → Bool
is_inside memory address size = nat_le data_start address && nat_le (address + size) (data_start + length memory)

-- the word at an address, whose first byte is the lowest
abbrev pub word_at : List ℕ → (address : ℕ) → ℕ
word_at memory address = from_le_bytes w32 (take 4 (drop (address - data_start) memory))

-- the four bytes at an address become those of a word, and no other byte changes
abbrev pub with_word : List ℕ → (address word : ℕ) → List ℕ
with_word memory address word =
    take (address - data_start) memory ++ (to_le_bytes w32 word ++ drop (address - data_start + 4) memory)

-- the same of two bytes and of one
abbrev pub half_at : List ℕ → (address : ℕ) → ℕ
half_at memory address = from_le_bytes w16 (take 2 (drop (address - data_start) memory))

abbrev pub with_half : List ℕ → (address half : ℕ) → List ℕ
with_half memory address half =
    take (address - data_start) memory ++ (to_le_bytes w16 half ++ drop (address - data_start + 2) memory)

abbrev pub byte_at : List ℕ → (address : ℕ) → ℕ
byte_at memory address = slice_index_or memory (address - data_start) 0

abbrev pub with_byte : List ℕ → (address byte : ℕ) → List ℕ
with_byte memory address byte = slice_set memory (address - data_start) byte

-- ---- registers and the program counter

abbrev pub register : MachineState → ℕ → ℤ
register s number = slice_index_or s.registers number (pos 0)

-- x0 stays 0 whatever is written to it
abbrev pub registers_with : List ℤ → ℕ → ℤ → List ℤ
registers_with registers rd value = if rd == 0 then registers else slice_set registers rd value

abbrev pub next_pc : ℕ → ℕ
next_pc pc = (pc + 4) % 2 ^ 32

abbrev pub target_pc : ℕ → ℤ → ℕ
target_pc pc imm = (pc + cast_unsigned w32 imm) % 2 ^ 32

-- the address of a register and an immediate
abbrev pub address_of : MachineState → (rs1 : ℕ) → ℤ → ℕ
address_of s rs1 imm = (cast_unsigned w32 (register s rs1) + cast_unsigned w32 imm) % 2 ^ 32

-- the weighted count, of which x25 has the upper 32 bits and x24 the lower
abbrev pub count_of : MachineState → ℕ
count_of s = cast_unsigned w32 (register s 25) * 2 ^ 32 + cast_unsigned w32 (register s 24)
