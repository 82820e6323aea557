-- The registers of operands and of a result, by the depth of the stack below them, and the code around what computes.
use Rattle.std.specs.Prelude.{ℕ, zero, suc, ◌+◌, nat_lt, if◌then◌else◌, List, [], ◌++◌}
use Rattle.code_lines.specs.declared.word.Word.{Word}
use Rattle.code_memory.specs.Memory.{load_code, store_code}
use Rattle.code_stacks.specs.Places.{Layout, in_registers, stack_register, scratch_register, kept_slot}

-- the register in which an operand is found
abbrev pub operand_register : (depth operand : ℕ) → ℕ
operand_register depth operand = if nat_lt (depth + operand) in_registers then stack_register (depth + operand) else scratch_register operand

-- what brings it there
abbrev pub fetch_code : Layout → (depth operand : ℕ) → List Word
fetch_code l depth operand = if nat_lt (depth + operand) in_registers then [] else load_code (scratch_register operand) (kept_slot l (depth + operand))

-- what brings so many operands there
abbrev pub fetches : Layout → (depth count : ℕ) → List Word
fetches l depth zero = []
fetches l depth (suc zero) = fetch_code l depth 0
fetches l depth (suc (suc zero)) = fetch_code l depth 0 ++ fetch_code l depth 1
fetches l depth (suc (suc (suc count))) = fetch_code l depth 0 ++ (fetch_code l depth 1 ++ fetch_code l depth 2)

-- what brings a result to its word, where it has one
abbrev pub finish_code : Layout → (depth : ℕ) → List Word
finish_code l depth = if nat_lt depth in_registers then [] else store_code (stack_register depth) (kept_slot l depth)
