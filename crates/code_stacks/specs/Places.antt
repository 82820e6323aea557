-- Where the values of an expression are while it is evaluated, and where the variables of a source are.
use Rattle.std.specs.Prelude.{◌≡◌, ◌≢◌, ℕ, zero, suc, ◌+◌, ◌-◌, ◌*◌, ◌%◌, ◌<◌, ◌≤◌, ℤ, pos, Bool, true, nat_lt, if◌then◌else◌, List, length, slice_index_or, FitsSigned}
use Rattle.std.specs.Int.{w32}
use Rattle.rv_encode.specs.State.{MachineState, register}
use Rattle.code_lines.specs.Words.{Code}
use Rattle.code_memory.specs.Memory.{word_in}

-- ---- the stack of values

-- so many of the lowest values are in registers; those above are in words of the data memory
abbrev pub in_registers : ℕ
in_registers = 5

-- the register of a value, or the one in which it is computed before it goes to its word
abbrev pub stack_register : ℕ → ℕ
stack_register zero = 8
stack_register (suc zero) = 9
stack_register (suc (suc zero)) = 11
stack_register (suc (suc (suc zero))) = 12
stack_register (suc (suc (suc (suc zero)))) = 13
stack_register place = 14

-- the register into which the first, second or third operand comes that has a word
abbrev pub scratch_register : ℕ → ℕ
scratch_register zero = 14
scratch_register (suc zero) = 15
scratch_register operand = 16

-- where the variables of a source have their words, and where the words of values begin, of which there are so many with
-- those in registers; how many bytes the data memory has; and which sites have no words
pub record Layout : Type 0 where
  pub is_variable : ℕ → Bool
  pub slot : ℕ → ℕ
  pub kept : ℕ
  pub depth : ℕ
  pub size : ℕ
  pub is_wordless : ℕ → Bool

-- the words lie in the memory, no two of them overlap, and the sites without words are those of the code
pub record IsLaidOut (code : Code) (l : Layout) : Type 0 where
  pub small : l.size ≤ 4194304
  pub whole : (n : ℕ) → l.is_variable n ≡ true → l.slot n % 4 ≡ 0
  pub before : (n : ℕ) → l.is_variable n ≡ true → l.slot n + 4 ≤ l.kept
  pub apart : (n other : ℕ) → l.is_variable n ≡ true → l.is_variable other ≡ true → n ≢ other → l.slot n ≢ l.slot other
  pub kept_whole : l.kept % 4 ≡ 0
  pub room : l.kept + 4 * (l.depth - in_registers) ≤ l.size
  pub wordless : (site : ℕ) → code.is_wordless site ≡ l.is_wordless site

-- the word of a value that has no register
abbrev pub kept_slot : Layout → ℕ → ℕ
kept_slot l place = l.kept + 4 * (place - in_registers)

-- the value at a place of the stack
abbrev pub value_at : Layout → MachineState → ℕ → ℤ
value_at l m place = if nat_lt place in_registers then register m (stack_register place) else word_in m.memory (kept_slot l place)

-- the value of this number, from the lowest
abbrev pub value_of : List ℤ → ℕ → ℤ
value_of values place = slice_index_or values place (pos 0)

-- the machine has these values, each of 32 bits
abbrev pub HasStack : Layout → List ℤ → MachineState → Type 0
HasStack l values m = (place : ℕ) → place < length values → (value_at l m place ≡ value_of values place) × FitsSigned w32 (value_of values place)
