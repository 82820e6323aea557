-- Words of the data memory by their offsets, and the code that loads and stores them.
use Rattle.std.specs.Prelude.{◌≡◌, ◌≢◌, ℕ, ◌+◌, ◌%◌, ◌≤◌, ℤ, pos, ◌-ℤ◌, Bool, true, false, nat_lt, List, [], ◌∷◌, length, FitsSigned}
use Rattle.std.specs.Int.{w32, cast_signed, cast_unsigned}
use Rattle.code_lines.specs.declared.word.Word.{Word}
use Rattle.code_lines.specs.Words.{StandHere, Code}
use Rattle.code_lines.specs.Own.{Lui, Lw, Sw}
use Rattle.rv_encode.specs.State.{MachineState, Running, register, data_start, word_at, with_word}
use Rattle.code_lines.specs.Leading.{Leads}
use Rattle.template_runs.specs.Machine.{IsBefore}
use Rattle.code_lines.specs.Pieces.{upper_of, lower_of}

-- ---- words

-- the number in the word at an offset
abbrev pub word_in : List ℕ → ℕ → ℤ
word_in memory slot = cast_signed w32 (word_at memory (data_start + slot))

-- the memory where the word at an offset has this number
abbrev pub with_word_in : List ℕ → ℕ → ℤ → List ℕ
with_word_in memory slot x = with_word memory (data_start + slot) (cast_unsigned w32 x)

-- a whole word lies at an offset; a memory has at most 4,194,304 bytes
pub record IsSlot (memory : List ℕ) (slot : ℕ) : Type 0 where
  pub whole : slot % 4 ≡ 0
  pub inside : slot + 4 ≤ length memory
  pub small : length memory ≤ 4194304

-- what is kept is there, and nothing else has changed
pub record WordsAreKept : Type 0 where
  pub there : (memory : List ℕ) (slot : ℕ) (x : ℤ) → IsSlot memory slot → FitsSigned w32 x → word_in (with_word_in memory slot x) slot ≡ x
  pub others : (memory : List ℕ) (slot other : ℕ) (x : ℤ) → IsSlot memory slot → IsSlot memory other → other ≢ slot → word_in (with_word_in memory slot x) other ≡ word_in memory other
  pub size : (memory : List ℕ) (slot : ℕ) (x : ℤ) → IsSlot memory slot → length (with_word_in memory slot x) ≡ length memory

-- ---- code

-- the register of the base, and where it points: into the middle of the words that one instruction reaches
abbrev pub base_register : ℕ
base_register = 3

abbrev pub base_offset : ℕ
base_offset = 2048

abbrev pub base : ℤ
base = pos (data_start + base_offset)

-- one instruction reaches the first 4,096 bytes; further words have their address in x5
abbrev pub access_line : (near : Bool) → (access : (rs : ℕ) → ℤ → Word) → (slot : ℕ) → List Word
access_line true access slot = access base_register (pos slot -ℤ pos base_offset) ∷ []
access_line false access slot = Lui 5 (upper_of (pos (data_start + slot))) ∷ access 5 (lower_of (pos (data_start + slot))) ∷ []

abbrev pub access_code : (access : (rs : ℕ) → ℤ → Word) → (slot : ℕ) → List Word
access_code access slot = access_line (nat_lt slot 4096) access slot

-- the word at an offset into a register
abbrev pub load_code : (rd slot : ℕ) → List Word
load_code rd slot = access_code (λ rs imm. Lw rd rs imm) slot

-- a register into the word at an offset
abbrev pub store_code : (rs slot : ℕ) → List Word
store_code rs slot = access_code (λ address imm. Sw address rs imm) slot

-- the machine before the word of this number, where a register has this number, and all others but x5 are as before
pub record IsLoaded (k rd : ℕ) (x : ℤ) (s t : MachineState) : Type 0 where
  pub before : IsBefore k t
  pub gives : register t rd ≡ x
  pub others : (n : ℕ) → n ≢ rd → n ≢ 5 → register t n ≡ register s n
  pub memory : t.memory ≡ s.memory
  pub input : t.input ≡ s.input
  pub output : t.output ≡ s.output

-- the same where a word of the memory has it, and all registers but x5 are as before
pub record IsStored (k slot : ℕ) (x : ℤ) (s t : MachineState) : Type 0 where
  pub before : IsBefore k t
  pub others : (n : ℕ) → n ≢ 5 → register t n ≡ register s n
  pub memory : t.memory ≡ with_word_in s.memory slot x
  pub input : t.input ≡ s.input
  pub output : t.output ≡ s.output

abbrev pub LoadsAreDone : Type 0
LoadsAreDone = (code : Code) (k rd slot : ℕ) (s : MachineState) → StandHere code k (load_code rd slot) → IsBefore k s → register s base_register ≡ base → IsSlot s.memory slot → rd ≢ 0
    → (t : MachineState) × Leads code (Running s) (Running t) × IsLoaded (k + length (load_code rd slot)) rd (word_in s.memory slot) s t

abbrev pub StoresAreDone : Type 0
StoresAreDone = (code : Code) (k rs slot : ℕ) (s : MachineState) → StandHere code k (store_code rs slot) → IsBefore k s → register s base_register ≡ base → IsSlot s.memory slot → rs ≢ 5
    → (t : MachineState) × Leads code (Running s) (Running t) × IsStored (k + length (store_code rs slot)) slot (register s rs) s t
