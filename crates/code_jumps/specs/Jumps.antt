-- Jumps and branches by distances in words, near and far.
use Rattle.std.specs.Prelude.{◌≡◌, ◌≢◌, ℕ, ◌+◌, ◌≤◌, ℤ, pos, ◌+ℤ◌, ◌-ℤ◌, ◌*ℤ◌, Bool, true, false, not, if◌then◌else◌, nat_lt, int_lt, List, [], ◌∷◌, length}
use Rattle.std.specs.Ordering.{int_eq}
use Rattle.code_lines.specs.declared.word.Word.{Word}
use Rattle.code_jumps.specs.declared.branch.Test.{Test}
use Rattle.code_jumps.specs.declared.branch.Test.TheVariants.{Equal, Unequal, Less, NotLess}
use Rattle.code_jumps.specs.declared.branch.Reach.{Reach}
use Rattle.code_jumps.specs.declared.branch.Reach.TheVariants.{Short, Middle, Long}
use Rattle.code_lines.specs.Words.{StandHere, Code}
use Rattle.code_lines.specs.Own.{Auipc, Jal, Jalr, Beq, Bne, Blt, Bge}
use Rattle.rv_encode.specs.State.{MachineState, Running, register}
use Rattle.template_runs.specs.Machine.{IsBefore}
use Rattle.code_lines.specs.Pieces.{upper_of, lower_of}
use Rattle.code_lines.specs.Leading.{LeadsLater}

-- the bytes of so many words
abbrev pub bytes_of : ℤ → ℤ
bytes_of distance = pos 4 *ℤ distance

-- A jump by so many words from its own first word. A near one reaches 2^18 words; a far one has its address in x5.
abbrev pub jump_code : (near : Bool) → (distance : ℤ) → List Word
jump_code true distance = Jal 0 (bytes_of distance) ∷ []
jump_code false distance = Auipc 5 (upper_of (bytes_of distance)) ∷ Jalr 0 5 (lower_of (bytes_of distance)) ∷ []

-- ---- tests of two registers

abbrev pub passes : Test → ℤ → ℤ → Bool
passes Equal a b = int_eq a b
passes Unequal a b = not (int_eq a b)
passes Less a b = int_lt a b
passes NotLess a b = not (int_lt a b)

abbrev pub opposite : Test → Test
opposite Equal = Unequal
opposite Unequal = Equal
opposite Less = NotLess
opposite NotLess = Less

abbrev pub branch_by : Test → (rs1 rs2 : ℕ) → ℤ → Word
branch_by Equal rs1 rs2 imm = Beq rs1 rs2 imm
branch_by Unequal rs1 rs2 imm = Bne rs1 rs2 imm
branch_by Less rs1 rs2 imm = Blt rs1 rs2 imm
branch_by NotLess rs1 rs2 imm = Bge rs1 rs2 imm

abbrev over_jump : (near : Bool) → Test → (rs1 rs2 : ℕ) → (distance : ℤ) → List Word
over_jump near test rs1 rs2 distance =
    branch_by (opposite test) rs1 rs2 (bytes_of (pos (1 + length (jump_code near distance)))) ∷ jump_code near (distance -ℤ pos 1)

-- a jump by so many words from its own first word, where two registers pass a test
abbrev pub branch_code : Reach → Test → (rs1 rs2 : ℕ) → (distance : ℤ) → List Word
branch_code Short test rs1 rs2 distance = branch_by test rs1 rs2 (bytes_of distance) ∷ []
branch_code Middle test rs1 rs2 distance = over_jump true test rs1 rs2 distance
branch_code Long test rs1 rs2 distance = over_jump false test rs1 rs2 distance

-- ---- by distances from their ends

-- a jump over so many words behind it
abbrev pub past_code : (near : Bool) → (distance : ℤ) → List Word
past_code near distance = jump_code near (pos (length (jump_code near distance)) +ℤ distance)

-- the test, or its opposite
abbrev pub sensed : (sense : Bool) → Test → Test
sensed true test = test
sensed false test = opposite test

-- a test is passed, or is not, as is wanted
abbrev pub met : (sense : Bool) → Bool → Bool
met true b = b
met false b = not b

-- a jump by so many words from the end of this code, where the test of two registers is passed as is wanted
abbrev pub jump_where : Reach → (sense : Bool) → Test → (rs1 rs2 : ℕ) → (distance : ℤ) → List Word
jump_where reach sense test rs1 rs2 distance =
    branch_code reach (sensed sense test) rs1 rs2 (pos (length (branch_code reach (sensed sense test) rs1 rs2 distance)) +ℤ distance)

-- so far reaches a branch by itself, and over a near jump; conditions have some words of their own
abbrev pub reach_of : (words : ℕ) → Reach
reach_of words = if nat_lt words 600 then Short else (if nat_lt words 200000 then Middle else Long)

abbrev pub is_near : (words : ℕ) → Bool
is_near words = nat_lt words 200000

-- ---- what they do

-- the machine before the word of this number, where all registers but x5 are as before
pub record IsThere (k : ℕ) (s t : MachineState) : Type 0 where
  pub before : IsBefore k t
  pub others : (n : ℕ) → n ≢ 5 → register t n ≡ register s n
  pub memory : t.memory ≡ s.memory
  pub input : t.input ≡ s.input
  pub output : t.output ≡ s.output

-- in at least so many instructions the machine comes to the word of this number
abbrev pub ComesTo : (code : Code) → (least k : ℕ) → MachineState → Type 0
ComesTo code least k s = (t : MachineState) × LeadsLater code least (Running s) (Running t) × IsThere k s t

abbrev pub JumpsAreDone : Type 0
JumpsAreDone = (code : Code) (k to : ℕ) (near : Bool) (distance : ℤ) (s : MachineState) → StandHere code k (jump_code near distance) → IsBefore k s
    → pos to ≡ pos k +ℤ distance → to ≤ 16777216 → ComesTo code 1 to s

-- by the test the machine comes to the one or the other word
abbrev pub ComesBy : (passed : Bool) → (code : Code) → (to next : ℕ) → MachineState → Type 0
ComesBy true code to next s = ComesTo code 1 to s
ComesBy false code to next s = ComesTo code 0 next s

abbrev pub BranchesAreDone : Type 0
BranchesAreDone = (code : Code) (k to : ℕ) (reach : Reach) (test : Test) (rs1 rs2 : ℕ) (distance : ℤ) (s : MachineState)
    → StandHere code k (branch_code reach test rs1 rs2 distance) → IsBefore k s → pos to ≡ pos k +ℤ distance → to ≤ 16777216
    → ComesBy (passes test (register s rs1) (register s rs2)) code to (k + length (branch_code reach test rs1 rs2 distance)) s
