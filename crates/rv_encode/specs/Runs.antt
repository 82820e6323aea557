-- Runs of the machine over the words of a code.
use Rattle.std.specs.Prelude.{◌≡◌, ℕ, zero, suc, ◌+◌, ◌-◌, ◌*◌, ◌/◌, ◌≤◌, ℤ, List, [], ◌∷◌, ◌++◌, nat_lt, if◌then◌else◌, Option, Some, None, slice_get}
use Rattle.sat_base.specs.declared.machine_fault.MachineFault.TheVariants.{Word, Fetch}
use Rattle.rv_encode.specs.declared.instruction.Instr.{Instr}
use Rattle.rv_encode.specs.Decoding.{decoded}
use Rattle.rv_encode.specs.Words.{encoded}
use Rattle.rv_encode.specs.State.{MachineState, Moment, Running, Over, code_start}
use Rattle.rv_encode.specs.Effects.{faults, effect_of}

-- the pc of the word of this number
abbrev pub pc_of : ℕ → ℕ
pc_of k = code_start + 4 * k

-- the word at a pc, or none where the pc lies outside the code
abbrev pub fetched : List ℕ → ℕ → Option ℕ
fetched code pc = if nat_lt pc code_start then None else slice_get code ((pc - code_start) / 4)

-- what happens at a word that was fetched, and at a word that is or is not in the table
abbrev pub carried_out : Option Instr → MachineState → Moment
carried_out None s = faults s Word
carried_out (Some instr) s = effect_of instr s

abbrev pub executed : Option ℕ → MachineState → Moment
executed None s = faults s Fetch
executed (Some word) s = carried_out (decoded word) s

-- one step of the machine over this code
abbrev pub stepped : List ℕ → MachineState → Moment
stepped code s = executed (fetched code s.pc) s

-- one instruction on, unless the run is over
abbrev pub next_moment : List ℕ → Moment → Moment
next_moment code (Running s) = stepped code s
next_moment code (Over ending output) = Over ending output

-- at most n instructions on; the one that ends, stops or faults counts as one of them
abbrev pub moment_after : List ℕ → ℕ → Moment → Moment
moment_after code zero at = at
moment_after code (suc n) at = moment_after code n (next_moment code at)

-- the one list begins the other
abbrev pub IsPrefix : List ℤ → List ℤ → Type 0
IsPrefix front whole = (rest : List ℤ) × (whole ≡ front ++ rest)

-- From the one moment the machine comes to the other: where that one leads in some number of instructions, this one
-- leads too, in no fewer.
abbrev pub Leads : List ℕ → Moment → Moment → Type 0
Leads code from to = (k : ℕ) → (j : ℕ) × (k ≤ j) × (moment_after code j from ≡ moment_after code k to)

-- these instructions stand in the code from the word of this number on
abbrev pub Stand : List ℕ → ℕ → List Instr → Type 0
Stand code k [] = Unit {0}
Stand code k (instr ∷ instrs) = (slice_get code k ≡ Some (encoded instr)) × Stand code (k + 1) instrs
