-- The machine does over the registers of any site what the course of a template does.
use Rattle.std.specs.Prelude.{◌≡◌, ◌≢◌, ℕ, ◌+◌, ◌≤◌, ◌==◌, ℤ, pos, Bool, true, false, ◌||◌, ◌&&◌, if◌then◌else◌, List, [], All, length}
use Rattle.std.specs.Int.{w32, cast_unsigned}
use Rattle.rv_encode.specs.declared.instruction.Instr.{Instr}
use Rattle.rv_encode.specs.declared.register.TheConstants.{OVERFLOW}
use Rattle.rv_encode.specs.State.{MachineState, Moment, Running, Over, Stopped, register}
use Rattle.rv_encode.specs.Runs.{pc_of, moment_after, Stand}
use Rattle.rv_encode.specs.Words.{Fits}
use Rattle.template_runs.specs.Courses.{Course, Final, Ends, Stops, Lost, is_scratch, is_call, runs}
use Rattle.template_runs.specs.declared.registers.Registers.{Registers}
use Rattle.template_runs.specs.Renaming.{AreInRange, AreApart, all_over}
use Rattle.template_runs.specs.Visits.{visited, Ascend}

-- instructions stand in the code from the word of this number on, with fields in their ranges
pub record StandHere (code : List ℕ) (k : ℕ) (instrs : List Instr) : Type 0 where
  pub fit : All Fits instrs
  pub stand : Stand code k instrs
  pub within : k + length instrs ≤ 16777216

-- a machine before the word of this number: x0 is 0
pub record IsBefore (k : ℕ) (s : MachineState) : Type 0 where
  pub pc : s.pc ≡ pc_of k
  pub count : length s.registers ≡ 32
  pub zero_is : register s 0 ≡ pos 0

-- What words leave of a machine before the word of this number: a value in the register of the result, Overflow, the
-- samples that are left, and all else but the registers between and, where calls may be made, x10 and x17.
pub record Leaves (result : ℕ) (calls : Bool) (end : ℕ) (s t : MachineState) (value flag : ℤ) (input : List ℤ) : Type 0 where
  pub pc : t.pc ≡ pc_of end
  pub count : length t.registers ≡ 32
  pub gives : register t result ≡ value
  pub overflow : register t OVERFLOW ≡ flag
  pub others : (n : ℕ) → n ≢ result → n ≢ OVERFLOW → is_scratch n ≡ false → (calls && is_call n) ≡ false → register t n ≡ register s n
  pub left : t.input ≡ input
  pub memory : t.memory ≡ s.memory
  pub output : t.output ≡ s.output

-- the moment is where a course comes, of words that end before the word of this number; of a course that is lost nothing
-- is said
abbrev pub IsFinal : (result : ℕ) → (calls : Bool) → (end : ℕ) → MachineState → Moment → Final → Type 0
IsFinal result calls end s at (Ends value flag input) =
    (t : MachineState) × (at ≡ Running t) × Leaves result calls end s t value flag input
IsFinal result calls end s at (Stops site) = at ≡ Over (Stopped (cast_unsigned w32 site)) s.output
IsFinal result calls end s at Lost = Unit {0}

-- the operands in x11 to x13, Overflow in x27, and x8 where the result is in the place of the first operand
abbrev pub begun : (apart : ℕ → Bool) → (calls in_place : Bool) → (a b c flag : ℤ) → List ℤ → Course
begun apart calls in_place a b c flag input = record {
  value = λ n. if n == 8 then a else (if n == 11 then a else (if n == 12 then b else (if n == 13 then c else (if n == 27 then flag else pos 0))));
  known = λ n. (n == 0) || (n == 11) || (n == 12) || (n == 13) || (n == 27) || (in_place && (n == 8));
  apart = apart;
  calls = calls;
  written = [];
  input = input;
}

-- the course of a template that begins in this machine
abbrev pub course_of : Registers → (apart : ℕ → Bool) → (calls in_place : Bool) → MachineState → List Instr → Final
course_of regs apart calls in_place s instrs =
    runs instrs 0 (begun apart calls in_place (register s regs.first) (register s regs.second) (register s regs.third) (register s OVERFLOW) s.input)

-- Where the course of a template ends, the machine comes, in at most as many instructions as there are words, of which
-- each stands behind those before it. The course may know of operands that they are apart from the result, and of the first that the result is in its place.
abbrev pub CoursesAreRuns : Type 0
CoursesAreRuns = (regs : Registers) (apart : ℕ → Bool) (calls in_place : Bool) (instrs : List Instr) (code : List ℕ) (k : ℕ) (s : MachineState)
    → AreInRange regs → AreApart regs apart → (in_place ≡ true → regs.result ≡ regs.first)
    → StandHere code k (all_over regs instrs) → IsBefore k s
    → (n : ℕ) × (n ≤ length instrs) × Ascend k (k + length instrs) (visited code n (Running s))
    × IsFinal regs.result calls (k + length instrs) s (moment_after code n (Running s)) (course_of regs apart calls in_place s instrs)
