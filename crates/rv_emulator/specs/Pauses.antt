-- What one call of `run` does, and what it answers.
use Rattle.std.specs.Prelude.{◌≡◌, ℕ, ◌-◌, ◌<◌, ◌≤◌, ℤ, List, [], ◌∷◌, ◌++◌, Option, Some, None}
use Rattle.rv_encode.specs.State as machine
use Rattle.rv_encode.specs.State.{MachineState, Moment, Running, Over}
use Rattle.rv_encode.specs.Runs.{moment_after}
use Rattle.image_format.specs.declared.image.Image.{Image}
use Rattle.image_format.specs.Runs.{loaded}
use Rattle.rv_emulator.specs.declared.state.Hart.{Hart}
use Rattle.rv_emulator.specs.declared.state.Ending.{Ending}
use Rattle.rv_emulator.specs.declared.pause.Pause.{Pause}
use Rattle.rv_emulator.specs.declared.pause.Pause.TheVariants.{Budget, Wrote, Ended, Stopped, Fault}
use Rattle.rv_emulator.specs.Endings.{ending_of}
use Rattle.rv_emulator.specs.Steps.{state_of}

-- A machine, as its callers see it: its code, and the moment at which it is. The machine keeps nothing of what it
-- wrote, so the moment has no output; it is told in answers.
pub record Emulation : Type 0 where
  pub code : List ℕ
  pub moment : Moment

-- an image before its first instruction
abbrev pub loaded_with : Image → List ℤ → Emulation
loaded_with image input = record { code = image.code; moment = Running (loaded image input) }

-- the moment of the fields
abbrev pub moment_with : Hart → Option Ending → Moment
moment_with hart None = Running (state_of hart [])
moment_with hart (Some ending) = Over (ending_of ending) []

-- the moment, where this was written
abbrev pub with_output : Moment → List ℤ → Moment
with_output (Running s) output = Running (record s { output = output })
with_output (Over ending none) output = Over ending output

-- the samples that an answer tells
abbrev pub samples_of : Pause → List ℤ
samples_of (Wrote sample) = sample ∷ []
samples_of pause = []

-- the machine runs on
abbrev pub IsRunning : Moment → Type 0
IsRunning (Running s) = Unit {0}
IsRunning (Over ending output) = ⊥

-- an answer fits the moment, and what is left of the instructions that were allowed
abbrev pub PauseFits : Pause → Moment → ℕ → Type 0
PauseFits Budget at left = IsRunning at × (left ≡ 0)
PauseFits (Wrote sample) at left = IsRunning at
PauseFits (Ended overflow count) at left = at ≡ Over (machine.Ended overflow count) []
PauseFits (Stopped site) at left = at ≡ Over (machine.Stopped site) []
PauseFits (Fault pc kind) at left = at ≡ Over (machine.Faulted pc kind) []

-- the machine runs on, and nothing was written
abbrev pub IsQuiet : Moment → Type 0
IsQuiet at = (s : MachineState) × (at ≡ Running s) × (s.output ≡ [])

-- A call that began with `before` instructions allowed and left `left` of them.
pub record IsRun (old new : Emulation) (before left : ℕ) (pause : Pause) : Type 0 where
  pub same_code : new.code ≡ old.code
  pub no_more : left ≤ before
  -- the machine is where so many instructions lead, and what it wrote on the way is what the answer tells
  pub leads : (output : List ℤ) → moment_after old.code (before - left) (with_output old.moment output) ≡ with_output new.moment (output ++ samples_of pause)
  -- until the last of them it ran on and wrote nothing
  pub quiet : (k : ℕ) → k < before - left → IsQuiet (moment_after old.code k (with_output old.moment []))
  pub fits : PauseFits pause new.moment left
