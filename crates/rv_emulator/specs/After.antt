-- The machine after any calls of `run`.
use Rattle.std.specs.Prelude.{◌≡◌, ℕ, ◌+◌, ◌-◌, ℤ, List, [], ◌∷◌, ◌++◌}
use Rattle.image_format.specs.declared.image.Image.{Image}
use Rattle.image_format.specs.Runs.{machine_after}
use Rattle.rv_emulator.specs.declared.pause.Pause.{Pause}
use Rattle.rv_emulator.specs.Pauses.{Emulation, IsRun, loaded_with, samples_of, with_output}

-- the machine is that of the image on the input after m instructions, which wrote this
pub record IsAfter (image : Image) (input : List ℤ) (m : ℕ) (output : List ℤ) (machine : Emulation) : Type 0 where
  pub code : machine.code ≡ image.code
  pub here : machine_after image input m ≡ with_output machine.moment output

-- whatever was run so far, n instructions more were carried out, and these samples were written by them
abbrev pub GoesOn : (old new : Emulation) → (n : ℕ) → (samples : List ℤ) → Type 0
GoesOn old new n samples = (image : Image) (input : List ℤ) (m : ℕ) (output : List ℤ)
    → IsAfter image input m output old → IsAfter image input (m + n) (output ++ samples) new

-- a call of `run`: how many instructions were allowed and left, the answer, and the machine after it
pub record Call : Type 0 where
  pub before : ℕ
  pub left : ℕ
  pub pause : Pause
  pub machine : Emulation

-- calls, one after the other, from one machine to another
abbrev pub AreCalls : Emulation → List Call → Emulation → Type 0
AreCalls from [] to = from ≡ to
AreCalls from (call ∷ calls) to = IsRun from call.machine call.before call.left call.pause × AreCalls call.machine calls to

-- by how much they lowered what was allowed, in all
abbrev pub carried_out : List Call → ℕ
carried_out [] = 0
carried_out (call ∷ calls) = call.before - call.left + carried_out calls

-- the samples that they told, in order
abbrev pub told : List Call → List ℤ
told [] = []
told (call ∷ calls) = samples_of call.pause ++ told calls

-- after any calls the machine is that of the image after as many instructions as they lowered what was allowed, and
-- the samples that they told are its output
abbrev pub CallsFollow : Type 0
CallsFollow = (image : Image) (input : List ℤ) (calls : List Call) (machine : Emulation) → AreCalls (loaded_with image input) calls machine
    → IsAfter image input (carried_out calls) (told calls) machine
