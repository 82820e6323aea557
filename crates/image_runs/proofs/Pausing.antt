-- What a pause of the machine tells of the whole run.
use Rattle.std.proofs.Common.{◌≡◌, ◌<◌, ◌≤◌, ℕ, zero, suc, ◌+◌, ◌-◌, ℤ, List, [], ◌∷◌, refl, sym, ap, ◌∙◌, arith}
use Rattle.rv_encode.specs.State.{Moment, Running, Over, Ending, observation_of, written}
use Rattle.rv_encode.specs.State as machine
use Rattle.rv_encode.specs.Runs.{moment_after}
use Rattle.rv_encode.proofs.Runs.{moment_after_add, over_stays}
use Rattle.image_format.specs.declared.image.Image.{Image}
use Rattle.image_format.specs.Runs.{loaded, machine_after, machine_observed}
use Rattle.rv_emulator.specs.declared.pause.Pause.{Pause}
use Rattle.rv_emulator.specs.declared.pause.Pause.TheVariants.{Budget, Wrote, Ended, Stopped, Fault}
use Rattle.rv_emulator.specs.Pauses.{Emulation, IsRun, PauseFits, IsRunning, with_output}
use Rattle.image_runs.specs.Observed.{observation_with, TellsSample}

written_with : (at : Moment) (output : List ℤ) → written (with_output at output) ≡ output
written_with (Running s) output = refl
written_with (Over ending before) output = refl

-- a sample is written by an instruction
pub writing_steps : (old new : Emulation) (before left : ℕ) (pause : Pause) → TellsSample pause → IsRun old new before left pause → left < before
writing_steps old new before left Budget tells run = absurd tells
writing_steps old new before left (Ended overflow count) tells run = absurd tells
writing_steps old new before left (Stopped site) tells run = absurd tells
writing_steps old new before left (Fault pc kind) tells run = absurd tells
writing_steps old new before left (Wrote sample) tells run = by (before - left) refl
  where
    by : (n : ℕ) → before - left ≡ n → left < before
    by zero none =
        let same : with_output old.moment [] ≡ with_output new.moment (sample ∷ []) =
        ap (λ k. moment_after old.code k (with_output old.moment [])) (sym none) ∙ run.leads [] in
        let nothing : [] ≡ sample ∷ [] = sym (written_with old.moment []) ∙ ap written same ∙ written_with new.moment (sample ∷ []) in
        cc
    by (suc n) some = omega arith

-- a run that is over stays so
observed_over : (image : Image) (input : List ℤ) (steps left : ℕ) (ending : Ending) (output : List ℤ) → left ≤ steps
    → machine_after image input (steps - left) ≡ Over ending output → machine_observed image input steps ≡ observation_of (Over ending output)
observed_over image input steps left ending output less is =
    let whole : steps ≡ (steps - left) + left = omega arith in
    let start = Running (loaded image input) in
    ap (machine_observed image input) whole
    ∙ ap observation_of (moment_after_add image.code (steps - left) left start ∙ ap (moment_after image.code left) is ∙ over_stays image.code left ending output)

running_observed : (at : Moment) (output : List ℤ) → IsRunning at → observation_of (with_output at output) ≡ observation_with Budget output
running_observed (Running s) output running = refl
running_observed (Over ending before) output running = absurd running

pub observed : (image : Image) (input : List ℤ) (steps left : ℕ) (output : List ℤ) (at : Moment) (pause : Pause) → left ≤ steps
    → machine_after image input (steps - left) ≡ with_output at output → PauseFits pause at left → (TellsSample pause → ⊥)
    → machine_observed image input steps ≡ observation_with pause output
observed image input steps left output at Budget less is fits other =
    let all : steps ≡ steps - left = omega (arith, fits.1) in
    ap (machine_observed image input) all ∙ ap observation_of is ∙ running_observed at output fits.0
observed image input steps left output at (Wrote sample) less is fits other = absurd (other tt)
observed image input steps left output at (Ended overflow count) less is fits other =
    observed_over image input steps left (machine.Ended overflow count) output less (is ∙ ap (λ m. with_output m output) fits)
observed image input steps left output at (Stopped site) less is fits other =
    observed_over image input steps left (machine.Stopped site) output less (is ∙ ap (λ m. with_output m output) fits)
observed image input steps left output at (Fault pc kind) less is fits other =
    observed_over image input steps left (machine.Faulted pc kind) output less (is ∙ ap (λ m. with_output m output) fits)
