-- One call of `run` after the other.
use Rattle.std.proofs.Common.{◌≡◌, ℕ, ◌+◌, ◌-◌, ℤ, List, [], ◌∷◌, ◌++◌, refl, sym, ap, ◌∙◌, subst, arith, append-nil, append_assoc}
use Rattle.rv_encode.specs.State.{Running}
use Rattle.rv_encode.specs.Runs.{moment_after}
use Rattle.rv_encode.proofs.Runs.{moment_after_add}
use Rattle.image_format.specs.declared.image.Image.{Image}
use Rattle.image_format.specs.Runs.{loaded}
use Rattle.rv_emulator.specs.declared.pause.Pause.{Pause}
use Rattle.rv_emulator.specs.After.{IsAfter, GoesOn, Call, AreCalls, carried_out, told, CallsFollow}
use Rattle.rv_emulator.specs.Pauses.{Emulation, IsRun, loaded_with, samples_of, with_output}

pub run_goes_on : (old new : Emulation) (before left : ℕ) (pause : Pause) → IsRun old new before left pause → GoesOn old new (before - left) (samples_of pause)
run_goes_on old new before left pause run image input m output after =
    let n = before - left in
    record {
      code = run.same_code ∙ after.code;
      here =
          moment_after_add image.code m n (Running (loaded image input))
          ∙ ap (moment_after image.code n) after.here
          ∙ ap (λ code. moment_after code n (with_output old.moment output)) (sym after.code)
          ∙ run.leads output;
    }

pub first_after : (image : Image) (input : List ℤ) (machine : Emulation) → machine ≡ loaded_with image input → IsAfter image input 0 [] machine
first_after image input machine is = subst (IsAfter image input 0 []) (sym is) (record { code = refl; here = refl })

-- the same by other words
after_as : (image : Image) (input : List ℤ) (machine : Emulation) (m n : ℕ) (xs ys : List ℤ) → m ≡ n → xs ≡ ys → IsAfter image input m xs machine → IsAfter image input n ys machine
after_as image input machine m n xs ys count output after =
    subst (λ k. IsAfter image input k ys machine) count (subst (λ l. IsAfter image input m l machine) output after)

calls_go_on : (image : Image) (input : List ℤ) (calls : List Call) (from to : Emulation) (m : ℕ) (output : List ℤ) → AreCalls from calls to
    → IsAfter image input m output from → IsAfter image input (m + carried_out calls) (output ++ told calls) to
calls_go_on image input [] from to m output same after =
    after_as image input to m (m + 0) output (output ++ []) (omega arith) (sym (append-nil output)) (subst (IsAfter image input m output) same after)
calls_go_on image input (call ∷ calls) from to m output made after =
    let n = call.before - call.left in
    let samples = samples_of call.pause in
    let next = run_goes_on from call.machine call.before call.left call.pause made.0 image input m output after in
    after_as image input to (m + n + carried_out calls) (m + (n + carried_out calls)) ((output ++ samples) ++ told calls) (output ++ (samples ++ told calls))
    (omega arith) (append_assoc output samples (told calls)) (calls_go_on image input calls call.machine to (m + n) (output ++ samples) made.1 next)

pub calls_follow : CallsFollow
calls_follow image input calls machine made =
    after_as image input machine (0 + carried_out calls) (carried_out calls) (told calls) (told calls) (omega arith) refl
    (calls_go_on image input calls (loaded_with image input) machine 0 [] made (first_after image input (loaded_with image input) refl))
