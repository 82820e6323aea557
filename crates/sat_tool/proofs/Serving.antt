-- From the steps of `build` to the course of the command.
use Rattle.std.proofs.Common.{◌≡◌, ℕ, ◌+◌, ◌≤◌, List, [], Option, Some, None, Result, Ok, Err, take, sym, ◌∙◌, subst, inl, inr}
use Rattle.sat_base.specs.declared.limits.TheConstants.{SOURCE_BYTES}
use Rattle.store_io.specs.Outside.{Files, ReadsFile}
use Rattle.command_outcomes.specs.declared.outcome.Outcome.{Outcome}
use Rattle.sat_tool.specs.Build.{IsUnfit, IsDone}
use Rattle.command_words.specs.Command.{Build}
use Rattle.sat_tool.specs.Commands.{inputs_of}
use Rattle.sat_tool.specs.Files.{Output}
use Rattle.sat_tool.specs.Outcomes.{InAnyCase, BuildsText}
use Rattle.sat_tool.specs.Outcomes as outcomes
use Rattle.sat_tool.specs.Run.{Course, IsTextOf}
use Rattle.sat_tool.specs.Run as run
use Rattle.sat_tool.specs.World.{StoreView}
use Rattle.sat_tool.proofs.Fronts.{shown_of_file, image_of_file}

pub in_any_case : (served : Result Outcome Outcome) (P Q : Outcome → Type 0) → ((outcome : Outcome) → P outcome → Q outcome) → InAnyCase served P → InAnyCase served Q
in_any_case (Ok outcome) P Q weaker p = weaker outcome p
in_any_case (Err outcome) P Q weaker p = weaker outcome p

-- the text of the file whose front was read, and what holds of it if it holds of the front
text_read : (P : List ℕ → Type 0) (files : Option Files) (name bytes : List ℕ)
    → ((file : List ℕ) → bytes ≡ take (SOURCE_BYTES + 1) file → P bytes → P file)
    → ReadsFile files name SOURCE_BYTES bytes → P bytes → (text : List ℕ) × IsTextOf files name text × P text
text_read P None name bytes of_file read p = (bytes, tt, p)
text_read P (Some told) name bytes of_file read p = (read.0, read.1, of_file read.0 read.2 p)

unfit_of_file : (outcome : Outcome) (bytes file : List ℕ) → bytes ≡ take (SOURCE_BYTES + 1) file → IsUnfit bytes outcome → IsUnfit file outcome
unfit_of_file outcome bytes file front unfit = record { line = unfit.line; shown = shown_of_file file bytes unfit.line front unfit.shown; is = unfit.is }

done_of_file : (target : List ℕ) (output : Option Output) (outcome : Outcome) (bytes file : List ℕ) → bytes ≡ take (SOURCE_BYTES + 1) file
    → IsDone bytes target output outcome → IsDone file target output outcome
done_of_file target output outcome bytes file front done =
    record { image = done.image; of = image_of_file file bytes done.image front done.of; writes = done.writes; is = done.is }

module _ (source target bytes : List ℕ) (old mid new : StoreView) (read : ReadsFile old.files source SOURCE_BYTES bytes)
    (same : mid.files ≡ old.files) (later : old.faults ≤ mid.faults) where
  pub serves : (outcome : Outcome) → BuildsText bytes target mid new outcome → Course (Build source target) (inputs_of (Build source target)) [] old new outcome
  serves outcome (outcomes.stops (inl unfit) kept) =
      let text = text_read (λ b. IsUnfit b outcome) old.files source bytes (unfit_of_file outcome bytes) read unfit in
      run.refuses text.0 text.1 text.2 (kept ∙ same)
  serves outcome (outcomes.stops (inr none) kept) =
      subst (Course (Build source target) (inputs_of (Build source target)) [] old new) (sym none) (run.stops run.wants_memory (kept ∙ same))
  serves outcome (outcomes.writes {output = output} {done = done} is write) =
      let text = text_read (λ b. IsDone b target (Some output) done) old.files source bytes (done_of_file target (Some output) done bytes) read is in
      run.reads text.0 text.1 (text.2.of.source, text.2.of.accepted) same later (run.writes text.2 write)
