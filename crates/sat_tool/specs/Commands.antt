-- The commands, by what each of them reads and what it comes to.
use Rattle.std.specs.Prelude.{ℕ, ℤ, List, [], ◌∷◌, Option}
use Rattle.sat_base.specs.declared.limits.TheConstants.{SOURCE_BYTES, SAMPLE_BYTES}
use Rattle.command_outcomes.specs.declared.outcome.Outcome.{Outcome}
use Rattle.c_typed.specs.declared.typed.Typed.{Typed}
use Rattle.image_format.specs.declared.image.Image.{Image}
use Rattle.image_format.specs.Reading.{IsFileOf}
use Rattle.sat_compile.specs.Accepted.{IsSource, IsAccepted}
use Rattle.sat_compile.specs.Source.{Source}
use Rattle.image_runs.specs.declared.limits.TheConstants.{IMAGE_BYTES}
use Rattle.sat_tool.specs.Build as build
use Rattle.sat_tool.specs.Input.{IsNoInput, IsInputOf}
use Rattle.sat_tool.specs.RunImage.{IsNoImage, IsRunOfImage}
use Rattle.sat_tool.specs.RunSource.{IsNotRun, IsRunOfSource}
use Rattle.command_words.specs.Command.{Command, Build, RunImage, RunSource}
use Rattle.sat_tool.specs.Files.{Input, Output}

-- the files that a command reads, in order
abbrev pub inputs_of : Command → List Input
inputs_of (Build source image) = record { name = source; most = SOURCE_BYTES } ∷ []
inputs_of (RunImage image input output steps) =
    record { name = image; most = IMAGE_BYTES } ∷ record { name = input; most = SAMPLE_BYTES } ∷ []
inputs_of (RunSource source input output turns) =
    record { name = source; most = SOURCE_BYTES } ∷ record { name = input; most = SAMPLE_BYTES } ∷ []

-- the last of these texts is refused, and the run is over
abbrev pub IsUnfit : Command → List (List ℕ) → Outcome → Type 0
IsUnfit (Build source image) (text ∷ []) outcome = build.IsUnfit text outcome
IsUnfit (Build source image) texts outcome = ⊥
IsUnfit (RunImage image input output steps) (text ∷ []) outcome = IsNoImage text outcome
IsUnfit (RunImage image input output steps) (first ∷ text ∷ []) outcome = IsNoInput text outcome
IsUnfit (RunImage image input output steps) texts outcome = ⊥
IsUnfit (RunSource source input output turns) (text ∷ []) outcome = IsNotRun text outcome
IsUnfit (RunSource source input output turns) (first ∷ text ∷ []) outcome = IsNoInput text outcome
IsUnfit (RunSource source input output turns) texts outcome = ⊥

-- the last of these texts is what is asked for, and the command goes on
abbrev pub IsFit : Command → List (List ℕ) → Type 0
IsFit (Build source image) (text ∷ []) = (accepted : Source) × IsAccepted text accepted
IsFit (Build source image) texts = ⊥
IsFit (RunImage image input output steps) (text ∷ []) = (read : Image) × IsFileOf read text
IsFit (RunImage image input output steps) (first ∷ text ∷ []) = (samples : List ℤ) × IsInputOf samples text
IsFit (RunImage image input output steps) texts = ⊥
IsFit (RunSource source input output turns) (text ∷ []) = (typed : Typed) × (functions : List ℕ) × IsSource text typed functions
IsFit (RunSource source input output turns) (first ∷ text ∷ []) = (samples : List ℤ) × IsInputOf samples text
IsFit (RunSource source input output turns) texts = ⊥

-- the command comes to this on its texts, once its file is written, if it writes one
abbrev pub IsDone : Command → List (List ℕ) → Option Output → Outcome → Type 0
IsDone (Build source image) (text ∷ []) output outcome = build.IsDone text image output outcome
IsDone (Build source image) texts output outcome = ⊥
IsDone (RunImage image input target steps) (first ∷ text ∷ []) output outcome = IsRunOfImage first text target steps output outcome
IsDone (RunImage image input target steps) texts output outcome = ⊥
IsDone (RunSource source input target turns) (first ∷ text ∷ []) output outcome = IsRunOfSource first text target turns output outcome
IsDone (RunSource source input target turns) texts output outcome = ⊥
