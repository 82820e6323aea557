-- From the steps of a command that reads several files to its course, from the front of a file to the file, and from how a
-- run ended to what is observed of it.
use Rattle.std.proofs.Common.{◌≡◌, ℕ, ◌+◌, ◌<◌, ◌≤◌, ◌⊎◌, ℤ, List, [], ◌∷◌, ◌++◌, Option, Some, None, length, refl, sym, ap, ◌∙◌, subst, inl, inr, arith}
use Rattle.std.proofs.lemmas.List.{length-take, take_all}
use Rattle.sat_base.specs.declared.limits.TheConstants.{SAMPLE_BYTES, SOURCE_BYTES}
use Rattle.sat_base.specs.Observation.{output_of}
use Rattle.image_format.specs.declared.image.Image.{Image}
use Rattle.image_format.specs.Reading.{IsFileOf}
use Rattle.image_format.specs.Rules.{first_refusal}
use Rattle.image_format.proofs.Read.{are_read_back}
use Rattle.image_runs.specs.declared.limits.TheConstants.{IMAGE_BYTES}
use Rattle.image_runs.specs.Observed.{observation_with}
use Rattle.image_runs.proofs.Fronts.{images_fit, fronts_are_refused_alike}
use Rattle.rv_emulator.specs.declared.pause.Pause.{Pause}
use Rattle.rv_emulator.specs.declared.pause.Pause.TheVariants.{Budget, Wrote, Ended, Stopped, Fault}
use Rattle.sample_files.specs.Samples.{sample_bytes}
use Rattle.store_io.specs.Outside.{Files, ReadsFile}
use Rattle.c_typed.specs.declared.typed.Typed.{Typed}
use Rattle.typed_meaning.specs.Observed.{observed}
use Rattle.source_meaning.specs.declared.runner.RunEnd.{RunEnd}
use Rattle.source_meaning.specs.declared.runner.RunEnd.TheVariants as end
use Rattle.source_meaning.specs.Running.{Running, fresh, IsObserved}
use Rattle.source_meaning.specs.Running as source
use Rattle.sat_compile.specs.Accepted.{IsSource}
use Rattle.command_outcomes.specs.declared.outcome.Outcome.{Outcome}
use Rattle.command_outcomes.specs.declared.outcome.Outcome.TheVariants.{NoMemory}
use Rattle.command_words.specs.Command.{Command}
use Rattle.sat_tool.specs.Files.{Input, Output}
use Rattle.sat_tool.specs.Reading.{IsFront, Holds, Lacks}
use Rattle.sat_tool.specs.Reading as reading
use Rattle.sat_tool.specs.Run.{Course, IsTextOf}
use Rattle.sat_tool.specs.Run as run
use Rattle.sat_tool.specs.Commands.{IsUnfit, IsFit}
use Rattle.sat_tool.specs.Input.{IsNoInput, IsInputOf}
use Rattle.sat_tool.specs.Input as inputs
use Rattle.sat_tool.specs.RunImage.{IsNoImage}
use Rattle.sat_tool.specs.RunSource.{IsNotRun}
use Rattle.sat_tool.specs.World.{StoreView}
use Rattle.sat_tool.proofs.Fronts.{cause_of_file}

-- a file of this name, which may have at most so many bytes
abbrev pub input_named : List ℕ → ℕ → Input
input_named name most = record { name = name; most = most }

-- the file of this name with the bytes of these samples
abbrev pub samples_at : List ℕ → List ℤ → Option Output
samples_at name samples = Some (record { name = name; bytes = sample_bytes samples })

-- the file whose front was read
pub file_of : (files : Option Files) (name bytes : List ℕ) (most : ℕ) → ReadsFile files name most bytes
    → (file : List ℕ) × IsTextOf files name file × IsFront most bytes file
file_of None name bytes most read = (bytes, tt, inl refl)
file_of (Some told) name bytes most read = (read.0, read.1, inr read.2)

-- what is judged of the front of a file, where that holds of the file
pub holds : (most : ℕ) (files : Option Files) (name bytes : List ℕ) → ReadsFile files name most bytes → (P : List ℕ → Type 0)
    → ((file : List ℕ) → IsFront most bytes file → P bytes → P file) → P bytes → Holds P files name
holds most files name bytes read P of_file is =
    let file = file_of files name bytes most read in
    record { text = file.0; of = file.1; is = of_file file.0 file.2 is }

pub lacks : (most : ℕ) (name bytes : List ℕ) (old new : StoreView) → ReadsFile old.files name most bytes → (Unfit : List ℕ → Outcome → Type 0)
    → ((file : List ℕ) (outcome : Outcome) → IsFront most bytes file → Unfit bytes outcome → Unfit file outcome)
    → (outcome : Outcome) → Unfit bytes outcome ⊎ (outcome ≡ NoMemory) → Lacks Unfit name old new outcome
lacks most name bytes old new read Unfit of_file outcome (inl judged) =
    let file = file_of old.files name bytes most read in
    reading.refused file.0 file.1 (of_file file.0 outcome file.2 judged)
lacks most name bytes old new read Unfit of_file outcome (inr none) = subst (Lacks Unfit name old new) (sym none) (reading.unread run.wants_memory)

-- a command is over where its next file is lacking
pub over : (command : Command) (input : Input) (inputs : List Input) (texts : List (List ℕ)) (Unfit : List ℕ → Outcome → Type 0) (old new : StoreView) (outcome : Outcome)
    → ((text : List ℕ) → Unfit text outcome → IsUnfit command (texts ++ text ∷ []) outcome) → new.files ≡ old.files
    → Lacks Unfit input.name old new outcome → Course command (input ∷ inputs) texts old new outcome
over command input inputs texts Unfit old new outcome unfit same (reading.unread why) = run.stops why same
over command input inputs texts Unfit old new outcome unfit same (reading.refused text of judged) = run.refuses text of (unfit text judged) same

-- and else it goes on
pub after_reading : (command : Command) (input : Input) (inputs : List Input) (texts : List (List ℕ)) (P : List ℕ → Type 0) (old mid new : StoreView) (outcome : Outcome)
    (held : Holds P old.files input.name) → IsFit command (texts ++ held.text ∷ []) → mid.files ≡ old.files → old.faults ≤ mid.faults
    → Course command inputs (texts ++ held.text ∷ []) mid new outcome → Course command (input ∷ inputs) texts old new outcome
after_reading command input inputs texts P old mid new outcome held fit same later rest = run.reads held.text held.of fit same later rest

-- a command reads a program and an input, and goes on
pub both_read : (command : Command) (first second : Input) (P : List ℕ → Type 0) (given : List ℤ) (old mid late new : StoreView) (outcome : Outcome)
    (held : Holds P old.files first.name) (input : Holds (IsInputOf given) mid.files second.name)
    → IsFit command (held.text ∷ []) → IsFit command (held.text ∷ input.text ∷ [])
    → (mid.files ≡ old.files) × (old.faults ≤ mid.faults) → (late.files ≡ mid.files) × (mid.faults ≤ late.faults)
    → Course command [] (held.text ∷ input.text ∷ []) late new outcome → Course command (first ∷ second ∷ []) [] old new outcome
both_read command first second P given old mid late new outcome held input fit fits to_mid to_late rest =
    after_reading command first (second ∷ []) [] P old mid new outcome held fit to_mid.0 to_mid.1
    (after_reading command second [] (held.text ∷ []) (IsInputOf given) mid late new outcome input fits to_late.0 to_late.1 rest)

-- a front that is not too long is the whole
whole : (most : ℕ) (bytes file : List ℕ) → IsFront most bytes file → length bytes ≤ most → bytes ≡ file
whole most bytes file (inl same) short = same
whole most bytes file (inr front) short =
    let less : length file ≤ most + 1 = omega (arith, ap length front, length-take (most + 1) file) in
    front ∙ take_all (most + 1) file less

-- and one that is too long is that of a file that is
longer : (most : ℕ) (bytes file : List ℕ) → IsFront most bytes file → most < length bytes → most < length file
longer most bytes file (inl same) long = subst (λ b. most < length b) same long
longer most bytes file (inr front) long = omega (arith, ap length front, length-take (most + 1) file)

pub no_image : (bytes file : List ℕ) (outcome : Outcome) → IsFront IMAGE_BYTES bytes file → IsNoImage bytes outcome → IsNoImage file outcome
no_image bytes file outcome (inl same) judged = subst (λ b. IsNoImage b outcome) same judged
no_image bytes file outcome (inr front) judged = record {
  refusal = judged.refusal;
  other = judged.other;
  broken = sym (fronts_are_refused_alike file) ∙ sym (ap first_refusal front) ∙ judged.broken;
  is = judged.is;
}

pub image_of : (image : Image) (bytes file : List ℕ) → IsFront IMAGE_BYTES bytes file → IsFileOf image bytes → IsFileOf image file
image_of image bytes file front of =
    let none : first_refusal bytes ≡ None = ap first_refusal of.spelled ∙ (are_read_back image of.readable).0 in
    subst (IsFileOf image) (whole IMAGE_BYTES bytes file front (images_fit bytes none)) of

pub no_input : (bytes file : List ℕ) (outcome : Outcome) → IsFront SAMPLE_BYTES bytes file → IsNoInput bytes outcome → IsNoInput file outcome
no_input bytes file outcome front (inputs.long many) = inputs.long (longer SAMPLE_BYTES bytes file front many)
no_input bytes file outcome front (inputs.odd few half) = subst (λ b. IsNoInput b outcome) (whole SAMPLE_BYTES bytes file front few) (inputs.odd few half)

pub input_of : (samples : List ℤ) (bytes file : List ℕ) → IsFront SAMPLE_BYTES bytes file → IsInputOf samples bytes → IsInputOf samples file
input_of samples bytes file front are = subst (IsInputOf samples) (whole SAMPLE_BYTES bytes file front are.few) are

pub no_source : (bytes file : List ℕ) (outcome : Outcome) → IsFront SOURCE_BYTES bytes file → IsNotRun bytes outcome → IsNotRun file outcome
no_source bytes file outcome (inl same) judged = subst (λ b. IsNotRun b outcome) same judged
no_source bytes file outcome (inr front) judged = record {
  line = judged.line;
  tells = record {
    refusal = judged.tells.refusal;
    other = judged.tells.other;
    none = (cause_of_file file bytes judged.tells.refusal front judged.tells.none.0, judged.tells.none.1);
    told = judged.tells.told;
  };
  is = judged.is;
}

pub source_of : (typed : Typed) (functions bytes file : List ℕ) → IsFront SOURCE_BYTES bytes file → IsSource bytes typed functions → IsSource file typed functions
source_of typed functions bytes file front of =
    subst (λ b. IsSource b typed functions) (whole SOURCE_BYTES bytes file front of.tree.has.short) of

pub output_with : (pause : Pause) (output : List ℤ) → output_of (observation_with pause output) ≡ output
output_with Budget output = refl
output_with (Wrote sample) output = refl
output_with (Ended overflow count) output = refl
output_with (Stopped site) output = refl
output_with (Fault pc kind) output = refl

pub output_at : (left : RunEnd) (output : List ℤ) → output_of (source.observation_with left output) ≡ output
output_at (end.Ended overflow count) output = refl
output_at (end.Stopped site) output = refl
output_at end.Going output = refl

-- what is observed of a source, by a runner of it
pub seen_by : (typed : Typed) (input : List ℤ) (turns : ℕ) (before after : Running) (left : RunEnd) → before ≡ fresh typed input
    → IsObserved before turns after left → source.observation_with left after.output ≡ observed typed input turns
seen_by typed input turns before after left is seen = seen ∙ ap (λ (r : Running). observed r.source r.input turns) is
