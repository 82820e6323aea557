-- What `satc run-image IMG IN OUT STEPS` and `satc run-source SRC IN OUT TURNS` promise over a store and a sink that tell
-- what they hold, where no fault of theirs is counted in the run.
use Rattle.std.specs.Prelude.{◌≡◌, ◌≢◌, ℕ, ◌≤◌, ◌⊎◌, ℤ, List, ◌++◌, length, Some}
use Rattle.std.specs.FinMap as map
use Rattle.sat_base.specs.declared.limits.TheConstants.{SAMPLE_BYTES}
use Rattle.sat_base.specs.Observation.{Observation, output_of}
use Rattle.c_typed.specs.declared.typed.Typed.{Typed}
use Rattle.typed_meaning.specs.Observed.{observed}
use Rattle.image_format.specs.declared.image.Image.{Image}
use Rattle.image_format.specs.ImageBytes.{image_bytes}
use Rattle.image_format.specs.Readable.{IsReadable}
use Rattle.image_format.specs.Runs.{machine_observed}
use Rattle.sample_files.specs.Reading.{HaveSixteenBits}
use Rattle.sample_files.specs.Samples.{sample_bytes}
use Rattle.sat_compile.specs.Accepted.{IsSource}
use Rattle.sat_compile.specs.Causes.{TellsNoSource}
use Rattle.sat_compile.specs.Promise.{Compiles}
use Rattle.sat_compile.specs.Source.{Source}
use Rattle.store_io.specs.Outside.{Files}
use Rattle.command_outcomes.specs.Outcomes.{outcome_of}
use Rattle.command_outcomes.specs.RunLines.{image_stop_line, source_stop_line}
use Rattle.command_outcomes.specs.Statuses.{status_of, text_of}
use Rattle.command_words.specs.Command.{Command, RunImage, RunSource, IsCommand}
use Rattle.sat_tool.specs.Headline.{IsHonest}
use Rattle.sat_tool.specs.World.{World}

-- the words ask for such a run, from files that hold this text of a program and these samples
pub record AsksForRun (words : List (List ℕ)) (files : Files) (run_of : (program input : List ℕ) → Command) (text : List ℕ) (samples : List ℤ) : Type 0 where
  pub program_name : List ℕ
  pub input_name : List ℕ
  pub asked : IsCommand words (run_of program_name input_name)
  pub program_held : map.get files program_name ≡ Some text
  pub wide : HaveSixteenBits samples
  pub few : length (sample_bytes samples) ≤ SAMPLE_BYTES
  pub input_held : map.get files input_name ≡ Some (sample_bytes samples)

-- The output of what was observed is written, every other file is as before, and status and line are those of the
-- observation, where such a line tells of a stop.
pub record IsRunAs (files : Files) (written : List ℕ) (stop_line : ℕ → List ℕ) (target : List ℕ) (seen : Observation) (new : World) (status : ℕ) : Type 0 where
  pub status_is : status ≡ status_of (outcome_of stop_line seen)
  pub file_is : new.store.files ≡ Some (map.insert files target (sample_bytes (output_of seen)))
  pub line : List ℕ
  pub told : text_of (outcome_of stop_line seen) ≡ Some line
  pub line_is : new.sink.written ≡ Some (written ++ line)

-- an image is run, and of one that was made of a source the machine never faults
abbrev pub RunsImages : List (List ℕ) → World → World → ℕ → Type 0
RunsImages words old new status =
    (files : Files) (written : List ℕ) (image : Image) (samples : List ℤ) (target : List ℕ) (steps : ℕ)
    → IsHonest files written old new → IsReadable image
    → AsksForRun words files (λ program input. RunImage program input target steps) (image_bytes image) samples
    → (status ≡ 3)
    ⊎ (IsRunAs files written (image_stop_line image.sites) target (machine_observed image samples steps) new status
    × ((source : Source) → Compiles source image → status ≢ 8))

-- a source is run, whatever it is, and never faults
abbrev pub RunsSources : List (List ℕ) → World → World → ℕ → Type 0
RunsSources words old new status =
    (files : Files) (written text : List ℕ) (typed : Typed) (functions : List ℕ) (samples : List ℤ) (target : List ℕ) (turns : ℕ)
    → IsHonest files written old new → IsSource text typed functions
    → AsksForRun words files (λ program input. RunSource program input target turns) text samples
    → (status ≡ 3)
    ⊎ (IsRunAs files written (source_stop_line typed.sites) target (observed typed samples turns) new status × (status ≢ 8))

-- the words ask to run a file that holds this text as a source
pub record AsksToRunSource (words : List (List ℕ)) (files : Files) (text : List ℕ) : Type 0 where
  pub name : List ℕ
  pub input : List ℕ
  pub output : List ℕ
  pub turns : ℕ
  pub asked : IsCommand words (RunSource name input output turns)
  pub held : map.get files name ≡ Some text

abbrev pub HasNoSource : List ℕ → Type 0
HasNoSource text = (typed : Typed) (functions : List ℕ) → IsSource text typed functions → ⊥

-- Any other text is refused, whatever its input: the status is 1, the files are as before, and the line that tells why
-- is put.
abbrev pub RefusesToRunOthers : List (List ℕ) → World → World → ℕ → Type 0
RefusesToRunOthers words old new status =
    (files : Files) (written text : List ℕ)
    → IsHonest files written old new → AsksToRunSource words files text → HasNoSource text
    → (status ≡ 3)
    ⊎ ((status ≡ 1) × (new.store.files ≡ Some files)
    × ((line : List ℕ) × TellsNoSource text line × (new.sink.written ≡ Some (written ++ line))))
