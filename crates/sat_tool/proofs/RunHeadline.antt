-- What a run of the program says of `run-image` and of `run-source` over a store and a sink that tell what they hold and
-- count no fault.
use Rattle.std.proofs.Common.{◌≡◌, ◌≢◌, ℕ, ℤ, pos, negsuc, ◌≤ℤ◌, get_or, ◌⊎◌, List, [], ◌∷◌, ◌++◌, Some, None, refl, sym, ap, ◌∙◌, subst, inl, inr, ⊎_elim, arith}
use Rattle.std.proofs.lemmas.Int.{ints}
use Rattle.std.proofs.lemmas.Option.{none-some}
use Rattle.std.specs.FinMap as map
use Rattle.std.specs.Int.{w16}
use Rattle.std.specs.Int.RustNames.{FitsSigned}
use Rattle.sat_base.specs.declared.limits.TheConstants.{SAMPLE_BYTES, SOURCE_BYTES}
use Rattle.sat_base.specs.declared.machine_fault.MachineFault.{MachineFault}
use Rattle.sat_base.specs.Observation.{Observation, End, Stop, Going, Fault}
use Rattle.c_typed.specs.declared.typed.Typed.{Typed}
use Rattle.source_runs.specs.Runs as runs
use Rattle.typed_meaning.specs.Observed.{observed, observation_of}
use Rattle.typed_meaning.specs.Observed as meaning
use Rattle.image_format.specs.declared.image.Image.{Image}
use Rattle.image_format.specs.ImageBytes.{image_bytes}
use Rattle.image_format.specs.Readable.{IsReadable}
use Rattle.image_format.specs.RunsAlike.{AreSamples}
use Rattle.image_format.specs.Runs.{machine_observed}
use Rattle.image_format.proofs.Read.{have_one_spelling}
use Rattle.image_runs.specs.declared.limits.TheConstants.{IMAGE_BYTES}
use Rattle.sample_files.specs.Reading.{HaveSixteenBits}
use Rattle.sample_files.specs.Samples.{sample_bytes}
use Rattle.sample_files.proofs.Bytes as samples
use Rattle.sat_compile.specs.Accepted.{IsSource}
use Rattle.sat_compile.specs.Causes.{TellsNoSource}
use Rattle.sat_compile.specs.Promise.{Compiles}
use Rattle.sat_compile.specs.Source.{Source}
use Rattle.sat_compile.proofs.Accepted.{one_tied_source, no_source_not_told}
use Rattle.store_io.specs.Outside.{Files, IsCalm, IsMissing, files_with}
use Rattle.command_outcomes.specs.declared.outcome.Outcome.{Outcome}
use Rattle.command_outcomes.specs.Outcomes.{outcome_of}
use Rattle.command_outcomes.specs.RunLines.{image_stop_line, source_stop_line}
use Rattle.command_outcomes.specs.Statuses.{status_of, text_of}
use Rattle.command_words.specs.Command.{Command, RunImage, RunSource, IsCommand}
use Rattle.sat_tool.specs.Commands.{inputs_of, IsUnfit, IsFit, IsDone}
use Rattle.sat_tool.specs.Files.{Input, Output}
use Rattle.sat_tool.specs.Run.{IsRun, Comes, Course, Unread, Writes, IsTextOf}
use Rattle.sat_tool.specs.Run as run
use Rattle.sat_tool.specs.RunHeadline.{AsksForRun, IsRunAs, RunsImages, RunsSources, AsksToRunSource, HasNoSource, RefusesToRunOthers}
use Rattle.sat_tool.specs.RunResult.{IsWrittenAndTold}
use Rattle.sat_tool.specs.World.{StoreView, World}
use Rattle.command_words.proofs.Asked.{one_command}
use Rattle.sat_tool.proofs.Fit.{image_fits, input_fits}
use Rattle.sat_tool.proofs.Headline.{not_both, IsTold, some_output, told, calm_since}

-- ---- what is told of an observation

-- a line is told of each
line_of : (stop_line : ℕ → List ℕ) (seen : Observation) → (line : List ℕ) × (text_of (outcome_of stop_line seen) ≡ Some line)
line_of stop_line (End output overflow count) = (_, refl)
line_of stop_line (Stop site output) = (_, refl)
line_of stop_line (Going output) = (_, refl)
line_of stop_line (Fault pc kind output) = (_, refl)

-- status 8 is that of a fault alone
no_fault : (stop_line : ℕ → List ℕ) (seen : Observation) → ((pc : ℕ) (kind : MachineFault) (output : List ℤ) → seen ≢ Fault pc kind output)
    → status_of (outcome_of stop_line seen) ≢ 8
no_fault stop_line (End output overflow count) never is = cc
no_fault stop_line (Stop site output) never is = cc
no_fault stop_line (Going output) never is = cc
no_fault stop_line (Fault pc kind output) never is = never pc kind output refl

-- a source never faults
source_faults : (outcome : runs.Outcome ℤ) (pc : ℕ) (kind : MachineFault) (output : List ℤ) → observation_of outcome ≢ Fault pc kind output
source_faults (runs.Gives value s) pc kind output is = cc
source_faults (runs.Stops site s) pc kind output is = cc
source_faults (runs.Goes s) pc kind output is = cc

-- numbers of 16 bits
are_samples : (given : List ℤ) → HaveSixteenBits given → AreSamples given
are_samples given wide = λ k d low. sixteen (get_or given k d) (wide k d low)
  where
    sixteen : (z : ℤ) → FitsSigned w16 z → (negsuc 32767 ≤ℤ z) × (z ≤ℤ pos 32767)
    sixteen z fits = (grind (arith, ints, fits), grind (arith, ints, fits))

run_as : (files : Files) (written : List ℕ) (stop_line : ℕ → List ℕ) (target : List ℕ) (seen : Observation) (new : World) (status : ℕ) (outcome : Outcome) (output : Output)
    → IsWrittenAndTold stop_line seen target (Some output) outcome → new.store.files ≡ Some (map.insert files output.name output.bytes)
    → IsTold outcome written new.sink status → IsRunAs files written stop_line target seen new status
run_as files written stop_line target seen new status outcome output result grown is =
    let line = line_of stop_line seen in
    record {
      status_is = is.status_is ∙ ap status_of result.is;
      file_is = grown ∙ ap (λ o. Some (map.insert files o.name o.bytes)) (some_output output _ result.writes);
      line = line.0;
      told = line.1;
      line_is = is.text_is line.0 (ap text_of result.is ∙ line.1);
    }

-- ---- a command that reads a program and an input, over a calm store

-- its program is refused, or it goes on, or memory wants
data Begun (command : Command) (second : Input) (files : Files) (program : List ℕ) (new : StoreView) (outcome : Outcome) : Type 0 where
  Refused : IsUnfit command (program ∷ []) outcome → new.files ≡ Some files → Begun command second files program new outcome
  GoesOn : (mid : StoreView) → IsFit command (program ∷ []) → mid.files ≡ Some files → IsCalm mid.faults new.faults
      → Course command (second ∷ []) (program ∷ []) mid new outcome → Begun command second files program new outcome
  Lost : status_of outcome ≡ 3 → Begun command second files program new outcome

-- once its program is read: its input is refused, or its output is written, or it ends without one, or memory wants
data Ended (command : Command) (files : Files) (program input : List ℕ) (new : StoreView) (outcome : Outcome) : Type 0 where
  Denied : IsUnfit command (program ∷ input ∷ []) outcome → Ended command files program input new outcome
  Wrote : (output : Output) → IsDone command (program ∷ input ∷ []) (Some output) outcome → new.files ≡ Some (map.insert files output.name output.bytes)
      → Ended command files program input new outcome
  Silent : IsDone command (program ∷ input ∷ []) None outcome → Ended command files program input new outcome
  Wants : status_of outcome ≡ 3 → Ended command files program input new outcome

same_text : (files : Files) (name held read : List ℕ) (old : StoreView) → map.get files name ≡ Some held → old.files ≡ Some files → IsTextOf old.files name read → read ≡ held
same_text files name held read old there is of = let found : map.get files name ≡ Some read = subst (λ f. IsTextOf f name read) is of in cc

unread : (files : Files) (name held : List ℕ) (old new : StoreView) (outcome : Outcome) → map.get files name ≡ Some held → old.files ≡ Some files
    → IsCalm old.faults new.faults → Unread name old new outcome → status_of outcome ≡ 3
unread files name held old new outcome there is calm run.wants_memory = refl
unread files name held old new outcome there is calm (run.missing lacks) =
    let none : map.get files name ≡ None = subst (λ f. IsMissing f name old.faults new.faults) is lacks in
    absurd (none-some held (sym none ∙ there))
unread files name held old new outcome there is calm (run.failed rose) = absurd (not_both old.faults new.faults calm rose)

begun : (command : Command) (first second : Input) (files : Files) (program : List ℕ) (old new : StoreView) (outcome : Outcome)
    → map.get files first.name ≡ Some program → old.files ≡ Some files → IsCalm old.faults new.faults
    → Course command (first ∷ second ∷ []) [] old new outcome → Begun command second files program new outcome
begun command first second files program old new outcome held is calm (run.stops why same) =
    Lost (unread files first.name program old new outcome held is calm why)
begun command first second files program old new outcome held is calm (run.refuses read of unfit same) =
    Refused (subst (λ text. IsUnfit command (text ∷ []) outcome) (same_text files first.name program read old held is of) unfit) (same ∙ is)
begun command first second files program old new outcome held is calm (run.reads {mid = mid} read of fit same later rest) =
    let read_is = same_text files first.name program read old held is of in
    GoesOn mid (subst (λ text. IsFit command (text ∷ [])) read_is fit) (same ∙ is) (calm_since old.faults mid.faults new.faults later calm)
    (subst (λ text. Course command (second ∷ []) (text ∷ []) mid new outcome) read_is rest)

-- the words ask for this command, so it takes its course
came : (words : List (List ℕ)) (command : Command) (first second : Input) (files : Files) (program : List ℕ) (old new : StoreView) (outcome : Outcome)
    → IsCommand words command → inputs_of command ≡ first ∷ second ∷ [] → map.get files first.name ≡ Some program → old.files ≡ Some files
    → IsCalm old.faults new.faults → Comes words old new outcome → Begun command second files program new outcome
came words command first second files program old new outcome asked reads held is calm run.wants_memory = Lost refl
came words command first second files program old new outcome asked reads held is calm (run.nowhere none) = absurd (none command asked)
came words command first second files program old new outcome asked reads held is calm (run.along other other_asked course) =
    begun command first second files program old new outcome held is calm
    (subst (λ inputs. Course command inputs [] old new outcome) reads
    (subst (λ c. Course c (inputs_of c) [] old new outcome) (one_command words other command other_asked asked) course))

wrote : (command : Command) (files : Files) (program input : List ℕ) (old new : StoreView) (output : Output) (done outcome : Outcome)
    → old.files ≡ Some files → IsCalm old.faults new.faults → IsDone command (program ∷ input ∷ []) (Some output) done
    → Writes output done old new outcome → Ended command files program input new outcome
wrote command files program input old new output done outcome is calm fine (run.written grown) =
    Wrote output fine (grown ∙ ap (λ f. files_with f output.name output.bytes) is)
wrote command files program input old new output done outcome is calm fine (run.failed rose part) = absurd (not_both old.faults new.faults calm rose)
wrote command files program input old new output done outcome is calm fine (run.wants_memory same) = Wants refl

both_read : (command : Command) (files : Files) (program input : List ℕ) (old new : StoreView) (outcome : Outcome) → old.files ≡ Some files
    → IsCalm old.faults new.faults → Course command [] (program ∷ input ∷ []) old new outcome → Ended command files program input new outcome
both_read command files program input old new outcome is calm (run.wants_memory same) = Wants refl
both_read command files program input old new outcome is calm (run.ends fine same) = Silent fine
both_read command files program input old new outcome is calm (run.writes {output = output} {done = done} fine write) =
    wrote command files program input old new output done outcome is calm fine write

ended : (command : Command) (second : Input) (files : Files) (program input : List ℕ) (old new : StoreView) (outcome : Outcome)
    → map.get files second.name ≡ Some input → old.files ≡ Some files → IsCalm old.faults new.faults
    → Course command (second ∷ []) (program ∷ []) old new outcome → Ended command files program input new outcome
ended command second files program input old new outcome held is calm (run.stops why same) =
    Wants (unread files second.name input old new outcome held is calm why)
ended command second files program input old new outcome held is calm (run.refuses read of unfit same) =
    Denied (subst (λ text. IsUnfit command (program ∷ text ∷ []) outcome) (same_text files second.name input read old held is of) unfit)
ended command second files program input old new outcome held is calm (run.reads {mid = mid} read of fit same later rest) =
    both_read command files program input mid new outcome (same ∙ is) (calm_since old.faults mid.faults new.faults later calm)
    (subst (λ text. Course command [] (program ∷ text ∷ []) mid new outcome) (same_text files second.name input read old held is of) rest)

-- ---- images

module _ (words : List (List ℕ)) (files : Files) (written : List ℕ) (image : Image) (given : List ℤ) (target : List ℕ) (steps : ℕ)
    (readable : IsReadable image) (asks : AsksForRun words files (λ program input. RunImage program input target steps) (image_bytes image) given)
    (new : World) (status : ℕ) (outcome : Outcome) (is : IsTold outcome written new.sink status) where
  image_done : Ended (RunImage asks.program_name asks.input_name target steps) files (image_bytes image) (sample_bytes given) new.store outcome
      → (status ≡ 3) ⊎ (IsRunAs files written (image_stop_line image.sites) target (machine_observed image given steps) new status
      × ((source : Source) → Compiles source image → status ≢ 8))
  image_done (Denied unfit) = absurd (input_fits given (sample_bytes given) outcome (record { few = asks.few; wide = asks.wide; spelled = refl }) unfit)
  image_done (Silent done) = absurd (none-some _ done.result.writes)
  image_done (Wants three) = inl (is.status_is ∙ three)
  image_done (Wrote output done grown) =
      let image_is : done.image ≡ image = sym (have_one_spelling image done.image readable done.of.readable done.of.spelled) in
      let given_is : done.samples ≡ given = sym (samples.have_one_spelling given done.samples asks.wide done.are.wide done.are.spelled) in
      let result : IsWrittenAndTold (image_stop_line image.sites) (machine_observed image given steps) target (Some output) outcome =
      subst (λ (i : Image). IsWrittenAndTold (image_stop_line i.sites) (machine_observed i given steps) target (Some output) outcome) image_is
      (subst (λ (s : List ℤ). IsWrittenAndTold (image_stop_line done.image.sites) (machine_observed done.image s steps) target (Some output) outcome) given_is done.result) in
      let ran = run_as files written (image_stop_line image.sites) target (machine_observed image given steps) new status outcome output result grown is in
      inr (
        ran,
        λ source compiles eight. no_fault (image_stop_line image.sites) (machine_observed image given steps)
            (λ pc kind output. compiles.alike.never_faults given steps pc kind output (are_samples given asks.wide)) (sym ran.status_is ∙ eight),
      )

  image_begun : Begun (RunImage asks.program_name asks.input_name target steps) (record { name = asks.input_name; most = SAMPLE_BYTES }) files (image_bytes image) new.store outcome
      → (status ≡ 3) ⊎ (IsRunAs files written (image_stop_line image.sites) target (machine_observed image given steps) new status
      × ((source : Source) → Compiles source image → status ≢ 8))
  image_begun (Refused unfit same) = absurd (image_fits image (image_bytes image) outcome (record { readable = readable; spelled = refl }) unfit)
  image_begun (GoesOn mid fit same calm rest) =
      image_done (ended (RunImage asks.program_name asks.input_name target steps) (record { name = asks.input_name; most = SAMPLE_BYTES }) files
      (image_bytes image) (sample_bytes given) mid new.store outcome asks.input_held same calm rest)
  image_begun (Lost three) = inl (is.status_is ∙ three)

pub runs_images : (words : List (List ℕ)) (old new : World) (status : ℕ) → IsRun words old new status → RunsImages words old new status
runs_images words old new status r = λ files written image given target steps honest readable asks.
    ⊎_elim (λ three. inl three)
    (λ is. image_begun words files written image given target steps readable asks new status r.outcome is
    (came words (RunImage asks.program_name asks.input_name target steps) (record { name = asks.program_name; most = IMAGE_BYTES })
    (record { name = asks.input_name; most = SAMPLE_BYTES }) files (image_bytes image) old.store new.store r.outcome
    asks.asked refl asks.program_held honest.files_told honest.store_calm r.comes))
    (told r.outcome old.sink new.sink status written honest.sink_calm honest.written_told r.tells)

-- ---- sources

module _ (words : List (List ℕ)) (files : Files) (written text : List ℕ) (typed : Typed) (functions : List ℕ) (given : List ℤ) (target : List ℕ) (turns : ℕ)
    (source : IsSource text typed functions) (asks : AsksForRun words files (λ program input. RunSource program input target turns) text given)
    (new : World) (status : ℕ) (outcome : Outcome) (is : IsTold outcome written new.sink status) where
  source_done : Ended (RunSource asks.program_name asks.input_name target turns) files text (sample_bytes given) new.store outcome
      → (status ≡ 3) ⊎ (IsRunAs files written (source_stop_line typed.sites) target (observed typed given turns) new status × (status ≢ 8))
  source_done (Denied unfit) = absurd (input_fits given (sample_bytes given) outcome (record { few = asks.few; wide = asks.wide; spelled = refl }) unfit)
  source_done (Silent done) = absurd (none-some _ done.result.writes)
  source_done (Wants three) = inl (is.status_is ∙ three)
  source_done (Wrote output done grown) =
      let typed_is : done.typed ≡ typed = one_tied_source text done.typed typed done.functions functions done.of source in
      let given_is : done.samples ≡ given = sym (samples.have_one_spelling given done.samples asks.wide done.are.wide done.are.spelled) in
      let result : IsWrittenAndTold (source_stop_line typed.sites) (observed typed given turns) target (Some output) outcome =
      subst (λ (t : Typed). IsWrittenAndTold (source_stop_line t.sites) (observed t given turns) target (Some output) outcome) typed_is
      (subst (λ (s : List ℤ). IsWrittenAndTold (source_stop_line done.typed.sites) (observed done.typed s turns) target (Some output) outcome) given_is done.result) in
      let ran = run_as files written (source_stop_line typed.sites) target (observed typed given turns) new status outcome output result grown is in
      inr (
        ran,
        λ eight. no_fault (source_stop_line typed.sites) (observed typed given turns) (source_faults (meaning.outcome_of typed given turns)) (sym ran.status_is ∙ eight),
      )

  source_begun : Begun (RunSource asks.program_name asks.input_name target turns) (record { name = asks.input_name; most = SAMPLE_BYTES }) files text new.store outcome
      → (status ≡ 3) ⊎ (IsRunAs files written (source_stop_line typed.sites) target (observed typed given turns) new status × (status ≢ 8))
  source_begun (Refused unfit same) = absurd (no_source_not_told text unfit.line typed functions source unfit.tells)
  source_begun (GoesOn mid fit same calm rest) =
      source_done (ended (RunSource asks.program_name asks.input_name target turns) (record { name = asks.input_name; most = SAMPLE_BYTES }) files
      text (sample_bytes given) mid new.store outcome asks.input_held same calm rest)
  source_begun (Lost three) = inl (is.status_is ∙ three)

pub runs_sources : (words : List (List ℕ)) (old new : World) (status : ℕ) → IsRun words old new status → RunsSources words old new status
runs_sources words old new status r = λ files written text typed functions given target turns honest source asks.
    ⊎_elim (λ three. inl three)
    (λ is. source_begun words files written text typed functions given target turns source asks new status r.outcome is
    (came words (RunSource asks.program_name asks.input_name target turns) (record { name = asks.program_name; most = SOURCE_BYTES })
    (record { name = asks.input_name; most = SAMPLE_BYTES }) files text old.store new.store r.outcome
    asks.asked refl asks.program_held honest.files_told honest.store_calm r.comes))
    (told r.outcome old.sink new.sink status written honest.sink_calm honest.written_told r.tells)

module _ (words : List (List ℕ)) (files : Files) (written text : List ℕ) (asks : AsksToRunSource words files text) (none : HasNoSource text)
    (new : World) (status : ℕ) (outcome : Outcome) (is : IsTold outcome written new.sink status) where
  refused : Begun (RunSource asks.name asks.input asks.output asks.turns) (record { name = asks.input; most = SAMPLE_BYTES }) files text new.store outcome
      → (status ≡ 3) ⊎ ((status ≡ 1) × (new.store.files ≡ Some files) × ((line : List ℕ) × TellsNoSource text line × (new.sink.written ≡ Some (written ++ line))))
  refused (Refused unfit same) =
      inr (is.status_is ∙ ap status_of unfit.is, same, (unfit.line, unfit.tells, is.text_is unfit.line (ap text_of unfit.is)))
  refused (GoesOn mid fit same calm rest) = absurd (none fit.0 fit.1 fit.2)
  refused (Lost three) = inl (is.status_is ∙ three)

pub refuses_to_run_others : (words : List (List ℕ)) (old new : World) (status : ℕ) → IsRun words old new status → RefusesToRunOthers words old new status
refuses_to_run_others words old new status r = λ files written text honest asks none.
    ⊎_elim (λ three. inl three)
    (λ is. refused words files written text asks none new status r.outcome is
    (came words (RunSource asks.name asks.input asks.output asks.turns) (record { name = asks.name; most = SOURCE_BYTES })
    (record { name = asks.input; most = SAMPLE_BYTES }) files text old.store new.store r.outcome
    asks.asked refl asks.held honest.files_told honest.store_calm r.comes))
    (told r.outcome old.sink new.sink status written honest.sink_calm honest.written_told r.tells)
