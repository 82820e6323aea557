-- What a run says of `build` over a store and a sink that tell what they hold and count no fault.
use Rattle.std.proofs.Common.{◌≡◌, ◌≤◌, ℕ, suc, ◌⊎◌, List, [], ◌∷◌, ◌++◌, length, Option, Some, None, refl, sym, ap, ◌∙◌, subst, inl, inr, ⊎_elim, arith}
use Rattle.std.proofs.lemmas.Option.{none-some}
use Rattle.std.specs.FinMap as map
use Rattle.image_format.specs.declared.image.Image.{Image}
use Rattle.image_format.specs.declared.image.SiteEntry.{SiteEntry}
use Rattle.image_format.specs.ImageBytes.{image_bytes}
use Rattle.operator_meaning.specs.declared.object.Site.{Site}
use Rattle.sat_compile.specs.Accepted.{IsAccepted, IsRefused}
use Rattle.sat_compile.specs.Causes.{MayShow}
use Rattle.sat_compile.specs.Promise.{Compiles, AreEntriesOf}
use Rattle.sat_compile.specs.Source.{Source, Treatment}
use Rattle.sat_compile.proofs.Accepted.{one_source, not_shown}
use Rattle.store_io.specs.Outside.{Files, Rose, IsCalm, IsMissing, files_with, text_with}
use Rattle.command_outcomes.specs.declared.outcome.Outcome.{Outcome}
use Rattle.sat_tool.specs.Build.{IsUnfit, IsDone}
use Rattle.command_words.specs.Command.{Build}
use Rattle.sat_tool.specs.Commands.{inputs_of}
use Rattle.sat_tool.specs.Commands as Commands
use Rattle.sat_tool.specs.Files.{Output}
use Rattle.sat_tool.specs.Headline.{IsHonest, AsksToBuild, BuildsAccepted, RefusesOthers}
use Rattle.command_outcomes.specs.Lines.{sites_line}
use Rattle.sat_tool.specs.Run.{IsRun, Comes, Course, Unread, Writes, Tells, IsTextOf}
use Rattle.sat_tool.specs.Run as run
use Rattle.command_outcomes.specs.Statuses.{status_of, text_of}
use Rattle.sat_tool.specs.World.{StoreView, SinkView, World}
use Rattle.command_words.proofs.Asked.{one_command}

pub not_both : (before now : ℕ) → IsCalm before now → Rose before now → ⊥
not_both before now calm rose = omega (arith, calm, rose)

-- as many entries as sites
as_many : (code : List ℕ) (sites : List Site) (treatments : List Treatment) (entries : List SiteEntry)
    → AreEntriesOf code sites treatments entries → length entries ≡ length sites
as_many code [] [] [] are = refl
as_many code [] [] (entry ∷ entries) are = absurd are
as_many code [] (treatment ∷ treatments) entries are = absurd are
as_many code (site ∷ sites) [] entries are = absurd are
as_many code (site ∷ sites) (treatment ∷ treatments) [] are = absurd are
as_many code (site ∷ sites) (treatment ∷ treatments) (entry ∷ entries) are = ap suc (as_many code sites treatments entries are.1)

-- ---- what is told over a calm sink

-- the status is the outcome's, and its text was put
pub record IsTold (outcome : Outcome) (written : List ℕ) (new : SinkView) (status : ℕ) : Type 0 where
  pub status_is : status ≡ status_of outcome
  pub text_is : (text : List ℕ) → text_of outcome ≡ Some text → new.written ≡ Some (written ++ text)

pub some_output : (a b : Output) → Some a ≡ Some b → a ≡ b
some_output a b e = cc

some_same : (a b : List ℕ) (o : Option (List ℕ)) → o ≡ Some a → o ≡ Some b → a ≡ b
some_same a b o is other = cc

pub told : (outcome : Outcome) (old new : SinkView) (status : ℕ) (written : List ℕ) → IsCalm old.faults new.faults → old.written ≡ Some written
    → Tells outcome old new status → (status ≡ 3) ⊎ IsTold outcome written new status
told outcome old new status written calm is (run.silent none) = inr (record { status_is = refl; text_is = λ text some. absurd (none-some text (sym none ∙ some)) })
told outcome old new status written calm is (run.put text some grown) =
    inr (record { status_is = refl; text_is = λ other e. grown ∙ ap (λ w. text_with w text) is ∙ ap (λ x. Some (written ++ x)) (some_same text other (text_of outcome) some e) })
told outcome old new status written calm is (run.failed text some rose grown) = absurd (not_both old.faults new.faults calm rose)
told outcome old new status written calm is (run.wants_memory text some same) = inl refl

-- ---- what a build comes to over a calm store

-- the source is refused, or its image is written, or memory wants
data Built (files : Files) (new : StoreView) (text target : List ℕ) (outcome : Outcome) : Type 0 where
  Refuses : IsUnfit text outcome → new.files ≡ Some files → Built files new text target outcome
  Makes : {output : Output} → IsDone text target (Some output) outcome → new.files ≡ Some (map.insert files output.name output.bytes) → Built files new text target outcome
  Wants : status_of outcome ≡ 3 → Built files new text target outcome

pub calm_since : (old mid new : ℕ) → old ≤ mid → IsCalm old new → IsCalm mid new
calm_since old mid new later calm = omega (arith, calm)

module _ (files : Files) (name target text : List ℕ) (held : map.get files name ≡ Some text) where
  same_text : (old : StoreView) (read : List ℕ) → old.files ≡ Some files → IsTextOf old.files name read → read ≡ text
  same_text old read is of = let there : map.get files name ≡ Some read = subst (λ f. IsTextOf f name read) is of in cc

  unread : (old new : StoreView) (outcome : Outcome) → old.files ≡ Some files → IsCalm old.faults new.faults
      → Unread name old new outcome → Built files new text target outcome
  unread old new outcome is calm run.wants_memory = Wants refl
  unread old new outcome is calm (run.missing lacks) =
      let none : map.get files name ≡ None = subst (λ f. IsMissing f name old.faults new.faults) is lacks in
      absurd (none-some text (sym none ∙ held))
  unread old new outcome is calm (run.failed rose) = absurd (not_both old.faults new.faults calm rose)

  wrote : (old new : StoreView) (output : Output) (done outcome : Outcome) → old.files ≡ Some files → IsCalm old.faults new.faults
      → IsDone text target (Some output) done → Writes output done old new outcome → Built files new text target outcome
  wrote old new output done outcome is calm fine (run.written grown) = Makes fine (grown ∙ ap (λ f. files_with f output.name output.bytes) is)
  wrote old new output done outcome is calm fine (run.failed rose part) = absurd (not_both old.faults new.faults calm rose)
  wrote old new output done outcome is calm fine (run.wants_memory same) = Wants refl

  -- once the text is read
  ended : (texts : List (List ℕ)) (old new : StoreView) (outcome : Outcome) → texts ≡ text ∷ [] → old.files ≡ Some files → IsCalm old.faults new.faults
      → Course (Build name target) [] texts old new outcome → Built files new text target outcome
  ended texts old new outcome one is calm (run.wants_memory same) = Wants refl
  ended texts old new outcome one is calm (run.ends fine same) =
      let done = subst (λ ts. Commands.IsDone (Build name target) ts None outcome) one fine in
      absurd (none-some _ done.writes)
  ended texts old new outcome one is calm (run.writes {output = output} {done = done} fine write) =
      wrote old new output done outcome is calm (subst (λ ts. Commands.IsDone (Build name target) ts (Some output) done) one fine) write

  coursed : (old new : StoreView) (outcome : Outcome) → old.files ≡ Some files → IsCalm old.faults new.faults
      → Course (Build name target) (inputs_of (Build name target)) [] old new outcome → Built files new text target outcome
  coursed old new outcome is calm (run.stops why same) = unread old new outcome is calm why
  coursed old new outcome is calm (run.refuses read of unfit same) =
      Refuses (subst (λ t. IsUnfit t outcome) (same_text old read is of) unfit) (same ∙ is)
  coursed old new outcome is calm (run.reads {mid = mid} read of fit same later rest) =
      ended (read ∷ []) mid new outcome (ap (λ t. t ∷ []) (same_text old read is of)) (same ∙ is) (calm_since old.faults mid.faults new.faults later calm) rest

-- ---- the two promises

-- what words that ask to build come to
came : (words : List (List ℕ)) (files : Files) (text target : List ℕ) (asks : AsksToBuild words files text target) (old new : StoreView) (outcome : Outcome)
    → old.files ≡ Some files → IsCalm old.faults new.faults → Comes words old new outcome → Built files new text target outcome
came words files text target asks old new outcome told calm run.wants_memory = Wants refl
came words files text target asks old new outcome told calm (run.nowhere none) = absurd (none (Build asks.name target) asks.asked)
came words files text target asks old new outcome told calm (run.along command is course) =
    coursed files asks.name target text asks.held old new outcome told calm
    (subst (λ c. Course c (inputs_of c) [] old new outcome) (one_command words command (Build asks.name target) is asks.asked) course)

module _ (words : List (List ℕ)) (old new : World) (status : ℕ) (files : Files) (written text target : List ℕ)
    (honest : IsHonest files written old new) (asks : AsksToBuild words files text target) where
  built_of : (outcome : Outcome) → Comes words old.store new.store outcome → Built files new.store text target outcome
  built_of outcome = came words files text target asks old.store new.store outcome honest.files_told honest.store_calm

  told_of : (outcome : Outcome) → Tells outcome old.sink new.sink status → (status ≡ 3) ⊎ IsTold outcome written new.sink status
  told_of outcome = told outcome old.sink new.sink status written honest.sink_calm honest.written_told

  accepts : (source : Source) → IsAccepted text source → (outcome : Outcome) → IsTold outcome written new.sink status → Built files new.store text target outcome
      → (status ≡ 3) ⊎ ((status ≡ 0) × ((image : Image) × Compiles source image × (new.store.files ≡ Some (map.insert files target (image_bytes image)))
      × (new.sink.written ≡ Some (written ++ sites_line (length source.sites)))))
  accepts source accepted outcome is (Refuses unfit same) = absurd (not_shown text unfit.line source accepted unfit.shown)
  accepts source accepted outcome is (Wants three) = inl (is.status_is ∙ three)
  accepts source accepted outcome is (Makes {output = output} done grown) =
      let compiles = subst (λ s. Compiles s done.image) (one_source text done.of.source source done.of.accepted accepted) done.of.compiles in
      let count = as_many done.image.code source.sites source.treatments done.image.sites compiles.sites.entries in
      let output_is = done.writes in
      inr (
        is.status_is ∙ ap status_of done.is,
        (
          done.image,
          compiles,
          grown ∙ ap (λ o. Some (map.insert files o.name o.bytes)) (some_output output _ done.writes),
          is.text_is (sites_line (length done.image.sites)) (ap text_of done.is) ∙ ap (λ n. Some (written ++ sites_line n)) count,
        ),
      )

  refuses : IsRefused text → (outcome : Outcome) → IsTold outcome written new.sink status → Built files new.store text target outcome
      → (status ≡ 3) ⊎ ((status ≡ 1) × (new.store.files ≡ Some files) × ((line : List ℕ) × MayShow text line × (new.sink.written ≡ Some (written ++ line))))
  refuses refused outcome is (Refuses unfit same) =
      inr (is.status_is ∙ ap status_of unfit.is, same, (unfit.line, unfit.shown, is.text_is unfit.line (ap text_of unfit.is)))
  refuses refused outcome is (Wants three) = inl (is.status_is ∙ three)
  refuses refused outcome is (Makes done grown) = absurd (refused done.of.source done.of.accepted)

pub builds_accepted : (words : List (List ℕ)) (old new : World) (status : ℕ) → IsRun words old new status → BuildsAccepted words old new status
builds_accepted words old new status r = λ files written text target source honest asks accepted.
    ⊎_elim (λ three. inl three)
    (λ is. accepts words old new status files written text target honest asks source accepted r.outcome is (built_of words old new status files written text target honest asks r.outcome r.comes))
    (told_of words old new status files written text target honest asks r.outcome r.tells)

pub refuses_others : (words : List (List ℕ)) (old new : World) (status : ℕ) → IsRun words old new status → RefusesOthers words old new status
refuses_others words old new status r = λ files written text target honest asks refused.
    ⊎_elim (λ three. inl three)
    (λ is. refuses words old new status files written text target honest asks refused r.outcome is (built_of words old new status files written text target honest asks r.outcome r.comes))
    (told_of words old new status files written text target honest asks r.outcome r.tells)
