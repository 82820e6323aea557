-- What a run of the program does, whatever its command: it reads the files that the command names, in order, and
-- judges each as it comes, before it reads the next; it does its job; it makes at most one write, and then at most one put.
use Rattle.std.specs.Prelude.{◌≡◌, ℕ, ◌≤◌, List, [], ◌∷◌, ◌++◌, Option, Some, None}
use Rattle.std.specs.FinMap as map
use Rattle.store_io.specs.Outside.{Files, Rose, IsMissing, WritesPart, files_with, text_with, GrowsByPart}
use Rattle.command_outcomes.specs.declared.outcome.Outcome.{Outcome}
use Rattle.command_outcomes.specs.declared.outcome.Outcome.TheVariants.{NoCommand, NoMemory, Unusable}
use Rattle.command_words.specs.Command.{Command, IsCommand, IsNoCommand}
use Rattle.sat_tool.specs.Commands.{inputs_of, IsUnfit, IsFit, IsDone}
use Rattle.sat_tool.specs.Files.{Input, Output}
use Rattle.command_outcomes.specs.Lines.{missing_line, cannot_read_line, cannot_write_line}
use Rattle.command_outcomes.specs.Statuses.{status_of, text_of, sink_failed}
use Rattle.sat_tool.specs.World.{StoreView, SinkView, World}

-- The text is what the file of this name holds. Of a store that does not tell its files nothing is claimed.
abbrev pub IsTextOf : Option Files → List ℕ → List ℕ → Type 0
IsTextOf None name text = Unit {0}
IsTextOf (Some told) name text = map.get told name ≡ Some text

-- a file was not read, and this is why
pub data Unread (name : List ℕ) (old new : StoreView) : Outcome → Type 0 where
  wants_memory : Unread name old new NoMemory
  missing : IsMissing old.files name old.faults new.faults → Unread name old new (Unusable (missing_line name))
  failed : Rose old.faults new.faults → Unread name old new (Unusable (cannot_read_line name))

-- A file is written, and so the job is done. A write that failed leaves every other name as before, and its own as
-- before or with a prefix of the bytes.
pub data Writes (output : Output) (done : Outcome) (old new : StoreView) : Outcome → Type 0 where
  written : new.files ≡ files_with old.files output.name output.bytes → Writes output done old new done
  failed : Rose old.faults new.faults → WritesPart old.files new.files output.name output.bytes
      → Writes output done old new (Unusable (cannot_write_line output.name))
  wants_memory : new.files ≡ old.files → Writes output done old new NoMemory

-- The course of a command that still has these files to read, and has read these texts. Until the write nothing
-- has changed.
pub data Course (command : Command) : List Input → List (List ℕ) → StoreView → StoreView → Outcome → Type 0 where
  -- the next file is not read
  stops : {input : Input} {inputs : List Input} {texts : List (List ℕ)} {old new : StoreView} {outcome : Outcome}
      → Unread input.name old new outcome → new.files ≡ old.files → Course command (input ∷ inputs) texts old new outcome
  -- it is read, and refused
  refuses : {input : Input} {inputs : List Input} {texts : List (List ℕ)} {old new : StoreView} {outcome : Outcome} (text : List ℕ)
      → IsTextOf old.files input.name text → IsUnfit command (texts ++ text ∷ []) outcome → new.files ≡ old.files
      → Course command (input ∷ inputs) texts old new outcome
  -- it is read, and is what is asked for, and then the others are
  reads : {input : Input} {inputs : List Input} {texts : List (List ℕ)} {old mid new : StoreView} {outcome : Outcome} (text : List ℕ)
      → IsTextOf old.files input.name text → IsFit command (texts ++ text ∷ []) → mid.files ≡ old.files → old.faults ≤ mid.faults
      → Course command inputs (texts ++ text ∷ []) mid new outcome → Course command (input ∷ inputs) texts old new outcome
  -- all are read, and memory wants for the job
  wants_memory : {texts : List (List ℕ)} {old new : StoreView} → new.files ≡ old.files → Course command [] texts old new NoMemory
  -- the job is done, and no file is to be written
  ends : {texts : List (List ℕ)} {old new : StoreView} {outcome : Outcome}
      → IsDone command texts None outcome → new.files ≡ old.files → Course command [] texts old new outcome
  -- the job is done, and its file is written
  writes : {texts : List (List ℕ)} {old new : StoreView} {output : Output} {done outcome : Outcome}
      → IsDone command texts (Some output) done → Writes output done old new outcome → Course command [] texts old new outcome

-- Words that are no command leave the store alone, and so does want of memory for reading them; a command takes its course.
pub data Comes (words : List (List ℕ)) : StoreView → StoreView → Outcome → Type 0 where
  wants_memory : {store : StoreView} → Comes words store store NoMemory
  nowhere : {store : StoreView} → IsNoCommand words → Comes words store store NoCommand
  along : {old new : StoreView} {outcome : Outcome} (command : Command) → IsCommand words command
      → Course command (inputs_of command) [] old new outcome → Comes words old new outcome

-- A text is put, if there is one, and a status is answered.
pub data Tells (outcome : Outcome) : SinkView → SinkView → ℕ → Type 0 where
  silent : {sink : SinkView} → text_of outcome ≡ None → Tells outcome sink sink (status_of outcome)
  put : {old new : SinkView} (text : List ℕ) → text_of outcome ≡ Some text → new.written ≡ text_with old.written text
      → Tells outcome old new (status_of outcome)
  failed : {old new : SinkView} (text : List ℕ) → text_of outcome ≡ Some text → Rose old.faults new.faults
      → GrowsByPart old.written new.written text → Tells outcome old new sink_failed
  wants_memory : {old new : SinkView} (text : List ℕ) → text_of outcome ≡ Some text → new.written ≡ old.written
      → Tells outcome old new (status_of NoMemory)

-- a run of the program on these words
pub record IsRun (words : List (List ℕ)) (old new : World) (status : ℕ) : Type 0 where
  pub outcome : Outcome
  pub comes : Comes words old.store new.store outcome
  pub tells : Tells outcome old.sink new.sink status
  pub store_later : old.store.faults ≤ new.store.faults
  pub sink_later : old.sink.faults ≤ new.sink.faults
