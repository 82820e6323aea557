-- What `satc build SRC IMG` promises over a store and a sink that tell what they hold, where no fault of theirs is
-- counted in the run.
use Rattle.std.specs.Prelude.{◌≡◌, ℕ, ◌⊎◌, List, ◌++◌, length, Some}
use Rattle.std.specs.FinMap as map
use Rattle.image_format.specs.declared.image.Image.{Image}
use Rattle.image_format.specs.ImageBytes.{image_bytes}
use Rattle.sat_compile.specs.Accepted.{IsAccepted, IsRefused}
use Rattle.sat_compile.specs.Causes.{MayShow}
use Rattle.sat_compile.specs.Promise.{Compiles}
use Rattle.sat_compile.specs.Source.{Source}
use Rattle.store_io.specs.Outside.{Files, IsCalm}
use Rattle.command_words.specs.Command.{Build, IsCommand}
use Rattle.command_outcomes.specs.Lines.{sites_line}
use Rattle.sat_tool.specs.World.{World}

-- Store and sink tell what they hold, these files and what was written, and count no fault.
pub record IsHonest (files : Files) (written : List ℕ) (old new : World) : Type 0 where
  pub files_told : old.store.files ≡ Some files
  pub written_told : old.sink.written ≡ Some written
  pub store_calm : IsCalm old.store.faults new.store.faults
  pub sink_calm : IsCalm old.sink.faults new.sink.faults

-- the words ask to build an image of this name from a file that holds this text
pub record AsksToBuild (words : List (List ℕ)) (files : Files) (text target : List ℕ) : Type 0 where
  pub name : List ℕ
  pub asked : IsCommand words (Build name target)
  pub held : map.get files name ≡ Some text

-- An accepted source is built: the status is 0, the image file holds the bytes of an image of the source, every
-- other file is as before, and the report counts the sites.
abbrev pub BuildsAccepted : List (List ℕ) → World → World → ℕ → Type 0
BuildsAccepted words old new status =
    (files : Files) (written text target : List ℕ) (source : Source)
    → IsHonest files written old new → AsksToBuild words files text target → IsAccepted text source
    → (status ≡ 3)
    ⊎ ((status ≡ 0) × ((image : Image) × Compiles source image
    × (new.store.files ≡ Some (map.insert files target (image_bytes image)))
    × (new.sink.written ≡ Some (written ++ sites_line (length source.sites)))))

-- Any other text is refused: the status is 1, the files are as before, and the line that tells why is put.
abbrev pub RefusesOthers : List (List ℕ) → World → World → ℕ → Type 0
RefusesOthers words old new status =
    (files : Files) (written text target : List ℕ)
    → IsHonest files written old new → AsksToBuild words files text target → IsRefused text
    → (status ≡ 3)
    ⊎ ((status ≡ 1) × (new.store.files ≡ Some files)
    × ((line : List ℕ) × MayShow text line × (new.sink.written ≡ Some (written ++ line))))
