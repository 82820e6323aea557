-- What `build` comes to on the text of its source.
use Rattle.std.specs.Prelude.{◌≡◌, ℕ, List, Option, Some, length}
use Rattle.image_format.specs.declared.image.Image.{Image}
use Rattle.image_format.specs.ImageBytes.{image_bytes}
use Rattle.sat_compile.specs.Accepted.{IsImageOf}
use Rattle.sat_compile.specs.Causes.{MayShow}
use Rattle.command_outcomes.specs.declared.outcome.Outcome.{Outcome}
use Rattle.command_outcomes.specs.declared.outcome.Outcome.TheVariants.{Done, Refused}
use Rattle.command_outcomes.specs.Lines.{sites_line}
use Rattle.sat_tool.specs.Files.{Output}

-- the text is not accepted, as a line tells
pub record IsUnfit (text : List ℕ) (outcome : Outcome) : Type 0 where
  pub line : List ℕ
  pub shown : MayShow text line
  pub is : outcome ≡ Refused line

-- the text is accepted; an image of its source is written, and the report counts its sites
pub record IsDone (text target : List ℕ) (output : Option Output) (outcome : Outcome) : Type 0 where
  pub image : Image
  pub of : IsImageOf text image
  pub writes : output ≡ Some (record { name = target; bytes = image_bytes image })
  pub is : outcome ≡ Done (Some (sites_line (length image.sites)))
