-- What `run-image` comes to on the texts of its image and of its input.
use Rattle.std.specs.Prelude.{◌≡◌, ◌≢◌, ℕ, ℤ, List, Option, Some}
use Rattle.image_format.specs.declared.image.Image.{Image}
use Rattle.image_format.specs.declared.refusal.ImageRefusal.{ImageRefusal}
use Rattle.image_format.specs.declared.refusal.ImageRefusal.TheVariants.{Memory}
use Rattle.image_format.specs.Reading.{IsFileOf}
use Rattle.image_format.specs.Rules.{first_refusal}
use Rattle.image_format.specs.Runs.{machine_observed}
use Rattle.command_outcomes.specs.declared.outcome.Outcome.{Outcome}
use Rattle.command_outcomes.specs.declared.outcome.Outcome.TheVariants.{Unfit}
use Rattle.command_outcomes.specs.RunLines.{image_line, image_stop_line}
use Rattle.sat_tool.specs.Files.{Output}
use Rattle.sat_tool.specs.Input.{IsInputOf}
use Rattle.sat_tool.specs.RunResult.{IsWrittenAndTold}

-- the text is no image, for this reason
pub record IsNoImage (text : List ℕ) (outcome : Outcome) : Type 0 where
  pub refusal : ImageRefusal
  pub other : refusal ≢ Memory
  pub broken : first_refusal text ≡ Some refusal
  pub is : outcome ≡ Unfit (image_line refusal)

-- both are what they should be; what was observed of the image on the samples after so many instructions is told, and
-- its output is written
pub record IsRunOfImage (image_text text target : List ℕ) (steps : ℕ) (output : Option Output) (outcome : Outcome) : Type 0 where
  pub image : Image
  pub of : IsFileOf image image_text
  pub samples : List ℤ
  pub are : IsInputOf samples text
  pub result : IsWrittenAndTold (image_stop_line image.sites) (machine_observed image samples steps) target output outcome
