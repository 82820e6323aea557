-- When an image does what a source does, and enters the sites that it evaluates.
use Rattle.std.specs.Prelude.{◌≡◌, ℕ, ℤ, Bool, List, Option}
use Rattle.sat_base.specs.Observation.{Observation}
use Rattle.rv_encode.specs.State.{Running}
use Rattle.image_format.specs.declared.image.Image.{Image}
use Rattle.image_format.specs.Runs.{loaded, machine_observed}
use Rattle.image_format.specs.RunsAlike.{AreSamples, IsOver, RunsAlike}
use Rattle.code_lines.specs.Words.{Code}
use Rattle.code_lines.specs.Leading.{entered, with_words}
use Rattle.code_runs.specs.Doing.{Shows}

-- the code of an image, by the sites that its words begin, and those that have none
abbrev pub code_of : Image → (begins : ℕ → Option ℕ) → (is_wordless : ℕ → Bool) → Code
code_of image begins is_wordless = record { words = image.code; begins = begins; is_wordless = is_wordless }

-- A source is given by what is observed of it, and by the sites that it evaluates, on an input at a number of turns.
module _ (source : List ℤ → ℕ → Observation) (trace : List ℤ → ℕ → List ℕ) (image : Image) (begins : ℕ → Option ℕ) (is_wordless : ℕ → Bool) where
  -- on each input of samples the code of the image shows what is observed of the source
  abbrev pub ShowsAll : Type 0
  ShowsAll = (input : List ℤ) (turns : ℕ) → AreSamples input
      → Shows (code_of image begins is_wordless) turns (Running (loaded image input)) (trace input turns) (source input turns)

  -- where both are over alike, the image has entered the sites that were evaluated, but for those without words
  abbrev pub EntersAlike : Type 0
  EntersAlike = (input : List ℤ) (n m : ℕ) → AreSamples input → IsOver (source input n) → machine_observed image input m ≡ source input n
      → entered (code_of image begins is_wordless) m (Running (loaded image input)) ≡ with_words (code_of image begins is_wordless) (trace input n)

abbrev pub RunsAreAlike : Type 0
RunsAreAlike = (source : List ℤ → ℕ → Observation) (trace : List ℤ → ℕ → List ℕ) (image : Image) (begins : ℕ → Option ℕ) (is_wordless : ℕ → Bool)
    → ShowsAll source trace image begins is_wordless → RunsAlike source image × EntersAlike source trace image begins is_wordless
