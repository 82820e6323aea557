-- The samples that a run is given.
use Rattle.std.specs.Prelude.{◌≡◌, ℕ, ◌%◌, ◌<◌, ◌≤◌, ℤ, List, length}
use Rattle.sat_base.specs.declared.limits.TheConstants.{SAMPLE_BYTES}
use Rattle.sample_files.specs.Reading.{HaveSixteenBits}
use Rattle.sample_files.specs.Samples.{sample_bytes}
use Rattle.command_outcomes.specs.declared.outcome.Outcome.{Outcome}
use Rattle.command_outcomes.specs.declared.outcome.Outcome.TheVariants.{Unfit}
use Rattle.command_outcomes.specs.RunLines.{long_samples_line, odd_samples_line}

-- the text is no list of samples: it is too long, or else half a sample stands at its end
pub data IsNoInput (text : List ℕ) : Outcome → Type 0 where
  long : SAMPLE_BYTES < length text → IsNoInput text (Unfit long_samples_line)
  odd : length text ≤ SAMPLE_BYTES → length text % 2 ≡ 1 → IsNoInput text (Unfit odd_samples_line)

-- the samples that the text of an input spells
pub record IsInputOf (samples : List ℤ) (text : List ℕ) : Type 0 where
  pub few : length text ≤ SAMPLE_BYTES
  pub wide : HaveSixteenBits samples
  pub spelled : text ≡ sample_bytes samples
