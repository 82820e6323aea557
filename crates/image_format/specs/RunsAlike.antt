-- When an image does what a source does, whatever it is given to read.
use Rattle.std.specs.Prelude.{◌≡◌, ◌≢◌, ℕ, ◌≤◌, ℤ, pos, negsuc, ◌≤ℤ◌, List, All}
use Rattle.sat_base.specs.Observation.{Observation, End, Stop, Going, Fault, output_of}
use Rattle.sat_base.specs.declared.machine_fault.MachineFault.{MachineFault}
use Rattle.image_format.specs.declared.image.Image.{Image}
use Rattle.rv_encode.specs.Runs.{IsPrefix}
use Rattle.image_format.specs.Runs.{machine_observed}

-- samples of 16 bits
abbrev pub AreSamples : List ℤ → Type 0
AreSamples input = All (λ sample. (negsuc 32767 ≤ℤ sample) × (sample ≤ℤ pos 32767)) input

-- the run ended, or it stopped at a site
abbrev pub IsOver : Observation → Type 0
IsOver (End output overflow count) = Unit {0}
IsOver (Stop site output) = Unit {0}
IsOver (Going output) = ⊥
IsOver (Fault pc kind output) = ⊥

abbrev pub IsGoing : Observation → Type 0
IsGoing (End output overflow count) = ⊥
IsGoing (Stop site output) = ⊥
IsGoing (Going output) = Unit {0}
IsGoing (Fault pc kind output) = ⊥

-- A source is given by what is observed of it on an input at a number of turns, and an image by what is
-- observed of it after a number of instructions. On every input:
pub record RunsAlike (source : List ℤ → ℕ → Observation) (image : Image) : Type 0 where
  -- where the source ends, or stops at a site, the image does, with the same output, Overflow and count
  pub ends : (input : List ℤ) (n : ℕ) → AreSamples input → IsOver (source input n)
      → (m : ℕ) × (machine_observed image input m ≡ source input n)
  -- where the source goes on, the image goes on, and comes to the same output
  pub goes_on : (input : List ℤ) (n : ℕ) (output : List ℤ) → AreSamples input → source input n ≡ Going output
      → IsGoing (machine_observed image input n) × ((m : ℕ) × (n ≤ m) × (machine_observed image input m ≡ Going output))
  -- where the image ends or stops, the source does, in as many turns as instructions
  pub ends_only : (input : List ℤ) (m : ℕ) → AreSamples input → IsOver (machine_observed image input m)
      → source input m ≡ machine_observed image input m
  -- where the image goes on, its output begins that of the source
  pub goes_on_only : (input : List ℤ) (m : ℕ) (output : List ℤ) → AreSamples input
      → machine_observed image input m ≡ Going output → IsPrefix output (output_of (source input m))
  -- the image never faults
  pub never_faults : (input : List ℤ) (m pc : ℕ) (kind : MachineFault) (output : List ℤ) → AreSamples input
      → machine_observed image input m ≢ Fault pc kind output
