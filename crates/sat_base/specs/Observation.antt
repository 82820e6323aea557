-- What is observed of a run, of a source or of an image.
use Rattle.std.specs.Prelude.{ℕ, ℤ, List}
use Rattle.sat_base.specs.declared.machine_fault.MachineFault.{MachineFault}

-- The run ended, with its output, the value of Overflow and the weighted count modulo 2^64; it stopped at a
-- site; it is going on at the number of turns or of instructions that it was given; or the machine faulted
-- at a pc. No source faults. What comes before a stop, and before the number is used up, is its output alone.
pub data Observation : Type 0 where
  End : (output : List ℤ) (overflow : ℤ) (count : ℕ) → Observation
  Stop : (site : ℕ) (output : List ℤ) → Observation
  Going : (output : List ℤ) → Observation
  Fault : (pc : ℕ) (kind : MachineFault) (output : List ℤ) → Observation

-- the output of a run so far
abbrev pub output_of : Observation → List ℤ
output_of (End output overflow count) = output
output_of (Stop site output) = output
output_of (Going output) = output
output_of (Fault pc kind output) = output
