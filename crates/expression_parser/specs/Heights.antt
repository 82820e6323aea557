-- How deep what is read is.
use Rattle.std.specs.Prelude.{◌≡◌, ◌≤◌, ℕ, List, Result, Ok, Err}
use Rattle.sat_base.specs.declared.name.At.{At}
use Rattle.c_grammar.specs.declared.refusal.ReadRefusal.{ReadRefusal}
use Rattle.c_grammar.specs.Spots.{Spot}
use Rattle.right_reading.specs.Stream.{Fault}
use Rattle.token_reader.specs.Gives.{Fails}
use Rattle.expression_parser.specs.declared.measured.Measured.{Measured}

-- the height is the depth of the tree, which is within the limit
pub record IsMeasured {T : Type 0} (depth : T → ℕ) (limit : ℕ) (m : Measured T) : Type 0 where
  pub height : m.height ≡ depth m.tree
  pub within : m.height ≤ limit

-- what was answered is the tree that reading gives, measured, and what is left is what reading leaves, unless memory
-- ran out
abbrev pub Measures : {T : Type 0} → (T → ℕ) → ℕ → Result (T × List Spot) Fault → Result (Measured T) ReadRefusal → List Spot → Type 0
Measures depth limit read (Ok m) left = (read ≡ Ok (m.tree, left)) × IsMeasured depth limit m
Measures depth limit read (Err e) left = Fails read e

-- the same of a mark and the tree that follows it
abbrev pub MeasuresAt : {T : Type 0} → (T → ℕ) → ℕ → Result ((At × T) × List Spot) Fault → Result (At × Measured T) ReadRefusal → List Spot → Type 0
MeasuresAt depth limit read (Ok x) left = (read ≡ Ok ((x.0, x.1.tree), left)) × IsMeasured depth limit x.1
MeasuresAt depth limit read (Err e) left = Fails read e
