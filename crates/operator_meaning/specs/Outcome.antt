-- What is computed at once: the value of an operator, and whether a clip inside changes its number.
use Rattle.std.specs.Prelude.{◌≡◌, ℤ, false, List, Option, Some, None}
use Rattle.operator_meaning.specs.Value.{value_of}
use Rattle.operator_meaning.specs.Clipping.{clips_of}
use Rattle.operator_meaning.specs.declared.clipped.Clipped.{Clipped}
use Rattle.operator_meaning.specs.declared.operator.Op.{Op}

-- there is no outcome exactly where there is no value, and then no clip
abbrev pub IsOutcome : Op → List ℤ → Option Clipped → Type 0
IsOutcome op args None = (value_of op args ≡ None) × (clips_of op args ≡ false)
IsOutcome op args (Some outcome) = (value_of op args ≡ Some outcome.value) × (clips_of op args ≡ outcome.clips)
