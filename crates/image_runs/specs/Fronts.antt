-- What the front of a file tells of the whole.
use Rattle.std.specs.Prelude.{◌≡◌, ℕ, ◌+◌, ◌≤◌, List, length, take, None}
use Rattle.image_format.specs.Rules.{first_refusal}
use Rattle.image_runs.specs.declared.limits.TheConstants.{IMAGE_BYTES}

abbrev pub ImagesFit : Type 0
ImagesFit = (bytes : List ℕ) → first_refusal bytes ≡ None → length bytes ≤ IMAGE_BYTES

abbrev pub FrontsAreRefusedAlike : Type 0
FrontsAreRefusedAlike = (file : List ℕ) → first_refusal (take (IMAGE_BYTES + 1) file) ≡ first_refusal file
