-- How the program starts where the words could not be gathered.
use Rattle.std.specs.Prelude.{◌≡◌, ℕ, []}
use Rattle.sat_tool.specs.declared.gathered.NoWords.{NoWords}
use Rattle.sat_tool.specs.declared.gathered.NoWords.TheVariants.{NoText, Memory}
use Rattle.sat_tool.specs.Run.{IsRun}
use Rattle.sat_tool.specs.World.{World}

-- words that are no text are taken as no words; without memory nothing is done
abbrev pub IsRunWithout : NoWords → World → World → ℕ → Type 0
IsRunWithout NoText old new status = IsRun [] old new status
IsRunWithout Memory old new status = (status ≡ 3) × (new ≡ old)
