use Rattle.std.proofs.Common.{◌≡◌, ◌++◌, drop}
use Rattle.std.specs.List.{flat_map}
use Rattle.sat_compile.specs.Telling.{spaced}
use Rattle.command_outcomes.proofs.outcome.with_names.Given as goal

abbrev pub invariant-loop-name : goal.invariant-loop-name
invariant-loop-name l = l.line.items ++ flat_map spaced (drop l.name-index l.names) ≡ l.fn.told.items ++ flat_map spaced l.names
