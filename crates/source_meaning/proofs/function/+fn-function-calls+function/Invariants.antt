use Rattle.std.proofs.Common.{◌+◌, ◌*◌}
use Rattle.source_meaning.proofs.function.+fn-function-calls+function.Given as goal

-- how deep calls may still be in one another
abbrev pub decreases-calls : goal.decreases-calls
decreases-calls l = 2 * l.below.depth + 1

abbrev pub decreases-function : goal.decreases-function
decreases-function l = 2 * l.here.now.depth
