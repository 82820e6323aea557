-- What is proved of reading expressions.
use Rattle.std.specs.Prelude.{ℕ}
use Rattle.right_reading.specs.RightExpressions.{RightExpressions}

-- types, expressions, places and arguments are read rightly, whatever the limit
abbrev pub ExpressionsAreRead : Type 0
ExpressionsAreRead = (n : ℕ) → RightExpressions n
