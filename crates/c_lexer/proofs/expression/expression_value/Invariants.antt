use Rattle.std.proofs.Common.{◌≡◌, drop, map}
use Rattle.c_lexer.specs.Expression.{after_parts, first_evaluation}
use Rattle.c_lexer.specs.Views.{part_of, names_of}
use Rattle.c_lexer.proofs.expression.expression_value.Given as goal

abbrev pub invariant-loop-part : goal.invariant-loop-part
invariant-loop-part l =
    after_parts (names_of l.names) first_evaluation (map part_of l.parts) ≡ after_parts (names_of l.names) l.evaluation (map part_of (drop l.part-index l.parts))
