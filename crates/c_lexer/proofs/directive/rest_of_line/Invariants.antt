use Rattle.std.proofs.Common.{◌-◌, length, map}
use Rattle.c_lexer.specs.Views.{part_of}
use Rattle.c_lexer.proofs.Lines.{IsReadTo}
use Rattle.c_lexer.proofs.directive.rest_of_line.Given as goal

abbrev pub invariant-loop-piece : goal.invariant-loop-piece
invariant-loop-piece l = IsReadTo l.text (map part_of l.parts.items) l.spaced l.len

abbrev pub decreases-loop-piece : goal.decreases-loop-piece
decreases-loop-piece l = length l.text - l.len
