-- What the loop over the tokens keeps.
use Rattle.std.proofs.Common.{◌≡◌, ◌+◌, length, ◌++◌, All}
use Rattle.std.specs.Prelude.{map}
use Rattle.c_lexer.specs.Spans.{LiesIn}
use Rattle.c_grammar.specs.Spots.{seen, spots_from, spots_of}
use Rattle.c_grammar.proofs.spot.spots.Given as goal

-- those that are made, and those that are left, are all of them
abbrev pub invariant-loop-left : goal.invariant-loop-left
invariant-loop-left l = record {
  same : map seen l.spots.items ++ spots_from l.fn.tokens.text (length l.spots.items) l.left ≡ spots_of l.fn.tokens;
  count : length l.spots.items + length l.left ≡ length l.fn.tokens.list;
  within : All (LiesIn l.fn.tokens.text) l.left;
}

abbrev pub decreases-loop-left : goal.decreases-loop-left
decreases-loop-left l = length l.left
