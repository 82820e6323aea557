use Rattle.std.proofs.Common.{◌≡◌, ◌-◌, length}
use Rattle.c_lexer.proofs.Cutting.{Reached}
use Rattle.c_lexer.proofs.lexer.tokens.Given as goal

abbrev pub invariant-loop-at : goal.invariant-loop-at
invariant-loop-at l = record {
  text : l.at.text.now ≡ l.text;
  reached : Reached l.text l.lexer l.at.at;
}

abbrev pub decreases-loop-at : goal.decreases-loop-at
decreases-loop-at l = length l.text - l.at.at
