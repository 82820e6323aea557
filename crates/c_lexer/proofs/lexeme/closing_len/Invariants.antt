use Rattle.std.proofs.Common.{◌≡◌}
use Rattle.c_lexer.specs.Lexeme.{closing_len}
use Rattle.c_lexer.proofs.Closings.{closing_from}
use Rattle.c_lexer.proofs.lexeme.closing_len.Given as goal

abbrev pub invariant-loop-i : goal.invariant-loop-i
invariant-loop-i l = closing_len l.text ≡ closing_from l.i l.text
