use Rattle.std.proofs.Common.{◌≡◌, ◌≤◌, drop}
use Rattle.c_lexer.specs.Number.{numeral}
use Rattle.c_lexer.proofs.Numerals.{numeral_from}
use Rattle.c_lexer.proofs.number.numeral.Given as goal

abbrev pub invariant-loop-digit : goal.invariant-loop-digit
invariant-loop-digit l = record {
  so_far : numeral l.radix l.most l.digits ≡ numeral_from l.radix l.most l.value (drop l.digit-index l.digits);
  small : l.value ≤ l.most;
}
