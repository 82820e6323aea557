use Rattle.std.proofs.Common.{◌≡◌, ◌≤◌, ◌+◌, ◌*◌, ◌^◌, All, take, drop, length}
use Rattle.command_words.specs.Numbers.{IsDigit, number_in}
use Rattle.command_words.proofs.numbers.spelled.Given as goal

abbrev pub invariant-loop-digit : goal.invariant-loop-digit
invariant-loop-digit l = record {
  digits : All IsDigit (take l.digit-index l.digits);
  fits : l.number ≤ 18446744073709551615;
  value : l.number * 10 ^ length (drop l.digit-index l.digits) + number_in (drop l.digit-index l.digits) ≡ number_in l.digits;
}
