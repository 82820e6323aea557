use Rattle.std.proofs.Common.{◌≡◌, ◌≤◌, ◌+◌, ◌-◌, ◌*◌, [], All, take, drop, get_or, length, sym, ap, ◌∙◌, subst, arith, eqb, false}
use Rattle.std.proofs.lemmas.Bool.Decides.{nat_tests}
use Rattle.std.proofs.lemmas.List.{take_more, take_all, nil_from_length, length-drop}
use Rattle.std.proofs.lemmas.List.Elements.{All-push, All-get_or}
use Rattle.command_words.specs.Numbers.{IsDigit, number_in}
use Rattle.command_words.proofs.Digits.{number_then, next_digit, not_less}
use Rattle.command_words.proofs.numbers.spelled.Goals as goal

pub loop-digit-preserved : goal.loop-digit-preserved
loop-digit-preserved c =
    let digits = c.as_bytes-digits.result.now in
    let i = c.loop-digit.digit-index in
    let digit = get_or digits i 0 in
    record {
      digits = subst (All IsDigit) (sym (take_more digits i 0 c.loop-digit-test.true)) (All-push IsDigit (take i digits) digit c.loop-digit.invariant.digits c.in_ok-number.ensures.digit);
      fits = c.in_ok-number.ensures.fits;
      value = ap (λ n. number_then n (drop (i + 1) digits)) c.in_ok-number.ensures.more ∙ sym (next_digit c.loop-digit.number i digits c.loop-digit-test.true)
          ∙ c.loop-digit.invariant.value;
    }

pub returns-in_err-number-clause-none : goal.returns-in_err-number-clause-none
returns-in_err-number-clause-none c =
    let digits = c.as_bytes-digits.result.now in
    let i = c.loop-digit.digit-index in
    let digit = get_or digits i 0 in
    let same = c.as_bytes-digits.ensures.value in
    rw c.from_residual.ensures (λ steps is.
    let own : IsDigit digit = All-get_or IsDigit digits i 0 c.loop-digit-test.true (subst (All IsDigit) (sym same) is.digits) in
    let great = c.in_err-number.ensures.none own in
    let value : number_then (c.loop-digit.number * 10 + (digit - 48)) (drop (i + 1) digits) ≡ number_in c.args.word.now =
    sym (next_digit c.loop-digit.number i digits c.loop-digit-test.true) ∙ c.loop-digit.invariant.value ∙ ap number_in same in
    let less = not_less (c.loop-digit.number * 10 + (digit - 48)) (drop (i + 1) digits) in
    let small = is.small in
    let spelled = is.value in
    absurd (omega (arith, great, value, less, small, spelled)))

pub returns-clause-found : goal.returns-clause-found
returns-clause-found c =
    let digits = c.as_bytes-digits.result.now in
    let i = c.loop-digit.digit-index in
    let same = c.as_bytes-digits.ensures.value in
    let empty : eqb (length digits) 0 ≡ false = sym c.is_empty.ensures ∙ c.if-is_empty.false in
    let some : 1 ≤ length digits = grind (arith, nat_tests) in
    let none : drop i digits ≡ [] = nil_from_length (drop i digits) (omega (arith, length-drop i digits)) in
    let value : number_then c.loop-digit.number [] ≡ number_in c.args.word.now =
    ap (number_then c.loop-digit.number) (sym none) ∙ c.loop-digit.invariant.value ∙ ap number_in same in
    record {
      some = omega (arith, some, ap length same);
      few = omega (arith, ap length same);
      digits = subst (All IsDigit) (take_all i digits c.loop-digit-test.false ∙ same) c.loop-digit.invariant.digits;
      value = omega (arith, value);
      small = c.loop-digit.invariant.fits;
    }
