-- The value of a number is the one that its digits write.
use Rattle.std.proofs.Common.{◌≡◌, ◌≢◌, ℕ, ◌+◌, ◌*◌, ◌-◌, ◌≤◌, ◌<◌, Bool, true, false, eqb, leb, ltb, ◌&&◌, ◌||◌, List, [], ◌∷◌, ◌++◌, length, Option, Some, None, ℤ, pos, refl, sym, ap, subst, ◌∙◌, ◌⊎◌, inl, inr, arith}
use Rattle.std.specs.Prelude.{◌-ℤ◌}
use Rattle.std.specs.Char.{digit_value, is_digit}
use Rattle.std.specs.List.{list_all, fold}
use Rattle.std.specs.Option.{option_map}
use Rattle.std.specs.Str.Parse.{digits_value, digits_value_after}
use Rattle.std.proofs.lemmas.Bool.{cases_Bool, and_parts, and_from, or_cases, eqb-true, leb-true, false≢true, true≢false, cases_lt}
use Rattle.std.proofs.lemmas.Bool.Decides.{nat_tests}
use Rattle.std.proofs.lemmas.List.{append_assoc, length-append}
use Rattle.std.proofs.lemmas.List.Folds.{list_all-append}
use Rattle.std.proofs.lemmas.Option.{none-some, same_Some}
use Rattle.std.proofs.Math.Seq.{get_or-append_seam, take-append_seam}
use Rattle.c_lexer.specs.Number.{numeral, without_suffix, signed_pattern, octal_or_decimal, digits_number, number_value}
use Rattle.c_lexer.specs.PlainLaws.{is_digit_below, is_sixteenth, value_of_digit, written, IsWritten, Decimal, Octal, Hexadecimal, Negative, IsNumber, Short, Long, ValuesOfNumbers}

-- ---- digits

tenth : (c : ℕ) → is_digit c 10 ≡ is_digit_below 10 c
tenth c = grind (arith, nat_tests)

eighth : (c : ℕ) → is_digit c 8 ≡ is_digit_below 8 c
eighth c = grind (arith, nat_tests)

sixteenth : (c : ℕ) → is_digit c 16 ≡ is_sixteenth c
sixteenth c = grind (arith, nat_tests)

value : (c : ℕ) → is_sixteenth c ≡ true → digit_value c ≡ value_of_digit c
value c is = grind (arith, nat_tests)

from_tenth : (c : ℕ) → is_digit_below 10 c ≡ true → is_sixteenth c ≡ true
from_tenth c is = grind (arith, nat_tests)

from_eighth : (c : ℕ) → is_digit_below 8 c ≡ true → is_sixteenth c ≡ true
from_eighth c is = grind (arith, nat_tests)

every : (p q : ℕ → Bool) → ((c : ℕ) → p c ≡ q c) → (cs : List ℕ) → list_all p cs ≡ list_all q cs
every p q same [] = refl
every p q same (c ∷ cs) = rw (same c, every p q same cs) refl

looser : (p q : ℕ → Bool) → ((c : ℕ) → p c ≡ true → q c ≡ true) → (cs : List ℕ) → list_all p cs ≡ true → list_all q cs ≡ true
looser p q more [] all = refl
looser p q more (c ∷ cs) all = let both = and_parts (p c) (list_all p cs) all in and_from (q c) (list_all q cs) (more c both.0) (looser p q more cs both.1)

written_from : (radix n : ℕ) (cs : List ℕ) → list_all is_sixteenth cs ≡ true → digits_value_after radix n cs ≡ fold (λ m c. m * radix + value_of_digit c) n cs
written_from radix n [] all = refl
written_from radix n (c ∷ cs) all =
    let both = and_parts (is_sixteenth c) (list_all is_sixteenth cs) all in
    ap (λ m. digits_value_after radix (n * radix + m) cs) (value c both.0) ∙ written_from radix (n * radix + value_of_digit c) cs both.1

-- ---- numerals

record Numeral (radix most : ℕ) (digits : List ℕ) (n : ℕ) : Type 0 where
  pub some : 0 < length digits
  pub all : list_all (λ c. is_digit c radix) digits ≡ true
  pub value : digits_value radix digits ≡ n
  pub within : n ≤ most

numeral_of : (radix most : ℕ) (digits : List ℕ) (n : ℕ) → numeral radix most digits ≡ Some n → Numeral radix most digits n
unfolding numeral
numeral_of radix most digits n e =
    elim (cases_Bool (ltb 0 (length digits) && list_all (λ c. is_digit c radix) digits && leb (digits_value radix digits) most)) [
      | inl is ↦
          let same = same_Some (digits_value radix digits) n (rw is at e) in
          let outer = and_parts (ltb 0 (length digits) && list_all (λ c. is_digit c radix) digits) (leb (digits_value radix digits) most) is in
          let inner = and_parts (ltb 0 (length digits)) (list_all (λ c. is_digit c radix) digits) outer.0 in
          let some = inner.0 in let small = outer.1 in
          record { some = grind (arith, nat_tests); all = inner.1; value = same; within = subst (λ m. m ≤ most) same (leb-true (digits_value radix digits) most small) }
      | inr other ↦ absurd (none-some n (rw other at e))
    ]

of_numeral : (radix most : ℕ) (digits : List ℕ) (n : ℕ) → Numeral radix most digits n → numeral radix most digits ≡ Some n
unfolding numeral
of_numeral radix most digits n is =
    let some : ltb 0 (length digits) ≡ true = let s = is.some in grind (arith, nat_tests) in
    let all = is.all in
    let value = is.value in
    let small : leb n most ≡ true = let w = is.within in grind (arith, nat_tests) in
    rw (some, all, value, small) refl

-- what these digits write, and what numerals make of them
read_digits : (radix most n first : ℕ) (more : List ℕ) (test : ℕ → Bool) → ((c : ℕ) → is_digit c radix ≡ test c) → ((c : ℕ) → test c ≡ true → is_sixteenth c ≡ true)
    → list_all test (first ∷ more) ≡ true → written radix (first ∷ more) ≡ n → n ≤ most → numeral radix most (first ∷ more) ≡ Some n
read_digits radix most n first more test same wide all value small =
    of_numeral radix most (first ∷ more) n (record {
      some = omega arith;
      all = every (λ c. is_digit c radix) test same (first ∷ more) ∙ all;
      value = written_from radix 0 (first ∷ more) (looser test is_sixteenth wide (first ∷ more) all) ∙ value;
      within = small;
    })

record Digits (radix most n : ℕ) (test : ℕ → Bool) (digits : List ℕ) : Type 0 where
  pub all : list_all test digits ≡ true
  pub value : written radix digits ≡ n
  pub within : n ≤ most

write_digits : (radix most n : ℕ) (digits : List ℕ) (test : ℕ → Bool) → ((c : ℕ) → is_digit c radix ≡ test c) → ((c : ℕ) → test c ≡ true → is_sixteenth c ≡ true) → numeral radix most digits ≡ Some n
    → Digits radix most n test digits
write_digits radix most n digits test same wide e =
    let is = numeral_of radix most digits n e in
    let all = sym (every (λ c. is_digit c radix) test same digits) ∙ is.all in
    record { all = all; value = sym (written_from radix 0 digits (looser test is_sixteenth wide digits all)) ∙ is.value; within = is.within }

-- ---- numbers without an `L`

no_letter : (c : ℕ) → is_sixteenth c ≡ true → (eqb c 120 || eqb c 88) ≡ false
no_letter c is = grind (arith, nat_tests)

plain_decimal : (first : ℕ) (more : List ℕ) → first ≢ 48 → digits_number (first ∷ more) ≡ option_map pos (numeral 10 2147483647 (first ∷ more))
unfolding digits_number octal_or_decimal
plain_decimal first more ne =
    let other : eqb first 48 ≡ false = grind (arith, nat_tests) in
    elim (cases_Bool (ltb 1 (length (first ∷ more)))) [
      | inl long ↦ rw (long, other) refl
      | inr short ↦ rw (short) refl
    ]

two : (a b : ℕ) (cs : List ℕ) → ltb 1 (length (a ∷ b ∷ cs)) ≡ true
two a b cs = grind (arith, nat_tests)

plain_octal : (second : ℕ) (more : List ℕ) → (eqb second 120 || eqb second 88) ≡ false → digits_number (48 ∷ second ∷ more) ≡ option_map pos (numeral 8 2147483647 (second ∷ more))
unfolding digits_number octal_or_decimal
plain_octal second more other = let long = two 48 second more in rw (long, other) refl

plain_hexadecimal : (x : ℕ) (more : List ℕ) → (eqb x 120 || eqb x 88) ≡ true → digits_number (48 ∷ x ∷ more) ≡ option_map signed_pattern (numeral 16 4294967295 more)
unfolding digits_number
plain_hexadecimal x more is = let long = two 48 x more in rw (long, is) refl

plain_zero : digits_number (48 ∷ []) ≡ Some (pos 0)
unfolding digits_number octal_or_decimal numeral
plain_zero = refl

pattern_low : (n : ℕ) → n ≤ 2147483647 → signed_pattern n ≡ pos n
pattern_low n low = let small : ltb n 2147483648 ≡ true = grind (arith, nat_tests) in rw small refl

pattern_high : (n : ℕ) → 2147483648 ≤ n → signed_pattern n ≡ pos n -ℤ pos 4294967296
pattern_high n high = let large : ltb n 2147483648 ≡ false = grind (arith, nat_tests) in rw large refl

is_x : (x : ℕ) → (x ≡ 120) ⊎ (x ≡ 88) → (eqb x 120 || eqb x 88) ≡ true
is_x x (inl e) = rw e refl
is_x x (inr e) = rw e refl

x_is : (x : ℕ) → (eqb x 120 || eqb x 88) ≡ true → (x ≡ 120) ⊎ (x ≡ 88)
x_is x e = elim (or_cases (eqb x 120) (eqb x 88) e) [ inl small ↦ inl (eqb-true x 120 small) | inr large ↦ inr (eqb-true x 88 large) ]

no_x : (second : ℕ) (more : List ℕ) → list_all (is_digit_below 8) (second ∷ more) ≡ true → (eqb second 120 || eqb second 88) ≡ false
no_x second more all = no_letter second (from_eighth second (and_parts (is_digit_below 8 second) (list_all (is_digit_below 8) more) all).0)

read : (digits : List ℕ) (v : ℤ) → IsWritten digits v → digits_number digits ≡ Some v
read _ _ (Decimal {first = first} {more = more} {n = n} starts all value small) =
    let both = and_parts (leb 49 first) (leb first 57) starts in
    let digit : is_digit_below 10 first ≡ true = let a = both.0 in let b = both.1 in grind (arith, nat_tests) in
    let ne : first ≢ 48 = λ e. false≢true (subst (λ c. (leb 49 c && leb c 57) ≡ true) e starts) in
    plain_decimal first more ne ∙ ap (option_map pos) (read_digits 10 2147483647 n first more (is_digit_below 10) tenth from_tenth (and_from (is_digit_below 10 first) (list_all (is_digit_below 10) more) digit all) value small)
read _ _ (Octal {digits = []} {n = n} all value small) = plain_zero ∙ ap (λ m. Some (pos m)) value
read _ _ (Octal {digits = second ∷ more} {n = n} all value small) =
    plain_octal second more (no_x second more all) ∙ ap (option_map pos) (read_digits 8 2147483647 n second more (is_digit_below 8) eighth from_eighth all value small)
read _ _ (Hexadecimal {x = x} {first = first} {more = more} {n = n} is all value small) =
    plain_hexadecimal x (first ∷ more) (is_x x is) ∙ ap (option_map signed_pattern) (read_digits 16 4294967295 n first more is_sixteenth sixteenth (λ c e. e) all value (omega (arith, small))) ∙ ap (λ m. Some m) (pattern_low n small)
read _ _ (Negative {x = x} {first = first} {more = more} {n = n} is all value large small) =
    plain_hexadecimal x (first ∷ more) (is_x x is) ∙ ap (option_map signed_pattern) (read_digits 16 4294967295 n first more is_sixteenth sixteenth (λ c e. e) all value small) ∙ ap (λ m. Some m) (pattern_high n large)

mapped_some : (f : ℕ → ℤ) (o : Option ℕ) (v : ℤ) → option_map f o ≡ Some v → (n : ℕ) × (o ≡ Some n) × (f n ≡ v)
mapped_some f None v e = absurd (none-some v e)
mapped_some f (Some n) v e = (n, refl, same_Some (f n) v e)

none_empty : (v : ℤ) → digits_number [] ≡ Some v → ⊥
unfolding digits_number octal_or_decimal numeral
none_empty v e = none-some v e

write_decimal : (first : ℕ) (more : List ℕ) (v : ℤ) → first ≢ 48 → digits_number (first ∷ more) ≡ Some v → IsWritten (first ∷ more) v
write_decimal first more v ne e =
    let m = mapped_some pos (numeral 10 2147483647 (first ∷ more)) v (sym (plain_decimal first more ne) ∙ e) in
    let is = write_digits 10 2147483647 m.0 (first ∷ more) (is_digit_below 10) tenth from_tenth m.1 in
    let both = and_parts (is_digit_below 10 first) (list_all (is_digit_below 10) more) is.all in
    let starts : (leb 49 first && leb first 57) ≡ true = let digit = both.0 in grind (arith, nat_tests) in
    subst (IsWritten (first ∷ more)) m.2 (Decimal starts both.1 is.value is.within)

write_octal : (second : ℕ) (more : List ℕ) (v : ℤ) → (eqb second 120 || eqb second 88) ≡ false → digits_number (48 ∷ second ∷ more) ≡ Some v → IsWritten (48 ∷ second ∷ more) v
write_octal second more v other e =
    let m = mapped_some pos (numeral 8 2147483647 (second ∷ more)) v (sym (plain_octal second more other) ∙ e) in
    let is = write_digits 8 2147483647 m.0 (second ∷ more) (is_digit_below 8) eighth from_eighth m.1 in
    subst (IsWritten (48 ∷ second ∷ more)) m.2 (Octal is.all is.value is.within)

write_hexadecimal : (x : ℕ) (more : List ℕ) (v : ℤ) → (eqb x 120 || eqb x 88) ≡ true → digits_number (48 ∷ x ∷ more) ≡ Some v → IsWritten (48 ∷ x ∷ more) v
write_hexadecimal x more v is_hex e = by more m.1 where
  m : (n : ℕ) × (numeral 16 4294967295 more ≡ Some n) × (signed_pattern n ≡ v)
  m = mapped_some signed_pattern (numeral 16 4294967295 more) v (sym (plain_hexadecimal x more is_hex) ∙ e)

  by : (more : List ℕ) → numeral 16 4294967295 more ≡ Some m.0 → IsWritten (48 ∷ x ∷ more) v
  by [] f = absurd (omega (arith, (numeral_of 16 4294967295 [] m.0 f).some))
  by (first ∷ rest) f =
      let is = write_digits 16 4294967295 m.0 (first ∷ rest) is_sixteenth sixteenth (λ c g. g) f in
      elim (cases_lt 2147483647 m.0) [
        | inl high ↦ subst (IsWritten (48 ∷ x ∷ first ∷ rest)) (sym (pattern_high m.0 (omega (arith, high))) ∙ m.2) (Negative (x_is x is_hex) is.all is.value (omega (arith, high)) is.within)
        | inr low ↦ subst (IsWritten (48 ∷ x ∷ first ∷ rest)) (sym (pattern_low m.0 low) ∙ m.2) (Hexadecimal (x_is x is_hex) is.all is.value low)
      ]

write_zero : (more : List ℕ) (v : ℤ) → digits_number (48 ∷ more) ≡ Some v → IsWritten (48 ∷ more) v
write_zero [] v e = subst (IsWritten (48 ∷ [])) (same_Some (pos 0) v (sym plain_zero ∙ e)) (Octal refl refl (omega arith))
write_zero (second ∷ more) v e =
    elim (cases_Bool (eqb second 120 || eqb second 88)) [
      | inl is_hex ↦ write_hexadecimal second more v is_hex e
      | inr other ↦ write_octal second more v other e
    ]

write : (digits : List ℕ) (v : ℤ) → digits_number digits ≡ Some v → IsWritten digits v
write [] v e = absurd (none_empty v e)
write (first ∷ more) v e =
    elim (cases_Bool (eqb first 48)) [
      | inl zero ↦ let is = eqb-true first 48 zero in subst (λ c. IsWritten (c ∷ more) v) (sym is) (write_zero more v (subst (λ c. digits_number (c ∷ more) ≡ Some v) is e))
      | inr other ↦ write_decimal first more v (λ is. true≢false (rw is at other)) e
    ]

-- ---- the `L`

abbrev is_letter : ℕ → Bool
is_letter c = eqb c 76 || eqb c 108

-- what is before the last byte, and that byte
last_of : (x : ℕ) (xs : List ℕ) → (s : List ℕ × ℕ) × (x ∷ xs ≡ s.0 ++ s.1 ∷ [])
last_of x [] = (([], x), refl)
last_of x (y ∷ ys) = let r = last_of y ys in ((x ∷ r.0.0, r.0.1), ap (λ zs. x ∷ zs) r.1)

at_last : (front : List ℕ) (l : ℕ) → (length (front ++ l ∷ []) - 1 ≡ length front) × (ltb 0 (length (front ++ l ∷ [])) ≡ true)
at_last front l = let e = length-append front (l ∷ []) in (omega (arith, e), let some : 0 < length (front ++ l ∷ []) = omega (arith, e) in grind (arith, nat_tests))

suffix_off : (front : List ℕ) (l : ℕ) → is_letter l ≡ true → without_suffix (front ++ l ∷ []) ≡ front
suffix_off front l is =
    let place = at_last front l in
    let last = place.0 in let some = place.1 in
    let at = get_or-append_seam front l [] 0 in
    rw (some, last, at, is) (take-append_seam front (l ∷ []))

no_suffix : (front : List ℕ) (l : ℕ) → is_letter l ≡ false → without_suffix (front ++ l ∷ []) ≡ front ++ l ∷ []
no_suffix front l other =
    let place = at_last front l in
    let last = place.0 in let some = place.1 in
    let at = get_or-append_seam front l [] 0 in
    rw (some, last, at, other) refl

no_l : (c : ℕ) → is_sixteenth c ≡ true → is_letter c ≡ false
no_l c is = grind (arith, nat_tests)

l_is : (l : ℕ) → (l ≡ 76) ⊎ (l ≡ 108) → is_letter l ≡ true
l_is l (inl e) = rw e refl
l_is l (inr e) = rw e refl

is_l : (l : ℕ) → is_letter l ≡ true → (l ≡ 76) ⊎ (l ≡ 108)
is_l l e = elim (or_cases (eqb l 76) (eqb l 108) e) [ inl large ↦ inl (eqb-true l 76 large) | inr small ↦ inr (eqb-true l 108 small) ]

kept : (before : List ℕ) (first : ℕ) (more : List ℕ) → list_all is_sixteenth (first ∷ more) ≡ true → without_suffix (before ++ first ∷ more) ≡ before ++ first ∷ more
kept before first more all =
    let s = last_of first more in
    let both = and_parts (list_all is_sixteenth s.0.0) (list_all is_sixteenth (s.0.1 ∷ [])) (sym (list_all-append is_sixteenth s.0.0 (s.0.1 ∷ [])) ∙ sym (ap (list_all is_sixteenth) s.1) ∙ all) in
    let digit = (and_parts (is_sixteenth s.0.1) true both.1).0 in
    let whole : before ++ first ∷ more ≡ (before ++ s.0.0) ++ s.0.1 ∷ [] = ap (λ cs. before ++ cs) s.1 ∙ sym (append_assoc before s.0.0 (s.0.1 ∷ [])) in
    ap without_suffix whole ∙ no_suffix (before ++ s.0.0) s.0.1 (no_l s.0.1 digit) ∙ sym whole

written_kept : (digits : List ℕ) (v : ℤ) → IsWritten digits v → without_suffix digits ≡ digits
written_kept _ _ (Decimal {first = first} {more = more} starts all value small) =
    let digit : is_sixteenth first ≡ true = grind (arith, nat_tests) in
    kept [] first more (and_from (is_sixteenth first) (list_all is_sixteenth more) digit (looser (is_digit_below 10) is_sixteenth from_tenth more all))
written_kept _ _ (Octal {digits = digits} all value small) =
    kept [] 48 digits (looser (is_digit_below 8) is_sixteenth from_eighth digits all)
written_kept _ _ (Hexadecimal {x = x} {first = first} {more = more} is all value small) = kept (48 ∷ x ∷ []) first more all
written_kept _ _ (Negative {x = x} {first = first} {more = more} is all value large small) = kept (48 ∷ x ∷ []) first more all

number_is_read : (bytes : List ℕ) (v : ℤ) → IsNumber bytes v → number_value bytes ≡ Some v
number_is_read bytes v (Short is) = ap digits_number (written_kept bytes v is) ∙ read bytes v is
number_is_read _ v (Long {digits = digits} {l = l} is ends) = ap digits_number (suffix_off digits l (l_is l ends)) ∙ read digits v is

number_is_written : (bytes : List ℕ) (v : ℤ) → number_value bytes ≡ Some v → IsNumber bytes v
number_is_written [] v e = absurd (none_empty v e)
number_is_written (x ∷ xs) v e =
    let s = last_of x xs in
    let known : number_value (s.0.0 ++ s.0.1 ∷ []) ≡ Some v = ap number_value (sym s.1) ∙ e in
    subst (λ bytes. IsNumber bytes v) (sym s.1) (elim (cases_Bool (is_letter s.0.1)) [
      | inl letter ↦ Long (write s.0.0 v (sym (ap digits_number (suffix_off s.0.0 s.0.1 letter)) ∙ known)) (is_l s.0.1 letter)
      | inr other ↦ Short (write (s.0.0 ++ s.0.1 ∷ []) v (sym (ap digits_number (no_suffix s.0.0 s.0.1 other)) ∙ known))
    ])

pub values_of_numbers : ValuesOfNumbers
values_of_numbers bytes v = (number_is_written bytes v, number_is_read bytes v)
