-- Numbers, read from one digit to the next.
use Rattle.std.proofs.Common.{◌≡◌, ℕ, suc, ◌+◌, ◌*◌, ◌≤◌, ◌<◌, ◌&&◌, leb, List, [], ◌∷◌, length, drop, get_or, Option, Some, None, refl, ◌∙◌, arith, if◌then◌else◌}
use Rattle.std.specs.List.{list_all}
use Rattle.std.specs.Char.{digit_value, is_digit}
use Rattle.std.specs.Str.Parse.{digits_value_after}
use Rattle.std.proofs.lemmas.Bool.Decides.{nat_tests}
use Rattle.std.proofs.Math.Nat.{le-mul_of_pos_right}
use Rattle.std.proofs.Math.Seq.{drop-cons}
use Rattle.std.proofs.lemmas.List.{drop_all}
use Rattle.c_lexer.specs.Number.{numeral}

-- what the digits write when they follow those of v
unfoldable pub numeral_from : ℕ → ℕ → ℕ → List ℕ → Option ℕ
numeral_from radix most v ds = if list_all (λ c. is_digit c radix) ds && leb (digits_value_after radix v ds) most then Some (digits_value_after radix v ds) else None

pub numeral_empty : (radix most : ℕ) (ds : List ℕ) → length ds ≡ 0 → numeral radix most ds ≡ None
unfolding numeral
numeral_empty radix most [] empty = refl
numeral_empty radix most (d ∷ ds) empty = absurd (omega arith)

pub numeral_start : (radix most : ℕ) (ds : List ℕ) → 0 < length ds → numeral radix most ds ≡ numeral_from radix most 0 ds
unfolding numeral numeral_from
numeral_start radix most (d ∷ ds) filled = grind (arith, nat_tests)
numeral_start radix most [] filled = absurd (omega arith)

-- more digits make no number smaller
grows : (radix v : ℕ) (ds : List ℕ) → 0 < radix → v ≤ digits_value_after radix v ds
grows radix v [] some = omega arith
grows radix v (d ∷ ds) some =
    let first : v ≤ v * radix = le-mul_of_pos_right v some in
    let more = grows radix (v * radix + digit_value d) ds some in
    omega (arith, first, more)

at_digit : (radix most v : ℕ) (d : ℕ) (ds : List ℕ) → digit_value d < radix → numeral_from radix most v (d ∷ ds) ≡ numeral_from radix most (v * radix + digit_value d) ds
unfolding numeral_from
at_digit radix most v d ds below = grind (arith, nat_tests)

at_other : (radix most v : ℕ) (d : ℕ) (ds : List ℕ) → radix ≤ digit_value d → numeral_from radix most v (d ∷ ds) ≡ None
unfolding numeral_from
at_other radix most v d ds over = grind (arith, nat_tests)

at_large : (radix most v : ℕ) (ds : List ℕ) → 0 < radix → most < v → numeral_from radix most v ds ≡ None
unfolding numeral_from
at_large radix most v ds some over = let more = grows radix v ds some in grind (arith, nat_tests)

pub numeral_step : (radix most v i : ℕ) (ds : List ℕ) → i < length ds → digit_value (get_or ds i 0) < radix → numeral_from radix most v (drop i ds) ≡ numeral_from radix most (v * radix + digit_value (get_or ds i 0)) (drop (i + 1) ds)
numeral_step radix most v i ds inside below =
    let next : i + 1 ≡ suc i = omega arith in
    rw (drop-cons ds i 0 inside, next) (at_digit radix most v (get_or ds i 0) (drop (suc i) ds) below)

pub numeral_other : (radix most v i : ℕ) (ds : List ℕ) → i < length ds → radix ≤ digit_value (get_or ds i 0) → numeral_from radix most v (drop i ds) ≡ None
numeral_other radix most v i ds inside over = rw (drop-cons ds i 0 inside) (at_other radix most v (get_or ds i 0) (drop (suc i) ds) over)

pub numeral_large : (radix most v i : ℕ) (ds : List ℕ) → i < length ds → digit_value (get_or ds i 0) < radix → most < v * radix + digit_value (get_or ds i 0) → numeral_from radix most v (drop i ds) ≡ None
numeral_large radix most v i ds inside below over =
    numeral_step radix most v i ds inside below ∙ at_large radix most (v * radix + digit_value (get_or ds i 0)) (drop (i + 1) ds) (omega arith) over

at_end : (radix most v : ℕ) → v ≤ most → numeral_from radix most v [] ≡ Some v
unfolding numeral_from
at_end radix most v small = grind (arith, nat_tests)

pub numeral_end : (radix most v i : ℕ) (ds : List ℕ) → length ds ≤ i → v ≤ most → numeral_from radix most v (drop i ds) ≡ Some v
numeral_end radix most v i ds over small = rw (drop_all i ds over) (at_end radix most v small)

pub ruleset numerals = (numeral_empty, numeral_start, numeral_step, numeral_other, numeral_large, numeral_end)
