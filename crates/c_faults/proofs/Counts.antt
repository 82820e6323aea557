-- Counting up to a limit, one more at a time.
use Rattle.std.proofs.Common.{◌≡◌, ℕ, ◌+◌, ◌-◌, ◌<◌, ◌≤◌, List, ◌∷◌, true, false, Option, Some, None, get_or, drop, length, sym, ap, ◌∙◌, arith}
use Rattle.std.specs.Prelude.{SomeIff, ℤ}
use Rattle.std.specs.Ordering.{int_cmp}
use Rattle.std.specs.BTreeSet.{insert_key}
use Rattle.std.proofs.lemmas.Bool.{cond-true, cond-false}
use Rattle.std.proofs.lemmas.Bool.Decides.{nat_tests}
use Rattle.std.proofs.lemmas.List.{at_drop_more, at_drop_all}
use Rattle.sat_base.specs.declared.name.At.{At}
use Rattle.c_seen.specs.declared.seen.Seen.{Seen}
use Rattle.c_faults.specs.declared.limits.Quantity.{Quantity}
use Rattle.c_faults.specs.Limits.{amount, place, left_at, left_after, past_or, first_past, constant_in, is_one_too_many, count_constant, first_constant_past}

past-next : (q : Quantity) (left : ℕ) (xs : List Seen) (i : ℕ) (x : Seen) → i < length xs → x ≡ get_or xs i x →
    first_past q left (drop i xs) ≡ past_or (place x) (left_after (left_at q left x) (amount q x)) (λ still. first_past q still (drop (i + 1) xs))
past-next q left xs i x less is = at_drop_more (first_past q left) xs i x less ∙ ap (λ (y : Seen). first_past q left (y ∷ drop (i + 1) xs)) (sym is)

pub past-some : (q : Quantity) (left : ℕ) (xs : List Seen) (i : ℕ) (x : Seen) (still : ℕ) → i < length xs → x ≡ get_or xs i x → left_after (left_at q left x) (amount q x) ≡ Some still →
    first_past q left (drop i xs) ≡ first_past q still (drop (i + 1) xs)
past-some q left xs i x still less is after = past-next q left xs i x less is ∙ ap (λ (o : Option ℕ). past_or (place x) o (λ s. first_past q s (drop (i + 1) xs))) after

pub past-none : (q : Quantity) (left : ℕ) (xs : List Seen) (i : ℕ) (x : Seen) → i < length xs → x ≡ get_or xs i x → left_after (left_at q left x) (amount q x) ≡ None →
    first_past q left (drop i xs) ≡ Some (place x)
past-none q left xs i x less is after = past-next q left xs i x less is ∙ ap (λ (o : Option ℕ). past_or (place x) o (λ s. first_past q s (drop (i + 1) xs))) after

pub past-end : (q : Quantity) (left : ℕ) (xs : List Seen) (i : ℕ) → length xs ≤ i → first_past q left (drop i xs) ≡ None
past-end q left xs i more = at_drop_all (first_past q left) xs i more

-- a difference that is there exactly where nothing passes
pub left-Some : (left amount d : ℕ) → amount ≤ left → d ≡ left - amount → Some d ≡ left_after left amount
left-Some left amount d less is = grind (arith, nat_tests)

pub left-None : (left amount : ℕ) → left < amount → None ≡ left_after left amount
left-None left amount more = grind (arith, nat_tests)

pub left-checked : (r : Option ℕ) (left amount : ℕ) → SomeIff r (amount ≤ left) (left - amount) → r ≡ left_after left amount
left-checked None left amount none = left-None left amount (omega (arith, none))
left-checked (Some d) left amount some = left-Some left amount d some.0 some.1

-- one more that may be a constant
constant-next : (values : List ℤ) (xs : List Seen) (i : ℕ) (d : Seen) (c : Option (At × ℤ)) → i < length xs → constant_in (get_or xs i d) ≡ c →
    first_constant_past values (drop i xs) ≡ count_constant values c (λ more. first_constant_past more (drop (i + 1) xs))
constant-next values xs i d c less is =
    at_drop_more (first_constant_past values) xs i d less ∙ ap (λ (o : Option (At × ℤ)). count_constant values o (λ more. first_constant_past more (drop (i + 1) xs))) is

pub no_constant : (values : List ℤ) (xs : List Seen) (i : ℕ) (d : Seen) → i < length xs → constant_in (get_or xs i d) ≡ None → first_constant_past values (drop i xs) ≡ first_constant_past values (drop (i + 1) xs)
no_constant values xs i d less is = constant-next values xs i d None less is

pub counted-now : (values : List ℤ) (xs : List Seen) (i : ℕ) (d : Seen) (at : At) (value : ℤ) → i < length xs → constant_in (get_or xs i d) ≡ Some (at, value) → is_one_too_many values value ≡ false →
    first_constant_past values (drop i xs) ≡ first_constant_past (insert_key int_cmp values value) (drop (i + 1) xs)
counted-now values xs i d at value less is few = constant-next values xs i d (Some (at, value)) less is ∙ cond-false _ _ _ few

pub counted-past : (values : List ℤ) (xs : List Seen) (i : ℕ) (d : Seen) (at : At) (value : ℤ) → i < length xs → constant_in (get_or xs i d) ≡ Some (at, value) → is_one_too_many values value ≡ true →
    first_constant_past values (drop i xs) ≡ Some at
counted-past values xs i d at value less is many = constant-next values xs i d (Some (at, value)) less is ∙ cond-true _ _ _ many

pub constant-end : (values : List ℤ) (xs : List Seen) (i : ℕ) → length xs ≤ i → first_constant_past values (drop i xs) ≡ None
constant-end values xs i more = at_drop_all (first_constant_past values) xs i more

pub ruleset counts = (past-some, past-none, past-end, constant-end)
