-- What the lists say, by the numbers of the objects.
use Rattle.std.proofs.Common.{◌≡◌, ℕ, zero, suc, ◌+◌, ◌<◌, ◌≤◌, Bool, true, false, List, [], ◌∷◌, ◌++◌, arith, length, get_or, sym, ap, ◌∙◌, inl, inr}
use Rattle.std.specs.Prelude.{Option, Some, None, ◌==◌, if◌then◌else◌, slice_get}
use Rattle.std.proofs.lemmas.Bool.{cases_lt}
use Rattle.std.proofs.lemmas.Option.{slice_get-get_or}
use Rattle.std.proofs.Math.Numerals.{add-one}
use Rattle.operator_meaning.specs.declared.object.Object.{Object}
use Rattle.register_allocation.specs.declared.home.Home.{Home}
use Rattle.register_allocation.specs.declared.home.Homes.{Homes}
use Rattle.register_allocation.specs.declared.claim.Claim.{Claim}
use Rattle.register_allocation.specs.declared.spans.Span.{Span}
use Rattle.register_allocation.specs.declared.table.Room.{Room}
use Rattle.register_allocation.specs.Claims.{claim_of}
use Rattle.register_allocation.specs.Homes.{homes_at, homes_where, counts_for, homes_before, home_of, home_where}
use Rattle.register_allocation.specs.Collected.{one_or_none, collected}
use Rattle.register_allocation.specs.Overlaps.{span_of_home, span_where, span_at}
use Rattle.register_allocation.proofs.Places.{get-front, get-end}
use Rattle.register_allocation.proofs.Lists.{no-list}

-- ---- counts

counts-if : (own : Bool) → (if own then 1 else 0) ≤ 1
counts-if true = omega arith
counts-if false = omega arith

counts-few : (function : ℕ) (claim : Option Claim) → counts_for function claim ≤ 1
counts-few function None = omega arith
counts-few function (Some claim) = counts-if (claim.function == function)

-- no list has more homes than there are objects
pub homes-few : (objects : List Object) (function number : ℕ) → homes_before objects function number ≤ number
homes-few objects function zero = omega arith
homes-few objects function (suc number) = omega (arith, homes-few objects function number, counts-few function (claim_of objects number))

-- ---- the home of an object, at its place

pub home-there : (objects : List Object) (lists : List Homes) (number : ℕ) (claim : Claim) (list : Homes) (place : ℕ) → Some claim ≡ claim_of objects number → claim.function < length lists
    → list ≡ get_or lists claim.function list → place ≡ homes_before objects claim.function number → slice_get list.homes place ≡ home_of objects lists number
home-there objects lists number claim list place is low at stands =
    let got : homes_at lists claim.function ≡ list.homes = ap homes_where (slice_get-get_or lists claim.function list low ∙ ap Some (sym at)) in
    ap (slice_get list.homes) stands ∙ ap (λ (homes : List Home). slice_get homes (homes_before objects claim.function number)) (sym got)
    ∙ ap (home_where objects lists number) is

pub no-home : (objects : List Object) (lists : List Homes) (number : ℕ) (claim : Claim) → Some claim ≡ claim_of objects number → length lists ≤ claim.function
    → None ≡ home_of objects lists number
no-home objects lists number claim is past =
    ap (λ (homes : List Home). slice_get homes (homes_before objects claim.function number)) (sym (no-list lists claim.function past)) ∙ ap (home_where objects lists number) is

-- ---- one more

-- what holds of each place holds when a list has one item more
pub each-more : {A : Type 0} (at : ℕ → A) (xs : List A) (number : ℕ) (x : A) → length xs ≡ number → ((k : ℕ) → k < number → slice_get xs k ≡ Some (at k)) → x ≡ at number
    → (k : ℕ) → k < number + 1 → slice_get (xs ++ x ∷ []) k ≡ Some (at k)
each-more at xs number x count each is k low = elim (cases_lt k number) [
  | inl below ↦ get-front xs (x ∷ []) k (at k) (each k below)
  | inr above ↦
      let last : k ≡ length xs = omega arith in
      ap (slice_get (xs ++ x ∷ [])) last ∙ get-end xs x ∙ ap Some (is ∙ ap at (sym count ∙ sym last))
]

pub spans-more : (rooms : List Room) (index : ℕ) (room : Room) (span : Option Span) (spans new : List Span) → index < length rooms → span ≡ span_of_home (get_or rooms index room).bytes (get_or rooms index room).home
    → spans ≡ collected (span_at rooms) index → new ≡ spans ++ one_or_none span → new ≡ collected (span_at rooms) (index + 1)
spans-more rooms index room span spans new low is all more =
    let own : span ≡ span_at rooms index = is ∙ ap span_where (sym (slice_get-get_or rooms index room low)) in
    rw add-one (more ∙ ap (λ (xs : List Span). xs ++ one_or_none span) all ∙ ap (λ (o : Option Span). collected (span_at rooms) index ++ one_or_none o) own)
