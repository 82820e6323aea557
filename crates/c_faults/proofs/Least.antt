-- The first fault of a list is the least of it.
use Rattle.std.proofs.Common.{◌≡◌, ℕ, List, [], ◌∷◌, Bool, true, false, cond, Option, Some, None, refl, arith}
use Rattle.std.specs.Prelude.{MatchOption}
use Rattle.std.specs.List.{Contains}
use Rattle.std.proofs.lemmas.Bool.Decides.{nat_tests}
use Rattle.std.proofs.lemmas.List.Elements.{All-nil, All-cons, All-weaker, Contains-push, Contains-append_left, Contains-append_right}
use Rattle.sat_base.specs.declared.fault.Fault.{Fault}
use Rattle.sat_base.specs.Faults.{rank_of, is_before, lesser}
use Rattle.c_faults.specs.Laws.{IsLeast}
use Rattle.c_faults.specs.Told.{first_of}
use Rattle.c_faults.proofs.Firsts.{below, not_before}

not_itself : (t r : ℕ) → below t r t r ≡ false
not_itself t r = grind (arith, nat_tests)

not_both : (t r u s : ℕ) → below u s t r ≡ true → below t r u s ≡ false
not_both t r u s first = grind (arith, nat_tests)

itself : (f : Fault) → is_before f f ≡ false
itself f = not_itself f.tok (rank_of f.kind)

other : (f g : Fault) → is_before g f ≡ true → is_before f g ≡ false
other f g = not_both f.tok (rank_of f.kind) g.tok (rank_of g.kind)

head : (f : Fault) (rest : List Fault) → Contains (f ∷ rest) f
head f rest = Contains-append_left (f ∷ []) rest f (Contains-push [] f)

tail : (f g : Fault) (rest : List Fault) → Contains rest g → Contains (f ∷ rest) g
tail f g rest there = Contains-append_right (f ∷ []) rest g there

alone : (f : Fault) → IsLeast (f ∷ []) f
alone f = record { among = head f []; least = All-cons (λ x. is_before x f ≡ false) f [] (itself f) (All-nil (λ x. is_before x f ≡ false)) }

of_two : (f g : Fault) (rest : List Fault) (b : Bool) → is_before g f ≡ b → IsLeast rest g → MatchOption (cond b (Some g) (Some f)) (f ∷ rest ≡ []) (IsLeast (f ∷ rest))
of_two f g rest true before is = record { among = tail f g rest is.among; least = All-cons (λ x. is_before x g ≡ false) f rest (other f g before) is.least }
of_two f g rest false after is =
    record { among = head f rest; least = All-cons (λ x. is_before x f ≡ false) f rest (itself f) (All-weaker (λ x. is_before x g ≡ false) (λ x. is_before x f ≡ false) (λ x not. not_before f g x after not) rest is.least) }

one_more : (f : Fault) (rest : List Fault) (o : Option Fault) → MatchOption o (rest ≡ []) (IsLeast rest) → MatchOption (lesser (Some f) o) (f ∷ rest ≡ []) (IsLeast (f ∷ rest))
one_more f rest None none = rw none (alone f)
one_more f rest (Some g) is = of_two f g rest (is_before g f) refl is

pub first-least : (faults : List Fault) → MatchOption (first_of faults) (faults ≡ []) (IsLeast faults)
first-least [] = refl
first-least (f ∷ rest) = one_more f rest (first_of rest) (first-least rest)
