-- Lists of homes: as they are made, and as a home is added to one of them.
use Rattle.std.proofs.Common.{◌≡◌, ◌≢◌, ℕ, zero, suc, ◌<◌, ◌≤◌, Bool, true, false, List, [], ◌∷◌, ◌++◌, arith, length, get_or, refl, sym, ap, ◌∙◌, inl, inr, subst}
use Rattle.std.specs.Prelude.{Some, None, ◌==◌, if◌then◌else◌, slice_get, slice_set}
use Rattle.std.proofs.lemmas.Bool.{cases_eq, eq-eqb, ne_eqb}
use Rattle.std.proofs.lemmas.List.{append-nil}
use Rattle.std.proofs.lemmas.Option.{slice_get_past, slice_get-get_or}
use Rattle.register_allocation.specs.declared.home.Home.{Home}
use Rattle.register_allocation.specs.declared.home.Homes.{Homes}
use Rattle.register_allocation.specs.Homes.{homes_at, homes_where}
use Rattle.register_allocation.specs.Collected.{one_or_none}
use Rattle.register_allocation.specs.Laid.{AreEmpty, AddsHome}

get-set_same : {A : Type 0} (xs : List A) (i : ℕ) (x : A) → i < length xs → slice_get (slice_set xs i x) i ≡ Some x
get-set_same [] i x low = absurd (omega arith)
get-set_same (y ∷ xs) zero x low = refl
get-set_same (y ∷ xs) (suc i) x low = get-set_same xs i x (omega arith)

get-set_other : {A : Type 0} (xs : List A) (i j : ℕ) (x : A) → j ≢ i → slice_get (slice_set xs i x) j ≡ slice_get xs j
get-set_other [] i j x other = refl
get-set_other (y ∷ xs) zero zero x other = absurd (other refl)
get-set_other (y ∷ xs) zero (suc j) x other = refl
get-set_other (y ∷ xs) (suc i) zero x other = refl
get-set_other (y ∷ xs) (suc i) (suc j) x other = get-set_other xs i j x (λ e. other (ap suc e))

pub empty-more : (lists : List Homes) (list : Homes) → list.homes ≡ [] → AreEmpty lists → AreEmpty (lists ++ list ∷ [])
empty-more [] list none empty zero = none
empty-more [] list none empty (suc f) = refl
empty-more (first ∷ lists) list none empty zero = empty 0
empty-more (first ∷ lists) list none empty (suc f) = empty-more lists list none (λ k. empty (suc k)) f

pub no-list : (lists : List Homes) (function : ℕ) → length lists ≤ function → homes_at lists function ≡ []
no-list lists function past = ap homes_where (slice_get_past lists function past)

if_own : (function f : ℕ) (home : Home) (own : Bool) → (function == f) ≡ own → one_or_none (if own then Some home else None) ≡ one_or_none (if function == f then Some home else None)
if_own function f home own is = ap (λ (t : Bool). one_or_none (if t then Some home else None)) (sym is)

pub home-added : (lists : List Homes) (function : ℕ) (home : Home) (homes : List Home) (list : Homes) → function < length lists
    → homes ≡ (get_or lists function list).homes ++ home ∷ [] → AddsHome lists (slice_set lists function (record { homes = homes })) function home
home-added lists function home homes list low is f bound =
    let new : Homes = record { homes = homes } in
    let got : slice_get lists function ≡ Some (get_or lists function list) = slice_get-get_or lists function list low in
    let this : homes_at (slice_set lists function new) function ≡ homes_at lists function ++ home ∷ [] =
    ap homes_where (get-set_same lists function new low) ∙ is ∙ ap (λ (xs : List Home). xs ++ home ∷ []) (sym (ap homes_where got)) in
    elim (cases_eq f function) [
      | inl same ↦
          subst (λ (k : ℕ). homes_at (slice_set lists function new) k ≡ homes_at lists k ++ one_or_none (if function == k then Some home else None)) (sym same)
          (this ∙ ap (λ (xs : List Home). homes_at lists function ++ xs) (if_own function function home true (eq-eqb function function refl)))
      | inr other ↦
          ap homes_where (get-set_other lists function f new other) ∙ sym (append-nil (homes_at lists f))
          ∙ ap (λ (xs : List Home). homes_at lists f ++ xs) (if_own function f home false (ne_eqb function f (λ e. other (sym e))))
    ]
