-- How much of a quantity is seen, where it passes no limit.
use Rattle.std.proofs.Common.{◌≡◌, ℕ, ◌+◌, ◌-◌, ◌≤◌, List, [], ◌∷◌, ◌++◌, Bool, true, false, refl, sym, ap, ◌∙◌, arith}
use Rattle.std.specs.Prelude.{Option, Some, None, nat_lt, if◌then◌else◌}
use Rattle.std.proofs.lemmas.Bool.Decides.{nat_tests}
use Rattle.sat_base.specs.declared.name.At.{At}
use Rattle.c_seen.specs.declared.seen.Seen.{Seen}
use Rattle.c_faults.specs.declared.limits.Quantity.{Quantity}
use Rattle.c_faults.specs.Limits.{amount, place, left_at, past_or, first_past}
use Rattle.lawful_names.proofs.Clean.{never}
use Rattle.lawful_names.proofs.Totals.{total, total-append}

abbrev pub spent : Quantity → List Seen → ℕ
spent quantity list = total (amount quantity) list

pub spent-append : (quantity : Quantity) (xs ys : List Seen) → spent quantity (xs ++ ys) ≡ spent quantity xs + spent quantity ys
spent-append quantity xs ys = total-append (amount quantity) xs ys

past-by : (at : At) (left cost more : ℕ) (over : Bool) → nat_lt left cost ≡ over → (later : ℕ → Option At) → ((still : ℕ) → later still ≡ None → more ≤ still) → past_or at (if over then None else Some (left - cost)) later ≡ None → cost + more ≤ left
past-by at left cost more true is later few p = absurd (never at p)
past-by at left cost more false is later few p =
    let room : cost ≤ left = grind (arith, nat_tests) in
    let rest : more ≤ left - cost = few (left - cost) p in omega arith

-- of a quantity that is counted over the whole source
pub within-limit : (quantity : Quantity) → ((left : ℕ) (s : Seen) → left_at quantity left s ≡ left) → (left : ℕ) (list : List Seen) → first_past quantity left list ≡ None → spent quantity list ≤ left
within-limit quantity over left [] p = omega arith
within-limit quantity over left (s ∷ rest) p =
    past-by (place s) left (amount quantity s) (spent quantity rest) _ refl (λ still. first_past quantity still rest) (λ still. within-limit quantity over still rest)
    (ap (λ (n : ℕ). past_or (place s) (if nat_lt n (amount quantity s) then None else Some (n - amount quantity s)) (λ still. first_past quantity still rest)) (sym (over left s)) ∙ p)
