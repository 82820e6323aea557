-- Each object that asks for a home has one in a good assignment.
use Rattle.std.proofs.Common.{◌≡◌, ℕ, zero, suc, ◌<◌, ◌≤◌, Bool, List, arith, length, get_or, refl, ap, ◌∙◌, inl, inr}
use Rattle.std.specs.Prelude.{Some, if◌then◌else◌}
use Rattle.std.proofs.lemmas.Bool.{cases_lt, eq-eqb}
use Rattle.std.proofs.lemmas.Option.{slice_get-get_or}
use Rattle.operator_meaning.specs.declared.object.Object.{Object}
use Rattle.ir_arena.specs.Tree.{IrWhole}
use Rattle.register_allocation.specs.declared.home.Home.TheVariants.{Slot}
use Rattle.register_allocation.specs.declared.home.Homes.{Homes}
use Rattle.register_allocation.specs.declared.claim.Claim.{Claim}
use Rattle.register_allocation.specs.Claims.{claim_of}
use Rattle.register_allocation.specs.Homes.{homes_at, counts_for, homes_before, home_where}
use Rattle.register_allocation.specs.Good.{AreComplete}
use Rattle.register_allocation.specs.Laws.{EachHasHome}
use Rattle.register_allocation.proofs.Laying.{claim-within}

homes-rise : (objects : List Object) (function number total : ℕ) → number ≤ total → homes_before objects function number ≤ homes_before objects function total
homes-rise objects function number zero low = let none : number ≡ 0 = omega arith in rw none (omega arith)
homes-rise objects function number (suc total) low = elim (cases_lt number (suc total)) [
  | inl below ↦ let rest = homes-rise objects function number total (omega arith) in omega arith
  | inr above ↦ let last : number ≡ suc total = omega arith in rw last (omega arith)
]

own-counts : (objects : List Object) (number : ℕ) (claim : Claim) → claim_of objects number ≡ Some claim → counts_for claim.function (claim_of objects number) ≡ 1
own-counts objects number claim asks =
    ap (counts_for claim.function) asks ∙ ap (λ (own : Bool). if own then 1 else 0) (eq-eqb claim.function claim.function refl)

pub each-has-home : (tree : IrWhole) (lists : List Homes) → AreComplete tree.objects (length tree.functions) lists → EachHasHome tree lists
each-has-home tree lists complete number claim asks low =
    let objects = tree.objects in
    let place = homes_before objects claim.function number in
    let more = homes-rise objects claim.function (suc number) (length objects) (omega (arith, claim-within objects number claim asks)) in
    let stands : place < length (homes_at lists claim.function) = omega (arith, own-counts objects number claim asks, more, complete.by_object claim.function low) in
    (get_or (homes_at lists claim.function) place (Slot 0), ap (home_where objects lists number) asks ∙ slice_get-get_or (homes_at lists claim.function) place (Slot 0) stands)
