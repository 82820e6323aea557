-- Slots one behind the other are a good assignment.
use Rattle.std.proofs.Common.{◌≡◌, ℕ, zero, suc, ◌+◌, ◌%◌, ◌<◌, ◌≤◌, Bool, true, false, List, arith, length, refl, sym, ap, ◌∙◌, inl, inr, subst}
use Rattle.std.specs.Prelude.{Option, Some, None, ◌==◌, ◌⊎◌, if◌then◌else◌, slice_get}
use Rattle.std.proofs.lemmas.Bool.{cases_lt, cases_order, eq-eqb}
use Rattle.std.proofs.lemmas.List.{length-append}
use Rattle.std.proofs.lemmas.Option.{slice_get_within}
use Rattle.operator_meaning.specs.declared.object.Object.{Object}
use Rattle.ir_arena.specs.Tree.{IrWhole}
use Rattle.register_allocation.specs.declared.home.Home.{Home}
use Rattle.register_allocation.specs.declared.home.Home.TheVariants.{Slot, Register}
use Rattle.register_allocation.specs.declared.home.Homes.{Homes}
use Rattle.register_allocation.specs.declared.claim.Claim.{Claim}
use Rattle.register_allocation.specs.Claims.{claim_of, claim_where}
use Rattle.register_allocation.specs.Homes.{homes_at, counts_for, homes_before, home_of, home_where}
use Rattle.register_allocation.specs.Good.{slots_end, slot_bytes, bytes_where, AreAllSlots, IsGoodAssignment}
use Rattle.register_allocation.specs.Collected.{one_or_none, collected}
use Rattle.register_allocation.specs.Laid.{bytes_before, slot_for, slot_in}
use Rattle.register_allocation.proofs.Places.{at-place, given-at}
use Rattle.register_allocation.proofs.Lists.{no-list}

-- ---- what asks for a home is an object

claim-there : (objects : List Object) (number : ℕ) (claim : Claim) (object : Option Object) → slice_get objects number ≡ object → claim_where objects number object ≡ Some claim → number < length objects
claim-there objects number claim None at is = let no : None ≡ Some claim = is in cc
claim-there objects number claim (Some object) at is = slice_get_within objects number object at

pub claim-within : (objects : List Object) (number : ℕ) (claim : Claim) → claim_of objects number ≡ Some claim → number < length objects
claim-within objects number claim is = claim-there objects number claim (slice_get objects number) refl is

-- ---- the list of each function

slot-counts_if : (own : Bool) (home : Home) → length (one_or_none (if own then Some home else None)) ≡ (if own then 1 else 0)
slot-counts_if true home = refl
slot-counts_if false home = refl

slot-counts : (function from : ℕ) (claim : Option Claim) → length (one_or_none (slot_for function from claim)) ≡ counts_for function claim
slot-counts function from None = refl
slot-counts function from (Some claim) = slot-counts_if (claim.function == function) (Slot from)

slots-count : (objects : List Object) (function number : ℕ) → length (collected (slot_in objects function) number) ≡ homes_before objects function number
slots-count objects function zero = refl
slots-count objects function (suc number) =
    length-append (collected (slot_in objects function) number) (one_or_none (slot_in objects function number))
    ∙ ap (λ n. n + length (one_or_none (slot_in objects function number))) (slots-count objects function number)
    ∙ ap (λ n. homes_before objects function number + n) (slot-counts function (bytes_before objects number) (claim_of objects number))

slot-if : (own : Bool) (from register : ℕ) → (if own then Some (Slot from) else None) ≡ Some (Register register) → ⊥
slot-if true from register is = let no : Some (Slot from) ≡ Some (Register register) = is in cc
slot-if false from register is = let no : None ≡ Some (Register register) = is in cc

slot-is : (function from register : ℕ) (claim : Option Claim) → slot_for function from claim ≡ Some (Register register) → ⊥
slot-is function from register None is = let no : None ≡ Some (Register register) = is in cc
slot-is function from register (Some claim) is = slot-if (claim.function == function) from register is

-- each list has the slots of the objects of its function
abbrev pub AreLaid : List Object → List Homes → Type 0
AreLaid objects lists = (function : ℕ) → function < length lists → homes_at lists function ≡ collected (slot_in objects function) (length objects)

-- ---- the bytes

abbrev AreFew : ℕ → Type 0
AreFew bytes = (bytes ≡ 0) ⊎ ((bytes ≡ 4) ⊎ (bytes ≡ 12))

few-if : (view : Bool) → AreFew (if view then 12 else 4)
few-if true = inr (inr refl)
few-if false = inr (inl refl)

bytes-few : (claim : Option Claim) → AreFew (bytes_where claim)
bytes-few None = inl refl
bytes-few (Some claim) = few-if claim.view

bytes-aligned : (objects : List Object) (number : ℕ) → bytes_before objects number % 4 ≡ 0
bytes-aligned objects zero = refl
bytes-aligned objects (suc number) =
    let before = bytes-aligned objects number in
    elim (bytes-few (claim_of objects number)) [ inl none ↦ omega arith | inr (inl four) ↦ omega arith | inr (inr twelve) ↦ omega arith ]

bytes-rise : (objects : List Object) (number total : ℕ) → number ≤ total → bytes_before objects number ≤ bytes_before objects total
bytes-rise objects number zero low = let none : number ≡ 0 = omega arith in rw none (omega arith)
bytes-rise objects number (suc total) low = elim (cases_lt number (suc total)) [
  | inl below ↦ let rest = bytes-rise objects number total (omega arith) in omega arith
  | inr above ↦ let last : number ≡ suc total = omega arith in rw last (omega arith)
]

-- ---- where each object lives

laid-slot : (objects : List Object) (lists : List Homes) (number : ℕ) (claim : Claim) → AreLaid objects lists → claim_of objects number ≡ Some claim → claim.function < length lists
    → home_of objects lists number ≡ Some (Slot (bytes_before objects number))
laid-slot objects lists number claim laid is low =
    let given = slot_in objects claim.function in
    let slot = Slot (bytes_before objects number) in
    let gives : given number ≡ Some slot =
    ap (slot_for claim.function (bytes_before objects number)) is ∙ ap (λ (own : Bool). if own then Some slot else None) (eq-eqb claim.function claim.function refl) in
    ap (home_where objects lists number) is ∙ ap (λ (homes : List Home). slice_get homes (homes_before objects claim.function number)) (laid claim.function low)
    ∙ ap (slice_get (collected given (length objects))) (sym (slots-count objects claim.function number))
    ∙ at-place given number (length objects) slot gives (claim-within objects number claim is)

laid-there : (objects : List Object) (lists : List Homes) (number : ℕ) (home : Home) (claim : Option Claim) → AreLaid objects lists → claim_of objects number ≡ claim
    → home_where objects lists number claim ≡ Some home → (home ≡ Slot (bytes_before objects number)) × (number < length objects)
laid-there objects lists number home None laid is at = let no : None ≡ Some home = at in cc
laid-there objects lists number home (Some claim) laid is at = elim (cases_lt claim.function (length lists)) [
  | inl low ↦
      let slot = laid-slot objects lists number claim laid is low in
      let same : Some home ≡ Some (Slot (bytes_before objects number)) = sym at ∙ (sym (ap (home_where objects lists number) is) ∙ slot) in
      (cc, claim-within objects number claim is)
  | inr past ↦ let no : None ≡ Some home = sym (ap (λ (homes : List Home). slice_get homes (homes_before objects claim.function number)) (no-list lists claim.function past)) ∙ at in cc
]

laid-only : (objects : List Object) (lists : List Homes) (number : ℕ) (home : Home) → AreLaid objects lists → home_of objects lists number ≡ Some home
    → (home ≡ Slot (bytes_before objects number)) × (number < length objects)
laid-only objects lists number home laid at = laid-there objects lists number home (claim_of objects number) laid refl at

no-register : (objects : List Object) (lists : List Homes) (number register : ℕ) → AreLaid objects lists → home_of objects lists number ≡ Some (Register register) → ⊥
no-register objects lists number register laid at = let only = (laid-only objects lists number (Register register) laid at).0 in cc

laid-from : (objects : List Object) (lists : List Homes) (number from : ℕ) → AreLaid objects lists → home_of objects lists number ≡ Some (Slot from)
    → (from ≡ bytes_before objects number) × (number < length objects)
laid-from objects lists number from laid at =
    let only = laid-only objects lists number (Slot from) laid at in
    let same : Slot from ≡ Slot (bytes_before objects number) = only.0 in
    (cc, only.1)

-- ---- all of it

laid-in-order : (objects : List Object) (one other from other_from : ℕ) → from ≡ bytes_before objects one → other_from ≡ bytes_before objects other → one < other
    → from + slot_bytes objects one ≤ other_from
laid-in-order objects one other from other_from is other_is low = let rise = bytes-rise objects (suc one) other (omega arith) in omega arith

pub laid-slots : (objects : List Object) (lists : List Homes) → AreLaid objects lists → AreAllSlots lists
laid-slots objects lists laid function place register at = elim (cases_lt function (length lists)) [
  | inl low ↦
      let by = given-at (slot_in objects function) (length objects) place (Register register) (ap (λ (homes : List Home). slice_get homes place) (sym (laid function low)) ∙ at) in
      slot-is function (bytes_before objects by.number) register (claim_of objects by.number) by.gives
  | inr past ↦ let no : None ≡ Some (Register register) = sym (ap (λ (homes : List Home). slice_get homes place) (no-list lists function past)) ∙ at in cc
]

pub laid-good : (tree : IrWhole) (lists : List Homes) → length lists ≡ length tree.functions → AreLaid tree.objects lists → bytes_before tree.objects (length tree.objects) ≤ slots_end
    → IsGoodAssignment tree (record { functions = lists })
laid-good tree lists count laid few =
    let objects = tree.objects in
    record {
      complete = record {
        by_function = count;
        by_object = λ function low. ap length (laid function (omega arith)) ∙ slots-count objects function (length objects);
        not_views = λ number register at. absurd (no-register objects lists number register laid at);
        among_six = λ number register at. absurd (no-register objects lists number register laid at);
      };
      registers = record {
        conflicting = λ function one other register ne at other_at conflict. no-register objects lists one register laid at;
        across_calls = λ function number register at live. no-register objects lists number register laid at;
      };
      slots_fit = λ number from at.
          let there = laid-from objects lists number from laid at in
          let rise = bytes-rise objects (suc number) (length objects) (omega (arith, there.1)) in
          record { aligned = rw there.0 (bytes-aligned objects number); within = omega (arith, there.0, rise) };
      slots_apart = λ one other from other_from ne at other_at.
          let there = laid-from objects lists one from laid at in
          let other_there = laid-from objects lists other other_from laid other_at in
          elim (cases_order one other) [
            | inl same ↦ absurd (ne same)
            | inr (inl low) ↦ inl (laid-in-order objects one other from other_from there.0 other_there.0 low)
            | inr (inr high) ↦ inr (laid-in-order objects other one other_from from other_there.0 there.0 high)
          ];
    }

-- as the loop ends
pub laid-end : (objects shown : List Object) (lists result : List Homes) (number : ℕ) → shown ≡ objects → result ≡ lists → number ≡ length shown
    → ((f : ℕ) → f < length lists → homes_at lists f ≡ collected (slot_in shown f) number) → AreLaid objects result
laid-end objects shown lists result number shows is all filled =
    subst (λ (l : List Homes). AreLaid objects l) (sym is)
    (λ f low. filled f low ∙ ap (λ (os : List Object). collected (slot_in os f) number) shows ∙ ap (collected (slot_in objects f)) (all ∙ ap length shows))

pub few-end : (objects shown : List Object) (number end : ℕ) → shown ≡ objects → number ≡ length shown → end ≡ bytes_before shown number → end ≤ slots_end
    → bytes_before objects (length objects) ≤ slots_end
few-end objects shown number end shows all placed within =
    let same : end ≡ bytes_before objects (length objects) = placed ∙ ap (λ (os : List Object). bytes_before os number) shows ∙ ap (bytes_before objects) (all ∙ ap length shows) in
    omega arith
