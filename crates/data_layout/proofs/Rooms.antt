-- The homes of a good assignment, by the rooms of the objects.
use Rattle.std.proofs.Common.{◌≡◌, ℕ, ◌+◌, ◌%◌, ◌<◌, ◌≤◌, Bool, true, false, List, arith, length, get_or, refl, sym, ap, subst, ◌∙◌, inl, inr}
use Rattle.std.specs.Prelude.{Option, Some, None, if◌then◌else◌}
use Rattle.std.proofs.lemmas.Bool.{cases_lt}
use Rattle.std.proofs.lemmas.Option.{slice_get_past, get_or_from_slice_get}
use Rattle.operator_meaning.specs.declared.object.Object.{Object}
use Rattle.register_allocation.specs.declared.claim.Claim.{Claim}
use Rattle.register_allocation.specs.declared.home.Home.{Home}
use Rattle.register_allocation.specs.declared.home.Home.TheVariants.{Slot, Register}
use Rattle.register_allocation.specs.declared.home.Homes.{Homes}
use Rattle.register_allocation.specs.declared.table.Room.{Room}
use Rattle.register_allocation.specs.Claims.{claim_of, claim_where}
use Rattle.register_allocation.specs.Homes.{home_of, home_where}
use Rattle.register_allocation.specs.Good.{HasSlot, SlotsFit, bytes_where, slot_bytes}
use Rattle.register_allocation.specs.Tables.{AreRooms, room_of}
use Rattle.data_layout.specs.Homes.{home_end, room_end, EndsRight, EndRight, IsBehind}
use Rattle.data_layout.specs.Slots.{home_in, home_at}

-- ---- the bytes of slots

bytes-whole_if : (view : Bool) → (if view then 12 else 4) % 4 ≡ 0
bytes-whole_if true = refl
bytes-whole_if false = refl

bytes-whole : (claim : Option Claim) → bytes_where claim % 4 ≡ 0
bytes-whole None = refl
bytes-whole (Some claim) = bytes-whole_if claim.view

bytes-enough_if : (view : Bool) → 4 ≤ (if view then 12 else 4)
bytes-enough_if true = omega arith
bytes-enough_if false = omega arith

bytes-enough_where : (objects : List Object) (lists : List Homes) (number : ℕ) (home : Home) (claim : Option Claim) → home_where objects lists number claim ≡ Some home → 4 ≤ bytes_where claim
bytes-enough_where objects lists number home None at = let no : None ≡ Some home = at in cc
bytes-enough_where objects lists number home (Some claim) at = bytes-enough_if claim.view

module _ (objects : List Object) (lists : List Homes) where
  -- what has a home has room for a word
  pub bytes-enough : (number : ℕ) (home : Home) → home_of objects lists number ≡ Some home → 4 ≤ slot_bytes objects number
  bytes-enough number home at = bytes-enough_where objects lists number home (claim_of objects number) at

  no-home : (number : ℕ) → length objects ≤ number → home_of objects lists number ≡ None
  no-home number past = ap (λ (object : Option Object). home_where objects lists number (claim_where objects number object)) (slice_get_past objects number past)

  pub home-within : (number : ℕ) (home : Home) → home_of objects lists number ≡ Some home → number < length objects
  home-within number home at = elim (cases_lt number (length objects)) [
    | inl low ↦ low
    | inr past ↦ let no : None ≡ Some home = sym (no-home number past) ∙ at in cc
  ]

  module _ (rooms : List Room) (are : AreRooms objects lists rooms) where
    pub home-is : (number : ℕ) → home_at rooms number ≡ home_of objects lists number
    home-is number = elim (cases_lt number (length objects)) [
      | inl low ↦ ap home_in (are.each number low)
      | inr past ↦ ap home_in (slice_get_past rooms number (omega (arith, are.count))) ∙ sym (no-home number past)
    ]

    -- what holds of each room holds of the room of each object
    room-is : (number : ℕ) (d : Room) → number < length objects → get_or rooms number d ≡ room_of objects lists number
    room-is number d low = get_or_from_slice_get rooms number (room_of objects lists number) d (are.each number low)

    pub behind-homes : (end : ℕ) → IsBehind rooms end → (number from : ℕ) → HasSlot objects lists number from → from + slot_bytes objects number ≤ end
    behind-homes end behind number from at =
        let low = home-within number (Slot from) at in
        let room = room_of objects lists number in
        let ends = behind.behind number room (omega (arith, are.count)) in
        subst (λ (home : Option Home). home_end (slot_bytes objects number) home ≤ end) at
        (subst (λ (r : Room). room_end r ≤ end) (room-is number room low) ends)

    ends-right : SlotsFit objects lists → (number : ℕ) (home : Option Home) → home_of objects lists number ≡ home → EndsRight (home_end (slot_bytes objects number) home)
    ends-right fit number None at = record { whole = refl; within = omega arith }
    ends-right fit number (Some (Register register)) at = record { whole = refl; within = omega arith }
    ends-right fit number (Some (Slot from)) at =
        let lies = fit number from at in
        record { whole = omega (arith, lies.aligned, bytes-whole (claim_of objects number)); within = lies.within }

    pub end-right : SlotsFit objects lists → EndRight rooms
    end-right fit = λ number d low.
        subst (λ (r : Room). EndsRight (room_end r)) (sym (room-is number d (omega (arith, are.count)))) (ends-right fit number (home_of objects lists number) refl)
