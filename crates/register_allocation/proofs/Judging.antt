-- An assignment is good where the lists are full, each home is a slot that lies right, and the slots overlap nowhere.
use Rattle.std.proofs.Common.{◌≡◌, ◌≢◌, ℕ, ◌+◌, ◌%◌, ◌<◌, Bool, true, false, List, arith, length, get_or, refl, sym, ap, ◌∙◌, inl, inr, subst}
use Rattle.std.specs.Prelude.{Option, Some, None, ◌==◌, not, nat_le, if◌then◌else◌, slice_get}
use Rattle.std.specs.List.{IsDistinct, list_all}
use Rattle.std.proofs.lemmas.Bool.{cases_order, eqb-true, eq-eqb, leb-true, le-leb, and_parts, and_from, and_cases, not-false, true≢false}
use Rattle.std.proofs.lemmas.List.Sums.{AllPass-from_list_all, list_all-from_AllPass}
use Rattle.std.proofs.lemmas.Map.Keys.{IsDistinct-from_apart, apart_from_distinct}
use Rattle.std.proofs.lemmas.Option.{slice_get_within, slice_get-get_or, get_or_from_slice_get}
use Rattle.operator_meaning.specs.declared.object.Object.{Object}
use Rattle.ir_arena.specs.Tree.{IrWhole}
use Rattle.register_allocation.specs.declared.home.Home.{Home}
use Rattle.register_allocation.specs.declared.home.Home.TheVariants.{Slot, Register}
use Rattle.register_allocation.specs.declared.home.Homes.{Homes}
use Rattle.register_allocation.specs.declared.claim.Claim.{Claim}
use Rattle.register_allocation.specs.declared.spans.Span.{Span}
use Rattle.register_allocation.specs.declared.table.Room.{Room}
use Rattle.register_allocation.specs.Claims.{claim_of}
use Rattle.register_allocation.specs.Homes.{homes_at, homes_before, home_of, home_where}
use Rattle.register_allocation.specs.Good.{slots_end, slot_bytes, bytes_where, AreAllSlots, LieApart, SlotsFit, SlotsAreApart, IsGoodAssignment}
use Rattle.register_allocation.specs.Collected.{collected}
use Rattle.register_allocation.specs.Tables.{AreRooms, room_of}
use Rattle.register_allocation.specs.Overlaps.{lies_right, home_lies_right, span_of_home, span_where, span_at, spans_of, HaveBytes, precedes, overlaps}
use Rattle.register_allocation.proofs.Places.{at-place, places-rise, IsGivenBy, given-at}
use Rattle.register_allocation.proofs.Laying.{claim-within}
use Rattle.register_allocation.proofs.Sorting.{overlaps-flips, apart-by}

-- ---- what has a home asks for one

record HasHome (objects : List Object) (lists : List Homes) (number : ℕ) : Type 0 where
  pub claim : Claim
  pub asks : claim_of objects number ≡ Some claim
  pub within : number < length objects

has-home_where : (objects : List Object) (lists : List Homes) (number : ℕ) (home : Home) (claim : Option Claim) → claim_of objects number ≡ claim → home_where objects lists number claim ≡ Some home → HasHome objects lists number
has-home_where objects lists number home None is at = let no : None ≡ Some home = at in cc
has-home_where objects lists number home (Some claim) is at = record { claim = claim; asks = is; within = claim-within objects number claim is }

has-home : (objects : List Object) (lists : List Homes) (number : ℕ) (home : Home) → home_of objects lists number ≡ Some home → HasHome objects lists number
has-home objects lists number home at = has-home_where objects lists number home (claim_of objects number) refl at

filled-if : (view : Bool) → 0 < (if view then 12 else 4)
filled-if true = omega arith
filled-if false = omega arith

has-bytes : (objects : List Object) (lists : List Homes) (number : ℕ) (home : Home) → home_of objects lists number ≡ Some home → 0 < slot_bytes objects number
has-bytes objects lists number home at =
    let has = has-home objects lists number home at in
    subst (λ (claim : Option Claim). 0 < bytes_where claim) (sym has.asks) (filled-if has.claim.view)

-- a register stands in some list
in-list : (objects : List Object) (lists : List Homes) (number register : ℕ) → AreAllSlots lists → home_of objects lists number ≡ Some (Register register) → ⊥
in-list objects lists number register slots at =
    let has = has-home objects lists number (Register register) at in
    slots has.claim.function (homes_before objects has.claim.function number) register (sym (ap (home_where objects lists number) has.asks) ∙ at)

-- ---- two slots

apart-of : (one other : Span) → overlaps one other ≡ false → LieApart one.from one.bytes other.from other.bytes
apart-of one other apart = elim (and_cases (not (precedes one other)) (not (precedes other one)) apart) [
  | inl this ↦ inl (leb-true (one.from + one.bytes) other.from (not-false (precedes one other) this))
  | inr that ↦ inr (leb-true (other.from + other.bytes) one.from (not-false (precedes other one) that))
]

overlap-not : (one other : Span) (bytes other_bytes : ℕ) → one.bytes ≡ bytes → other.bytes ≡ other_bytes → LieApart one.from bytes other.from other_bytes → overlaps one other ≡ false
overlap-not one other bytes other_bytes is other_is (inl low) = apart-by one other (le-leb (one.from + one.bytes) other.from (omega arith))
overlap-not one other bytes other_bytes is other_is (inr high) = overlaps-flips one other ∙ apart-by other one (le-leb (other.from + other.bytes) one.from (omega arith))

-- ---- homes and rooms

module _ (objects : List Object) (lists : List Homes) (rooms : List Room) (are : AreRooms objects lists rooms) where
  room-of : (number : ℕ) (home : Home) → home_of objects lists number ≡ Some home → slice_get rooms number ≡ Some (record { home = Some home; bytes = slot_bytes objects number })
  room-of number home at =
      are.each number (has-home objects lists number home at).within ∙ ap (λ (o : Option Home). Some (record { home = o; bytes = slot_bytes objects number })) at

  span-of : (number from : ℕ) → home_of objects lists number ≡ Some (Slot from) → span_at rooms number ≡ Some (record { from = from; bytes = slot_bytes objects number })
  span-of number from at = ap span_where (room-of number (Slot from) at)

  -- the home that a slot is
  span-home : (number : ℕ) (home : Option Home) (span : Span) → span_of_home (slot_bytes objects number) home ≡ Some span → (home ≡ Some (Slot span.from)) × (span.bytes ≡ slot_bytes objects number)
  span-home number None span is = let no : None ≡ Some span = is in cc
  span-home number (Some (Register register)) span is = let no : None ≡ Some span = is in cc
  span-home number (Some (Slot from)) span is =
      let same : Some (record { from = from; bytes = slot_bytes objects number }) ≡ Some span = is in
      let own : record { from = from; bytes = slot_bytes objects number } ≡ span = cc in
      (ap (λ (s : Span). Some (Slot s.from)) own, sym (ap (λ (s : Span). s.bytes) own))

  span-is : (number : ℕ) (span : Span) → number < length rooms → span_at rooms number ≡ Some span → (home_of objects lists number ≡ Some (Slot span.from)) × (span.bytes ≡ slot_bytes objects number)
  span-is number span low is = span-home number (home_of objects lists number) span (sym (ap span_where (are.each number (omega (arith, are.count)))) ∙ is)

  -- ---- from the answers to the assignment

  lies-right : list_all lies_right rooms ≡ true → (number : ℕ) (home : Home) → home_of objects lists number ≡ Some home → home_lies_right (slot_bytes objects number) (Some home) ≡ true
  lies-right all number home at =
      let room : Room = record { home = Some home; bytes = slot_bytes objects number } in
      let there = room-of number home at in
      ap lies_right (sym (get_or_from_slice_get rooms number room room there)) ∙ AllPass-from_list_all lies_right rooms all number room (slice_get_within rooms number room there)

  no-register : list_all lies_right rooms ≡ true → (number register : ℕ) → home_of objects lists number ≡ Some (Register register) → ⊥
  no-register all number register at = true≢false (sym (lies-right all number (Register register) at))

  slots-fit : list_all lies_right rooms ≡ true → SlotsFit objects lists
  slots-fit all number from at =
      let both = and_parts (from % 4 == 0) (nat_le (from + slot_bytes objects number) slots_end) (lies-right all number (Slot from) at) in
      record { aligned = eqb-true (from % 4) 0 both.0; within = leb-true (from + slot_bytes objects number) slots_end both.1 }

  slots-in-order : IsDistinct overlaps (spans_of rooms) → (one other from other_from : ℕ) → one < other → home_of objects lists one ≡ Some (Slot from) → home_of objects lists other ≡ Some (Slot other_from)
      → overlaps (record { from = from; bytes = slot_bytes objects one }) (record { from = other_from; bytes = slot_bytes objects other }) ≡ false
  slots-in-order distinct one other from other_from low at other_at =
      let span : Span = record { from = from; bytes = slot_bytes objects one } in
      let other_span : Span = record { from = other_from; bytes = slot_bytes objects other } in
      let given = span_at rooms in
      let within : other < length rooms = omega (arith, are.count, (has-home objects lists other (Slot other_from) other_at).within) in
      let stands = at-place given one (length rooms) span (span-of one from at) (omega arith) in
      let other_stands = at-place given other (length rooms) other_span (span-of other other_from other_at) within in
      let apart = apart_from_distinct overlaps (spans_of rooms) (length (collected given one)) (length (collected given other)) span distinct
      (places-rise given one other span (span-of one from at) low) (slice_get_within (spans_of rooms) (length (collected given other)) other_span other_stands) in
      ap (λ (s : Span). overlaps s other_span) (sym (get_or_from_slice_get (spans_of rooms) (length (collected given one)) span span stands))
      ∙ ap (overlaps (get_or (spans_of rooms) (length (collected given one)) span)) (sym (get_or_from_slice_get (spans_of rooms) (length (collected given other)) other_span span other_stands))
      ∙ apart

  -- ---- and back

  fits-each : SlotsFit objects lists → AreAllSlots lists → (number : ℕ) (home : Option Home) → home_of objects lists number ≡ home → home_lies_right (slot_bytes objects number) home ≡ true
  fits-each fit slots number None at = refl
  fits-each fit slots number (Some (Register register)) at = absurd (in-list objects lists number register slots at)
  fits-each fit slots number (Some (Slot from)) at =
      let lies = fit number from at in
      and_from (from % 4 == 0) (nat_le (from + slot_bytes objects number) slots_end) (eq-eqb (from % 4) 0 lies.aligned) (le-leb (from + slot_bytes objects number) slots_end lies.within)

  pub all-fit : SlotsFit objects lists → AreAllSlots lists → list_all lies_right rooms ≡ true
  all-fit fit slots =
      list_all-from_AllPass lies_right rooms (λ number d low.
      let same : Some (get_or rooms number d) ≡ Some (room_of objects lists number) = sym (slice_get-get_or rooms number d low) ∙ are.each number (omega (arith, are.count)) in
      let room : get_or rooms number d ≡ room_of objects lists number = cc in
      ap lies_right room ∙ fits-each fit slots number (home_of objects lists number) refl)

  abbrev GivenSpan : ℕ → Span → Type 0
  GivenSpan place span = IsGivenBy (span_at rooms) (length rooms) place span

  given-span : (place : ℕ) (d : Span) → place < length (spans_of rooms) → GivenSpan place (get_or (spans_of rooms) place d)
  given-span place d low = given-at (span_at rooms) (length rooms) place (get_or (spans_of rooms) place d) (slice_get-get_or (spans_of rooms) place d low)

  pub all-apart : SlotsAreApart objects lists → IsDistinct overlaps (spans_of rooms)
  all-apart apart =
      IsDistinct-from_apart overlaps (spans_of rooms) (λ place later d low within.
      let span = get_or (spans_of rooms) place d in
      let next = get_or (spans_of rooms) later d in
      let by = given-span place d (omega arith) in
      let next_by = given-span later d within in
      let home = span-is by.number span by.below by.gives in
      let next_home = span-is next_by.number next next_by.below next_by.gives in
      let differ : by.number ≢ next_by.number = λ same. absurd (omega (arith, by.stands, next_by.stands, ap (λ n. length (collected (span_at rooms) n)) same)) in
      overlap-not span next (slot_bytes objects by.number) (slot_bytes objects next_by.number) home.1 next_home.1 (apart by.number next_by.number span.from next.from differ home.0 next_home.0))

  pub have-bytes : HaveBytes (spans_of rooms)
  have-bytes place d low =
      let span = get_or (spans_of rooms) place d in
      let by = given-span place d low in
      let home = span-is by.number span by.below by.gives in
      omega (arith, home.1, has-bytes objects lists by.number (Slot span.from) home.0)

-- ---- the whole

pub good-when : (tree : IrWhole) (lists : List Homes) (rooms : List Room) → AreRooms tree.objects lists rooms → length lists ≡ length tree.functions
    → ((f : ℕ) → f < length lists → length (homes_at lists f) ≡ homes_before tree.objects f (length tree.objects)) → list_all lies_right rooms ≡ true → IsDistinct overlaps (spans_of rooms)
    → IsGoodAssignment tree (record { functions = lists })
good-when tree lists rooms are count full fit distinct =
    let objects = tree.objects in
    let no = no-register objects lists rooms are fit in
    let order = slots-in-order objects lists rooms are distinct in
    record {
      complete = record {
        by_function = count;
        by_object = λ f low. full f (omega arith);
        not_views = λ number register at. absurd (no number register at);
        among_six = λ number register at. absurd (no number register at);
      };
      registers = record {
        conflicting = λ function one other register ne at other_at conflict. no one register at;
        across_calls = λ function number register at live. no number register at;
      };
      slots_fit = slots-fit objects lists rooms are fit;
      slots_apart = λ one other from other_from ne at other_at.
          let span : Span = record { from = from; bytes = slot_bytes objects one } in
          let next : Span = record { from = other_from; bytes = slot_bytes objects other } in
          elim (cases_order one other) [
            | inl same ↦ absurd (ne same)
            | inr (inl low) ↦ apart-of span next (order one other from other_from low at other_at)
            | inr (inr high) ↦ apart-of span next (overlaps-flips span next ∙ order other one other_from from high other_at at)
          ];
    }

pub moved-rooms : (objects shown : List Object) (lists all : List Homes) (rooms : List Room) → shown ≡ objects → all ≡ lists → AreRooms shown all rooms → AreRooms objects lists rooms
moved-rooms objects shown lists all rooms shows is are = subst (λ (os : List Object). AreRooms os lists rooms) shows (subst (λ (ls : List Homes). AreRooms shown ls rooms) is are)
