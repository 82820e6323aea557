-- The words of the variables: where they lie, that no two of them are one, and that a layout of them is laid out.
use Rattle.std.proofs.Common.{◌≡◌, ◌≢◌, ℕ, zero, suc, ◌+◌, ◌-◌, ◌*◌, ◌%◌, ◌<◌, ◌≤◌, ◌⊎◌, Bool, true, false, List, arith, length, refl, sym, ap, ◌∙◌, inl, inr}
use Rattle.std.specs.Prelude.{Option, Some, None, slice_get}
use Rattle.std.proofs.lemmas.Bool.{cases_lt, cases_order}
use Rattle.std.proofs.lemmas.Option.{slice_get_past, slice_get_within}
use Rattle.operator_meaning.specs.declared.object.Object.{Object}
use Rattle.code_stacks.specs.Places.{Layout, in_registers}
use Rattle.register_allocation.specs.declared.home.Home.{Home}
use Rattle.register_allocation.specs.declared.home.Home.TheVariants.{Slot, Register}
use Rattle.register_allocation.specs.declared.home.Homes.{Homes}
use Rattle.register_allocation.specs.declared.table.Room.{Room}
use Rattle.register_allocation.specs.Good.{HasSlot, SlotsFit, SlotsAreApart, LieApart, slot_bytes, slots_end}
use Rattle.register_allocation.specs.Tables.{AreRooms}
use Rattle.data_layout.specs.declared.layout.DataLayout.{DataLayout}
use Rattle.data_layout.specs.Homes.{IsBehind}
use Rattle.data_layout.specs.Laid.{IsLaidFor, HasVariables, KeepsHomes}
use Rattle.data_layout.specs.Layouts.{layout_of, has_slot, slot_in}
use Rattle.data_layout.specs.Slots.{scalar_where, is_scalar_at, home_at, slot_for, own_bytes, own_before, slot_at, AreSlots}
use Rattle.data_layout.proofs.Rooms.{bytes-enough, home-within, home-is, behind-homes}

-- ---- words of their own

own-few : (scalar : Bool) (home : Option Home) → (own_bytes scalar home ≡ 0) ⊎ (own_bytes scalar home ≡ 4)
own-few false home = inl refl
own-few true None = inr refl
own-few true (Some (Slot from)) = inl refl
own-few true (Some (Register register)) = inr refl

module _ (objects : List Object) (rooms : List Room) where
  own-whole : (number : ℕ) → own_before objects rooms number % 4 ≡ 0
  own-whole zero = refl
  own-whole (suc number) =
      let before = own-whole number in
      elim (own-few (is_scalar_at objects number) (home_at rooms number)) [ inl none ↦ omega arith | inr four ↦ omega arith ]

  own-rise : (number total : ℕ) → number ≤ total → own_before objects rooms number ≤ own_before objects rooms total
  own-rise number zero low = let none : number ≡ 0 = omega arith in rw none (omega arith)
  own-rise number (suc total) low = elim (cases_lt number (suc total)) [
    | inl below ↦ let rest = own-rise number total (omega arith) in omega arith
    | inr above ↦ let last : number ≡ suc total = omega arith in rw last (omega arith)
  ]

-- ---- the word of a variable

is-some : (found : Option (Option ℕ)) → has_slot found ≡ true → found ≡ Some (Some (slot_in found))
is-some None is = let no : false ≡ true = is in cc
is-some (Some None) is = let no : false ≡ true = is in cc
is-some (Some (Some slot)) is = refl

has-slot_if : (scalar : Bool) (next : ℕ) (home : Option Home) → has_slot (Some (slot_for scalar next home)) ≡ scalar
has-slot_if false next home = refl
has-slot_if true next None = refl
has-slot_if true next (Some (Slot from)) = refl
has-slot_if true next (Some (Register register)) = refl

module _ (objects : List Object) (lists : List Homes) (rooms : List Room) (are : AreRooms objects lists rooms) (taken : ℕ) where
  -- a word of its own is behind the slots of all homes
  pub record IsOwn (number slot : ℕ) : Type 0 where
    pub behind : slot ≡ taken + own_before objects rooms number
    pub takes : own_before objects rooms (suc number) ≡ own_before objects rooms number + 4

  abbrev pub IsWord : ℕ → ℕ → Type 0
  IsWord number slot = HasSlot objects lists number slot ⊎ IsOwn number slot

  word-if : (number slot : ℕ) (scalar : Bool) (home : Option Home) → is_scalar_at objects number ≡ scalar → home_at rooms number ≡ home
      → slot_for scalar (taken + own_before objects rooms number) home ≡ Some slot → IsWord number slot
  word-if number slot false home scalar at is = let no : None ≡ Some slot = is in cc
  word-if number slot true (Some (Slot from)) scalar at is = inl (sym (home-is objects lists rooms are number) ∙ at ∙ (let same : Some from ≡ Some slot = is in cc))
  word-if number slot true None scalar at is =
      inr (record { behind = (let same : Some (taken + own_before objects rooms number) ≡ Some slot = is in cc); takes = rw scalar (rw at refl) })
  word-if number slot true (Some (Register register)) scalar at is =
      inr (record { behind = (let same : Some (taken + own_before objects rooms number) ≡ Some slot = is in cc); takes = rw scalar (rw at refl) })

  module _ (layout : DataLayout) (made : AreSlots objects rooms taken layout.slots layout.kept) where
    abbrev l : Layout
    l = layout_of layout

    -- the variables are the scalars
    pub variables-are : HasVariables objects l
    variables-are number = elim (cases_lt number (length objects)) [
      | inl low ↦ ap has_slot (made.each number low) ∙ has-slot_if (is_scalar_at objects number) (taken + own_before objects rooms number) (home_at rooms number)
      | inr past ↦ ap has_slot (slice_get_past layout.slots number (omega (arith, made.count))) ∙ sym (ap scalar_where (slice_get_past objects number past))
    ]

    -- and each has a word
    word-is : (number : ℕ) → l.is_variable number ≡ true → IsWord number (l.slot number) × (number < length objects)
    word-is number is =
        let slot = l.slot number in
        let found = is-some (slice_get layout.slots number) is in
        let low : number < length objects = omega (arith, slice_get_within layout.slots number (Some slot) found, made.count) in
        let same : Some (slot_at objects rooms taken number) ≡ Some (Some slot) = sym (made.each number low) ∙ found in
        (word-if number slot (is_scalar_at objects number) (home_at rooms number) refl refl cc, low)

    -- that of its home, where this is a slot
    slot-kept : (number from : ℕ) → is_scalar_at objects number ≡ true → HasSlot objects lists number from → l.slot number ≡ from
    slot-kept number from scalar at =
        let next = taken + own_before objects rooms number in
        ap slot_in (made.each number (home-within objects lists number (Slot from) at)) ∙ ap (λ (t : Bool). slot_in (Some (slot_for t next (home_at rooms number)))) scalar
        ∙ ap (λ (home : Option Home). slot_in (Some (slot_for true next home))) (home-is objects lists rooms are number ∙ at)

    -- ---- where words lie

    module _ (behind : IsBehind rooms taken) where
      word-whole : SlotsFit objects lists → (number slot : ℕ) → IsWord number slot → slot % 4 ≡ 0
      word-whole fit number slot (inl at) = (fit number slot at).aligned
      word-whole fit number slot (inr own) = omega (arith, own.behind, behind.right.whole, own-whole objects rooms number)

      end-whole : layout.kept % 4 ≡ 0
      end-whole = omega (arith, made.ends, behind.right.whole, own-whole objects rooms (length objects))

      word-before : (number slot : ℕ) → number < length objects → IsWord number slot → slot + 4 ≤ layout.kept
      word-before number slot low (inl at) =
          omega (arith, made.ends, bytes-enough objects lists number (Slot slot) at, behind-homes objects lists rooms are taken behind number slot at)
      word-before number slot low (inr own) = omega (arith, made.ends, own.behind, own.takes, own-rise objects rooms (suc number) (length objects) (omega arith))

      -- a word lies in no slot of another object
      word-clear : SlotsAreApart objects lists → (number slot other from : ℕ) → number ≢ other → IsWord number slot → HasSlot objects lists other from → LieApart slot 4 from (slot_bytes objects other)
      word-clear apart number slot other from differ (inl at) next =
          let enough = bytes-enough objects lists number (Slot slot) at in
          elim (apart number other slot from differ at next) [ inl low ↦ inl (omega arith) | inr high ↦ inr high ]
      word-clear apart number slot other from differ (inr own) next = inr (omega (arith, own.behind, behind-homes objects lists rooms are taken behind other from next))

      -- so it is not the word of another one
      word-differs : SlotsAreApart objects lists → (number slot other from : ℕ) → number ≢ other → IsWord number slot → HasSlot objects lists other from → slot ≢ from
      word-differs apart number slot other from differ word next same =
          let enough = bytes-enough objects lists other (Slot from) next in
          elim (word-clear apart number slot other from differ word next) [ inl low ↦ absurd (omega (arith, same)) | inr high ↦ absurd (omega (arith, same)) ]

      own-in-order : (number slot other other_slot : ℕ) → number < other → IsOwn number slot → IsOwn other other_slot → slot < other_slot
      own-in-order number slot other other_slot low own next = omega (arith, own.behind, own.takes, next.behind, own-rise objects rooms (suc number) other (omega arith))

      words-apart : SlotsAreApart objects lists → (number slot other other_slot : ℕ) → number ≢ other → IsWord number slot → IsWord other other_slot → slot ≢ other_slot
      words-apart apart number slot other other_slot differ word (inl next) = word-differs apart number slot other other_slot differ word next
      words-apart apart number slot other other_slot differ (inl at) (inr next) = λ same. word-differs apart other other_slot number slot (λ e. differ (sym e)) (inr next) at (sym same)
      words-apart apart number slot other other_slot differ (inr own) (inr next) = λ same. elim (cases_order number other) [
        | inl equal ↦ absurd (differ equal)
        | inr (inl low) ↦ absurd (omega (arith, same, own-in-order number slot other other_slot low own next))
        | inr (inr high) ↦ absurd (omega (arith, same, own-in-order other other_slot number slot high next own))
      ]

      -- ---- the layout

      pub laid : SlotsFit objects lists → SlotsAreApart objects lists → layout.size ≡ layout.kept + 4 * (layout.depth - in_registers) → layout.size ≤ slots_end → IsLaidFor l
      laid fit apart size small = λ code agree. record {
        small = small;
        whole = λ n is. word-whole fit n (l.slot n) (word-is n is).0;
        before = λ n is. word-before n (l.slot n) (word-is n is).1 (word-is n is).0;
        apart = λ n other is other_is differ. words-apart apart n (l.slot n) other (l.slot other) differ (word-is n is).0 (word-is other other_is).0;
        kept_whole = end-whole;
        room = omega (arith, size);
        wordless = agree;
      }

      pub homes-kept : SlotsAreApart objects lists → KeepsHomes objects lists l
      homes-kept apart = record {
        slots = slot-kept;
        clear = λ n other from differ is at. word-clear apart n (l.slot n) other from differ (word-is n is).0 at;
        before = λ other from at. omega (arith, made.ends, behind-homes objects lists rooms are taken behind other from at);
      }
