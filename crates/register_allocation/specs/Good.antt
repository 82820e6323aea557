-- Which assignments are good.
use Rattle.std.specs.Prelude.{◌≡◌, ◌≢◌, ℕ, ◌+◌, ◌%◌, ◌<◌, ◌≤◌, ◌⊎◌, List, Option, Some, None, length, true, slice_get}
use Rattle.operator_meaning.specs.declared.object.Object.{Object}
use Rattle.ir_arena.specs.Tree.{IrWhole}
use Rattle.ir_cuts.specs.Cuts.{is_tracked}
use Rattle.register_allocation.specs.declared.home.Assign.{Assign}
use Rattle.register_allocation.specs.declared.home.Home.TheVariants.{Slot, Register}
use Rattle.register_allocation.specs.declared.home.Homes.{Homes}
use Rattle.register_allocation.specs.declared.claim.Claim.{Claim}
use Rattle.register_allocation.specs.Claims.{claim_of, bytes_of_claim}
use Rattle.register_allocation.specs.Homes.{homes_at, homes_before, home_of}
use Rattle.register_allocation.specs.Live.{IsLiveAcross, Conflict}
use Rattle.register_allocation.specs.Steps.{points_in}

-- slots end at this byte of the data memory or below
abbrev pub slots_end : ℕ
slots_end = 4194304

abbrev pub bytes_where : Option Claim → ℕ
bytes_where (Some claim) = bytes_of_claim claim
bytes_where None = 0

-- the bytes of the slot of an object: 4 of a tracked variable, 12 of a view
abbrev pub slot_bytes : List Object → ℕ → ℕ
slot_bytes objects number = bytes_where (claim_of objects number)

-- where the object of a number lives: in this slot, or in this register
abbrev pub HasSlot : List Object → List Homes → ℕ → ℕ → Type 0
HasSlot objects lists number from = home_of objects lists number ≡ Some (Slot from)

abbrev pub HasRegister : List Object → List Homes → ℕ → ℕ → Type 0
HasRegister objects lists number register = home_of objects lists number ≡ Some (Register register)

-- One list for each function, in order, with one home for each tracked variable and view of the function, in the order
-- of the declarations, and no more. A view has a slot, and a tracked variable a slot or one of x18 to x23.
pub record AreComplete (objects : List Object) (functions : ℕ) (lists : List Homes) : Type 0 where
  pub by_function : length lists ≡ functions
  pub by_object : (function : ℕ) → function < functions → length (homes_at lists function) ≡ homes_before objects function (length objects)
  pub not_views : (number register : ℕ) → HasRegister objects lists number register → is_tracked objects number ≡ true
  pub among_six : (number register : ℕ) → HasRegister objects lists number register → (18 ≤ register) × (register ≤ 23)

-- No two variables that conflict share a register, and none that is live across a call has one.
pub record KeepRegisters (tree : IrWhole) (lists : List Homes) : Type 0 where
  pub conflicting : (function one other register : ℕ) → one ≢ other → HasRegister tree.objects lists one register
      → HasRegister tree.objects lists other register → Conflict (points_in tree function) one other → ⊥
  pub across_calls : (function number register : ℕ) → HasRegister tree.objects lists number register
      → IsLiveAcross (points_in tree function) number → ⊥

-- Each slot starts at a multiple of 4 and ends where slots may.
pub record LiesInData (from bytes : ℕ) : Type 0 where
  pub aligned : from % 4 ≡ 0
  pub within : from + bytes ≤ slots_end

abbrev pub SlotsFit : List Object → List Homes → Type 0
SlotsFit objects lists = (number from : ℕ) → HasSlot objects lists number from → LiesInData from (slot_bytes objects number)

-- one ends before the other starts
abbrev pub LieApart : ℕ → ℕ → ℕ → ℕ → Type 0
LieApart from bytes other_from other_bytes = (from + bytes ≤ other_from) ⊎ (other_from + other_bytes ≤ from)

-- Slots of different objects do not overlap, whatever their functions.
abbrev pub SlotsAreApart : List Object → List Homes → Type 0
SlotsAreApart objects lists =
    (one other from other_from : ℕ) → one ≢ other → HasSlot objects lists one from → HasSlot objects lists other other_from
    → LieApart from (slot_bytes objects one) other_from (slot_bytes objects other)

pub record IsGoodAssignment (tree : IrWhole) (assign : Assign) : Type 0 where
  pub complete : AreComplete tree.objects (length tree.functions) assign.functions
  pub registers : KeepRegisters tree assign.functions
  pub slots_fit : SlotsFit tree.objects assign.functions
  pub slots_apart : SlotsAreApart tree.objects assign.functions

-- no home is a register
abbrev pub AreAllSlots : List Homes → Type 0
AreAllSlots lists = (function place register : ℕ) → slice_get (homes_at lists function) place ≢ Some (Register register)
