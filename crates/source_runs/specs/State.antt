-- The state of a run: what it keeps, and the sites that were evaluated so far. There is no address, no
-- register and no slot.
use Rattle.std.specs.Prelude.{ℕ, ◌+◌, ◌%◌, ◌^◌, ℤ, pos, List, [], ◌∷◌, ◌++◌, Bool, if◌then◌else◌, slice_get, slice_set}
use Rattle.std.specs.Option.{unwrap_or}
use Rattle.sat_base.specs.Clip.{low16}
use Rattle.sat_base.specs.declared.width.Width.{Width}
use Rattle.sat_base.specs.declared.width.Width.TheVariants.{W16, W32}
use Rattle.source_runs.specs.declared.location.Location.{Location}

-- The numbers of each object and the element at which each view begins, by the numbers of the objects. No
-- function is active twice, so one list for each object serves every activation.
pub record Kept : Type 0 where
  pub numbers : List (List ℤ)
  pub views : List Location
  pub overflow : ℤ
  pub count : ℕ
  pub left : List ℤ
  pub output : List ℤ

pub record SourceState : Type 0 where
  pub kept : Kept
  pub sites : List ℕ

abbrev pub location : ℕ → ℕ → Location
location object offset = record { object = object; offset = offset }

-- a conversion to 16 bits keeps the low 16 bits, read as a signed number
abbrev pub converted : Width → ℤ → ℤ
converted W16 x = low16 x
converted W32 x = x

abbrev pub numbers_of : ℕ → Kept → List ℤ
numbers_of object kept = unwrap_or (slice_get kept.numbers object) []

abbrev pub number_at : Location → Kept → ℤ
number_at at kept = unwrap_or (slice_get (numbers_of at.object kept) at.offset) (pos 0)

abbrev pub view_of : ℕ → Kept → Location
view_of object kept = unwrap_or (slice_get kept.views object) (location 0 0)

-- ---- what changes

-- an object has these numbers from now on
abbrev pub with_numbers : ℕ → List ℤ → Kept → Kept
with_numbers object numbers kept = record kept { numbers = slice_set kept.numbers object numbers }

-- an assigned value is converted to the width of its target
abbrev pub written : Width → Location → ℤ → Kept → Kept
written width at value kept = with_numbers at.object (slice_set (numbers_of at.object kept) at.offset (converted width value)) kept

-- a view begins there from now on
abbrev pub with_view : ℕ → Location → Kept → Kept
with_view object at kept = record kept { views = slice_set kept.views object at }

abbrev pub with_overflow : ℤ → Kept → Kept
with_overflow value kept = record kept { overflow = value }

-- Overflow becomes 1 where the operator sets it, and is else as it was
abbrev pub raised : Bool → Kept → Kept
raised raises kept = record kept { overflow = if raises then pos 1 else kept.overflow }

-- the count is taken modulo 2^64
abbrev pub counted : ℕ → Kept → Kept
counted weight kept = record kept { count = (kept.count + weight) % 2 ^ 64 }

-- the low 16 bits of the number are appended to the output
abbrev pub put : ℤ → Kept → Kept
put value kept = record kept { output = kept.output ++ low16 value ∷ [] }
