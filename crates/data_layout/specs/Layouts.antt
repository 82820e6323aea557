-- The layout that emitted code speaks of.
use Rattle.std.specs.Prelude.{ℕ, Bool, true, false, Option, Some, None, slice_get}
use Rattle.code_stacks.specs.Places.{Layout}
use Rattle.data_layout.specs.declared.layout.DataLayout.{DataLayout}

abbrev pub has_slot : Option (Option ℕ) → Bool
has_slot (Some (Some slot)) = true
has_slot found = false

abbrev pub slot_in : Option (Option ℕ) → ℕ
slot_in (Some (Some slot)) = slot
slot_in found = 0

abbrev pub is_true : Option Bool → Bool
is_true (Some b) = b
is_true None = false

abbrev pub layout_of : DataLayout → Layout
layout_of layout = record {
  is_variable = λ n. has_slot (slice_get layout.slots n);
  slot = λ n. slot_in (slice_get layout.slots n);
  kept = layout.kept;
  depth = layout.depth;
  size = layout.size;
  is_wordless = λ site. is_true (slice_get layout.wordless site);
}
