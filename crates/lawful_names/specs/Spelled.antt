-- What the grammar keeps out of a source, and no fault does: an array without an element, and `&` before `*`.
use Rattle.std.specs.Prelude.{◌≡◌, ℕ, ◌==◌, Bool, true, false, not, ◌&&◌}
use Rattle.std.specs.List.{list_all}
use Rattle.c_tree.specs.declared.program.Program.{Program}
use Rattle.c_seen.specs.declared.seen.Kind.{Kind}
use Rattle.c_seen.specs.declared.seen.Kind.TheVariants as kinds
use Rattle.c_seen.specs.declared.seen.Marks.{Marks}
use Rattle.c_seen.specs.declared.seen.Marks.TheVariants as with_marks
use Rattle.c_seen.specs.declared.seen.Seen.{Seen}
use Rattle.c_seen.specs.declared.seen.Seen.TheVariants as seen
use Rattle.c_seen.specs.Sources.{seen_of}

abbrev pub has_elements : Kind → ℕ → Bool
has_elements kinds.Scalar elements = true
has_elements kinds.Array elements = not (elements == 0)
has_elements kinds.Table elements = not (elements == 0)
has_elements kinds.View elements = true

abbrev pub is_star : Marks → Bool
is_star with_marks.None = false
is_star (with_marks.Once mark) = false
is_star (with_marks.Twice mark) = false
is_star (with_marks.Star mark) = true

abbrev pub is_spelled : Seen → Bool
is_spelled (seen.Place place) = not (place.ampersand && is_star place.marks)
is_spelled (seen.Object object) = has_elements object.kind object.elements
is_spelled s = true

abbrev pub AllSpelled : Program → Type 0
AllSpelled program = list_all is_spelled (seen_of program) ≡ true
