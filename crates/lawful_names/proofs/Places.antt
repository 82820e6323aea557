-- The lines about places fit: what is const is kept, and views have the width that is taken.
use Rattle.std.proofs.Common.{◌≡◌, List, Bool, true, false, refl, sym, ap, ◌∙◌}
use Rattle.std.specs.Prelude.{Option, Some, None, ◌&&◌, ◌||◌, not, if◌then◌else◌}
use Rattle.sat_base.specs.declared.name.At.{At}
use Rattle.sat_base.specs.declared.width.Width.{Width}
use Rattle.sat_base.specs.declared.width.Width.TheVariants.{W16, W32}
use Rattle.c_tree.specs.declared.program.Item.{Item}
use Rattle.c_typed.specs.declared.typed.Typed.{Typed}
use Rattle.operator_meaning.specs.declared.object.Object.{Object}
use Rattle.c_seen.specs.declared.seen.Kind.{Kind}
use Rattle.c_seen.specs.declared.seen.Seen.{Seen}
use Rattle.c_seen.specs.declared.seen.Kind.TheVariants as kinds
use Rattle.c_seen.specs.declared.seen.Marks.{Marks as SeenMarks}
use Rattle.c_seen.specs.declared.seen.Marks.TheVariants as with_marks
use Rattle.c_seen.specs.declared.seen.Meaning.TheVariants as means
use Rattle.c_seen.specs.declared.seen.Seen.TheVariants as seen
use Rattle.c_seen.specs.declared.seen.View.{View as SeenView}
use Rattle.c_faults.specs.declared.shape.Shape.{Shape}
use Rattle.c_faults.specs.declared.shape.Shape.TheVariants as shapes
use Rattle.c_faults.specs.Rows.{at_if, gives_away, is_given}
use Rattle.c_faults.specs.Shapes.{same_width as same_element, shape_of_object, is_function, is_view}
use Rattle.lawful_sources.specs.Rows.{if_object, keeps_const, const_is_kept, same_width, has_width, width_agrees}
use Rattle.lawful_names.proofs.Clean.{Clean, never}
use Rattle.lawful_names.proofs.Fitting.{Purpose, Reads, Writes, Gives, use_of, place_seen, Fits}

-- an object has no shape of a function
object-shape : (kind : Kind) (marks : SeenMarks) → is_function (shape_of_object kind marks) ≡ false
object-shape kinds.Scalar with_marks.None = refl
object-shape kinds.Array with_marks.None = refl
object-shape kinds.Table with_marks.None = refl
object-shape kinds.View with_marks.None = refl
object-shape kinds.Scalar (with_marks.Once mark) = refl
object-shape kinds.Array (with_marks.Once mark) = refl
object-shape kinds.Table (with_marks.Once mark) = refl
object-shape kinds.View (with_marks.Once mark) = refl
object-shape kinds.Scalar (with_marks.Twice mark) = refl
object-shape kinds.Array (with_marks.Twice mark) = refl
object-shape kinds.Table (with_marks.Twice mark) = refl
object-shape kinds.View (with_marks.Twice mark) = refl
object-shape kinds.Scalar (with_marks.Star mark) = refl
object-shape kinds.Array (with_marks.Star mark) = refl
object-shape kinds.Table (with_marks.Star mark) = refl
object-shape kinds.View (with_marks.Star mark) = refl

-- a place of this shape, given as a view without a fault
pub record IsGiven (ampersand : Bool) (shape : Shape) : Type 0 where
  pub away : gives_away shape ampersand ≡ true
  pub given : is_given shape ampersand ≡ true

abbrev pub clean_place : At → Kind → Width → Bool → SeenMarks → Purpose → Type 0
clean_place at kind width is_const marks purpose = Clean (seen.Place (place_seen at marks purpose (Some (means.Object kind width is_const))))

pub given-by : (at : At) (ampersand : Bool) (view : SeenView) (first : At) (kind : Kind) (width : Width) (is_const : Bool) (marks : SeenMarks) (shape : Shape) → shape_of_object kind marks ≡ shape
    → clean_place at kind width is_const marks (Gives ampersand view first) → IsGiven ampersand shape
given-by at true view first kind width is_const marks shapes.Number is c = record { away = refl; given = refl }
given-by at false view first kind width is_const marks shapes.Number is c = let some = rw is at c.view in absurd (never first some)
given-by at true view first kind width is_const marks shapes.Array is c = let some = rw is at c.shape in absurd (never at some)
given-by at false view first kind width is_const marks shapes.Array is c = record { away = refl; given = refl }
given-by at true view first kind width is_const marks shapes.Table is c = let some = rw is at c.shape in absurd (never at some)
given-by at false view first kind width is_const marks shapes.Table is c = let some = rw is at c.shape in absurd (never at some)
given-by at true view first kind width is_const marks shapes.Row is c = let some = rw is at c.shape in absurd (never at some)
given-by at false view first kind width is_const marks shapes.Row is c = record { away = refl; given = refl }
given-by at true view first kind width is_const marks shapes.View is c = let some = rw is at c.shape in absurd (never at some)
given-by at false view first kind width is_const marks shapes.View is c = record { away = refl; given = refl }
given-by at ampersand view first kind width is_const marks shapes.Function is c = let wrong : true ≡ false = sym (ap is_function is) ∙ object-shape kind marks in absurd (apart wrong)
  where
    apart : true ≡ false → ⊥
    apart p = cc
given-by at ampersand view first kind width is_const marks (shapes.NoArray mark) is c = let some = rw is at c.array in absurd (never mark some)
given-by at ampersand view first kind width is_const marks shapes.Misfit is c = let some = rw is at c.shape in absurd (never at some)

-- ---- const

written-by : (const view rest : Bool) (at : At) → at_if (const && (not view || rest)) at ≡ None → at_if view at ≡ None → not const ≡ true
written-by false view rest at p q = refl
written-by true true rest at p q = absurd (never at q)
written-by true false rest at p q = absurd (never at p)

given-const : (const takes away : Bool) (at : At) → away ≡ true → at_if (const && (not takes && away)) at ≡ None → (not const || takes) ≡ true
given-const false takes away at q p = refl
given-const true true away at q p = refl
given-const true false true at q p = absurd (never at p)
given-const true false false at q p = cc

object-keeps : (source : Typed) (at : At) (kind : Kind) (width : Width) (is_const : Bool) (object : Object) (marks : SeenMarks) (purpose : Purpose) → object.is_const ≡ is_const → clean_place at kind width is_const marks purpose
    → keeps_const object (use_of purpose) ≡ true
object-keeps source at kind width is_const object marks Reads is c = refl
object-keeps source at kind width is_const object marks Writes is c = ap not is ∙ written-by is_const (is_view (shape_of_object kind marks)) _ at c.const c.pointer
object-keeps source at kind width is_const object marks (Gives ampersand view first) is c =
    let g : IsGiven ampersand (shape_of_object kind marks) = given-by at ampersand view first kind width is_const marks (shape_of_object kind marks) refl c in
    ap (λ (b : Bool). not b || view.is_const) is ∙ given-const is_const view.is_const _ at g.away c.const

-- ---- widths

width-by : (one other : Width) (given : Bool) (first : At) → given ≡ true → (if given then at_if (not (same_element one other)) first else None) ≡ None → same_width one other ≡ true
width-by W16 W16 given first q p = refl
width-by W16 W32 true first q p = absurd (never first p)
width-by W16 W32 false first q p = cc
width-by W32 W16 true first q p = absurd (never first p)
width-by W32 W16 false first q p = cc
width-by W32 W32 given first q p = refl

object-agrees : (source : Typed) (at : At) (kind : Kind) (width : Width) (is_const : Bool) (object : Object) (marks : SeenMarks) (purpose : Purpose) → object.width ≡ width → clean_place at kind width is_const marks purpose
    → has_width object (use_of purpose) ≡ true
object-agrees source at kind width is_const object marks Reads is c = refl
object-agrees source at kind width is_const object marks Writes is c = refl
object-agrees source at kind width is_const object marks (Gives ampersand view first) is c =
    let g : IsGiven ampersand (shape_of_object kind marks) = given-by at ampersand view first kind width is_const marks (shape_of_object kind marks) refl c in
    ap (λ (w : Width). same_width w view.width) is ∙ width-by width view.width _ first g.given c.width

module _ (source : Typed) (items : List Item) (Shaped : Kind → Object → Type 0) (sound : Seen → Bool) where
  pub const-fits : Fits source items Shaped sound (const_is_kept source)
  const-fits = record {
    places = λ at kind width is_const tied marks purpose o q c.
        ap (λ (s : Option Object). if_object s (λ o. keeps_const o (use_of purpose))) o.stands ∙ object-keeps source at kind width is_const o.object marks purpose o.consts c;
    calls = λ name item number arguments is_needed f good. refl;
    predefined = λ callee is_needed own given. refl;
    numbers = λ width. refl;
    views = λ width is_const. refl;
    marks = λ at site kind. refl;
    conversions = λ width. refl;
    constants = λ value. refl;
    begins = λ number object value stands starts. refl;
    statements = refl;
    leaves = λ in_loop. refl;
    returns = λ has_value gives. refl;
  }

  pub widths-fit : Fits source items Shaped sound (width_agrees source)
  widths-fit = record {
    places = λ at kind width is_const tied marks purpose o q c.
        ap (λ (s : Option Object). if_object s (λ o. has_width o (use_of purpose))) o.stands ∙ object-agrees source at kind width is_const o.object marks purpose o.widths c;
    calls = λ name item number arguments is_needed f good. refl;
    predefined = λ callee is_needed own given. refl;
    numbers = λ width. refl;
    views = λ width is_const. refl;
    marks = λ at site kind. refl;
    conversions = λ width. refl;
    constants = λ value. refl;
    begins = λ number object value stands starts. refl;
    statements = refl;
    leaves = λ in_loop. refl;
    returns = λ has_value gives. refl;
  }
