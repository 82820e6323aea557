-- Marks reach what they have to, in a source that the grammar allows.
use Rattle.std.proofs.Common.{◌≡◌, List, Bool, true, false, refl, ap, ◌∙◌}
use Rattle.std.specs.Prelude.{Option, Some, not, ◌&&◌, ◌||◌, ◌==◌}
use Rattle.sat_base.specs.declared.name.At.{At}
use Rattle.sat_base.specs.declared.width.Width.{Width}
use Rattle.c_tree.specs.declared.program.Item.{Item}
use Rattle.c_typed.specs.declared.typed.Typed.{Typed}
use Rattle.operator_meaning.specs.declared.object.Object.{Object}
use Rattle.c_seen.specs.declared.seen.Kind.{Kind}
use Rattle.c_seen.specs.declared.seen.Kind.TheVariants as kinds
use Rattle.c_seen.specs.declared.seen.Marks.{Marks as SeenMarks}
use Rattle.c_seen.specs.declared.seen.Marks.TheVariants as with_marks
use Rattle.c_seen.specs.declared.seen.Meaning.TheVariants as means
use Rattle.c_seen.specs.declared.seen.Seen.TheVariants as seen
use Rattle.c_faults.specs.declared.shape.Shape.{Shape}
use Rattle.c_faults.specs.declared.shape.Shape.TheVariants as shapes
use Rattle.c_faults.specs.Rows.{is_given}
use Rattle.c_faults.specs.Shapes.{shape_of_object, is_number}
use Rattle.lawful_sources.specs.Rows.{if_object, reaches, reaches_number, reaches_view, place_fits}
use Rattle.lawful_laws.proofs.Functions.{left, right}
use Rattle.lawful_names.specs.Spelled.{is_star}
use Rattle.lawful_names.proofs.Clean.{never}
use Rattle.lawful_names.proofs.Fitting.{Purpose, Reads, Writes, Gives, marks_of, use_of, place_seen, Fits}
use Rattle.lawful_names.proofs.Places.{IsGiven, clean_place, given-by}
use Rattle.lawful_names.proofs.Shapes.{Shaped, is_sound, sound-spelled}
use Rattle.lawful_names.proofs.Truths.{or-left, or-right, both-ways}

-- ---- a number is read and written

read-number : (at : At) (kind : Kind) (width : Width) (is_const : Bool) (marks : SeenMarks) (shape : Shape) → shape_of_object kind marks ≡ shape → clean_place at kind width is_const marks Reads → is_number shape ≡ true
read-number at kind width is_const marks shapes.Number is c = refl
read-number at kind width is_const marks shapes.Array is c = let some = rw is at c.number in absurd (never at some)
read-number at kind width is_const marks shapes.Table is c = let some = rw is at c.number in absurd (never at some)
read-number at kind width is_const marks shapes.Row is c = let some = rw is at c.number in absurd (never at some)
read-number at kind width is_const marks shapes.View is c = let some = rw is at c.number in absurd (never at some)
read-number at kind width is_const marks shapes.Function is c = let some = rw is at c.number in absurd (never at some)
read-number at kind width is_const marks (shapes.NoArray mark) is c = let some = rw is at c.array in absurd (never mark some)
read-number at kind width is_const marks shapes.Misfit is c = let some = rw is at c.shape in absurd (never at some)

written-number : (at : At) (kind : Kind) (width : Width) (is_const : Bool) (marks : SeenMarks) (shape : Shape) → shape_of_object kind marks ≡ shape → clean_place at kind width is_const marks Writes → is_number shape ≡ true
written-number at kind width is_const marks shapes.Number is c = refl
written-number at kind width is_const marks shapes.Array is c = let some = rw is at c.number in absurd (never at some)
written-number at kind width is_const marks shapes.Table is c = let some = rw is at c.number in absurd (never at some)
written-number at kind width is_const marks shapes.Row is c = let some = rw is at c.number in absurd (never at some)
written-number at kind width is_const marks shapes.View is c = let some = rw is at c.pointer in absurd (never at some)
written-number at kind width is_const marks shapes.Function is c = let some = rw is at c.number in absurd (never at some)
written-number at kind width is_const marks (shapes.NoArray mark) is c = let some = rw is at c.array in absurd (never mark some)
written-number at kind width is_const marks shapes.Misfit is c = let some = rw is at c.shape in absurd (never at some)

-- ---- by view, and by whether the rows and the columns are 0

line-of-array : (v a b : Bool) → (not v && (not a && b)) ≡ true → (v || (not a && b)) ≡ true
line-of-array true a b p = refl
line-of-array false a b p = p

line-of-view : (v a b c : Bool) → (v && c) ≡ true → (v || (not a && b)) ≡ true
line-of-view true a b c p = refl
line-of-view false a b c p = cc

scalar-of : (v a b : Bool) → (not v && (a && b)) ≡ true → (not v && a) ≡ true
scalar-of true a b p = p
scalar-of false a b p = left a b p

table-of : (v a b : Bool) → (not v && (a && not b)) ≡ true → (not v && not b) ≡ true
table-of true a b p = p
table-of false a b p = right a (not b) p

no-table : (v a b : Bool) → (not v && (a && b)) ≡ true → not (not v && not b) ≡ true
no-table true a b p = refl
no-table false a true p = refl
no-table false true false p = cc
no-table false false false p = cc

no-table-of-view : (v b c : Bool) → (v && c) ≡ true → not (not v && not b) ≡ true
no-table-of-view true b c p = refl
no-table-of-view false b c p = cc

number-reached : (kind : Kind) (marks : SeenMarks) (o : Object) → is_number (shape_of_object kind marks) ≡ true → Shaped kind o → reaches_number o (marks_of marks) ≡ true
number-reached kinds.Scalar with_marks.None o p q = scalar-of o.view (o.rows == 0) (o.columns == 0) q
number-reached kinds.Array with_marks.None o p q = cc
number-reached kinds.Table with_marks.None o p q = cc
number-reached kinds.View with_marks.None o p q = cc
number-reached kinds.Scalar (with_marks.Once mark) o p q = cc
number-reached kinds.Array (with_marks.Once mark) o p q = line-of-array o.view (o.rows == 0) (o.columns == 0) q
number-reached kinds.Table (with_marks.Once mark) o p q = cc
number-reached kinds.View (with_marks.Once mark) o p q = line-of-view o.view (o.rows == 0) (o.columns == 0) _ q
number-reached kinds.Scalar (with_marks.Twice mark) o p q = cc
number-reached kinds.Array (with_marks.Twice mark) o p q = cc
number-reached kinds.Table (with_marks.Twice mark) o p q = table-of o.view (not (o.rows == 0)) (o.columns == 0) q
number-reached kinds.View (with_marks.Twice mark) o p q = cc
number-reached kinds.Scalar (with_marks.Star mark) o p q = cc
number-reached kinds.Array (with_marks.Star mark) o p q = line-of-array o.view (o.rows == 0) (o.columns == 0) q
number-reached kinds.Table (with_marks.Star mark) o p q = cc
number-reached kinds.View (with_marks.Star mark) o p q = line-of-view o.view (o.rows == 0) (o.columns == 0) _ q

no-star : {A : Type 0} (ampersand : Bool) → ampersand ≡ true → not (ampersand && true) ≡ true → A
no-star true p q = both-ways false q refl
no-star false p q = both-ways false p refl

view-reached : (kind : Kind) (marks : SeenMarks) (o : Object) (ampersand : Bool) → is_given (shape_of_object kind marks) ampersand ≡ true → not (ampersand && is_star marks) ≡ true → Shaped kind o → reaches_view o (marks_of marks) ≡ true
view-reached kinds.Scalar with_marks.None o ampersand p s q = no-table o.view (o.rows == 0) (o.columns == 0) q
view-reached kinds.Array with_marks.None o ampersand p s q = no-table o.view (not (o.rows == 0)) (o.columns == 0) q
view-reached kinds.Table with_marks.None o ampersand p s q = cc
view-reached kinds.View with_marks.None o ampersand p s q = no-table-of-view o.view (o.columns == 0) _ q
view-reached kinds.Scalar (with_marks.Once mark) o ampersand p s q = cc
view-reached kinds.Array (with_marks.Once mark) o ampersand p s q = or-left _ _ (line-of-array o.view (o.rows == 0) (o.columns == 0) q)
view-reached kinds.Table (with_marks.Once mark) o ampersand p s q = or-right (o.view || (not (o.rows == 0) && o.columns == 0)) _ (table-of o.view (not (o.rows == 0)) (o.columns == 0) q)
view-reached kinds.View (with_marks.Once mark) o ampersand p s q = or-left _ _ (line-of-view o.view (o.rows == 0) (o.columns == 0) _ q)
view-reached kinds.Scalar (with_marks.Twice mark) o ampersand p s q = cc
view-reached kinds.Array (with_marks.Twice mark) o ampersand p s q = cc
view-reached kinds.Table (with_marks.Twice mark) o ampersand p s q = table-of o.view (not (o.rows == 0)) (o.columns == 0) q
view-reached kinds.View (with_marks.Twice mark) o ampersand p s q = cc
view-reached kinds.Scalar (with_marks.Star mark) o ampersand p s q = cc
view-reached kinds.Array (with_marks.Star mark) o ampersand p s q = no-star ampersand p s
view-reached kinds.Table (with_marks.Star mark) o ampersand p s q = cc
view-reached kinds.View (with_marks.Star mark) o ampersand p s q = no-star ampersand p s

reached-by : (at : At) (kind : Kind) (width : Width) (is_const : Bool) (marks : SeenMarks) (purpose : Purpose) (o : Object) → Shaped kind o → is_sound (seen.Place (place_seen at marks purpose (Some (means.Object kind width is_const)))) ≡ true
    → clean_place at kind width is_const marks purpose → reaches o (marks_of marks) (use_of purpose) ≡ true
reached-by at kind width is_const marks Reads o q s c = number-reached kind marks o (read-number at kind width is_const marks (shape_of_object kind marks) refl c) q
reached-by at kind width is_const marks Writes o q s c = number-reached kind marks o (written-number at kind width is_const marks (shape_of_object kind marks) refl c) q
reached-by at kind width is_const marks (Gives ampersand view first) o q s c =
    let g : IsGiven ampersand (shape_of_object kind marks) = given-by at ampersand view first kind width is_const marks (shape_of_object kind marks) refl c in
    view-reached kind marks o ampersand g.given (sound-spelled _ s) q

pub places-fit : (source : Typed) (items : List Item) → Fits source items Shaped is_sound (place_fits source)
places-fit source items = record {
  places = λ at kind width is_const tied marks purpose o q c.
      ap (λ (s : Option Object). if_object s (λ x. reaches x (marks_of marks) (use_of purpose))) o.stands ∙ reached-by at kind width is_const marks purpose o.object o.shape q c;
  calls = λ name item number arguments is_needed f good. refl;
  predefined = λ callee is_needed own given. refl;
  numbers = λ width. refl;
  views = λ width is_const. refl;
  marks = λ at site kind. refl;
  conversions = λ width. refl;
  constants = λ value. refl;
  begins = λ number object value stands starts. refl;
  statements = refl;
  leaves = λ in_loop. refl;
  returns = λ has_value gives. refl;
}
