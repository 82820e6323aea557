-- No dimension of an object is greater than the bytes of all objects together.
use Rattle.std.proofs.Common.{◌≡◌, ◌≢◌, ◌≤◌, ◌*◌, ℕ, zero, suc, List, [], ◌∷◌, Bool, true, false, refl, subst, arith}
use Rattle.std.specs.Prelude.{Option, Some, None, ◌==◌, ◌&&◌, ◌||◌, not, if◌then◌else◌, slice_get}
use Rattle.std.specs.List.{list_all, sum_by}
use Rattle.std.proofs.lemmas.Bool.{and_parts, eqb-true, eqb-false}
use Rattle.std.proofs.lemmas.List.Sums.{sum_by-cons}
use Rattle.std.proofs.Math.Nat.{le-mul_of_pos_right, mul_comm}
use Rattle.sat_base.specs.declared.width.Width.{Width}
use Rattle.sat_base.specs.declared.width.Width.TheVariants.{W16, W32}
use Rattle.operator_meaning.specs.declared.object.Object.{Object}
use Rattle.c_typed.specs.declared.typed.Typed.{Typed}
use Rattle.source_runs.specs.Shapes.{shape_of}
use Rattle.ir_expressions.specs.Building.{IsShort, AreShort}
use Rattle.lawful_sources.specs.Lawful.{IsLawful, bytes_of_width, bytes_of_object}
use Rattle.lawful_sources.specs.Objects.{is_parameter, has_shape}

-- both dimensions are at most the bytes
record Within (bytes rows columns : ℕ) : Type 0 where
  rows_fit : rows ≤ bytes
  columns_fit : columns ≤ bytes

more : (least bytes rows columns : ℕ) → least ≤ bytes → Within least rows columns → Within bytes rows columns
more least bytes rows columns p w = record { rows_fit = omega (arith, w.rows_fit); columns_fit = omega (arith, w.columns_fit) }

no-array : (rows columns : ℕ) → (not (rows == 0) || columns == 0) ≡ true → (rows == 0) ≡ true → (bytes : ℕ) → Within bytes rows columns
no-array rows columns shape flat bytes =
    let none : rows ≡ 0 = eqb-true rows 0 flat in
    let neither : columns ≡ 0 = eqb-true columns 0 (subst (λ (b : Bool). (not b || columns == 0) ≡ true) flat shape) in record { rows_fit = omega arith; columns_fit = omega arith }

-- one dimension, or two of which neither is 0
elements : (rows columns : ℕ) (flat line : Bool) → (rows == 0) ≡ flat → (columns == 0) ≡ line → (not (rows == 0) || columns == 0) ≡ true → Within (if flat then 1 else (if line then rows else rows * columns)) rows columns
elements rows columns true line p q shape = no-array rows columns shape p _
elements rows columns false true p q shape = let none : columns ≡ 0 = eqb-true columns 0 q in record { rows_fit = omega arith; columns_fit = omega arith }
elements rows columns false false p q shape =
    let some : rows ≢ 0 = eqb-false rows 0 p in let others : columns ≢ 0 = eqb-false columns 0 q in
    record { rows_fit = le-mul_of_pos_right rows (omega arith); columns_fit = subst (λ (n : ℕ). columns ≤ n) (mul_comm columns rows) (le-mul_of_pos_right columns (omega arith)) }

some-bytes : (width : Width) (n : ℕ) → n ≤ n * bytes_of_width width
some-bytes W16 n = omega arith
some-bytes W32 n = omega arith

measured : (view parameter : Bool) (width : Width) (rows columns : ℕ) → ((not (rows == 0) || columns == 0) && (not (view || parameter) || rows == 0)) ≡ true
    → Within (if view then 0 else (if rows == 0 then 1 else (if columns == 0 then rows else rows * columns)) * bytes_of_width width) rows columns
measured false parameter width rows columns shape =
    more _ _ rows columns (some-bytes width _) (elements rows columns (rows == 0) (columns == 0) refl refl (and_parts (not (rows == 0) || columns == 0) _ shape).0)
measured true parameter width rows columns shape = let both = and_parts (not (rows == 0) || columns == 0) (rows == 0) shape in no-array rows columns both.0 both.1 0

-- each of these objects is in the bytes of all
each-within : (objects : List Object) (number : ℕ) (object : Object) → slice_get objects number ≡ Some object → list_all has_shape objects ≡ true → Within (sum_by bytes_of_object objects) object.rows object.columns
each-within [] number object is shapes = cc
each-within (first ∷ objects) zero object is shapes =
    let same : first ≡ object = cc in
    more (bytes_of_object object) _ object.rows object.columns
    (subst (λ (o : Object). bytes_of_object o ≤ sum_by bytes_of_object (first ∷ objects)) same (omega (arith, sum_by-cons bytes_of_object first objects)))
    (measured object.view (is_parameter object.storage) object.width object.rows object.columns (subst (λ (o : Object). has_shape o ≡ true) same (and_parts (has_shape first) _ shapes).0))
each-within (first ∷ objects) (suc number) object is shapes =
    more _ _ object.rows object.columns (omega (arith, sum_by-cons bytes_of_object first objects)) (each-within objects number object is (and_parts (has_shape first) _ shapes).1)

pub are-short : (typed : Typed) → IsLawful typed → AreShort typed.objects
are-short typed lawful = record { each = λ number. by number (slice_get typed.objects number) refl }
  where
    by : (number : ℕ) (object : Option Object) → slice_get typed.objects number ≡ object → IsShort (shape_of typed.objects number)
    by number None is = rw is (record { rows = omega arith; columns = omega arith })
    by number (Some object) is =
        let within = each-within typed.objects number object is lawful.objects_have_shapes in let few = lawful.data_are_few in
        rw is (record { rows = omega (arith, within.rows_fit, few); columns = omega (arith, within.columns_fit, few) })
