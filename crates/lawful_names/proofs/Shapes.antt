-- The kind of an object shows in its numbers, and marks reach what they have to.
use Rattle.std.proofs.Common.{◌≡◌, ℕ, zero, suc, ◌*◌, List, [], ◌∷◌, Bool, true, false, refl, subst, arith}
use Rattle.std.specs.Prelude.{Option, Some, None, is_none, is_some, not, ◌&&◌, ◌==◌, if◌then◌else◌, unwrap_or, option_map}
use Rattle.std.specs.List.{list_all}
use Rattle.std.proofs.lemmas.Bool.Decides.{nat_tests}
use Rattle.c_tree.specs.declared.declaration.Dim.{Dim}
use Rattle.c_tree.specs.declared.program.Program.{Program}
use Rattle.c_typed.specs.declared.typed.Typed.{Typed}
use Rattle.operator_meaning.specs.declared.object.Object.{Object}
use Rattle.declared_objects.specs.Lengths.{length_in, is_array, columns_in, rows_of, elements_in}
use Rattle.c_seen.specs.declared.seen.Kind.{Kind}
use Rattle.c_seen.specs.declared.seen.Kind.TheVariants as kinds
use Rattle.c_seen.specs.declared.seen.Seen.{Seen}
use Rattle.c_seen.specs.declared.seen.Seen.TheVariants as seen
use Rattle.c_seen.specs.Declarations.{object, elements_by}
use Rattle.c_seen.specs.Functions.{is_view}
use Rattle.c_seen.specs.Sources.{seen_of}
use Rattle.c_types.specs.Tied.{IsTyped}
use Rattle.lawful_sources.specs.Things.{Thing}
use Rattle.lawful_sources.specs.Lawful.{Everywhere}
use Rattle.lawful_laws.proofs.Functions.{both, left, right}
use Rattle.lawful_names.specs.Spelled.{has_elements, is_spelled, AllSpelled}
use Rattle.lawful_names.proofs.Clean.{Clean, is_clean, when-clean}
use Rattle.lawful_names.proofs.Declarations.{Shapes}
use Rattle.lawful_names.proofs.Faultless.{seen-clean}
use Rattle.lawful_names.proofs.Fitting.{Fits}
use Rattle.lawful_names.proofs.Sources.{stands-everywhere}

-- ---- kinds

abbrev pub shows : Kind → Bool → ℕ → ℕ → Bool
shows kinds.Scalar view rows columns = not view && (rows == 0 && columns == 0)
shows kinds.Array view rows columns = not view && (not (rows == 0) && columns == 0)
shows kinds.Table view rows columns = not view && (not (rows == 0) && not (columns == 0))
shows kinds.View view rows columns = view && (rows == 0 && columns == 0)

abbrev pub Shaped : Kind → Object → Type 0
Shaped kind one = shows kind one.view one.rows one.columns ≡ true

abbrev pub kind_by : Bool → Bool → Option Dim → Kind
kind_by pointer array cols = if pointer then kinds.View else (if not array then kinds.Scalar else (if is_none cols then kinds.Array else kinds.Table))

positive : (n : ℕ) → not (suc n == 0) ≡ true
positive n = grind (arith, nat_tests)

-- a product that is not 0
pub factors : (rows columns : ℕ) → not (rows * columns == 0) ≡ true → (not (rows == 0) && not (columns == 0)) ≡ true
factors zero columns p = let none : 0 * columns ≡ 0 = omega arith in let same : not (0 == 0) ≡ true = subst (λ (n : ℕ). not (n == 0) ≡ true) none p in cc
factors (suc rows) zero p = let none : suc rows * 0 ≡ 0 = omega arith in let same : not (0 == 0) ≡ true = subst (λ (n : ℕ). not (n == 0) ≡ true) none p in cc
factors (suc rows) (suc columns) p = both (not (suc rows == 0)) _ (positive rows) (positive columns)

table-shows : (rows : Option ℕ) (columns : Option ℕ) (elements : Option ℕ) → elements ≡ option_map (λ c. unwrap_or rows 0 * c) columns → not (unwrap_or elements 0 == 0) ≡ true
    → (not (unwrap_or rows 0 == 0) && not (unwrap_or columns 0 == 0)) ≡ true
table-shows rows None elements is p = let none : not (0 == 0) ≡ true = subst (λ (e : Option ℕ). not (unwrap_or e 0 == 0) ≡ true) is p in cc
table-shows rows (Some columns) elements is p = factors (unwrap_or rows 0) columns (subst (λ (e : Option ℕ). not (unwrap_or e 0 == 0) ≡ true) is p)

table-elements : (rows : Option ℕ) (dim : Dim) → not (unwrap_or (elements_in rows (Some dim)) 0 == 0) ≡ true → (not (unwrap_or rows 0 == 0) && not (unwrap_or (length_in dim) 0 == 0)) ≡ true
table-elements None dim p = cc
table-elements (Some rows) dim p = table-shows (Some rows) (length_in dim) (elements_in (Some rows) (Some dim)) refl p

declared-shows : (pointer array : Bool) (cols : Option Dim) (rows : Option ℕ) → array ≡ (not pointer && array) → has_elements (kind_by pointer array cols) (elements_by (kind_by pointer array cols) (elements_in rows cols)) ≡ true
    → shows (kind_by pointer array cols) pointer (if array then unwrap_or rows 0 else 0) (if array then unwrap_or (columns_in cols) 0 else 0) ≡ true
declared-shows true true cols rows is p = cc
declared-shows true false cols rows is p = refl
declared-shows false false cols rows is p = refl
declared-shows false true None rows is p = both _ true p refl
declared-shows false true (Some dim) rows is p = table-elements rows dim p

pub itself : (a b : Bool) → (not a && b) ≡ (not a && (not a && b))
itself true b = refl
itself false b = refl

parameter-shows : (view : Bool) → shows (if view then kinds.View else kinds.Scalar) view 0 0 ≡ true
parameter-shows true = refl
parameter-shows false = refl

-- what is seen has no fault, and the grammar allows it
pub is_sound : Seen → Bool
is_sound s = is_clean s && is_spelled s

pub sound-clean : (s : Seen) → is_sound s ≡ true → Clean s
unfolding is_sound
sound-clean s p = when-clean s (left (is_clean s) (is_spelled s) p)

pub sound-spelled : (s : Seen) → is_sound s ≡ true → is_spelled s ≡ true
unfolding is_sound
sound-spelled s p = right (is_clean s) (is_spelled s) p

pub all-sound : (list : List Seen) → list_all is_clean list ≡ true → list_all is_spelled list ≡ true → list_all is_sound list ≡ true
unfolding is_sound
all-sound [] p q = refl
all-sound (s ∷ rest) p q =
    both _ _ (both _ _ (left (is_clean s) (list_all is_clean rest) p) (left (is_spelled s) (list_all is_spelled rest) q)) (all-sound rest (right (is_clean s) (list_all is_clean rest) p) (right (is_spelled s) (list_all is_spelled rest) q))

pub sound-shapes : Shapes Shaped is_sound
sound-shapes = record {
  declared = λ decl is_local function exposed p. declared-shows decl.pointer (is_array decl) decl.cols (rows_of decl) (itself decl.pointer (is_some decl.rows)) (sound-spelled (seen.Object (object decl is_local)) p);
  parameters = λ param function exposed. parameter-shows (is_view param);
}

pub stands-spelled : (program : Program) (source : Typed) → AllSpelled program → IsTyped program source → (test : Thing → Bool) → Fits source program.items Shaped is_sound test → Everywhere source test
stands-spelled program source spelled is test fits =
    stands-everywhere program source Shaped is_sound sound-clean sound-shapes is.tied (all-sound (seen_of program) (seen-clean program is.faultless) spelled) test fits
