-- The bytes of the objects of a source that passes no limit are few.
use Rattle.std.proofs.Common.{◌≡◌, ℕ, ◌+◌, ◌*◌, ◌≤◌, [], ◌∷◌, Bool, true, false, refl, ap, ◌∙◌, arith}
use Rattle.std.specs.Prelude.{not, ◌&&◌, ◌==◌, if◌then◌else◌, Option, Some, None, is_some, option_map, unwrap_or}
use Rattle.std.specs.List.{sum_by}
use Rattle.sat_base.specs.declared.fault.FaultKind.TheVariants as fault
use Rattle.sat_base.specs.declared.limits.TheConstants.{OBJECT_BYTES}
use Rattle.sat_base.specs.declared.width.Width.{Width}
use Rattle.sat_base.specs.declared.width.Width.TheVariants.{W16, W32}
use Rattle.c_tree.specs.declared.declaration.Decl.{Decl}
use Rattle.c_tree.specs.declared.declaration.Dim.{Dim}
use Rattle.c_tree.specs.declared.program.Program.{Program}
use Rattle.c_typed.specs.declared.typed.Typed.{Typed}
use Rattle.declared_objects.specs.Lengths.{length_in, is_array, columns_in, rows_of, elements_in, elements_of}
use Rattle.c_seen.specs.declared.seen.Seen.TheVariants as seen
use Rattle.c_seen.specs.Declarations.{object, parameter, elements_by}
use Rattle.c_seen.specs.Functions.{is_view}
use Rattle.c_seen.specs.Sources.{seen_in_items, seen_of, end_of}
use Rattle.c_faults.specs.declared.limits.Quantity.TheVariants as of
use Rattle.c_faults.specs.Faults.{limits}
use Rattle.c_faults.specs.Limits.{bytes_of, amount, passed}
use Rattle.tied_objects.specs.Objects.{object_of}
use Rattle.c_types.specs.Sources.{after_items}
use Rattle.c_types.specs.Tied.{IsTyped}
use Rattle.lawful_sources.specs.Lawful.{bytes_of_width, bytes_of_object}
use Rattle.lawful_laws.proofs.Functions.{left, right}
use Rattle.lawful_names.specs.Spelled.{has_elements, AllSpelled}
use Rattle.lawful_names.proofs.Clean.{AllNone, none-kept, untold, true-by}
use Rattle.lawful_names.proofs.Faultless.{seen-clean, no-limit}
use Rattle.lawful_names.proofs.MeasuredItems.{Measures, items-measure}
use Rattle.lawful_names.proofs.Shapes.{kind_by, factors, itself, is_sound, sound-clean, sound-spelled, all-sound}
use Rattle.lawful_names.proofs.Sources.{reached, start_of, names_at_start}
use Rattle.lawful_names.proofs.Spent.{spent, spent-append, within-limit}
use Rattle.lawful_names.proofs.Totals.{total, sum-total}
use Rattle.lawful_names.proofs.Truths.{is-false}

same-bytes : (width : Width) → bytes_of_width width ≡ bytes_of width
same-bytes W16 = refl
same-bytes W32 = refl

-- the elements of an object, by its numbers
abbrev counted : ℕ → ℕ → ℕ
counted rows columns = if rows == 0 then 1 else (if columns == 0 then rows else rows * columns)

counted-line : (rows : ℕ) → not (rows == 0) ≡ true → counted rows 0 ≡ rows
counted-line rows p = ap (λ (b : Bool). if b then 1 else (if 0 == 0 then rows else rows * 0)) (is-false (rows == 0) p)

counted-table : (rows columns : ℕ) → (not (rows == 0) && not (columns == 0)) ≡ true → counted rows columns ≡ rows * columns
counted-table rows columns p =
    ap (λ (b : Bool). if b then 1 else (if columns == 0 then rows else rows * columns)) (is-false (rows == 0) (left (not (rows == 0)) _ p))
    ∙ ap (λ (b : Bool). if b then rows else rows * columns) (is-false (columns == 0) (right (not (rows == 0)) _ p))

table-count : (rows : ℕ) (columns : Option ℕ) → not (unwrap_or (option_map (λ c. rows * c) columns) 0 == 0) ≡ true → counted rows (unwrap_or columns 0) ≡ unwrap_or (option_map (λ c. rows * c) columns) 0
table-count rows None p = cc
table-count rows (Some columns) p = counted-table rows columns (factors rows columns p)

pub declared-count : (pointer array : Bool) (cols : Option Dim) (rows : Option ℕ) → array ≡ (not pointer && array) → has_elements (kind_by pointer array cols) (elements_by (kind_by pointer array cols) (elements_in rows cols)) ≡ true
    → pointer ≡ false → counted (if array then unwrap_or rows 0 else 0) (if array then unwrap_or (columns_in cols) 0 else 0) ≡ elements_by (kind_by pointer array cols) (elements_in rows cols)
declared-count true array cols rows is p q = cc
declared-count false false cols rows is p q = refl
declared-count false true None rows is p q = counted-line (unwrap_or rows 0) p
declared-count false true (Some dim) None is p q = cc
declared-count false true (Some dim) (Some rows) is p q = table-count rows (length_in dim) p

at-most : (a b : ℕ) → a ≡ b → a ≤ b
at-most a b p = omega arith

bytes-by : (pointer : Bool) (count elements : ℕ) (width : Width) → (pointer ≡ false → count ≡ elements) → (if pointer then 0 else count * bytes_of_width width) ≤ elements * bytes_of width
bytes-by true count elements width p = omega arith
bytes-by false count elements width p = at-most _ _ (ap (λ (n : ℕ). n * bytes_of_width width) (p refl) ∙ ap (λ (n : ℕ). elements * n) (same-bytes width))

parameter-bytes : (named view : Bool) (width : Width) → named ≡ true → (if view then 0 else 1 * bytes_of_width width) ≤ (if named && not view then bytes_of width else 0)
parameter-bytes false view width p = cc
parameter-bytes true true width p = omega arith
parameter-bytes true false W16 p = omega arith
parameter-bytes true false W32 p = omega arith

object-bytes : (decl : Decl) (is_local : Bool) (function : Option ℕ) (exposed : Bool) → is_sound (seen.Object (object decl is_local)) ≡ true → bytes_of_object (object_of decl function exposed) ≤ amount of.Data (seen.Object (object decl is_local))
object-bytes decl is_local function exposed p =
    bytes-by decl.pointer _ (elements_by (kind_by decl.pointer (is_array decl) decl.cols) (elements_of decl)) decl.width
    (declared-count decl.pointer (is_array decl) decl.cols (rows_of decl) (itself decl.pointer (is_some decl.rows)) (sound-spelled (seen.Object (object decl is_local)) p))

measures : (source : Typed) → Measures source is_sound bytes_of_object (amount of.Data)
measures source = record {
  of = λ number whole. record {
    inner = λ decl exposed p. object-bytes decl true (Some number) exposed p;
    parameters = λ param exposed p. parameter-bytes (is_some param.name) (is_view param) param.width (true-by (is_some param.name) param.type_at (sound-clean (seen.Parameter (parameter param true)) p).duplicate);
  };
  outer = λ decl exposed p. object-bytes decl false None exposed p;
}

pub data-few : (program : Program) (source : Typed) → AllSpelled program → IsTyped program source → sum_by bytes_of_object source.objects ≤ OBJECT_BYTES
data-few program source spelled is =
    let all : AllNone (limits (seen_of program)) = none-kept (limits (seen_of program)) (no-limit program is.faultless) in
    let most : spent of.Data (seen_of program) ≤ OBJECT_BYTES = within-limit of.Data (λ left s. refl) OBJECT_BYTES (seen_of program) (untold fault.TooMuchData (passed of.Data (seen_of program)) all.1.1.1.0) in
    let parts : spent of.Data (seen_of program) ≡ spent of.Data (seen_in_items (names_at_start program) [] 0 program.items) + spent of.Data (end_of program ∷ []) =
    spent-append of.Data (seen_in_items (names_at_start program) [] 0 program.items) (end_of program ∷ []) in
    let few : total bytes_of_object (after_items (start_of program source) 0 program.items).here.objects ≤ 0 + spent of.Data (seen_in_items (names_at_start program) [] 0 program.items) =
    items-measure source program.items is_sound sound-clean bytes_of_object (amount of.Data) (measures source) (start_of program source) (names_at_start program) [] 0 program.items
    (reached program source is_sound sound-clean is.tied (all-sound (seen_of program) (seen-clean program is.faultless) spelled)) in
    let same : total bytes_of_object source.objects ≡ total bytes_of_object (after_items (start_of program source) 0 program.items).here.objects = ap (total bytes_of_object) is.tied.objects in
    let sum : sum_by bytes_of_object source.objects ≡ total bytes_of_object source.objects = sum-total bytes_of_object source.objects in omega arith
