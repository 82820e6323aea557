-- An object starts with as many values as it has elements, by what is seen of its declaration.
use Rattle.std.proofs.Common.{◌≡◌, ℕ, ◌+◌, ◌*◌, ◌-◌, ◌≤◌, List, [], ◌∷◌, ◌++◌, Bool, true, false, length, map, refl, sym, ap, ◌∙◌, arith, length-append}
use Rattle.std.specs.Prelude.{ℤ, pos, not, ◌&&◌, ◌||◌, ◌==◌, if◌then◌else◌, flat_map, replicate, unwrap_or, option_map, Option, Some, None, is_none, is_some}
use Rattle.std.specs.List.{list_any}
use Rattle.std.proofs.Math.Nat.{mul-le-mul_right}
use Rattle.std.proofs.lemmas.Bool.{eq-eqb}
use Rattle.std.proofs.lemmas.Bool.Decides.{nat_tests}
use Rattle.std.proofs.lemmas.List.{length-map, length-replicate}
use Rattle.sat_base.specs.declared.name.At.{At}
use Rattle.sat_base.specs.declared.width.Width.{Width}
use Rattle.c_tree.specs.declared.call.Arg.{Arg, Value', Address}
use Rattle.c_tree.specs.declared.declaration.Decl.{Decl}
use Rattle.c_tree.specs.declared.declaration.Dim.{Dim}
use Rattle.c_tree.specs.declared.declaration.Init.{Init}
use Rattle.c_tree.specs.declared.declaration.Init.TheVariants as init
use Rattle.c_tree.specs.declared.declaration.Row.{Row}
use Rattle.constant_expressions.specs.Folding.{folded_kind}
use Rattle.declared_objects.specs.Initialisers.{is_constant_argument, exceeds, is_bad_row, some_variable, bad_init}
use Rattle.declared_objects.specs.Lengths.{length_in, is_array, columns_in, columns_of, rows_of, elements_in, elements_of}
use Rattle.operator_meaning.specs.declared.object.Object.{Object}
use Rattle.operator_meaning.specs.declared.object.Storage.TheVariants.{Static, Automatic}
use Rattle.c_seen.specs.declared.seen.Seen.TheVariants as seen
use Rattle.c_seen.specs.Declarations as scope
use Rattle.c_seen.specs.Declarations.{object, elements_by}
use Rattle.c_faults.specs.Rows.{at_if}
use Rattle.tied_objects.specs.Initial.{constant, filled, filled_row, element_count as declared_count, value_if, given_value, values_by}
use Rattle.tied_objects.specs.Objects.{object_of}
use Rattle.lawful_sources.specs.Objects.{is_static, is_parameter, element_count}
use Rattle.lawful_laws.proofs.Functions.{both, left, right}
use Rattle.lawful_laws.proofs.Objects.{HoldsOfObjects}
use Rattle.lawful_names.specs.Spelled.{has_elements}
use Rattle.lawful_names.proofs.Clean.{never}
use Rattle.lawful_names.proofs.Data.{declared-count}
use Rattle.lawful_names.proofs.Shapes.{kind_by, factors, itself, is_sound, sound-clean, sound-spelled}
use Rattle.lawful_names.proofs.Truths.{or-left, or-right, is-false}

-- all its values, whatever they are; none for a parameter, for a view, and maybe for an automatic scalar
abbrev pub counts_by : Object → Option (List ℤ) → Bool
counts_by object None = object.view || (is_parameter object.storage || (not (is_static object.storage) && object.rows == 0))
counts_by object (Some values) = not (object.view || is_parameter object.storage) && length values == element_count object

abbrev pub counts : Object → Bool
counts object = counts_by object object.initial

-- ---- lengths

filled-length : (count : ℕ) (values : List ℤ) → length values ≤ count → length (filled count values) ≡ count
filled-length count values p = let rest : length (replicate (count - length values) (pos 0)) ≡ count - length values = length-replicate (count - length values) (pos 0) in omega (arith, length-append {A = ℤ}, rest)

within-by : (most : Option ℕ) (count : ℕ) → not (unwrap_or most 0 == 0) ≡ true → exceeds count most ≡ false → count ≤ unwrap_or most 0
within-by None count p q = let none : not (0 == 0) ≡ true = p in cc
within-by (Some most) count p q = grind (arith, nat_tests)

or-false-left : (a b : Bool) → (a || b) ≡ false → a ≡ false
or-false-left true b p = cc
or-false-left false b p = refl

or-false-right : (a b : Bool) → (a || b) ≡ false → b ≡ false
or-false-right true b p = cc
or-false-right false b p = p

none-at : (bad : Bool) (at : At) → at_if bad at ≡ None → bad ≡ false
none-at true at p = absurd (never at p)
none-at false at p = refl

rows-length : (width : Width) (columns : Option ℕ) (rows : List Row) → not (unwrap_or columns 0 == 0) ≡ true → list_any (is_bad_row columns) rows ≡ false
    → length (flat_map (filled_row width (unwrap_or columns 0)) rows) ≡ length rows * unwrap_or columns 0
rows-length width columns [] p q = omega arith
rows-length width columns (row ∷ rows) p q =
    let few : length row.values ≤ unwrap_or columns 0 = within-by columns (length row.values) p (or-false-right (some_variable row.values) _ (or-false-left (is_bad_row columns row) _ q)) in
    let same : length (map (constant width) row.values) ≡ length row.values = length-map row.values (constant width) in
    let first : length (filled_row width (unwrap_or columns 0) row) ≡ unwrap_or columns 0 = filled-length (unwrap_or columns 0) (map (constant width) row.values) (omega arith) in
    let rest : length (flat_map (filled_row width (unwrap_or columns 0)) rows) ≡ length rows * unwrap_or columns 0 = rows-length width columns rows p (or-false-right (is_bad_row columns row) _ q) in
    let whole : length (filled_row width (unwrap_or columns 0) row ++ flat_map (filled_row width (unwrap_or columns 0)) rows) ≡ length (filled_row width (unwrap_or columns 0) row) + length (flat_map (filled_row width (unwrap_or columns 0)) rows) =
    length-append _ _ in omega arith

-- ---- elements

elements-are : (pointer array : Bool) (cols : Option Dim) (elements : Option ℕ) → pointer ≡ false → elements_by (kind_by pointer array cols) elements ≡ (if array then unwrap_or elements 0 else 1)
elements-are true array cols elements p = cc
elements-are false false cols elements p = refl
elements-are false true None elements p = refl
elements-are false true (Some dim) elements p = refl

some-elements : (pointer array : Bool) (cols : Option Dim) (elements : Option ℕ) → pointer ≡ false → array ≡ true → has_elements (kind_by pointer array cols) (elements_by (kind_by pointer array cols) elements) ≡ true → not (unwrap_or elements 0 == 0) ≡ true
some-elements true array cols elements p q r = cc
some-elements false false cols elements p q r = cc
some-elements false true None elements p q r = r
some-elements false true (Some dim) elements p q r = r

-- ---- declarations

-- so many values, or none where it is neither static nor an array
abbrev counted : Decl → Bool → Option (List ℤ) → Bool
counted decl static None = not static && not (is_array decl)
counted decl static (Some values) = length values == declared_count decl

not-both : (static : Bool) → (static && true) ≡ false → not static ≡ true
not-both true p = cc
not-both false p = refl

is-true : (array : Bool) → not array ≡ false → array ≡ true
is-true true p = refl
is-true false p = cc

no-value : (decl : Decl) (static : Bool) → is_array decl ≡ false → (static && true) ≡ false → counted decl static None ≡ true
no-value decl static single p = both (not static) _ (not-both static p) (ap not single)

one-counted : (decl : Decl) (static : Bool) (value : Option ℤ) → is_array decl ≡ false → (static && not (is_some value)) ≡ false → counted decl static (value_if decl.width value) ≡ true
one-counted decl static None single p = no-value decl static single p
one-counted decl static (Some value) single p = eq-eqb 1 (declared_count decl) (sym (ap (λ (b : Bool). if b then unwrap_or (elements_of decl) 0 else 1) single))

given-counted : (decl : Decl) (static : Bool) (arg : Arg) → is_array decl ≡ false → (static && not (is_constant_argument arg)) ≡ false → counted decl static (given_value decl.width arg) ≡ true
given-counted decl static (Value' at brackets kind) single p = one-counted decl static (folded_kind kind) single p
given-counted decl static (Address at place) single p = no-value decl static single p

filled-counted : (decl : Decl) (values : List ℤ) → is_array decl ≡ true → length values ≤ unwrap_or (elements_of decl) 0 → length (filled (declared_count decl) values) == declared_count decl ≡ true
filled-counted decl values array p =
    let same : declared_count decl ≡ unwrap_or (elements_of decl) 0 = ap (λ (b : Bool). if b then unwrap_or (elements_of decl) 0 else 1) array in
    eq-eqb _ _ (filled-length (declared_count decl) values (omega arith))

table-within : (width : Width) (rows : ℕ) (columns : Option ℕ) (list : List Row) → not (unwrap_or (option_map (λ c. rows * c) columns) 0 == 0) ≡ true → exceeds (length list) (Some rows) ≡ false → list_any (is_bad_row columns) list ≡ false
    → length (flat_map (filled_row width (unwrap_or columns 0)) list) ≤ unwrap_or (option_map (λ c. rows * c) columns) 0
table-within width rows None list p q r = cc
table-within width rows (Some columns) list p q r =
    let most : length list ≤ rows = grind (arith, nat_tests) in
    let is : length (flat_map (filled_row width columns) list) ≡ length list * columns = rows-length width (Some columns) list (right (not (rows == 0)) _ (factors rows columns p)) r in
    let less : length list * columns ≤ rows * columns = mul-le-mul_right columns most in omega arith

rows-within : (width : Width) (rows : Option ℕ) (cols : Option Dim) (list : List Row) → is_none cols ≡ false → not (unwrap_or (elements_in rows cols) 0 == 0) ≡ true → exceeds (length list) rows ≡ false → list_any (is_bad_row (columns_in cols)) list ≡ false
    → length (flat_map (filled_row width (unwrap_or (columns_in cols) 0)) list) ≤ unwrap_or (elements_in rows cols) 0
rows-within width rows None list n p q r = cc
rows-within width None (Some dim) list n p q r = cc
rows-within width (Some rows) (Some dim) list n p q r = table-within width rows (length_in dim) list p q r

values-counted : (decl : Decl) (static : Bool) (start : Init) → (is_array decl ≡ true → not (unwrap_or (elements_of decl) 0 == 0) ≡ true) → bad_init decl static start ≡ false → counted decl static (values_by decl start) ≡ true
values-counted decl static init.Nothing some p = eq-eqb _ _ (filled-length (declared_count decl) [] (omega arith))
values-counted decl static (init.One arg) some p = given-counted decl static arg (or-false-left (is_array decl) _ p) (or-false-right (is_array decl) _ p)
values-counted decl static (init.Flat values) some p =
    let array : is_array decl ≡ true = is-true (is_array decl) (or-false-left (not (is_array decl)) _ p) in
    let few : length values ≤ unwrap_or (elements_of decl) 0 = within-by (elements_of decl) (length values) (some array) (or-false-right (some_variable values) _ (or-false-right (not (is_array decl)) _ p)) in
    let same : length (map (constant decl.width) values) ≡ length values = length-map values (constant decl.width) in
    filled-counted decl _ array (omega arith)
values-counted decl static (init.Rows rows) some p =
    let array : is_array decl ≡ true = is-true (is_array decl) (or-false-left (not (is_array decl)) _ p) in
    let table : (is_none decl.cols || (exceeds (length rows) (rows_of decl) || list_any (is_bad_row (columns_of decl)) rows)) ≡ false = or-false-right (not (is_array decl)) _ p in
    let rest : (exceeds (length rows) (rows_of decl) || list_any (is_bad_row (columns_of decl)) rows) ≡ false = or-false-right (is_none decl.cols) _ table in
    filled-counted decl _ array (rows-within decl.width (rows_of decl) decl.cols rows (or-false-left (is_none decl.cols) _ table) (some array)
    (or-false-left (exceeds (length rows) (rows_of decl)) _ rest) (or-false-right (exceeds (length rows) (rows_of decl)) _ rest))

-- ---- objects

no-parameter : (static : Bool) → is_parameter (if static then Static else Automatic) ≡ false
no-parameter true = refl
no-parameter false = refl

stored : (static : Bool) → is_static (if static then Static else Automatic) ≡ static
stored true = refl
stored false = refl

neither : (view parameter : Bool) → view ≡ false → parameter ≡ false → not (view || parameter) ≡ true
neither view parameter p q = rw (p, q) refl

counts-as : (decl : Decl) (function : Option ℕ) (exposed : Bool) (values : Option (List ℤ)) → decl.pointer ≡ false → element_count (object_of decl function exposed) ≡ declared_count decl
    → counted decl (is_none function || decl.is_static) values ≡ true → counts_by (object_of decl function exposed) values ≡ true
counts-as decl function exposed None plain same p =
    let static : Bool = is_none function || decl.is_static in
    or-right decl.pointer _ (or-right (is_parameter (if static then Static else Automatic)) _
    (both _ _ (ap not (stored static) ∙ left (not static) _ p) (ap (λ (b : Bool). (if b then unwrap_or (rows_of decl) 0 else 0) == 0) (is-false (is_array decl) (right (not static) _ p)))))
counts-as decl function exposed (Some values) plain same p =
    both _ _ (neither decl.pointer _ plain (no-parameter (is_none function || decl.is_static))) (ap (λ (n : ℕ). length values == n) same ∙ p)

declared-counts : (decl : Decl) (is_local : Bool) (function : Option ℕ) (exposed : Bool) → (is_none function || decl.is_static) ≡ scope.is_static is_local decl → is_sound (seen.Object (object decl is_local)) ≡ true
    → (pointer : Bool) → decl.pointer ≡ pointer → counts (object_of decl function exposed) ≡ true
declared-counts decl is_local function exposed same s true p = ap (λ (b : Bool). counts_by (object_of decl function exposed) (if b then None else values_by decl decl.init)) p ∙ or-left decl.pointer _ p
declared-counts decl is_local function exposed same s false p =
    let spelled : has_elements (kind_by decl.pointer (is_array decl) decl.cols) (elements_by (kind_by decl.pointer (is_array decl) decl.cols) (elements_of decl)) ≡ true = sound-spelled (seen.Object (object decl is_local)) s in
    let fine : bad_init decl (is_none function || decl.is_static) decl.init ≡ false =
    ap (λ (b : Bool). bad_init decl b decl.init) same ∙ none-at _ decl.name.at (sound-clean (seen.Object (object decl is_local)) s).initialiser in
    ap (λ (b : Bool). counts_by (object_of decl function exposed) (if b then None else values_by decl decl.init)) p
    ∙ counts-as decl function exposed (values_by decl decl.init) p
    (declared-count decl.pointer (is_array decl) decl.cols (rows_of decl) (itself decl.pointer (is_some decl.rows)) spelled p ∙ elements-are decl.pointer (is_array decl) decl.cols (elements_of decl) p)
    (values-counted decl (is_none function || decl.is_static) decl.init (λ array. some-elements decl.pointer (is_array decl) decl.cols (elements_of decl) p array spelled) fine)

parameter-counts : (view : Bool) → (view || true) ≡ true
parameter-counts true = refl
parameter-counts false = refl

pub each-counts : HoldsOfObjects is_sound counts
each-counts = record {
  inner = λ decl function exposed p. declared-counts decl true (Some function) exposed refl p decl.pointer refl;
  outer = λ decl exposed p. declared-counts decl false None exposed refl p decl.pointer refl;
  parameters = λ param function exposed. parameter-counts _;
}
