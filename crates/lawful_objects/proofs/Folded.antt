-- The value of a constant expression has 32 bits where its integers have them, and each initial value fits its width.
use Rattle.std.proofs.Common.{◌≡◌, ℕ, zero, suc, ◌-◌, List, [], ◌∷◌, Bool, true, false, length, map, refl, sym, ◌∙◌, arith}
use Rattle.std.specs.Prelude.{ℤ, pos, ◌+ℤ◌, ◌-ℤ◌, ◌*ℤ◌, neg_ℤ, FitsSigned, if◌then◌else◌, flat_map, replicate, Option, Some, None}
use Rattle.std.specs.Int.{w16}
use Rattle.std.specs.List.{list_all}
use Rattle.std.proofs.lemmas.Bool.Decides.{nat_tests}
use Rattle.std.proofs.lemmas.Int.{ints}
use Rattle.std.proofs.lemmas.List.Folds.{list_all-append}
use Rattle.sat_base.specs.declared.width.Width.{Width}
use Rattle.sat_base.specs.declared.width.Width.TheVariants.{W16, W32}
use Rattle.sat_base.specs.Clip.{low16}
use Rattle.sat_base.proofs.Low.{low16_fits}
use Rattle.c_tree.specs.declared.call.Arg.{Arg, Value', Address}
use Rattle.c_tree.specs.declared.declaration.Decl.{Decl}
use Rattle.c_tree.specs.declared.declaration.Init.{Init}
use Rattle.c_tree.specs.declared.declaration.Init.TheVariants as init
use Rattle.c_tree.specs.declared.declaration.Row.{Row}
use Rattle.c_tree.specs.declared.expression.BinaryMark.{BinaryMark}
use Rattle.c_tree.specs.declared.expression.BinaryMark.TheVariants as binary
use Rattle.c_tree.specs.declared.expression.Expr.{Expr}
use Rattle.c_tree.specs.declared.expression.ExprKind.{ExprKind, Int, Read', ReadOverflow, Unary', Binary', Cast', Choose', Call', more_of-Expr as boxed}
use Rattle.c_tree.specs.declared.expression.UnaryMark.{UnaryMark}
use Rattle.c_tree.specs.declared.expression.UnaryMark.TheVariants as unary
use Rattle.constant_expressions.specs.Folding.{within, converted, unary_value, binary_value, folded, folded_kind}
use Rattle.operator_meaning.specs.declared.object.Object.{Object}
use Rattle.tied_objects.specs.Initial.{constant_or, constant, filled, filled_row, element_count, column_count, value_if, given_value, values_by}
use Rattle.tied_objects.specs.Objects.{object_of}
use Rattle.lawful_sources.specs.Objects.{fits_width}
use Rattle.lawful_laws.proofs.Functions.{both, left, right}
use Rattle.lawful_objects.specs.Integers.{kind_fits, expression_fits, argument_fits, row_fits, initialiser_fits, declaration_fits}

-- ---- one value

abbrev fits_if : Option ℤ → Bool
fits_if None = true
fits_if (Some value) = fits_width W32 value

kept-fits : (test : Bool) (value : ℤ) → test ≡ fits_width W32 value → fits_if (if test then Some value else None) ≡ true
kept-fits true value p = sym p
kept-fits false value p = refl

within-fits : (value : ℤ) → fits_if (within value) ≡ true
within-fits value = kept-fits (fits_width W32 value) value refl

low-fits-by : (x : ℤ) → FitsSigned w16 x → fits_width W16 x ≡ true
low-fits-by x p = grind (arith, nat_tests, ints)

low-fits : (value : ℤ) → fits_width W16 (low16 value) ≡ true
low-fits value = low-fits-by (low16 value) (low16_fits value)

wider : (x : ℤ) → fits_width W16 x ≡ true → fits_width W32 x ≡ true
wider x p = grind (arith, nat_tests, ints)

unary-fits : (mark : UnaryMark) (value : Option ℤ) → fits_if value ≡ true → fits_if (unary_value mark value) ≡ true
unary-fits mark None p = refl
unary-fits unary.Plus (Some value) p = p
unary-fits unary.Minus (Some value) p = within-fits (neg_ℤ value)
unary-fits unary.Not (Some value) p = refl
unary-fits unary.Invert (Some value) p = refl

converted-fits : (width : Width) (value : Option ℤ) → fits_if value ≡ true → fits_if (converted width value) ≡ true
converted-fits width None p = refl
converted-fits W16 (Some value) p = wider (low16 value) (low-fits value)
converted-fits W32 (Some value) p = p

binary-fits : (mark : BinaryMark) (one other : Option ℤ) → fits_if (binary_value mark one other) ≡ true
binary-fits mark None other = refl
binary-fits mark (Some one) None = refl
binary-fits binary.Plus (Some one) (Some other) = within-fits (one +ℤ other)
binary-fits binary.Minus (Some one) (Some other) = within-fits (one -ℤ other)
binary-fits binary.Times (Some one) (Some other) = within-fits (one *ℤ other)
binary-fits mark (Some one) (Some other) = refl

folded-fits : (x : ExprKind) → kind_fits x ≡ true → fits_if (folded_kind x) ≡ true
folded-fits (Int value) p = p
folded-fits (Read' _ place) p = refl
folded-fits (ReadOverflow word_at) p = refl
folded-fits (Unary' mark mark_at _ (boxed at brackets kind _)) p = unary-fits mark (folded_kind kind) (folded-fits kind p)
folded-fits (Binary' mark mark_at _ (boxed at brackets kind _) _ (boxed at2 brackets2 kind2 _)) p = binary-fits mark (folded_kind kind) (folded_kind kind2)
folded-fits (Cast' width _ (boxed at brackets kind _)) p = converted-fits width (folded_kind kind) (folded-fits kind p)
folded-fits (Choose' _ cond _ one _ other) p = refl
folded-fits (Call' name _ args) p = refl

-- ---- all values of a declaration

abbrev pub all_fit : Width → Option (List ℤ) → Bool
all_fit width None = true
all_fit width (Some values) = list_all (fits_width width) values

zero-fits : (width : Width) → fits_width width (pos 0) ≡ true
zero-fits W16 = refl
zero-fits W32 = refl

zeros-fit : (width : Width) (count : ℕ) → list_all (fits_width width) (replicate count (pos 0)) ≡ true
zeros-fit width zero = refl
zeros-fit width (suc count) = both (fits_width width (pos 0)) _ (zero-fits width) (zeros-fit width count)

filled-fits : (width : Width) (count : ℕ) (values : List ℤ) → list_all (fits_width width) values ≡ true → list_all (fits_width width) (filled count values) ≡ true
filled-fits width count values p = list_all-append (fits_width width) values (replicate (count - length values) (pos 0)) ∙ both _ _ p (zeros-fit width (count - length values))

constant-fits : (width : Width) (value : Option ℤ) → fits_if value ≡ true → fits_width width (constant_or width value) ≡ true
constant-fits width None p = zero-fits width
constant-fits W16 (Some value) p = low-fits value
constant-fits W32 (Some value) p = p

constants-fit : (width : Width) (values : List Expr) → list_all expression_fits values ≡ true → list_all (fits_width width) (map (constant width) values) ≡ true
constants-fit width [] p = refl
constants-fit width (e ∷ values) p =
    both _ _ (constant-fits width (folded e) (folded-fits e.kind (left (expression_fits e) _ p))) (constants-fit width values (right (expression_fits e) _ p))

rows-fit : (width : Width) (columns : ℕ) (rows : List Row) → list_all row_fits rows ≡ true → list_all (fits_width width) (flat_map (filled_row width columns) rows) ≡ true
rows-fit width columns [] p = refl
rows-fit width columns (row ∷ rows) p =
    list_all-append (fits_width width) (filled_row width columns row) _
    ∙ both _ _ (filled-fits width columns _ (constants-fit width row.values (left (row_fits row) _ p))) (rows-fit width columns rows (right (row_fits row) _ p))

one-fits : (width : Width) (value : Option ℤ) → fits_if value ≡ true → all_fit width (value_if width value) ≡ true
one-fits width None p = refl
one-fits W16 (Some value) p = both _ true (low-fits value) refl
one-fits W32 (Some value) p = both _ true p refl

given-fits : (width : Width) (arg : Arg) → argument_fits arg ≡ true → all_fit width (given_value width arg) ≡ true
given-fits width (Value' at brackets kind) p = one-fits width (folded_kind kind) (folded-fits kind p)
given-fits width (Address at place) p = refl

values-fit : (decl : Decl) (start : Init) → initialiser_fits start ≡ true → all_fit decl.width (values_by decl start) ≡ true
values-fit decl init.Nothing p = filled-fits decl.width (element_count decl) [] refl
values-fit decl (init.One arg) p = given-fits decl.width arg p
values-fit decl (init.Flat values) p = filled-fits decl.width (element_count decl) _ (constants-fit decl.width values p)
values-fit decl (init.Rows rows) p = filled-fits decl.width (element_count decl) _ (rows-fit decl.width (column_count decl) rows p)

none-of : (pointer : Bool) (width : Width) (values : Option (List ℤ)) → all_fit width values ≡ true → all_fit width (if pointer then None else values) ≡ true
none-of true width values p = refl
none-of false width values p = p

abbrev pub object_fits : Object → Bool
object_fits object = all_fit object.width object.initial

pub declared-fits : (decl : Decl) (function : Option ℕ) (exposed : Bool) → declaration_fits decl ≡ true → object_fits (object_of decl function exposed) ≡ true
declared-fits decl function exposed p = none-of decl.pointer decl.width (values_by decl decl.init) (values-fit decl decl.init p)
