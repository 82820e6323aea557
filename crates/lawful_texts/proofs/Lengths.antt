-- An array without a bad length has an element, where the grammar allows it: its second brackets have a length in them,
-- and a list has an item.
use Rattle.std.proofs.Common.{◌≡◌, ℕ, zero, suc, ◌*◌, ◌<◌, ◌≤◌, Bool, true, false, length, refl, arith}
use Rattle.std.specs.Prelude.{ℤ, pos, negsuc, int_lt, Option, Some, None, is_none, is_some, not, ◌&&◌, ◌||◌, ◌==◌, unwrap_or, option_map}
use Rattle.std.specs.Int.{div_ceil}
use Rattle.std.proofs.lemmas.Bool.Decides.{nat_tests}
use Rattle.std.proofs.lemmas.Grind.{div_ceil_times}
use Rattle.sat_base.specs.declared.name.At.{At}
use Rattle.c_tree.specs.declared.declaration.Decl.{Decl}
use Rattle.c_tree.specs.declared.declaration.Dim.{Dim}
use Rattle.c_tree.specs.declared.declaration.Init.{Init}
use Rattle.c_tree.specs.declared.declaration.Init.TheVariants as init
use Rattle.c_tree.specs.declared.expression.Expr.{Expr}
use Rattle.constant_expressions.specs.Folding.{folded}
use Rattle.declared_objects.specs.Lengths.{at_least_one, length_written, length_in, is_bad, rows_in, elements_in, is_list, bad_length, elements_of}
use Rattle.c_seen.specs.Declarations.{elements_by}
use Rattle.c_seen.specs.Meanings.{kind_of}
use Rattle.lawful_names.specs.Spelled.{has_elements}

-- ---- what the grammar says

abbrev pub IsFull : Init → Type 0
IsFull init.Nothing = Unit {0}
IsFull (init.One x) = Unit {0}
IsFull (init.Flat values) = 0 < length values
IsFull (init.Rows rows) = 0 < length rows

abbrev pub HasLength : Option Dim → Type 0
HasLength None = Unit {0}
HasLength (Some dim) = is_some dim.length ≡ true

-- ---- numbers that are not 0

record Positive (o : Option ℕ) : Type 0 where
  less : ℕ
  is : o ≡ Some (suc less)

positive : (n : ℕ) → 0 < n → Positive (Some n)
positive zero p = absurd (omega arith)
positive (suc n) p = record { less = n; is = refl }

not-zero : (o : Option ℕ) → Positive o → not (unwrap_or o 0 == 0) ≡ true
not-zero o p = rw p.is (grind (arith, nat_tests))

factor : (x k c : ℕ) → 0 < x → x ≤ k * suc c → 0 < k
factor x zero c p q = let none : 0 * suc c ≡ 0 = omega arith in omega arith
factor x (suc k) c p q = omega arith

times-positive : (rows : ℕ) (columns : Option ℕ) → Positive columns → Positive (option_map (λ c. suc rows * c) columns)
times-positive rows columns p = rw p.is (positive (suc rows * suc p.less) (grind arith))

ceil-positive : (x : ℕ) (columns : Option ℕ) → 0 < x → Positive columns → Positive (option_map (div_ceil x) columns)
ceil-positive x columns more p = rw p.is (positive (div_ceil x (suc p.less)) (factor x _ p.less more (div_ceil_times x (suc p.less) (omega arith)).0))

at-least : (value : Option ℤ) → is_none (at_least_one value) ≡ false → Positive (at_least_one value)
at-least None p = cc
at-least (Some (pos zero)) p = cc
at-least (Some (pos (suc n))) p = let less : int_lt (pos 0) (pos (suc n)) ≡ true = grind (arith, nat_tests) in record { less = n; is = rw less refl }
at-least (Some (negsuc n)) p = cc

pub neither : (a b : Bool) → (a || b) ≡ false → (a ≡ false) × (b ≡ false)
neither true b p = cc
neither false b p = (refl, p)

or-else : (a b : Bool) → (a ≡ false → b ≡ true) → (a || b) ≡ true
or-else true b p = refl
or-else false b p = p refl

-- ---- lengths

written-positive : (e : Option Expr) → (is_some e && is_none (length_written e)) ≡ false → is_some e ≡ true → Positive (length_written e)
written-positive None p q = cc
written-positive (Some e) p q = at-least (folded e) p

-- the columns, where there are any, are some
abbrev Columns : Option Dim → Type 0
Columns None = Unit {0}
Columns (Some dim) = Positive (length_in dim)

rows-positive : (at : At) (e : Option Expr) (start : Init) (cols : Option Dim) → (is_some e && is_none (length_written e)) ≡ false → (is_none e && not (is_list start)) ≡ false → IsFull start → Columns cols
    → Positive (rows_in (Some (record { at = at; length = e })) start cols)
rows-positive at (Some e) start cols bad missing full columns = at-least (folded e) bad
rows-positive at None init.Nothing cols bad missing full columns = cc
rows-positive at None (init.One x) cols bad missing full columns = cc
rows-positive at None (init.Flat values) None bad missing full columns = positive (length values) full
rows-positive at None (init.Flat values) (Some dim) bad missing full columns = ceil-positive (length values) (length_in dim) full columns
rows-positive at None (init.Rows rows) cols bad missing full columns = positive (length rows) full

elements-positive : (rows : Option ℕ) (dim : Dim) → Positive rows → Positive (length_in dim) → Positive (elements_in rows (Some dim))
elements-positive rows dim p q = rw p.is (times-positive p.less (length_in dim) q)

-- what is no pointer, by its brackets and by what it starts with
pub elements-stand : (decl : Decl) (rows cols : Option Dim) (start : Init) → HasLength cols → IsFull start → let d : Decl = record decl { pointer = false; rows = rows; cols = cols; init = start } in
    (bad_length d || has_elements (kind_of d) (elements_by (kind_of d) (elements_of d))) ≡ true
elements-stand decl None cols start second full = refl
elements-stand decl (Some dim) None start second full =
    or-else _ _ (λ bad.
    let first : (is_bad dim ≡ false) × ((is_none dim.length && not (is_list start)) ≡ false) = neither (is_bad dim) _ bad in
    not-zero _ (rows-positive dim.at dim.length start None first.0 first.1 full tt))
elements-stand decl (Some dim) (Some other) start second full =
    or-else _ _ (λ bad.
    let first : (is_bad dim ≡ false) × ((is_bad other || (is_none dim.length && not (is_list start))) ≡ false) = neither (is_bad dim) _ bad in
    let later : (is_bad other ≡ false) × ((is_none dim.length && not (is_list start)) ≡ false) = neither (is_bad other) _ first.1 in
    let columns : Positive (length_in other) = written-positive other.length later.0 second in
    not-zero _ (elements-positive _ other (rows-positive dim.at dim.length start (Some other) first.0 later.1 full columns) columns))
