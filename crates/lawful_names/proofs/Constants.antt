-- The relational constants of a source that passes no limit are few.
use Rattle.std.proofs.Common.{◌≡◌, Ordering, Less, Equal, Greater, suc, ◌-◌, ◌≤◌, ◌<◌, List, [], ◌∷◌, ◌++◌, Bool, true, false, length, refl, ap, arith}
use Rattle.std.specs.Prelude.{ℤ, Some, None, not, ◌&&◌, ◌||◌, nat_le, if◌then◌else◌}
use Rattle.std.specs.BTreeMap.{is_at}
use Rattle.std.specs.BTreeSet.{insert_key}
use Rattle.std.specs.List.{list_any}
use Rattle.std.specs.Ordering.{match_ordering, int_cmp, is_eq}
use Rattle.std.proofs.lemmas.Bool.Decides.{nat_tests}
use Rattle.sat_base.specs.declared.limits.TheConstants.{CONSTANTS}
use Rattle.sat_base.specs.declared.fault.FaultKind.TheVariants as fault
use Rattle.sat_base.specs.declared.name.At.{At}
use Rattle.c_tree.specs.declared.program.Program.{Program}
use Rattle.c_typed.specs.declared.typed.Typed.{Typed}
use Rattle.c_seen.specs.declared.seen.Seen.{Seen}
use Rattle.c_seen.specs.declared.seen.Seen.TheVariants as seen
use Rattle.c_seen.specs.Sources.{seen_of}
use Rattle.c_faults.specs.Faults.{limits}
use Rattle.c_faults.specs.Limits.{first_constant_past, constants_passed}
use Rattle.c_types.specs.Constants.{constants_after, constants_of}
use Rattle.c_types.specs.Tied.{IsTyped}
use Rattle.lawful_names.proofs.Clean.{AllNone, none-kept, untold, never}
use Rattle.lawful_names.proofs.Faultless.{no-limit}

-- a value at its place among others, by how it compares with the first
abbrev placed : Ordering → ℤ → ℤ → List ℤ → List ℤ
placed order value other rest = match_ordering order (value ∷ other ∷ rest) (other ∷ rest) (other ∷ insert_key int_cmp rest value)

one-more : (order : Ordering) (value other : ℤ) (rest : List ℤ) → is_eq order ≡ false → length (insert_key int_cmp rest value) ≡ suc (length rest) → length (placed order value other rest) ≡ suc (suc (length rest))
one-more Less value other rest p q = refl
one-more Equal value other rest p q = cc
one-more Greater value other rest p q = ap suc q

no-fewer : (order : Ordering) (value other : ℤ) (rest : List ℤ) → length rest ≤ length (insert_key int_cmp rest value) → suc (length rest) ≤ length (placed order value other rest)
no-fewer Less value other rest q = omega arith
no-fewer Equal value other rest q = omega arith
no-fewer Greater value other rest q = omega arith

neither : (a b : Bool) → (a || b) ≡ false → (a ≡ false) × (b ≡ false)
neither true b p = cc
neither false b p = (refl, p)

counted : (values : List ℤ) (value : ℤ) → list_any (is_at (int_cmp value)) values ≡ false → length (insert_key int_cmp values value) ≡ suc (length values)
counted [] value p = refl
counted (other ∷ rest) value p =
    let apart : (is_at (int_cmp value) other ≡ false) × (list_any (is_at (int_cmp value)) rest ≡ false) = neither _ _ p in
    one-more (int_cmp value other) value other rest apart.0 (counted rest value apart.1)

at-least : (values : List ℤ) (value : ℤ) → length values ≤ length (insert_key int_cmp values value)
at-least [] value = omega arith
at-least (other ∷ rest) value = no-fewer (int_cmp value other) value other rest (at-least rest value)

-- so many may still come
abbrev FewAfter : List ℤ → List Seen → Type 0
FewAfter values list = length (constants_after values list) ≤ CONSTANTS - length values

step : (values : List ℤ) (value : ℤ) (rest : List Seen) (at : At) (among : Bool) → list_any (is_at (int_cmp value)) values ≡ among → (full : Bool) → nat_le CONSTANTS (length values) ≡ full
    → (if not among && full then Some at else first_constant_past (insert_key int_cmp values value) rest) ≡ None → (first_constant_past (insert_key int_cmp values value) rest ≡ None → FewAfter (insert_key int_cmp values value) rest)
    → length ((if among then [] else value ∷ []) ++ constants_after (insert_key int_cmp values value) rest) ≤ CONSTANTS - length values
step values value rest at true is full full_is p few =
    let later : FewAfter (insert_key int_cmp values value) rest = few p in
    let more : length values ≤ length (insert_key int_cmp values value) = at-least values value in omega arith
step values value rest at false is true full_is p few = absurd (never at p)
step values value rest at false is false full_is p few =
    let later : FewAfter (insert_key int_cmp values value) rest = few p in
    let more : length (insert_key int_cmp values value) ≡ suc (length values) = counted values value is in
    let room : length values < CONSTANTS = grind (arith, nat_tests) in omega arith

few-after : (values : List ℤ) (list : List Seen) → first_constant_past values list ≡ None → FewAfter values list
few-after values [] p = omega arith
few-after values (seen.Place place ∷ rest) p = few-after values rest p
few-after values (seen.Call call ∷ rest) p = few-after values rest p
few-after values (seen.NoView at ∷ rest) p = few-after values rest p
few-after values (seen.Name at is_taken ∷ rest) p = few-after values rest p
few-after values (seen.Object object ∷ rest) p = few-after values rest p
few-after values (seen.Parameter param ∷ rest) p = few-after values rest p
few-after values (seen.Function function ∷ rest) p = few-after values rest p
few-after values (seen.Statement at ∷ rest) p = few-after values rest p
few-after values (seen.Constant at value ∷ rest) p = step values value rest at _ refl _ refl p (few-after (insert_key int_cmp values value) rest)
few-after values (seen.Leave at in_loop ∷ rest) p = few-after values rest p
few-after values (seen.Return at has_value gives ∷ rest) p = few-after values rest p
few-after values (seen.End at has_main ∷ rest) p = few-after values rest p

pub constants-few : (program : Program) (source : Typed) → IsTyped program source → length source.constants ≤ CONSTANTS
constants-few program source is =
    let all : AllNone (limits (seen_of program)) = none-kept (limits (seen_of program)) (no-limit program is.faultless) in
    let few : FewAfter [] (seen_of program) = few-after [] (seen_of program) (untold fault.TooManyConstants (constants_passed (seen_of program)) all.1.1.1.1.0) in
    let same : length source.constants ≡ length (constants_of (seen_of program)) = ap length is.tied.constants in omega arith
