-- The scalars and the views of each function of a source that passes no limit are few.
use Rattle.std.proofs.Common.{◌≡◌, ℕ, ◌≤◌, [], ◌∷◌, Bool, true, false, length, refl, sym, ap, arith}
use Rattle.std.specs.Prelude.{Some, is_none, not, ◌&&◌, ◌==◌, if◌then◌else◌}
use Rattle.std.specs.List.{filter}
use Rattle.std.proofs.lemmas.Bool.{eqb-true}
use Rattle.sat_base.specs.declared.fault.FaultKind.TheVariants as fault
use Rattle.sat_base.specs.declared.limits.TheConstants.{SCALARS, VIEWS}
use Rattle.c_tree.specs.declared.program.Program.{Program}
use Rattle.c_typed.specs.declared.typed.Typed.{Typed}
use Rattle.declared_objects.specs.Lengths.{is_array}
use Rattle.c_seen.specs.declared.seen.Kind.{Kind}
use Rattle.c_seen.specs.declared.seen.Kind.TheVariants as kinds
use Rattle.c_seen.specs.Functions.{is_view}
use Rattle.c_seen.specs.Meanings.{kind_of}
use Rattle.c_seen.specs.Sources.{seen_of, end_of}
use Rattle.c_faults.specs.declared.limits.Quantity.TheVariants as of
use Rattle.c_faults.specs.Faults.{limits}
use Rattle.c_faults.specs.Limits as past
use Rattle.c_faults.specs.Limits.{one_if, passed}
use Rattle.tied_objects.specs.Objects.{rows_in, columns_in}
use Rattle.c_types.specs.Sources.{after_items}
use Rattle.c_types.specs.Tied.{IsTyped}
use Rattle.lawful_sources.specs.Lawful.{is_own_scalar, is_own_view}
use Rattle.lawful_laws.proofs.Functions.{left, right}
use Rattle.lawful_names.specs.Spelled.{AllSpelled}
use Rattle.lawful_names.proofs.Clean.{AllNone, none-kept, untold, is_clean, when-clean}
use Rattle.lawful_names.proofs.Faultless.{seen-clean, no-limit}
use Rattle.lawful_names.proofs.OwnFew.{Counting, own-few}
use Rattle.lawful_names.proofs.Shapes.{shows, is_sound, sound-clean, all-sound, sound-shapes}
use Rattle.lawful_names.proofs.Sources.{reached, start_of, names_at_start}
use Rattle.lawful_names.proofs.Totals.{total, one_if_passed, count-total}
use Rattle.lawful_names.proofs.Truths.{is-false}

-- ---- one object

one-at-most : (test : Bool) → (if test then 1 else 0) ≤ 1
one-at-most true = omega arith
one-at-most false = omega arith

none-if : (test : Bool) (cost : ℕ) → test ≡ false → (if test then 1 else 0) ≤ cost
none-if true cost p = cc
none-if false cost p = omega arith

and-false : (a b : Bool) → b ≡ false → (a && b) ≡ false
and-false true b p = p
and-false false b p = refl

false-and : (a b : Bool) → a ≡ false → (a && b) ≡ false
false-and true b p = cc
false-and false b p = refl

other-by : (n k : ℕ) (same : Bool) → (n == k) ≡ same → (k ≡ n → ⊥) → same ≡ false
other-by n k true is apart = absurd (apart (sym (eqb-true n k is)))
other-by n k false is apart = refl

-- an object of another function does not count
not-own : (n k : ℕ) (rest : Bool) → (k ≡ n → ⊥) → (if (n == k) && rest then 1 else 0) ≤ 0
not-own n k rest apart = none-if _ 0 (false-and (n == k) rest (other-by n k (n == k) refl apart))

view-count : (own pointer array line : Bool) → (if own && pointer then 1 else 0) ≤ one_if (past.is_view (if pointer then kinds.View else (if not array then kinds.Scalar else (if line then kinds.Array else kinds.Table))))
view-count own true array line = one-at-most (own && true)
view-count own false array line = none-if _ _ (and-false own false refl)

parameter-view : (own view : Bool) → (if own && view then 1 else 0) ≤ one_if view
parameter-view own true = one-at-most (own && true)
parameter-view own false = none-if _ _ (and-false own false refl)

scalar-count : (own : Bool) (kind : Kind) (view : Bool) (rows columns : ℕ) → shows kind view rows columns ≡ true → (if own && (not view && rows == 0) then 1 else 0) ≤ one_if (past.is_scalar kind)
scalar-count own kinds.Scalar view rows columns p = one-at-most _
scalar-count own kinds.Array view rows columns p = none-if _ _ (and-false own _ (and-false (not view) _ (is-false (rows == 0) (left (not (rows == 0)) _ (right (not view) _ p)))))
scalar-count own kinds.Table view rows columns p = none-if _ _ (and-false own _ (and-false (not view) _ (is-false (rows == 0) (left (not (rows == 0)) _ (right (not view) _ p)))))
scalar-count own kinds.View view rows columns p = none-if _ _ (and-false own _ (false-and (not view) _ (ap not (left view _ p))))

parameter-scalar : (own view : Bool) → (if own && (not view && 0 == 0) then 1 else 0) ≤ one_if (not view)
parameter-scalar own true = none-if _ _ (and-false own _ refl)
parameter-scalar own false = one-at-most _

-- ---- all objects

views : (n : ℕ) → Counting is_clean of.Views n (one_if_passed (is_own_view n))
views n = record {
  by_function = refl;
  no_function = λ f. refl;
  outer = λ decl exposed. omega arith;
  own = record {
    inner = λ decl exposed p. view-count (n == n) decl.pointer (is_array decl) (is_none decl.cols);
    parameters = λ param exposed p. parameter-view (n == n) (is_view param);
  };
  others = λ k apart. record { inner = λ decl exposed p. not-own n k _ apart; parameters = λ param exposed p. not-own n k _ apart };
}

scalars : (n : ℕ) → Counting is_sound of.Scalars n (one_if_passed (is_own_scalar n))
scalars n = record {
  by_function = refl;
  no_function = λ f. refl;
  outer = λ decl exposed. omega arith;
  own = record {
    inner = λ decl exposed p. scalar-count (n == n) (kind_of decl) decl.pointer (rows_in decl) (columns_in decl) (sound-shapes.declared decl true (Some n) exposed p);
    parameters = λ param exposed p. parameter-scalar (n == n) (is_view param);
  };
  others = λ k apart. record { inner = λ decl exposed p. not-own n k _ apart; parameters = λ param exposed p. not-own n k _ apart };
}

pub views-few : (program : Program) (source : Typed) → IsTyped program source → (function : ℕ) → length (filter (is_own_view function) source.objects) ≤ VIEWS
views-few program source is n =
    let all : AllNone (limits (seen_of program)) = none-kept (limits (seen_of program)) (no-limit program is.faultless) in
    let few : total (one_if_passed (is_own_view n)) (after_items (start_of program source) 0 program.items).here.objects ≤ VIEWS =
    own-few source program.items is_clean when-clean of.Views n (one_if_passed (is_own_view n)) (views n) (start_of program source) (names_at_start program) program.items (end_of program ∷ [])
    (reached program source is_clean when-clean is.tied (seen-clean program is.faultless)) (record { still = VIEWS; none_past = untold fault.TooManyViews (passed of.Views (seen_of program)) all.1.1.1.1.1.1.0 }) (omega arith) in
    let same : total (one_if_passed (is_own_view n)) source.objects ≡ total (one_if_passed (is_own_view n)) (after_items (start_of program source) 0 program.items).here.objects = ap (total (one_if_passed (is_own_view n))) is.tied.objects in
    let count : length (filter (is_own_view n) source.objects) ≡ total (one_if_passed (is_own_view n)) source.objects = count-total (is_own_view n) source.objects in omega arith

pub scalars-few : (program : Program) (source : Typed) → AllSpelled program → IsTyped program source → (function : ℕ) → length (filter (is_own_scalar function) source.objects) ≤ SCALARS
scalars-few program source spelled is n =
    let all : AllNone (limits (seen_of program)) = none-kept (limits (seen_of program)) (no-limit program is.faultless) in
    let few : total (one_if_passed (is_own_scalar n)) (after_items (start_of program source) 0 program.items).here.objects ≤ SCALARS =
    own-few source program.items is_sound sound-clean of.Scalars n (one_if_passed (is_own_scalar n)) (scalars n) (start_of program source) (names_at_start program) program.items (end_of program ∷ [])
    (reached program source is_sound sound-clean is.tied (all-sound (seen_of program) (seen-clean program is.faultless) spelled)) (record { still = SCALARS; none_past = untold fault.TooManyScalars (passed of.Scalars (seen_of program)) all.1.0 }) (omega arith) in
    let same : total (one_if_passed (is_own_scalar n)) source.objects ≡ total (one_if_passed (is_own_scalar n)) (after_items (start_of program source) 0 program.items).here.objects = ap (total (one_if_passed (is_own_scalar n))) is.tied.objects in
    let count : length (filter (is_own_scalar n) source.objects) ≡ total (one_if_passed (is_own_scalar n)) source.objects = count-total (is_own_scalar n) source.objects in omega arith
