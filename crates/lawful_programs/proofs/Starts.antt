-- Objects that start in a lawful tree over scalars are such as code is emitted for, and weigh no more than their words may
-- cost.
use Rattle.std.proofs.Common.{◌≡◌, ℕ, zero, suc, ◌+◌, ◌≤◌, Bool, true, false, not, List, [], ◌∷◌, ◌++◌, refl, sym, ap, subst, arith}
use Rattle.std.specs.Prelude.{◌==◌, ◌&&◌, ◌||◌, if◌then◌else◌, nat_le, slice_get, ℤ, pos, Option, Some, None, is_none}
use Rattle.std.proofs.lemmas.Bool.Decides.{nat_tests}
use Rattle.std.proofs.lemmas.Int.{ints, int_wrap_fits}
use Rattle.std.specs.Int.{w16}
use Rattle.sat_base.specs.declared.width.Width.{Width}
use Rattle.sat_base.specs.declared.width.Width.TheVariants.{W16, W32}
use Rattle.operator_meaning.specs.declared.object.Object.{Object}
use Rattle.operator_meaning.specs.declared.object.Storage.{Storage}
use Rattle.operator_meaning.specs.declared.object.Storage.TheVariants.{Static, Automatic, Parameter}
use Rattle.operator_meaning.specs.declared.site.SiteKind.{SiteKind}
use Rattle.operator_meaning.specs.declared.site.SiteKind.TheVariants as kinds
use Rattle.c_typed.specs.declared.typed.Typed.{Typed}
use Rattle.source_runs.specs.Shapes.{opening_of, shape_of}
use Rattle.source_runs.specs.State.{converted}
use Rattle.ir_arena.specs.Costs.{cost_of, costs_of}
use Rattle.ir_arena.specs.Tree.{IrTree, IrTrees, Constant, Operate, Binary, AddCount, Start, If, Return, end, more}
use Rattle.lawful_sources.specs.Expressions.{binary_kind}
use Rattle.lawful_sources.specs.Objects.{begins_with, is_parameter, is_static, value_agrees}
use Rattle.lawful_sources.specs.Things.{Begins, due_of, taken_by_object}
use Rattle.lawful_ir.specs.Positions.{TreeThing, Of, Misplaced, Starting, given_as, placed_if}
use Rattle.lawful_ir.specs.Walk.{begun_along, computed, count_in, object_at, one_operand, stands, started_in, starts_stand, two_operands, value_in}
use Rattle.lawful_ir.proofs.Alike.{never}
use Rattle.code_stacks.specs.Places.{Layout}
use Rattle.expression_code.specs.Straight.{height_of}
use Rattle.simple_code.specs.Starts.{IsNumbered, IsOpened, IsOpening}
use Rattle.statement_code.specs.Blocks.{Opening, AreOpenings, object_of, openings_of, value_of, weight_of_openings}
use Rattle.lawful_programs.specs.Heights.{height_of_starts}
use Rattle.lawful_programs.proofs.Expressions.{IsFor, IsStraight, straight}
use Rattle.lawful_programs.proofs.Plain.{ArePlain, IsPlain, first_part, only_part, row, second_part, tree}
use Rattle.lawful_programs.proofs.Standing.{Fits, Stand, early, late, placed}

pub same_number : (n m : ℕ) → (n == m) ≡ true → n ≡ m
same_number n m same = grind (arith, nat_tests)

-- ---- the number that stands for a missing value

only_number : (initial : Option (List ℤ)) → value_agrees initial (Some (pos 0)) ≡ true → initial ≡ Some (pos 0 ∷ [])
only_number (Some (x ∷ [])) is = ap (λ y. Some (y ∷ [])) (grind (arith, ints))
only_number (Some []) is = never is
only_number (Some (x ∷ y ∷ rest)) is = never is
only_number None is = never is

zero_stays : (width : Width) → converted width (pos 0) ≡ pos 0
zero_stays W16 = int_wrap_fits w16 (pos 0) (grind (arith, ints))
zero_stays W32 = refl

begun_there : (found : Option Object) (value : Option (Option ℤ)) → begins_with found value ≡ true → (object : Object) × (found ≡ Some object) × (begins_with (Some object) value ≡ true)
begun_there None value is = never is
begun_there (Some object) value is = (object, refl, is)

-- a scalar that is not static has an initial value
begins_at_zero : (parameter static view many agrees : Bool) → static ≡ false → (not view && many) ≡ true → (not parameter && (static || (not view && (not many || agrees)))) ≡ true → agrees ≡ true
begins_at_zero parameter static view many agrees moves scalar is = grind arith

module _ (tables : Typed) (l : Layout) (for : IsFor tables l) where
  module _ (n : ℕ) (object : Object) (found : slice_get tables.objects n ≡ Some object) (begins : begins_with (Some object) None ≡ true) (room : 1 ≤ l.depth) where
    opening_is_zero : is_static object.storage ≡ false → opening_of object ≡ pos 0 ∷ []
    opening_is_zero moves =
        let agrees = begins_at_zero (is_parameter object.storage) (is_static object.storage) object.view (object.rows == 0) (value_agrees object.initial (Some (pos 0))) moves (for.scalars n object found) begins in
        rw (only_number object.initial agrees) refl

    number_is : is_static object.storage ≡ false → IsNumbered tables.objects l n object
    number_is moves =
        let zero = opening_is_zero moves in
        record { variable = for.variables n object found; number = rw zero refl; converts = rw zero (ap (λ x. x ∷ []) (sym (zero_stays (shape_of tables.objects n).width))); room = room }

    opened_is : (storage : Storage) → object.storage ≡ storage → IsOpened tables.objects l storage n object
    opened_is Static is = tt
    opened_is Automatic is = number_is (ap is_static is)
    opened_is Parameter is = number_is (ap is_static is)

  opening_is : (n : ℕ) (found : Option Object) → slice_get tables.objects n ≡ found → begins_with found None ≡ true → 1 ≤ l.depth → IsOpening tables.objects l n found
  opening_is n None found begins room = tt
  opening_is n (Some object) found begins room = opened_is n object found begins room object.storage refl

  -- ---- starts

  record IsBegun (start : IrTree) : Type 0 where
    variable : l.is_variable (object_of start) ≡ true
    straight : IsStraight tables l for (value_of start)
    less : cost_of (value_of start) ≤ cost_of start

  never_one : (site : ℕ) (kind : SiteKind) (weight : ℕ) (operands : List (List TreeThing)) → Stand tables (one_operand tables Starting site kind weight operands) → ⊥
  never_one site kind weight (part ∷ []) stand = (placed tables (weight == 0) (Misplaced ∷ []) stand).1.0
  never_one site kind weight operands stand = stand.0

  never_two : (site : ℕ) (kind : SiteKind) (weight : ℕ) (operands : List (List TreeThing)) → Stand tables (two_operands tables Starting site kind weight operands) → ⊥
  never_two site kind weight (one ∷ other ∷ []) stand = (placed tables (weight == 0) (Misplaced ∷ []) stand).1.0
  never_two site kind weight operands stand = stand.0

  pub never_if : (is : Bool) → Stand tables (placed_if is (Misplaced ∷ [])) → ⊥
  never_if is stand = (placed tables is (Misplaced ∷ []) stand).1.0

  -- no site stands where an object starts
  never_computed : (site : ℕ) (kind : SiteKind) (weight : ℕ) (operands : List (List TreeThing)) (arguments : List TreeThing) → Stand tables (computed tables Starting site kind weight operands arguments) → ⊥
  never_computed site (kinds.Call op) weight operands arguments stand = never_if _ stand
  never_computed site kinds.Sample weight operands arguments stand = never_if _ stand
  never_computed site kinds.Opposite weight operands arguments stand = never_one site kinds.Opposite weight operands stand
  never_computed site kinds.Sum weight operands arguments stand = never_two site kinds.Sum weight operands stand
  never_computed site kinds.Difference weight operands arguments stand = never_two site kinds.Difference weight operands stand
  never_computed site kinds.Product weight operands arguments stand = never_two site kinds.Product weight operands stand
  never_computed site kind weight operands arguments stand = stand.0

  start_is : (start : IrTree) → Stand tables (stands tables start Starting) → IsPlain start → IsBegun start
  start_is (Start object value) stand plain =
      let taken = taken_by_object (object_at tables object) in
      let things = stands tables value (given_as taken) in
      let begins = (late tables things (Of (Begins object (Some (value_in value))) ∷ []) stand).0.begins in
      let found = begun_there (slice_get tables.objects object) _ begins in
      record {
        variable = for.variables object found.0 found.1;
        straight = straight tables l for value (Some taken) (due_of taken) (early tables things _ stand) (only_part (tree value) _ plain (omega arith));
        less = omega arith;
      }
  start_is (Operate site kind operands weight) stand plain = absurd (never_computed site kind weight _ _ stand)
  start_is (Binary mark one other) stand plain = absurd (never_if (is_none (binary_kind mark)) stand)
  start_is (AddCount weight) stand plain = absurd (never_if _ stand)
  start_is (If cond this other) stand plain = absurd (never_if (nat_le (count_in other) 1) stand)
  start_is (Return value) stand plain = absurd (never_if (nat_le (count_in value) 1) stand)
  start_is start stand plain = absurd stand.0

  -- ---- all objects of a block

  pub record AreOpened (openings : List Opening) (cost : ℕ) : Type 0 where
    pub are : AreOpenings tables.objects l openings
    pub light : weight_of_openings openings ≤ cost

  same_object : (start : IrTree) → started_in start ≡ object_of start
  same_object (Start object value) = refl
  same_object start = refl

  -- the rest of a block, with the next object or without it
  module _ (n : ℕ) (start : IrTree) (room : 1 ≤ l.depth) (most : ℕ) where
    abbrev started : List Opening → List Opening
    started openings = record { object = n; value = Some (value_of start) } ∷ openings

    abbrev unstarted : List Opening → List Opening
    unstarted openings = record { object = n; value = None } ∷ openings

    opened_without : (openings : List Opening) → Fits tables (Begins n None) → AreOpened openings most → AreOpened (unstarted openings) most
    opened_without openings begins rest = record { are = (opening_is n (slice_get tables.objects n) refl begins.begins room, rest.are); light = omega (arith, rest.light) }

    opened_with : (openings : List Opening) (cost : ℕ) → object_of start ≡ n → IsBegun start → height_of (value_of start) ≤ l.depth → cost_of start + cost ≤ most → AreOpened openings cost → AreOpened (started openings) most
    opened_with openings cost same begun high less rest = record {
      are = (record { variable = subst (λ k. l.is_variable k ≡ true) same begun.variable; straight = begun.straight.is; room = high }, rest.are);
      light = omega (arith, rest.light, begun.straight.light, begun.less, less);
    }

    -- the next object has this start, or none
    chosen : (same : Bool) (things with without : List TreeThing) (some none : List Opening) → Stand tables (if same then things ++ with else Of (Begins n None) ∷ without)
        → (same ≡ true → Stand tables things → Stand tables with → AreOpened some most) → (Fits tables (Begins n None) → Stand tables without → AreOpened none most) → AreOpened (if same then some else none) most
    chosen true things with without some none stand if_some if_none = if_some refl (early tables things with stand) (late tables things with stand)
    chosen false things with without some none stand if_some if_none = if_none stand.0 stand.1

  pub openings_are : (count first : ℕ) (starts : IrTrees) → Stand tables (begun_along first count (starts_stand tables starts)) → ArePlain starts → height_of_starts starts ≤ l.depth → 1 ≤ l.depth
      → AreOpened (openings_of count first starts) (costs_of starts)
  openings_are zero first starts stand plain high room = record { are = tt; light = omega arith }
  openings_are (suc count) first end stand plain high room =
      opened_without first (Constant (pos 0)) room 0 (openings_of count (first + 1) end) stand.0 (openings_are count (first + 1) end stand.1 plain high room)
  openings_are (suc count) first (more start rest) stand plain high room =
      let most = costs_of (more start rest) in
      let things = stands tables start Starting in
      let with = begun_along (first + 1) count (starts_stand tables rest) in
      let without = begun_along (first + 1) count (starts_stand tables (more start rest)) in
      let start_plain = first_part (tree start) (row rest) _ plain (omega arith) in
      let rest_plain = second_part (tree start) (row rest) _ plain (omega arith) in
      chosen first start room most (object_of start == first) things with without _ _ (subst (λ n. Stand tables (if n == first then things ++ with else Of (Begins first None) ∷ without)) (same_object start) stand)
      (λ same begun stand_with. opened_with first start room most (openings_of count (first + 1) rest) (costs_of rest) (same_number (object_of start) first same) (start_is start begun start_plain) (omega (arith, high)) (omega arith)
      (openings_are count (first + 1) rest stand_with rest_plain (omega (arith, high)) room))
      (λ begins stand_without. opened_without first start room most (openings_of count (first + 1) (more start rest)) begins (openings_are count (first + 1) (more start rest) stand_without plain high room))
