-- Assignments and their like in a lawful tree over scalars are such as code is emitted for, and weigh no more than their
-- words may cost.
use Rattle.std.proofs.Common.{◌≡◌, ℕ, ◌≤◌, Bool, true, false, List, [], ◌∷◌, ◌++◌, refl, subst, arith}
use Rattle.std.specs.Prelude.{◌==◌, ◌&&◌, nat_le, pos, Option, Some, None, is_none}
use Rattle.std.specs.List.{list_any}
use Rattle.std.proofs.lemmas.Bool.{and_from}
use Rattle.std.proofs.lemmas.Bool.Decides.{nat_tests}
use Rattle.sat_base.specs.declared.width.Width.{Width}
use Rattle.sat_base.specs.declared.width.Width.TheVariants.{W32}
use Rattle.operator_meaning.specs.declared.site.SiteKind.{SiteKind}
use Rattle.operator_meaning.specs.declared.site.SiteKind.TheVariants as kinds
use Rattle.weight_table.specs.Weight.{first_weight}
use Rattle.c_tree.specs.declared.simple.AssignMark.{AssignMark}
use Rattle.c_tree.specs.declared.simple.AssignMark.TheVariants as assign
use Rattle.c_typed.specs.declared.call.Callee.TheVariants.{SampleOut}
use Rattle.c_typed.specs.declared.typed.Typed.{Typed}
use Rattle.source_runs.specs.Shapes.{shape_of}
use Rattle.typed_meaning.specs.Expressions.{site_at}
use Rattle.typed_meaning.specs.Statements.{step_mark}
use Rattle.ir_arena.specs.Costs.{cost_of}
use Rattle.ir_arena.specs.Tree.{IrTree, Constant, Operate, Binary, Call, Left, Write, Step, WriteFlag, Out, AddCount, If, Return, Variable}
use Rattle.lawful_sources.specs.Expressions.{binary_kind}
use Rattle.lawful_sources.specs.Rows.{same_width}
use Rattle.lawful_sources.specs.Statements.{assign_kind, due_by, step_kind}
use Rattle.lawful_sources.specs.Things.{Bare, Written, Place, due_of, taken_at}
use Rattle.lawful_ir.specs.Positions.{TreeThing, Of, Acting, Valued, placed_if}
use Rattle.lawful_ir.specs.Walk.{count_in, counting, marked, marked_if_any, object_at, stands, written}
use Rattle.lawful_ir.proofs.Alike.{never}
use Rattle.code_stacks.specs.Places.{Layout}
use Rattle.expression_code.specs.Code.{weight_of}
use Rattle.expression_code.specs.Straight.{is_numbered, is_straight}
use Rattle.simple_code.specs.Code.{computed, is_simple, weight_of_simple}
use Rattle.lawful_programs.proofs.Expressions.{IsFor, site_anywhere, straight, variable_is}
use Rattle.lawful_programs.proofs.Plain.{IsPlain, only_part, tree}
use Rattle.lawful_programs.proofs.Sites.{numbered}
use Rattle.lawful_programs.proofs.Standing.{Stand, early, late, placed}

-- a counting call weighs less than its words may be
count_is_little : (weight : ℕ) → list_any (λ what. weight == first_weight what) counting ≡ true → weight ≤ 16
count_is_little weight is = grind (arith, nat_tests)

module _ (tables : Typed) (l : Layout) (for : IsFor tables l) where
  numbered_if_any : (site : Option ℕ) (kind : SiteKind) → Stand tables (marked_if_any tables site (Some kind)) → is_numbered l (site_at site) kind ≡ true
  numbered_if_any (Some n) kind stand = numbered tables l for.few for.wordless _ n kind stand.0
  numbered_if_any None kind stand = absurd stand.0

  -- what is assigned, where the old value takes part or not
  module _ (n : ℕ) (variable : l.is_variable n ≡ true) (site : Option ℕ) (value : IrTree) (is : is_straight l value ≡ true) where
    two_are : (kind : SiteKind) → Stand tables (marked_if_any tables site (Some kind)) → ((is_numbered l (site_at site) kind) && (l.is_variable n && (is_straight l value && true))) ≡ true
    two_are kind stand = and_from _ _ (numbered_if_any site kind stand) (and_from _ _ variable (and_from _ true is refl))

    assigned_is : (mark : AssignMark) → Stand tables (marked_if_any tables site (assign_kind mark)) → is_straight l (computed (Variable n) mark (site_at site) value) ≡ true
    assigned_is assign.Plain stand = is
    assigned_is assign.Plus stand = two_are kinds.Sum stand
    assigned_is assign.Minus stand = two_are kinds.Difference stand
    assigned_is assign.Times stand = two_are kinds.Product stand
    assigned_is mark stand = and_from (l.is_variable n) (is_straight l value) variable is

  assigned_weighs : (n : ℕ) (mark : AssignMark) (site : ℕ) (value : IrTree) → weight_of (computed (Variable n) mark site value) ≤ weight_of value
  assigned_weighs n assign.Plain site value = omega arith
  assigned_weighs n mark site value = omega arith

  -- a variable is written
  written_there : (n : ℕ) (width : Width) (things : List TreeThing) → Stand tables (written tables (Variable n) width (Of (Place n Bare Written) ∷ things)) → (l.is_variable n ≡ true) × Stand tables things
  written_there n width things stand =
      let here = placed tables (same_width width (shape_of tables.objects n).width) (Of (Place n Bare Written) ∷ things) stand in (variable_is tables l for n here.1.0.reaches, here.1.1)

  -- a step is an assignment by its mark
  stepped : (up : Bool) (site : ℕ) → marked tables site (step_kind up) ∷ [] ≡ marked_if_any tables (Some site) (assign_kind (step_mark up))
  stepped true site = refl
  stepped false site = refl

  pub counting_is_light : (weight : ℕ) (things : List TreeThing) → Stand tables (placed_if (list_any (λ what. weight == first_weight what) counting) things) → weight ≤ 16
  counting_is_light weight things stand = count_is_little weight (placed tables _ things stand).0

  pub record IsActed (e : IrTree) : Type 0 where
    pub is : is_simple l e ≡ true
    pub light : weight_of_simple e ≤ cost_of e

  pub simple : (e : IrTree) → Stand tables (stands tables e Acting) → IsPlain e → IsActed e
  simple (Write (Variable n) mark width site value) stand plain =
      let here = written_there n width (marked_if_any tables site (assign_kind mark) ++ stands tables value (Valued None (due_by mark (object_at tables n)))) stand in
      let is = straight tables l for value None (due_by mark (object_at tables n)) (late tables (marked_if_any tables site (assign_kind mark)) _ here.1) (only_part (tree value) _ plain (omega arith)) in
      let assigned = assigned_is n here.0 site value is.is mark (early tables (marked_if_any tables site (assign_kind mark)) _ here.1) in
      record { is = and_from _ _ here.0 assigned; light = omega (arith, assigned_weighs n mark (site_at site) value, is.light) }
  simple (Step (Variable n) up width site) stand plain =
      let here = written_there n width (marked tables site (step_kind up) ∷ []) stand in
      let assigned = assigned_is n here.0 (Some site) (Constant (pos 1)) refl (step_mark up) (subst (λ things. Stand tables things) (stepped up site) here.1) in
      record { is = and_from _ _ here.0 assigned; light = omega (arith, assigned_weighs n (step_mark up) site (Constant (pos 1))) }
  simple (WriteFlag value) stand plain = let is = straight tables l for value None (Some W32) stand (only_part (tree value) _ plain (omega arith)) in record { is = is.is; light = omega (arith, is.light) }
  simple (Out value) stand plain =
      let is = straight tables l for value (Some (taken_at tables SampleOut 0)) (due_of (taken_at tables SampleOut 0)) stand.1 (only_part (tree value) _ plain (omega arith)) in
      record { is = is.is; light = omega (arith, is.light) }
  simple (AddCount weight) stand plain = record { is = refl; light = counting_is_light weight _ stand }
  simple (Operate site kind operands weight) stand plain = let is = site_anywhere tables l for Acting site kind operands weight stand plain in record { is = is.is; light = is.light }
  -- what gives a value that nothing takes
  simple (Binary mark one other) stand plain = absurd (placed tables (is_none (binary_kind mark)) _ stand).1.0
  simple (If cond this other) stand plain = absurd (placed tables (nat_le (count_in other) 1) _ stand).1.0
  simple (Return value) stand plain = absurd (placed tables (nat_le (count_in value) 1) _ stand).1.0
  -- what is not over scalars
  simple (Write target mark width site value) stand plain = never plain.formed
  simple (Step target up width site) stand plain = never plain.formed
  simple (Call function args) stand plain = never plain.formed
  simple Left stand plain = never plain.formed
  simple e stand plain = absurd stand.0
