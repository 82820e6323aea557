-- Expressions of a lawful tree over scalars are such as code is emitted for, and weigh no more than their words may cost.
use Rattle.std.proofs.Common.{◌≡◌, ℕ, ◌+◌, ◌≤◌, true, List, [], length, refl, arith}
use Rattle.std.specs.Prelude.{◌&&◌, nat_le, slice_get, Option, Some, None, is_none}
use Rattle.std.proofs.lemmas.Bool.{and_from}
use Rattle.std.proofs.lemmas.Bool.Decides.{nat_tests}
use Rattle.sat_base.specs.declared.limits.TheConstants.{TOKENS}
use Rattle.sat_base.specs.declared.width.Width.{Width}
use Rattle.operator_meaning.specs.declared.object.Object.{Object}
use Rattle.operator_meaning.specs.declared.object.Site.{Site}
use Rattle.operator_meaning.specs.declared.site.SiteKind.{SiteKind}
use Rattle.c_tree.specs.declared.expression.BinaryMark.{BinaryMark}
use Rattle.c_tree.specs.declared.expression.BinaryMark.TheVariants as binary
use Rattle.c_typed.specs.declared.call.Callee.TheVariants.{Test}
use Rattle.c_typed.specs.declared.typed.Typed.{Typed}
use Rattle.ir_arena.specs.Costs.{cost_of, costs_of}
use Rattle.ir_arena.specs.Tree.{IrTree, IrTrees, Constant, Read, Address, Operate, Convert, Not, Invert, Binary, Choose, Call, ReadFlag, Left, Out, AddCount, If, Return, Variable, end, more}
use Rattle.lawful_sources.specs.Expressions.{binary_kind}
use Rattle.lawful_sources.specs.Objects.{is_scalar}
use Rattle.lawful_sources.specs.Rows.{if_object}
use Rattle.lawful_sources.specs.Things.{Taken}
use Rattle.lawful_ir.specs.Positions.{TreeThing, Position, Valued, called, plainly}
use Rattle.lawful_ir.specs.Walk.{computed, count_in, each_stands, numbers_stand, operand_position, stands}
use Rattle.lawful_ir.proofs.Alike.{left, right, never}
use Rattle.lawful_ir.proofs.Reached.{there}
use Rattle.code_stacks.specs.Places.{Layout}
use Rattle.expression_code.specs.Code.{weight_by, weight_of, weights_of}
use Rattle.expression_code.specs.Straight.{are_straight, is_light, is_marked, is_site, is_straight, is_wordless}
use Rattle.lawful_programs.specs.Form.{are_scalar_trees}
use Rattle.lawful_programs.proofs.Plain.{ArePlain, IsPlain, first_part, only_part, pair, row, second_part, tree}
use Rattle.lawful_programs.proofs.Standing.{Stand, early, late, placed, within}
use Rattle.lawful_programs.proofs.Sites.{site_is}

-- what is known of a layout and of the tables of a tree over scalars
pub record IsFor (tables : Typed) (l : Layout) : Type 0 where
  pub few : length tables.sites ≤ TOKENS
  pub wordless : (n : ℕ) (site : Site) → slice_get tables.sites n ≡ Some site → l.is_wordless n ≡ is_wordless site.kind
  pub variables : (n : ℕ) (object : Object) → slice_get tables.objects n ≡ Some object → l.is_variable n ≡ true
  pub scalars : (n : ℕ) (object : Object) → slice_get tables.objects n ≡ Some object → is_scalar object ≡ true

-- what weighs no more than it costs can be brought up at once
light_enough : (weight cost : ℕ) → weight ≤ cost → cost ≤ 16777216 → is_light weight ≡ true
light_enough weight cost light cheap = grind (arith, nat_tests)

mark_is : (mark : BinaryMark) (one other : ℕ) → is_none (binary_kind mark) ≡ true → is_light one ≡ true → is_light other ≡ true → is_marked mark one other ≡ true
mark_is binary.Both one other form light light_too = and_from (is_light one) (is_light other) light light_too
mark_is binary.Either one other form light light_too = and_from (is_light one) (is_light other) light light_too
mark_is binary.Plus one other form light light_too = never form
mark_is binary.Minus one other form light light_too = never form
mark_is binary.Times one other form light light_too = never form
mark_is mark one other form light light_too = refl

mark_weighs : (mark : BinaryMark) (one other : ℕ) → weight_by mark one other ≤ one + other
mark_weighs binary.Both one other = omega arith
mark_weighs mark one other = omega arith

module _ (tables : Typed) (l : Layout) (for : IsFor tables l) where
  -- a place that reaches a number by its name alone
  pub variable_is : (n : ℕ) → if_object (slice_get tables.objects n) (λ object. is_scalar object) ≡ true → l.is_variable n ≡ true
  variable_is n fits =
      let found = there (slice_get tables.objects n) (λ object. is_scalar object) fits in
      for.variables n found.0 found.1

  pub record IsStraight (e : IrTree) : Type 0 where
    pub is : is_straight l e ≡ true
    pub light : weight_of e ≤ cost_of e

  pub record AreStraight (trees : IrTrees) : Type 0 where
    pub are : are_straight l trees ≡ true
    pub light : weights_of trees ≤ costs_of trees

  light_part : (e : IrTree) → IsStraight e → cost_of e ≤ 16777216 → (is_light (weight_of e) && is_straight l e) ≡ true
  light_part e is cheap = and_from (is_light (weight_of e)) (is_straight l e) (light_enough (weight_of e) (cost_of e) is.light cheap) is.is

  abbrev plain_stands : IrTree → List TreeThing
  plain_stands e = stands tables e plainly

  -- the operands of a mark that is no site
  pub operands_there : (mark : BinaryMark) (one other : IrTree) (passed : Option (Option Taken)) (due : Option Width) → Stand tables (stands tables (Binary mark one other) (Valued passed due))
      → (is_none (binary_kind mark) ≡ true) × Stand tables (plain_stands one) × Stand tables (plain_stands other)
  operands_there mark one other passed due stand =
      let here = placed tables (is_none (binary_kind mark)) _ stand in
      let things = within tables passed due None _ here.1 in
      (here.0, early tables (plain_stands one) _ things, late tables _ (plain_stands other) (late tables (plain_stands one) _ things))

  -- what is known of a site where it is placed
  abbrev pub SiteStands : Position → ℕ → SiteKind → IrTrees → ℕ → Type 0
  SiteStands position site kind operands weight =
      Stand tables (computed tables position site kind weight (numbers_stand tables operands) (each_stands tables operands (operand_position tables kind) 0))

  abbrev OperandsStand : IrTrees → Type 0
  OperandsStand operands =
      (passed : ℕ → Option (Option Taken)) (due : ℕ → Option Width) → Stand tables (each_stands tables operands (λ at. Valued (passed at) (due at)) 0) → ArePlain operands → AreStraight operands

  site_straight : (position : Position) (site : ℕ) (kind : SiteKind) (operands : IrTrees) (weight : ℕ) → SiteStands position site kind operands weight → IsPlain (Operate site kind operands weight)
      → OperandsStand operands → IsStraight (Operate site kind operands weight)
  site_straight position site kind operands weight stand plain each =
      let is = site_is tables l for.few for.wordless position site weight kind operands (left (is_site kind) (are_scalar_trees operands) plain.formed) stand in
      let parts : ArePlain operands = record { formed = right (is_site kind) (are_scalar_trees operands) plain.formed; small = plain.small; cheap = omega (arith, plain.cheap) } in
      let are = each is.passed is.due is.stand parts in
      record { is = is.is are.are; light = omega (arith, is.light, are.light) }

  mutual
    pub straight : (e : IrTree) (passed : Option (Option Taken)) (due : Option Width) → Stand tables (stands tables e (Valued passed due)) → IsPlain e → IsStraight e
    straight (Constant value) passed due stand plain = record { is = plain.small; light = omega arith }
    straight (Read (Variable n)) passed due stand plain = record { is = variable_is n (within tables passed due None _ stand).0.reaches; light = omega arith }
    straight (Operate site kind operands weight) passed due stand plain =
        site_straight (Valued passed due) site kind operands weight stand plain (λ passed_on due_on. each_straight operands passed_on due_on 0)
    straight (Convert cast width part) passed due stand plain =
        let is = straight part None None (within tables passed due _ (plain_stands part) stand) (only_part (tree part) _ plain (omega arith)) in record { is = is.is; light = omega (arith, is.light) }
    straight (Not part) passed due stand plain =
        let is = straight part None None (within tables passed due None (plain_stands part) stand) (only_part (tree part) _ plain (omega arith)) in record { is = is.is; light = omega (arith, is.light) }
    straight (Invert part) passed due stand plain =
        let is = straight part None None (within tables passed due None (plain_stands part) stand) (only_part (tree part) _ plain (omega arith)) in record { is = is.is; light = omega (arith, is.light) }
    straight (Binary mark one other) passed due stand plain =
        let here = operands_there mark one other passed due stand in
        let first_plain = first_part (tree one) (tree other) _ plain (omega arith) in
        let second_plain = second_part (tree one) (tree other) _ plain (omega arith) in
        let first = straight one None None here.1 first_plain in
        let second = straight other None None here.2 second_plain in
        let marked = mark_is mark (weight_of one) (weight_of other) here.0 (light_enough _ _ first.light first_plain.cheap) (light_enough _ _ second.light second_plain.cheap) in
        record { is = and_from _ (is_straight l other) (and_from _ (is_straight l one) marked first.is) second.is; light = omega (arith, mark_weighs mark (weight_of one) (weight_of other), first.light, second.light) }
    straight (Choose cond this other) passed due stand plain =
        let things = within tables passed due None _ stand in
        let branches = late tables (plain_stands cond) _ things in
        let others = second_part (tree cond) (pair (tree this) (tree other)) _ plain (omega arith) in
        let cond_plain = first_part (tree cond) (pair (tree this) (tree other)) _ plain (omega arith) in
        let this_plain = first_part (tree this) (tree other) _ others (omega arith) in
        let other_plain = second_part (tree this) (tree other) _ others (omega arith) in
        let first = straight cond None None (early tables (plain_stands cond) _ things) cond_plain in
        let second = straight this None None (early tables (plain_stands this) (plain_stands other) branches) this_plain in
        let third = straight other None None (late tables (plain_stands this) (plain_stands other) branches) other_plain in
        record { is = and_from _ _ (light_part cond first cond_plain.cheap) (and_from _ _ (light_part this second this_plain.cheap) (light_part other third other_plain.cheap)); light = omega arith }
    straight (ReadFlag word) passed due stand plain = record { is = refl; light = omega arith }
    -- what gives no number
    straight (Out value) passed due stand plain = never (within tables passed due None _ stand).0.gives
    straight (AddCount weight) passed due stand plain =
        let there : Stand tables (called (Valued passed due) Test 0 []) = (placed tables _ _ stand).1 in never (within tables passed due None _ there).0.gives
    straight (If cond this other) passed due stand plain = absurd (placed tables (nat_le (count_in other) 1) _ stand).1.0
    straight (Return value) passed due stand plain = absurd (placed tables (nat_le (count_in value) 1) _ stand).1.0
    -- what is not over scalars
    straight (Read target) passed due stand plain = never plain.formed
    straight (Address target) passed due stand plain = never plain.formed
    straight (Call function args) passed due stand plain = never plain.formed
    straight Left passed due stand plain = never plain.formed
    straight e passed due stand plain = absurd stand.0

    pub each_straight : (trees : IrTrees) (passed : ℕ → Option (Option Taken)) (due : ℕ → Option Width) (place : ℕ) → Stand tables (each_stands tables trees (λ at. Valued (passed at) (due at)) place)
        → ArePlain trees → AreStraight trees
    each_straight end passed due place stand plain = record { are = refl; light = omega arith }
    each_straight (more first rest) passed due place stand plain =
        let things = stands tables first (Valued (passed place) (due place)) in
        let one = straight first (passed place) (due place) (early tables things _ stand) (first_part (tree first) (row rest) _ plain (omega arith)) in
        let others = each_straight rest passed due (place + 1) (late tables things _ stand) (second_part (tree first) (row rest) _ plain (omega arith)) in
        record { are = and_from (is_straight l first) (are_straight l rest) one.is others.are; light = omega (arith, one.light, others.light) }

  -- a site, where its value is taken and where it is dropped
  pub site_anywhere : (position : Position) (site : ℕ) (kind : SiteKind) (operands : IrTrees) (weight : ℕ) → SiteStands position site kind operands weight → IsPlain (Operate site kind operands weight)
      → IsStraight (Operate site kind operands weight)
  site_anywhere position site kind operands weight stand plain = site_straight position site kind operands weight stand plain (λ passed due. each_straight operands passed due 0)
