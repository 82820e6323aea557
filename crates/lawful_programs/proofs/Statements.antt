-- Statements of a lawful tree over scalars are such as code is emitted for, and weigh no more than their words may cost.
use Rattle.std.proofs.Common.{◌≡◌, ℕ, ◌+◌, ◌≤◌, suc, Bool, true, false, not, List, ◌++◌, refl, sym, ◌∙◌, subst, arith}
use Rattle.std.specs.Prelude.{◌==◌, ◌&&◌, nat_le, None, is_some}
use Rattle.std.proofs.lemmas.Bool.Decides.{nat_tests}
use Rattle.operator_meaning.specs.declared.site.SiteKind.{SiteKind}
use Rattle.c_typed.specs.declared.typed.Typed.{Typed}
use Rattle.ir_arena.specs.Costs.{cost_of, costs_of}
use Rattle.ir_arena.specs.Tree.{IrTree, IrTrees, Operate, Binary, Call, Left, Write, Step, WriteFlag, Out, AddCount, Empty, Block, If, Loop, Leave, Return, end, more}
use Rattle.lawful_sources.specs.Objects.{same_truth}
use Rattle.lawful_sources.specs.Statements.{Spot, looped}
use Rattle.lawful_sources.specs.Things.{Return as Returned}
use Rattle.lawful_ir.specs.Positions.{TreeThing, Position, Acting, Stating, plainly, returning}
use Rattle.lawful_ir.specs.Walk.{begun_along, count_in, each_stands, looping, stands, starts_stand}
use Rattle.lawful_ir.proofs.Alike.{left, right, never}
use Rattle.code_stacks.specs.Places.{Layout}
use Rattle.statement_code.specs.Code.{weight_of_all}
use Rattle.statement_code.specs.Laws.{AreSimple, AreStatements, AreTests, IsReturned, IsStatement, weight_of_returned, weight_of_statement, weight_of_statements, weight_of_tests}
use Rattle.lawful_programs.specs.Heights.{height_of_returned, height_of_simples, height_of_statement, height_of_statements, height_of_tests}
use Rattle.lawful_programs.proofs.Conditions.{condition}
use Rattle.lawful_programs.proofs.Expressions.{IsFor, SiteStands, site_anywhere, straight}
use Rattle.lawful_programs.proofs.Plain.{ArePlain, IsPlain, first_part, only_part, pair, row, second_part, tree}
use Rattle.lawful_programs.proofs.Simples.{counting_is_light, simple}
use Rattle.lawful_programs.proofs.Standing.{Fits, Stand, early, late, placed}
use Rattle.lawful_programs.proofs.Starts.{never_if, openings_are}

module _ (tables : Typed) (l : Layout) (for : IsFor tables l) where
  -- ---- parts of loops and of `return`

  record AreActed (parts : IrTrees) : Type 0 where
    are : AreSimple l parts
    light : weight_of_all parts ≤ costs_of parts

  simples : (parts : IrTrees) (place : ℕ) → Stand tables (each_stands tables parts (λ at. Acting) place) → ArePlain parts → height_of_simples parts ≤ l.depth → AreActed parts
  simples end place stand plain high = record { are = tt; light = omega arith }
  simples (more first rest) place stand plain high =
      let things = stands tables first Acting in
      let one = simple tables l for first (early tables things _ stand) (first_part (tree first) (row rest) _ plain (omega arith)) in
      let others = simples rest (place + 1) (late tables things _ stand) (second_part (tree first) (row rest) _ plain (omega arith)) (omega (arith, high)) in
      record { are = ((one.is, omega (arith, high)), others.are); light = omega (arith, one.light, others.light) }

  record AreDecided (cond : IrTrees) : Type 0 where
    are : AreTests l cond
    light : weight_of_tests cond ≤ costs_of cond

  tests : (cond : IrTrees) → Stand tables (each_stands tables cond (λ at. plainly) 0) → ArePlain cond → height_of_tests cond ≤ l.depth → AreDecided cond
  tests end stand plain high = record { are = tt; light = omega arith }
  tests (more cond rest) stand plain high =
      let is = condition tables l for cond (early tables (stands tables cond plainly) _ stand) (first_part (tree cond) (row rest) _ plain (omega arith)) in record { are = (is.is, high); light = omega (arith, is.light) }

  record IsGiven (has_result : Bool) (value : IrTrees) : Type 0 where
    is : IsReturned l has_result value
    light : weight_of_returned value ≤ costs_of value

  some_are_not_none : (n : ℕ) → (suc n == 0) ≡ false
  some_are_not_none n = grind (arith, nat_tests)

  gives_nothing : (gives : Bool) → not gives ≡ true → gives ≡ false
  gives_nothing false is = refl
  gives_nothing true is = never is

  returned : (value : IrTrees) (spot : Spot) → Fits tables (Returned (not (count_in value == 0)) (is_some spot.gives)) → Stand tables (each_stands tables value (λ place. returning (Stating spot)) 0) → ArePlain value
      → height_of_returned value ≤ l.depth → IsGiven (is_some spot.gives) value
  returned end spot fits stand plain high = record { is = gives_nothing (is_some spot.gives) fits.returns; light = omega arith }
  returned (more value rest) spot fits stand plain high =
      let is = straight tables l for value None spot.gives (early tables (stands tables value (returning (Stating spot))) _ stand) (first_part (tree value) (row rest) _ plain (omega arith)) in
      record { is = (subst (λ none. same_truth (not none) (is_some spot.gives) ≡ true) (some_are_not_none (count_in rest)) fits.returns, (is.is, high)); light = omega (arith, is.light) }

  -- ---- the head of a loop

  none_there : (trees : IrTrees) (position : ℕ → Position) → (count_in trees == 0) ≡ true → Stand tables (each_stands tables trees position 0)
  none_there end position is = tt
  none_there (more first rest) position is = never (sym (some_are_not_none (count_in rest)) ∙ is)

  record LoopStands (first cond last : IrTrees) (body : List TreeThing) : Type 0 where
    first_stands : Stand tables (each_stands tables first (λ at. Acting) 0)
    cond_stands : Stand tables (each_stands tables cond (λ at. plainly) 0)
    last_stands : Stand tables (each_stands tables last (λ at. Acting) 0)
    body_stands : Stand tables body

  loop_there : (tests_first : Bool) (first cond last : IrTrees) (body : List TreeThing)
      → Stand tables (looping tables tests_first (count_in first) (count_in cond) (count_in last) (each_stands tables first (λ at. Acting) 0) (each_stands tables cond (λ at. plainly) 0) (each_stands tables last (λ at. Acting) 0) body)
      → LoopStands first cond last body
  loop_there true first cond last body stand =
      let firsts = each_stands tables first (λ at. Acting) 0 in
      let conds = each_stands tables cond (λ at. plainly) 0 in
      let lasts = each_stands tables last (λ at. Acting) 0 in
      let here = (placed tables (nat_le (count_in cond) 1) (firsts ++ (conds ++ (lasts ++ body))) stand).1 in
      let after_first = late tables firsts (conds ++ (lasts ++ body)) here in
      let after_cond = late tables conds (lasts ++ body) after_first in
      record {
        first_stands = early tables firsts (conds ++ (lasts ++ body)) here;
        cond_stands = early tables conds (lasts ++ body) after_first;
        last_stands = early tables lasts body after_cond;
        body_stands = late tables lasts body after_cond;
      }
  loop_there false first cond last body stand =
      let conds = each_stands tables cond (λ at. plainly) 0 in
      let here = placed tables (count_in cond == 1 && (count_in first == 0 && count_in last == 0)) (body ++ conds) stand in
      let none = right (count_in cond == 1) (count_in first == 0 && count_in last == 0) here.0 in
      record {
        first_stands = none_there first (λ at. Acting) (left (count_in first == 0) (count_in last == 0) none);
        cond_stands = late tables body conds here.1;
        last_stands = none_there last (λ at. Acting) (right (count_in first == 0) (count_in last == 0) none);
        body_stands = early tables body conds here.1;
      }

  -- ---- statements

  pub record IsDone (has_result : Bool) (e : IrTree) : Type 0 where
    pub is : IsStatement tables.objects l has_result e
    pub light : weight_of_statement e ≤ cost_of e

  pub record AreDone (has_result : Bool) (trees : IrTrees) : Type 0 where
    pub are : AreStatements tables.objects l has_result trees
    pub light : weight_of_statements trees ≤ costs_of trees

  -- an operator whose value is not used
  pub operator : (position : Position) {has_result : Bool} (site : ℕ) (kind : SiteKind) (operands : IrTrees) (weight : ℕ) → SiteStands tables l for position site kind operands weight
      → IsPlain (Operate site kind operands weight) → height_of_statement (Operate site kind operands weight) ≤ l.depth → IsDone has_result (Operate site kind operands weight)
  operator position site kind operands weight stand plain high = let is = site_anywhere tables l for position site kind operands weight stand plain in record { is = (is.is, high); light = is.light }

  module _ (room : 1 ≤ l.depth) where
    mutual
      pub statement : (e : IrTree) (spot : Spot) → Stand tables (stands tables e (Stating spot)) → IsPlain e → height_of_statement e ≤ l.depth → IsDone (is_some spot.gives) e
      statement Empty spot stand plain high = record { is = tt; light = omega arith }
      statement (Block first count starts parts) spot stand plain high =
          let things = begun_along first count (starts_stand tables starts) in
          let opened = openings_are tables l for count first starts (early tables things _ stand.1) (first_part (row starts) (row parts) _ plain (omega arith)) (omega (arith, high)) room in
          let rest = statements parts spot 0 (late tables things _ stand.1) (second_part (row starts) (row parts) _ plain (omega arith)) (omega (arith, high)) in
          record { is = (opened.are, rest.are); light = omega (arith, opened.light, rest.light) }
      statement (If cond this other) spot stand plain high =
          let conds = stands tables cond plainly in
          let things = stands tables this (Stating spot) in
          let here = (placed tables (nat_le (count_in other) 1) _ stand).1.1 in
          let branches = second_part (tree cond) (pair (tree this) (row other)) _ plain (omega arith) in
          let one = condition tables l for cond (early tables conds _ here) (first_part (tree cond) (pair (tree this) (row other)) _ plain (omega arith)) in
          let two = statement this spot (early tables things _ (late tables conds _ here)) (first_part (tree this) (row other) _ branches (omega arith)) (omega (arith, high)) in
          let three = statements other spot 0 (late tables things _ (late tables conds _ here)) (second_part (tree this) (row other) _ branches (omega arith)) (omega (arith, high)) in
          record { is = ((one.is, omega (arith, high)), (two.is, three.are)); light = omega (arith, one.light, two.light, three.light) }
      statement (Loop cut tests_first first cond last body) spot stand plain high =
          let here = loop_there tests_first first cond last (stands tables body (Stating (looped spot))) stand.1 in
          let after_first = second_part (row first) (pair (row cond) (pair (row last) (tree body))) _ plain (omega arith) in
          let after_cond = second_part (row cond) (pair (row last) (tree body)) _ after_first (omega arith) in
          let one = simples first 0 here.first_stands (first_part (row first) (pair (row cond) (pair (row last) (tree body))) _ plain (omega arith)) (omega (arith, high)) in
          let two = tests cond here.cond_stands (first_part (row cond) (pair (row last) (tree body)) _ after_first (omega arith)) (omega (arith, high)) in
          let three = simples last 0 here.last_stands (first_part (row last) (tree body) _ after_cond (omega arith)) (omega (arith, high)) in
          let four = statement body (looped spot) here.body_stands (second_part (row last) (tree body) _ after_cond (omega arith)) (omega (arith, high)) in
          record { is = (one.are, (two.are, (three.are, four.is))); light = omega (arith, one.light, two.light, three.light, four.light) }
      statement (Leave again) spot stand plain high = record { is = tt; light = omega arith }
      statement (Return value) spot stand plain high =
          let here = (placed tables (nat_le (count_in value) 1) _ stand).1.1 in
          let is = returned value spot here.0 here.1 (only_part (row value) _ plain (omega arith)) high in
          record { is = is.is; light = omega (arith, is.light) }
      statement (Write target mark width site value) spot stand plain high = let is = simple tables l for (Write target mark width site value) stand.1 plain in record { is = (is.is, high); light = is.light }
      statement (Step target up width site) spot stand plain high = let is = simple tables l for (Step target up width site) stand.1 plain in record { is = (is.is, high); light = is.light }
      statement (WriteFlag value) spot stand plain high = let is = simple tables l for (WriteFlag value) stand.1 plain in record { is = (is.is, high); light = is.light }
      statement (Out value) spot stand plain high = let is = simple tables l for (Out value) stand.1 plain in record { is = (is.is, high); light = is.light }
      statement (AddCount weight) spot stand plain high = record { is = (refl, high); light = counting_is_light tables l for weight _ stand }
      statement (Operate site kind operands weight) spot stand plain high = operator (Stating spot) site kind operands weight stand plain high
      -- what gives a value that nothing takes
      statement (Binary mark one other) spot stand plain high = absurd (never_if tables l for _ stand)
      -- what is not over scalars
      statement (Call function args) spot stand plain high = never plain.formed
      statement Left spot stand plain high = never plain.formed
      statement e spot stand plain high = absurd stand.0

      pub statements : (trees : IrTrees) (spot : Spot) (place : ℕ) → Stand tables (each_stands tables trees (λ at. Stating spot) place) → ArePlain trees → height_of_statements trees ≤ l.depth
          → AreDone (is_some spot.gives) trees
      statements end spot place stand plain high = record { are = tt; light = omega arith }
      statements (more first rest) spot place stand plain high =
          let things = stands tables first (Stating spot) in
          let one = statement first spot (early tables things _ stand) (first_part (tree first) (row rest) _ plain (omega arith)) (omega (arith, high)) in
          let others = statements rest spot (place + 1) (late tables things _ stand) (second_part (tree first) (row rest) _ plain (omega arith)) (omega (arith, high)) in
          record { are = (one.is, others.are); light = omega (arith, one.light, others.light) }
