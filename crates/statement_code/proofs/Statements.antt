-- Every statement, by cases.
use Rattle.std.proofs.Common.{◌≡◌, ℕ, ◌+◌, ◌^◌, ◌<◌, ◌≤◌, ℤ, pos, ◌+ℤ◌, Bool, true, false, List, [], ◌∷◌, ◌++◌, length, map, length-append, refl, sym, ap, ◌∙◌, subst, arith}
use Rattle.source_runs.specs.declared.halt.Flow.{Flow}
use Rattle.source_runs.specs.declared.halt.Flow.TheVariants.{Normal, Break, Continue, Return}
use Rattle.source_runs.specs.Loops.{in_sequence}
use Rattle.source_runs.specs.Runs.{Run, choosing, gives, ◌>>◌}
use Rattle.typed_meaning.specs.Expressions.{Setting, Called}
use Rattle.typed_meaning.specs.Statements.{return_meaning}
use Rattle.rv_encode.specs.State.{Running}
use Rattle.code_lines.proofs.Leading.{leads_nowhere, leads_at_all}
use Rattle.ir_arena.specs.Tree as tree
use Rattle.ir_arena.specs.Tree.{IrTree, IrTrees, end, more}
use Rattle.tree_meaning.specs.Parts.{NodeMeaning}
use Rattle.tree_meaning.specs.Trees.{node_meaning, node_meanings, statement_meaning, value_meaning}
use Rattle.code_lines.specs.Words.{StandHere, Code}
use Rattle.code_runs.specs.Doing.{Bond, Moves}
use Rattle.code_runs.proofs.Parts.{in_turn, nothing}
use Rattle.code_stacks.specs.Places.{Layout, IsLaidOut}
use Rattle.code_stacks.specs.Agreement.{With}
use Rattle.code_stacks.proofs.Operands.{first_stands, second_stands}
use Rattle.expression_code.specs.Code.{expression_code, weight_of}
use Rattle.expression_code.specs.Laws.{AreScalars, Valued}
use Rattle.expression_code.proofs.Expressions.{expression_does}
use Rattle.simple_code.specs.Code.{is_simple, simple_code, weight_of_simple}
use Rattle.simple_code.proofs.Simples.{simple_does}
use Rattle.condition_code.specs.Laws.{weight_of_condition}
use Rattle.statement_code.specs.Laws.{AreStatements, IsSimple, IsStatement, IsTest, Led, Targets, result_of, weight_of_statement, weight_of_statements}
use Rattle.statement_code.specs.Code.{Part, choice, left_code, part_of, parts_of}
use Rattle.statement_code.proofs.Parts.{IsDone, heavier, leaves, left_steady, no_parts, one_more, together}
use Rattle.statement_code.proofs.Blocks.{block_done}
use Rattle.statement_code.proofs.Choosing.{one_branch, two_branches}
use Rattle.statement_code.proofs.Turns.{loop_done}

module _ (code : Code) (l : Layout) (laid : IsLaidOut code l) (here : Setting) (near has_result : Bool) (called : Called) (scalars : AreScalars here.objects l) where
  abbrev Good : Part → Run Flow → ℕ → Type 0
  Good = IsDone code here.turns l laid here near has_result

  abbrev pub Part_of : IrTree → Part
  Part_of = part_of here.objects l near

  abbrev Done : IrTree → Type 0
  Done tree = Good (Part_of tree) (statement_meaning here called tree) (weight_of_statement tree)

  abbrev flows : IrTrees → List (Run Flow)
  flows parts = map (λ (part : NodeMeaning). part.flow) (node_meanings here called parts)

  abbrev Ends : Targets → (place late : ℕ) → Flow → Bond
  Ends = Led here.objects l has_result

  -- ---- what leaves

  leaving : (k lag : ℕ) (values : List ℤ) (distance : ℤ) (target : ℕ) → lag < 2 ^ 31 → StandHere code k (left_code here.objects l near lag distance)
      → pos target ≡ pos (k + length (left_code here.objects l near lag distance)) +ℤ distance → target ≤ 16777216
      → Moves code (With here.objects l k lag (values ++ [])) (With here.objects l target 0 values)
  leaving k lag values distance target small stands is close s m at =
      let to = leaves code here.turns l laid here near has_result k lag values [] distance target s m small stands is close at in
      (to.0, leads_at_all code 1 (Running m) (Running to.0) to.1, to.2)

  leave_done : (again : Bool) → Done (tree.Leave again)
  leave_done true = record {
    does = λ k lag ways targets small stands reached.
        let place = k + length (left_code here.objects l near lag ways.again) in
        nothing code here.turns Continue (With here.objects l k lag []) (Ends targets place 0) (leaving k lag [] ways.again targets.again (omega (arith, small)) stands reached.again reached.again_near);
    bounded = λ lag. omega arith;
    steady = λ lag ways other. left_steady here.objects l near lag ways.again other.again;
  }
  leave_done false = record {
    does = λ k lag ways targets small stands reached.
        let place = k + length (left_code here.objects l near lag ways.left) in
        nothing code here.turns Break (With here.objects l k lag []) (Ends targets place 0) (leaving k lag [] ways.left targets.left (omega (arith, small)) stands reached.left reached.left_near);
    bounded = λ lag. omega arith;
    steady = λ lag ways other. left_steady here.objects l near lag ways.left other.left;
  }

  return_done : (value : IrTrees) → IsStatement here.objects l has_result (tree.Return value) → Done (tree.Return value)
  unfolding return_meaning
  return_done end is = record {
    does = λ k lag ways targets small stands reached.
        let place = k + length (left_code here.objects l near lag ways.returned) in
        nothing code here.turns (Return (pos 0)) (With here.objects l k lag []) (Ends targets place 0)
        (subst (λ values. Moves code (With here.objects l k lag []) (With here.objects l targets.returned 0 values)) (sym (ap (λ has. result_of has (pos 0)) is))
        (leaving k lag [] ways.returned targets.returned (omega (arith, small)) stands reached.returned reached.returned_near));
    bounded = λ lag. omega arith;
    steady = λ lag ways other. left_steady here.objects l near lag ways.returned other.returned;
  }
  return_done (more value rest) is = record {
    does = λ k lag ways targets small stands reached.
        let xs = expression_code here.objects l value 0 in
        let late = lag + weight_of value in
        let ys = left_code here.objects l near late ways.returned in
        let place = k + length (xs ++ ys) in
        let whole : k + length xs + length ys ≡ place = omega (arith, length-append xs ys) in
        in_turn code here.turns (With here.objects l k lag []) (value_meaning here called value) (Valued here.objects l (k + length xs) late [] value) (λ x. gives (Return x)) (Ends targets place 0)
        (expression_does code here.turns l laid here called scalars value k lag [] is.1.0 (omega (arith, is.1.1)) (first_stands code k xs ys stands))
        (λ x. nothing code here.turns (Return x) (Valued here.objects l (k + length xs) late [] value x) (Ends targets place 0)
        (λ s m valued. subst (λ values. Moves code (With here.objects l (k + length xs) late (x ∷ [])) (With here.objects l targets.returned 0 values)) (sym (ap (λ has. result_of has x) is.0))
        (leaving (k + length xs) late (x ∷ []) ways.returned targets.returned (omega (arith, small)) (second_stands code k xs ys stands) (reached.returned ∙ ap (λ n. pos n +ℤ ways.returned) (sym whole)) reached.returned_near) s m valued.0));
    bounded = λ lag. omega arith;
    steady = λ lag ways other.
        let xs = expression_code here.objects l value 0 in
        let late = lag + weight_of value in
        let one = left_code here.objects l near late ways.returned in
        let two = left_code here.objects l near late other.returned in
        omega (arith, left_steady here.objects l near late ways.returned other.returned, length-append xs one, length-append xs two);
  }

  -- ---- what goes on

  empty_done : Done tree.Empty
  empty_done = record {
    does = λ k lag ways targets small stands reached.
        let none : k ≡ k + 0 = omega arith in
        nothing code here.turns Normal (With here.objects l k lag []) (Ends targets (k + 0) lag) (λ s m at. (m, leads_nowhere code (Running m), subst (λ n. With here.objects l n lag [] s m) none at));
    bounded = λ lag. omega arith;
    steady = λ lag ways other. refl;
  }

  abbrev simple_part : IrTree → Part
  simple_part part = record { code = λ lag exits. simple_code here.objects l part; after = λ lag. lag + weight_of_simple part }

  part_done : (part : IrTree) → IsSimple l part → Good (simple_part part) ((node_meaning here called part).change >> gives Normal) (weight_of_simple part)
  unfolding ◌>>◌
  part_done part simple = record {
    does = λ k lag ways targets small stands reached.
        let place = k + length (simple_code here.objects l part) in
        let late = lag + weight_of_simple part in
        in_turn code here.turns (With here.objects l k lag []) (node_meaning here called part).change (λ done. With here.objects l place late []) (λ done. gives Normal) (Ends targets place late)
        (simple_does code here.turns l laid here called scalars part k lag simple.0 simple.1 stands)
        (λ done. nothing code here.turns Normal (With here.objects l place late []) (Ends targets place late) (λ s m at. (m, leads_nowhere code (Running m), at)));
    bounded = λ lag. omega arith;
    steady = λ lag ways other. refl;
  }

  -- ---- several

  abbrev AllDone : IrTrees → Type 0
  AllDone end = Unit {0}
  AllDone (more first rest) = Done first × AllDone rest

  sequence_done : (parts : IrTrees) → AllDone parts → Good (together code here.turns l laid here near has_result (parts_of here.objects l near parts)) (in_sequence (flows parts)) (weight_of_statements parts)
  sequence_done end done = no_parts code here.turns l laid here near has_result
  sequence_done (more first rest) done =
      one_more code here.turns l laid here near has_result (Part_of first) (statement_meaning here called first) (weight_of_statement first) (parts_of here.objects l near rest) (flows rest) (weight_of_statements rest) done.0
      (sequence_done rest done.1)

  choice_done : (cond this : IrTree) (other : IrTrees) → IsTest l cond → Done this → AllDone other → Done (tree.If cond this other)
  choice_done cond this end test done others =
      let run = statement_meaning here called this in
      let weight = weight_of_condition cond + weight_of_statement this in
      heavier code here.turns l laid here near has_result (choice here.objects l near cond (Part_of this) []) (choosing (value_meaning here called cond) run (gives Normal)) weight (weight + 0) (omega arith)
      (one_branch code here.turns l laid here near has_result called scalars cond (Part_of this) run (weight_of_statement this) test done)
  choice_done cond this (more other rest) test done others =
      let run = statement_meaning here called this in
      let otherwise = statement_meaning here called other in
      let weight = weight_of_condition cond + weight_of_statement this in
      heavier code here.turns l laid here near has_result (choice here.objects l near cond (Part_of this) (parts_of here.objects l near (more other rest))) (choosing (value_meaning here called cond) run otherwise)
      (weight + weight_of_statement other) (weight + (weight_of_statement other + weight_of_statements rest)) (omega arith)
      (two_branches code here.turns l laid here near has_result called scalars cond (Part_of this) (Part_of other) (parts_of here.objects l near rest) run otherwise (weight_of_statement this) (weight_of_statement other) test done others.0)

  -- ---- every statement

  never : (part : IrTree) → is_simple l part ≡ false → IsSimple l part → Done part
  never part other simple = absurd (let f = simple.0 in let g = other in cc)

  mutual
    pub statement_done : (tree : IrTree) → IsStatement here.objects l has_result tree → Done tree
    statement_done tree.Empty is = empty_done
    statement_done (tree.Block first count starts parts) is =
        block_done code l laid here near has_result called scalars count first starts (parts_of here.objects l near parts) (in_sequence (flows parts)) (weight_of_statements parts) is.0 (sequence_done parts (statements_done parts is.1))
    statement_done (tree.If cond this other) is = choice_done cond this other is.0 (statement_done this is.1.0) (statements_done other is.1.1)
    statement_done (tree.Loop cut tests_first first cond last body) is =
        loop_done code l laid here near has_result called scalars tests_first first cond last (Part_of body) (statement_meaning here called body) (weight_of_statement body) is.0 is.1.1.0 is.1.0 (statement_done body is.1.1.1)
    statement_done (tree.Leave again) is = leave_done again
    statement_done (tree.Return value) is = return_done value is
    statement_done (tree.Write target mark width site value) is = part_done (tree.Write target mark width site value) is
    statement_done (tree.Step target up width site) is = part_done (tree.Step target up width site) is
    statement_done (tree.WriteFlag value) is = part_done (tree.WriteFlag value) is
    statement_done (tree.Out value) is = part_done (tree.Out value) is
    statement_done (tree.AddCount weight) is = part_done (tree.AddCount weight) is
    statement_done (tree.Operate site kind operands weight) is = part_done (tree.Operate site kind operands weight) is
    statement_done part is = never part refl is

    statements_done : (parts : IrTrees) → AreStatements here.objects l has_result parts → AllDone parts
    statements_done end is = tt {0}
    statements_done (more first rest) is = (statement_done first is.0, statements_done rest is.1)
