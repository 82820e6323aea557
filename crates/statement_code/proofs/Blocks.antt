-- Blocks: their objects start, and then come their statements.
use Rattle.std.proofs.Common.{◌≡◌, ℕ, suc, zero, ◌+◌, Bool, true, false, ◌==◌, List, [], ◌∷◌, ◌++◌, length, length-append, refl, sym, ap, ◌∙◌, subst, arith}
use Rattle.std.specs.Prelude.{None}
use Rattle.source_runs.specs.declared.halt.Flow.{Flow}
use Rattle.source_runs.specs.Runs.{Run, all_of, ◌>>◌}
use Rattle.typed_meaning.specs.Expressions.{Setting, Called}
use Rattle.typed_meaning.specs.Statements.{start_meaning, option_of}
use Rattle.ir_arena.specs.Tree.{IrTree, IrTrees, Start, end, more}
use Rattle.tree_meaning.specs.Parts.{openings}
use Rattle.tree_meaning.specs.Trees.{node_meaning, node_meanings, argument_meaning}
use Rattle.code_lines.specs.Words.{StandHere, Code}
use Rattle.code_runs.specs.Doing.{Does}
use Rattle.code_stacks.specs.Places.{Layout, IsLaidOut}
use Rattle.code_stacks.proofs.Operands.{first_stands, second_stands}
use Rattle.expression_code.specs.Laws.{AreScalars}
use Rattle.simple_code.proofs.Starts.{start_does}
use Rattle.statement_code.specs.Blocks.{Opening, object_of, value_of, openings_of, weight_of_opening, weight_of_openings, opening_code, openings_code, AreOpenings}
use Rattle.statement_code.specs.Code.{Part, block_part, codes_along}
use Rattle.statement_code.specs.Laws.{AreReached}
use Rattle.statement_code.proofs.Parts.{At, Changes, Flows, IsDone, no_change, one_change, then_does, together}

module _ (code : Code) (l : Layout) (laid : IsLaidOut code l) (here : Setting) (near has_result : Bool) (called : Called) (scalars : AreScalars here.objects l) where
  abbrev Change : (k lag : ℕ) → Run (Unit {0}) → (end late : ℕ) → Type 0
  Change = Changes code here.turns l laid here near has_result

  abbrev run_of : Opening → Run (Unit {0})
  run_of opening = start_meaning here opening.object (option_of (argument_meaning here called) opening.value)

  abbrev runs_of : List Opening → List (Run (Unit {0}))
  runs_of [] = []
  runs_of (first ∷ rest) = run_of first ∷ runs_of rest

  openings_do : (list : List Opening) (k lag : ℕ) → AreOpenings here.objects l list → StandHere code k (openings_code here.objects l list)
      → Change k lag (all_of (runs_of list)) (k + length (openings_code here.objects l list)) (lag + weight_of_openings list)
  openings_do [] k lag are stands = no_change code here.turns l laid here near has_result k lag
  openings_do (first ∷ rest) k lag are stands =
      let xs = opening_code here.objects l first in
      let ys = openings_code here.objects l rest in
      one_change code here.turns l laid here near has_result xs ys (run_of first) (runs_of rest) k lag (weight_of_opening first) (weight_of_openings rest)
      (start_does code here.turns l laid here called scalars first.object first.value k lag are.0 (first_stands code k xs ys stands))
      (openings_do rest (k + length xs) (lag + weight_of_opening first) are.1 (second_stands code k xs ys stands))

  -- ---- the objects of a block are those of its meaning

  object_is : (start : IrTree) → (node_meaning here called start).object ≡ object_of start
  object_is (Start object value) = refl
  object_is start = refl

  argument_is : (start : IrTree) → (node_meaning here called start).argument ≡ argument_meaning here called (value_of start)
  argument_is (Start object value) = refl
  argument_is start = refl

  abbrev openings_from : (count object : ℕ) → IrTrees → List (Run (Unit {0}))
  openings_from count object starts = openings here count object (node_meanings here called starts)

  named_or_not : (count object : ℕ) (start : IrTree) (rest : IrTrees) (b : Bool) → object_of start == object ≡ b → runs_of (openings_of count (object + 1) rest) ≡ openings_from count (object + 1) rest
      → runs_of (openings_of count (object + 1) (more start rest)) ≡ openings_from count (object + 1) (more start rest)
      → runs_of (openings_of (suc count) object (more start rest)) ≡ openings_from (suc count) object (more start rest)
  named_or_not count object start rest true is others all =
      let same : ((node_meaning here called start).object == object) ≡ true = ap (λ o. o == object) (object_is start) ∙ is in rw (same, is, argument_is start, others) refl
  named_or_not count object start rest false is others all =
      let same : ((node_meaning here called start).object == object) ≡ false = ap (λ o. o == object) (object_is start) ∙ is in rw (same, is, all) refl

  runs_are : (count object : ℕ) (starts : IrTrees) → runs_of (openings_of count object starts) ≡ openings_from count object starts
  runs_are zero object starts = refl
  runs_are (suc count) object end = ap (λ rest. start_meaning here object None ∷ rest) (runs_are count (object + 1) end)
  runs_are (suc count) object (more start rest) =
      named_or_not count object start rest (object_of start == object) refl (runs_are count (object + 1) rest) (runs_are count (object + 1) (more start rest))

  -- ---- a block

  pub block_done : (count first : ℕ) (starts : IrTrees) (parts : List Part) (run : Run Flow) (weight : ℕ) → AreOpenings here.objects l (openings_of count first starts)
      → IsDone code here.turns l laid here near has_result (together code here.turns l laid here near has_result parts) run weight
      → IsDone code here.turns l laid here near has_result (block_part here.objects l near (openings_of count first starts) parts) (all_of (openings_from count first starts) >> run)
      (weight_of_openings (openings_of count first starts) + weight)
  block_done count first starts parts run weight are done =
      let list = openings_of count first starts in
      let xs = openings_code here.objects l list in
      record {
        does = λ k lag ways targets small stands reached.
            let late = lag + weight_of_openings list in
            let ys = codes_along parts late ways in
            let place = k + length (xs ++ ys) in
            let whole : k + length xs + length ys ≡ place = omega (arith, length-append xs ys) in
            let ends = Flows code here.turns l laid here near has_result targets place ((together code here.turns l laid here near has_result parts).after late) in
            then_does code here.turns l laid here near has_result (At code here.turns l laid here near has_result k lag) (all_of (openings_from count first starts)) run
            (λ started. At code here.turns l laid here near has_result (k + length xs) late) ends
            (subst (λ runs. Change k lag (all_of runs) (k + length xs) late) (runs_are count first starts) (openings_do list k lag are (first_stands code k xs ys stands)))
            (subst (λ e. Does code here.turns (At code here.turns l laid here near has_result (k + length xs) late) run (Flows code here.turns l laid here near has_result targets e ((together code here.turns l laid here near has_result parts).after late))) whole
            (done.does (k + length xs) late ways targets (omega (arith, small)) (second_stands code k xs ys stands) (subst (λ e. AreReached e ways targets) (sym whole) reached)));
        bounded = λ lag. omega (arith, done.bounded (lag + weight_of_openings list));
        steady = λ lag ways other.
            let late = lag + weight_of_openings list in
            omega (arith, length-append xs (codes_along parts late ways), length-append xs (codes_along parts late other), done.steady late ways other);
      }
