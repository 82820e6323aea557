-- Calls do what their trees do.
use Rattle.std.proofs.Common.{◌≡◌, ℕ, Bool, false, IsTrue, List, [], ◌∷◌, map, refl, sym, ap, ◌∙◌}
use Rattle.std.specs.Prelude.{ℤ, pos, Some, slice_get}
use Rattle.std.specs.Option.{unwrap_or}
use Rattle.c_typed.specs.declared.call.Callee.{Callee}
use Rattle.c_typed.specs.declared.call.Callee.TheVariants.{Function, Operator, Move16, Move32, Logic16, Logic32, Test, SampleIn, SampleLeft, SampleOut}
use Rattle.source_runs.specs.declared.location.Given.{Given}
use Rattle.source_runs.specs.Runs.{Run, gives, ◌>>=◌, ◌>>◌, gathered}
use Rattle.source_runs.specs.Calls.{number_given, operands_of, operated, operator_call, counting, sample_out}
use Rattle.weight_table.specs.Weight.{weight_of}
use Rattle.weight_table.specs.declared.counted.Counted.TheVariants as counted
use Rattle.typed_meaning.specs.Expressions.{Setting, Called, callee_meaning}
use Rattle.ir_arena.specs.Tree.{IrTree, trees_from}
use Rattle.tree_meaning.specs.Parts.{NodeMeaning, operated_with, operate_meaning}
use Rattle.tree_meaning.specs.Trees.{node_meaning, node_meanings}
use Rattle.source_trees.specs.Expressions.{called_tree}
use Rattle.tree_agreement.specs.Lawful.{is_none, takes}
use Rattle.tree_agreement.specs.Agreement.{Renumbers, trees_for, GivesNumber, GivesArgument}
use Rattle.tree_agreement.proofs.Runs.{regrouped}
use Rattle.tree_agreement.proofs.Agree.{by_run}

pub not_so : IsTrue false → ⊥
not_so right = cc

module _ (here : Setting) (numbers : List ℕ) (called tree_called : Called) (defined : ℕ → Bool) where
  -- trees of arguments, one after the other, what they give, and whether they are lawful
  pub data GiveArguments : List IrTree → List (Run Given) → List Bool → Type 0 where
    none : GiveArguments [] [] []
    next : {tree : IrTree} {run : Run Given} {fits : Bool} {more : List IrTree} {runs : List (Run Given)} {rest : List Bool}
        → GivesArgument here tree_called tree run → GiveArguments more runs rest → GiveArguments (tree ∷ more) (run ∷ runs) (fits ∷ rest)

  arguments_same : {args : List IrTree} {runs : List (Run Given)} {fits : List Bool} → GiveArguments args runs fits
      → map (λ (part : NodeMeaning). part.argument) (node_meanings here tree_called (trees_from args)) ≡ runs
  arguments_same none = refl
  arguments_same (next {tree} {run} {fits} {more} {runs} {rest} first others) =
      ap (λ (r : Run Given). r ∷ map (λ (part : NodeMeaning). part.argument) (node_meanings here tree_called (trees_from more))) first.argument
      ∙ ap (λ (rs : List (Run Given)). run ∷ rs) (arguments_same others)

  nothing_given : {args : List IrTree} {runs : List (Run Given)} {fits : List Bool} → GiveArguments args runs fits → IsTrue (is_none fits) → runs ≡ []
  nothing_given none right = refl
  nothing_given (next first others) right = absurd (not_so right)

  abbrev Agrees : Callee → ℕ → List IrTree → List (Run Given) → Type 0
  Agrees callee site args runs = GivesNumber here tree_called (called_tree (trees_for here numbers) callee site args) (gathered [] runs >>= callee_meaning here called callee site)

  -- what has no arguments does what it does
  alone : (run : Run ℤ) (callee : Callee) (site : ℕ) (runs : List (Run Given)) → runs ≡ [] → run ≡ callee_meaning here called callee site []
      → run ≡ (gathered [] runs >>= callee_meaning here called callee site)
  unfolding gathered ◌>>=◌
  alone run callee site runs empty same = rw empty same

  -- one argument, as a number
  written : {tree : IrTree} {run : Run Given} → GivesArgument here tree_called tree run
      → ((node_meaning here tree_called tree).value >>= (λ x. sample_out x >> gives (pos 0))) ≡ (gathered [] (run ∷ []) >>= callee_meaning here called SampleOut 0)
  unfolding gathered ◌>>=◌ callee_meaning
  written {tree} {run} same =
      ap (λ (r : Run ℤ). r >>= (λ x. sample_out x >> gives (pos 0))) same.value
      ∙ regrouped run (λ given. gives (number_given (Some given))) (λ x. sample_out x >> gives (pos 0))
      ∙ sym (regrouped run (λ given. gives (given ∷ [])) (callee_meaning here called SampleOut 0))

  pub called_same : Renumbers defined numbers called tree_called → (callee : Callee) (site : ℕ) (args : List IrTree) (runs : List (Run Given)) (fits : List Bool)
      → GiveArguments args runs fits → IsTrue (takes defined callee fits) → Agrees callee site args runs
  unfolding callee_meaning operate_meaning operator_call operated operated_with counting
  called_same renumbers (Function number) site args runs fits same right =
      by_run here numbers called tree_called defined _ _ _ refl refl
      (ap (λ (rs : List (Run Given)). gathered [] rs >>= tree_called (unwrap_or (slice_get numbers number) 0)) (arguments_same same)
      ∙ ap (λ (call : List Given → Run ℤ). gathered [] runs >>= call) (renumbers.same number right))
  called_same renumbers (Operator op) site args runs fits same right =
      by_run here numbers called tree_called defined _ _ _ refl refl
      (ap (λ (rs : List (Run Given)). gathered [] rs >>= (λ givens. operated_with (weight_of here.table (counted.Call op)) site op (operands_of op givens))) (arguments_same same))
  called_same renumbers SampleOut site (tree ∷ more) (run ∷ runs) fits (next first none) right =
      by_run here numbers called tree_called defined _ _ _ refl refl (written first)
  called_same renumbers SampleOut site args runs fits none right = absurd (not_so right)
  called_same renumbers SampleOut site args runs fits (next first (next second others)) right = absurd (not_so right)
  called_same renumbers Move16 site args runs fits same right =
      by_run here numbers called tree_called defined _ _ _ refl refl (alone _ Move16 site runs (nothing_given same right) refl)
  called_same renumbers Move32 site args runs fits same right =
      by_run here numbers called tree_called defined _ _ _ refl refl (alone _ Move32 site runs (nothing_given same right) refl)
  called_same renumbers Logic16 site args runs fits same right =
      by_run here numbers called tree_called defined _ _ _ refl refl (alone _ Logic16 site runs (nothing_given same right) refl)
  called_same renumbers Logic32 site args runs fits same right =
      by_run here numbers called tree_called defined _ _ _ refl refl (alone _ Logic32 site runs (nothing_given same right) refl)
  called_same renumbers Test site args runs fits same right =
      by_run here numbers called tree_called defined _ _ _ refl refl (alone _ Test site runs (nothing_given same right) refl)
  called_same renumbers SampleIn site args runs fits same right =
      by_run here numbers called tree_called defined _ _ _ refl refl (alone _ SampleIn site runs (nothing_given same right) refl)
  called_same renumbers SampleLeft site args runs fits same right =
      by_run here numbers called tree_called defined _ _ _ refl refl (alone _ SampleLeft site runs (nothing_given same right) refl)
