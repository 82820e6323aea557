-- Assignments, steps and calls as statements do what their trees do.
use Rattle.std.proofs.Common.{◌≡◌, ℕ, Bool, IsTrue, List, [], ◌∷◌, map, refl, ap, ◌∙◌}
use Rattle.std.specs.Prelude.{ℤ, pos}
use Rattle.c_typed.specs.declared.call.Callee.{Callee}
use Rattle.c_typed.specs.declared.call.Callee.TheVariants.{Function, Operator, Move16, Move32, Logic16, Logic32, Test, SampleIn, SampleLeft, SampleOut}
use Rattle.c_typed.specs.declared.call.TypedCall.{TypedCall}
use Rattle.c_typed.specs.declared.simple.TypedSimple.{TypedSimple}
use Rattle.c_typed.specs.declared.simple.TypedSimple.TheVariants.{Assign, Step, SetOverflow, Call}
use Rattle.source_runs.specs.declared.halt.Flow.TheVariants.{Normal}
use Rattle.source_runs.specs.declared.location.Access.TheVariants.{Element}
use Rattle.source_runs.specs.declared.location.Location.{Location}
use Rattle.source_runs.specs.State.{with_overflow}
use Rattle.source_runs.specs.Runs.{Run, gives, ◌>>=◌, ◌>>◌, changing}
use Rattle.typed_meaning.specs.Expressions.{Setting, Called, site_at, place_meaning, call_meaning}
use Rattle.typed_meaning.specs.Statements.{assignment_meaning, step_mark, simple_meaning}
use Rattle.ir_arena.specs.Tree.{IrTree, trees_from}
use Rattle.tree_meaning.specs.Parts.{NodeMeaning, value_unused}
use Rattle.tree_meaning.specs.Trees.{node_meaning, node_meanings}
use Rattle.source_trees.specs.Expressions.{TreeSetting, called_tree, call_tree, expression_tree}
use Rattle.source_trees.specs.Statements.{simple_tree}
use Rattle.source_trees.proofs.Expressions as built
use Rattle.tree_agreement.specs.Agreement.{Renumbers, trees_for}
use Rattle.tree_agreement.specs.Lawful.{all_hold}
use Rattle.tree_agreement.proofs.Whole.{both_true, place_agrees, call_agrees, expression_agrees}
use Rattle.statement_agreement.specs.Lawful.{simple_fits}
use Rattle.statement_agreement.specs.Agreement.{Changes, SimpleAgrees}

module _ (here : Setting) (numbers : List ℕ) (called tree_called : Called) (defined : ℕ → Bool) (renumbers : Renumbers defined numbers called tree_called) where
  abbrev forest : TreeSetting
  forest = trees_for here numbers

  abbrev value_of : IrTree → Run ℤ
  value_of tree = (node_meaning here tree_called tree).value

  by_change : (tree : IrTree) (made run : Run (Unit {0})) → (node_meaning here tree_called tree).change ≡ made
      → (node_meaning here tree_called tree).flow ≡ (made >> gives Normal) → made ≡ run → Changes here tree_called tree run
  by_change tree made run change flow same =
      record { change = change ∙ same; flow = flow ∙ ap (λ (r : Run (Unit {0})). r >> gives Normal) same }

  -- a call gives a value that is not used
  called_unused : (callee : Callee) (site : ℕ) (args : List IrTree) → (node_meaning here tree_called (called_tree forest callee site args)).change ≡ value_unused (value_of (called_tree forest callee site args))
  called_unused (Function number) site args = refl
  called_unused (Operator op) site args = refl
  called_unused Move16 site args = refl
  called_unused Move32 site args = refl
  called_unused Logic16 site args = refl
  called_unused Logic32 site args = refl
  called_unused Test site args = refl
  called_unused SampleIn site args = refl
  called_unused SampleLeft site args = refl
  called_unused SampleOut site args = refl

  called_flow : (callee : Callee) (site : ℕ) (args : List IrTree) → (node_meaning here tree_called (called_tree forest callee site args)).flow ≡ (value_unused (value_of (called_tree forest callee site args)) >> gives Normal)
  called_flow (Function number) site args = refl
  called_flow (Operator op) site args = refl
  called_flow Move16 site args = refl
  called_flow Move32 site args = refl
  called_flow Logic16 site args = refl
  called_flow Logic32 site args = refl
  called_flow Test site args = refl
  called_flow SampleIn site args = refl
  called_flow SampleLeft site args = refl
  called_flow SampleOut site args = refl

  call_changes : (call : TypedCall) → value_of (call_tree forest call) ≡ call_meaning here called call → Changes here tree_called (call_tree forest call) (call_meaning here called call >> gives tt)
  call_changes call same =
      by_change (call_tree forest call) (value_unused (value_of (call_tree forest call))) _
      (rw built.call-is (called_unused call.callee (site_at call.site) _)) (rw built.call-is (called_flow call.callee (site_at call.site) _))
      (ap (λ (run : Run ℤ). run >> gives tt) same)

  pub simple_agrees : (simple : TypedSimple) → SimpleAgrees here numbers called tree_called defined simple
  unfolding simple_meaning
  simple_agrees (Assign at place mark mark_at site value) fits =
      let right = both_true _ _ fits in
      by_change _ _ _ refl refl
      (ap (λ (to : Run Location). assignment_meaning here to mark (site_at site) (value_of (expression_tree forest value))) (place_agrees here numbers called tree_called defined renumbers place right.0 Element)
      ∙ ap (λ (run : Run ℤ). assignment_meaning here (place_meaning here called place Element) mark (site_at site) run) (expression_agrees here numbers called tree_called defined renumbers value right.1).value)
  simple_agrees (Step at place up mark_at site) fits =
      by_change _ _ _ refl refl
      (ap (λ (to : Run Location). assignment_meaning here to (step_mark up) (site_at site) (gives (pos 1))) (place_agrees here numbers called tree_called defined renumbers place fits Element))
  simple_agrees (SetOverflow at value) fits =
      by_change _ _ _ refl refl (ap (λ (run : Run ℤ). run >>= (λ x. changing (with_overflow x))) (expression_agrees here numbers called tree_called defined renumbers value fits).value)
  simple_agrees (Call call) fits = call_changes call (call_agrees here numbers called tree_called defined renumbers call fits).value

  -- several of them, for what they do
  pub simples_agree : (simples : List TypedSimple) → IsTrue (all_hold (map (simple_fits defined) simples))
      → map (λ (part : NodeMeaning). part.change) (node_meanings here tree_called (trees_from (map (simple_tree forest) simples))) ≡ map (simple_meaning here called) simples
  simples_agree [] fits = refl
  simples_agree (simple ∷ simples) fits =
      let right = both_true _ _ fits in
      ap (λ (run : Run (Unit {0})). run ∷ map (λ (part : NodeMeaning). part.change) (node_meanings here tree_called (trees_from (map (simple_tree forest) simples)))) (simple_agrees simple right.0).change
      ∙ ap (λ (runs : List (Run (Unit {0}))). simple_meaning here called simple ∷ runs) (simples_agree simples right.1)
