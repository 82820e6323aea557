-- The objects of a block start as its tree says.
use Rattle.std.proofs.Common.{◌≡◌, ℕ, suc, ◌+◌, ◌<◌, ◌==◌, Bool, false, IsTrue, List, [], ◌∷◌, map, length, refl, sym, ap, arith, ◌∙◌}
use Rattle.std.proofs.lemmas.Bool.Decides.{nat_tests}
use Rattle.std.specs.Prelude.{Option, Some, None}
use Rattle.c_typed.specs.declared.call.TypedArg.{TypedArg}
use Rattle.c_typed.specs.declared.statement.Start.{Start}
use Rattle.source_runs.specs.declared.location.Given.{Given}
use Rattle.source_runs.specs.Runs.{Run}
use Rattle.typed_meaning.specs.Expressions as source
use Rattle.typed_meaning.specs.Expressions.{Setting, Called}
use Rattle.typed_meaning.specs.Statements.{start_meaning, starting}
use Rattle.ir_arena.specs.Tree.{trees_from}
use Rattle.tree_meaning.specs.Parts.{NodeMeaning, openings}
use Rattle.tree_meaning.specs.Trees.{node_meanings}
use Rattle.source_trees.specs.Expressions.{TreeSetting}
use Rattle.source_trees.specs.Statements.{starts_in}
use Rattle.tree_agreement.specs.Agreement.{Renumbers, trees_for}
use Rattle.tree_agreement.specs.Lawful.{all_hold}
use Rattle.tree_agreement.proofs.Whole.{both_true, argument_agrees}
use Rattle.statement_agreement.specs.Lawful.{follow, start_fits}

differs : (number object first : ℕ) → IsTrue (number == first) → object < first → (number == object) ≡ false
differs number object first same before = grind (arith, nat_tests)

equals : (number object : ℕ) → IsTrue (number == object) → number ≡ object
equals number object same = grind (arith, nat_tests)

module _ (here : Setting) (numbers : List ℕ) (called tree_called : Called) (defined : ℕ → Bool) (renumbers : Renumbers defined numbers called tree_called) where
  abbrev forest : TreeSetting
  forest = trees_for here numbers

  -- what the starts of these objects do
  abbrev begun : List Start → List NodeMeaning
  begun starts = node_meanings here tree_called (trees_from (starts_in forest starts))

  abbrev NotBegun : List Start → ℕ → ℕ → Type 0
  NotBegun starts objects object =
      openings here (suc objects) object (begun starts) ≡ start_meaning here object None ∷ openings here objects (object + 1) (begun starts)

  not_begun_at : (start : Start) (starts : List Start) (objects object first : ℕ) (value : Option TypedArg) → start.value ≡ value
      → object < first → IsTrue (start.object == first) → NotBegun starts objects object → NotBegun (start ∷ starts) objects object
  not_begun_at start starts objects object first None is before same rest = rw is rest
  not_begun_at start starts objects object first (Some value) is before same rest = rw (is, differs start.object object first same before) refl

  -- an object before all of these has no start among them
  not_begun : (starts : List Start) (objects object first : ℕ) → object < first → IsTrue (follow first starts) → NotBegun starts objects object
  not_begun [] objects object first before fits = refl
  not_begun (start ∷ starts) objects object first before fits =
      let right = both_true _ _ fits in
      not_begun_at start starts objects object first start.value refl before right.0 (not_begun starts objects object (first + 1) (omega arith) right.1)

  abbrev Open : List Start → ℕ → Type 0
  Open starts first = openings here (length starts) first (begun starts) ≡ map (starting here called) starts

  open_at : (start : Start) (starts : List Start) (first : ℕ) (value : Option TypedArg) → start.value ≡ value
      → IsTrue (start.object == first) → IsTrue (follow (first + 1) starts) → IsTrue (start_fits defined start) → Open starts (first + 1) → Open (start ∷ starts) first
  open_at start starts first None is same later fits rest =
      rw is (not_begun starts (length starts) first (first + 1) (omega arith) later
      ∙ ap (λ (runs : List (Run (Unit {0}))). start_meaning here first None ∷ runs) rest
      ∙ ap (λ (n : ℕ). start_meaning here n None ∷ map (starting here called) starts) (sym (equals start.object first same)))
  open_at start starts first (Some value) is same later fits rest =
      rw (is, same)
      (ap (λ (run : Run Given). start_meaning here first (Some run) ∷ openings here (length starts) (first + 1) (begun starts)) (argument_agrees here numbers called tree_called defined renumbers value (rw is at fits)).argument
      ∙ ap (λ (runs : List (Run (Unit {0}))). start_meaning here first (Some (source.argument_meaning here called value)) ∷ runs) rest
      ∙ ap (λ (n : ℕ). start_meaning here n (Some (source.argument_meaning here called value)) ∷ map (starting here called) starts) (sym (equals start.object first same)))

  pub openings_agree : (starts : List Start) (first : ℕ) → IsTrue (follow first starts) → IsTrue (all_hold (map (start_fits defined) starts)) → Open starts first
  openings_agree [] first later fits = refl
  openings_agree (start ∷ starts) first later fits =
      let right = both_true _ _ later in
      let each = both_true _ _ fits in
      open_at start starts first start.value refl right.0 right.1 each.0 (openings_agree starts (first + 1) right.1 each.1)
