-- Calls of the functions of a tree, the run of `main`, and what is observed of it.
use Rattle.std.specs.Prelude.{ℕ, zero, suc, ℤ, pos, List, [], length, Option, Some, None, slice_get}
use Rattle.sat_base.specs.Observation.{Observation}
use Rattle.source_runs.specs.declared.location.Given.{Given}
use Rattle.source_runs.specs.State.{SourceState}
use Rattle.source_runs.specs.Runs.{Outcome, Run, gives, ◌>>=◌, ◌>>◌, changing, state_after}
use Rattle.source_runs.specs.Steps.{given_to_all, opening_state}
use Rattle.typed_meaning.specs.Expressions.{Setting, Called}
use Rattle.typed_meaning.specs.Observed.{returned, observation_of}
use Rattle.weight_table.specs.declared.table.Table.TheVariants.{One}
use Rattle.ir_arena.specs.Tree.{TreeFunction, IrWhole}
use Rattle.tree_meaning.specs.Parts.{Acts, plain_acts}
use Rattle.tree_meaning.specs.Trees.{meaning_with}

-- the weights stand in the nodes, so no table is looked up
abbrev pub tree_setting : IrWhole → ℕ → Setting
tree_setting tree turns = record { objects = tree.objects; table = One; turns = turns }

abbrev pub tree_opening : IrWhole → List ℤ → SourceState
tree_opening tree input = record { kept = opening_state tree.objects input; sites = [] }

module _ (acts : Acts) where
  -- a function has what is given to its parameters, and then its body is done
  unfoldable pub function_with : Setting → Called → Option TreeFunction → List Given → Run ℤ
  function_with here called None givens = gives (pos 0)
  function_with here called (Some function) givens =
      changing (given_to_all here.objects function.params givens) >> (meaning_with acts here called function.body).flow
      >>= (λ flow. gives (returned function.gives flow))

  -- A call of a function where so many functions may be active in one another. As no function reaches itself, as many
  -- as there are functions suffice.
  unfoldable pub called_with : ℕ → IrWhole → ℕ → Called
  called_with zero tree turns number givens = gives (pos 0)
  called_with (suc depth) tree turns number givens =
      function_with (tree_setting tree turns) (called_with depth tree turns) (slice_get tree.functions number) givens

  -- `main` starts the run, and its end ends it; the outcome of a run on an input at a number of turns
  abbrev pub outcome_with : IrWhole → List ℤ → ℕ → Outcome ℤ
  outcome_with tree input turns = called_with (length tree.functions) tree turns tree.main [] (tree_opening tree input)

abbrev pub tree_outcome : IrWhole → List ℤ → ℕ → Outcome ℤ
tree_outcome = outcome_with plain_acts

-- what is observed of it
abbrev pub tree_observed : IrWhole → List ℤ → ℕ → Observation
tree_observed tree input turns = observation_of (tree_outcome tree input turns)

-- the sites that it evaluates, in order
abbrev pub tree_trace : IrWhole → List ℤ → ℕ → List ℕ
tree_trace tree input turns = (state_after (tree_outcome tree input turns)).sites
