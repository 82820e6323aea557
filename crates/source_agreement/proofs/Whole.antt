-- The whole run.
use Rattle.std.proofs.Common.{◌≡◌, ℕ, List, [], length, refl, ap, sym, ◌∙◌, arith}
use Rattle.std.specs.Prelude.{ℤ, Option, unwrap_or}
use Rattle.std.proofs.lemmas.List.Sorted.{length_permutation}
use Rattle.sat_base.specs.declared.name.At.{At}
use Rattle.c_typed.specs.declared.typed.Typed.{Typed}
use Rattle.source_runs.specs.declared.location.Given.{Given}
use Rattle.source_runs.specs.Runs.{Outcome, Run, state_after}
use Rattle.typed_meaning.specs.Observed.{called_at, source_run, outcome_of, observation_of}
use Rattle.call_structure.specs.Definitions.{AreDefinitions}
use Rattle.tree_meaning.specs.Parts.{plain_acts}
use Rattle.tree_meaning.specs.Observed.{called_with, tree_outcome}
use Rattle.whole_trees.specs.Sources.{number_in, main_in, setting_for, defined_functions, whole_tree}
use Rattle.source_agreement.specs.Agreement.{HasTree, TreeAgrees}
use Rattle.source_agreement.proofs.Objects.{opening_alike}
use Rattle.source_agreement.proofs.Orders.{ordered, few_definitions}
use Rattle.source_agreement.proofs.Numbers.{defined_by, as_many_functions, as_many_defined}
use Rattle.source_agreement.proofs.Calls.{calls_same}

module _ (typed : Typed) (definitions : List (ℕ × At)) (are : AreDefinitions typed definitions) (has : HasTree typed) where
  -- as many calls in one another as there are functions suffice
  main_same : (turns : ℕ)
      → called_with plain_acts (length (whole_tree typed definitions).functions) (whole_tree typed definitions) turns (number_in definitions has.main) ≡ called_at (length typed.functions) typed turns has.main
  main_same turns =
      let order = ordered typed has.order has.callers_first in
      let main = defined_by typed.functions has.main has.main_defined in
      let few = order.few in
      let fewer = few_definitions 0 typed.functions in
      let same = length_permutation _ _ are.each in
      let defined = as_many_defined typed definitions in
      let many = as_many_functions (setting_for typed definitions) (defined_functions typed definitions) 0 in
      calls_same typed definitions are has.bodies turns has.order order.follow has.main (order.each has.main main) (length typed.functions) (length (whole_tree typed definitions).functions)
      (omega (arith, few, fewer)) (omega (arith, few, same, defined, many))

  main_there : main_in typed definitions ≡ number_in definitions has.main
  main_there = ap (λ (number : Option ℕ). number_in definitions (unwrap_or number 0)) has.found

  source_main : (turns : ℕ) → source_run typed turns ≡ called_at (length typed.functions) typed turns has.main []
  source_main turns = rw has.found refl

  run_same : (turns : ℕ) → called_with plain_acts (length (whole_tree typed definitions).functions) (whole_tree typed definitions) turns (main_in typed definitions) [] ≡ source_run typed turns
  run_same turns =
      ap (λ (number : ℕ). called_with plain_acts (length (whole_tree typed definitions).functions) (whole_tree typed definitions) turns number []) main_there
      ∙ ap (λ (call : List Given → Run ℤ). call []) (main_same turns)
      ∙ sym (source_main turns)

  outcome_same : (input : List ℤ) (turns : ℕ) → tree_outcome (whole_tree typed definitions) input turns ≡ outcome_of typed input turns
  outcome_same input turns = λ i. run_same turns i (record { kept = opening_alike definitions typed.objects input i; sites = [] })

  pub source_agrees : TreeAgrees typed definitions
  source_agrees = record {
    observed = λ input turns. ap observation_of (outcome_same input turns);
    trace = λ input turns. ap (λ (outcome : Outcome ℤ). (state_after outcome).sites) (outcome_same input turns);
  }
