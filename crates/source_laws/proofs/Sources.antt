-- A whole run at more turns goes on from the same one at fewer.
use Rattle.std.proofs.Common.{◌≡◌, ℕ, zero, suc, ◌≤◌, List, [], ◌++◌, length, refl, sym, ap, ◌∙◌}
use Rattle.std.specs.Prelude.{ℤ, Option, Some, None, slice_get}
use Rattle.std.specs.List.{position}
use Rattle.sat_base.specs.Observation.{output_of}
use Rattle.c_typed.specs.declared.typed.Typed.{Typed}
use Rattle.c_typed.specs.declared.typed.TypedFunction.{TypedFunction}
use Rattle.c_typed.specs.declared.statement.TypedBlock.{TypedBlock}
use Rattle.source_runs.specs.declared.location.Given.{Given}
use Rattle.source_runs.specs.Runs.{Outcome, Gives, Stops, Goes, state_after}
use Rattle.typed_meaning.specs.Expressions.{Called}
use Rattle.typed_meaning.specs.Observed.{body_meaning, function_meaning, setting_of, called_at, is_main, source_run, opening, outcome_of, observation_of}
use Rattle.source_laws.specs.Turns.{IsOver, TurnsOnlyAdd}
use Rattle.source_laws.proofs.Extending.{Before, before-itself, Continues, Extends, extends-gives, extends-next, extends-and}
use Rattle.source_laws.proofs.Steps.{extends-given_to_all}
use Rattle.source_laws.proofs.Statements.{extends-block}

module _ (typed : Typed) (turns more : ℕ) (most : turns ≤ more) where
  extends-body : (called longer : Called) → ((number : ℕ) (givens : List Given) → Extends (called number givens) (longer number givens)) → (body : Option TypedBlock)
      → Extends (body_meaning (setting_of typed turns) called body) (body_meaning (setting_of typed more) longer body)
  unfolding body_meaning
  extends-body called longer each None = extends-gives _
  extends-body called longer each (Some body) = extends-block typed.objects _ turns more most called longer each body

  extends-function : (called longer : Called) → ((number : ℕ) (givens : List Given) → Extends (called number givens) (longer number givens)) → (function : Option TypedFunction) (givens : List Given)
      → Extends (function_meaning (setting_of typed turns) called function givens) (function_meaning (setting_of typed more) longer function givens)
  unfolding function_meaning
  extends-function called longer each None givens = extends-gives _
  extends-function called longer each (Some function) givens =
      extends-next _ _ _ _ (extends-and _ _ _ _ (extends-given_to_all typed.objects function.params givens) (extends-body called longer each function.body)) (λ flow. extends-gives _)

  extends-called : (depth number : ℕ) (givens : List Given) → Extends (called_at depth typed turns number givens) (called_at depth typed more number givens)
  unfolding called_at
  extends-called zero number givens = extends-gives _
  extends-called (suc depth) number givens = extends-function (called_at depth typed turns) (called_at depth typed more) (extends-called depth) (slice_get typed.functions number) givens

  extends-source : Extends (source_run typed turns) (source_run typed more)
  extends-source =
      elim (position is_main typed.functions) as (λ o. position is_main typed.functions ≡ o → Extends (source_run typed turns) (source_run typed more)) [
        | None ↦ λ is. rw is (extends-gives _)
        | Some number ↦ λ is. rw is (extends-called (length typed.functions) number [])
      ] refl

-- ---- outcomes

settles : (outcome other : Outcome ℤ) → Continues outcome other → IsOver (observation_of outcome) → other ≡ outcome
settles (Gives a s) other one over = one
settles (Stops site s) other one over = one
settles (Goes s) other one over = absurd over

output-is : (outcome : Outcome ℤ) → output_of (observation_of outcome) ≡ (state_after outcome).kept.output
output-is (Gives a s) = refl
output-is (Stops site s) = refl
output-is (Goes s) = refl

goes_on : (outcome other : Outcome ℤ) → Continues outcome other → Before (state_after outcome) (state_after other)
goes_on (Gives a s) other one = rw one (before-itself s)
goes_on (Stops site s) other one = rw one (before-itself s)
goes_on (Goes s) other one = one

pub turns_only_add : (typed : Typed) (input : List ℤ) → TurnsOnlyAdd typed input
turns_only_add typed input turns more most =
    let one : Continues (outcome_of typed input turns) (outcome_of typed input more) = (extends-source typed turns more most).continues (opening typed input) in
    let after : Before (state_after (outcome_of typed input turns)) (state_after (outcome_of typed input more)) = goes_on (outcome_of typed input turns) (outcome_of typed input more) one in
    record {
      settled = λ over. ap observation_of (settles (outcome_of typed input turns) (outcome_of typed input more) one over);
      traced = λ over. ap (λ o. (state_after o).sites) (settles (outcome_of typed input turns) (outcome_of typed input more) one over);
      output = (after.output.0, output-is (outcome_of typed input more) ∙ after.output.1 ∙ ap (λ (l : List ℤ). l ++ after.output.0) (sym (output-is (outcome_of typed input turns))));
      sites = after.sites;
    }
