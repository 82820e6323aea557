use Rattle.std.proofs.Common.{◌≡◌, ℕ, [], ◌∷◌, List, length, drop, arith}
use Rattle.operator_meaning.specs.declared.object.Object.{Object}
use Rattle.source_runs.specs.declared.location.Given.{Given}
use Rattle.source_runs.specs.State.{Kept}
use Rattle.source_runs.specs.Steps.{given_to_all}
use Rattle.source_runs.proofs.state.RunState.give_all.Goals as goal

given_nothing : (objects : List Object) (params : List ℕ) (givens : List Given) (kept whole : Kept) → length givens ≡ 0 → given_to_all objects params givens kept ≡ whole → kept ≡ whole
given_nothing objects [] givens kept whole none is = is
given_nothing objects (param ∷ params) [] kept whole none is = is
given_nothing objects (param ∷ params) (given ∷ more) kept whole none is = absurd (omega arith)

pub returns-in_default : goal.returns-in_default
returns-in_default c = given_nothing c.args.objects.now (drop c.loop-param.param-index c.args.params.now) c.loop-param.left.now _ _ c.in_default.ensures.cases c.loop-param.invariant
