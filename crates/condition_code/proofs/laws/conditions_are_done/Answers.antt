use Rattle.condition_code.proofs.Conditions.{condition_does}
use Rattle.condition_code.proofs.laws.conditions_are_done.Goals as goal

pub returns : goal.returns
returns c = λ code turns l here called reach e sense k lag values distance target laid scalars.
    condition_does code turns l laid here called scalars reach e sense k lag values distance target
