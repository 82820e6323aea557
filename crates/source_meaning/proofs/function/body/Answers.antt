use Rattle.std.proofs.Common.{refl}
use Rattle.source_runs.proofs.Following.{follows-gives}
use Rattle.typed_meaning.specs.Observed.{body_meaning}
use Rattle.source_meaning.proofs.function.body.Goals as goal

pub returns-in-Some : goal.returns-in-Some
unfolding body_meaning
returns-in-Some g c = rw c.in-Some.is c.block.ensures

pub returns-in-None : goal.returns-in-None
unfolding body_meaning
returns-in-None g c = rw c.in-None.is (follows-gives _ _ _ _ refl refl)
