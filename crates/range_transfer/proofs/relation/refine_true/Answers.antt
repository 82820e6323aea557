use Rattle.std.proofs.Common.{ℤ}
use Rattle.range_transfer.specs.Relation.{Holds}
use Rattle.range_transfer.proofs.Least.{same_partners}
use Rattle.range_transfer.proofs.relation.refine_true.Goals as goal

pub returns-clause-right : goal.returns-clause-right
returns-clause-right c = same_partners _ (λ (y x : ℤ). Holds c.args.rel x y) c.args.right c.args.left _ (λ y x. c.turned.ensures y x) c.partners-2.ensures.least
