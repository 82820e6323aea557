use Rattle.std.proofs.Common.{ℤ}
use Rattle.range_transfer.specs.Relation.{Holds}
use Rattle.range_transfer.proofs.Least.{same_partners}
use Rattle.range_transfer.proofs.relation.refine_false.Goals as goal

pub returns-clause-left : goal.returns-clause-left
returns-clause-left c = same_partners _ (λ (x y : ℤ). Holds c.args.rel x y → ⊥) c.args.left c.args.right _ (λ x y. c.opposite.ensures x y) c.refine_true.ensures.left

pub returns-clause-right : goal.returns-clause-right
returns-clause-right c = same_partners _ (λ (y x : ℤ). Holds c.args.rel x y → ⊥) c.args.right c.args.left _ (λ y x. c.opposite.ensures x y) c.refine_true.ensures.right
