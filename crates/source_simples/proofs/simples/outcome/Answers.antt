use Rattle.std.proofs.Common.{to_z, of_z, w32}
use Rattle.std.proofs.lemmas.Int.{to_z-of_z}
use Rattle.std.specs.Prelude.{ℤ}
use Rattle.source_runs.specs.Marks.{assigned}
use Rattle.source_runs.proofs.Following.{follows-at}
use Rattle.source_simples.proofs.simples.outcome.Goals as goal

pub returns-clause-answers : goal.returns-clause-answers
returns-clause-answers c = λ kept.
    follows-at (λ (x : ℤ). assigned c.args.mark c.args.site c.args.old x) _ _ _ _ _ (to_z-of_z w32 _ c.ranges.value)
    (follows-at (λ (x : ℤ). assigned c.args.mark c.args.site x (to_z w32 (of_z w32 c.args.value))) _ _ _ _ _ (to_z-of_z w32 _ c.ranges.old) (c.assigned.ensures kept))
