use Rattle.code_counts.proofs.Statements.{overflow_is_kept}
use Rattle.code_counts.proofs.laws.overflow_is_kept.Goals as goal

pub returns : goal.returns
returns c = overflow_is_kept
