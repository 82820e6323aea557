use Rattle.source_agreement.proofs.Whole.{source_agrees}
use Rattle.source_agreement.proofs.laws.sources_agree.Goals as goal

pub returns : goal.returns
returns c = source_agrees
