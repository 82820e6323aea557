use Rattle.source_costs.proofs.Rooms.{tokens_cover}
use Rattle.source_costs.proofs.laws.tokens_cover_costs.Goals as goal

pub returns : goal.returns
returns c = tokens_cover
