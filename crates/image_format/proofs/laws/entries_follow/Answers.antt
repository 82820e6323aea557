use Rattle.image_format.proofs.Entered.{entries_follow}
use Rattle.image_format.proofs.laws.entries_follow.Goals as goal

pub returns : goal.returns
returns c = entries_follow
