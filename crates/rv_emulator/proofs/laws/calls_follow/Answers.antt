use Rattle.rv_emulator.proofs.After.{calls_follow}
use Rattle.rv_emulator.proofs.laws.calls_follow.Goals as goal

pub returns : goal.returns
returns c = calls_follow
