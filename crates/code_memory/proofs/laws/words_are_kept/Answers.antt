use Rattle.code_memory.proofs.Words.{words_are_kept}
use Rattle.code_memory.proofs.laws.words_are_kept.Goals as goal

pub returns : goal.returns
returns c = words_are_kept
