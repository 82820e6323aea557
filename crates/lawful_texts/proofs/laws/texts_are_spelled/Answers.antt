use Rattle.lawful_texts.proofs.Spelling.{texts-spelled}
use Rattle.lawful_texts.proofs.laws.texts_are_spelled.Goals as goal

pub returns : goal.returns
returns c = texts-spelled
