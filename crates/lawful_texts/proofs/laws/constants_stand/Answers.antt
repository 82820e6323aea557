use Rattle.lawful_texts.proofs.Texts.{constants-stand}
use Rattle.lawful_texts.proofs.laws.constants_stand.Goals as goal

pub returns : goal.returns
returns c = constants-stand
