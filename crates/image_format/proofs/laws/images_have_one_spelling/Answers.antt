use Rattle.image_format.proofs.Read.{have_one_spelling}
use Rattle.image_format.proofs.laws.images_have_one_spelling.Goals as goal

pub returns : goal.returns
returns c = have_one_spelling
