use Rattle.image_format.proofs.Read.{are_read_back}
use Rattle.image_format.proofs.laws.images_are_read_back.Goals as goal

pub returns : goal.returns
returns c = are_read_back
