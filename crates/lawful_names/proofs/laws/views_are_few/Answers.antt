use Rattle.lawful_names.proofs.OwnObjects.{views-few}
use Rattle.lawful_names.proofs.laws.views_are_few.Goals as goal

pub returns : goal.returns
returns c = views-few
