use Rattle.first_form.proofs.Depths.{shallow}
use Rattle.first_form.proofs.laws.shallow.Goals as goal

pub returns : goal.returns
returns c = shallow
