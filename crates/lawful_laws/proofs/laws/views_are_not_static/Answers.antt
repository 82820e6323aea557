use Rattle.lawful_laws.proofs.StaticViews.{not-static}
use Rattle.lawful_laws.proofs.laws.views_are_not_static.Goals as goal

pub returns : goal.returns
returns c = not-static
