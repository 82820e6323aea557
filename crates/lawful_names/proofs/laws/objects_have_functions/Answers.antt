use Rattle.lawful_names.proofs.Owners.{objects-owned}
use Rattle.lawful_names.proofs.laws.objects_have_functions.Goals as goal

pub returns : goal.returns
returns c = objects-owned
