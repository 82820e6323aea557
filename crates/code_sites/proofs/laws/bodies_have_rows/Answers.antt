use Rattle.code_sites.proofs.Rows.{bodies-have-rows}
use Rattle.code_sites.proofs.laws.bodies_have_rows.Goals as goal

pub returns : goal.returns
returns c = bodies-have-rows
