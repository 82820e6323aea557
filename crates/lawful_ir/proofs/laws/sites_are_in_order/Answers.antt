use Rattle.lawful_ir.proofs.Lines.{sites-are-in-order}
use Rattle.lawful_ir.proofs.laws.sites_are_in_order.Goals as goal

pub returns : goal.returns
returns c = sites-are-in-order
