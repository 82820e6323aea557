use Rattle.register_allocation.proofs.Complete.{each-has-home}
use Rattle.register_allocation.proofs.laws.each_has_home.Goals as goal

pub returns : goal.returns
returns c = λ tree assign good. each-has-home tree assign.functions good.complete
