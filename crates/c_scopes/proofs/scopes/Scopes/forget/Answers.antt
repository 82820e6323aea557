use Rattle.c_scopes.proofs.Ties.{tied-forgotten}
use Rattle.c_scopes.proofs.scopes.Scopes.forget.Goals as goal

pub invariant_of-self : goal.invariant_of-self
invariant_of-self g c =
    tied-forgotten c.self.inside (record { newest = c.insert.new.self; entries = c.pop.new.self }) c.in-Some.entry c.insert.result
    c.self.invariant c.in-Some.ensures.items c.insert.ensures.updates c.insert.ensures.absent
