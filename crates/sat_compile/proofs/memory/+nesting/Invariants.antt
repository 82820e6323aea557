use Rattle.first_form.specs.Form.{nesting_of}
use Rattle.sat_compile.proofs.memory.+nesting.Given as goal

abbrev pub decreases-nesting : goal.decreases-nesting
decreases-nesting l = nesting_of l.expr.now
