use Rattle.sat_compile.proofs.Recursion.{fault_passed}
use Rattle.sat_compile.proofs.checking.checked.Goals as goal

pub returns-in-Err-clause-refused : goal.returns-in-Err-clause-refused
returns-in-Err-clause-refused c = fault_passed c.args.program.now c.in-Err.fault c.faulty.result c.in-Err.ensures.refused c.faulty.ensures
