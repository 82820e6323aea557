use Rattle.std.proofs.Common.{◌≡◌, drop}
use Rattle.first_form.specs.Finding.{outs_of}
use Rattle.first_form.proofs.Outs.{found_with}
use Rattle.first_form.proofs.form.outs.Given as goal

abbrev pub invariant-loop-stmt : goal.invariant-loop-stmt
invariant-loop-stmt l = outs_of l.stmts ≡ found_with l.outs (drop l.stmt-index l.stmts)
