use Rattle.std.proofs.Common.{◌≡◌, ◌++◌, map, take}
use Rattle.rv_encode.specs.Words.{encoded}
use Rattle.template_runs.specs.Renaming.{all_over}
use Rattle.operator_lowering.proofs.words.Words.put.Given as goal

abbrev pub invariant-loop-instr : goal.invariant-loop-instr
invariant-loop-instr l = l.self ≡ l.fn.self ++ map encoded (all_over l.regs (take l.instr-index l.instrs))
