use Rattle.std.proofs.Common.{◌≡◌, ◌++◌, map, drop}
use Rattle.ir_arena.specs.Placed.{function_of}
use Rattle.ir_cuts.specs.Cuts.{cuts_from}
use Rattle.ir_cuts.proofs.functions.cuts.Given as goal

abbrev pub invariant-loop-function : goal.invariant-loop-function
invariant-loop-function l =
    l.cuts ++ cuts_from l.objects l.number (map function_of (drop l.function-index l.functions)) ≡ cuts_from l.objects 0 (map function_of l.functions)
