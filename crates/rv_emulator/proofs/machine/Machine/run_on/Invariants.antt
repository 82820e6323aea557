use Rattle.std.proofs.Common.{◌≡◌, None}
use Rattle.rv_emulator.proofs.Moments.{Ran}
use Rattle.rv_emulator.proofs.machine.Machine.run_on.Given as goal

abbrev pub invariant-loop-left : goal.invariant-loop-left
invariant-loop-left l = record {
  same_code : l.self-inside.code ≡ l.initial.self-inside.code;
  running : l.self-inside.ending ≡ None;
  ran : Ran l.self-inside.code l.initial.self-inside.hart l.initial.left l.left l.self-inside.hart;
}

abbrev pub decreases-loop-left : goal.decreases-loop-left
decreases-loop-left l = l.left
