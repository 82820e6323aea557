use Rattle.std.proofs.Common.{◌≤◌, ◌-◌}
use Rattle.rv_emulator.specs.After.{IsAfter}
use Rattle.image_runs.proofs.emulation.run_image.Given as goal

abbrev pub invariant-pauses : goal.invariant-pauses
invariant-pauses l = record {
  fewer : l.left ≤ l.fn.steps;
  after : IsAfter l.fn.image l.fn.input (l.fn.steps - l.left) l.output.items l.machine;
}

abbrev pub decreases-pauses : goal.decreases-pauses
decreases-pauses l = l.left
