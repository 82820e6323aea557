use Rattle.std.proofs.Common.{◌+◌, ◌*◌, length, min}
use Rattle.call_graph.specs.Waves.{open_functions}
use Rattle.call_graph.proofs.Fronts.{IsFront}
use Rattle.call_graph.proofs.distance.distances.Given as goal

abbrev pub invariant-waves : goal.invariant-waves
invariant-waves l = IsFront l.graph l.start l.distance l.wave

abbrev pub decreases-waves : goal.decreases-waves
decreases-waves l = 2 * open_functions l.wave + min 1 (length l.wave.functions)
