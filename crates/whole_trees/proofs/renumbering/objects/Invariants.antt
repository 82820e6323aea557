use Rattle.std.proofs.Common.{◌≡◌, ◌++◌, map, drop}
use Rattle.whole_trees.specs.Sources.{renumbered}
use Rattle.whole_trees.proofs.renumbering.objects.Given as goal

abbrev pub invariant-loop-object : goal.invariant-loop-object
invariant-loop-object l =
    l.same ++ map (renumbered l.definitions.entries) (drop l.object-index l.objects) ≡ map (renumbered l.definitions.entries) l.objects
