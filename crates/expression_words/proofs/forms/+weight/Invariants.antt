use Rattle.std.proofs.Common.{◌≡◌, ◌+◌, drop}
use Rattle.ir_arena.specs.Placed.{trees_at}
use Rattle.expression_code.specs.Code.{weights_of}
use Rattle.expression_words.proofs.forms.+weight.Given as goal

abbrev pub invariant-weights_of-loop-tree : goal.invariant-weights_of-loop-tree
invariant-weights_of-loop-tree l =
    l.weight + weights_of (trees_at (drop l.tree-index l.trees)) ≡ weights_of (trees_at l.trees)
