-- The equations that the building of trees goes by.
use Rattle.ir_arena.proofs.Trees.{trees_placed}
use Rattle.source_trees.proofs.Expressions.{expression_trees}

pub ruleset building = (trees_placed, expression_trees)
