-- The equations that the building of trees goes by.
use Rattle.ir_arena.proofs.Trees.{trees_placed}
use Rattle.source_trees.proofs.Statements.{statement_trees}

pub ruleset building = (trees_placed, statement_trees)
