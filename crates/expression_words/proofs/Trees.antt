-- The equations and steps that the emission of expressions goes by.
use Rattle.ir_arena.proofs.Trees.{trees_placed}
use Rattle.code_pieces.proofs.Growing.{consists, consists_own, consists_then, growing, stays, stays_without_sites}

pub ruleset emitting = (trees_placed, growing, stays, stays_without_sites, consists, consists_own, consists_then)
