-- The equations that the walks go by.
use Rattle.std.proofs.Common.{append_assoc}
use Rattle.std.proofs.lemmas.List.{append-nil}
use Rattle.ir_arena.proofs.Trees.{trees_placed}

pub ruleset walking = (trees_placed, append-nil, append_assoc)
