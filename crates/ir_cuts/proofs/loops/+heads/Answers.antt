use Rattle.std.proofs.Common.{append_assoc}
use Rattle.std.proofs.lemmas.List.{append-nil}
use Rattle.ir_arena.proofs.Trees.{tree-If}
use Rattle.ir_cuts.proofs.loops.+heads.Goals as goal

pub heads-returns-in-Some : goal.heads-returns-in-Some
heads-returns-in-Some t c =
    rw (c.in-If.is, c.in-Some.is, tree-If, append-nil) (rw (c.in_ok-heads-in-If.ensures, append_assoc) at c.heads-in-Some.ensures)
