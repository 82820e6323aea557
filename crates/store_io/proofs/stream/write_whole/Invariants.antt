use Rattle.store_io.proofs.Turns.{WroteTo}
use Rattle.store_io.proofs.stream.write_whole.Given as goal

abbrev pub invariant-loop : goal.invariant-loop
invariant-loop g l = WroteTo (g.W.Write.contents l.fn.writer) (g.W.Write.contents l.writer) l.bytes l.rest
