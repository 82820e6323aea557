-- What the loop over the table keeps.
use Rattle.std.proofs.Common.{◌≡◌, length}
use Rattle.std.specs.Prelude.{map}
use Rattle.c_grammar.specs.Spots.{symbol_written}
use Rattle.c_grammar.proofs.symbol.symbol_written.Given as goal

-- what is left of the table says the same
abbrev pub invariant-loop-left : goal.invariant-loop-left
invariant-loop-left l = symbol_written (map (λ x. (x.0.now, x.1)) l.left) l.bytes ≡ symbol_written (map (λ x. (x.0.now, x.1)) l.fn.table) l.fn.bytes

abbrev pub decreases-loop-left : goal.decreases-loop-left
decreases-loop-left l = length l.left
