-- What the loop keeps: reading comes where it comes from the start.
use Rattle.std.proofs.Common.{Bool, length, suc, ◌≡◌, ◌-◌}
use Rattle.c_grammar.specs.declared.symbol.Symbol.{Symbol}
use Rattle.right_reading.specs.Lists.{many}
use Rattle.right_reading.specs.Stream.{Parser}
use Rattle.token_reader.specs.Gives.{Parses, Tests}
use Rattle.token_reader.proofs.lists.many.Given as goal

abbrev pub invariant-loop-turn : goal.invariant-loop-turn
invariant-loop-turn g l =
    (q : Symbol → Bool) (p : Parser g.row.T.Denot) → Tests (goal.G-post g l.goes) q → Parses (goal.F-post g l.item) p
    → many q p (l._turn-end - l._turn) l.found l.reader ≡ many q p (suc (length l.fn.reader)) l.fn.found l.fn.reader
