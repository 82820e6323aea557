-- What the loop keeps: reading comes where it comes from the start.
use Rattle.std.proofs.Common.{◌≡◌, ◌-◌}
use Rattle.c_grammar.specs.declared.symbol.Symbol.TheVariants as symbol
use Rattle.right_reading.specs.Lists.{after, is_comma, many, more_listed}
use Rattle.right_reading.specs.Stream.{Parser}
use Rattle.token_reader.specs.Gives.{Parses}
use Rattle.token_reader.proofs.lists.more_listed.Given as goal

abbrev pub invariant-loop-turn : goal.invariant-loop-turn
invariant-loop-turn g l =
    (p : Parser g.row.T.Denot) → Parses (goal.F-post g l.item) p → many is_comma (after symbol.Comma p) (l._turn-end - l._turn) l.found l.reader ≡ more_listed p l.fn.found l.fn.reader
