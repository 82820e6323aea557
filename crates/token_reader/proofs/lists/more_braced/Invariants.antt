-- What the loop keeps: reading comes where it comes from the start.
use Rattle.std.proofs.Common.{length, ◌≡◌, ◌-◌}
use Rattle.right_reading.specs.ReadDeclarations.{more_braced}
use Rattle.right_reading.specs.Stream.{Parser}
use Rattle.token_reader.specs.Gives.{Parses}
use Rattle.token_reader.proofs.lists.more_braced.Given as goal

abbrev pub invariant-loop-turn : goal.invariant-loop-turn
invariant-loop-turn g l =
    (p : Parser g.row.T.Denot) → Parses (goal.F-post g l.item) p → more_braced (l._turn-end - l._turn) p l.found l.reader ≡ more_braced (length l.fn.reader) p l.fn.found l.fn.reader
