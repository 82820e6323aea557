-- Statements one after the other, and loops with a number of turns.
use Rattle.std.specs.Prelude.{ℕ, zero, suc, ℤ, List, [], ◌∷◌}
use Rattle.source_runs.specs.Runs.{Run, Goes, gives, ◌>>=◌, ◌>>◌, choosing}
use Rattle.source_runs.specs.declared.halt.Flow.{Flow}
use Rattle.source_runs.specs.declared.halt.Flow.TheVariants.{Normal, Break, Continue, Return}

-- what follows is done where the statement is left to it
abbrev pub after_statement : Run Flow → Flow → Run Flow
after_statement next Normal = next
after_statement next Break = gives Break
after_statement next Continue = gives Continue
after_statement next (Return value) = gives (Return value)

unfoldable pub in_sequence : List (Run Flow) → Run Flow
in_sequence [] = gives Normal
in_sequence (first ∷ more) = first >>= after_statement (in_sequence more)

-- `break` leaves the loop, `return` the function, and `continue` goes on to what ends the turn
abbrev pub after_body : Run Flow → Flow → Run Flow
after_body next Normal = next
after_body next Break = gives Normal
after_body next Continue = next
after_body next (Return value) = gives (Return value)

unfoldable pub going_on : {A : Type 0} → Run A
going_on s = Goes s

-- The turns of a loop, of which `turns` may begin. A loop that would begin one more is going on there. A turn ends
-- with the last part of a `for`, and the next one begins where the condition has held.
unfoldable pub turns_of : ℕ → Run ℤ → Run (Unit {0}) → Run Flow → Run Flow
turns_of zero condition last body = going_on
turns_of (suc turns) condition last body =
    body >>= after_body (last >> choosing condition (turns_of turns condition last body) (gives Normal))

-- a loop that tests before its first turn; in a `do` the first turn begins at once
unfoldable pub looping : ℕ → Run ℤ → Run (Unit {0}) → Run Flow → Run Flow
looping turns condition last body = choosing condition (turns_of turns condition last body) (gives Normal)
