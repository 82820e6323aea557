-- The status and the text of what a run comes to.
use Rattle.std.specs.Prelude.{ℕ, List, Option, Some}
use Rattle.command_outcomes.specs.declared.outcome.Outcome.{Outcome}
use Rattle.command_outcomes.specs.declared.outcome.Outcome.TheVariants.{Done, Refused, NoCommand, NoMemory, Unusable, Stopped, Going, Unfit, Faulted}
use Rattle.command_outcomes.specs.Lines.{usage_line, memory_line, going_line}

abbrev pub status_of : Outcome → ℕ
status_of (Done report) = 0
status_of (Refused line) = 1
status_of NoCommand = 2
status_of NoMemory = 3
status_of (Unusable line) = 4
status_of (Stopped line) = 5
status_of Going = 6
status_of (Unfit line) = 7
status_of (Faulted line) = 8

-- of a put that failed, whatever the run came to
abbrev pub sink_failed : ℕ
sink_failed = 9

-- what is put, or none where nothing is
abbrev pub text_of : Outcome → Option (List ℕ)
text_of (Done report) = report
text_of (Refused line) = Some line
text_of NoCommand = Some usage_line
text_of NoMemory = Some memory_line
text_of (Unusable line) = Some line
text_of (Stopped line) = Some line
text_of Going = Some going_line
text_of (Unfit line) = Some line
text_of (Faulted line) = Some line
