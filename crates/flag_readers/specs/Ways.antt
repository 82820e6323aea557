-- The steps that can follow one another, whatever the values of conditions: sets of lists of steps, and how they are
-- put together.
use Rattle.std.specs.Prelude.{◌≡◌, ℕ, zero, suc, List, [], ◌∷◌, ◌++◌, ◌⊎◌, Bool, true, false}
use Rattle.sat_base.specs.declared.position.Pos.{Pos}

-- A step is the evaluation of a site, a read of Overflow, an assignment to it, the entering of a call or the leaving
-- of a function.
pub data WalkStep : Type 0 where
  EvaluatesSite : (site : ℕ) → WalkStep
  ReadsFlag : (word : Pos) → WalkStep
  AssignsFlag : WalkStep
  EntersFunction : (function : ℕ) → WalkStep
  LeavesFunction : (function : ℕ) → WalkStep

-- How a part of a tree is left: at its end, by `break`, `continue` or `return`; or it is not left yet.
pub data PartExit : Type 0 where
  Through : PartExit
  Broken : PartExit
  Continued : PartExit
  Returned : PartExit
  Underway : PartExit

-- what can follow, and how the part is left then
abbrev pub Way : Type 1
Way = List WalkStep → PartExit → Type 0

-- ---- one by one

pub data OrUnderway (last : PartExit) : PartExit → Type 0 where
  left : OrUnderway last last
  not_left : OrUnderway last Underway

-- nothing, and the part is left so
abbrev pub leaving : PartExit → Way
leaving last steps exit = (steps ≡ []) × OrUnderway last exit

abbrev pub nothing : Way
nothing = leaving Through

-- what cannot be
abbrev pub never : Way
never steps exit = ⊥

pub data Takes (step : WalkStep) : List WalkStep → PartExit → Type 0 where
  taken : {exit : PartExit} → OrUnderway Through exit → Takes step (step ∷ []) exit
  not_yet : Takes step [] Underway

-- ---- put together

pub data IsOut : PartExit → Type 0 where
  broken : IsOut Broken
  continued : IsOut Continued
  returned : IsOut Returned
  underway : IsOut Underway

-- one after the other, where the first is gone through
pub data Then (first second : Way) : List WalkStep → PartExit → Type 0 where
  stays : {steps : List WalkStep} {exit : PartExit} → first steps exit → IsOut exit → Then first second steps exit
  goes_on : {steps more : List WalkStep} {exit : PartExit} → first steps Through → second more exit → Then first second (steps ++ more) exit

abbrev pub either : Way → Way → Way
either one other steps exit = one steps exit ⊎ other steps exit

-- the body of a loop, and what follows a turn: `break` leaves the loop, and `continue` goes on to what ends the turn
pub data AfterBody (body next : Way) : List WalkStep → PartExit → Type 0 where
  unfinished : {steps : List WalkStep} → body steps Underway → AfterBody body next steps Underway
  returns : {steps : List WalkStep} → body steps Returned → AfterBody body next steps Returned
  breaks : {steps : List WalkStep} → body steps Broken → AfterBody body next steps Through
  turns : {steps more : List WalkStep} {exit : PartExit} → body steps Through → next more exit → AfterBody body next (steps ++ more) exit
  continues : {steps more : List WalkStep} {exit : PartExit} → body steps Continued → next more exit → AfterBody body next (steps ++ more) exit

-- the body of a called function
pub data CalledBody (body : Way) : List WalkStep → PartExit → Type 0 where
  unfinished : {steps : List WalkStep} → body steps Underway → CalledBody body steps Underway
  through : {steps : List WalkStep} → body steps Through → CalledBody body steps Through
  returns : {steps : List WalkStep} → body steps Returned → CalledBody body steps Through

-- ---- from a place inside

-- just after the evaluation of a site, or just after a call of a function
pub data Origin : Type 0 where
  AfterSite : (site : ℕ) → Origin
  AfterCall : (function : ℕ) → Origin

-- how a part is gone through from its start, and from a place in it
pub record Ways : Type 1 where
  pub whole : Way
  pub from : Origin → Way

abbrev pub no_origin : Way → Ways
no_origin way = record { whole = way; from = λ origin. never }

abbrev pub at_step : Origin → Way → Ways
at_step place way = record { whole = way; from = λ origin steps exit. (origin ≡ place) × nothing steps exit }

abbrev pub in_turn : Ways → Ways → Ways
in_turn first second =
    record { whole = Then first.whole second.whole; from = λ origin. either (Then (first.from origin) second.whole) (second.from origin) }

abbrev pub one_of : Ways → Ways → Ways
one_of this other = record { whole = either this.whole other.whole; from = λ origin. either (this.from origin) (other.from origin) }

abbrev pub all_in_turn : List Ways → Ways
all_in_turn [] = no_origin nothing
all_in_turn (first ∷ rest) = in_turn first (all_in_turn rest)

-- ---- loops

-- what follows a turn of a loop that has some more of them at most: its last part, the condition, and then another turn
-- or the end
abbrev mutual
  pub turn_ways : ℕ → Way → Way → Way → Way
  turn_ways zero cond last body = never
  turn_ways (suc more) cond last body = AfterBody body (Then last (Then cond (either nothing (turn_ways more cond last body))))

-- from the test on
abbrev pub tested : ℕ → Way → Way → Way → Way
tested more cond last body = Then cond (either nothing (turn_ways more cond last body))

abbrev from_start : Bool → ℕ → Way → Way → Way → Way
from_start true more cond last body = tested more cond last body
from_start false more cond last body = turn_ways more cond last body

abbrev pub loop_ways : Bool → Ways → Ways → Ways → Ways
loop_ways tests_first cond last body =
    record {
      whole = λ steps exit. (more : ℕ) × from_start tests_first more cond.whole last.whole body.whole steps exit;
      from = λ origin steps exit. (more : ℕ) ×
          (Then (cond.from origin) (either nothing (turn_ways more cond.whole last.whole body.whole)) steps exit
          ⊎ AfterBody (body.from origin) (Then last.whole (tested more cond.whole last.whole body.whole)) steps exit
          ⊎ Then (last.from origin) (tested more cond.whole last.whole body.whole) steps exit);
    }
