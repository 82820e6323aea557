-- The steps that can follow one another, whatever the values of conditions: sets of lists of steps, and how they are
-- put together.
use Rattle.std.specs.Prelude.{◌≡◌, List, [], ◌∷◌, ◌++◌, ◌⊎◌}

-- How a part of a tree is left: at its end, by `break`, `continue` or `return`; or it is not left yet.
pub data PartExit : Type 0 where
  Through : PartExit
  Broken : PartExit
  Continued : PartExit
  Returned : PartExit
  Underway : PartExit

-- what can follow, and how the part is left then
abbrev pub Way : Type 0 → Type 1
Way Step = List Step → PartExit → Type 0

-- ---- one by one

pub data OrUnderway (last : PartExit) : PartExit → Type 0 where
  left : OrUnderway last last
  not_left : OrUnderway last Underway

-- no step, and the part is left so
abbrev pub leaving : {Step : Type 0} → PartExit → Way Step
leaving last steps exit = (steps ≡ []) × OrUnderway last exit

abbrev pub nothing : {Step : Type 0} → Way Step
nothing = leaving Through

-- what cannot be
abbrev pub never : {Step : Type 0} → Way Step
never steps exit = ⊥

pub data Takes {Step : Type 0} (step : Step) : List Step → PartExit → Type 0 where
  taken : {exit : PartExit} → OrUnderway Through exit → Takes step (step ∷ []) exit
  not_yet : Takes step [] Underway

-- ---- put together

pub data IsOut : PartExit → Type 0 where
  broken : IsOut Broken
  continued : IsOut Continued
  returned : IsOut Returned
  underway : IsOut Underway

-- one after the other, where the first is gone through
pub data Then {Step : Type 0} (first second : Way Step) : List Step → PartExit → Type 0 where
  stays : {steps : List Step} {exit : PartExit} → first steps exit → IsOut exit → Then first second steps exit
  goes_on : {steps more : List Step} {exit : PartExit} → first steps Through → second more exit → Then first second (steps ++ more) exit

abbrev pub either : {Step : Type 0} → Way Step → Way Step → Way Step
either one other steps exit = one steps exit ⊎ other steps exit

-- the body of a loop, and what follows a turn: `break` leaves the loop, and `continue` goes on to what ends the turn
pub data AfterBody {Step : Type 0} (body next : Way Step) : List Step → PartExit → Type 0 where
  unfinished : {steps : List Step} → body steps Underway → AfterBody body next steps Underway
  returns : {steps : List Step} → body steps Returned → AfterBody body next steps Returned
  breaks : {steps : List Step} → body steps Broken → AfterBody body next steps Through
  turns : {steps more : List Step} {exit : PartExit} → body steps Through → next more exit → AfterBody body next (steps ++ more) exit
  continues : {steps more : List Step} {exit : PartExit} → body steps Continued → next more exit → AfterBody body next (steps ++ more) exit

-- the body of a function, of which `return` is the end
pub data CalledBody {Step : Type 0} (body : Way Step) : List Step → PartExit → Type 0 where
  unfinished : {steps : List Step} → body steps Underway → CalledBody body steps Underway
  through : {steps : List Step} → body steps Through → CalledBody body steps Through
  returns : {steps : List Step} → body steps Returned → CalledBody body steps Through
