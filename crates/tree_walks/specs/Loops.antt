-- How a loop is gone through, at any number of turns. Its condition may go either way, also where it is missing.
use Rattle.std.specs.Prelude.{ℕ, zero, suc, Bool, true, false}
use Rattle.tree_walks.specs.Ways.{Way, nothing, never, Then, either, AfterBody}
use Rattle.tree_walks.specs.Points.{Ways, points_of_both, points_onward}

module _ {Step : Type 0} where
  -- what follows a turn of a loop that has some more of them at most: its last part, the condition, and then another
  -- turn or the end
  abbrev mutual
    pub turn_ways : ℕ → Way Step → Way Step → Way Step → Way Step
    turn_ways zero cond last body = never
    turn_ways (suc more) cond last body = AfterBody body (Then last (Then cond (either nothing (turn_ways more cond last body))))

  -- from the test on
  abbrev pub tested : ℕ → Way Step → Way Step → Way Step → Way Step
  tested more cond last body = Then cond (either nothing (turn_ways more cond last body))

  abbrev pub from_start : Bool → ℕ → Way Step → Way Step → Way Step → Way Step
  from_start true more cond last body = tested more cond last body
  from_start false more cond last body = turn_ways more cond last body

  -- at some number of turns
  abbrev pub sometime : (ℕ → Way Step) → Way Step
  sometime at_most steps exit = (more : ℕ) × at_most more steps exit

  module _ {Mark : Type 0} where
    abbrev pub loop_ways : Bool → Ways Step Mark → Ways Step Mark → Ways Step Mark → Ways Step Mark
    loop_ways tests_first cond last body =
        let turns = λ (more : ℕ). turn_ways more cond.whole last.whole body.whole in
        let tests = λ (more : ℕ). tested more cond.whole last.whole body.whole in
        record {
          whole = sometime (λ more. from_start tests_first more cond.whole last.whole body.whole);
          points =
              points_of_both (points_onward (λ way. sometime (λ more. Then way (either nothing (turns more)))) cond.points)
              (points_of_both (points_onward (λ way. sometime (λ more. AfterBody way (Then last.whole (tests more)))) body.points)
              (points_onward (λ way. sometime (λ more. Then way (tests more))) last.points));
        }
