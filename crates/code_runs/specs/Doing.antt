-- That code does what a run does, at a number of turns.
use Rattle.std.specs.Prelude.{◌≡◌, ℕ, ℤ, List, ◌++◌, Bool, true, false, if◌then◌else◌}
use Rattle.sat_base.specs.Observation.{Observation, End, Stop, Going, Fault}
use Rattle.source_runs.specs.State.{SourceState}
use Rattle.source_runs.specs.declared.halt.Flow.{Flow}
use Rattle.source_runs.specs.declared.halt.Flow.TheVariants.{Normal, Break, Continue, Return}
use Rattle.source_runs.specs.Runs.{Run, Outcome, Gives, Stops, Goes, holds}
use Rattle.rv_encode.specs.State.{MachineState, Moment, Running, Over, Ended, Stopped}
use Rattle.code_lines.specs.Words.{Code}
use Rattle.code_lines.specs.Leading.{Leads, LeadsBy, with_words}

-- From the one moment the machine comes to the other in at least so many instructions, and enters the sites that were
-- evaluated between, but for those without words.
abbrev pub Passes : Code → (least : ℕ) → (before after : List ℕ) → Moment → Moment → Type 0
Passes code least before after from to = (sites : List ℕ) × LeadsBy code least sites from to × (with_words code after ≡ with_words code before ++ sites)

-- what holds of source and machine at a place of the code
abbrev pub Bond : Type 1
Bond = SourceState → MachineState → Type 0

-- ---- places of the code

-- where the flow of a statement leads
abbrev pub exits : (next again left : Bond) → (returned : ℤ → Bond) → Flow → Bond
exits next again left returned Normal = next
exits next again left returned Break = left
exits next again left returned Continue = again
exits next again left returned (Return value) = returned value

-- one of two places by a condition
abbrev pub side : (on_true on_false : Bond) → Bool → Bond
side on_true on_false true = on_true
side on_true on_false false = on_false

abbrev pub one_of_two : (on_true on_false : Bond) → ℤ → Bond
one_of_two on_true on_false value = side on_true on_false (holds value)

-- a turn that follows takes an instruction
abbrev pub one_where_it_holds : ℤ → ℕ
one_where_it_holds value = if holds value then 1 else 0

-- the machine has written what the source has
abbrev pub IsWritten : Bond → Type 0
IsWritten bond = (s : SourceState) (m : MachineState) → bond s m → m.output ≡ s.kept.output

-- from where the one holds the machine comes to where the other holds, without a step of the source or a site
abbrev pub Moves : Code → Bond → Bond → Type 0
Moves code before after = (s : SourceState) (m : MachineState) → before s m → (n : MachineState) × Leads code (Running m) (Running n) × after s n

module _ (code : Code) (turns : ℕ) where
  -- The machine comes from a moment, where these sites were evaluated, to what a run comes to. Where it gives something,
  -- what holds after that holds, in so many instructions at least; where it stops at a site, the machine stops there with
  -- the output; and where it goes on at the number of turns, the machine has taken as many instructions, and has written
  -- the output. On the way it enters the sites that are evaluated.
  abbrev pub Comes : {A : Type 0} → Moment → (sites : List ℕ) → (least : A → ℕ) → (after : A → Bond) → Outcome A → Type 0
  Comes from sites least after (Gives a s) = (m : MachineState) × Passes code (least a) sites s.sites from (Running m) × after a s m
  Comes from sites least after (Stops site s) = Passes code 0 sites s.sites from (Over (Stopped site) s.kept.output)
  Comes from sites least after (Goes s) = (m : MachineState) × Passes code turns sites s.sites from (Running m) × (m.output ≡ s.kept.output)

  -- from where one thing holds the machine does what the run does, and comes to where another holds
  abbrev pub DoesIn : {A : Type 0} → (least : A → ℕ) → Bond → Run A → (A → Bond) → Type 0
  DoesIn least before run after = (s : SourceState) (m : MachineState) → before s m → Comes (Running m) s.sites least after (run s)

  abbrev pub Does : {A : Type 0} → Bond → Run A → (A → Bond) → Type 0
  Does before run after = DoesIn (λ a. 0) before run after

  -- from a moment the machine comes to what is observed, and enters these sites, but for those without words
  abbrev pub Shows : Moment → (sites : List ℕ) → Observation → Type 0
  Shows from sites (End output overflow count) = LeadsBy code 0 (with_words code sites) from (Over (Ended overflow count) output)
  Shows from sites (Stop site output) = LeadsBy code 0 (with_words code sites) from (Over (Stopped site) output)
  Shows from sites (Going output) = (m : MachineState) × LeadsBy code turns (with_words code sites) from (Running m) × (m.output ≡ output)
  Shows from sites (Fault pc kind output) = ⊥
