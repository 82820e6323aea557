-- How a machine's run goes from moment to moment.
use Rattle.std.proofs.Common.{◌≡◌, ℕ, ◌+◌, ◌-◌, ◌<◌, ◌≤◌, ℤ, List, [], ◌++◌, refl, sym, ap, ◌∙◌, ⊎_elim, arith, append-nil, Option, None}
use Rattle.std.proofs.lemmas.Bool.{cases_lt}
use Rattle.rv_encode.specs.State.{Running, Over}
use Rattle.rv_encode.specs.Runs.{moment_after, next_moment, stepped}
use Rattle.rv_encode.proofs.Runs.{moment_after_more}
use Rattle.rv_emulator.specs.declared.state.Hart.{Hart}
use Rattle.rv_emulator.specs.declared.state.Ending.{Ending}
use Rattle.rv_emulator.specs.declared.state.Ending.TheVariants.{Ended, Stopped, Faulted}
use Rattle.rv_emulator.specs.declared.effects.Step.{Step}
use Rattle.rv_emulator.specs.declared.effects.Step.TheVariants.{Goes, Writes, Ends}
use Rattle.rv_emulator.specs.declared.pause.Pause.TheVariants.{Budget, Wrote}
use Rattle.rv_emulator.specs.Endings.{ending_of, pause_of}
use Rattle.rv_emulator.specs.Pauses.{Emulation, IsRun, IsQuiet, PauseFits, samples_of, moment_with}
use Rattle.rv_emulator.specs.Steps.{state_of, moment_of, HasEffect}

-- the machine ran on over these instructions, and wrote nothing
abbrev pub QuietFor : List ℕ → Hart → ℕ → Type 0
QuietFor code start n = (k : ℕ) → k < n → IsQuiet (moment_after code k (Running (state_of start [])))

-- from one state to another, with so many instructions left of those allowed, and nothing written
pub record Ran (code : List ℕ) (start : Hart) (before left : ℕ) (hart : Hart) : Type 0 where
  pub no_more : left ≤ before
  pub leads : (output : List ℤ) → moment_after code (before - left) (Running (state_of start output)) ≡ Running (state_of hart output)
  pub quiet : QuietFor code start (before - left)

pub ran_nothing : (code : List ℕ) (start : Hart) (before : ℕ) → Ran code start before before start
ran_nothing code start before =
    let none : before - before ≡ 0 = omega arith in
    record {
      no_more = omega arith;
      leads = λ output. ap (λ k. moment_after code k (Running (state_of start output))) none;
      quiet = λ k less. absurd (omega arith);
    }

-- a machine whose run is not over, as its callers see it
pub seen_running : (code : List ℕ) (hart : Hart) (ending : Option Ending) → ending ≡ None
    → ◌≡◌ {A = Emulation} (record { code = code; moment = moment_with hart ending }) (record { code = code; moment = moment_with hart None })
seen_running code hart ending none = ap (λ e. record { code = code; moment = moment_with hart e }) none

-- what it was, by the code that it still has
pub seen_before : (code now : List ℕ) (hart : Hart) (ending : Option Ending) (old : Emulation)
    → ◌≡◌ {A = Emulation} (record { code = code; moment = moment_with hart ending }) old → ending ≡ None → now ≡ code
    → ◌≡◌ {A = Emulation} (record { code = now; moment = moment_with hart None }) old
seen_before code now hart ending old is none same =
    ap (λ k. record { code = k; moment = moment_with hart None }) same ∙ sym (seen_running code hart ending none) ∙ is

module _ (code : List ℕ) (start : Hart) (before left : ℕ) (hart : Hart) (ran : Ran code start before left hart) where
  one_more : 0 < left → before - (left - 1) ≡ before - left + 1
  one_more some = let le = ran.no_more in omega arith

  fewer : left - 1 ≤ before
  fewer = let le = ran.no_more in omega arith

  -- the place before the last instruction is quiet too
  still_quiet : 0 < left → QuietFor code start (before - (left - 1))
  still_quiet some k less =
      let more = one_more some in
      ⊎_elim
      (λ (lt : k < before - left). ran.quiet k lt)
      (λ (le : before - left ≤ k). let same : k ≡ before - left = omega arith in (state_of hart [], ap (λ j. moment_after code j (Running (state_of start []))) same ∙ ran.leads [], refl))
      (cases_lt k (before - left))

  -- one instruction on
  module _ (step : Step) (new : Hart) (some : 0 < left) (effect : HasEffect step hart new (stepped code)) where
    leads_on : (output : List ℤ) → moment_after code (before - (left - 1)) (Running (state_of start output)) ≡ moment_of step new output
    leads_on output =
        ap (λ k. moment_after code k (Running (state_of start output))) (one_more some)
        ∙ moment_after_more code (before - left) (Running (state_of start output)) ∙ ap (next_moment code) (ran.leads output) ∙ sym (effect output)

  pub ran_goes : (new : Hart) → 0 < left → HasEffect Goes hart new (stepped code) → Ran code start before (left - 1) new
  ran_goes new some effect = record { no_more = fewer; leads = leads_on Goes new some effect; quiet = still_quiet some }

  pub run_writes : (new : Hart) (sample : ℤ) → 0 < left → HasEffect (Writes sample) hart new (stepped code)
      → IsRun (record { code = code; moment = moment_with start None }) (record { code = code; moment = moment_with new None }) before (left - 1) (Wrote sample)
  run_writes new sample some effect = record {
    same_code = refl;
    no_more = fewer;
    leads = leads_on (Writes sample) new some effect;
    quiet = still_quiet some;
    fits = tt;
  }

  pub run_ends : (new : Hart) (ending : Ending) → 0 < left → HasEffect (Ends ending) hart new (stepped code)
      → IsRun (record { code = code; moment = moment_with start None }) (record { code = code; moment = Over (ending_of ending) [] }) before (left - 1) (pause_of ending)
  run_ends new ending some effect = record {
    same_code = refl;
    no_more = fewer;
    leads = λ output. leads_on (Ends ending) new some effect output ∙ ap (Over (ending_of ending)) (untold ending output);
    quiet = still_quiet some;
    fits = told ending;
  }
    where
      untold : (ending : Ending) (output : List ℤ) → output ≡ output ++ samples_of (pause_of ending)
      untold (Ended overflow count) output = sym (append-nil output)
      untold (Stopped site) output = sym (append-nil output)
      untold (Faulted pc kind) output = sym (append-nil output)

      told : (ending : Ending) → PauseFits (pause_of ending) (Over (ending_of ending) []) (left - 1)
      told (Ended overflow count) = refl
      told (Stopped site) = refl
      told (Faulted pc kind) = refl

  pub run_budget : left ≡ 0 → IsRun (record { code = code; moment = moment_with start None }) (record { code = code; moment = moment_with hart None }) before left Budget
  run_budget none = record {
    same_code = refl;
    no_more = ran.no_more;
    leads = λ output. ran.leads output ∙ ap (λ o. Running (state_of hart o)) (sym (append-nil output));
    quiet = ran.quiet;
    fits = (tt, none);
  }
