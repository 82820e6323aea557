-- The machine is where its words lead it, so nothing is observed but what a source shows.
use Rattle.std.proofs.Common.{◌≡◌, ℕ, ◌+◌, ◌-◌, ◌<◌, ◌≤◌, ⊎_elim, ℤ, Bool, List, ◌++◌, sym, ap, ◌∙◌, subst, append-nil, arith}
use Rattle.std.specs.Prelude.{Option}
use Rattle.std.proofs.lemmas.Bool.{cases_lt}
use Rattle.sat_base.specs.Observation.{Observation, End, Stop, Going, Fault, output_of}
use Rattle.sat_base.specs.declared.machine_fault.MachineFault.{MachineFault}
use Rattle.rv_encode.specs.State.{MachineState, Ending, Ended, Stopped, Faulted, Moment, Running, Over, observation_of, written}
use Rattle.rv_encode.specs.Runs.{moment_after, IsPrefix}
use Rattle.rv_encode.proofs.Runs.{moment_after_add, over_stays}
use Rattle.rv_encode.proofs.Output.{output_grows}
use Rattle.image_format.specs.declared.image.Image.{Image}
use Rattle.image_format.specs.Runs.{loaded, machine_after}
use Rattle.image_format.specs.RunsAlike.{AreSamples, IsOver, IsGoing, RunsAlike}
use Rattle.code_lines.specs.Words.{Code}
use Rattle.code_lines.specs.Leading.{entered, LeadsBy, with_words}
use Rattle.code_lines.proofs.Leading.{leads_reached, entered_both, none_entered}
use Rattle.code_runs.specs.Doing.{Shows}
use Rattle.code_runs.specs.Laws.{code_of, ShowsAll, RunsAreAlike}

module _ (code : Code) where
  -- what is observed lies ahead of a moment, or there
  abbrev Ahead : Moment → Observation → Type 0
  Ahead at (End output overflow count) = (d : ℕ) × (moment_after code.words d at ≡ Over (Ended overflow count) output)
  Ahead at (Stop site output) = (d : ℕ) × (moment_after code.words d at ≡ Over (Stopped site) output)
  Ahead at (Going output) = (d : ℕ) × ((m : MachineState) × (moment_after code.words d at ≡ Running m) × (m.output ≡ output))
  Ahead at (Fault pc kind output) = ⊥

  over_ahead : (start : Moment) (m j : ℕ) (ending : Ending) (output : List ℤ) → moment_after code.words j start ≡ Over ending output
      → (d : ℕ) × (moment_after code.words d (moment_after code.words m start) ≡ Over ending output)
  over_ahead start m j ending output is =
      ⊎_elim
      (λ (before : m < j).
      let whole : m + (j - m) ≡ j = omega arith in
      (j - m, sym (moment_after_add code.words m (j - m) start) ∙ ap (λ k. moment_after code.words k start) whole ∙ is))
      (λ (behind : j ≤ m).
      let whole : j + (m - j) ≡ m = omega arith in
      (0, sym (ap (λ k. moment_after code.words k start) whole) ∙ moment_after_add code.words j (m - j) start ∙ ap (moment_after code.words (m - j)) is ∙ over_stays code.words (m - j) ending output))
      (cases_lt m j)

  ahead_of : (start : Moment) (sites : List ℕ) (m : ℕ) (o : Observation) → Shows code m start sites o → Ahead (moment_after code.words m start) o
  ahead_of start sites m (End output overflow count) shown =
      let at = leads_reached code 0 (with_words code sites) start (Over (Ended overflow count) output) shown in over_ahead start m at.0 (Ended overflow count) output at.1
  ahead_of start sites m (Stop site output) shown =
      let at = leads_reached code 0 (with_words code sites) start (Over (Stopped site) output) shown in over_ahead start m at.0 (Stopped site) output at.1
  ahead_of start sites m (Going output) shown =
      let at = shown.1 0 in
      let more = at.1 in
      let whole : m + (at.0 - m) ≡ at.0 = omega arith in
      (at.0 - m, (shown.0, sym (moment_after_add code.words m (at.0 - m) start) ∙ ap (λ k. moment_after code.words k start) whole ∙ at.2, shown.2))
  ahead_of start sites m (Fault pc kind output) shown = shown

  -- where the run is over, that is what is observed
  over_is : (ending : Ending) (output : List ℤ) (o : Observation) → Ahead (Over ending output) o → o ≡ observation_of (Over ending output)
  over_is ending output (End last overflow count) ahead = sym (ap observation_of (sym (over_stays code.words ahead.0 ending output) ∙ ahead.1))
  over_is ending output (Stop site last) ahead = sym (ap observation_of (sym (over_stays code.words ahead.0 ending output) ∙ ahead.1))
  over_is ending output (Going last) ahead = let e = sym (over_stays code.words ahead.0 ending output) ∙ ahead.1.1 in cc
  over_is ending output (Fault pc kind last) ahead = absurd ahead

  is_over : (at : Moment) (o : Observation) → Ahead at o → IsOver (observation_of at) → o ≡ observation_of at
  is_over (Running s) o ahead over = absurd over
  is_over (Over ending output) o ahead over = over_is ending output o ahead

  is_going : (at : Moment) (output : List ℤ) → Ahead at (Going output) → IsGoing (observation_of at)
  is_going (Running s) output ahead = tt
  is_going (Over ending last) output ahead = let e = sym (over_stays code.words ahead.0 ending last) ∙ ahead.1.1 in cc

  is_front : (s : MachineState) (o : Observation) → Ahead (Running s) o → IsPrefix s.output (output_of o)
  is_front s (End output overflow count) ahead = subst (IsPrefix s.output) (ap written ahead.1) (output_grows code.words ahead.0 (Running s))
  is_front s (Stop site output) ahead = subst (IsPrefix s.output) (ap written ahead.1) (output_grows code.words ahead.0 (Running s))
  is_front s (Going output) ahead = subst (IsPrefix s.output) (ap written ahead.1.1 ∙ ahead.1.2) (output_grows code.words ahead.0 (Running s))
  is_front s (Fault pc kind output) ahead = absurd ahead

  was_written : (at : Moment) (o : Observation) (output : List ℤ) → Ahead at o → observation_of at ≡ Going output → IsPrefix output (output_of o)
  was_written (Running s) o output ahead going = let same : s.output ≡ output = cc in subst (λ l. IsPrefix l (output_of o)) same (is_front s o ahead)
  was_written (Over (Ended overflow count) last) o output ahead going = cc
  was_written (Over (Stopped site) last) o output ahead going = cc
  was_written (Over (Faulted pc kind) last) o output ahead going = cc

  no_fault : (at : Moment) (o : Observation) (pc : ℕ) (kind : MachineFault) (output : List ℤ) → Ahead at o → observation_of at ≡ Fault pc kind output → ⊥
  no_fault (Running s) o pc kind output ahead fault = cc
  no_fault (Over ending last) o pc kind output ahead fault = subst (Ahead (Over ending last)) (over_is ending last o ahead ∙ fault) ahead

  comes : (start : Moment) (sites : List ℕ) (n : ℕ) (o : Observation) → Shows code n start sites o → IsOver o → (m : ℕ) × (observation_of (moment_after code.words m start) ≡ o)
  comes start sites n (End output overflow count) shown over =
      let at = leads_reached code 0 (with_words code sites) start (Over (Ended overflow count) output) shown in (at.0, ap observation_of at.1)
  comes start sites n (Stop site output) shown over =
      let at = leads_reached code 0 (with_words code sites) start (Over (Stopped site) output) shown in (at.0, ap observation_of at.1)
  comes start sites n (Going output) shown over = absurd over
  comes start sites n (Fault pc kind output) shown over = absurd over

  comes_later : (start : Moment) (sites : List ℕ) (n : ℕ) (output : List ℤ) → Shows code n start sites (Going output) → (m : ℕ) × (n ≤ m) × (observation_of (moment_after code.words m start) ≡ Going output)
  comes_later start sites n output shown =
      let at = shown.1 0 in
      let more = at.1 in
      let all : n ≤ at.0 = omega arith in
      (at.0, all, ap observation_of at.2 ∙ ap Going shown.2)

  -- ---- the sites that are entered

  -- no more are entered once a run is over
  pub all_entered : (start : Moment) (m j : ℕ) (ending : Ending) (output : List ℤ) → m ≤ j → moment_after code.words m start ≡ Over ending output → entered code j start ≡ entered code m start
  all_entered start m j ending output less is =
      let whole : m + (j - m) ≡ j = omega arith in
      sym (ap (λ k. entered code k start) whole) ∙ entered_both code m (j - m) start
      ∙ ap (λ l. entered code m start ++ l) (ap (entered code (j - m)) is ∙ none_entered code (j - m) ending output) ∙ append-nil (entered code m start)

  same_entered : (start : Moment) (m j : ℕ) (ending : Ending) (output : List ℤ) → moment_after code.words m start ≡ Over ending output → moment_after code.words j start ≡ Over ending output → entered code m start ≡ entered code j start
  same_entered start m j ending output is is2 =
      ⊎_elim (λ (less : m < j). sym (all_entered start m j ending output (omega arith) is)) (λ (more : j ≤ m). all_entered start j m ending output more is2) (cases_lt m j)

  entered_by : (start : Moment) (sites : List ℕ) (m : ℕ) (ending : Ending) (output : List ℤ) → LeadsBy code 0 (with_words code sites) start (Over ending output) → moment_after code.words m start ≡ Over ending output
      → entered code m start ≡ with_words code sites
  entered_by start sites m ending output leads is = let at = leads 0 in same_entered start m at.0 ending output is at.2 ∙ at.3 ∙ append-nil (with_words code sites)

  -- what is observed tells how a run is over
  over_at : (at : Moment) (ending : Ending) (output : List ℤ) → observation_of at ≡ observation_of (Over ending output) → at ≡ Over ending output
  over_at (Running s) (Ended overflow count) output is = cc
  over_at (Running s) (Stopped site) output is = cc
  over_at (Running s) (Faulted pc kind) output is = cc
  over_at (Over (Ended o c) last) (Ended overflow count) output is = cc
  over_at (Over (Ended o c) last) (Stopped site) output is = cc
  over_at (Over (Ended o c) last) (Faulted pc kind) output is = cc
  over_at (Over (Stopped s) last) (Ended overflow count) output is = cc
  over_at (Over (Stopped s) last) (Stopped site) output is = cc
  over_at (Over (Stopped s) last) (Faulted pc kind) output is = cc
  over_at (Over (Faulted p k) last) (Ended overflow count) output is = cc
  over_at (Over (Faulted p k) last) (Stopped site) output is = cc
  over_at (Over (Faulted p k) last) (Faulted pc kind) output is = cc

  enters : (start : Moment) (sites : List ℕ) (n m : ℕ) (o : Observation) → Shows code n start sites o → IsOver o → observation_of (moment_after code.words m start) ≡ o → entered code m start ≡ with_words code sites
  enters start sites n m (End output overflow count) shown over is =
      entered_by start sites m (Ended overflow count) output shown (over_at (moment_after code.words m start) (Ended overflow count) output is)
  enters start sites n m (Stop site output) shown over is = entered_by start sites m (Stopped site) output shown (over_at (moment_after code.words m start) (Stopped site) output is)
  enters start sites n m (Going output) shown over is = absurd over
  enters start sites n m (Fault pc kind output) shown over is = absurd over

module _ (source : List ℤ → ℕ → Observation) (trace : List ℤ → ℕ → List ℕ) (image : Image) (begins : ℕ → Option ℕ) (is_wordless : ℕ → Bool) (shown : ShowsAll source trace image begins is_wordless) where
  abbrev code : Code
  code = code_of image begins is_wordless

  abbrev start : List ℤ → Moment
  start input = Running (loaded image input)

  ahead : (input : List ℤ) (m : ℕ) → AreSamples input → Ahead code (machine_after image input m) (source input m)
  ahead input m samples = ahead_of code (start input) (trace input m) m (source input m) (shown input m samples)

  alike : RunsAlike source image
  alike = record {
    ends = λ input n samples over. comes code (start input) (trace input n) n (source input n) (shown input n samples) over;
    goes_on = λ input n output samples going.
        let shows = subst (Shows code n (start input) (trace input n)) going (shown input n samples) in
        (is_going code (machine_after image input n) output (ahead_of code (start input) (trace input n) n (Going output) shows), comes_later code (start input) (trace input n) n output shows);
    ends_only = λ input m samples over. is_over code (machine_after image input m) (source input m) (ahead input m samples) over;
    goes_on_only = λ input m output samples going. was_written code (machine_after image input m) (source input m) output (ahead input m samples) going;
    never_faults = λ input m pc kind output samples fault. no_fault code (machine_after image input m) (source input m) pc kind output (ahead input m samples) fault;
  }

pub are_alike : RunsAreAlike
are_alike source trace image begins is_wordless shown = (
  alike source trace image begins is_wordless shown,
  λ input n m samples over is.
      enters (code_of image begins is_wordless) (Running (loaded image input)) (trace input n) n m (source input n) (shown input n samples) over is,
)
