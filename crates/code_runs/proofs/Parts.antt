-- Parts one after the other, one of two, and turns.
use Rattle.std.proofs.Common.{ℕ, zero, suc, ◌+◌, ◌≤◌, ℤ, List, Bool, true, false, if◌then◌else◌, arith}
use Rattle.source_runs.specs.declared.halt.Flow.{Flow}
use Rattle.source_runs.specs.declared.halt.Flow.TheVariants.{Normal, Break, Continue, Return}
use Rattle.source_runs.specs.State.{SourceState}
use Rattle.source_runs.specs.Runs.{Run, Outcome, Gives, Stops, Goes, gives, continued, chosen, holds, choosing, ◌>>=◌, ◌>>◌}
use Rattle.source_runs.specs.Loops.{after_body, going_on, turns_of}
use Rattle.rv_encode.specs.State.{MachineState, Moment, Running, Over, Stopped}
use Rattle.code_lines.specs.Words.{Code}
use Rattle.code_runs.specs.Doing.{Passes, Bond, Comes, Does, DoesIn, Moves, IsWritten, exits, side, one_of_two, one_where_it_holds}
use Rattle.code_runs.proofs.Steps.{passes_none, passes_still, passes_both, passes_least}

-- what comes after some instructions comes after these and its own
pub later : (code : Code) {A : Type 0} (n k all : ℕ) (before between : List ℕ) (from : Moment) (m : MachineState) (least more : A → ℕ) (after : A → Bond) (o : Outcome A)
    → all ≤ n + k → ((a : A) → more a ≤ n + least a) → Passes code n before between from (Running m) → Comes code k (Running m) between least after o → Comes code all from before more after o
later code n k all before between from m least more after (Gives a s) most enough passes comes = (
  comes.0,
  passes_least code (n + least a) (more a) before s.sites from (Running comes.0) (enough a) (passes_both code n (least a) before between s.sites from (Running m) (Running comes.0) passes comes.1),
  comes.2,
)
later code n k all before between from m least more after (Stops site s) most enough passes comes =
    passes_least code (n + 0) 0 before s.sites from (Over (Stopped site) s.kept.output) (omega arith)
    (passes_both code n 0 before between s.sites from (Running m) (Over (Stopped site) s.kept.output) passes comes)
later code n k all before between from m least more after (Goes s) most enough passes comes = (
  comes.0,
  passes_least code (n + k) all before s.sites from (Running comes.0) most (passes_both code n k before between s.sites from (Running m) (Running comes.0) passes comes.1),
  comes.2,
)

-- fewer turns ask for less
pub fewer : (code : Code) {A : Type 0} (turns k : ℕ) → k ≤ turns → (least : A → ℕ) (before : Bond) (run : Run A) (after : A → Bond)
    → DoesIn code turns least before run after → DoesIn code k least before run after
fewer code turns k less least before run after does s m holds_before =
    later code 0 turns k s.sites s.sites (Running m) m least least after (run s) (omega arith) (λ a. omega arith) (passes_still code s.sites (Running m)) (does s m holds_before)

module _ (code : Code) (turns : ℕ) where
  bound : {A B : Type 0} (from : Moment) (sites : List ℕ) (between : A → Bond) (next : A → Run B) (after : B → Bond) (o : Outcome A)
      → Comes code turns from sites (λ a. 0) between o → ((a : A) → Does code turns (between a) (next a) after) → Comes code turns from sites (λ b. 0) after (continued o next)
  bound from sites between next after (Gives a s) comes does =
      later code 0 turns turns sites s.sites from comes.0 (λ b. 0) (λ b. 0) after (next a s) (omega arith) (λ b. omega arith) comes.1 (does a s comes.0 comes.2)
  bound from sites between next after (Stops site s) comes does = comes
  bound from sites between next after (Goes s) comes does = comes

  pub in_turn : {A B : Type 0} (before : Bond) (first : Run A) (between : A → Bond) (next : A → Run B) (after : B → Bond)
      → Does code turns before first between → ((a : A) → Does code turns (between a) (next a) after) → Does code turns before (first >>= next) after
  unfolding ◌>>=◌
  in_turn before first between next after does does_next s m has = bound (Running m) s.sites between next after (first s) (does s m has) does_next

  pub nothing : {A : Type 0} (a : A) (before : Bond) (after : A → Bond) → Moves code before (after a) → Does code turns before (gives a) after
  nothing a before after moves s m has = let to = moves s m has in (to.0, passes_none code 0 s.sites (Running m) (Running to.0) to.1, to.2)

  pub moved : {A : Type 0} (before start : Bond) (run : Run A) (after : A → Bond) → Moves code before start → Does code turns start run after → Does code turns before run after
  moved before start run after moves does s m has =
      let to = moves s m has in
      later code 0 turns turns s.sites s.sites (Running m) to.0 (λ a. 0) (λ a. 0) after (run s) (omega arith) (λ a. omega arith) (passes_none code 0 s.sites (Running m) (Running to.0) to.1) (does s to.0 to.2)

  end_moved : {A : Type 0} (from : Moment) (sites : List ℕ) (end after : A → Bond) (o : Outcome A) → Comes code turns from sites (λ a. 0) end o → ((a : A) → Moves code (end a) (after a))
      → Comes code turns from sites (λ a. 0) after o
  end_moved from sites end after (Gives a s) comes moves =
      let to = moves a s comes.0 comes.2 in
      let both = passes_both code 0 0 sites s.sites s.sites from (Running comes.0) (Running to.0) comes.1 (passes_none code 0 s.sites (Running comes.0) (Running to.0) to.1) in
      (to.0, passes_least code (0 + 0) 0 sites s.sites from (Running to.0) (omega arith) both, to.2)
  end_moved from sites end after (Stops site s) comes moves = comes
  end_moved from sites end after (Goes s) comes moves = comes

  pub moves_on : {A : Type 0} (before : Bond) (run : Run A) (end after : A → Bond) → Does code turns before run end → ((a : A) → Moves code (end a) (after a)) → Does code turns before run after
  moves_on before run end after does moves s m has = end_moved (Running m) s.sites end after (run s) (does s m has) moves

  one_does : {A : Type 0} (b : Bool) (on_true on_false : Bond) (this other : Run A) (after : A → Bond) → Does code turns on_true this after → Does code turns on_false other after
      → Does code turns (side on_true on_false b) (chosen b this other) after
  one_does true on_true on_false this other after does does_other s m has = does s m has
  one_does false on_true on_false this other after does does_other s m has = does_other s m has

  pub one_of : {A : Type 0} (before : Bond) (condition : Run ℤ) (on_true on_false : Bond) (this other : Run A) (after : A → Bond)
      → Does code turns before condition (one_of_two on_true on_false) → Does code turns on_true this after → Does code turns on_false other after
      → Does code turns before (choosing condition this other) after
  unfolding choosing
  one_of before condition on_true on_false this other after does does_this does_other =
      in_turn before condition (one_of_two on_true on_false) (λ value. chosen (holds value) this other) after does
      (λ value. one_does (holds value) on_true on_false this other after does_this does_other)

-- ---- turns

module _ (code : Code) (turns : ℕ) (begin next test left : Bond) (returned : ℤ → Bond) (condition : Run ℤ) (last : Run (Unit {0})) (body : Run Flow) (broken again : Bond) where
  -- the turns of a loop are never left by `break` or `continue`, so anything may hold there
  abbrev out : Flow → Bond
  out = exits left again broken returned

  turned : (k : ℕ) (b : Bool) (from : Moment) (sites : List ℕ) (s : SourceState) (m : MachineState) → Passes code (if b then 1 else 0) sites s.sites from (Running m) → side begin left b s m
      → Does code k begin (turns_of k condition last body) out → Comes code (suc k) from sites (λ f. 0) out (chosen b (turns_of k condition last body) (gives Normal) s)
  turned k true from sites s m passes has does =
      later code 1 k (suc k) sites s.sites from m (λ f. 0) (λ f. 0) out (turns_of k condition last body s) (omega arith) (λ f. omega arith) passes (does s m has)
  turned k false from sites s m passes has does = (m, passes, has)

  tested : (k : ℕ) (from : Moment) (sites : List ℕ) (o : Outcome ℤ) → Comes code (suc k) from sites one_where_it_holds (one_of_two begin left) o → Does code k begin (turns_of k condition last body) out
      → Comes code (suc k) from sites (λ f. 0) out (continued o (λ value. chosen (holds value) (turns_of k condition last body) (gives Normal)))
  tested k from sites (Gives value s) comes does = turned k (holds value) from sites s comes.0 comes.1 comes.2 does
  tested k from sites (Stops site s) comes does = comes
  tested k from sites (Goes s) comes does = comes

  module _ (written : IsWritten begin) (does_body : Does code turns begin body (exits next next left returned)) (does_last : Does code turns next last (λ done. test))
      (does_condition : DoesIn code turns one_where_it_holds test condition (one_of_two begin left)) where
    rest : (k : ℕ) → suc k ≤ turns → Does code k begin (turns_of k condition last body) out
        → Does code (suc k) next (last >> choosing condition (turns_of k condition last body) (gives Normal)) out
    unfolding choosing ◌>>◌ ◌>>=◌
    rest k less does =
        in_turn code (suc k) next last (λ done. test) (λ done. choosing condition (turns_of k condition last body) (gives Normal)) out
        (fewer code turns (suc k) less (λ a. 0) next last (λ done. test) does_last)
        (λ done s m has. tested k (Running m) s.sites (condition s) (fewer code turns (suc k) less one_where_it_holds test condition (one_of_two begin left) does_condition s m has) does)

    after : (k : ℕ) (more : Run Flow) (flow : Flow) → Does code (suc k) next more out → Does code (suc k) (exits next next left returned flow) (after_body more flow) out
    after k more Normal does s m has = does s m has
    after k more Break does s m has = (m, passes_still code s.sites (Running m), has)
    after k more Continue does s m has = does s m has
    after k more (Return value) does s m has = (m, passes_still code s.sites (Running m), has)

    -- from the beginning of the body, so many turns
    pub turns_are : (k : ℕ) → k ≤ turns → Does code k begin (turns_of k condition last body) out
    unfolding turns_of going_on ◌>>=◌
    turns_are zero less s m has = (m, passes_still code s.sites (Running m), written s m has)
    turns_are (suc k) less s m has =
        let more = last >> choosing condition (turns_of k condition last body) (gives Normal) in
        in_turn code (suc k) begin body (exits next next left returned) (after_body more) out
        (fewer code turns (suc k) less (λ a. 0) begin body (exits next next left returned) does_body)
        (λ flow. after k more flow (rest k less (turns_are k (omega arith)))) s m has
