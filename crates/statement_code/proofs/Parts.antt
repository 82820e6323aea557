-- Parts one after the other, with the count brought up where paths meet.
use Rattle.std.proofs.Common.{◌≡◌, ℕ, ◌+◌, ◌^◌, ◌<◌, ◌≤◌, ℤ, pos, ◌+ℤ◌, Bool, List, [], ◌∷◌, ◌++◌, length, length-append, refl, sym, subst, arith}
use Rattle.std.proofs.lemmas.Int.{ints}
use Rattle.operator_meaning.specs.declared.object.Object.{Object}
use Rattle.source_runs.specs.declared.halt.Flow.{Flow}
use Rattle.source_runs.specs.declared.halt.Flow.TheVariants.{Normal, Break, Continue, Return}
use Rattle.source_runs.specs.Loops.{in_sequence, after_statement}
use Rattle.source_runs.specs.Runs.{Run, all_of, ◌>>◌}
use Rattle.source_runs.specs.State.{SourceState}
use Rattle.source_runs.proofs.Turning.{all_of-end, all_of-next, in_sequence-next}
use Rattle.typed_meaning.specs.Expressions.{Setting}
use Rattle.code_lines.specs.declared.word.Word.{Word}
use Rattle.code_lines.specs.Words.{StandHere, Code}
use Rattle.rv_encode.specs.State.{MachineState, Running}
use Rattle.code_lines.proofs.Leading.{leads_nowhere}
use Rattle.code_lines.specs.Pieces.{flush_code}
use Rattle.code_jumps.specs.Jumps.{past_code}
use Rattle.code_jumps.proofs.Jumps.{past_steady}
use Rattle.code_runs.specs.Doing.{Bond, Does, Moves}
use Rattle.code_lines.specs.Leading.{LeadsLater}
use Rattle.code_runs.proofs.Parts.{in_turn, nothing, moves_on}
use Rattle.code_stacks.specs.Places.{Layout, IsLaidOut}
use Rattle.code_stacks.specs.Agreement.{IsWith, With}
use Rattle.code_stacks.proofs.Operands.{first_stands, second_stands}
use Rattle.expression_code.proofs.Deciding.{flush_moves as weight_moves, leaves as jump_leaves}
use Rattle.statement_code.specs.Laws.{AreReached, Led, Targets, result_of}
use Rattle.statement_code.specs.declared.exits.Exits.{Exits}
use Rattle.statement_code.specs.Code.{before, Part, codes_along, lags_along, whole_code, left_code}
use Rattle.code_runs.proofs.Steps.{passes_still}

-- a jump has the same length at each distance
pub left_steady : (objects : List Object) (l : Layout) (near : Bool) (lag : ℕ) (d d2 : ℤ) → length (left_code objects l near lag d) ≡ length (left_code objects l near lag d2)
left_steady objects l near lag d d2 = omega (arith, past_steady near d d2, length-append (flush_code lag) (past_code near d), length-append (flush_code lag) (past_code near d2))

-- ---- where parts lead

-- from a place so many words before
pub reached_before : (place words later : ℕ) (ways : Exits) (targets : Targets) → place + words ≡ later → AreReached later ways targets → AreReached place (before words ways) targets
reached_before place words later ways targets whole reached =
    let a = reached.again in
    let b = reached.left in
    let c = reached.returned in
    record {
      again = omega (arith, ints, a, whole);
      left = omega (arith, ints, b, whole);
      returned = omega (arith, ints, c, whole);
      again_near = reached.again_near;
      left_near = reached.left_near;
      returned_near = reached.returned_near;
    }

module _ (code : Code) (turns : ℕ) (l : Layout) (laid : IsLaidOut code l) (here : Setting) (near has_result : Bool) where
  abbrev pub At : (k lag : ℕ) → Bond
  At k lag = With here.objects l k lag []

  abbrev pub Flows : Targets → (end late : ℕ) → Flow → Bond
  Flows = Led here.objects l has_result

  -- a part does what a run does; and it weighs so much at most
  pub record IsDone (part : Part) (run : Run Flow) (weight : ℕ) : Type 0 where
    pub does : (k lag : ℕ) (ways : Exits) (targets : Targets) → lag + weight < 2 ^ 31 → StandHere code k (part.code lag ways) → AreReached (k + length (part.code lag ways)) ways targets
        → Does code turns (At k lag) run (Flows targets (k + length (part.code lag ways)) (part.after lag))
    pub bounded : (lag : ℕ) → part.after lag ≤ lag + weight
    pub steady : (lag : ℕ) (ways other : Exits) → length (part.code lag ways) ≡ length (part.code lag other)

  -- a greater weight may be said
  pub heavier : (part : Part) (run : Run Flow) (weight most : ℕ) → weight ≤ most → IsDone part run weight → IsDone part run most
  heavier part run weight most least done = record {
    does = λ k lag ways targets small. done.does k lag ways targets (omega (arith, small, least));
    bounded = λ lag. omega (arith, done.bounded lag, least);
    steady = done.steady;
  }

  -- ---- the count, and jumps

  pub flush_moves : (k lag : ℕ) → lag < 2 ^ 31 → StandHere code k (flush_code lag) → Moves code (At k lag) (At (k + length (flush_code lag)) 0)
  flush_moves k lag small stands = weight_moves code here.objects l laid k lag 0 lag [] (omega arith) small stands

  -- a jump with the count brought up, which takes some of the stack
  pub leaves : (k lag : ℕ) (values args : List ℤ) (distance : ℤ) (target : ℕ) (s : SourceState) (m : MachineState) → lag < 2 ^ 31 → StandHere code k (left_code here.objects l near lag distance)
      → pos target ≡ pos (k + length (left_code here.objects l near lag distance)) +ℤ distance → target ≤ 16777216 → IsWith here.objects l k lag (values ++ args) s m
      → (v : MachineState) × LeadsLater code 1 (Running m) (Running v) × With here.objects l target 0 values s v
  leaves k lag values args distance target s m = jump_leaves code here.objects l laid k lag 0 lag values args near distance target s m (omega arith)

  -- ---- what is not changed

  pub stay : (bond : Bond) → Moves code bond bond
  stay bond s m has = (m, leads_nowhere code (Running m), has)

  -- where a part ends elsewhere
  pub flows_on : (targets : Targets) (from to lag late : ℕ) → Moves code (At from lag) (At to late) → (flow : Flow) → Moves code (Flows targets from lag flow) (Flows targets to late flow)
  flows_on targets from to lag late moves Normal = moves
  flows_on targets from to lag late moves Break = stay (At targets.left 0)
  flows_on targets from to lag late moves Continue = stay (At targets.again 0)
  flows_on targets from to lag late moves (Return value) = stay (With here.objects l targets.returned 0 (result_of has_result value))

  pub whole_done : (part : Part) (run : Run Flow) (weight k : ℕ) (ways : Exits) (targets : Targets) → IsDone part run weight → weight < 2 ^ 31 → StandHere code k (whole_code part ways) → AreReached (k + length (whole_code part ways)) ways targets
      → Does code turns (At k 0) run (Flows targets (k + length (whole_code part ways)) 0)
  whole_done part run weight k ways targets done small stands reached =
      let flushing = flush_code (part.after 0) in
      let own = before (length flushing) ways in
      let xs = part.code 0 own in
      let bound = done.bounded 0 in
      let whole : k + length xs + length flushing ≡ k + length (xs ++ flushing) = omega (arith, length-append xs flushing) in
      subst (λ e. Does code turns (At k 0) run (Flows targets e 0)) whole
      (moves_on code turns (At k 0) run (Flows targets (k + length xs) (part.after 0)) (Flows targets (k + length xs + length flushing) 0)
      (done.does k 0 own targets (omega arith) (first_stands code k xs flushing stands) (reached_before (k + length xs) (length flushing) (k + length (xs ++ flushing)) ways targets whole reached))
      (flows_on targets (k + length xs) (k + length xs + length flushing) (part.after 0) 0 (flush_moves (k + length xs) (part.after 0) (omega arith) (second_stands code k xs flushing stands))))

  pub whole_steady : (part : Part) (run : Run Flow) (weight : ℕ) → IsDone part run weight → (ways other : Exits) → length (whole_code part ways) ≡ length (whole_code part other)
  whole_steady part run weight done ways other =
      let flushing = flush_code (part.after 0) in
      let one = length-append (part.code 0 (before (length flushing) ways)) flushing in
      let two = length-append (part.code 0 (before (length flushing) other)) flushing in
      let same = done.steady 0 (before (length flushing) ways) (before (length flushing) other) in
      omega (arith, one, two, same)

  -- ---- several parts

  abbrev pub together : List Part → Part
  together parts = record { code = codes_along parts; after = lags_along parts }

  pub no_parts : IsDone (together []) (in_sequence []) 0
  unfolding in_sequence
  no_parts = record {
    does = λ k lag ways targets small stands reached s m at.
        let none : k ≡ k + 0 = omega arith in
        (m, passes_still code s.sites (Running m), subst (λ n. At n lag s m) none at);
    bounded = λ lag. omega arith;
    steady = λ lag ways other. refl;
  }

  after_flow : (targets : Targets) (end late middle lag : ℕ) (rest : Run Flow) → Does code turns (At middle lag) rest (Flows targets end late)
      → (flow : Flow) → Does code turns (Flows targets middle lag flow) (after_statement rest flow) (Flows targets end late)
  after_flow targets end late middle lag rest does Normal s m has = does s m has
  after_flow targets end late middle lag rest does Break s m has = nothing code turns Break (At targets.left 0) (Flows targets end late) (stay (At targets.left 0)) s m has
  after_flow targets end late middle lag rest does Continue s m has = nothing code turns Continue (At targets.again 0) (Flows targets end late) (stay (At targets.again 0)) s m has
  after_flow targets end late middle lag rest does (Return value) s m has = nothing code turns (Return value) (Flows targets end late (Return value)) (Flows targets end late) (stay (Flows targets end late (Return value))) s m has

  pub one_more : (part : Part) (run : Run Flow) (weight : ℕ) (parts : List Part) (runs : List (Run Flow)) (later : ℕ) → IsDone part run weight → IsDone (together parts) (in_sequence runs) later
      → IsDone (together (part ∷ parts)) (in_sequence (run ∷ runs)) (weight + later)
  one_more part run weight parts runs later done rest = record {
    does = λ k lag ways targets small stands reached.
        let middle = part.after lag in
        let bound = done.bounded lag in
        let ys = codes_along parts middle ways in
        let xs = part.code lag (before (length ys) ways) in
        let place = k + length (xs ++ ys) in
        let whole : k + length xs + length ys ≡ place = omega (arith, length-append xs ys) in
        let others : Does code turns (At (k + length xs) middle) (in_sequence runs) (Flows targets place (lags_along parts middle)) =
        subst (λ e. Does code turns (At (k + length xs) middle) (in_sequence runs) (Flows targets e (lags_along parts middle))) whole
        (rest.does (k + length xs) middle ways targets (omega arith) (second_stands code k xs ys stands) (subst (λ e. AreReached e ways targets) (sym whole) reached)) in
        subst (λ r. Does code turns (At k lag) r (Flows targets place (lags_along parts middle))) (sym (in_sequence-next run runs))
        (in_turn code turns (At k lag) run (Flows targets (k + length xs) middle) (after_statement (in_sequence runs)) (Flows targets place (lags_along parts middle))
        (done.does k lag (before (length ys) ways) targets (omega arith) (first_stands code k xs ys stands) (reached_before (k + length xs) (length ys) place ways targets whole reached))
        (after_flow targets place (lags_along parts middle) (k + length xs) middle (in_sequence runs) others));
    bounded = λ lag. omega (arith, done.bounded lag, rest.bounded (part.after lag));
    steady = λ lag ways other.
        let middle = part.after lag in
        let ys = codes_along parts middle ways in
        let zs = codes_along parts middle other in
        omega (arith, length-append (part.code lag (before (length ys) ways)) ys, length-append (part.code lag (before (length zs) other)) zs, done.steady lag (before (length ys) ways) (before (length zs) other), rest.steady middle ways other);
  }

  -- ---- several changes

  abbrev pub Changes : (k lag : ℕ) → Run (Unit {0}) → (end late : ℕ) → Type 0
  Changes k lag run end late = Does code turns (At k lag) run (λ done. At end late)

  pub no_change : (k lag : ℕ) → Changes k lag (all_of []) (k + 0) (lag + 0)
  no_change k lag =
      let none : k ≡ k + 0 = omega arith in
      let light : lag ≡ lag + 0 = omega arith in
      subst (λ run. Changes k lag run (k + 0) (lag + 0)) (sym all_of-end)
      (nothing code turns (tt {0}) (At k lag) (λ done. At (k + 0) (lag + 0)) (λ s m at. (m, leads_nowhere code (Running m), subst (λ n. At (k + 0) n s m) light (subst (λ n. At n lag s m) none at))))

  pub then_does : {A : Type 0} (before : Bond) (first : Run (Unit {0})) (next : Run A) (between : Unit {0} → Bond) (after : A → Bond) → Does code turns before first between → Does code turns (between tt) next after
      → Does code turns before (first >> next) after
  unfolding ◌>>◌
  then_does before first next between after does does_next = in_turn code turns before first between (λ done. next) after does (λ done. does_next)

  pub one_change : (xs ys : List Word) (run : Run (Unit {0})) (runs : List (Run (Unit {0}))) (k lag weight weights : ℕ) → Changes k lag run (k + length xs) (lag + weight)
      → Changes (k + length xs) (lag + weight) (all_of runs) (k + length xs + length ys) (lag + weight + weights)
      → Changes k lag (all_of (run ∷ runs)) (k + length (xs ++ ys)) (lag + (weight + weights))
  one_change xs ys run runs k lag weight weights does others =
      let place = k + length (xs ++ ys) in
      let whole : k + length xs + length ys ≡ place = omega (arith, length-append xs ys) in
      let heavy : lag + weight + weights ≡ lag + (weight + weights) = omega arith in
      subst (λ r. Changes k lag r place (lag + (weight + weights))) (sym (all_of-next run runs))
      (then_does (At k lag) run (all_of runs) (λ done. At (k + length xs) (lag + weight)) (λ done. At place (lag + (weight + weights))) does
      (subst (λ w. Changes (k + length xs) (lag + weight) (all_of runs) place w) heavy (subst (λ n. Changes (k + length xs) (lag + weight) (all_of runs) n (lag + weight + weights)) whole others)))
