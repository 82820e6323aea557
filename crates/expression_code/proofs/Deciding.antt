-- The count is brought up, operands are compared, and code is passed over.
use Rattle.std.proofs.Common.{◌≡◌, ℕ, ◌+◌, ◌*◌, ◌%◌, ◌^◌, ◌<◌, ◌≤◌, ℤ, pos, ◌+ℤ◌, Bool, true, false, ◌==◌, nat_lt, if◌then◌else◌, List, [], ◌++◌, length, length-append, append-nil, refl, sym, ap, ◌∙◌, subst, arith}
use Rattle.std.specs.Prelude.{FitsSigned}
use Rattle.std.specs.Int.{w32, cast_unsigned}
use Rattle.std.proofs.lemmas.Bool.{eqb-false}
use Rattle.std.proofs.lemmas.Bool.Decides.{nat_tests}
use Rattle.std.proofs.lemmas.Int.{ints}
use Rattle.operator_meaning.specs.declared.object.Object.{Object}
use Rattle.source_runs.specs.State.{SourceState}
use Rattle.rv_encode.specs.State.{MachineState, Running, register}
use Rattle.code_lines.specs.Leading.{Leads, LeadsLater}
use Rattle.code_lines.proofs.Leading.{leads_then, leads_both}
use Rattle.code_lines.specs.Words.{StandHere, Code}
use Rattle.template_runs.specs.Machine.{IsBefore}
use Rattle.code_jumps.specs.declared.branch.Test.{Test}
use Rattle.code_jumps.specs.declared.branch.Reach.{Reach}
use Rattle.code_jumps.specs.Jumps.{passes, sensed, met, branch_code, jump_where, past_code, ComesBy, IsThere}
use Rattle.code_jumps.proofs.Branches.{branches_are_done, sensed_passes, same_length}
use Rattle.code_jumps.proofs.Jumps.{passes_words}
use Rattle.code_lines.specs.Pieces.{flush_code, count_in, HasHalves, IsNoCount}
use Rattle.code_lines.proofs.Flushes.{flushed}
use Rattle.code_memory.specs.Memory.{word_in}
use Rattle.code_runs.specs.Doing.{Moves, side}
use Rattle.code_stacks.specs.Places.{Layout, IsLaidOut, stack_register, kept_slot}
use Rattle.code_stacks.specs.Agreement.{IsWith, With}
use Rattle.code_stacks.specs.Operands.{fetches}
use Rattle.code_stacks.proofs.Keeping.{keeps_same, lowered, held_kept}
use Rattle.code_stacks.proofs.Operands.{first_stands, second_stands, all_ready}
use Rattle.code_stacks.proofs.Registers.{stack_work, stack_low}
use Rattle.expression_code.proofs.Computing.{reached, AreIn, are_in}

-- values of the stack, where the registers of values and the memory are the same
value_low : (l : Layout) (b : Bool) (place : ℕ) (m v : MachineState) → nat_lt place 5 ≡ b → ((n : ℕ) → 8 ≤ n → n ≤ 13 → register v n ≡ register m n) → v.memory ≡ m.memory
    → (if b then register v (stack_register place) else word_in v.memory (kept_slot l place)) ≡ (if b then register m (stack_register place) else word_in m.memory (kept_slot l place))
value_low l true place m v low same memory =
    let work = stack_work place in
    let least = work.least in
    let below = stack_low place (grind (arith, nat_tests)) in
    same (stack_register place) least (omega arith)
value_low l false place m v high same memory = ap (λ bytes. word_in bytes (kept_slot l place)) memory

brought_up : (kept before lag rest weight after : ℕ) → lag ≡ rest + weight → kept ≡ (before + lag) % 2 ^ 64 → after ≡ (before + weight) % 2 ^ 64 → kept ≡ (after + rest) % 2 ^ 64
brought_up kept before lag rest weight after parts is is2 = omega (arith, parts, is, is2)

-- What has changed are registers for operands, for jumps and of the count, to which a weight was added.
pub record IsAfter (k : ℕ) (weight : ℕ) (m v : MachineState) : Type 0 where
  pub before : IsBefore k v
  pub count : count_in (register v) ≡ (count_in (register m) + weight) % 2 ^ 64
  pub low_fits : FitsSigned w32 (register v 24)
  pub high_fits : FitsSigned w32 (register v 25)
  pub based : register v 3 ≡ register m 3
  pub flag : register v 27 ≡ register m 27
  pub values : (n : ℕ) → 8 ≤ n → n ≤ 13 → register v n ≡ register m n
  pub memory : v.memory ≡ m.memory
  pub input : v.input ≡ m.input
  pub output : v.output ≡ m.output

pub with_after : (objects : List Object) (l : Layout) (k at lag rest weight : ℕ) (values args : List ℤ) (s : SourceState) (m v : MachineState) → lag ≡ rest + weight → IsWith objects l at lag (values ++ args) s m → IsAfter k weight m v
    → IsWith objects l k rest values s v
with_after objects l k at lag rest weight values args s m v parts is after =
    let agrees = is.agrees in
    record {
      before = after.before;
      agrees = record {
        based = after.based ∙ agrees.based;
        flag = after.flag ∙ agrees.flag;
        flag_fits = agrees.flag_fits;
        count = brought_up s.kept.count (count_in (register m)) lag rest weight (count_in (register v)) parts agrees.count after.count;
        halves = (after.low_fits, after.high_fits);
        input = after.input ∙ agrees.input;
        samples = agrees.samples;
        output = after.output ∙ agrees.output;
        size = ap length after.memory ∙ agrees.size;
        variables = λ n variable. held_kept objects l s.kept m.memory v.memory n (ap (λ bytes. word_in bytes (l.slot n)) after.memory) (agrees.variables n variable);
      };
      stack = λ place less.
          let below = lowered l values args m m (keeps_same l (length values) m) is.stack place less in
          (value_low l (nat_lt place 5) place m v refl after.values after.memory ∙ below.0, below.1);
    }

module _ (code : Code) (objects : List Object) (l : Layout) (laid : IsLaidOut code l) where
  -- where a comparison of the topmost values leads
  pub decided : (reach : Reach) (sense : Bool) (test : Test) (rs1 rs2 : ℕ) (k lag rest weight : ℕ) (values args : List ℤ) (a b distance : ℤ) (target : ℕ) (s : SourceState) (m : MachineState)
      → length args ≤ 3 → length values + length args ≤ l.depth → lag ≡ rest + weight → weight < 2 ^ 31 → IsNoCount rs1 → IsNoCount rs2
      → ((t : MachineState) → AreIn code objects l laid (length values) args (register t) → register t 0 ≡ pos 0 → (register t rs1 ≡ a) × (register t rs2 ≡ b))
      → StandHere code k (fetches l (length values) (length args) ++ (flush_code weight ++ jump_where reach sense test rs1 rs2 distance))
      → pos target ≡ pos (k + length (fetches l (length values) (length args) ++ (flush_code weight ++ jump_where reach sense test rs1 rs2 distance))) +ℤ distance → target ≤ 16777216
      → IsWith objects l k lag (values ++ args) s m
      → (v : MachineState) × LeadsLater code (if met sense (passes test a b) then 1 else 0) (Running m) (Running v)
      × side (With objects l target rest values) (With objects l (k + length (fetches l (length values) (length args) ++ (flush_code weight ++ jump_where reach sense test rs1 rs2 distance))) rest values) (met sense (passes test a b)) s v
  decided reach sense test rs1 rs2 k lag rest weight values args a b distance target s m few room parts small apart apart2 regs stands target_is near is =
      let depth = length values in
      let fetching = fetches l depth (length args) in
      let flushing = flush_code weight in
      let jump = jump_where reach sense test rs1 rs2 distance in
      let end = k + length (fetching ++ (flushing ++ jump)) in
      let whole : k + length fetching + length flushing + length jump ≡ end = omega (arith, length-append fetching (flushing ++ jump), length-append flushing jump) in
      let later = second_stands code k fetching (flushing ++ jump) stands in
      let ready = all_ready code l laid k depth (length args) m few (first_stands code k fetching (flushing ++ jump) stands) is.before (reached code objects l laid lag s.kept m is.agrees) room in
      let t = ready.0 in
      let at = ready.2 in
      let kept : (n : ℕ) → (n == 5) ≡ false → (n == 14) ≡ false → (n == 15) ≡ false → (n == 16) ≡ false → register t n ≡ register m n =
      λ n five fourteen fifteen sixteen. at.others n (eqb-false n 5 five) (eqb-false n 14 fourteen) (eqb-false n 15 fifteen) (eqb-false n 16 sixteen) in
      let low : register t 24 ≡ register m 24 = kept 24 refl refl refl refl in
      let high : register t 25 ≡ register m 25 = kept 25 refl refl refl refl in
      let halves : HasHalves (register t) = (subst (FitsSigned w32) (sym low) is.agrees.halves.0, subst (FitsSigned w32) (sym high) is.agrees.halves.1) in
      let flush = flushed code (k + length fetching) weight t small (first_stands code (k + length fetching) flushing jump later) at.before halves in
      let u = flush.0 in
      let up = flush.2 in
      let both = regs t (are_in code objects l laid k lag values args s m is (k + length fetching) t at) at.before.zero_is in
      let first : register u rs1 ≡ a = up.others rs1 apart ∙ both.0 in
      let second : register u rs2 ≡ b = up.others rs2 apart2 ∙ both.1 in
      let own = pos (length (branch_code reach (sensed sense test) rs1 rs2 distance)) +ℤ distance in
      let long : length jump ≡ length (branch_code reach (sensed sense test) rs1 rs2 distance) = same_length reach (sensed sense test) rs1 rs2 own distance in
      let branch = branches_are_done code (k + length fetching + length flushing) target reach (sensed sense test) rs1 rs2 own u (second_stands code (k + length fetching) flushing jump later) up.before
      (omega (arith, ints, target_is, whole, long)) near in
      let tested : passes (sensed sense test) (register u rs1) (register u rs2) ≡ met sense (passes test a b) =
      ap (λ x. passes (sensed sense test) x (register u rs2)) first ∙ ap (λ y. passes (sensed sense test) a y) second ∙ sensed_passes sense test a b in
      let up_leads = leads_then code (Running m) (Running t) (Running u) ready.1 flush.1 in
      by (met sense (passes test a b)) (k + length fetching + length flushing + length jump) end u whole up_leads
      (λ place v way. record {
        before = way.before;
        count = ap (λ x. cast_unsigned w32 (register v 25) * 2 ^ 32 + cast_unsigned w32 x) (way.others 24 (eqb-false 24 5 refl)) ∙ ap (λ x. cast_unsigned w32 x * 2 ^ 32 + cast_unsigned w32 (register u 24)) (way.others 25 (eqb-false 25 5 refl))
            ∙ up.count ∙ ap (λ x. (cast_unsigned w32 (register t 25) * 2 ^ 32 + cast_unsigned w32 x + weight) % 2 ^ 64) low ∙ ap (λ x. (cast_unsigned w32 x * 2 ^ 32 + cast_unsigned w32 (register m 24) + weight) % 2 ^ 64) high;
        low_fits = subst (FitsSigned w32) (sym (way.others 24 (eqb-false 24 5 refl))) up.halves.0;
        high_fits = subst (FitsSigned w32) (sym (way.others 25 (eqb-false 25 5 refl))) up.halves.1;
        based = way.others 3 (eqb-false 3 5 refl) ∙ up.others 3 (eqb-false 3 5 refl, eqb-false 3 6 refl, eqb-false 3 24 refl, eqb-false 3 25 refl) ∙ kept 3 refl refl refl refl;
        flag = way.others 27 (eqb-false 27 5 refl) ∙ up.others 27 (eqb-false 27 5 refl, eqb-false 27 6 refl, eqb-false 27 24 refl, eqb-false 27 25 refl) ∙ kept 27 refl refl refl refl;
        values = λ n least most.
            way.others n (λ e. omega (arith, e)) ∙ up.others n ((λ e. omega (arith, e)), (λ e. omega (arith, e)), (λ e. omega (arith, e)), (λ e. omega (arith, e)))
            ∙ at.others n (λ e. omega (arith, e)) (λ e. omega (arith, e)) (λ e. omega (arith, e)) (λ e. omega (arith, e));
        memory = way.memory ∙ up.memory ∙ at.memory;
        input = way.input ∙ up.input ∙ at.input;
        output = way.output ∙ up.output ∙ at.output;
      }) (subst (λ passed. ComesBy passed code target (k + length fetching + length flushing + length jump) u) tested branch)
    where
      by : (passed : Bool) (next end : ℕ) (u : MachineState) → next ≡ end → LeadsLater code 0 (Running m) (Running u) → ((place : ℕ) (v : MachineState) → IsThere place u v → IsAfter place weight m v)
          → ComesBy passed code target next u
          → (v : MachineState) × LeadsLater code (if passed then 1 else 0) (Running m) (Running v) × side (With objects l target rest values) (With objects l end rest values) passed s v
      by true next end u same up after comes =
          (comes.0, leads_both code 0 1 (Running m) (Running u) (Running comes.0) up comes.1, with_after objects l target k lag rest weight values args s m comes.0 parts is (after target comes.0 comes.2))
      by false next end u same up after comes = (
        comes.0,
        leads_both code 0 0 (Running m) (Running u) (Running comes.0) up comes.1,
        subst (λ n. IsWith objects l n rest values s comes.0) same (with_after objects l next k lag rest weight values args s m comes.0 parts is (after next comes.0 comes.2)),
      )

  -- ---- the count, and jumps

  flush_after : (k lag weight : ℕ) (values : List ℤ) (s : SourceState) (m : MachineState) → weight < 2 ^ 31 → StandHere code k (flush_code weight) → IsWith objects l k lag values s m
      → (u : MachineState) × Leads code (Running m) (Running u) × IsAfter (k + length (flush_code weight)) weight m u
  flush_after k lag weight values s m small stands at =
      let flush = flushed code k weight m small stands at.before at.agrees.halves in
      let up = flush.2 in (
        flush.0,
        flush.1,
        record {
          before = up.before;
          count = up.count;
          low_fits = up.halves.0;
          high_fits = up.halves.1;
          based = up.others 3 (eqb-false 3 5 refl, eqb-false 3 6 refl, eqb-false 3 24 refl, eqb-false 3 25 refl);
          flag = up.others 27 (eqb-false 27 5 refl, eqb-false 27 6 refl, eqb-false 27 24 refl, eqb-false 27 25 refl);
          values = λ n least most. up.others n ((λ e. omega (arith, e)), (λ e. omega (arith, e)), (λ e. omega (arith, e)), (λ e. omega (arith, e)));
          memory = up.memory;
          input = up.input;
          output = up.output;
        },
      )

  -- a weight is brought up, and a rest still lags behind
  pub flush_moves : (k lag rest weight : ℕ) (values : List ℤ) → lag ≡ rest + weight → weight < 2 ^ 31 → StandHere code k (flush_code weight)
      → Moves code (With objects l k lag values) (With objects l (k + length (flush_code weight)) rest values)
  flush_moves k lag rest weight values parts small stands s m at =
      let flush = flush_after k lag weight values s m small stands at in
      let bare = subst (λ v. IsWith objects l k lag v s m) (sym (append-nil values)) at in
      (flush.0, flush.1, with_after objects l (k + length (flush_code weight)) k lag rest weight values [] s m flush.0 parts bare flush.2)

  -- a jump with a weight brought up, which takes some of the stack
  pub leaves : (k lag rest weight : ℕ) (values args : List ℤ) (near : Bool) (distance : ℤ) (target : ℕ) (s : SourceState) (m : MachineState) → lag ≡ rest + weight → weight < 2 ^ 31
      → StandHere code k (flush_code weight ++ past_code near distance) → pos target ≡ pos (k + length (flush_code weight ++ past_code near distance)) +ℤ distance → target ≤ 16777216 → IsWith objects l k lag (values ++ args) s m
      → (v : MachineState) × LeadsLater code 1 (Running m) (Running v) × With objects l target rest values s v
  leaves k lag rest weight values args near distance target s m parts small stands target_is close at =
      let flushing = flush_code weight in
      let jump = past_code near distance in
      let flush = flush_after k lag weight (values ++ args) s m small (first_stands code k flushing jump stands) at in
      let u = flush.0 in
      let whole : k + length flushing + length jump ≡ k + length (flushing ++ jump) = omega (arith, length-append flushing jump) in
      let jumped = passes_words code (k + length flushing) target near distance u (second_stands code k flushing jump stands) flush.2.before (target_is ∙ ap (λ n. pos n +ℤ distance) (sym whole)) close in
      let v = jumped.0 in
      let way = jumped.2 in
      let up = flush.2 in (
        v,
        leads_both code 0 1 (Running m) (Running u) (Running v) flush.1 jumped.1,
        with_after objects l target k lag rest weight values args s m v parts at (record {
          before = way.before;
          count = ap (λ x. cast_unsigned w32 (register v 25) * 2 ^ 32 + cast_unsigned w32 x) (way.others 24 (eqb-false 24 5 refl)) ∙ ap (λ x. cast_unsigned w32 x * 2 ^ 32 + cast_unsigned w32 (register u 24)) (way.others 25 (eqb-false 25 5 refl)) ∙ up.count;
          low_fits = subst (FitsSigned w32) (sym (way.others 24 (eqb-false 24 5 refl))) up.low_fits;
          high_fits = subst (FitsSigned w32) (sym (way.others 25 (eqb-false 25 5 refl))) up.high_fits;
          based = way.others 3 (eqb-false 3 5 refl) ∙ up.based;
          flag = way.others 27 (eqb-false 27 5 refl) ∙ up.flag;
          values = λ n least most. way.others n (λ e. omega (arith, e)) ∙ up.values n least most;
          memory = way.memory ∙ up.memory;
          input = way.input ∙ up.input;
          output = way.output ∙ up.output;
        }),
      )
