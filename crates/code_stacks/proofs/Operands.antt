-- Operands come into registers, and a result goes to its place.
use Rattle.std.proofs.Common.{◌≡◌, ◌≢◌, ℕ, zero, suc, ◌+◌, ◌<◌, ◌≤◌, ℤ, Bool, true, false, nat_lt, if◌then◌else◌, List, [], ◌∷◌, ◌++◌, length, length-append, refl, sym, ap, ◌∙◌, subst, inl, inr, arith}
use Rattle.std.specs.Prelude.{FitsSigned}
use Rattle.std.specs.Int.{w32}
use Rattle.std.proofs.lemmas.Bool.Decides.{nat_tests}
use Rattle.std.proofs.lemmas.Bool.{cases_lt}
use Rattle.code_lines.specs.declared.word.Word.{Word}
use Rattle.code_lines.specs.Words.{StandHere, Code, AreStanding}
use Rattle.rv_encode.specs.State.{MachineState, Running, register}
use Rattle.code_lines.specs.Leading.{Leads}
use Rattle.code_lines.proofs.Leading.{leads_nowhere, leads_then}
use Rattle.template_runs.specs.Machine.{IsBefore}
use Rattle.code_memory.specs.Memory.{base, word_in, load_code, store_code}
use Rattle.code_memory.proofs.Accesses.{loads_are_done, stores_are_done}
use Rattle.code_memory.proofs.Words.{words_are_kept}
use Rattle.code_stacks.specs.Places.{Layout, IsLaidOut, stack_register, scratch_register, kept_slot, value_at}
use Rattle.code_stacks.specs.Operands.{operand_register, fetch_code, fetches, finish_code}
use Rattle.code_stacks.proofs.Registers.{stack_work, scratch_work, operand_work, work_apart, operand_apart, stack_low, scratch_apart, not_scratch}
use Rattle.code_stacks.proofs.Keeping.{Keeps, keeps_same, kept_at, keeps_stored}

-- ---- two lines of code

standing_left : (code : Code) (k : ℕ) (xs ys : List Word) → AreStanding code k (xs ++ ys) → AreStanding code k xs
standing_left code k [] ys stand = tt
standing_left code k (x ∷ xs) ys stand = (stand.0, standing_left code (k + 1) xs ys stand.1)

standing_right : (code : Code) (k : ℕ) (xs ys : List Word) → AreStanding code k (xs ++ ys) → AreStanding code (k + length xs) ys
standing_right code k [] ys stand = let none : k ≡ k + length {A = Word} [] = omega arith in subst (λ n. AreStanding code n ys) none stand
standing_right code k (x ∷ xs) ys stand =
    let next : k + 1 + length xs ≡ k + length (x ∷ xs) = omega arith in subst (λ n. AreStanding code n ys) next (standing_right code (k + 1) xs ys stand.1)

pub first_stands : (code : Code) (k : ℕ) (xs ys : List Word) → StandHere code k (xs ++ ys) → StandHere code k xs
first_stands code k xs ys stands =
    let within = stands.within in record { stand = standing_left code k xs ys stands.stand; within = omega (arith, length-append xs ys) }

pub second_stands : (code : Code) (k : ℕ) (xs ys : List Word) → StandHere code k (xs ++ ys) → StandHere code (k + length xs) ys
second_stands code k xs ys stands =
    let within = stands.within in record { stand = standing_right code k xs ys stands.stand; within = omega (arith, length-append xs ys) }

pub both_long : (k : ℕ) (xs ys : List Word) → k + length xs + length ys ≡ k + length (xs ++ ys)
both_long k xs ys = omega (arith, length-append xs ys)

-- ---- one operand

pub record IsFetched (k found scratch : ℕ) (x : ℤ) (m t : MachineState) : Type 0 where
  pub before : IsBefore k t
  pub gives : register t found ≡ x
  pub others : (n : ℕ) → n ≢ scratch → n ≢ 5 → register t n ≡ register m n
  pub memory : t.memory ≡ m.memory
  pub input : t.input ≡ m.input
  pub output : t.output ≡ m.output

module _ (code : Code) (l : Layout) (laid : IsLaidOut code l) where
  -- the data memory is where the code looks for it
  pub record IsReached (m : MachineState) : Type 0 where
    pub based : register m 3 ≡ base
    pub size : length m.memory ≡ l.size

  fetch_by : (b : Bool) (k depth operand : ℕ) (m : MachineState) → nat_lt (depth + operand) 5 ≡ b
      → StandHere code k (if b then [] else load_code (scratch_register operand) (kept_slot l (depth + operand))) → IsBefore k m → IsReached m → depth + operand < l.depth
      → (t : MachineState) × Leads code (Running m) (Running t)
      × IsFetched (k + length (if b then [] else load_code (scratch_register operand) (kept_slot l (depth + operand)))) (if b then stack_register (depth + operand) else scratch_register operand) (scratch_register operand)
      (if b then register m (stack_register (depth + operand)) else word_in m.memory (kept_slot l (depth + operand))) m t
  fetch_by true k depth operand m low stands before reached less =
      let none : k ≡ k + 0 = omega arith in
      (m, leads_nowhere code (Running m), record { before = subst (λ n. IsBefore n m) none before; gives = refl; others = λ n apart five. refl; memory = refl; input = refl; output = refl })
  fetch_by false k depth operand m high stands before reached less =
      let done = loads_are_done code k (scratch_register operand) (kept_slot l (depth + operand)) m stands before reached.based
      (kept_at l m.memory (depth + operand) laid reached.size (grind (arith, nat_tests)) less) (work_apart (scratch_register operand) 0 (scratch_work operand) refl) in
      let loaded = done.2 in
      (done.0, done.1, record { before = loaded.before; gives = loaded.gives; others = loaded.others; memory = loaded.memory; input = loaded.input; output = loaded.output })

  pub fetched : (k depth operand : ℕ) (m : MachineState) → StandHere code k (fetch_code l depth operand) → IsBefore k m → IsReached m → depth + operand < l.depth
      → (t : MachineState) × Leads code (Running m) (Running t)
      × IsFetched (k + length (fetch_code l depth operand)) (operand_register depth operand) (scratch_register operand) (value_at l m (depth + operand)) m t
  fetched k depth operand m stands before reached less = fetch_by (nat_lt (depth + operand) 5) k depth operand m refl stands before reached less

  -- ---- several

  -- so many operands are in their registers; only the registers for operands and x5 have changed
  pub record IsReady (k depth count : ℕ) (m t : MachineState) : Type 0 where
    pub before : IsBefore k t
    pub operands : (operand : ℕ) → operand < count → register t (operand_register depth operand) ≡ value_at l m (depth + operand)
    pub others : (n : ℕ) → n ≢ 5 → n ≢ 14 → n ≢ 15 → n ≢ 16 → register t n ≡ register m n
    pub memory : t.memory ≡ m.memory
    pub input : t.input ≡ m.input
    pub output : t.output ≡ m.output

  abbrev pub Ready : (k depth count : ℕ) (m : MachineState) → Type 0
  Ready k depth count m = (t : MachineState) × Leads code (Running m) (Running t) × IsReady k depth count m t

  none_ready : (k depth : ℕ) (m : MachineState) → IsBefore k m → Ready k depth 0 m
  none_ready k depth m before =
      (m, leads_nowhere code (Running m), record { before = before; operands = λ operand less. absurd (omega arith); others = λ n a b c d. refl; memory = refl; input = refl; output = refl })

  -- values do not move while operands are fetched
  unmoved_by : (b : Bool) (place : ℕ) (m t : MachineState) → nat_lt place 5 ≡ b → ((n : ℕ) → n ≢ 5 → n ≢ 14 → n ≢ 15 → n ≢ 16 → register t n ≡ register m n) → t.memory ≡ m.memory
      → (if b then register t (stack_register place) else word_in t.memory (kept_slot l place)) ≡ (if b then register m (stack_register place) else word_in m.memory (kept_slot l place))
  unmoved_by true place m t low others memory =
      let below = stack_low place (grind (arith, nat_tests)) in
      others (stack_register place) (work_apart (stack_register place) 5 (stack_work place) refl) (λ e. omega (arith, below, e)) (λ e. omega (arith, below, e)) (λ e. omega (arith, below, e))
  unmoved_by false place m t high others memory = ap (λ x. word_in x (kept_slot l place)) memory

  unmoved : (place : ℕ) (m t : MachineState) → ((n : ℕ) → n ≢ 5 → n ≢ 14 → n ≢ 15 → n ≢ 16 → register t n ≡ register m n) → t.memory ≡ m.memory → value_at l t place ≡ value_at l m place
  unmoved place m t others memory = unmoved_by (nat_lt place 5) place m t refl others memory

  one_more : (k depth count : ℕ) (m : MachineState) → count < 3 → StandHere code k (fetch_code l depth count) → IsReached m → depth + count < l.depth → Ready k depth count m
      → Ready (k + length (fetch_code l depth count)) depth (count + 1) m
  one_more k depth count m few stands reached less ready =
      let t = ready.0 in
      let is = ready.2 in
      let there : IsReached t =
      record { based = is.others 3 (λ e. cc) (λ e. cc) (λ e. cc) (λ e. cc) ∙ reached.based; size = ap length is.memory ∙ reached.size } in
      let next = fetched k depth count t stands is.before there less in
      let last = next.2 in
      let moved = unmoved (depth + count) m t is.others is.memory in (
        next.0,
        leads_then code (Running m) (Running t) (Running next.0) ready.1 next.1,
        record {
          before = last.before;
          operands = λ operand less_than.
              elim (cases_lt operand count) [
                | inl below ↦
                    last.others (operand_register depth operand) (operand_apart depth operand count (scratch_apart operand count below few)) (work_apart (operand_register depth operand) 5 (operand_work depth operand) refl)
                    ∙ is.operands operand below
                | inr above ↦
                    let same : operand ≡ count = omega arith in
                    subst (λ (o : ℕ). register next.0 (operand_register depth o) ≡ value_at l m (depth + o)) (sym same) (last.gives ∙ moved)
              ];
          others = λ n five fourteen fifteen sixteen. last.others n (not_scratch n count fourteen fifteen sixteen) five ∙ is.others n five fourteen fifteen sixteen;
          memory = last.memory ∙ is.memory;
          input = last.input ∙ is.input;
          output = last.output ∙ is.output;
        },
      )

  same_place : (k j depth count : ℕ) (m : MachineState) → k ≡ j → Ready k depth count m → Ready j depth count m
  same_place k j depth count m is ready = subst (λ n. Ready n depth count m) is ready

  pub all_ready : (k depth count : ℕ) (m : MachineState) → count ≤ 3 → StandHere code k (fetches l depth count) → IsBefore k m → IsReached m → depth + count ≤ l.depth
      → Ready (k + length (fetches l depth count)) depth count m
  all_ready k depth zero m few stands before reached room = same_place k (k + 0) depth 0 m (omega arith) (none_ready k depth m before)
  all_ready k depth (suc zero) m few stands before reached room =
      one_more k depth 0 m (omega arith) stands reached (omega arith) (none_ready k depth m before)
  all_ready k depth (suc (suc zero)) m few stands before reached room =
      let xs = fetch_code l depth 0 in
      let ys = fetch_code l depth 1 in
      let one = one_more k depth 0 m (omega arith) (first_stands code k xs ys stands) reached (omega arith) (none_ready k depth m before) in
      same_place (k + length xs + length ys) (k + length (xs ++ ys)) depth 2 m (both_long k xs ys) (one_more (k + length xs) depth 1 m (omega arith) (second_stands code k xs ys stands) reached (omega arith) one)
  all_ready k depth (suc (suc (suc zero))) m few stands before reached room =
      let xs = fetch_code l depth 0 in
      let ys = fetch_code l depth 1 in
      let zs = fetch_code l depth 2 in
      let rest = second_stands code k xs (ys ++ zs) stands in
      let one = one_more k depth 0 m (omega arith) (first_stands code k xs (ys ++ zs) stands) reached (omega arith) (none_ready k depth m before) in
      let two = one_more (k + length xs) depth 1 m (omega arith) (first_stands code (k + length xs) ys zs rest) reached (omega arith) one in
      let three = one_more (k + length xs + length ys) depth 2 m (omega arith) (second_stands code (k + length xs) ys zs rest) reached (omega arith) two in
      same_place (k + length xs + length ys + length zs) (k + length (xs ++ (ys ++ zs))) depth 3 m (omega (arith, both_long k xs (ys ++ zs), length-append ys zs)) three
  all_ready k depth (suc (suc (suc (suc count)))) m few stands before reached room = absurd (omega arith)

  -- ---- a result

  -- a number that was computed is at its place
  pub record IsFinished (k depth : ℕ) (x : ℤ) (m t : MachineState) : Type 0 where
    pub before : IsBefore k t
    pub value : value_at l t depth ≡ x
    pub keeps : Keeps l depth m t
    pub flag : register t 27 ≡ register m 27

  finish_by : (b : Bool) (k depth : ℕ) (x : ℤ) (m : MachineState) → nat_lt depth 5 ≡ b → StandHere code k (if b then [] else store_code (stack_register depth) (kept_slot l depth)) → IsBefore k m → IsReached m
      → depth < l.depth → register m (stack_register depth) ≡ x → FitsSigned w32 x
      → (t : MachineState) × Leads code (Running m) (Running t) × IsBefore (k + length (if b then [] else store_code (stack_register depth) (kept_slot l depth))) t
      × ((if b then register t (stack_register depth) else word_in t.memory (kept_slot l depth)) ≡ x) × Keeps l depth m t × (register t 27 ≡ register m 27)
  finish_by true k depth x m low stands before reached less has fits =
      let none : k ≡ k + 0 = omega arith in
      (m, leads_nowhere code (Running m), subst (λ n. IsBefore n m) none before, has, keeps_same l depth m, refl)
  finish_by false k depth x m high stands before reached less has fits =
      let done = stores_are_done code k (stack_register depth) (kept_slot l depth) m stands before reached.based (kept_at l m.memory depth laid reached.size (grind (arith, nat_tests)) less)
      (work_apart (stack_register depth) 5 (stack_work depth) refl) in
      let stored = done.2 in
      let at = kept_at l m.memory depth laid reached.size (grind (arith, nat_tests)) less in
      let words = words_are_kept in
      let fits_there : FitsSigned w32 (register m (stack_register depth)) = subst (FitsSigned w32) (sym has) fits in (
        done.0,
        done.1,
        stored.before,
        ap (λ memory. word_in memory (kept_slot l depth)) stored.memory ∙ words.there m.memory (kept_slot l depth) (register m (stack_register depth)) at fits_there ∙ has,
        keeps_stored l depth (k + length (store_code (stack_register depth) (kept_slot l depth))) (register m (stack_register depth)) m done.0 laid reached.size (grind (arith, nat_tests)) less stored,
        stored.others 27 (λ e. cc),
      )

  pub finished : (k depth : ℕ) (x : ℤ) (m : MachineState) → StandHere code k (finish_code l depth) → IsBefore k m → IsReached m → depth < l.depth → register m (stack_register depth) ≡ x → FitsSigned w32 x
      → (t : MachineState) × Leads code (Running m) (Running t) × IsFinished (k + length (finish_code l depth)) depth x m t
  finished k depth x m stands before reached less has fits =
      let done = finish_by (nat_lt depth 5) k depth x m refl stands before reached less has fits in
      (done.0, done.1, record { before = done.2; value = done.3; keeps = done.4; flag = done.5 })
