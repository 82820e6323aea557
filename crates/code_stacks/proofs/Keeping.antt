-- What the machine keeps while it computes on top of the stack.
use Rattle.std.proofs.Common.{◌≡◌, ◌≢◌, ℕ, ◌+◌, ◌*◌, ◌%◌, ◌^◌, ◌<◌, ◌≤◌, ℤ, pos, Bool, true, false, nat_lt, if◌then◌else◌, List, [], ◌∷◌, ◌++◌, length, length-append, refl, sym, ap, ◌∙◌, inl, inr, subst, arith}
use Rattle.std.specs.Prelude.{FitsSigned}
use Rattle.std.specs.Int.{w32, cast_unsigned}
use Rattle.std.proofs.lemmas.Bool.{cases_lt}
use Rattle.std.proofs.lemmas.Bool.Decides.{nat_tests}
use Rattle.std.proofs.Math.ListN.{get_or-append}
use Rattle.std.proofs.Math.Seq.{get_or-append_seam}
use Rattle.operator_meaning.specs.declared.object.Object.{Object}
use Rattle.operator_meaning.specs.Table.{FitsWidth}
use Rattle.source_runs.specs.Shapes.{shape_of}
use Rattle.source_runs.specs.State.{Kept}
use Rattle.rv_encode.specs.State.{MachineState, register}
use Rattle.code_lines.specs.Words.{Code}
use Rattle.code_memory.specs.Memory.{IsSlot, IsStored, word_in}
use Rattle.code_memory.proofs.Words.{words_are_kept}
use Rattle.code_stacks.specs.Places.{Layout, IsLaidOut, stack_register, kept_slot, value_at, value_of, HasStack}
use Rattle.code_stacks.specs.Agreement.{IsHeld, Agrees}
use Rattle.code_stacks.proofs.Registers.{IsWork, stack_work, work_apart, work_below}

-- all but Overflow, which an operator may set
pub record Keeps (l : Layout) (depth : ℕ) (m t : MachineState) : Type 0 where
  pub based : register t 3 ≡ register m 3
  pub low : register t 24 ≡ register m 24
  pub high : register t 25 ≡ register m 25
  pub input : t.input ≡ m.input
  pub output : t.output ≡ m.output
  pub size : length t.memory ≡ length m.memory
  pub variables : (n : ℕ) → l.is_variable n ≡ true → word_in t.memory (l.slot n) ≡ word_in m.memory (l.slot n)
  pub stack : (place : ℕ) → place < depth → value_at l t place ≡ value_at l m place

pub keeps_same : (l : Layout) (depth : ℕ) (m : MachineState) → Keeps l depth m m
keeps_same l depth m = record { based = refl; low = refl; high = refl; input = refl; output = refl; size = refl; variables = λ n is. refl; stack = λ place less. refl }

pub keeps_both : (l : Layout) (depth : ℕ) (m t u : MachineState) → Keeps l depth m t → Keeps l depth t u → Keeps l depth m u
keeps_both l depth m t u one next = record {
  based = next.based ∙ one.based;
  low = next.low ∙ one.low;
  high = next.high ∙ one.high;
  input = next.input ∙ one.input;
  output = next.output ∙ one.output;
  size = next.size ∙ one.size;
  variables = λ n is. next.variables n is ∙ one.variables n is;
  stack = λ place less. next.stack place less ∙ one.stack place less;
}

-- ---- what holds of the source goes on to hold

pub held_kept : (objects : List Object) (l : Layout) (kept : Kept) (memory after : List ℕ) (n : ℕ) → word_in after (l.slot n) ≡ word_in memory (l.slot n)
    → IsHeld objects l kept memory n → IsHeld objects l kept after n
held_kept objects l kept memory after n same held =
    record { numbers = held.numbers ∙ ap (λ x. x ∷ []) (sym same); fits = subst (FitsWidth (shape_of objects n).width) (sym same) held.fits }

pub agrees_kept : (objects : List Object) (l : Layout) (lag depth : ℕ) (kept : Kept) (m t : MachineState) → Keeps l depth m t → register t 27 ≡ register m 27 → Agrees objects l lag kept m → Agrees objects l lag kept t
agrees_kept objects l lag depth kept m t keeps flag agrees = record {
  based = keeps.based ∙ agrees.based;
  flag = flag ∙ agrees.flag;
  flag_fits = agrees.flag_fits;
  count = agrees.count ∙ ap (λ x. (cast_unsigned w32 (register m 25) * 2 ^ 32 + cast_unsigned w32 x + lag) % 2 ^ 64) (sym keeps.low)
      ∙ ap (λ x. (cast_unsigned w32 x * 2 ^ 32 + cast_unsigned w32 (register t 24) + lag) % 2 ^ 64) (sym keeps.high);
  halves = (subst (FitsSigned w32) (sym keeps.low) agrees.halves.0, subst (FitsSigned w32) (sym keeps.high) agrees.halves.1);
  input = keeps.input ∙ agrees.input;
  samples = agrees.samples;
  output = keeps.output ∙ agrees.output;
  size = keeps.size ∙ agrees.size;
  variables = λ n is. held_kept objects l kept m.memory t.memory n (keeps.variables n is) (agrees.variables n is);
}

-- ---- values on the stack

longer : (values : List ℤ) (x : ℤ) → length (values ++ x ∷ []) ≡ length values + 1
longer values x = omega (arith, length-append values (x ∷ []))

-- a value more
pub pushed : (l : Layout) (values : List ℤ) (x : ℤ) (m t : MachineState) → Keeps l (length values) m t → HasStack l values m
    → value_at l t (length values) ≡ x → FitsSigned w32 x → HasStack l (values ++ x ∷ []) t
pushed l values x m t keeps has top fits place less =
    elim (cases_lt place (length values)) [
      | inl below ↦
          let same = get_or-append values (x ∷ []) (pos 0) place below in
          (keeps.stack place below ∙ (has place below).0 ∙ sym same, subst (FitsSigned w32) (sym same) (has place below).1)
      | inr above ↦
          let is : place ≡ length values = omega (arith, longer values x) in
          let same : value_of (values ++ x ∷ []) place ≡ x = ap (value_of (values ++ x ∷ [])) is ∙ get_or-append_seam values x [] (pos 0) in
          (ap (value_at l t) is ∙ top ∙ sym same, subst (FitsSigned w32) (sym same) fits)
    ]

-- those below
pub lowered : (l : Layout) (values more : List ℤ) (m t : MachineState) → Keeps l (length values) m t → HasStack l (values ++ more) m → HasStack l values t
lowered l values more m t keeps has place less =
    let all = length-append values more in
    let at = has place (omega (arith, all)) in
    let same = get_or-append values more (pos 0) place less in
    (keeps.stack place less ∙ at.0 ∙ same, subst (FitsSigned w32) same at.1)

-- ---- registers and words that may change

-- a register that is none of the source, nor of a value below
pub record IsSpare (depth n : ℕ) : Type 0 where
  pub based : n ≢ 3
  pub low : n ≢ 24
  pub high : n ≢ 25
  pub stack : (place : ℕ) → place < depth → place < 5 → stack_register place ≢ n

value_same : (l : Layout) (m t : MachineState) (place : ℕ) (b : Bool) → nat_lt place 5 ≡ b → (b ≡ true → register t (stack_register place) ≡ register m (stack_register place))
    → (b ≡ false → word_in t.memory (kept_slot l place) ≡ word_in m.memory (kept_slot l place))
    → (if b then register t (stack_register place) else word_in t.memory (kept_slot l place)) ≡ (if b then register m (stack_register place) else word_in m.memory (kept_slot l place))
value_same l m t place true is same other = same refl
value_same l m t place false is same other = other refl

-- only these registers have changed
pub keeps_registers : (l : Layout) (depth : ℕ) (m t : MachineState) (changed : ℕ → Type 0) → ((n : ℕ) → changed n → IsSpare depth n)
    → ((n : ℕ) → (changed n → ⊥) → register t n ≡ register m n) → t.memory ≡ m.memory → t.input ≡ m.input → t.output ≡ m.output → Keeps l depth m t
keeps_registers l depth m t changed spare same memory input output = record {
  based = same 3 (λ c. (spare 3 c).based refl);
  low = same 24 (λ c. (spare 24 c).low refl);
  high = same 25 (λ c. (spare 25 c).high refl);
  input = input;
  output = output;
  size = ap length memory;
  variables = λ n is. ap (λ x. word_in x (l.slot n)) memory;
  stack = λ place less.
      value_same l m t place (nat_lt place 5) refl
      (λ low. same (stack_register place) (λ c. (spare (stack_register place) c).stack place less (grind (arith, nat_tests)) refl))
      (λ high. ap (λ x. word_in x (kept_slot l place)) memory);
}

-- a word of a value that is not below
pub kept_at : {code : Code} (l : Layout) (memory : List ℕ) (place : ℕ) → IsLaidOut code l → length memory ≡ l.size → 5 ≤ place → place < l.depth → IsSlot memory (kept_slot l place)
kept_at l memory place laid size above below =
    let whole = laid.kept_whole in
    let room = laid.room in
    let small = laid.small in
    record { whole = omega arith; inside = omega (arith, size); small = omega (arith, size) }

pub variable_at : {code : Code} (l : Layout) (memory : List ℕ) (n : ℕ) → IsLaidOut code l → length memory ≡ l.size → l.is_variable n ≡ true → IsSlot memory (l.slot n)
variable_at l memory n laid size is =
    let room = laid.room in
    let small = laid.small in
    let before = laid.before n is in
    record { whole = laid.whole n is; inside = omega (arith, size); small = omega (arith, size) }

pub five_spare : (depth : ℕ) → IsSpare depth 5
five_spare depth =
    record { based = λ e. cc; low = λ e. cc; high = λ e. cc; stack = λ place less low. work_apart (stack_register place) 5 (stack_work place) refl }

pub work_spare : (depth n : ℕ) → IsWork n → ((place : ℕ) → place < depth → place < 5 → stack_register place ≢ n) → IsSpare depth n
work_spare depth n is stack =
    record { based = work_apart n 3 is refl; low = work_below n 24 is refl; high = work_below n 25 is refl; stack = stack }

pub keeps_stored : {code : Code} (l : Layout) (depth k : ℕ) (x : ℤ) (m t : MachineState) → IsLaidOut code l → length m.memory ≡ l.size → 5 ≤ depth → depth < l.depth → IsStored k (kept_slot l depth) x m t → Keeps l depth m t
keeps_stored l depth k x m t laid size above below stored =
    let at = kept_at l m.memory depth laid size above below in
    let words = words_are_kept in record {
      based = stored.others 3 (λ e. cc);
      low = stored.others 24 (λ e. cc);
      high = stored.others 25 (λ e. cc);
      input = stored.input;
      output = stored.output;
      size = ap length stored.memory ∙ words.size m.memory (kept_slot l depth) x at;
      variables = λ n is.
          let before = laid.before n is in
          ap (λ memory. word_in memory (l.slot n)) stored.memory ∙ words.others m.memory (kept_slot l depth) (l.slot n) x at (variable_at l m.memory n laid size is) (λ e. omega (arith, e));
      stack = λ place less.
          value_same l m t place (nat_lt place 5) refl
          (λ low. stored.others (stack_register place) (work_apart (stack_register place) 5 (stack_work place) refl))
          (λ high.
          let far : 5 ≤ place = grind (arith, nat_tests) in
          ap (λ memory. word_in memory (kept_slot l place)) stored.memory
          ∙ words.others m.memory (kept_slot l depth) (kept_slot l place) x at (kept_at l m.memory place laid size far (omega arith)) (λ e. omega (arith, e)));
    }
