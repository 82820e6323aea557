-- What computes a value of the topmost values of the stack, and leaves it in their place.
use Rattle.std.proofs.Common.{◌≡◌, ◌≢◌, ℕ, ◌+◌, ◌<◌, ◌≤◌, ℤ, pos, true, false, ◌==◌, List, [], ◌∷◌, ◌++◌, length, length-append, refl, sym, ◌∙◌, subst, arith}
use Rattle.std.specs.Prelude.{FitsSigned}
use Rattle.std.specs.Int.{w32}
use Rattle.std.proofs.lemmas.Bool.Decides.{nat_tests}
use Rattle.std.proofs.lemmas.List.{get_or-append-add}
use Rattle.operator_meaning.specs.declared.object.Object.{Object}
use Rattle.source_runs.specs.State.{Kept, SourceState}
use Rattle.code_lines.specs.declared.word.Word.{Word}
use Rattle.code_lines.specs.Words.{StandHere, Code}
use Rattle.rv_encode.specs.State.{MachineState, Running, register}
use Rattle.code_lines.specs.Leading.{Leads}
use Rattle.code_lines.proofs.Leading.{leads_then}
use Rattle.template_runs.specs.Machine.{IsBefore}
use Rattle.code_lines.specs.Lines.{File, file_after, is_line}
use Rattle.code_lines.proofs.Lines.{lines_run}
use Rattle.code_stacks.specs.Places.{Layout, IsLaidOut, stack_register, value_of, HasStack}
use Rattle.code_stacks.specs.Agreement.{Agrees, IsWith}
use Rattle.code_stacks.specs.Operands.{operand_register, fetches, finish_code}
use Rattle.code_stacks.proofs.Registers.{stack_work, scratch_work, work_below, stack_apart, stack_low}
use Rattle.code_stacks.proofs.Keeping.{Keeps, keeps_same, keeps_both, agrees_kept, pushed, lowered, IsSpare, five_spare, work_spare, keeps_registers}
use Rattle.code_stacks.proofs.Operands.{first_stands, second_stands, IsReached, IsReady, all_ready, finished}
use Rattle.expression_code.specs.Code.{around}

-- the machine comes to the end of a part, with these values on the stack, and the source as it was
abbrev pub Leaves : (code : Code) → List Object → Layout → (end lag : ℕ) → List ℤ → SourceState → MachineState → Type 0
Leaves code objects l end lag values s m = (t : MachineState) × Leads code (Running m) (Running t) × IsWith objects l end lag values s t

differ : (a b : ℕ) → (a == b) ≡ false → a ≢ b
differ a b apart e = grind (arith, nat_tests)

module _ (code : Code) (objects : List Object) (l : Layout) (laid : IsLaidOut code l) where
  pub reached : (lag : ℕ) (kept : Kept) (m : MachineState) → Agrees objects l lag kept m → IsReached code l laid m
  reached lag kept m agrees = record { based = agrees.based; size = agrees.size }

  -- a number that was computed goes to its place
  pub concluded : (k lag : ℕ) (values : List ℤ) (x : ℤ) (s : SourceState) (m u : MachineState) → length values < l.depth → StandHere code k (finish_code l (length values))
      → IsBefore k u → Agrees objects l lag s.kept u → Keeps l (length values) m u → HasStack l values m → register u (stack_register (length values)) ≡ x → FitsSigned w32 x
      → Leaves code objects l (k + length (finish_code l (length values))) lag (values ++ x ∷ []) s u
  concluded k lag values x s m u room stands before agrees keeps has result fits =
      let done = finished code l laid k (length values) x u stands before (reached lag s.kept u agrees) room result fits in
      let v = done.0 in
      let last = done.2 in (
        v,
        done.1,
        record {
          before = last.before;
          agrees = agrees_kept objects l lag (length values) s.kept u v last.keeps last.flag agrees;
          stack = pushed l values x m v (keeps_both l (length values) m u v keeps last.keeps) has last.value fits;
        },
      )

  -- and so from where it was computed
  pub concluded_from : (end lag : ℕ) (values : List ℤ) (s : SourceState) (m u : MachineState) → Leads code (Running m) (Running u) → Leaves code objects l end lag values s u → Leaves code objects l end lag values s m
  concluded_from end lag values s m u leads leaves = (leaves.0, leads_then code (Running m) (Running u) (Running leaves.0) leads leaves.1, leaves.2)

  -- ---- operands in registers

  -- the registers that change while a value is computed
  pub data IsChanged (depth : ℕ) : ℕ → Type 0 where
    five : IsChanged depth 5
    first : IsChanged depth 14
    second : IsChanged depth 15
    third : IsChanged depth 16
    result : IsChanged depth (stack_register depth)

  low_apart : (place n : ℕ) → place < 5 → 14 ≤ n → stack_register place ≢ n
  low_apart place n low high e = let less = stack_low place low in omega (arith, less, e)

  pub changed_spare : (depth n : ℕ) → IsChanged depth n → IsSpare depth n
  changed_spare depth n five = five_spare depth
  changed_spare depth n first = work_spare depth 14 (scratch_work 0) (λ place less low. low_apart place 14 low (omega arith))
  changed_spare depth n second = work_spare depth 15 (scratch_work 1) (λ place less low. low_apart place 15 low (omega arith))
  changed_spare depth n third = work_spare depth 16 (scratch_work 2) (λ place less low. low_apart place 16 low (omega arith))
  changed_spare depth n result = work_spare depth (stack_register depth) (stack_work depth) (λ place less low. stack_apart place depth low less)

  -- these values are in the registers of the operands
  abbrev pub AreIn : (depth : ℕ) → List ℤ → File → Type 0
  AreIn depth args f = (operand : ℕ) → operand < length args → f (operand_register depth operand) ≡ value_of args operand

  pub are_in : (k lag : ℕ) (values args : List ℤ) (s : SourceState) (m : MachineState) → IsWith objects l k lag (values ++ args) s m → (at : ℕ) (t : MachineState)
      → IsReady code l laid at (length values) (length args) m t → AreIn (length values) args (register t)
  are_in k lag values args s m is at t ready operand less =
      ready.operands operand less ∙ (is.stack (length values + operand) (omega (arith, length-append values args))).0 ∙ get_or-append-add values args operand (pos 0)

  -- ---- lines

  -- a line that computes a number of them
  pub record Computes (depth : ℕ) (args : List ℤ) (overflow : ℤ) (line : List Word) (x : ℤ) : Type 0 where
    pub sets : is_line line ≡ true
    pub gives : (f : File) → AreIn depth args f → f 0 ≡ pos 0 → f 27 ≡ overflow → file_after line f (stack_register depth) ≡ x
    pub others : (f : File) (n : ℕ) → n ≢ stack_register depth → n ≢ 5 → file_after line f n ≡ f n
    pub fits : FitsSigned w32 x

  -- its values are those below the operands, and what it computes
  pub computed : (k lag : ℕ) (values args : List ℤ) (x : ℤ) (line : List Word) (s : SourceState) (m : MachineState) → length args ≤ 3 → length values + length args ≤ l.depth → length values < l.depth
      → StandHere code k (around l (length values) (length args) line) → IsWith objects l k lag (values ++ args) s m → Computes (length values) args s.kept.overflow line x
      → Leaves code objects l (k + length (around l (length values) (length args) line)) lag (values ++ x ∷ []) s m
  computed k lag values args x line s m few all_room room stands is computes =
      let depth = length values in
      let fetching = fetches l depth (length args) in
      let finishing = finish_code l depth in
      let later = second_stands code k fetching (line ++ finishing) stands in
      let ready = all_ready code l laid k depth (length args) m few (first_stands code k fetching (line ++ finishing) stands) is.before (reached lag s.kept m is.agrees) all_room in
      let t = ready.0 in
      let at = ready.2 in
      let run = lines_run code (k + length fetching) line t (first_stands code (k + length fetching) line finishing later) at.before computes.sets in
      let u = run.0 in
      let left = run.2 in
      let same : (n : ℕ) → (IsChanged depth n → ⊥) → register u n ≡ register m n = λ n other.
      left.file n ∙ computes.others (register t) n (λ e. other (subst (IsChanged depth) (sym e) result)) (λ e. other (subst (IsChanged depth) (sym e) five))
      ∙ at.others n (λ e. other (subst (IsChanged depth) (sym e) five)) (λ e. other (subst (IsChanged depth) (sym e) first)) (λ e. other (subst (IsChanged depth) (sym e) second)) (λ e. other (subst (IsChanged depth) (sym e) third)) in
      let keeps = keeps_registers l depth m u (IsChanged depth) (changed_spare depth) same (left.memory ∙ at.memory) (left.input ∙ at.input) (left.output ∙ at.output) in
      let flag_before : register t 27 ≡ register m 27 = at.others 27 (differ 27 5 refl) (differ 27 14 refl) (differ 27 15 refl) (differ 27 16 refl) in
      let flag : register u 27 ≡ register m 27 =
      left.file 27 ∙ computes.others (register t) 27 (λ e. work_below (stack_register depth) 27 (stack_work depth) refl (sym e)) (differ 27 5 refl) ∙ flag_before in
      let agrees = agrees_kept objects l lag depth s.kept m u keeps flag is.agrees in
      let gives = left.file (stack_register depth) ∙ computes.gives (register t) (are_in k lag values args s m is (k + length fetching) t at) at.before.zero_is (flag_before ∙ is.agrees.flag) in
      let whole : k + length fetching + length line + length finishing ≡ k + length (fetching ++ (line ++ finishing)) = omega (arith, length-append fetching (line ++ finishing), length-append line finishing) in
      subst (λ n. Leaves code objects l n lag (values ++ x ∷ []) s m) whole
      (concluded_from (k + length fetching + length line + length finishing) lag (values ++ x ∷ []) s m u (leads_then code (Running m) (Running t) (Running u) ready.1 run.1)
      (concluded (k + length fetching + length line) lag values x s m u room (second_stands code (k + length fetching) line finishing later) left.before agrees keeps (lowered l values args m m (keeps_same l depth m) is.stack) gives computes.fits))
