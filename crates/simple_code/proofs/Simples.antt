-- The code of assignments and their like does what they do.
use Rattle.std.proofs.Common.{◌≡◌, ◌≢◌, ℕ, ◌+◌, ◌≤◌, ℤ, pos, true, false, ◌==◌, List, [], ◌∷◌, ◌++◌, length, length-append, refl, sym, ap, ◌∙◌, subst, inl, inr, arith}
use Rattle.std.specs.Prelude.{Option, Some, None, slice_get, FitsSigned}
use Rattle.std.specs.Int.{w32, int_wrapping_add}
use Rattle.std.proofs.lemmas.Bool.{cases_Bool, eqb-true}
use Rattle.std.proofs.lemmas.Bool.Decides.{nat_tests}
use Rattle.std.proofs.lemmas.Int.{ints}
use Rattle.sat_base.specs.Clip.{low16}
use Rattle.c_tree.specs.declared.simple.AssignMark.{AssignMark}
use Rattle.c_tree.specs.declared.simple.AssignMark.TheVariants as assign
use Rattle.operator_meaning.specs.declared.object.Object.{Object}
use Rattle.source_runs.specs.Calls.{sample_out}
use Rattle.source_runs.specs.Marks.{assigned, binary_meaning, both_meaning}
use Rattle.source_runs.specs.Runs.{Outcome, Gives, Stops, Goes, Run, continued, gives, ◌>>=◌, ◌>>◌, changing, reading}
use Rattle.source_runs.specs.Shapes.{shape_of}
use Rattle.source_runs.specs.State.{Kept, SourceState, converted, written, location, counted, put, with_overflow}
use Rattle.source_runs.specs.declared.location.Access.TheVariants.{Element}
use Rattle.typed_meaning.specs.Expressions.{Setting, Called, site_at}
use Rattle.typed_meaning.specs.Statements.{assignment_meaning, step_mark}
use Rattle.ir_arena.specs.Tree.{IrTree, Constant, Operate, Write, Step, WriteFlag, Out, AddCount, Variable}
use Rattle.tree_meaning.specs.Parts.{operate_meaning, value_unused}
use Rattle.tree_meaning.specs.Trees.{node_meaning, value_meaning, target_meaning}
use Rattle.code_lines.specs.declared.word.Word.{Word}
use Rattle.code_lines.specs.Words.{StandHere, Code, instr_of}
use Rattle.code_lines.specs.Own.{Addi, Ecall}
use Rattle.rv_encode.specs.State.{MachineState, Running, register, next_pc}
use Rattle.rv_encode.specs.Effects.{calls, effect_of}
use Rattle.code_lines.proofs.Leading.{leads_then}
use Rattle.template_runs.specs.Machine.{IsBefore}
use Rattle.code_lines.proofs.Lines.{lines_run, next_is, next_place, leads_one}
use Rattle.code_memory.specs.Memory.{store_code, IsStored}
use Rattle.code_memory.proofs.Accesses.{stores_are_done}
use Rattle.code_runs.specs.Doing.{Bond, Comes, Does}
use Rattle.code_runs.proofs.Parts.{in_turn}
use Rattle.code_stacks.specs.Places.{Layout, IsLaidOut}
use Rattle.code_stacks.specs.Agreement.{Agrees, IsWith, With}
use Rattle.code_stacks.proofs.Keeping.{IsSpare, keeps_registers, agrees_kept, variable_at}
use Rattle.code_stacks.proofs.Operands.{first_stands, second_stands}
use Rattle.expression_code.specs.Code.{convert_code, fits_sixteen, expression_code, weight_of}
use Rattle.expression_code.specs.Laws.{AreScalars, Valued}
use Rattle.expression_code.specs.Straight.{is_straight, height_of}
use Rattle.expression_code.proofs.Expressions.{expression_does}
use Rattle.expression_code.proofs.Leaves.{both_true, some_height}
use Rattle.expression_code.proofs.Placing.{top_fits, convert_done}
use Rattle.simple_code.specs.Code.{value_register, out_line, computed, written_by, stepped_by, assigned_code, simple_code, is_simple, weight_of_simple, height_of_simple}
use Rattle.simple_code.proofs.States.{agrees_counted, agrees_flagged, agrees_put, agrees_written}
use Rattle.code_runs.proofs.Steps.{passes_none, passes_still}

-- what follows what follows
in_row_of : {A B C : Type 0} (o : Outcome A) (next : A → Run B) (more : B → Run C) → continued (continued o next) more ≡ continued o (λ a s. continued (next a s) more)
in_row_of (Gives a s) next more = refl
in_row_of (Stops site s) next more = refl
in_row_of (Goes s) next more = refl

unequal : (a b : ℕ) → (a == b) ≡ false → a ≢ b
unequal a b apart e = grind (arith, nat_tests)

none_added : (x : ℤ) → FitsSigned w32 x → int_wrapping_add w32 x (pos 0) ≡ x
none_added x fits = grind (arith, ints)

-- these registers are none of the source
data IsTaken : ℕ → Type 0 where
  sample : IsTaken 10
  call : IsTaken 17
  flag : IsTaken 27

taken_spare : (n : ℕ) → IsTaken n → IsSpare 0 n
taken_spare n sample = record { based = unequal 10 3 refl; low = unequal 10 24 refl; high = unequal 10 25 refl; stack = λ place less low. absurd (omega arith) }
taken_spare n call = record { based = unequal 17 3 refl; low = unequal 17 24 refl; high = unequal 17 25 refl; stack = λ place less low. absurd (omega arith) }
taken_spare n flag = record { based = unequal 27 3 refl; low = unequal 27 24 refl; high = unequal 27 25 refl; stack = λ place less low. absurd (omega arith) }

untaken : (n other : ℕ) → IsTaken other → (IsTaken n → ⊥) → (n == other) ≡ false
untaken n other is never = elim (cases_Bool (n == other)) [ inl same ↦ absurd (never (subst IsTaken (sym (eqb-true n other same)) is)) | inr differ ↦ differ ]

module _ (code : Code) (turns : ℕ) (l : Layout) (laid : IsLaidOut code l) (here : Setting) (called : Called) (scalars : AreScalars here.objects l) where
  abbrev At : (k lag : ℕ) → Bond
  At k lag = With here.objects l k lag []

  abbrev value_code : IrTree → List Word
  value_code value = expression_code here.objects l value 0

  -- nothing is on the stack
  bare : (k lag : ℕ) (s : SourceState) (m : MachineState) → IsBefore k m → Agrees here.objects l lag s.kept m → At k lag s m
  bare k lag s m before agrees = record { before = before; agrees = agrees; stack = λ place less. absurd (omega arith) }

  -- the value is in x8
  top_is : (k lag : ℕ) (x : ℤ) (s : SourceState) (m : MachineState) → IsWith here.objects l k lag (x ∷ []) s m → register m 8 ≡ x
  top_is k lag x s m at = (at.stack 0 (omega arith)).0

  -- ---- the count

  count_does : (weight k lag : ℕ) → Does code turns (At k lag) (node_meaning here called (AddCount weight)).change (λ done. At (k + 0) (lag + weight))
  unfolding ◌>>◌ ◌>>=◌ changing
  count_does weight k lag s m at =
      let none : k ≡ k + 0 = omega arith in (
        m,
        passes_still code s.sites (Running m),
        subst (λ n. IsWith here.objects l n (lag + weight) [] (record s { kept = counted weight s.kept }) m) none
            (bare k (lag + weight) (record s { kept = counted weight s.kept }) m at.before (agrees_counted here.objects l lag weight s.kept m at.agrees)),
      )

  -- a value, and what is done with it
  module _ (value : IrTree) (straight : is_straight l value ≡ true) (room : height_of value ≤ l.depth) where
    valued_does : {A : Type 0} (k lag : ℕ) (rest : List Word) (next : ℤ → Run A) (after : A → Bond) → StandHere code k (value_code value ++ rest)
        → ((x : ℤ) (s : SourceState) (m : MachineState) → StandHere code (k + length (value_code value)) rest
        → Valued here.objects l (k + length (value_code value)) (lag + weight_of value) [] value x s m → Comes code turns (Running m) s.sites (λ a. 0) after (next x s))
        → Does code turns (At k lag) (value_meaning here called value >>= next) after
    valued_does k lag rest next after stands finishes =
        let xs = value_code value in
        in_turn code turns (At k lag) (value_meaning here called value) (Valued here.objects l (k + length xs) (lag + weight_of value) [] value) next after
        (expression_does code turns l laid here called scalars value k lag [] straight (omega arith) (first_stands code k xs rest stands))
        (λ x s m valued. finishes x s m (second_stands code k xs rest stands) valued)

    -- ---- values that are not used

    dropped_does : (k lag : ℕ) → StandHere code k (value_code value)
        → Does code turns (At k lag) (value_unused (value_meaning here called value)) (λ done. At (k + length (value_code value)) (lag + weight_of value))
    unfolding ◌>>◌
    dropped_does k lag stands =
        let place = k + length (value_code value) in
        let late = lag + weight_of value in
        in_turn code turns (At k lag) (value_meaning here called value) (Valued here.objects l place late [] value) (λ x. gives tt) (λ done. At place late)
        (expression_does code turns l laid here called scalars value k lag [] straight (omega arith) stands)
        (λ x s m valued. (m, passes_still code s.sites (Running m), bare place late s m valued.0.before valued.0.agrees))

    -- ---- Overflow

    flag_does : (k lag : ℕ) → StandHere code k (value_code value ++ Addi 27 value_register (pos 0) ∷ [])
        → Does code turns (At k lag) (node_meaning here called (WriteFlag value)).change (λ done. At (k + length (value_code value ++ Addi 27 value_register (pos 0) ∷ [])) (lag + weight_of value))
    unfolding changing
    flag_does k lag stands =
        let xs = value_code value in
        let line = Addi 27 value_register (pos 0) ∷ [] in
        let whole : k + length xs + 1 ≡ k + length (xs ++ line) = omega (arith, length-append xs line) in
        valued_does k lag line (λ x. changing (with_overflow x)) _ stands
        (λ x s m standing valued.
        let fits = top_fits code here.objects l laid (k + length xs) (lag + weight_of value) [] x s m valued.0 in
        let run = lines_run code (k + length xs) line m standing valued.0.before refl in
        let u = run.0 in
        let left = run.2 in
        let same : (n : ℕ) → (IsTaken n → ⊥) → register u n ≡ register m n = λ n never. left.file n ∙ rw (untaken n 27 flag never) refl in
        let keeps = keeps_registers l 0 m u IsTaken taken_spare same left.memory left.input left.output in
        let is : register u 27 ≡ x = left.file 27 ∙ ap (λ y. int_wrapping_add w32 y (pos 0)) (top_is (k + length xs) (lag + weight_of value) x s m valued.0) ∙ none_added x fits in
        let after : SourceState = record s { kept = with_overflow x s.kept } in (
          u,
          passes_none code 0 s.sites (Running m) (Running u) run.1,
          subst (λ n. IsWith here.objects l n (lag + weight_of value) [] after u) whole
              (bare (k + length xs + 1) (lag + weight_of value) after u left.before (agrees_flagged here.objects l (lag + weight_of value) x s.kept m u keeps is fits valued.0.agrees)),
        ))

    -- ---- samples that are written

    out_does : (k lag : ℕ) → StandHere code k (value_code value ++ (out_line ++ Ecall ∷ []))
        → Does code turns (At k lag) (node_meaning here called (Out value)).change (λ done. At (k + length (value_code value ++ (out_line ++ Ecall ∷ []))) (lag + weight_of value))
    unfolding sample_out changing ◌>>◌ ◌>>=◌
    out_does k lag stands =
        let xs = value_code value in
        let place = k + length (xs ++ (out_line ++ Ecall ∷ [])) in
        let whole : k + length xs + 2 + 1 ≡ place = omega (arith, length-append xs (out_line ++ Ecall ∷ [])) in
        in_turn code turns (At k lag) (value_meaning here called value >>= (λ x. sample_out x >> gives (pos 0))) (λ z. At place (lag + weight_of value)) (λ z. gives tt) (λ done. At place (lag + weight_of value))
        (valued_does k lag (out_line ++ Ecall ∷ []) (λ x. sample_out x >> gives (pos 0)) (λ z. At place (lag + weight_of value)) stands
        (λ x s m standing valued.
        let start = k + length xs in
        let fits = top_fits code here.objects l laid start (lag + weight_of value) [] x s m valued.0 in
        let run = lines_run code start out_line m (first_stands code start out_line (Ecall ∷ []) standing) valued.0.before refl in
        let u = run.0 in
        let left = run.2 in
        let same : (n : ℕ) → (IsTaken n → ⊥) → register u n ≡ register m n = λ n never. left.file n ∙ rw (untaken n 17 call never, untaken n 10 sample never) refl in
        let keeps = keeps_registers l 0 m u IsTaken taken_spare same left.memory left.input left.output in
        let agrees = agrees_kept here.objects l (lag + weight_of value) 0 s.kept m u keeps (left.file 27) valued.0.agrees in
        let given : register u 10 ≡ x = left.file 10 ∙ ap (λ y. int_wrapping_add w32 y (pos 0)) (top_is start (lag + weight_of value) x s m valued.0) ∙ none_added x fits in
        let asked : register u 17 ≡ pos 3 = left.file 17 ∙ ap (λ y. int_wrapping_add w32 y (pos 3)) valued.0.before.zero_is in
        let call_stands = second_stands code start out_line (Ecall ∷ []) standing in
        let v : MachineState = record u { pc = next_pc u.pc; output = u.output ++ low16 (register u 10) ∷ [] } in
        let effect : effect_of (instr_of Ecall) u ≡ Running v = ap (calls u) asked in
        let written = leads_one code (start + 2) Ecall u call_stands left.before (Running v) refl (next_is code (start + 2) Ecall u call_stands left.before ∙ effect) in
        let after : SourceState = record s { kept = put x s.kept } in (
          v,
          passes_none code 0 s.sites (Running m) (Running v) (leads_then code (Running m) (Running u) (Running v) run.1 written),
          subst (λ n. IsWith here.objects l n (lag + weight_of value) [] after v) whole
              (bare (start + 2 + 1) (lag + weight_of value) after v
              (record { pc = next_place code (start + 2) Ecall u call_stands left.before; count = left.before.count; zero_is = left.before.zero_is })
              (agrees_put here.objects l (lag + weight_of value) x s.kept u v agrees (λ n. refl) refl refl (ap (λ y. u.output ++ low16 y ∷ []) given))),
        )))
        (λ z s m at. (m, passes_still code s.sites (Running m), at))

    -- ---- variables

    -- Where the value is on the stack, it goes to the word of the variable, converted to its width. That does what any change
    -- does which writes the value to the variable wherever source and machine agree.
    pub stored_does : (n k lag : ℕ) (x : ℤ) (change : Kept → Kept) → l.is_variable n ≡ true
        → ((kept : Kept) (m : MachineState) → Agrees here.objects l lag kept m → change kept ≡ written (shape_of here.objects n).width (location n 0) x kept)
        → StandHere code k (convert_code here.objects l (shape_of here.objects n).width (fits_sixteen here.objects value) 0 ++ store_code value_register (l.slot n))
        → Does code turns (Valued here.objects l k lag [] value x) (changing change)
        (λ done. At (k + length (convert_code here.objects l (shape_of here.objects n).width (fits_sixteen here.objects value) 0 ++ store_code value_register (l.slot n))) lag)
    unfolding changing
    stored_does n k lag x change is same stands t v valued =
        let wide = (shape_of here.objects n).width in
        let cs = convert_code here.objects l wide (fits_sixteen here.objects value) 0 in
        let storing = store_code value_register (l.slot n) in
        let whole : k + length cs + length storing ≡ k + length (cs ++ storing) = omega (arith, length-append cs storing) in
        let converting = convert_done code here.objects l laid k lag [] x wide (fits_sixteen here.objects value) t v valued.1 (omega (arith, some_height value)) (first_stands code k cs storing stands) valued.0 in
        let u = converting.0.0 in
        let there = converting.0.2 in
        let c = converted wide x in
        let stored = stores_are_done code (k + length cs) value_register (l.slot n) u (second_stands code k cs storing stands) there.before there.agrees.based
        (variable_at l u.memory n laid there.agrees.size is) (unequal 8 5 refl) in
        let w = stored.0 in
        let kept_there = subst (λ y. IsStored (k + length cs + length storing) (l.slot n) y u w) (top_is (k + length cs) lag c t u there) stored.2 in
        let after : SourceState = record t { kept = written wide (location n 0) x t.kept } in
        let there_after = subst (λ p. IsWith here.objects l p lag [] after w) whole
        (bare (k + length cs + length storing) lag after w stored.2.before
        (agrees_written here.objects l laid lag (k + length cs + length storing) n wide x t.kept u w is refl there.agrees kept_there converting.1)) in (
          w,
          passes_none code 0 t.sites (Running v) (Running w) (leads_then code (Running v) (Running u) (Running w) converting.0.1 stored.1),
          subst (λ kept. IsWith here.objects l (k + length (cs ++ storing)) lag [] (record t { kept = kept }) w) (sym (same t.kept v valued.0.agrees)) there_after,
        )

    -- a value is evaluated, and what it gives is written to a variable
    pub assigned_does : (n k lag : ℕ) (change : ℤ → Kept → Kept) → l.is_variable n ≡ true
        → ((x : ℤ) (kept : Kept) (m : MachineState) → Agrees here.objects l (lag + weight_of value) kept m → change x kept ≡ written (shape_of here.objects n).width (location n 0) x kept)
        → StandHere code k (assigned_code here.objects l (Variable n) value)
        → Does code turns (At k lag) (value_meaning here called value >>= (λ x. changing (change x)))
        (λ done. At (k + length (assigned_code here.objects l (Variable n) value)) (lag + weight_of value))
    assigned_does n k lag change is same stands =
        let xs = value_code value in
        let rest = convert_code here.objects l (shape_of here.objects n).width (fits_sixteen here.objects value) 0 ++ store_code value_register (l.slot n) in
        let whole : k + length xs + length rest ≡ k + length (xs ++ rest) = omega (arith, length-append xs rest) in
        let late = lag + weight_of value in
        valued_does k lag rest (λ x. changing (change x)) (λ done. At (k + length (xs ++ rest)) late) stands
        (λ x s m standing valued.
        subst (λ p. Comes code turns (Running m) s.sites (λ done. 0) (λ done. At p late) (changing (change x) s)) whole (stored_does n (k + length xs) late x (change x) is (same x) standing s m valued))

  -- ---- assignments and steps

  pub object_is : (n : ℕ) (found : Option Object) → slice_get here.objects n ≡ found → (shape_of here.objects n).object ≡ n
  object_is n None is = rw is refl
  object_is n (Some object) is = rw is refl

  -- what an assignment to a scalar does
  abbrev assigning : ℕ → Run ℤ → Run (Unit {0})
  assigning n value = value >>= (λ x. changing (written (shape_of here.objects (shape_of here.objects n).object).width (location (shape_of here.objects n).object 0) x))

  assignment_is : (n : ℕ) (mark : AssignMark) (site : ℕ) (value : IrTree) (s : SourceState) → (shape_of here.objects n).view ≡ false
      → assignment_meaning here (target_meaning here called (Variable n) Element) mark site (value_meaning here called value) s
      ≡ assigning n (value_meaning here called (computed (Variable n) mark site value)) s
  unfolding assignment_meaning assigned reading binary_meaning both_meaning operate_meaning ◌>>=◌
  assignment_is n assign.Plain site value s scalar = rw scalar refl
  assignment_is n assign.Plus site value s scalar = rw scalar (sym (in_row_of (value_meaning here called value s) _ _))
  assignment_is n assign.Minus site value s scalar = rw scalar (sym (in_row_of (value_meaning here called value s) _ _))
  assignment_is n assign.Times site value s scalar = rw scalar (sym (in_row_of (value_meaning here called value s) _ _))
  assignment_is n assign.And site value s scalar = rw scalar (sym (in_row_of (value_meaning here called value s) _ _))
  assignment_is n assign.Or site value s scalar = rw scalar (sym (in_row_of (value_meaning here called value s) _ _))
  assignment_is n assign.Xor site value s scalar = rw scalar (sym (in_row_of (value_meaning here called value s) _ _))

  assignment_does : (n : ℕ) (mark : AssignMark) (site : ℕ) (value : IrTree) (k lag : ℕ) → l.is_variable n ≡ true → is_straight l (computed (Variable n) mark site value) ≡ true
      → height_of (computed (Variable n) mark site value) ≤ l.depth → StandHere code k (assigned_code here.objects l (Variable n) (computed (Variable n) mark site value))
      → Does code turns (At k lag) (assignment_meaning here (target_meaning here called (Variable n) Element) mark site (value_meaning here called value))
      (λ done. At (k + length (assigned_code here.objects l (Variable n) (computed (Variable n) mark site value))) (lag + weight_of (computed (Variable n) mark site value)))
  assignment_does n mark site value k lag is straight room stands s m at =
      let e = computed (Variable n) mark site value in
      let place = k + length (assigned_code here.objects l (Variable n) e) in
      let own : (shape_of here.objects n).object ≡ n = object_is n (slice_get here.objects n) refl in
      let same : (x : ℤ) (kept : Kept) → written (shape_of here.objects (shape_of here.objects n).object).width (location (shape_of here.objects n).object 0) x kept
      ≡ written (shape_of here.objects n).width (location n 0) x kept = λ x kept. ap (λ o. written (shape_of here.objects o).width (location o 0) x kept) own in
      subst (Comes code turns (Running m) s.sites (λ done. 0) (λ done. At place (lag + weight_of e))) (sym (assignment_is n mark site value s (scalars n is)))
      (assigned_does e straight room n k lag (λ x. written (shape_of here.objects (shape_of here.objects n).object).width (location (shape_of here.objects n).object 0) x) is
      (λ x kept m agrees. same x kept) stands s m at)

  -- ---- the whole

  abbrev DoesSimple : IrTree → Type 0
  DoesSimple part = (k lag : ℕ) → is_simple l part ≡ true → height_of_simple part ≤ l.depth → StandHere code k (simple_code here.objects l part)
      → Does code turns (At k lag) (node_meaning here called part).change (λ done. At (k + length (simple_code here.objects l part)) (lag + weight_of_simple part))

  never : (part : IrTree) → is_simple l part ≡ false → DoesSimple part
  never part other k lag simple room stands = absurd (let f = simple in let g = other in cc)

  pub simple_does : (part : IrTree) → DoesSimple part
  simple_does (Write (Variable n) mark width site value) = λ k lag simple room stands.
      let parts = both_true (l.is_variable n) (is_straight l (written_by (Variable n) mark site value)) simple in
      assignment_does n mark (site_at site) value k lag parts.0 parts.1 room stands
  simple_does (Step (Variable n) up width site) = λ k lag simple room stands.
      let parts = both_true (l.is_variable n) (is_straight l (stepped_by (Variable n) up site)) simple in
      assignment_does n (step_mark up) site (Constant (pos 1)) k lag parts.0 parts.1 room stands
  simple_does (WriteFlag value) = λ k lag simple room stands. flag_does value simple room k lag stands
  simple_does (Out value) = λ k lag simple room stands. out_does value simple room k lag stands
  simple_does (AddCount weight) = λ k lag simple room stands. count_does weight k lag
  simple_does (Operate site kind operands weight) = λ k lag simple room stands. dropped_does (Operate site kind operands weight) simple room k lag stands
  simple_does part = never part refl
