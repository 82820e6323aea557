-- One of two parts by a condition.
use Rattle.std.proofs.Common.{◌≡◌, ℕ, ◌+◌, ◌^◌, ◌<◌, ◌≤◌, pos, Bool, true, false, not, List, [], ◌∷◌, ◌++◌, length, length-append, sym, ap, subst, arith}
use Rattle.std.proofs.lemmas.Int.{ints}
use Rattle.source_runs.specs.declared.halt.Flow.{Flow}
use Rattle.source_runs.specs.declared.halt.Flow.TheVariants.{Normal}
use Rattle.source_runs.specs.Runs.{Run, gives, holds, choosing}
use Rattle.typed_meaning.specs.Expressions.{Setting, Called}
use Rattle.code_lines.specs.declared.word.Word.{Word}
use Rattle.code_lines.specs.Words.{StandHere, Code}
use Rattle.rv_encode.specs.State.{MachineState, Running}
use Rattle.ir_arena.specs.Tree.{IrTree}
use Rattle.tree_meaning.specs.Trees.{value_meaning}
use Rattle.code_runs.specs.Doing.{Bond, Does, Moves, one_of_two, side}
use Rattle.code_runs.proofs.Parts.{later, moves_on, nothing, one_of}
use Rattle.code_lines.proofs.Leading.{leads_at_all, leads_nowhere}
use Rattle.code_stacks.specs.Places.{Layout, IsLaidOut}
use Rattle.code_stacks.proofs.Operands.{first_stands, second_stands}
use Rattle.expression_code.specs.Laws.{AreScalars}
use Rattle.condition_code.specs.Code.{condition_code}
use Rattle.condition_code.specs.Laws.{Decided, one_if_met, weight_of_condition}
use Rattle.condition_code.proofs.Conditions.{condition_does}
use Rattle.statement_code.specs.Laws.{AreReached, IsTest, Targets}
use Rattle.statement_code.specs.Code.{before, Part, choice, first_branch, guarded_code, reach_over, skip_code, whole_code}
use Rattle.statement_code.proofs.Parts.{At, Flows, IsDone, flows_on, leaves, left_steady, reached_before, stay, whole_done, whole_steady}
use Rattle.code_runs.proofs.Steps.{passes_still}

swapped : (a b : Bond) (c : Bool) (s : _) (m : MachineState) → side a b (not c) s m → side b a c s m
swapped a b true s m has = has
swapped a b false s m has = has

module _ (code : Code) (turns : ℕ) (l : Layout) (laid : IsLaidOut code l) (here : Setting) (near has_result : Bool) (called : Called) (scalars : AreScalars here.objects l) where
  abbrev Stands : (k lag : ℕ) → Bond
  Stands = At code turns l laid here near has_result

  abbrev Ends : Targets → (end late : ℕ) → Flow → Bond
  Ends = Flows code turns l laid here near has_result

  abbrev Good : Part → Run Flow → ℕ → Type 0
  Good = IsDone code turns l laid here near has_result

  abbrev guard : IrTree → (lag : ℕ) → (guarded : List Word) → List Word
  guard cond lag guarded = condition_code here.objects l (reach_over here.objects l near (length guarded) cond false lag) 0 cond false lag (pos (length guarded))

  -- a condition that leads over what it guards
  guarded_done : (cond : IrTree) (k lag : ℕ) (guarded : List Word) → IsTest l cond → lag + weight_of_condition cond < 2 ^ 31 → StandHere code k (guarded_code here.objects l near cond lag guarded)
      → Does code turns (Stands k lag) (value_meaning here called cond) (one_of_two (Stands (k + length (guard cond lag guarded)) 0) (Stands (k + length (guarded_code here.objects l near cond lag guarded)) 0))
  guarded_done cond k lag guarded test small stands =
      let c = guard cond lag guarded in
      let own = k + length c in
      let end = k + length (c ++ guarded) in
      let within = stands.within in
      let does = condition_does code turns l laid here called scalars (reach_over here.objects l near (length guarded) cond false lag) cond false k lag [] (pos (length guarded)) end test.0 (omega (arith, test.1)) small (first_stands code k c guarded stands)
      (omega (arith, ints, length-append c guarded)) within in
      moves_on code turns (Stands k lag) (value_meaning here called cond) (Decided here.objects l end own [] false) (one_of_two (Stands own 0) (Stands end 0))
      (λ s m has. later code 0 turns turns s.sites s.sites (Running m) m (one_if_met false) (λ a. 0) (Decided here.objects l end own [] false) (value_meaning here called cond s) (omega arith) (λ a. omega arith) (passes_still code s.sites (Running m)) (does s m has))
      (λ value s m has. (m, leads_at_all code 0 (Running m) (Running m) (leads_nowhere code (Running m)), swapped (Stands end 0) (Stands own 0) (holds value) s m has))

  guarded_steady : (cond : IrTree) (lag : ℕ) (one other : List Word) → length one ≡ length other → length (guarded_code here.objects l near cond lag one) ≡ length (guarded_code here.objects l near cond lag other)
  guarded_steady cond lag one other same =
      let conditions = ap (λ n. length (condition_code here.objects l (reach_over here.objects l near n cond false lag) 0 cond false lag (pos n))) same in
      omega (arith, same, conditions, length-append (guard cond lag one) one, length-append (guard cond lag other) other)

  pub one_branch : (cond : IrTree) (this : Part) (run : Run Flow) (weight : ℕ) → IsTest l cond → Good this run weight
      → Good (choice here.objects l near cond this []) (choosing (value_meaning here called cond) run (gives Normal)) (weight_of_condition cond + weight)
  one_branch cond this run weight test done = record {
    does = λ k lag ways targets small stands reached.
        let g = whole_code this ways in
        let c = guard cond lag g in
        let end = k + length (c ++ g) in
        let whole : k + length c + length g ≡ end = omega (arith, length-append c g) in
        one_of code turns (Stands k lag) (value_meaning here called cond) (Stands (k + length c) 0) (Stands end 0) run (gives Normal) (Ends targets end 0)
        (guarded_done cond k lag g test (omega arith) stands)
        (subst (λ e. Does code turns (Stands (k + length c) 0) run (Ends targets e 0)) whole
        (whole_done code turns l laid here near has_result this run weight (k + length c) ways targets done (omega arith) (second_stands code k c g stands) (subst (λ e. AreReached e ways targets) (sym whole) reached)))
        (nothing code turns Normal (Stands end 0) (Ends targets end 0) (stay code turns l laid here near has_result (Stands end 0)));
    bounded = λ lag. omega arith;
    steady = λ lag ways other. guarded_steady cond lag (whole_code this ways) (whole_code this other) (whole_steady code turns l laid here near has_result this run weight done ways other);
  }

  -- a jump over so many words
  pub skips : (k words : ℕ) → StandHere code k (skip_code here.objects l near words) → k + length (skip_code here.objects l near words) + words ≤ 16777216
      → Moves code (Stands k 0) (Stands (k + length (skip_code here.objects l near words) + words) 0)
  skips k words stands close s m at =
      let to = leaves code turns l laid here near has_result k 0 [] [] (pos words) (k + length (skip_code here.objects l near words) + words) s m (omega arith) stands (omega (arith, ints)) close at in
      (to.0, leads_at_all code 1 (Running m) (Running to.0) to.1, to.2)

  pub two_branches : (cond : IrTree) (this other : Part) (rest : List Part) (run otherwise : Run Flow) (weight more : ℕ) → IsTest l cond → Good this run weight → Good other otherwise more
      → Good (choice here.objects l near cond this (other ∷ rest)) (choosing (value_meaning here called cond) run otherwise) (weight_of_condition cond + weight + more)
  two_branches cond this other rest run otherwise weight more test done other_done = record {
    does = λ k lag ways targets small stands reached.
        let o = whole_code other ways in
        let sk = skip_code here.objects l near (length o) in
        let over = before (length sk + length o) ways in
        let t = whole_code this over in
        let g = t ++ sk in
        let c = guard cond lag g in
        let begin = k + length c in
        let mid = k + length (c ++ g) in
        let end = k + length ((c ++ g) ++ o) in
        let within = stands.within in
        let whole : mid + length o ≡ end = omega (arith, length-append (c ++ g) o) in
        let skipped : begin + length t + length sk + length o ≡ end = omega (arith, length-append (c ++ g) o, length-append c g, length-append t sk) in
        let guarded = first_stands code k (c ++ g) o stands in
        let branch = second_stands code k c g guarded in
        one_of code turns (Stands k lag) (value_meaning here called cond) (Stands begin 0) (Stands mid 0) run otherwise (Ends targets end 0)
        (guarded_done cond k lag g test (omega arith) guarded)
        (moves_on code turns (Stands begin 0) run (Ends targets (begin + length t) 0) (Ends targets end 0)
        (whole_done code turns l laid here near has_result this run weight begin over targets done (omega arith) (first_stands code begin t sk branch)
        (reached_before (begin + length t) (length sk + length o) end ways targets (omega (arith, skipped)) reached))
        (flows_on code turns l laid here near has_result targets (begin + length t) end 0 0
        (subst (λ e. Moves code (Stands (begin + length t) 0) (Stands e 0)) skipped (skips (begin + length t) (length o) (second_stands code begin t sk branch) (omega (arith, skipped, within))))))
        (subst (λ e. Does code turns (Stands mid 0) otherwise (Ends targets e 0)) whole
        (whole_done code turns l laid here near has_result other otherwise more mid ways targets other_done (omega arith) (second_stands code k (c ++ g) o stands) (subst (λ e. AreReached e ways targets) (sym whole) reached)));
    bounded = λ lag. omega arith;
    steady = λ lag ways ways2.
        let o = whole_code other ways in
        let p = whole_code other ways2 in
        let one = first_branch here.objects l near this o ways in
        let two = first_branch here.objects l near this p ways2 in
        let own = before (length (skip_code here.objects l near (length o)) + length o) ways in
        let own2 = before (length (skip_code here.objects l near (length p)) + length p) ways2 in
        let others = whole_steady code turns l laid here near has_result other otherwise more other_done ways ways2 in
        let firsts = whole_steady code turns l laid here near has_result this run weight done own own2 in
        let same : length one ≡ length two =
        omega (arith, firsts, left_steady here.objects l near 0 (pos (length o)) (pos (length p)), length-append (whole_code this own) (skip_code here.objects l near (length o)), length-append (whole_code this own2) (skip_code here.objects l near (length p))) in
        omega (arith, others, guarded_steady cond lag one two same, length-append (guarded_code here.objects l near cond lag one) o, length-append (guarded_code here.objects l near cond lag two) p);
  }
