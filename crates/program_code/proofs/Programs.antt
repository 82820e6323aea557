-- A program from its first instruction to its last.
use Rattle.std.proofs.Common.{◌≡◌, ◌≢◌, ℕ, suc, ◌+◌, ◌*◌, ◌%◌, ◌^◌, ◌≤◌, ℤ, pos, Bool, List, [], ◌∷◌, ◌++◌, length, length-append, refl, sym, ap, ◌∙◌, subst, arith}
use Rattle.std.specs.Prelude.{◌≤ℤ◌, negsuc, FitsSigned, Option, Some, slice_get, is_some}
use Rattle.std.specs.Int.{w16, w32, cast_unsigned, int_wrapping_add}
use Rattle.std.proofs.lemmas.Bool.{eqb-false}
use Rattle.std.proofs.lemmas.Int.{ints}
use Rattle.std.proofs.lemmas.List.Elements.{All-weaker}
use Rattle.source_runs.specs.declared.halt.Flow.{Flow}
use Rattle.source_runs.specs.declared.halt.Flow.TheVariants.{Normal, Break, Continue, Return}
use Rattle.source_runs.specs.Runs.{state_after, Outcome, Gives, Stops, Goes, Run, continued, gives, changing, ◌>>=◌, ◌>>◌}
use Rattle.source_runs.specs.State.{SourceState}
use Rattle.source_runs.specs.Steps.{given_to_all, opening_state}
use Rattle.typed_meaning.specs.Expressions.{Setting, Called}
use Rattle.typed_meaning.specs.Observed.{observation_of, returned}
use Rattle.ir_arena.specs.Tree.{IrWhole, TreeFunction}
use Rattle.tree_meaning.specs.Observed.{called_with, function_with, tree_observed, tree_trace, tree_opening, tree_setting}
use Rattle.tree_meaning.specs.Parts.{plain_acts}
use Rattle.tree_meaning.specs.Trees.{statement_meaning}
use Rattle.code_lines.specs.declared.word.Word.{Word}
use Rattle.code_lines.specs.Words.{StandHere, Code, instr_of}
use Rattle.code_lines.specs.Own.{Ecall}
use Rattle.rv_encode.specs.State.{MachineState, Moment, Ended, Stopped, Running, Over, register, count_of}
use Rattle.rv_encode.specs.Effects.{calls, effect_of}
use Rattle.code_lines.specs.Leading.{Leads}
use Rattle.code_lines.proofs.Leading.{leads_then}
use Rattle.code_runs.proofs.Steps.{passes_all, passes_none, passes_then}
use Rattle.image_format.specs.declared.image.Image.{Image}
use Rattle.image_format.specs.Runs.{loaded}
use Rattle.image_format.specs.RunsAlike.{AreSamples}
use Rattle.code_lines.proofs.Flushes.{no_weight}
use Rattle.code_lines.proofs.Lines.{lines_run, leads_one, next_is}
use Rattle.code_lines.proofs.Pieces.{numbers_are_made}
use Rattle.code_memory.specs.Memory.{base_register, base}
use Rattle.code_runs.specs.Doing.{Comes, Does, Shows}
use Rattle.code_runs.specs.Laws.{code_of}
use Rattle.code_runs.proofs.Alike.{are_alike}
use Rattle.code_runs.proofs.Parts.{later}
use Rattle.code_stacks.specs.Places.{Layout, IsLaidOut}
use Rattle.code_stacks.specs.Agreement.{IsHeld, IsWith, With}
use Rattle.code_stacks.proofs.Operands.{first_stands, second_stands}
use Rattle.statement_code.specs.Code.{nowhere, part_of}
use Rattle.statement_code.specs.Laws.{Led, Targets, result_of, weight_of_statement}
use Rattle.statement_code.proofs.Parts.{whole_done}
use Rattle.statement_code.proofs.Statements.{statement_done}
use Rattle.program_code.specs.Code.{start_code, end_line, end_code, body_code, program_code}
use Rattle.program_code.specs.Laws.{IsFirst, IsProgram, ProgramsRunAlike}

module _ (tree : IrWhole) (l : Layout) (main : TreeFunction) (near : Bool) (image : Image) (begins : ℕ → Option ℕ) (laid : IsLaidOut (code_of image begins l.is_wordless) l) (is : IsProgram tree l main) (first : IsFirst tree.objects l image.memory)
    (stands : StandHere (code_of image begins l.is_wordless) 0 (program_code tree.objects l near main.body)) (input : List ℤ) (turns : ℕ) where
  abbrev code : Code
  code = code_of image begins l.is_wordless

  abbrev here : Setting
  here = tree_setting tree turns

  abbrev has_result : Bool
  has_result = is_some main.gives

  abbrev body : List Word
  body = body_code tree.objects l near main.body

  abbrev begin : ℕ
  begin = 0 + length start_code

  abbrev place : ℕ
  place = begin + length body

  abbrev after_start : StandHere code begin (body ++ end_code)
  after_start = second_stands code 0 start_code (body ++ end_code) stands

  -- ---- the start

  opening_is : (input : List ℤ) → AreSamples input → (t : MachineState) × Leads code (Running (loaded image input)) (Running t) × With tree.objects l begin 0 [] (tree_opening tree input) t
  opening_is input samples =
      let s = loaded image input in
      let run = lines_run code 0 start_code s (first_stands code 0 start_code (body ++ end_code) stands) (record { pc = refl; count = refl; zero_is = refl }) refl in
      let t = run.0 in
      let left = run.2 in
      let made = numbers_are_made base_register base (register s) (eqb-false 3 0 refl) base_fits refl in
      let still : (n : ℕ) → n ≢ 3 → register t n ≡ register s n = λ n apart. left.file n ∙ made.1 n apart in
      let low : register t 24 ≡ pos 0 = still 24 (eqb-false 24 3 refl) in
      let high : register t 25 ≡ pos 0 = still 25 (eqb-false 25 3 refl) in (
        t,
        run.1,
        record {
          before = left.before;
          agrees = record {
            based = left.file 3 ∙ made.0;
            flag = still 27 (eqb-false 27 3 refl);
            flag_fits = zero_fits;
            count = sym (ap (λ x. (cast_unsigned w32 x * 2 ^ 32 + cast_unsigned w32 (register t 24) + 0) % 2 ^ 64) high ∙ ap (λ x. (cast_unsigned w32 (pos 0) * 2 ^ 32 + cast_unsigned w32 x + 0) % 2 ^ 64) low);
            halves = (subst (FitsSigned w32) (sym low) zero_fits, subst (FitsSigned w32) (sym high) zero_fits);
            input = left.input;
            samples = All-weaker (λ sample. (negsuc 32767 ≤ℤ sample) × (sample ≤ℤ pos 32767)) (FitsSigned w16) sixteen input samples;
            output = left.output;
            size = ap length left.memory ∙ first.size;
            variables = λ n variable. let held = first.variables n variable in subst (λ memory. IsHeld tree.objects l (opening_state tree.objects input) memory n) (sym left.memory) (record { numbers = held.numbers; fits = held.fits });
          };
          stack = λ place less. absurd (omega arith);
        },
      )
    where
      base_fits : FitsSigned w32 base
      base_fits = grind (arith, ints)

      sixteen : (sample : ℤ) → (negsuc 32767 ≤ℤ sample) × (sample ≤ℤ pos 32767) → FitsSigned w16 sample
      sixteen sample is = grind (arith, ints)

      zero_fits : FitsSigned w32 (pos 0)
      zero_fits = grind (arith, ints)

  -- ---- the end

  ends : (values : List ℤ) (s : SourceState) (m : MachineState) → IsWith tree.objects l place 0 values s m → Leads code (Running m) (Over (Ended s.kept.overflow s.kept.count) s.kept.output)
  ends values s m at =
      let standing = second_stands code begin body end_code after_start in
      let run = lines_run code place end_line m (first_stands code place end_line (Ecall ∷ []) standing) at.before refl in
      let t = run.0 in
      let left = run.2 in
      let call_stands = second_stands code place end_line (Ecall ∷ []) standing in
      let asked : register t 17 ≡ pos 4 = left.file 17 ∙ ap (λ y. int_wrapping_add w32 y (pos 4)) at.before.zero_is in
      let flag : register t 27 ≡ s.kept.overflow = left.file 27 ∙ at.agrees.flag in
      let count : count_of t ≡ s.kept.count =
      ap (λ x. cast_unsigned w32 (register t 25) * 2 ^ 32 + cast_unsigned w32 x) (left.file 24) ∙ ap (λ x. cast_unsigned w32 x * 2 ^ 32 + cast_unsigned w32 (register m 24)) (left.file 25)
      ∙ no_weight (register m 25) (register m 24) at.agrees.halves.1 at.agrees.halves.0 ∙ sym at.agrees.count in
      let over : effect_of (instr_of Ecall) t ≡ Over (Ended s.kept.overflow s.kept.count) s.kept.output =
      ap (calls t) asked ∙ ap (λ x. Over (Ended x (count_of t)) t.output) flag ∙ ap (λ n. Over (Ended s.kept.overflow n) t.output) count ∙ ap (λ o. Over (Ended s.kept.overflow s.kept.count) o) (left.output ∙ at.agrees.output) in
      leads_then code (Running m) (Running t) (Over (Ended s.kept.overflow s.kept.count) s.kept.output) run.1
      (leads_one code (place + 1) Ecall t call_stands left.before (Over (Ended s.kept.overflow s.kept.count) s.kept.output) refl (next_is code (place + 1) Ecall t call_stands left.before ∙ over))

  abbrev targets : Targets
  targets = record { again = place; left = place; returned = place }

  by_flow : (flow : Flow) (s : SourceState) (m : MachineState) → Led tree.objects l has_result targets place 0 flow s m → Leads code (Running m) (Over (Ended s.kept.overflow s.kept.count) s.kept.output)
  by_flow Normal s m at = ends [] s m at
  by_flow Break s m at = ends [] s m at
  by_flow Continue s m at = ends [] s m at
  by_flow (Return value) s m at = ends (result_of has_result value) s m at

  abbrev given_on : Outcome Flow → Outcome ℤ
  given_on o = continued o (λ flow. gives (returned main.gives flow))

  shows : (from : Moment) (o : Outcome Flow) → Comes code turns from [] (λ flow. 0) (Led tree.objects l has_result targets place 0) o → Shows code turns from (state_after (given_on o)).sites (observation_of (given_on o))
  shows from (Gives flow s) comes =
      let over = Over (Ended s.kept.overflow s.kept.count) s.kept.output in
      passes_all code 0 s.sites from over (passes_then code [] s.sites from (Running comes.0) over comes.1 (by_flow flow s comes.0 comes.2))
  shows from (Stops site s) comes = passes_all code 0 s.sites from (Over (Stopped site) s.kept.output) comes
  shows from (Goes s) comes = (comes.0, passes_all code turns s.sites from (Running comes.0) comes.1, comes.2)

  -- ---- the whole

  abbrev called : ℕ → Called
  called depth = called_with plain_acts depth tree turns

  body_does : (depth : ℕ) → Does code turns (With tree.objects l begin 0 []) (statement_meaning here (called depth) main.body) (Led tree.objects l has_result targets place 0)
  body_does depth =
      let near_end = after_start.within in
      let end : place ≤ 16777216 = omega (arith, length-append body end_code) in
      whole_done code turns l laid here near has_result (part_of tree.objects l near main.body) (statement_meaning here (called depth) main.body) (weight_of_statement main.body) begin nowhere targets
      (statement_done code l laid here near has_result (called depth) is.scalars main.body is.statement) is.light (first_stands code begin body end_code after_start)
      (record { again = omega (arith, ints); left = omega (arith, ints); returned = omega (arith, ints); again_near = end; left_near = end; returned_near = end })

  -- main has no parameters
  no_givens : (params : List ℕ) (s : SourceState) (next : Run Flow) → params ≡ [] → (changing (given_to_all tree.objects params []) >> next) s ≡ next s
  unfolding changing ◌>>◌ ◌>>=◌
  no_givens params s next none = rw none refl

  run_is : (depth : ℕ) (s : SourceState) → length tree.functions ≡ suc depth
      → called_with plain_acts (length tree.functions) tree turns tree.main [] s ≡ continued (statement_meaning here (called depth) main.body s) (λ flow. gives (returned main.gives flow))
  unfolding called_with function_with ◌>>=◌
  run_is depth s long = rw (long, is.is) (ap (λ o. continued o (λ flow. gives (returned main.gives flow))) (no_givens main.params s (statement_meaning here (called depth) main.body) is.takes_nothing))

  some_functions : (functions : List TreeFunction) (n : ℕ) (function : TreeFunction) → slice_get functions n ≡ Some function → (depth : ℕ) × (length functions ≡ suc depth)
  some_functions [] n function found = absurd (let e = found in cc)
  some_functions (f ∷ rest) n function found = (length rest, omega arith)

  pub program_shows : AreSamples input → Shows code turns (Running (loaded image input)) (tree_trace tree input turns) (tree_observed tree input turns)
  program_shows samples =
      let some = some_functions tree.functions tree.main main is.is in
      let s = tree_opening tree input in
      let opened = opening_is input samples in
      let t = opened.0 in
      let done = body_does some.0 s t opened.2 in
      subst (λ o. Shows code turns (Running (loaded image input)) (state_after o).sites (observation_of o)) (sym (run_is some.0 s some.1))
      (shows (Running (loaded image input)) (statement_meaning here (called some.0) main.body s)
      (later code 0 turns turns [] [] (Running (loaded image input)) t (λ flow. 0) (λ flow. 0) (Led tree.objects l has_result targets place 0) (statement_meaning here (called some.0) main.body s) (omega arith) (λ flow. omega arith)
      (passes_none code 0 [] (Running (loaded image input)) (Running t) opened.1) done))

pub programs_run_alike : ProgramsRunAlike
programs_run_alike tree l main near image begins laid is first stands =
    are_alike (tree_observed tree) (tree_trace tree) image begins l.is_wordless (λ input turns samples. program_shows tree l main near image begins laid is first stands input turns samples)
