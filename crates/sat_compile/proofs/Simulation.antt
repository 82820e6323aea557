-- The machine does what a source of the first form does.
use Rattle.std.proofs.Common.{◌≡◌, ℕ, ◌+◌, ◌*◌, ◌^◌, ◌<◌, ◌≤◌, ℤ, pos, List, [], ◌∷◌, ◌++◌, length, map, Some, refl, sym, ap, ◌∙◌, subst, arith, length-append, append-nil}
use Rattle.std.specs.Prelude.{All}
use Rattle.std.specs.List.{flat_map}
use Rattle.std.specs.Int.{w32, cast_unsigned}
use Rattle.std.proofs.lemmas.Int.{ints}
use Rattle.std.proofs.lemmas.List.{length-replicate}
use Rattle.std.proofs.lemmas.List.Elements.{All-head, All-tail}
use Rattle.sat_base.specs.Clip.{low16}
use Rattle.first_form.specs.declared.first.First.{First}
use Rattle.first_form.specs.declared.first.FirstExpr.{FirstExpr, Int, Add', Sub', more_of-FirstExpr as boxed}
use Rattle.first_form.specs.Form.{HasOperands, nesting_of}
use Rattle.first_form.specs.Meaning.{SourceState, value_of, after_expression, after_out, after_outs, observed}
use Rattle.first_form.specs.Meaning as meaning
use Rattle.rv_encode.specs.declared.instruction.Instr.TheVariants.{Lui, Addi, Ecall}
use Rattle.rv_encode.specs.Words.{encoded}
use Rattle.rv_encode.specs.State.{Ended, Running, Over, next_pc}
use Rattle.rv_encode.specs.Runs.{pc_of, fetched, executed, moment_after, Leads, Stand}
use Rattle.rv_encode.proofs.Leads.{leads_nowhere, leads_then, leads_in, leads_reached}
use Rattle.rv_encode.proofs.Places.{most_words, next_pc_of, stand_at, stand_left, stand_right, stand_after}
use Rattle.image_format.specs.Runs.{loaded}
use Rattle.image_format.specs.RunsAlike.{RunsAlike}
use Rattle.image_format.proofs.Alike.{runs_alike}
use Rattle.sat_compile.specs.Emission.{expression_code, out_code, environment_code, code_of, levels_of, memory_of, image_of}
use Rattle.sat_compile.proofs.Sizes.{calls_of, calls_in}
use Rattle.sat_compile.proofs.Nesting.{deepest-within, within-deepest}
use Rattle.sat_compile.proofs.Leads.{leads_by, leads_on, leads_to_same, leads_from_same, File, zero_file, here, at}
use Rattle.sat_compile.proofs.Operators.{Is16}
use Rattle.sat_compile.proofs.Evaluation.{Agrees, reaches, plus_zero, value_is_16, counts}

-- an expression writes nothing
output_stays : (e : FirstExpr) (s : SourceState) → (after_expression e s).output ≡ s.output
output_stays (Int n) s = refl
output_stays (Add' tok at _ (boxed left _) _ (boxed right _)) s = output_stays right (after_expression left s) ∙ output_stays left s
output_stays (Sub' tok at _ (boxed left _) _ (boxed right _)) s = output_stays right (after_expression left s) ∙ output_stays left s

counts_all : (es : List FirstExpr) (s : SourceState) → (after_outs es s).count ≡ s.count + calls_in es
counts_all [] s = omega arith
counts_all (e ∷ es) s = omega (arith, counts e s, counts_all es (after_out e s))

module _ (code : List ℕ) (input : List ℤ) (levels : ℕ) (few_levels : levels < 64) where
  -- the low 16 bits of x8 are written
  writes : (output : List ℤ) (k : ℕ) (f : File) (memory : List ℕ) → Is16 f.x8 → k + 3 ≤ most_words → Stand code k (Addi 10 8 (pos 0) ∷ environment_code (pos 3))
      → Leads code (at input output k f memory) (at input (output ++ low16 f.x8 ∷ []) (k + 3) (record f { x10 = f.x8; x17 = pos 3 }) memory)
  writes output k f memory is_16 small stand =
      let moved : File = record f { x10 = f.x8 } in
      let called : File = record f { x10 = f.x8; x17 = pos 3 } in
      let written = output ++ low16 f.x8 ∷ [] in
      leads_from_same code input output (at input written (k + 3) called memory) (k + 0) k f memory (omega arith)
      (leads_then code (at input output (k + 0) f memory) (at input output (k + 1) moved memory) (at input written (k + 3) called memory)
      (leads_on code input output k 0 (Addi 10 8 (pos 0)) f memory (stand_at code k (Addi 10 8 (pos 0) ∷ environment_code (pos 3)) stand 0 (Addi 10 8 (pos 0)) refl) refl moved memory (omega arith)
      (ap (λ v. Running (record (here input output (k + 0) (record f { x10 = v }) memory) { pc = next_pc (pc_of (k + 0)) })) (plus_zero f.x8 is_16)))
      (leads_then code (at input output (k + 1) moved memory) (at input output (k + 2) called memory) (at input written (k + 3) called memory)
      (leads_on code input output k 1 (Addi 17 0 (pos 3)) moved memory (stand_at code k (Addi 10 8 (pos 0) ∷ environment_code (pos 3)) stand 1 (Addi 17 0 (pos 3)) refl) refl called memory (omega arith) refl)
      (subst (λ p. Leads code (at input output (k + 2) called memory) (Running (record (here input written (k + 2) called memory) { pc = p }))) (next_pc_of k 2 (omega arith))
      (leads_by code input output k 2 Ecall called memory (stand_at code k (Addi 10 8 (pos 0) ∷ environment_code (pos 3)) stand 2 Ecall refl) refl))))

  -- the end of `main`
  ends : (output : List ℤ) (k : ℕ) (f : File) (memory : List ℕ) → k + 2 ≤ most_words → Stand code k (environment_code (pos 4))
      → Leads code (at input output k f memory) (Over (Ended f.x27 (cast_unsigned w32 (pos 0) * 2 ^ 32 + cast_unsigned w32 f.x24)) output)
  ends output k f memory small stand =
      let called : File = record f { x17 = pos 4 } in
      let last = Over (Ended f.x27 (cast_unsigned w32 (pos 0) * 2 ^ 32 + cast_unsigned w32 f.x24)) output in
      leads_from_same code input output last (k + 0) k f memory (omega arith)
      (leads_then code (at input output (k + 0) f memory) (at input output (k + 1) called memory) last
      (leads_on code input output k 0 (Addi 17 0 (pos 4)) f memory (stand_at code k (environment_code (pos 4)) stand 0 (Addi 17 0 (pos 4)) refl) refl called memory (omega arith) refl)
      (leads_by code input output k 1 Ecall called memory (stand_at code k (environment_code (pos 4)) stand 1 Ecall refl) refl))

  -- the statements have been executed, and the source has come to this state
  record Written (k size : ℕ) (s after : SourceState) (f : File) (memory : List ℕ) : Type 0 where
    pub file : File
    pub new : List ℕ
    pub leads : Leads code (at input s.output k f memory) (at input after.output (k + size) file new)
    pub agrees : Agrees after file

  out_length : (e : FirstExpr) → length (out_code e) ≡ length (expression_code 0 e) + 3
  out_length e = omega (arith, length-append (expression_code 0 e) (Addi 10 8 (pos 0) ∷ environment_code (pos 3)))

  record OneWritten (k : ℕ) (e : FirstExpr) (s : SourceState) (f : File) (memory : List ℕ) : Type 0 where
    pub file : File
    pub new : List ℕ
    pub leads : Leads code (at input s.output k f memory) (at input (after_out e s).output (k + length (out_code e)) file new)
    pub agrees : Agrees (after_out e s) file
    pub size : length new ≡ 4 * levels

  -- one statement
  writes_one : (k : ℕ) (e : FirstExpr) (s : SourceState) (f : File) (memory : List ℕ) → HasOperands e → nesting_of e ≤ levels + 1 → Stand code k (out_code e)
      → k + length (out_code e) ≤ most_words → length memory ≡ 4 * levels → s.count + calls_of e ≤ 131072 → Agrees s f → OneWritten k e s f memory
  writes_one k e s f memory operands shallow stand small size few agrees =
      let instrs = expression_code 0 e in
      let tail = Addi 10 8 (pos 0) ∷ environment_code (pos 3) in
      let n = length instrs in
      let all = out_length e in
      let r = reaches code input s.output levels few_levels k 0 e s f memory operands (stand_left code k instrs tail stand) (omega arith) (omega arith) size few agrees in
      let is_16 = subst Is16 (sym r.value_is) (value_is_16 e operands) in
      let last : File = record (r.file) { x10 = r.file.x8; x17 = pos 3 } in
      let written = writes s.output (k + n) r.file r.new is_16 (omega arith) (stand_right code k instrs tail stand) in
      let same : s.output ++ low16 r.file.x8 ∷ [] ≡ (after_out e s).output =
      ap (λ v. s.output ++ low16 v ∷ []) r.value_is ∙ ap (λ o. o ++ low16 (value_of e) ∷ []) (sym (output_stays e s)) in
      let start = at input s.output k f memory in
      let whole : Leads code start (at input (s.output ++ low16 r.file.x8 ∷ []) (k + n + 3) last r.new) = leads_then code start (at input s.output (k + n) r.file r.new) (at input (s.output ++ low16 r.file.x8 ∷ []) (k + n + 3) last r.new) r.leads written in
      record {
        file = last;
        new = r.new;
        leads = subst (λ o. Leads code start (at input o (k + length (out_code e)) last r.new)) same
            (leads_to_same code input (s.output ++ low16 r.file.x8 ∷ []) start (k + n + 3) (k + length (out_code e)) last r.new (omega arith) whole);
        agrees = record { count = r.agrees.count; flag = r.agrees.flag };
        size = r.keeps.size;
      }

  -- all of them
  writes_all : (k : ℕ) (es : List FirstExpr) (s : SourceState) (f : File) (memory : List ℕ) → All HasOperands es → All (λ e. nesting_of e ≤ levels + 1) es
      → Stand code k (flat_map out_code es) → k + length (flat_map out_code es) ≤ most_words → length memory ≡ 4 * levels → s.count + calls_in es ≤ 131072 → Agrees s f
      → Written k (length (flat_map out_code es)) s (after_outs es s) f memory
  writes_all k [] s f memory operands shallow stand small size few agrees = record {
    file = f;
    new = memory;
    leads = leads_to_same code input s.output (at input s.output k f memory) k (k + 0) f memory (omega arith) (leads_nowhere code (at input s.output k f memory));
    agrees = agrees;
  }
  writes_all k (e ∷ es) s f memory operands shallow stand small size few agrees =
      let rest = flat_map out_code es in
      let all : length (flat_map out_code (e ∷ es)) ≡ length (out_code e) + length rest = length-append (out_code e) rest in
      let count : s.count + (calls_of e + calls_in es) ≤ 131072 = few in
      let count_one = counts e s in
      let one = writes_one k e s f memory (All-head HasOperands e es operands) (All-head (λ d. nesting_of d ≤ levels + 1) e es shallow) (stand_left code k (out_code e) rest stand) (omega arith) size (omega arith) agrees in
      let others = writes_all (k + length (out_code e)) es (after_out e s) one.file one.new (All-tail HasOperands e es operands) (All-tail (λ d. nesting_of d ≤ levels + 1) e es shallow) (stand_right code k (out_code e) rest stand) (omega arith) one.size (omega arith) one.agrees in
      let start = at input s.output k f memory in
      let last = (after_outs (e ∷ es) s).output in
      record {
        file = others.file;
        new = others.new;
        leads = leads_to_same code input last start (k + length (out_code e) + length rest) (k + length (flat_map out_code (e ∷ es))) others.file others.new (omega arith)
            (leads_then code start (at input (after_out e s).output (k + length (out_code e)) one.file one.new) (at input last (k + length (out_code e) + length rest) others.file others.new) one.leads others.leads);
        agrees = others.agrees;
      }

-- ---- whole runs

begins : (first : First) (input : List ℤ) → Leads (map encoded (code_of first)) (Running (loaded (image_of first) input)) (at input [] 1 zero_file (memory_of first))
begins first input =
    let code = map encoded (code_of first) in
    let s = loaded (image_of first) input in
    let stands : fetched code 65536 ≡ Some (encoded (Lui 26 0x10000)) = refl in
    leads_in code 1 (Running s) (at input [] 1 zero_file (memory_of first)) (ap (λ o. executed o s) stands)

as_count : (c : ℕ) → c ≤ 131072 → cast_unsigned w32 (pos 0) * 2 ^ 32 + cast_unsigned w32 (pos c) ≡ c
as_count c small = grind (arith, ints)

module _ (first : First) (operands : All HasOperands first.outs) (shallow : All (λ e. nesting_of e ≤ 64) first.outs) (small : length (code_of first) ≤ most_words) (few : calls_in first.outs ≤ 131072) where
  abbrev code : List ℕ
  code = map encoded (code_of first)

  abbrev last : SourceState
  last = after_outs first.outs meaning.first_state

  abbrev levels : ℕ
  levels = levels_of first

  few_levels : levels < 64
  few_levels = omega (arith, deepest-within 64 first.outs shallow)

  within : All (λ e. nesting_of e ≤ levels + 1) first.outs
  within = within-deepest (levels + 1) first.outs (omega arith)

  runs_to_end : (input : List ℤ) → Leads code (Running (loaded (image_of first) input)) (Over (Ended last.overflow last.count) last.output)
  runs_to_end input =
      let body = flat_map out_code first.outs in
      let ending = environment_code (pos 4) in
      let lui = Lui 26 0x10000 in
      let n = length body in
      let whole : length (code_of first) ≡ 1 + n + 2 = omega (arith, length-append body ending) in
      let whole_stands : Stand code 0 (code_of first) = subst (λ words. Stand words 0 (code_of first)) (append-nil code) (stand_after [] (code_of first) []) in
      let rest : Stand code 1 (body ++ ending) = stand_right code 0 (lui ∷ []) (body ++ ending) whole_stands in
      let total : last.count ≡ calls_in first.outs = omega (arith, counts_all first.outs meaning.first_state) in
      let done = writes_all code input levels few_levels 1 first.outs meaning.first_state zero_file (memory_of first) operands within (stand_left code 1 body ending rest) (omega arith) (length-replicate (4 * levels) 0) (omega arith) (record { count = refl; flag = refl }) in
      let f = done.file in
      let ended = ends code input levels few_levels last.output (1 + n) f done.new (omega arith) (stand_right code 1 body ending rest) in
      let flag : f.x27 ≡ last.overflow = done.agrees.flag in
      let count : cast_unsigned w32 (pos 0) * 2 ^ 32 + cast_unsigned w32 f.x24 ≡ last.count =
      ap (λ v. cast_unsigned w32 (pos 0) * 2 ^ 32 + cast_unsigned w32 v) done.agrees.count ∙ as_count last.count (omega arith) in
      let start = Running (loaded (image_of first) input) in
      let finish = Over (Ended last.overflow last.count) last.output in
      leads_then code start (at input [] 1 zero_file (memory_of first)) finish (begins first input) (leads_then code (at input [] 1 zero_file (memory_of first)) (at input last.output (1 + n) f done.new) finish done.leads
      (subst (λ v. Leads code (at input last.output (1 + n) f done.new) (Over (Ended v last.count) last.output)) flag
      (subst (λ c. Leads code (at input last.output (1 + n) f done.new) (Over (Ended f.x27 c) last.output)) count ended)))

  reached : (input : List ℤ) → (n : ℕ) × (moment_after code n (Running (loaded (image_of first) input)) ≡ Over (Ended last.overflow last.count) last.output)
  reached input = leads_reached code (Running (loaded (image_of first) input)) (Over (Ended last.overflow last.count) last.output) (runs_to_end input)

  pub runs : RunsAlike (observed first) (image_of first)
  runs = runs_alike (observed first) (image_of first) last.output last.overflow last.count (λ input. (reached input).0) (λ input. (reached input).1) (λ input n. refl)
