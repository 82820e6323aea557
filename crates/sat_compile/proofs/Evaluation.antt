-- The code of an expression evaluates it.
use Rattle.std.proofs.Common.{◌≡◌, ℕ, ◌+◌, ◌*◌, ◌^◌, max, ◌<◌, ◌≤◌, ℤ, pos, List, [], ◌∷◌, ◌++◌, length, refl, sym, ap, ◌∙◌, subst, arith, length-append}
use Rattle.std.specs.Int.{w32, cast_signed, int_wrapping_add}
use Rattle.std.proofs.lemmas.Int.{ints}
use Rattle.sat_base.specs.Clip.{clip16}
use Rattle.first_form.specs.declared.first.FirstExpr.{FirstExpr, Int, Add', Sub', more_of-FirstExpr as boxed}
use Rattle.first_form.specs.Form.{IsOperand, HasOperands, nesting_of}
use Rattle.first_form.specs.Meaning.{SourceState, value_of, after_expression, after_operator}
use Rattle.rv_encode.specs.declared.instruction.Instr.{Instr}
use Rattle.rv_encode.specs.declared.instruction.Instr.TheVariants.{Lui, Addi, Lw, Sw}
use Rattle.rv_encode.specs.State.{Running, next_pc, word_at}
use Rattle.rv_encode.specs.Runs.{pc_of, Leads, Stand}
use Rattle.rv_encode.proofs.Leads.{leads_then}
use Rattle.rv_encode.proofs.Places.{most_words, stand_at, stand_left, stand_right}
use Rattle.rv_encode.specs.Words.{IsWithin}
use Rattle.rv_encode.proofs.Encodings.{encoded_decodes}
use Rattle.sat_compile.specs.declared.emit.Operator.{Operator}
use Rattle.sat_compile.specs.declared.emit.Operator.TheVariants as operator
use Rattle.sat_compile.specs.Emission.{upper_of, lower_of, number_code, operator_code, slot, kept_code, operand_code, call_code, expression_code}
use Rattle.sat_compile.proofs.Sizes.{calls_of}
use Rattle.sat_compile.proofs.Entries.{operator_length}
use Rattle.sat_compile.proofs.Leads.{leads_on, leads_to_same, leads_from_same, File, here, at}
use Rattle.sat_compile.proofs.Operators.{Is16, parts_add_up, clip_is_16, is_clipped, flag_after, exact_of, operates, operated}
use Rattle.sat_compile.proofs.Storage.{address, keeping, Keeps, keeping_keeps, kept, keeps_left, brings_back}

-- ---- numbers

upper_small : (n : ℤ) → IsOperand n → upper_of n < 2 ^ 20
upper_small n (m, is, small) = grind (arith, ints)

lower_within : (n : ℤ) → IsOperand n → IsWithin 2048 (lower_of n)
lower_within n (m, is, small) = grind (arith, ints)

operand_is_16 : (n : ℤ) → IsOperand n → Is16 n
operand_is_16 n (m, is, small) = grind (arith, ints)

pub plus_zero : (v : ℤ) → Is16 v → int_wrapping_add w32 v (pos 0) ≡ v
plus_zero v (low, high) = grind (arith, ints)

-- the value of an expression has 16 bits
pub value_is_16 : (e : FirstExpr) → HasOperands e → Is16 (value_of e)
value_is_16 (Int n) operand = operand_is_16 n operand
value_is_16 (Add' tok at _ (boxed left _) _ (boxed right _)) operands = clip_is_16 (exact_of operator.Add (value_of left) (value_of right))
value_is_16 (Sub' tok at _ (boxed left _) _ (boxed right _)) operands = clip_is_16 (exact_of operator.Sub (value_of left) (value_of right))

-- each call counts once
pub counts : (e : FirstExpr) (s : SourceState) → (after_expression e s).count ≡ s.count + calls_of e
counts (Int n) s = omega arith
counts (Add' tok at _ (boxed left _) _ (boxed right _)) s =
    omega (arith, counts left s, counts right (after_expression left s))
counts (Sub' tok at _ (boxed left _) _ (boxed right _)) s =
    omega (arith, counts left s, counts right (after_expression left s))

-- ---- what is reached

-- the count and Overflow of the source are in their registers
pub record Agrees (s : SourceState) (f : File) : Type 0 where
  pub count : f.x24 ≡ pos s.count
  pub flag : f.x27 ≡ s.overflow

module _ (code : List ℕ) (input output : List ℤ) (levels : ℕ) (few_levels : levels < 64) where
  -- so many words on, x8 has a value, and the source has come to this state
  pub record Reaches (k size depth : ℕ) (value : ℤ) (after : SourceState) (f : File) (memory : List ℕ) : Type 0 where
    pub file : File
    pub new : List ℕ
    pub leads : Leads code (at input output k f memory) (at input output (k + size) file new)
    pub value_is : file.x8 ≡ value
    pub agrees : Agrees after file
    pub keeps : Keeps levels depth memory new

  -- x9 has the value, and x8 is as before
  pub record ReachesRight (k size depth : ℕ) (value : ℤ) (after : SourceState) (f : File) (memory : List ℕ) : Type 0 where
    pub file : File
    pub new : List ℕ
    pub leads : Leads code (at input output k f memory) (at input output (k + size) file new)
    pub value_is : file.x9 ≡ value
    pub left_is : file.x8 ≡ f.x8
    pub agrees : Agrees after file
    pub keeps : Keeps levels depth memory new

  keeps_all : (depth : ℕ) (memory : List ℕ) → length memory ≡ 4 * levels → Keeps levels depth memory memory
  keeps_all depth memory size = record { size = size; words = λ j less. refl }

  -- a number into x8, and into x9
  into_x8 : (k : ℕ) (n : ℤ) (f : File) (memory : List ℕ) → IsOperand n → k + 2 ≤ most_words → Stand code k (number_code 8 n)
      → Leads code (at input output k f memory) (at input output (k + 2) (record f { x8 = n }) memory)
  into_x8 k n f memory operand small stand =
      let half : File = record f { x8 = cast_signed w32 (upper_of n * 2 ^ 12) } in
      leads_from_same code input output (at input output (k + 2) (record f { x8 = n }) memory) (k + 0) k f memory (omega arith)
      (leads_then code _ _ _ (leads_on code input output k 0 (Lui 8 (upper_of n)) f memory (stand_at code k (number_code 8 n) stand 0 (Lui 8 (upper_of n)) refl) (encoded_decodes (Lui 8 (upper_of n)) (omega arith, upper_small n operand)) half memory (omega arith) refl)
      (leads_on code input output k 1 (Addi 8 8 (lower_of n)) half memory (stand_at code k (number_code 8 n) stand 1 (Addi 8 8 (lower_of n)) refl) (encoded_decodes (Addi 8 8 (lower_of n)) (omega arith, omega arith, lower_within n operand)) (record f { x8 = n }) memory (omega arith)
      (ap (λ v. Running (record (here input output (k + 1) (record f { x8 = v }) memory) { pc = next_pc (pc_of (k + 1)) })) (parts_add_up n operand))))

  into_x9 : (k : ℕ) (n : ℤ) (f : File) (memory : List ℕ) → IsOperand n → k + 2 ≤ most_words → Stand code k (number_code 9 n)
      → Leads code (at input output k f memory) (at input output (k + 2) (record f { x9 = n }) memory)
  into_x9 k n f memory operand small stand =
      let half : File = record f { x9 = cast_signed w32 (upper_of n * 2 ^ 12) } in
      leads_from_same code input output (at input output (k + 2) (record f { x9 = n }) memory) (k + 0) k f memory (omega arith)
      (leads_then code _ _ _ (leads_on code input output k 0 (Lui 9 (upper_of n)) f memory (stand_at code k (number_code 9 n) stand 0 (Lui 9 (upper_of n)) refl) (encoded_decodes (Lui 9 (upper_of n)) (omega arith, upper_small n operand)) half memory (omega arith) refl)
      (leads_on code input output k 1 (Addi 9 9 (lower_of n)) half memory (stand_at code k (number_code 9 n) stand 1 (Addi 9 9 (lower_of n)) refl) (encoded_decodes (Addi 9 9 (lower_of n)) (omega arith, omega arith, lower_within n operand)) (record f { x9 = n }) memory (omega arith)
      (ap (λ v. Running (record (here input output (k + 1) (record f { x9 = v }) memory) { pc = next_pc (pc_of (k + 1)) })) (parts_add_up n operand))))

  -- a right operand that is kept apart from the left one
  kept_length : (depth : ℕ) (instrs : List Instr) → length (kept_code depth instrs) ≡ 1 + length instrs + 2
  kept_length depth instrs = omega (arith, length-append instrs (Addi 9 8 (pos 0) ∷ Lw 8 26 (slot depth) ∷ []))

  reaches_kept : (k depth : ℕ) (instrs : List Instr) (value : ℤ) (after : SourceState) (f : File) (memory : List ℕ)
      → Stand code k (kept_code depth instrs) → k + length (kept_code depth instrs) ≤ most_words → depth < levels → length memory ≡ 4 * levels
      → Is16 f.x8 → Is16 value
      → (Stand code (k + 1) instrs → Reaches (k + 1) (length instrs) (depth + 1) value after f (keeping memory depth f.x8))
      → ReachesRight k (length (kept_code depth instrs)) depth value after f memory
  reaches_kept k depth instrs value after f memory stand small less size left_16 value_16 inner =
      let sw = Sw 26 8 (slot depth) in
      let tail = Addi 9 8 (pos 0) ∷ Lw 8 26 (slot depth) ∷ [] in
      let n = length instrs in
      let whole : length (kept_code depth instrs) ≡ 1 + n + 2 = kept_length depth instrs in
      let rest : Stand code (k + 1) (instrs ++ tail) = stand_right code k (sw ∷ []) (instrs ++ tail) stand in
      let r = inner (stand_left code (k + 1) instrs tail rest) in
      let end_stand : Stand code (k + 1 + n) tail = stand_right code (k + 1) instrs tail rest in
      let g = r.file in
      let memory_kept = keeping_keeps levels memory depth f.x8 size less in
      let moved : File = record g { x9 = value } in
      let kept_word : word_at r.new (address depth) ≡ Rattle.std.specs.Int.cast_unsigned w32 f.x8 = r.keeps.words depth (omega arith) ∙ kept levels memory depth f.x8 size less left_16 in
      let stored = leads_from_same code input output (at input output (k + (0 + 1)) f (keeping memory depth f.x8)) (k + 0) k f memory (omega arith)
      (keeps_left code input output levels few_levels k 0 depth f memory (omega arith) size less (stand_at code k (kept_code depth instrs) stand 0 sw refl)) in
      let copied = leads_from_same code input output (at input output (k + 1 + n + 1) moved r.new) (k + 1 + n + 0) (k + 1 + n) g r.new (omega arith)
      (leads_on code input output (k + 1 + n) 0 (Addi 9 8 (pos 0)) g r.new (stand_at code (k + 1 + n) tail end_stand 0 (Addi 9 8 (pos 0)) refl) refl moved r.new (omega arith)
      (ap (λ v. Running (record (here input output (k + 1 + n + 0) (record g { x9 = v }) r.new) { pc = next_pc (pc_of (k + 1 + n + 0)) })) (ap (λ v. int_wrapping_add w32 v (pos 0)) r.value_is ∙ plus_zero value value_16))) in
      let start = at input output k f memory in
      let last = at input output (k + length (kept_code depth instrs)) (record moved { x8 = f.x8 }) r.new in
      let brought = leads_to_same code input output (at input output (k + 1 + n + 1) moved r.new) (k + 1 + n + 2) (k + length (kept_code depth instrs)) (record moved { x8 = f.x8 }) r.new (omega arith)
      (brings_back code input output levels few_levels (k + 1 + n) 1 depth moved r.new (omega arith) r.keeps.size less f.x8 kept_word left_16 (stand_at code (k + 1 + n) tail end_stand 1 (Lw 8 26 (slot depth)) refl)) in
      record {
        file = record moved { x8 = f.x8 };
        new = r.new;
        leads = leads_then code start (at input output (k + 1) f (keeping memory depth f.x8)) last stored
            (leads_then code (at input output (k + 1) f (keeping memory depth f.x8)) (at input output (k + 1 + n) g r.new) last r.leads
            (leads_then code (at input output (k + 1 + n) g r.new) (at input output (k + 1 + n + 1) moved r.new) last copied brought));
        value_is = refl;
        left_is = refl;
        agrees = record { count = r.agrees.count; flag = r.agrees.flag };
        keeps = record { size = r.keeps.size; words = λ j below. r.keeps.words j (omega arith) ∙ memory_kept.words j below };
      }

  -- a right operand
  reaches_right : (k depth : ℕ) (e : FirstExpr) (s : SourceState) (f : File) (memory : List ℕ) → HasOperands e
      → Stand code k (operand_code depth e (expression_code (depth + 1) e)) → k + length (operand_code depth e (expression_code (depth + 1) e)) ≤ most_words
      → depth + nesting_of e ≤ levels → length memory ≡ 4 * levels → Is16 f.x8 → Agrees s f
      → (depth < levels → Stand code (k + 1) (expression_code (depth + 1) e) → k + 1 + length (expression_code (depth + 1) e) ≤ most_words
      → Reaches (k + 1) (length (expression_code (depth + 1) e)) (depth + 1) (value_of e) (after_expression e s) f (keeping memory depth f.x8))
      → ReachesRight k (length (operand_code depth e (expression_code (depth + 1) e))) depth (value_of e) (after_expression e s) f memory
  reaches_right k depth (Int n) s f memory operand stand small shallow size left_16 agrees inner = record {
    file = record f { x9 = n };
    new = memory;
    leads = into_x9 k n f memory operand small stand;
    value_is = refl;
    left_is = refl;
    agrees = record { count = agrees.count; flag = agrees.flag };
    keeps = keeps_all depth memory size;
  }
  reaches_right k depth (Add' tok at p (boxed left q) r (boxed right t)) s f memory operands stand small shallow size left_16 agrees inner =
      let less : depth < levels = omega (arith, shallow) in
      let e = Add' tok at p (boxed left q) r (boxed right t) in
      let instrs = expression_code (depth + 1) e in
      reaches_kept k depth instrs (value_of e) (after_expression e s) f memory stand small less size left_16 (value_is_16 e operands)
      (λ rest. inner less rest (omega (arith, kept_length depth instrs)))
  reaches_right k depth (Sub' tok at p (boxed left q) r (boxed right t)) s f memory operands stand small shallow size left_16 agrees inner =
      let less : depth < levels = omega (arith, shallow) in
      let e = Sub' tok at p (boxed left q) r (boxed right t) in
      let instrs = expression_code (depth + 1) e in
      reaches_kept k depth instrs (value_of e) (after_expression e s) f memory stand small less size left_16 (value_is_16 e operands)
      (λ rest. inner less rest (omega (arith, kept_length depth instrs)))

  -- ---- a call

  call_length : (op : Operator) (left right : List Instr) → length (call_code op left right) ≡ length left + length right + 11
  call_length op left right =
      let count = Addi 24 24 (pos 1) ∷ [] in
      omega (arith, length-append left (right ++ (operator_code op ++ count)), length-append right (operator_code op ++ count), length-append (operator_code op) count, operator_length op)

  counted : (c : ℕ) → c ≤ 131072 → int_wrapping_add w32 (pos c) (pos 1) ≡ pos (c + 1)
  counted c small = grind (arith, ints)

  module _ (op : Operator) (k depth : ℕ) (left right : List Instr) (a b : ℤ) (is_a : Is16 a) (is_b : Is16 b) (s t : SourceState) (f : File) (memory : List ℕ)
      (stand : Stand code k (call_code op left right)) (small : k + length (call_code op left right) ≤ most_words) (few : t.count ≤ 131072)
      (first : Stand code k left → Reaches k (length left) depth a s f memory)
      (second : (g : File) (new : List ℕ) → Stand code (k + length left) right → Is16 g.x8 → Agrees s g → length new ≡ 4 * levels
      → ReachesRight (k + length left) (length right) depth b t g new) where
    abbrev words : List Instr
    words = operator_code op

    abbrev counting : List Instr
    counting = Addi 24 24 (pos 1) ∷ []

    abbrev exact : ℤ
    exact = exact_of op a b

    -- where the operator begins
    abbrev middle : ℕ
    middle = k + length left + length right

    stand_rest : Stand code (k + length left) (right ++ (words ++ counting))
    stand_rest = stand_right code k left (right ++ (words ++ counting)) stand

    stand_operator : Stand code middle (words ++ counting)
    stand_operator = stand_right code (k + length left) right (words ++ counting) stand_rest

    stand_count : Stand code (middle + 10) counting
    stand_count = subst (λ n. Stand code (middle + n) counting) (operator_length op) (stand_right code middle words counting stand_operator)

    -- the operator and the count, from its operands in x8 and x9 on
    finishes : (g : File) (new : List ℕ) → g.x8 ≡ a → g.x9 ≡ b → Agrees t g → Keeps levels depth memory new
        → Leads code (at input output k f memory) (at input output middle g new)
        → Reaches k (length (call_code op left right)) depth (clip16 exact) (after_operator (is_clipped exact) 1 t) f memory
    finishes g new in_x8 in_x9 agrees keeps leads =
        let all : length (call_code op left right) ≡ length left + length right + 11 = call_length op left right in
        let done = operates code input output new middle (omega arith) g a b is_a is_b op (stand_left code middle words counting stand_operator) in
        let value : File = operated code input output new middle (omega arith) g a b is_a is_b op done.0 in
        let last : File = record value { x24 = pos (t.count + 1) } in
        let works : Leads code (at input output middle g new) (at input output (middle + 10) value new) =
        subst (λ v. Leads code (at input output middle (record g { x8 = v }) new) (at input output (middle + 10) value new)) (sym in_x8)
        (subst (λ v. Leads code (at input output middle (record g { x8 = a; x9 = v }) new) (at input output (middle + 10) value new)) (sym in_x9) done.1) in
        let counts_on : Leads code (at input output (middle + 10) value new) (at input output (middle + 10 + 1) last new) =
        leads_from_same code input output (at input output (middle + 10 + 1) last new) (middle + 10 + 0) (middle + 10) value new (omega arith)
        (leads_on code input output (middle + 10) 0 (Addi 24 24 (pos 1)) value new (stand_at code (middle + 10) counting stand_count 0 (Addi 24 24 (pos 1)) refl) refl last new (omega arith)
        (ap (λ v. Running (record (here input output (middle + 10 + 0) (record value { x24 = v }) new) { pc = next_pc (pc_of (middle + 10 + 0)) }))
        (ap (λ v. int_wrapping_add w32 v (pos 1)) agrees.count ∙ counted t.count few))) in
        record {
          file = last;
          new = new;
          leads = leads_to_same code input output (at input output k f memory) (middle + 10 + 1) (k + length (call_code op left right)) last new (omega arith)
              (leads_then code (at input output k f memory) (at input output middle g new) (at input output (middle + 10 + 1) last new) leads
              (leads_then code (at input output middle g new) (at input output (middle + 10) value new) (at input output (middle + 10 + 1) last new) works counts_on));
          value_is = refl;
          agrees = record { count = refl; flag = ap (flag_after exact) agrees.flag };
          keeps = keeps;
        }

    reaches_call : Reaches k (length (call_code op left right)) depth (clip16 exact) (after_operator (is_clipped exact) 1 t) f memory
    reaches_call =
        let l = first (stand_left code k left (right ++ (words ++ counting)) stand) in
        let r = second l.file l.new (stand_left code (k + length left) right (words ++ counting) stand_rest) (subst Is16 (sym l.value_is) is_a) l.agrees l.keeps.size in
        finishes r.file r.new (r.left_is ∙ l.value_is) r.value_is r.agrees
        (record { size = r.keeps.size; words = λ j less. r.keeps.words j less ∙ l.keeps.words j less })
        (leads_then code (at input output k f memory) (at input output (k + length left) l.file l.new) (at input output middle r.file r.new) l.leads r.leads)

  -- ---- an expression

  pub reaches : (k depth : ℕ) (e : FirstExpr) (s : SourceState) (f : File) (memory : List ℕ) → HasOperands e
      → Stand code k (expression_code depth e) → k + length (expression_code depth e) ≤ most_words → depth + nesting_of e ≤ levels + 1 → length memory ≡ 4 * levels
      → s.count + calls_of e ≤ 131072 → Agrees s f
      → Reaches k (length (expression_code depth e)) depth (value_of e) (after_expression e s) f memory
  reaches k depth (Int n) s f memory operand stand small shallow size few agrees = record {
    file = record f { x8 = n };
    new = memory;
    leads = into_x8 k n f memory operand small stand;
    value_is = refl;
    agrees = record { count = agrees.count; flag = agrees.flag };
    keeps = keeps_all depth memory size;
  }
  reaches k depth (Add' tok at _ (boxed left _) _ (boxed right _)) s f memory operands stand small shallow size few agrees =
      let instrs = expression_code depth left in
      let operand = operand_code depth right (expression_code (depth + 1) right) in
      let t = after_expression left s in
      let whole : k + length (call_code operator.Add instrs operand) ≤ most_words = small in
      let all = call_length operator.Add instrs operand in
      let deep : depth + (max (nesting_of left) (nesting_of right) + 1) ≤ levels + 1 = shallow in
      let count : s.count + (calls_of left + calls_of right + 1) ≤ 131072 = few in
      let count_left = counts left s in
      let count_right = counts right t in
      reaches_call operator.Add k depth instrs operand (value_of left) (value_of right) (value_is_16 left operands.0) (value_is_16 right operands.1) t (after_expression right t) f memory stand small (omega arith)
      (λ rest. reaches k depth left s f memory operands.0 rest (omega arith) (omega arith) size (omega arith) agrees)
      (λ g new rest left_16 now new_size. reaches_right (k + length instrs) depth right t g new operands.1 rest (omega arith) (omega arith) new_size left_16 now
      (λ less inner inner_small. reaches (k + length instrs + 1) (depth + 1) right t g (keeping new depth g.x8) operands.1 inner inner_small (omega arith) (keeping_keeps levels new depth g.x8 new_size less).size (omega arith) now))
  reaches k depth (Sub' tok at _ (boxed left _) _ (boxed right _)) s f memory operands stand small shallow size few agrees =
      let instrs = expression_code depth left in
      let operand = operand_code depth right (expression_code (depth + 1) right) in
      let t = after_expression left s in
      let whole : k + length (call_code operator.Sub instrs operand) ≤ most_words = small in
      let all = call_length operator.Sub instrs operand in
      let deep : depth + (max (nesting_of left) (nesting_of right) + 1) ≤ levels + 1 = shallow in
      let count : s.count + (calls_of left + calls_of right + 1) ≤ 131072 = few in
      let count_left = counts left s in
      let count_right = counts right t in
      reaches_call operator.Sub k depth instrs operand (value_of left) (value_of right) (value_is_16 left operands.0) (value_is_16 right operands.1) t (after_expression right t) f memory stand small (omega arith)
      (λ rest. reaches k depth left s f memory operands.0 rest (omega arith) (omega arith) size (omega arith) agrees)
      (λ g new rest left_16 now new_size. reaches_right (k + length instrs) depth right t g new operands.1 rest (omega arith) (omega arith) new_size left_16 now
      (λ less inner inner_small. reaches (k + length instrs + 1) (depth + 1) right t g (keeping new depth g.x8) operands.1 inner inner_small (omega arith) (keeping_keeps levels new depth g.x8 new_size less).size (omega arith) now))
