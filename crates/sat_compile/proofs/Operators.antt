-- The words of an operator compute it.
use Rattle.std.proofs.Common.{◌≡◌, ℕ, ◌+◌, ◌*◌, ◌^◌, ◌≤◌, ℤ, pos, negsuc, ◌+ℤ◌, ◌-ℤ◌, ◌≤ℤ◌, Bool, true, false, not, List, [], ◌∷◌, if◌then◌else◌, refl, sym, ap, ◌∙◌, subst, arith, int_lt}
use Rattle.std.specs.Int.{w32, cast_signed, int_wrapping_add, int_wrapping_sub}
use Rattle.std.specs.Ordering.{int_eq}
use Rattle.std.proofs.lemmas.Int.{ints, clamps}
use Rattle.std.proofs.lemmas.Bool.Decides.{Decides-int_eq}
use Rattle.sat_base.specs.Clip.{clip16}
use Rattle.first_form.specs.Form.{IsOperand}
use Rattle.rv_encode.specs.declared.instruction.Instr.TheVariants.{Lui, Addi, Add, Sub, Blt, Bge, Jal}
use Rattle.rv_encode.specs.State.{Moment}
use Rattle.rv_encode.specs.Effects.{jumps, goes_on}
use Rattle.rv_encode.specs.Runs.{Leads, Stand}
use Rattle.rv_encode.proofs.Leads.{leads_then}
use Rattle.rv_encode.proofs.Places.{most_words, stand_at, stand_right}
use Rattle.sat_compile.specs.declared.emit.Operator.{Operator}
use Rattle.sat_compile.specs.declared.emit.Operator.TheVariants as operator
use Rattle.sat_compile.specs.Emission.{upper_of, lower_of, clip_code, operator_code}
use Rattle.sat_compile.proofs.Leads.{leads_on, leads_over, leads_to_same, leads_from_same, File, here, at, registers_of}

is_false : (b : Bool) → (b ≡ true → ⊥) → b ≡ false
is_false true h = absurd (h refl)
is_false false h = refl

-- a number of 16 bits
abbrev pub Is16 : ℤ → Type 0
Is16 v = (negsuc 32767 ≤ℤ v) × (v ≤ℤ pos 32767)

-- both parts of a number, added up, are the number
pub parts_add_up : (n : ℤ) → IsOperand n → int_wrapping_add w32 (cast_signed w32 (upper_of n * 2 ^ 12)) (lower_of n) ≡ n
parts_add_up n (m, is, small) = grind (arith, ints)

pub clip_is_16 : (s : ℤ) → Is16 (clip16 s)
clip_is_16 s = grind (arith, ints, clamps)

clip_none : (s : ℤ) → int_lt s (pos 32768) ≡ true → int_lt s (negsuc 32767) ≡ false → clip16 s ≡ s
clip_none s high low = grind (arith, ints, clamps)

clip_high : (s : ℤ) → int_lt s (pos 32768) ≡ false → clip16 s ≡ pos 32767
clip_high s high = grind (arith, ints, clamps)

clip_low : (s : ℤ) → int_lt s (negsuc 32767) ≡ true → clip16 s ≡ negsuc 32767
clip_low s low = grind (arith, ints, clamps)

-- where the clip changes a number
abbrev pub is_clipped : ℤ → Bool
is_clipped s = not (int_eq (clip16 s) s)

unclipped : (s : ℤ) → clip16 s ≡ s → is_clipped s ≡ false
unclipped s same = ap not ((Decides-int_eq (clip16 s) s).1 same)

clipped : (s : ℤ) → (clip16 s ≡ s → ⊥) → is_clipped s ≡ true
clipped s other = ap not (is_false _ (λ e. other ((Decides-int_eq (clip16 s) s).0 e)))

clipped_high : (s : ℤ) → int_lt s (pos 32768) ≡ false → is_clipped s ≡ true
clipped_high s high = clipped s (λ same. let e : s ≡ pos 32767 = sym same ∙ clip_high s high in grind (arith, ints))

clipped_low : (s : ℤ) → int_lt s (negsuc 32767) ≡ true → is_clipped s ≡ true
clipped_low s low = clipped s (λ same. let e : s ≡ negsuc 32767 = sym same ∙ clip_low s low in grind (arith, ints))

-- Overflow after a clip
abbrev pub flag_after : ℤ → ℤ → ℤ
flag_after s flag = if is_clipped s then pos 1 else flag

module _ (code : List ℕ) (input output : List ℤ) (memory : List ℕ) where
  module _ (k : ℕ) (small : k + 9 ≤ most_words) (stand : Stand code k clip_code) (s : ℤ) (f : File) where
    abbrev before : ℕ → File → Moment
    before i g = at input output (k + i) g memory

    abbrev given : File
    given = record f { x8 = s }

    abbrev compared : File
    compared = record f { x8 = s; x5 = pos 32768 }

    abbrev limited : File
    limited = record f { x8 = s; x5 = pos 32768; x6 = negsuc 32767 }

    -- what the words leave
    abbrev left : ℤ → ℤ → File
    left x6 x8 = record f { x5 = pos 32768; x6 = x6; x8 = x8; x27 = flag_after s f.x27 }

    comes_to_test : Leads code (before 0 given) (before 1 compared)
    comes_to_test = leads_on code input output k 0 (Lui 5 8) given memory (stand_at code k clip_code stand 0 (Lui 5 8) refl) refl compared memory (omega arith) refl

    -- above the range
    clips_high : int_lt s (pos 32768) ≡ false → Leads code (before 1 compared) (before 9 (record f { x5 = pos 32768; x8 = pos 32767; x27 = pos 1 }))
    clips_high high =
        let clip : File = record f { x5 = pos 32768; x8 = pos 32767 } in
        let raised : File = record f { x5 = pos 32768; x8 = pos 32767; x27 = pos 1 } in
        leads_then code _ _ _ (leads_on code input output k 1 (Blt 8 5 (pos 16)) compared memory (stand_at code k clip_code stand 1 (Blt 8 5 (pos 16)) refl) refl compared memory (omega arith)
        (ap (λ t. if t then jumps (here input output (k + 1) compared memory) (registers_of compared) (pos 16) else goes_on (here input output (k + 1) compared memory)) high))
        (leads_then code _ _ _ (leads_on code input output k 2 (Addi 8 5 (negsuc 0)) compared memory (stand_at code k clip_code stand 2 (Addi 8 5 (negsuc 0)) refl) refl clip memory (omega arith) refl)
        (leads_then code _ _ _ (leads_on code input output k 3 (Addi 27 0 (pos 1)) clip memory (stand_at code k clip_code stand 3 (Addi 27 0 (pos 1)) refl) refl raised memory (omega arith) refl)
        (leads_over code input output k 4 (Jal 0 (pos 20)) raised memory (stand_at code k clip_code stand 4 (Jal 0 (pos 20)) refl) refl 5 raised (omega arith) (omega arith) refl)))

    comes_to_second : int_lt s (pos 32768) ≡ true → Leads code (before 1 compared) (before 6 limited)
    comes_to_second high =
        leads_then code _ _ _ (leads_over code input output k 1 (Blt 8 5 (pos 16)) compared memory (stand_at code k clip_code stand 1 (Blt 8 5 (pos 16)) refl) refl 4 compared (omega arith) (omega arith)
        (ap (λ t. if t then jumps (here input output (k + 1) compared memory) (registers_of compared) (pos 16) else goes_on (here input output (k + 1) compared memory)) high))
        (leads_on code input output k 5 (Lui 6 0xFFFF8) compared memory (stand_at code k clip_code stand 5 (Lui 6 0xFFFF8) refl) refl limited memory (omega arith) refl)

    -- below the range
    clips_low : int_lt s (negsuc 32767) ≡ true → Leads code (before 6 limited) (before 9 (record f { x5 = pos 32768; x6 = negsuc 32767; x8 = negsuc 32767; x27 = pos 1 }))
    clips_low low =
        let clip : File = record f { x5 = pos 32768; x6 = negsuc 32767; x8 = negsuc 32767 } in
        let raised : File = record f { x5 = pos 32768; x6 = negsuc 32767; x8 = negsuc 32767; x27 = pos 1 } in
        leads_then code _ _ _ (leads_on code input output k 6 (Bge 8 6 (pos 12)) limited memory (stand_at code k clip_code stand 6 (Bge 8 6 (pos 12)) refl) refl limited memory (omega arith)
        (ap (λ t. if t then goes_on (here input output (k + 6) limited memory) else jumps (here input output (k + 6) limited memory) (registers_of limited) (pos 12)) low))
        (leads_then code _ _ _ (leads_on code input output k 7 (Addi 8 6 (pos 0)) limited memory (stand_at code k clip_code stand 7 (Addi 8 6 (pos 0)) refl) refl clip memory (omega arith) refl)
        (leads_on code input output k 8 (Addi 27 0 (pos 1)) clip memory (stand_at code k clip_code stand 8 (Addi 27 0 (pos 1)) refl) refl raised memory (omega arith) refl))

    -- in the range
    passes : int_lt s (negsuc 32767) ≡ false → Leads code (before 6 limited) (before 9 limited)
    passes low =
        leads_over code input output k 6 (Bge 8 6 (pos 12)) limited memory (stand_at code k clip_code stand 6 (Bge 8 6 (pos 12)) refl) refl 3 limited (omega arith) (omega arith)
        (ap (λ t. if t then goes_on (here input output (k + 6) limited memory) else jumps (here input output (k + 6) limited memory) (registers_of limited) (pos 12)) low)

    -- the registers that the words leave, as the definitions name them
    named : (x6 x8 x27 : ℤ) → x8 ≡ clip16 s → x27 ≡ flag_after s f.x27
        → Leads code (before 0 given) (before 9 (record f { x5 = pos 32768; x6 = x6; x8 = x8; x27 = x27 }))
        → Leads code (before 0 given) (before 9 (left x6 (clip16 s)))
    named x6 x8 x27 value flag l =
        subst (λ v. Leads code (before 0 given) (before 9 (left x6 v))) value
        (subst (λ v. Leads code (before 0 given) (before 9 (record f { x5 = pos 32768; x6 = x6; x8 = x8; x27 = v }))) flag l)

    raised_flag : is_clipped s ≡ true → pos 1 ≡ flag_after s f.x27
    raised_flag e = ap (λ t. if t then pos 1 else f.x27) (sym e)

    kept_flag : is_clipped s ≡ false → f.x27 ≡ flag_after s f.x27
    kept_flag e = ap (λ t. if t then pos 1 else f.x27) (sym e)

    clips_below : int_lt s (pos 32768) ≡ true → (low : Bool) → int_lt s (negsuc 32767) ≡ low → Leads code (before 0 given) (before 9 (left (negsuc 32767) (clip16 s)))
    clips_below high true e =
        named (negsuc 32767) (negsuc 32767) (pos 1) (sym (clip_low s e)) (raised_flag (clipped_low s e))
        (leads_then code _ _ _ comes_to_test (leads_then code _ _ _ (comes_to_second high) (clips_low e)))
    clips_below high false e =
        let same = clip_none s high e in
        named (negsuc 32767) s f.x27 (sym same) (kept_flag (unclipped s same))
        (leads_then code _ _ _ comes_to_test (leads_then code _ _ _ (comes_to_second high) (passes e)))

    clips_by : (high : Bool) → int_lt s (pos 32768) ≡ high → (x6 : ℤ) × Leads code (before 0 given) (before 9 (left x6 (clip16 s)))
    clips_by true e = (negsuc 32767, clips_below e (int_lt s (negsuc 32767)) refl)
    clips_by false e = (
      f.x6,
      named f.x6 (pos 32767) (pos 1) (sym (clip_high s e)) (raised_flag (clipped_high s e)) (leads_then code _ _ _ comes_to_test (clips_high e)),
    )

    pub clips : (x6 : ℤ) × Leads code (before 0 given) (before 9 (left x6 (clip16 s)))
    clips = clips_by (int_lt s (pos 32768)) refl

-- ---- operators

-- the value of an operator before the clip
abbrev pub exact_of : Operator → ℤ → ℤ → ℤ
exact_of operator.Add a b = a +ℤ b
exact_of operator.Sub a b = a -ℤ b

sum_is : (a b : ℤ) → Is16 a → Is16 b → int_wrapping_add w32 a b ≡ a +ℤ b
sum_is a b (low_a, high_a) (low_b, high_b) = grind (arith, ints)

difference_is : (a b : ℤ) → Is16 a → Is16 b → int_wrapping_sub w32 a b ≡ a -ℤ b
difference_is a b (low_a, high_a) (low_b, high_b) = grind (arith, ints)

module _ (code : List ℕ) (input output : List ℤ) (memory : List ℕ) (k : ℕ) (small : k + 10 ≤ most_words) (f : File) (a b : ℤ) (is_a : Is16 a) (is_b : Is16 b) where
  abbrev operands : File
  operands = record f { x8 = a; x9 = b }

  -- the operator's first word
  computes : (op : Operator) → Stand code k (operator_code op)
      → Leads code (at input output (k + 0) operands memory) (at input output (k + 1) (record f { x8 = exact_of op a b; x9 = b }) memory)
  computes operator.Add stand =
      subst (λ v. Leads code (at input output (k + 0) operands memory) (at input output (k + 1) (record f { x8 = v; x9 = b }) memory)) (sum_is a b is_a is_b)
      (leads_on code input output k 0 (Add 8 8 9) operands memory (stand_at code k (operator_code operator.Add) stand 0 (Add 8 8 9) refl) refl (record f { x8 = int_wrapping_add w32 a b; x9 = b }) memory (omega arith) refl)
  computes operator.Sub stand =
      subst (λ v. Leads code (at input output (k + 0) operands memory) (at input output (k + 1) (record f { x8 = v; x9 = b }) memory)) (difference_is a b is_a is_b)
      (leads_on code input output k 0 (Sub 8 8 9) operands memory (stand_at code k (operator_code operator.Sub) stand 0 (Sub 8 8 9) refl) refl (record f { x8 = int_wrapping_sub w32 a b; x9 = b }) memory (omega arith) refl)

  stand_clip : (op : Operator) → Stand code k (operator_code op) → Stand code (k + 1) clip_code
  stand_clip operator.Add stand = stand_right code k (Add 8 8 9 ∷ []) clip_code stand
  stand_clip operator.Sub stand = stand_right code k (Sub 8 8 9 ∷ []) clip_code stand

  -- what the words of an operator leave
  abbrev pub operated : Operator → ℤ → File
  operated op x6 = record f { x5 = pos 32768; x6 = x6; x8 = clip16 (exact_of op a b); x9 = b; x27 = flag_after (exact_of op a b) f.x27 }

  pub operates : (op : Operator) → Stand code k (operator_code op)
      → (x6 : ℤ) × Leads code (at input output k operands memory) (at input output (k + 10) (operated op x6) memory)
  operates op stand =
      let given : File = record f { x9 = b } in
      let done = clips code input output memory (k + 1) (omega arith) (stand_clip op stand) (exact_of op a b) given in
      let first = leads_from_same code input output (at input output (k + 1 + 0) (record f { x8 = exact_of op a b; x9 = b }) memory) (k + 0) k operands memory (omega arith)
      (leads_to_same code input output (at input output (k + 0) operands memory) (k + 1) (k + 1 + 0) (record f { x8 = exact_of op a b; x9 = b }) memory (omega arith) (computes op stand)) in (
        done.0,
        leads_to_same code input output (at input output k operands memory) (k + 1 + 9) (k + 10) (operated op done.0) memory (omega arith)
            (leads_then code _ _ _ first done.1),
      )
