-- The machine does a line word by word.
use Rattle.std.proofs.Common.{◌≡◌, ◌≢◌, ℕ, ◌+◌, ◌<◌, ◌≤◌, ℤ, pos, Bool, true, false, not, ◌&&◌, ◌==◌, int_lt, List, [], ◌∷◌, length, refl, sym, ap, ◌∙◌, subst, inl, inr, arith}
use Rattle.std.specs.Prelude.{Option, Some, None, slice_index_or}
use Rattle.std.specs.Int.{w32, int_wrapping_add, int_wrapping_sub, int_wrapping_mul, int_bit_and, int_bit_or, int_bit_xor}
use Rattle.std.proofs.lemmas.Bool.{eqb-true, cases_Bool}
use Rattle.std.proofs.lemmas.Bool.Decides.{nat_tests}
use Rattle.rv_encode.specs.declared.instruction.Instr.{Instr}
use Rattle.rv_encode.specs.declared.instruction.Instr.TheVariants.{Lui, Addi, Slti, Sltiu, Xori, Ori, Andi, Slli, Srli, Srai, Add, Sll, Slt, Sltu, Xor, Srl, Or, And, Sub, Sra, Mul, Mulh}
use Rattle.rv_encode.specs.Arithmetic.{flag_of, is_below, shift_amount, shifted_left, shifted_right, shifted_right_signed, upper_product}
use Rattle.rv_encode.specs.State.{MachineState, Moment, Running, register, registers_with, next_pc}
use Rattle.rv_encode.specs.Effects.{sets, effect_of}
use Rattle.rv_encode.specs.Runs.{pc_of, next_moment, executed, carried_out}
use Rattle.rv_encode.proofs.Encodings.{encoded_decodes}
use Rattle.rv_encode.proofs.Places.{fetched_at, next_pc_of}
use Rattle.template_runs.specs.Machine.{IsBefore}
use Rattle.template_runs.proofs.Steps.{count_with, same_with, other_with}
use Rattle.code_lines.specs.declared.word.Word.{Word}
use Rattle.code_lines.specs.declared.word.Word.TheVariants.{Own, First, Further}
use Rattle.code_lines.specs.Words.{Code, StandHere, instr_of, begun_by}
use Rattle.code_lines.specs.Leading.{Leads, LeadsLater}
use Rattle.code_lines.proofs.Leading.{leads_nowhere, leads_then, leads_least, leads_own}
use Rattle.code_lines.specs.Lines.{File, target_of, value_in, with_value, file_after, can_be_set, is_line, IsLeft, LinesRun}

-- the effect of an instruction that sets a register, by values that the registers have
abbrev SetsBy : Option ℕ → Instr → MachineState → File → Type 0
SetsBy None instr s f = Unit {0}
SetsBy (Some rd) instr s f = effect_of instr s ≡ sets s rd (value_in instr f)

module _ (s : MachineState) (f : File) (same : (n : ℕ) → register s n ≡ f n) where
  of_one : (rd : ℕ) (of : ℤ → ℤ) (a : ℕ) → sets s rd (of (register s a)) ≡ sets s rd (of (f a))
  of_one rd of a = ap (λ x. sets s rd (of x)) (same a)

  of_two : (rd : ℕ) (of : ℤ → ℤ → ℤ) (a b : ℕ) → sets s rd (of (register s a) (register s b)) ≡ sets s rd (of (f a) (f b))
  of_two rd of a b = ap (λ x. sets s rd (of x (register s b))) (same a) ∙ ap (λ y. sets s rd (of (f a) y)) (same b)

  sets_by : (instr : Instr) → SetsBy (target_of instr) instr s f
  sets_by (Lui rd imm) = refl
  sets_by (Addi rd rs1 imm) = of_one rd (λ x. int_wrapping_add w32 x imm) rs1
  sets_by (Slti rd rs1 imm) = of_one rd (λ x. flag_of (int_lt x imm)) rs1
  sets_by (Sltiu rd rs1 imm) = of_one rd (λ x. flag_of (is_below x imm)) rs1
  sets_by (Xori rd rs1 imm) = of_one rd (λ x. int_bit_xor w32 x imm) rs1
  sets_by (Ori rd rs1 imm) = of_one rd (λ x. int_bit_or w32 x imm) rs1
  sets_by (Andi rd rs1 imm) = of_one rd (λ x. int_bit_and w32 x imm) rs1
  sets_by (Slli rd rs1 imm) = of_one rd (λ x. shifted_left x imm) rs1
  sets_by (Srli rd rs1 imm) = of_one rd (λ x. shifted_right x imm) rs1
  sets_by (Srai rd rs1 imm) = of_one rd (λ x. shifted_right_signed x imm) rs1
  sets_by (Add rd rs1 rs2) = of_two rd (λ x y. int_wrapping_add w32 x y) rs1 rs2
  sets_by (Sll rd rs1 rs2) = of_two rd (λ x y. shifted_left x (shift_amount y)) rs1 rs2
  sets_by (Slt rd rs1 rs2) = of_two rd (λ x y. flag_of (int_lt x y)) rs1 rs2
  sets_by (Sltu rd rs1 rs2) = of_two rd (λ x y. flag_of (is_below x y)) rs1 rs2
  sets_by (Xor rd rs1 rs2) = of_two rd (λ x y. int_bit_xor w32 x y) rs1 rs2
  sets_by (Srl rd rs1 rs2) = of_two rd (λ x y. shifted_right x (shift_amount y)) rs1 rs2
  sets_by (Or rd rs1 rs2) = of_two rd (λ x y. int_bit_or w32 x y) rs1 rs2
  sets_by (And rd rs1 rs2) = of_two rd (λ x y. int_bit_and w32 x y) rs1 rs2
  sets_by (Sub rd rs1 rs2) = of_two rd (λ x y. int_wrapping_sub w32 x y) rs1 rs2
  sets_by (Sra rd rs1 rs2) = of_two rd (λ x y. shifted_right_signed x (shift_amount y)) rs1 rs2
  sets_by (Mul rd rs1 rs2) = of_two rd (λ x y. int_wrapping_mul w32 x y) rs1 rs2
  sets_by (Mulh rd rs1 rs2) = of_two rd (λ x y. upper_product x y) rs1 rs2
  sets_by instr = tt

-- ---- one instruction

both_true : (a b : Bool) → (a && b) ≡ true → (a ≡ true) × (b ≡ true)
both_true true b e = (refl, e)
both_true false b e = absurd (let f = e in cc)

not_zero : (rd : ℕ) → not (rd == 0) ≡ true → rd ≢ 0
not_zero rd can is = let e : not (0 == 0) ≡ true = subst (λ n. not (n == 0) ≡ true) is can in cc

value_set : (registers : List ℤ) (rd : ℕ) (x : ℤ) (f : File) → rd ≢ 0 → rd < length registers → ((n : ℕ) → slice_index_or registers n (pos 0) ≡ f n)
    → (n : ℕ) → slice_index_or (registers_with registers rd x) n (pos 0) ≡ with_value (Some rd) x f n
value_set registers rd x f some less same n =
    elim (cases_Bool (n == rd)) [
      | inl is ↦ let e : n ≡ rd = eqb-true n rd is in rw is (subst (λ m. slice_index_or (registers_with registers rd x) m (pos 0) ≡ x) (sym e) (same_with registers rd x some less))
      | inr other ↦ rw other (other_with registers rd n x some (λ e. let g : (n == n) ≡ false = subst (λ m. (n == m) ≡ false) (sym e) other in absurd (not_itself n g)) ∙ same n)
    ]
  where
    not_itself : (n : ℕ) → (n == n) ≡ false → ⊥
    not_itself n is = grind (arith, nat_tests)

module _ (code : Code) (k : ℕ) (word : Word) (s : MachineState) (stands : StandHere code k (word ∷ [])) (before : IsBefore k s) where
  -- the moment after it is what it has for effect
  pub next_is : next_moment code.words (Running s) ≡ effect_of (instr_of word) s
  next_is =
      ap (λ o. executed o s) (fetched_at code.words s.pc k before.pc ∙ stands.stand.0.stand) ∙ ap (λ o. carried_out o s) (encoded_decodes (instr_of word) stands.stand.0.fit)

  -- a word of the code's own enters no site
  pub later_one : (at : Moment) → begun_by word ≡ None → next_moment code.words (Running s) ≡ at → LeadsLater code 1 (Running s) at
  later_one at own next = leads_own code k s at before.pc (stands.stand.0.begun ∙ own) next

  pub leads_one : (at : Moment) → begun_by word ≡ None → next_moment code.words (Running s) ≡ at → Leads code (Running s) at
  leads_one at own next = leads_least code 1 0 (Running s) at (omega arith) (later_one at own next)

  -- and the next word follows
  pub next_place : next_pc s.pc ≡ pc_of (k + 1)
  next_place =
      let within = stands.within in
      let small : k + 0 ≤ 16777216 = omega arith in
      let place : k ≡ k + 0 = omega arith in
      let next : k + (0 + 1) ≡ k + 1 = omega arith in
      ap next_pc (before.pc ∙ ap pc_of place) ∙ next_pc_of k 0 small ∙ ap pc_of next

  module _ (f : File) (same : (n : ℕ) → register s n ≡ f n) where
    -- an instruction that sets a register
    pub one_set : (rd : ℕ) (x : ℤ) → can_be_set (Some rd) ≡ true → effect_of (instr_of word) s ≡ sets s rd x
        → (t : MachineState) × (next_moment code.words (Running s) ≡ Running t) × IsLeft (k + 1) (with_value (Some rd) x f) s t
    one_set rd x can effect =
        let parts = both_true _ _ can in
        let some = not_zero rd parts.0 in
        let count = before.count in
        let less : rd < length s.registers = grind (arith, nat_tests) in (
          record s { registers = registers_with s.registers rd x; pc = next_pc s.pc },
          next_is ∙ effect,
          record {
            before = record {
              pc = next_place;
              count = count_with s.registers rd x some ∙ before.count;
              zero_is = other_with s.registers rd 0 x some (λ e. some (sym e)) ∙ before.zero_is;
            };
            file = value_set s.registers rd x f some less same;
            memory = refl;
            input = refl;
            output = refl;
          },
        )

    one : (target : Option ℕ) → can_be_set target ≡ true → SetsBy target (instr_of word) s f
        → (t : MachineState) × (next_moment code.words (Running s) ≡ Running t) × IsLeft (k + 1) (with_value target (value_in (instr_of word) f) f) s t
    one None can effect = absurd (let e = can in cc)
    one (Some rd) can effect = one_set rd (value_in (instr_of word) f) can effect

-- ---- a line

pub stands_first : (code : Code) (k : ℕ) (word : Word) (words : List Word) → StandHere code k (word ∷ words) → StandHere code k (word ∷ [])
stands_first code k word words stands = let within = stands.within in record { stand = (stands.stand.0, tt); within = omega arith }

pub stands_rest : (code : Code) (k : ℕ) (word : Word) (words : List Word) → StandHere code k (word ∷ words) → StandHere code (k + 1) words
stands_rest code k word words stands = let within = stands.within in record { stand = stands.stand.1; within = omega arith }

lines_by : (code : Code) (k : ℕ) (words : List Word) (s : MachineState) (f : File) → StandHere code k words → IsBefore k s → is_line words ≡ true → ((n : ℕ) → register s n ≡ f n)
    → (t : MachineState) × Leads code (Running s) (Running t) × IsLeft (k + length words) (file_after words f) s t
lines_by code k [] s f stands before line same =
    let none : k ≡ k + 0 = omega arith in
    (s, leads_nowhere code (Running s), record { before = subst (λ n. IsBefore n s) none before; file = same; memory = refl; input = refl; output = refl })
lines_by code k (Own instr ∷ words) s f stands before line same =
    let parts = both_true _ _ line in
    let alone = stands_first code k (Own instr) words stands in
    let first = one code k (Own instr) s alone before f same (target_of instr) parts.0 (sets_by s f same instr) in
    let between = first.0 in
    let left = first.2 in
    let rest = lines_by code (k + 1) words between (with_value (target_of instr) (value_in instr f) f) (stands_rest code k (Own instr) words stands) left.before parts.1 left.file in
    let last = rest.2 in
    let whole : k + 1 + length words ≡ k + length (Own instr ∷ words) = omega arith in (
      rest.0,
      leads_then code (Running s) (Running between) (Running rest.0) (leads_one code k (Own instr) s alone before (Running between) refl first.1) rest.1,
      record {
        before = subst (λ n. IsBefore n rest.0) whole last.before;
        file = last.file;
        memory = last.memory ∙ left.memory;
        input = last.input ∙ left.input;
        output = last.output ∙ left.output;
      },
    )
lines_by code k (First site instr ∷ words) s f stands before line same = absurd (let e = line in cc)
lines_by code k (Further instr ∷ words) s f stands before line same = absurd (let e = line in cc)

pub lines_run : LinesRun
lines_run code k words s stands before line = lines_by code k words s (register s) stands before line (λ n. refl)
