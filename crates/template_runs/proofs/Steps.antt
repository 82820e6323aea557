-- A step of a course, and the instruction of the machine.
use Rattle.std.proofs.Common.{◌≡◌, ◌≢◌, ℕ, ◌+◌, ◌-◌, ◌*◌, ◌/◌, ◌%◌, ◌<◌, ◌≤◌, ℤ, pos, negsuc, Bool, true, false, not, ◌&&◌, ◌||◌, ◌==◌, nat_lt, if◌then◌else◌, List, [], ◌∷◌, length, refl, sym, ap, ◌∙◌, subst, arith, ⊎_elim}
use Rattle.std.specs.Prelude.{slice_set, slice_index_or, All}
use Rattle.std.specs.Int.{w32, cast_unsigned}
use Rattle.std.specs.Ordering.{int_eq}
use Rattle.std.proofs.lemmas.Bool.{eqb-true, eq-eqb, or_cases, cases_eq, cases_Bool, ltb-true}
use Rattle.std.proofs.lemmas.List.{length-set, get_or-set_same, get_or-set_other}
use Rattle.std.proofs.lemmas.List.Elements.{All-head, All-tail}
use Rattle.sat_base.specs.declared.machine_fault.MachineFault.TheVariants.{Jump, Call}
use Rattle.sat_base.specs.Clip.{low16}
use Rattle.rv_encode.specs.State.{MachineState, Moment, Running, Over, Ended, Stopped, Faulted, count_of, register, registers_with, next_pc, target_pc}
use Rattle.rv_encode.specs.Effects.{sets, jumps, goes_on, faults, takes, writes, left_flag, calls}
use Rattle.rv_encode.specs.Runs.{pc_of, moment_after}
use Rattle.rv_encode.proofs.Places.{most_words, next_pc_of, target_pc_of, whole_pc_of}
use Rattle.template_runs.specs.Courses.{Course, Final, Stops, Lost, Rest, may_be_one, is_writable, known_after, sets_value, jumps_by, takes_sample, call_of, step_of}
use Rattle.template_runs.specs.Parts.{Part, Sets, Jumps, Calls, Other}
use Rattle.template_runs.specs.Machine.{IsFinal}
use Rattle.template_runs.specs.Visits.{visited, Ascend}
use Rattle.template_runs.specs.declared.registers.Registers.{Registers}
use Rattle.template_runs.specs.Renaming.{AreInRange, AreApart, renamed}
use Rattle.template_runs.proofs.Effects.{HasEffect}
use Rattle.template_runs.proofs.Names.{is_named, and_parts, writable_fits, known_apart}

-- ---- a register after a write

with_set : (xs : List ℤ) (r : ℕ) (v : ℤ) → r ≢ 0 → registers_with xs r v ≡ slice_set xs r v
with_set xs r v some = ⊎_elim (λ (is : (r == 0) ≡ true). absurd (some (eqb-true r 0 is))) (λ (no : (r == 0) ≡ false). ap (λ b. if b then xs else slice_set xs r v) no) (cases_Bool (r == 0))

pub count_with : (xs : List ℤ) (r : ℕ) (v : ℤ) → r ≢ 0 → length (registers_with xs r v) ≡ length xs
count_with xs r v some = ap length (with_set xs r v some) ∙ length-set xs r v

pub same_with : (xs : List ℤ) (r : ℕ) (v : ℤ) → r ≢ 0 → r < length xs → slice_index_or (registers_with xs r v) r (pos 0) ≡ v
same_with xs r v some less = ap (λ l. slice_index_or l r (pos 0)) (with_set xs r v some) ∙ get_or-set_same xs r v (pos 0) less

pub other_with : (xs : List ℤ) (r n : ℕ) (v : ℤ) → r ≢ 0 → n ≢ r → slice_index_or (registers_with xs r v) n (pos 0) ≡ slice_index_or xs n (pos 0)
other_with xs r n v some other = ap (λ l. slice_index_or l n (pos 0)) (with_set xs r v some) ∙ get_or-set_other xs r n v (pos 0) other

-- ---- courses

not_same : (n rd : ℕ) → n ≢ rd → (n == rd) ≡ false
not_same n rd other = ⊎_elim (λ (is : (n == rd) ≡ true). absurd (other (eqb-true n rd is))) (λ no. no) (cases_Bool (n == rd))

-- what is known of another register was known before, and is in another place
known_before : (known apart : ℕ → Bool) (rd n : ℕ) → n ≢ rd → known_after known apart rd n ≡ true → (known n ≡ true) × ((may_be_one apart rd n) ≡ false)
known_before known apart rd n other now =
    ⊎_elim
    (λ (is : (n == rd) ≡ true). absurd (other (eqb-true n rd is)))
    (λ (rest : (known n && not (may_be_one apart rd n)) ≡ true). both (known n) (may_be_one apart rd n) rest)
    (or_cases (n == rd) (known n && not (may_be_one apart rd n)) now)
  where
    both : (a b : Bool) → (a && not b) ≡ true → (a ≡ true) × (b ≡ false)
    both true false e = (refl, refl)
    both true true e = absurd (let f = e in cc)
    both false b e = absurd (let f = e in cc)

-- The machine, which began so, is where the course is, before the word of a number: with its values in the registers of
-- the site. Only the registers that were written have changed.
pub record IsAt (regs : Registers) (k : ℕ) (start s : MachineState) (c : Course) : Type 0 where
  pub pc : s.pc ≡ pc_of k
  pub count : length s.registers ≡ 32
  pub apart : AreApart regs c.apart
  pub named : (n : ℕ) → c.known n ≡ true → is_named n ≡ true
  pub values : (n : ℕ) → c.known n ≡ true → register s (renamed regs n) ≡ c.value n
  pub others : (n : ℕ) → All (λ w. n ≢ renamed regs w) c.written → register s n ≡ register start n
  pub input : s.input ≡ c.input
  pub memory : s.memory ≡ start.memory
  pub output : s.output ≡ start.output

-- within a number of instructions the machine comes from a moment to where a course comes, by words from the word of a
-- number on, each behind those before it
abbrev pub Comes : (regs : Registers) → (calls : Bool) → List ℕ → (from end most : ℕ) → MachineState → Moment → Final → Type 0
Comes regs may code from end most start at there =
    (n : ℕ) × (n ≤ most) × Ascend from end (visited code n at) × IsFinal regs.result may end start (moment_after code n at) there

module _ (regs : Registers) (range : AreInRange regs) (code : List ℕ) (k end most : ℕ) (may : Bool) (start s : MachineState) (rest : Rest) (c : Course) (may_is : c.calls ≡ may) (here : IsAt regs k start s c) (small : k ≤ most_words)
    (on : (skip : ℕ) (d : Course) (t : MachineState) → d.calls ≡ may → IsAt regs (k + 1 + skip) start t d → Comes regs may code (k + 1) end most start (Running t) (rest skip d)) where
  -- the next word
  next_place : next_pc s.pc ≡ pc_of (k + 1 + 0)
  next_place =
      let zero_is : k ≡ k + 0 = omega arith in
      let e : k + 1 + 0 ≡ k + (0 + 1) = omega arith in
      ap next_pc (here.pc ∙ ap pc_of zero_is) ∙ next_pc_of k 0 (omega arith) ∙ ap pc_of (sym e)

  on_at : (pc p : ℕ) → pc ≡ pc_of p → IsAt regs p start (record s { pc = pc }) c
  on_at pc p is = record {
    pc = is;
    count = here.count;
    apart = here.apart;
    named = here.named;
    values = here.values;
    others = here.others;
    input = here.input;
    memory = here.memory;
    output = here.output;
  }

  set_at : (rd : ℕ) (v : ℤ) → is_writable rd ≡ true → IsAt regs (k + 1 + 0) start (record s { registers = registers_with s.registers (renamed regs rd) v; pc = next_pc s.pc }) (sets_value c rd v)
  set_at rd v writable =
      let r = renamed regs rd in
      let fits = writable_fits regs range rd writable in
      let count = here.count in
      let less : r < length s.registers = let le = fits.1 in omega arith in
      record {
        pc = next_place;
        count = count_with s.registers r v fits.0 ∙ here.count;
        apart = here.apart;
        named = λ n now.
            ⊎_elim
            (λ (is : n ≡ rd). subst (λ m. is_named m ≡ true) (sym is) (ap (λ b. b || (rd == 0)) writable))
            (λ (other : n ≢ rd). here.named n (known_before c.known c.apart rd n other now).0)
            (cases_eq n rd);
        values = λ n now.
            ⊎_elim
            (λ (is : n ≡ rd).
            ap (λ m. slice_index_or (registers_with s.registers r v) (renamed regs m) (pos 0)) is
            ∙ same_with s.registers r v fits.0 less
            ∙ ap (λ b. if b then v else c.value n) (sym (eq-eqb n rd is)))
            (λ (other : n ≢ rd).
            let before = known_before c.known c.apart rd n other now in
            other_with s.registers r (renamed regs n) v fits.0 (known_apart regs range c.apart here.apart n rd (here.named n before.0) writable other before.1)
            ∙ here.values n before.0
            ∙ ap (λ b. if b then v else c.value n) (sym (not_same n rd other)))
            (cases_eq n rd);
        others = λ n none.
            other_with s.registers r n v fits.0 (All-head (λ w. n ≢ renamed regs w) rd c.written none)
            ∙ here.others n (All-tail (λ w. n ≢ renamed regs w) rd c.written none);
        input = here.input;
        memory = here.memory;
        output = here.output;
      }

  abbrev There : Moment → Final → Type 0
  There at there = Comes regs may code (k + 1) end most start at there

  lost : (at : Moment) → There at Lost
  lost at = (0, omega arith, tt, tt)

  -- where a test holds, and else the course is lost
  there_if : (b : Bool) (at : Moment) (there : Final) → (b ≡ true → There at there) → There at (if b then there else Lost)
  there_if true at there so = so refl
  there_if false at there so = lost at

  set_there : (rd : ℕ) (v : ℤ) → is_writable rd ≡ true → There (sets s (renamed regs rd) v) (rest 0 (sets_value c rd v))
  set_there rd v writable = on 0 (sets_value c rd v) (record s { registers = registers_with s.registers (renamed regs rd) v; pc = next_pc s.pc }) may_is (set_at rd v writable)

  set_follows : (rd rs1 rs2 : ℕ) (f : ℤ → ℤ → ℤ) (at : Moment) → HasEffect regs (Sets rd rs1 rs2 f) s at → There at (step_of (Sets rd rs1 rs2 f) rest c)
  set_follows rd rs1 rs2 f at effect =
      there_if (c.known rs1 && c.known rs2 && is_writable rd) at (rest 0 (sets_value c rd (f (c.value rs1) (c.value rs2)))) (λ holds.
      let all = and_parts (c.known rs1 && c.known rs2) (is_writable rd) holds in
      let known = and_parts (c.known rs1) (c.known rs2) all.0 in
      let v = f (c.value rs1) (c.value rs2) in
      let same : f (register s (renamed regs rs1)) (register s (renamed regs rs2)) ≡ v =
      ap (λ x. f x (register s (renamed regs rs2))) (here.values rs1 known.0) ∙ ap (λ y. f (c.value rs1) y) (here.values rs2 known.1) in
      subst (λ m. There m (rest 0 (sets_value c rd v))) (sym (effect ∙ ap (sets s (renamed regs rd)) same)) (set_there rd v all.1))

  jump_follows : (imm : ℤ) → There (jumps s s.registers imm) (jumps_by imm rest c)
  jump_follows (negsuc distance) = lost (jumps s s.registers (negsuc distance))
  jump_follows (pos distance) =
      let m = distance / 4 in
      there_if ((distance % 4 == 0) && nat_lt 3 distance && nat_lt distance 4000) (jumps s s.registers (pos distance)) (rest (m - 1) c) (λ holds.
      let parts = and_parts ((distance % 4 == 0) && nat_lt 3 distance) (nat_lt distance 4000) holds in
      let front = and_parts (distance % 4 == 0) (nat_lt 3 distance) parts.0 in
      let whole : distance % 4 ≡ 0 = eqb-true (distance % 4) 0 front.0 in
      let more : 3 < distance = ltb-true 3 distance front.1 in
      let less : distance < 4000 = ltb-true distance 4000 parts.1 in
      let four : distance ≡ 4 * m = omega arith in
      let place : k + (0 + m) ≡ k + 1 + (m - 1) = omega arith in
      let zero_is : k ≡ k + 0 = omega arith in
      let t : MachineState = record s { pc = pc_of (k + 1 + (m - 1)) } in
      let target : jumps s s.registers (pos distance) ≡ Running t =
      ap (λ n. jumps s s.registers (pos n)) four
      ∙ ap (λ p. if target_pc p (pos (4 * m)) % 4 == 0 then Running (record s { pc = target_pc p (pos (4 * m)) }) else Over (Faulted s.pc Jump) s.output) (here.pc ∙ ap pc_of zero_is)
      ∙ ap (λ p. if p % 4 == 0 then Running (record s { pc = p }) else Over (Faulted s.pc Jump) s.output) (target_pc_of k 0 m (omega arith) (omega arith) ∙ ap pc_of place)
      ∙ ap (λ (b : Bool). if b then Running t else Over (Faulted s.pc Jump) s.output) (whole_pc_of (k + 1 + (m - 1))) in
      subst (λ a. There a (rest (m - 1) c)) (sym target) (on (m - 1) c t may_is (on_at (pc_of (k + 1 + (m - 1))) (k + 1 + (m - 1)) refl)))

  jumps_follow : (rs1 rs2 : ℕ) (test : ℤ → ℤ → Bool) (imm : ℤ) (at : Moment) → HasEffect regs (Jumps rs1 rs2 test imm) s at → There at (step_of (Jumps rs1 rs2 test imm) rest c)
  jumps_follow rs1 rs2 test imm at effect =
      let go = test (c.value rs1) (c.value rs2) in
      let next = if go then jumps_by imm rest c else rest 0 c in
      there_if (c.known rs1 && c.known rs2) at next (λ holds.
      let known = and_parts (c.known rs1) (c.known rs2) holds in
      let x = register s (renamed regs rs1) in
      let y = register s (renamed regs rs2) in
      let same : test x y ≡ go = ap (λ v. test v y) (here.values rs1 known.0) ∙ ap (test (c.value rs1)) (here.values rs2 known.1) in
      subst (λ m. There m next) (sym (effect ∙ ap (λ b. if b then jumps s s.registers imm else goes_on s) same)) (branch go))
    where
      branch : (go : Bool) → There (if go then jumps s s.registers imm else goes_on s) (if go then jumps_by imm rest c else rest 0 c)
      branch true = jump_follows imm
      branch false = on 0 c (record s { pc = next_pc s.pc }) may_is (on_at (next_pc s.pc) (k + 1 + 0) next_place)

  -- ---- environment calls

  either_there : (b : Bool) (at at' : Moment) (there there' : Final) → There at there → There at' there' → There (if b then at else at') (if b then there else there')
  either_there true at at' there there' so so' = so
  either_there false at at' there there' so so' = so'

  take_there : (input : List ℤ) → There (takes s input) (takes_sample input rest c)
  take_there [] = lost (takes s [])
  take_there (sample ∷ left) =
      let at = set_at 10 sample refl in
      on 0 (record (sets_value c 10 sample) { input = left }) (record s { registers = registers_with s.registers 10 sample; pc = next_pc s.pc; input = left }) may_is
      (record {
        pc = at.pc;
        count = at.count;
        apart = at.apart;
        named = at.named;
        values = at.values;
        others = at.others;
        input = refl;
        memory = at.memory;
        output = at.output;
      })

  stop_there : There (Over (Stopped (cast_unsigned w32 (register s 10))) s.output) (if c.known 10 then Stops (c.value 10) else Lost)
  stop_there =
      there_if (c.known 10) (Over (Stopped (cast_unsigned w32 (register s 10))) s.output) (Stops (c.value 10)) (λ known.
      (0, omega arith, tt, ap (λ v. Over (Stopped (cast_unsigned w32 v)) s.output) (here.values 10 known) ∙ ap (Over (Stopped (cast_unsigned w32 (c.value 10)))) here.output))

  call_there : (number : ℤ) → There (calls s number) (call_of number rest c)
  call_there number =
      either_there (int_eq number (pos 1)) _ _ _ _
      (subst (λ flag. There (sets s 10 flag) (rest 0 (sets_value c 10 (left_flag c.input)))) (ap left_flag (sym here.input)) (set_there 10 (left_flag c.input) refl))
      (either_there (int_eq number (pos 2)) _ _ _ _
      (subst (λ left. There (takes s left) (takes_sample c.input rest c)) (sym here.input) (take_there c.input))
      (either_there (int_eq number (pos 3)) _ _ _ _ (lost (writes s (low16 (register s 10))))
      (either_there (int_eq number (pos 4)) _ _ _ _ (lost (Over (Ended (register s 27) (count_of s)) s.output))
      (either_there (int_eq number (pos 5)) _ _ _ _ stop_there (lost (faults s Call))))))

  calls_follow : (at : Moment) → HasEffect regs Calls s at → There at (step_of Calls rest c)
  calls_follow at effect =
      there_if (c.known 17) at (call_of (c.value 17) rest c) (λ known.
      subst (λ m. There m (call_of (c.value 17) rest c)) (sym (effect ∙ ap (calls s) (here.values 17 known))) (call_there (c.value 17)))

  pub part_follows : (p : Part) (at : Moment) → HasEffect regs p s at → There at (step_of p rest c)
  part_follows (Sets rd rs1 rs2 f) at effect = set_follows rd rs1 rs2 f at effect
  part_follows (Jumps rs1 rs2 test imm) at effect = jumps_follow rs1 rs2 test imm at effect
  part_follows Calls at effect = calls_follow at effect
  part_follows Other at effect = lost at
