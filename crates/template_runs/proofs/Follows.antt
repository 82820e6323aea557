-- The machine follows the course of a template, over the registers of any site.
use Rattle.std.proofs.Common.{◌≡◌, ◌≢◌, ℕ, zero, suc, ◌+◌, ◌≤◌, Bool, true, false, ◌&&◌, ◌||◌, ◌==◌, if◌then◌else◌, List, [], ◌∷◌, length, refl, sym, ap, ◌∙◌, subst, arith, ⊎_elim}
use Rattle.std.proofs.lemmas.List.{length-map}
use Rattle.std.specs.Prelude.{All}
use Rattle.std.proofs.lemmas.Bool.{eqb-true, or_cases}
use Rattle.std.proofs.lemmas.List.Elements.{All-nil, All-cons, All-head, All-tail}
use Rattle.rv_encode.specs.declared.instruction.Instr.{Instr}
use Rattle.rv_encode.specs.State.{MachineState, Running, register}
use Rattle.rv_encode.specs.Effects.{effect_of}
use Rattle.rv_encode.specs.Words.{Fits}
use Rattle.rv_encode.specs.Runs.{pc_of, moment_after, next_moment, executed, carried_out, Stand}
use Rattle.rv_encode.proofs.Encodings.{encoded_decodes}
use Rattle.rv_encode.proofs.Places.{most_words, fetched_at}
use Rattle.template_runs.specs.Courses.{Course, Final, Lost, is_scratch, is_call, is_changed, are_changed, final, runs}
use Rattle.template_runs.specs.Parts.{part_of}
use Rattle.template_runs.specs.Machine.{IsBefore, IsFinal, begun, CoursesAreRuns}
use Rattle.template_runs.specs.Visits.{visited, Ascend}
use Rattle.template_runs.specs.declared.registers.Registers.{Registers}
use Rattle.template_runs.specs.Renaming.{AreInRange, AreApart, renamed, over, all_over}
use Rattle.template_runs.proofs.Effects.{part_effect}
use Rattle.template_runs.proofs.Names.{is_named, and_parts}
use Rattle.template_runs.proofs.Steps.{IsAt, Comes, part_follows}
use Rattle.template_runs.proofs.Visits.{ascend_within}

-- ---- after the last word

-- what a course writes is not among the registers that stay
unchanged : (regs : Registers) (may : Bool) (n w : ℕ) → n ≢ regs.result → n ≢ 27 → is_scratch n ≡ false → (may && is_call n) ≡ false → is_changed may w ≡ true → n ≢ renamed regs w
unchanged regs may n w other flag stays silent changed =
    ⊎_elim
    (λ (named : ((w == 8) || (w == 27) || is_scratch w) ≡ true).
    ⊎_elim
    (λ (first : ((w == 8) || (w == 27)) ≡ true).
    ⊎_elim
    (λ (result : (w == 8) ≡ true). λ same. other (same ∙ ap (renamed regs) (eqb-true w 8 result)))
    (λ (overflow : (w == 27) ≡ true). λ same. flag (same ∙ ap (renamed regs) (eqb-true w 27 overflow)))
    (or_cases (w == 8) (w == 27) first))
    (λ (scratch : is_scratch w ≡ true). λ same.
    let e : n ≡ w = same ∙ scratch_stays w scratch in
    absurd (let t : is_scratch n ≡ true = ap is_scratch e ∙ scratch in let f = stays in cc))
    (or_cases ((w == 8) || (w == 27)) (is_scratch w) named))
    (λ (calls : (may && is_call w) ≡ true). λ same.
    let e : n ≡ w = same ∙ call_stays w (and_parts may (is_call w) calls).1 in
    absurd (let t : (may && is_call n) ≡ true = ap (λ m. may && is_call m) e ∙ calls in let f = silent in cc))
    (or_cases ((w == 8) || (w == 27) || is_scratch w) (may && is_call w) changed)
  where
    scratch_stays : (w : ℕ) → is_scratch w ≡ true → renamed regs w ≡ w
    scratch_stays w scratch = grind (arith, eqb-true)

    call_stays : (w : ℕ) → is_call w ≡ true → renamed regs w ≡ w
    call_stays w call = grind (arith, eqb-true)

all_unchanged : (regs : Registers) (may : Bool) (n : ℕ) → n ≢ regs.result → n ≢ 27 → is_scratch n ≡ false → (may && is_call n) ≡ false → (ws : List ℕ) → are_changed may ws ≡ true
    → All (λ w. n ≢ renamed regs w) ws
all_unchanged regs may n other flag stays silent [] changed = All-nil _
all_unchanged regs may n other flag stays silent (w ∷ ws) changed =
    let parts = and_parts (is_changed may w) (are_changed may ws) changed in
    All-cons (λ v. n ≢ renamed regs v) w ws (unchanged regs may n w other flag stays silent parts.0) (all_unchanged regs may n other flag stays silent ws parts.1)

final_there : (regs : Registers) (k : ℕ) (may : Bool) (start s : MachineState) (c : Course) → c.calls ≡ may → IsAt regs k start s c → IsFinal regs.result may k start (Running s) (final c)
final_there regs k may start s c may_is here = by_test (c.known 8 && c.known 27 && are_changed c.calls c.written) refl
  where
    by_test : (b : Bool) → (c.known 8 && c.known 27 && are_changed c.calls c.written) ≡ b
        → IsFinal regs.result may k start (Running s) (if b then Rattle.template_runs.specs.Courses.Ends (c.value 8) (c.value 27) c.input else Lost)
    by_test false e = tt
    by_test true e =
        let parts = and_parts (c.known 8 && c.known 27) (are_changed c.calls c.written) e in
        let known = and_parts (c.known 8) (c.known 27) parts.0 in
        let changed : are_changed may c.written ≡ true = ap (λ b. are_changed b c.written) (sym may_is) ∙ parts.1 in (
          s,
          refl,
          record {
            pc = here.pc;
            count = here.count;
            gives = here.values 8 known.0;
            overflow = here.values 27 known.1;
            others = λ m other flag stays silent. here.others m (all_unchanged regs may m other flag stays silent c.written changed);
            left = here.input;
            memory = here.memory;
            output = here.output;
          },
        )

-- ---- word by word

module _ (regs : Registers) (range : AreInRange regs) (code : List ℕ) (may : Bool) (start : MachineState) where
  pub follows : (instrs : List Instr) (k skip : ℕ) (c : Course) (s : MachineState) → c.calls ≡ may → All Fits (all_over regs instrs) → Stand code k (all_over regs instrs) → k + length instrs ≤ most_words
      → IsAt regs (k + skip) start s c → Comes regs may code k (k + length instrs) (length instrs) start (Running s) (runs instrs skip c)
  follows [] k zero c s may_is fit stand small here =
      let zero_is : k + 0 ≡ k + length {A = Instr} [] = omega arith in (
        0,
        omega arith,
        tt,
        subst (λ p. IsFinal regs.result may p start (Running s) (final c)) zero_is (final_there regs (k + 0) may start s c may_is here),
      )
  follows [] k (suc skip) c s may_is fit stand small here = (0, omega arith, tt, tt)
  follows (instr ∷ instrs) k (suc skip) c s may_is fit stand small here =
      let place : k + suc skip ≡ k + 1 + skip = omega arith in
      let end : k + 1 + length instrs ≡ k + length (instr ∷ instrs) = omega arith in
      let less : k + 1 + length instrs ≤ most_words = omega arith in
      let there = follows instrs (k + 1) skip c s may_is (All-tail Fits (over regs instr) (all_over regs instrs) fit) stand.1 less (subst (λ p. IsAt regs p start s c) place here) in
      let few = there.1 in (
        there.0,
        omega arith,
        subst (λ p. Ascend k p (visited code there.0 (Running s))) end (ascend_within (k + 1) k _ _ (omega arith) (omega arith) _ there.2),
        subst (λ p. IsFinal regs.result may p start (moment_after code there.0 (Running s)) (runs instrs skip c)) end there.3,
      )
  follows (instr ∷ instrs) k zero c s may_is fit stand small here =
      let own = over regs instr in
      let zero_is : k + 0 ≡ k = omega arith in
      let at : IsAt regs k start s c = subst (λ p. IsAt regs p start s c) zero_is here in
      let end : k + 1 + length instrs ≡ k + length (instr ∷ instrs) = omega arith in
      let less : k + 1 + length instrs ≤ most_words = omega arith in
      let effect : next_moment code (Running s) ≡ effect_of own s =
      ap (λ o. executed o s) (fetched_at code s.pc k at.pc ∙ stand.0) ∙ ap (λ o. carried_out o s) (encoded_decodes own (All-head Fits own (all_over regs instrs) fit)) in
      let there =
      part_follows regs range code k (k + 1 + length instrs) (length instrs) may start s (runs instrs) c may_is at (omega arith)
      (λ skip d t own_may place. follows instrs (k + 1) skip d t own_may (All-tail Fits own (all_over regs instrs) fit) stand.1 less place)
      (part_of instr) (effect_of own s) (part_effect regs instr s) in
      let few = there.1 in
      let final_is = runs (instr ∷ instrs) 0 c in (
        suc there.0,
        omega arith,
        (
          k,
          omega arith,
          omega arith,
          at.pc,
          subst (λ p. Ascend (k + 1) p (visited code there.0 (next_moment code (Running s)))) end (subst (λ m. Ascend (k + 1) (k + 1 + length instrs) (visited code there.0 m)) (sym effect) there.2),
        ),
        subst (λ p. IsFinal regs.result may p start (moment_after code there.0 (next_moment code (Running s))) final_is) end
            (subst (λ m. IsFinal regs.result may (k + 1 + length instrs) start (moment_after code there.0 m) final_is) (sym effect) there.3),
      )

-- ---- where it begins

begun_at : (regs : Registers) (apart : ℕ → Bool) (may in_place : Bool) (k : ℕ) (s : MachineState) → AreApart regs apart → (in_place ≡ true → regs.result ≡ regs.first) → IsBefore k s
    → IsAt regs (k + 0) s s (begun apart may in_place (register s regs.first) (register s regs.second) (register s regs.third) (register s 27) s.input)
begun_at regs apart may in_place k s apart_is place before = record {
  pc = before.pc ∙ ap pc_of (let e : k ≡ k + 0 = omega arith in e);
  count = before.count;
  apart = apart_is;
  named = λ n known. by_name (λ m. is_named m ≡ true) refl refl refl refl refl (λ e. refl) n known;
  values = λ n known. by_name (λ m. register s (renamed regs m) ≡ (begun apart may in_place (register s regs.first) (register s regs.second) (register s regs.third) (register s 27) s.input).value m) before.zero_is refl refl refl refl (λ e. ap (register s) (place e)) n known;
  others = λ n none. refl;
  input = refl;
  memory = refl;
  output = refl;
}
  where
    at_number : (P : ℕ → Type 0) (n m : ℕ) → P m → (n == m) ≡ true → P n
    at_number P n m p e = subst P (sym (eqb-true n m e)) p

    by_name : (P : ℕ → Type 0) → P 0 → P 11 → P 12 → P 13 → P 27 → (in_place ≡ true → P 8) → (n : ℕ)
        → ((n == 0) || (n == 11) || (n == 12) || (n == 13) || (n == 27) || (in_place && (n == 8))) ≡ true → P n
    by_name P p0 p11 p12 p13 p27 p8 n known =
        ⊎_elim (λ e.
        ⊎_elim (λ e.
        ⊎_elim (λ e.
        ⊎_elim (λ e.
        ⊎_elim (at_number P n 0 p0) (at_number P n 11 p11) (or_cases _ _ e))
        (at_number P n 12 p12) (or_cases _ _ e))
        (at_number P n 13 p13) (or_cases _ _ e))
        (at_number P n 27 p27) (or_cases _ _ e))
        (λ e. let parts = and_parts in_place (n == 8) e in at_number P n 8 (p8 parts.0) parts.1) (or_cases _ _ known)

pub courses_are_runs : CoursesAreRuns
courses_are_runs regs apart may in_place instrs code k s range apart_is place stands before =
    let same : length (all_over regs instrs) ≡ length instrs = length-map instrs (over regs) in
    let within = stands.within in
    follows regs range code may s instrs k 0 (begun apart may in_place (register s regs.first) (register s regs.second) (register s regs.third) (register s 27) s.input) s refl stands.fit stands.stand
    (omega arith) (begun_at regs apart may in_place k s apart_is place before)
