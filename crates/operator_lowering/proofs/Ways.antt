-- What the machine does over the registers of a site, by the way in which the words begin.
use Rattle.std.proofs.Common.{◌≡◌, ◌≢◌, ℕ, suc, ◌+◌, ◌≤◌, ◌⊎◌, inl, inr, pos, Bool, true, false, List, [], ◌∷◌, length, refl, sym, ap, ◌∙◌, subst, arith, ⊎_elim}
use Rattle.std.specs.Prelude.{FitsSigned}
use Rattle.std.specs.Int.{w32}
use Rattle.std.proofs.lemmas.List.{length-map}
use Rattle.std.proofs.lemmas.List.Elements.{All-nil, All-cons, All-head, All-tail}
use Rattle.rv_encode.specs.declared.instruction.Instr.{Instr}
use Rattle.rv_encode.specs.declared.instruction.Instr.TheVariants.{Addi}
use Rattle.rv_encode.specs.State.{MachineState, Moment, Running, register}
use Rattle.rv_encode.specs.Runs.{moment_after, next_moment}
use Rattle.rv_encode.specs.Words.{Fits}
use Rattle.template_runs.specs.declared.registers.Registers.{Registers}
use Rattle.template_runs.specs.Copies.{IsCopied}
use Rattle.template_runs.specs.Courses.{Final, Ends, Stops, Lost, is_scratch}
use Rattle.template_runs.specs.Machine.{StandHere, IsBefore, IsFinal, course_of}
use Rattle.template_runs.specs.Visits.{visited, Ascend}
use Rattle.template_runs.specs.Renaming.{AreInRange, AreApart, IsPlace, all_over}
use Rattle.template_runs.proofs.Copies.{adds_copy}
use Rattle.template_runs.proofs.Follows.{courses_are_runs}

-- within 4,096 instructions the machine comes from before some words to where a course comes, onwards alone
abbrev pub Done : (result : ℕ) → (calls : Bool) → List ℕ → (place : ℕ) → List Instr → MachineState → Final → Type 0
Done result calls code place words s final =
    (n : ℕ) × (n ≤ 4096) × Ascend place (place + length words) (visited code n (Running s)) × IsFinal result calls (place + length words) s (moment_after code n (Running s)) final

-- ---- the words alone

-- the same within fewer instructions
abbrev DoneIn : (most result : ℕ) → (calls : Bool) → List ℕ → (place : ℕ) → List Instr → MachineState → Final → Type 0
DoneIn most result calls code place words s final =
    (n : ℕ) × (n ≤ most) × Ascend place (place + length words) (visited code n (Running s)) × IsFinal result calls (place + length words) s (moment_after code n (Running s)) final

straight_in : (regs : Registers) (apart : ℕ → Bool) (calls moved : Bool) (words : List Instr) (code : List ℕ) (place : ℕ) (s : MachineState) (final : Final)
    → AreInRange regs → AreApart regs apart → (moved ≡ true → regs.result ≡ regs.first) → length words ≤ 90
    → StandHere code place (all_over regs words) → IsBefore place s → course_of regs apart calls moved s words ≡ final
    → DoneIn 4095 regs.result calls code place (all_over regs words) s final
straight_in regs apart calls moved words code place s final range apart_is moved_is short stands before is =
    let run = courses_are_runs regs apart calls moved words code place s range apart_is moved_is stands before in
    let few = run.1 in
    let same : length words ≡ length (all_over regs words) = sym (length-map words (Rattle.template_runs.specs.Renaming.over regs)) in (
      run.0,
      omega arith,
      subst (λ l. Ascend place (place + l) (visited code run.0 (Running s))) same run.2,
      subst (λ l. IsFinal regs.result calls (place + l) s (moment_after code run.0 (Running s)) final) same
          (subst (IsFinal regs.result calls (place + length words) s (moment_after code run.0 (Running s))) is run.3),
    )

pub straight : (regs : Registers) (apart : ℕ → Bool) (calls moved : Bool) (words : List Instr) (code : List ℕ) (place : ℕ) (s : MachineState) (final : Final)
    → AreInRange regs → AreApart regs apart → (moved ≡ true → regs.result ≡ regs.first) → length words ≤ 90
    → StandHere code place (all_over regs words) → IsBefore place s → course_of regs apart calls moved s words ≡ final
    → Done regs.result calls code place (all_over regs words) s final
straight regs apart calls moved words code place s final range apart_is moved_is short stands before is =
    let run = straight_in regs apart calls moved words code place s final range apart_is moved_is short stands before is in
    let few = run.1 in (run.0, omega arith, run.2, run.3)

-- ---- after a copy to the result or to x28

after_copy : (result rd rs : ℕ) (calls : Bool) (k end : ℕ) (s t : MachineState) (at : Moment) (final : Final) → (rd ≡ result) ⊎ (rd ≡ 28) → result ≢ 27
    → IsCopied rd rs k s t → IsFinal result calls end t at final → IsFinal result calls end s at final
after_copy result rd rs calls k end s t at (Ends value flag input) to own copied there =
    let u = there.0 in
    let leaves = there.2 in (
      u,
      there.1,
      record {
        pc = leaves.pc;
        count = leaves.count;
        gives = leaves.gives;
        overflow = leaves.overflow;
        others = λ n other flag_other stays silent. leaves.others n other flag_other stays silent ∙ copied.others n (not_copied n other stays to);
        left = leaves.left;
        memory = leaves.memory ∙ copied.memory;
        output = leaves.output ∙ copied.output;
      },
    )
  where
    not_copied : (n : ℕ) → n ≢ result → is_scratch n ≡ false → (rd ≡ result) ⊎ (rd ≡ 28) → n ≢ rd
    not_copied n other stays (inl is) e = other (e ∙ is)
    not_copied n other stays (inr is) e = absurd (let scratch : is_scratch n ≡ true = ap is_scratch (e ∙ is) in let none = stays in cc)
after_copy result rd rs calls k end s t at (Stops site) to own copied there = there ∙ ap (Rattle.rv_encode.specs.State.Over (Rattle.rv_encode.specs.State.Stopped (Rattle.std.specs.Int.cast_unsigned w32 site))) copied.output
after_copy result rd rs calls k end s t at Lost to own copied there = tt

pub copied_first : (regs : Registers) (rd rs : ℕ) (apart : ℕ → Bool) (calls moved : Bool) (words : List Instr) (code : List ℕ) (place : ℕ) (s : MachineState) (final : Final)
    → AreInRange regs → AreApart regs apart → (moved ≡ true → regs.result ≡ regs.first) → length words ≤ 90
    → (rd ≡ regs.result) ⊎ (rd ≡ 28) → FitsSigned w32 (register s rs)
    → StandHere code place (Addi rd rs (pos 0) ∷ all_over regs words) → IsBefore place s
    → ((t : MachineState) → IsCopied rd rs (place + 1) s t → course_of regs apart calls moved t words ≡ final)
    → Done regs.result calls code place (Addi rd rs (pos 0) ∷ all_over regs words) s final
copied_first regs rd rs apart calls moved words code place s final range apart_is moved_is short to fits stands before is =
    let own = Addi rd rs (pos 0) in
    let rest = all_over regs words in
    let within = stands.within in
    let many : length (own ∷ rest) ≡ suc (length rest) = omega arith in
    let one_many : length (own ∷ []) ≡ 1 = refl in
    let alone : StandHere code place (own ∷ []) = record { fit = All-cons Fits own [] (All-head Fits own rest stands.fit) (All-nil _); stand = (stands.stand.0, tt); within = omega arith } in
    let result_is : (8 ≤ regs.result) × (regs.result ≤ 23) = range.result in
    let some : rd ≢ 0 = λ e. ⊎_elim (λ (f : rd ≡ regs.result). let low = result_is.0 in absurd (omega arith)) (λ (f : rd ≡ 28). absurd (omega arith)) to in
    let copy = adds_copy code place rd rs s alone before some fits in
    let t : MachineState = copy.0 in
    let copied = copy.2 in
    let after : StandHere code (place + 1) rest = record { fit = All-tail Fits own rest stands.fit; stand = stands.stand.1; within = omega arith } in
    let enough = straight_in regs apart calls moved words code (place + 1) t final range apart_is moved_is short after copied.before (is t copied) in
    let few = enough.1 in
    let end : place + 1 + length rest ≡ place + length (own ∷ rest) = omega arith in (
      suc enough.0,
      omega arith,
      (
        place,
        omega arith,
        omega arith,
        before.pc,
        subst (λ p. Ascend (place + 1) p (visited code enough.0 (next_moment code (Running s)))) end
            (subst (λ m. Ascend (place + 1) (place + 1 + length rest) (visited code enough.0 m)) (sym copy.1) enough.2),
      ),
      subst (λ p. IsFinal regs.result calls p s (moment_after code enough.0 (next_moment code (Running s))) final) end
          (subst (λ m. IsFinal regs.result calls (place + 1 + length rest) s (moment_after code enough.0 m) final) (sym copy.1)
          (after_copy regs.result rd rs calls (place + 1) (place + 1 + length rest) s t (moment_after code enough.0 (Running t)) final to (λ e. let high = result_is.1 in absurd (omega arith)) copied enough.3)),
    )
