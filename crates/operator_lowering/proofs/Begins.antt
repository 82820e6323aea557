-- The way in which the words of a site begin, over any registers.
use Rattle.std.proofs.Common.{◌≡◌, ◌≢◌, ℕ, ◌+◌, ◌≤◌, inl, inr, ℤ, Bool, true, false, not, ◌&&◌, ◌||◌, ◌==◌, if◌then◌else◌, List, [], ◌++◌, length, refl, sym, ap, ◌∙◌, subst, arith, ⊎_elim}
use Rattle.std.specs.Prelude.{FitsSigned}
use Rattle.std.specs.Int.{w32}
use Rattle.std.proofs.lemmas.Bool.{eqb-true, eq-eqb, or_cases}
use Rattle.rv_encode.specs.declared.instruction.Instr.{Instr}
use Rattle.rv_encode.specs.State.{MachineState, register}
use Rattle.template_runs.specs.declared.registers.Registers.{Registers}
use Rattle.template_runs.specs.Courses.{Final, runs}
use Rattle.template_runs.specs.Machine.{StandHere, IsBefore, begun}
use Rattle.template_runs.specs.Renaming.{AreInRange, AreApart, IsPlace, IsOperandPlace, renamed, all_over}
use Rattle.template_runs.specs.Copies.{IsCopied}
use Rattle.template_runs.proofs.Names.{and_parts}
use Rattle.operator_lowering.specs.Courses.{apart_of}
use Rattle.operator_lowering.specs.Template.{ArePlaces}
use Rattle.operator_lowering.specs.declared.way.Way.{Way}
use Rattle.operator_lowering.specs.declared.way.Way.TheVariants.{Straight, Moves, KeepsFirst, KeepsThird, KeepsBoth, Turns}
use Rattle.operator_lowering.specs.Words.{front, places, copy, is_in_place}
use Rattle.operator_lowering.proofs.Ways.{Done, straight, copied_first}

in_range : (regs : Registers) → ArePlaces regs → AreInRange regs
in_range regs p = record { result = p.result; first = inl p.first; second = inl p.second; third = inl p.third }

differ : (a b : ℕ) → (a == b) ≡ false → a ≢ b
differ a b e same = let t = eq-eqb a b same in absurd (let f = e in cc)

not_28 : (n : ℕ) → IsPlace n → n ≢ 28
not_28 n place e = let high = place.1 in absurd (omega arith)

-- operands that are apart from the result

none_apart : (regs : Registers) → AreApart regs (λ n. false)
none_apart regs n is same = absurd (let f = is in cc)

one_apart : (regs : Registers) (m : ℕ) → regs.result ≢ renamed regs m → AreApart regs (λ n. n == m)
one_apart regs m other n is same = other (same ∙ ap (renamed regs) (eqb-true n m is))

not_met : (met : Bool) → not met ≡ true → met ≡ false
not_met false e = refl
not_met true e = absurd (let f = e in cc)

first_apart : (regs : Registers) (met : Bool) → regs.result ≢ regs.first → is_in_place regs ≡ met → AreApart regs (apart_of KeepsFirst met)
first_apart regs met other met_is n is same =
    ⊎_elim (λ (at_first : (n == 11) ≡ true). one_apart regs 11 other n at_first same)
    (λ (at_second : ((n == 12) && not met) ≡ true).
    let are = and_parts (n == 12) (not met) at_second in
    one_apart regs 12 (differ regs.result regs.second (met_is ∙ not_met met are.1)) n are.0 same)
    (or_cases (n == 11) ((n == 12) && not met) is)

two_apart : (regs : Registers) (m l : ℕ) → regs.result ≢ renamed regs m → regs.result ≢ renamed regs l → AreApart regs (λ n. (n == m) || (n == l))
two_apart regs m l other more n is same =
    ⊎_elim (λ (at_m : (n == m) ≡ true). one_apart regs m other n at_m same) (λ (at_l : (n == l) ≡ true). one_apart regs l more n at_l same) (or_cases (n == m) (n == l) is)

no_moved : {P : Type 0} → false ≡ true → P
no_moved {P} e = absurd (let f = e in cc)

same_course : (words : List Instr) (apart : ℕ → Bool) (calls moved : Bool) (a b c f a' b' c' f' : ℤ) (i i' : List ℤ) → a ≡ a' → b ≡ b' → c ≡ c' → f ≡ f' → i ≡ i'
    → runs words 0 (begun apart calls moved a b c f i) ≡ runs words 0 (begun apart calls moved a' b' c' f' i')
same_course words apart calls moved a b c f a' b' c' f' i i' ea eb ec ef ei =
    ap (λ x. runs words 0 (begun apart calls moved x b c f i)) ea ∙ ap (λ x. runs words 0 (begun apart calls moved a' x c f i)) eb
    ∙ ap (λ x. runs words 0 (begun apart calls moved a' b' x f i)) ec ∙ ap (λ x. runs words 0 (begun apart calls moved a' b' c' x i)) ef
    ∙ ap (λ x. runs words 0 (begun apart calls moved a' b' c' f' x)) ei

-- what a way asks of the operands that it copies
abbrev pub Needs : Way → (a b c : ℤ) → Type 0
Needs Straight a b c = Unit {0}
Needs KeepsThird a b c = FitsSigned w32 c
Needs KeepsBoth a b c = FitsSigned w32 a × FitsSigned w32 b
Needs way a b c = FitsSigned w32 a

-- what a way asks of the course: after a move of the only operand, of any others; where operands may be turned, of both
-- orders
abbrev pub LeadsBy : Way → (met calls : Bool) → List Instr → (a b c flag : ℤ) → List ℤ → Final → Type 0
LeadsBy Straight met calls words a b c flag input final = runs words 0 (begun (apart_of Straight met) calls false a b c flag input) ≡ final
LeadsBy Moves met calls words a b c flag input final = (b' c' : ℤ) → runs words 0 (begun (apart_of Straight met) calls true a b' c' flag input) ≡ final
LeadsBy KeepsFirst met calls words a b c flag input final = runs words 0 (begun (apart_of KeepsFirst met) calls false a b c flag input) ≡ final
LeadsBy KeepsThird met calls words a b c flag input final = runs words 0 (begun (apart_of KeepsThird met) calls false a b c flag input) ≡ final
LeadsBy KeepsBoth met calls words a b c flag input final = runs words 0 (begun (apart_of KeepsBoth met) calls false a b c flag input) ≡ final
LeadsBy Turns met calls words a b c flag input final =
    (runs words 0 (begun (apart_of KeepsFirst met) calls false a b c flag input) ≡ final) × (runs words 0 (begun (apart_of KeepsFirst met) calls false b a c flag input) ≡ final)

module _ (regs : Registers) (met calls : Bool) (words : List Instr) (code : List ℕ) (place : ℕ) (s : MachineState) (final : Final) (own : ArePlaces regs) (short : length words ≤ 90) (before : IsBefore place s) where
  abbrev Finds : List Instr → Type 0
  Finds ws = StandHere code place ws → Done regs.result calls code place ws s final

  abbrev first : ℤ
  first = register s regs.first

  abbrev second : ℤ
  second = register s regs.second

  abbrev third : ℤ
  third = register s regs.third

  abbrev flag : ℤ
  flag = register s 27

  -- the first operand is kept, or it is apart from the result
  keeps : FitsSigned w32 first → runs words 0 (begun (apart_of KeepsFirst met) calls false first second third flag s.input) ≡ final → (b : Bool) → (regs.result == regs.first) ≡ b
      → is_in_place (if b then record regs { first = 28 } else regs) ≡ met → Finds ((if b then copy 28 regs.first else []) ++ all_over (if b then record regs { first = 28 } else regs) words)
  keeps fits is false e met_is stands = straight regs (apart_of KeepsFirst met) calls false words code place s final (in_range regs own) (first_apart regs met (differ regs.result regs.first e) met_is) no_moved short stands before is
  keeps fits is true e met_is stands =
      let kept : Registers = record regs { first = 28 } in
      let range : AreInRange kept = record { result = own.result; first = inr refl; second = inl own.second; third = inl own.third } in
      copied_first kept 28 regs.first (apart_of KeepsFirst met) calls false words code place s final range (first_apart kept met (not_28 regs.result own.result) met_is) no_moved short (inr refl) fits stands before
      (λ t copied.
      same_course words (apart_of KeepsFirst met) calls false (register t 28) (register t regs.second) (register t regs.third) (register t 27) first second third flag t.input s.input copied.copied
      (copied.others regs.second (not_28 regs.second own.second)) (copied.others regs.third (not_28 regs.third own.third)) (copied.others 27 (λ f. absurd (omega arith))) copied.input
      ∙ is)

  keeps_third : FitsSigned w32 third → runs words 0 (begun (apart_of KeepsThird met) calls false first second third flag s.input) ≡ final → (b : Bool) → (regs.result == regs.third) ≡ b
      → Finds ((if b then copy 28 regs.third else []) ++ all_over (if b then record regs { third = 28 } else regs) words)
  keeps_third fits is false e stands = straight regs (apart_of KeepsThird met) calls false words code place s final (in_range regs own) (one_apart regs 13 (differ regs.result regs.third e)) no_moved short stands before is
  keeps_third fits is true e stands =
      let kept : Registers = record regs { third = 28 } in
      let range : AreInRange kept = record { result = own.result; first = inl own.first; second = inl own.second; third = inr refl } in
      copied_first kept 28 regs.third (apart_of KeepsThird met) calls false words code place s final range (one_apart kept 13 (not_28 regs.result own.result)) no_moved short (inr refl) fits stands before
      (λ t copied.
      same_course words (apart_of KeepsThird met) calls false (register t regs.first) (register t regs.second) (register t 28) (register t 27) first second third flag t.input s.input
      (copied.others regs.first (not_28 regs.first own.first)) (copied.others regs.second (not_28 regs.second own.second)) copied.copied (copied.others 27 (λ f. absurd (omega arith))) copied.input
      ∙ is)

  moves : FitsSigned w32 first → ((b' c' : ℤ) → runs words 0 (begun (apart_of Straight met) calls true first b' c' flag s.input) ≡ final) → (b : Bool) → (regs.result == regs.first) ≡ b
      → Finds ((if b then [] else copy regs.result regs.first) ++ all_over (record regs { first = regs.result }) words)
  moves fits is true e stands =
      let moved : Registers = record regs { first = regs.result } in
      let range : AreInRange moved = record { result = own.result; first = inl own.result; second = inl own.second; third = inl own.third } in
      straight moved (apart_of Straight met) calls true words code place s final range (none_apart moved) (λ f. refl) short stands before
      (ap (λ n. runs words 0 (begun (apart_of Straight met) calls true (register s n) second third flag s.input)) (eqb-true regs.result regs.first e) ∙ is second third)
  moves fits is false e stands =
      let moved : Registers = record regs { first = regs.result } in
      let range : AreInRange moved = record { result = own.result; first = inl own.result; second = inl own.second; third = inl own.third } in
      let high : regs.result ≤ 23 = own.result.1 in
      copied_first moved regs.result regs.first (apart_of Straight met) calls true words code place s final range (none_apart moved) (λ f. refl) short (inl refl) fits stands before
      (λ t copied.
      same_course words (apart_of Straight met) calls true (register t regs.result) (register t regs.second) (register t regs.third) (register t 27) first (register t regs.second) (register t regs.third) flag t.input s.input copied.copied
      refl refl (copied.others 27 (λ f. absurd (omega arith))) copied.input
      ∙ is (register t regs.second) (register t regs.third))

  turned : runs words 0 (begun (apart_of KeepsFirst met) calls false second first third flag s.input) ≡ final → (regs.result == regs.second) ≡ false
      → is_in_place (record regs { first = regs.second; second = regs.first }) ≡ met → Finds ([] ++ all_over (record regs { first = regs.second; second = regs.first }) words)
  turned is e met_is stands =
      let turn : Registers = record regs { first = regs.second; second = regs.first } in
      let range : AreInRange turn = record { result = own.result; first = inl own.second; second = inl own.first; third = inl own.third } in
      straight turn (apart_of KeepsFirst met) calls false words code place s final range (first_apart turn met (differ regs.result regs.second e) met_is) no_moved short stands before is

  turning : FitsSigned w32 first → runs words 0 (begun (apart_of KeepsFirst met) calls false first second third flag s.input) ≡ final → runs words 0 (begun (apart_of KeepsFirst met) calls false second first third flag s.input) ≡ final
      → (b d : Bool) → (regs.result == regs.first) ≡ b → (regs.result == regs.second) ≡ d
      → is_in_place (if b && not d then record regs { first = regs.second; second = regs.first } else (if b then record regs { first = 28 } else regs)) ≡ met → Finds ((if b && not d then [] else (if b then copy 28 regs.first else [])) ++ all_over (if b && not d then record regs { first = regs.second; second = regs.first } else (if b then record regs { first = 28 } else regs)) words)
  turning fits is back true false e f met_is stands = turned back f met_is stands
  turning fits is back true true e f met_is stands = keeps fits is true e met_is stands
  turning fits is back false d e f met_is stands = keeps fits is false e met_is stands

  -- an operand's register, or x28, which has what was in the register of the result
  kept_place : (b : Bool) (n : ℕ) → IsPlace n → IsOperandPlace (if b then 28 else n)
  kept_place true n place = inr refl
  kept_place false n place = inl place

  kept_other : (b : Bool) (n : ℕ) → (regs.result == n) ≡ b → regs.result ≢ (if b then 28 else n)
  kept_other true n e = not_28 regs.result own.result
  kept_other false n e = differ regs.result n e

  kept_value : (t : MachineState) → IsCopied 28 regs.result (place + 1) s t → (b : Bool) (n : ℕ) → (regs.result == n) ≡ b → IsPlace n → register t (if b then 28 else n) ≡ register s n
  kept_value t copied true n e at = copied.copied ∙ ap (register s) (eqb-true regs.result n e)
  kept_value t copied false n e at = copied.others n (not_28 n at)

  copies : runs words 0 (begun (apart_of KeepsBoth met) calls false first second third flag s.input) ≡ final → (b d : Bool) → (regs.result == regs.first) ≡ b → (regs.result == regs.second) ≡ d → FitsSigned w32 (register s regs.result)
      → Finds (copy 28 regs.result ++ all_over (record regs { first = if b then 28 else regs.first; second = if d then 28 else regs.second }) words)
  copies is b d e f fits stands =
      let after : Registers = record regs { first = if b then 28 else regs.first; second = if d then 28 else regs.second } in
      let range : AreInRange after = record { result = own.result; first = kept_place b regs.first own.first; second = kept_place d regs.second own.second; third = inl own.third } in
      copied_first after 28 regs.result (apart_of KeepsBoth met) calls false words code place s final range (two_apart after 11 12 (kept_other b regs.first e) (kept_other d regs.second f)) no_moved short (inr refl) fits stands before
      (λ t copied.
      same_course words (apart_of KeepsBoth met) calls false (register t after.first) (register t after.second) (register t regs.third) (register t 27) first second third flag t.input s.input
      (kept_value t copied b regs.first e own.first) (kept_value t copied d regs.second f own.second) (copied.others regs.third (not_28 regs.third own.third)) (copied.others 27 (λ g. absurd (omega arith))) copied.input
      ∙ is)

  -- where the result has the register of an operand, x28 has the operand
  keeps_both : FitsSigned w32 first → FitsSigned w32 second → runs words 0 (begun (apart_of KeepsBoth met) calls false first second third flag s.input) ≡ final
      → (b d : Bool) → (regs.result == regs.first) ≡ b → (regs.result == regs.second) ≡ d
      → Finds ((if b || d then copy 28 regs.result else []) ++ all_over (record regs { first = if b then 28 else regs.first; second = if d then 28 else regs.second }) words)
  keeps_both fits more is false false e f stands =
      straight regs (apart_of KeepsBoth met) calls false words code place s final (in_range regs own) (two_apart regs 11 12 (differ regs.result regs.first e) (differ regs.result regs.second f)) no_moved short stands before is
  keeps_both fits more is true d e f stands = copies is true d e f (subst (λ n. FitsSigned w32 (register s n)) (sym (eqb-true regs.result regs.first e)) fits) stands
  keeps_both fits more is false true e f stands = copies is false true e f (subst (λ n. FitsSigned w32 (register s n)) (sym (eqb-true regs.result regs.second f)) more) stands

  pub begins : (way : Way) → is_in_place (places way regs) ≡ met → Needs way first second third → LeadsBy way met calls words first second third flag s.input final → Finds (front way regs ++ all_over (places way regs) words)
  begins Straight met_is need lead stands = straight regs (apart_of Straight met) calls false words code place s final (in_range regs own) (none_apart regs) no_moved short stands before lead
  begins Moves met_is need lead stands = moves need lead (regs.result == regs.first) refl stands
  begins KeepsFirst met_is need lead stands = keeps need lead (regs.result == regs.first) refl met_is stands
  begins KeepsThird met_is need lead stands = keeps_third need lead (regs.result == regs.third) refl stands
  begins KeepsBoth met_is need lead stands = keeps_both need.0 need.1 lead (regs.result == regs.first) (regs.result == regs.second) refl refl stands
  begins Turns met_is need lead stands = turning need lead.0 lead.1 (regs.result == regs.first) (regs.result == regs.second) refl refl met_is stands
