-- Instructions that are put one after another.
use Rattle.std.proofs.Common.{◌≡◌, ℕ, zero, suc, ◌+◌, ◌<◌, ◌≤◌, List, [], ◌∷◌, ◌++◌, map, take, length, get_or, Bool, true, ◌&&◌, refl, sym, ap, ◌∙◌, subst, arith, append_assoc, length-append}
use Rattle.std.proofs.lemmas.List.{take_more, map-append, length-map, length-take}
use Rattle.operator_meaning.specs.declared.operator.Op.{Op}
use Rattle.operator_meaning.specs.declared.site.Form.{Form}
use Rattle.operator_lowering.specs.Words.{operator_words}
use Rattle.operator_lowering.proofs.Sound.{operator_fit}
use Rattle.rv_encode.specs.declared.instruction.Instr.{Instr}
use Rattle.rv_encode.specs.Words.{Fits, encoded}
use Rattle.template_runs.specs.declared.registers.Registers.{Registers}
use Rattle.template_runs.specs.Fitting.{is_fit, are_fit}
use Rattle.template_runs.specs.Renaming.{AreInRange, over, all_over}
use Rattle.template_runs.proofs.Fits.{instr_fits}
use Rattle.template_runs.proofs.Names.{and_parts}

-- one of them fits over the registers of a site
pub fits_at : (regs : Registers) → AreInRange regs → (instrs : List Instr) → are_fit instrs ≡ true → (i : ℕ) (d : Instr) → i < length instrs → Fits (over regs (get_or instrs i d))
fits_at regs range [] fit i d less = absurd (omega arith)
fits_at regs range (x ∷ xs) fit zero d less = instr_fits regs range x (and_parts (is_fit x) (are_fit xs) fit).0
fits_at regs range (x ∷ xs) fit (suc i) d less = fits_at regs range xs (and_parts (is_fit x) (are_fit xs) fit).1 i d (omega arith)

-- one more
pub put_more : (regs : Registers) (before : List ℕ) (instrs : List Instr) (i : ℕ) (d : Instr) → i < length instrs
    → (before ++ map encoded (all_over regs (take i instrs))) ++ encoded (over regs (get_or instrs i d)) ∷ [] ≡ before ++ map encoded (all_over regs (take (i + 1) instrs))
put_more regs before instrs i d less =
    append_assoc before (map encoded (all_over regs (take i instrs))) (encoded (over regs (get_or instrs i d)) ∷ [])
    ∙ ap (λ l. before ++ l) (sym (map-append encoded (all_over regs (take i instrs)) (over regs (get_or instrs i d) ∷ [])))
    ∙ ap (λ l. before ++ map encoded l) (sym (map-append (over regs) (take i instrs) (get_or instrs i d ∷ [])))
    ∙ ap (λ l. before ++ map encoded (all_over regs l)) (sym (take_more instrs i d less))

-- there is room for one more
pub room_more : (regs : Registers) (before : List ℕ) (instrs : List Instr) (i most : ℕ) → i < length instrs → length before + length instrs ≤ most
    → length (before ++ map encoded (all_over regs (take i instrs))) < most
room_more regs before instrs i most less room =
    let a = length-append before (map encoded (all_over regs (take i instrs))) in
    let b = length-map (all_over regs (take i instrs)) encoded in
    let c = length-map (take i instrs) (over regs) in
    let d = length-take i instrs in
    omega arith

-- ---- the two parts of an operator

fit_parts : (xs ys : List Instr) → are_fit (xs ++ ys) ≡ true → (are_fit xs ≡ true) × (are_fit ys ≡ true)
fit_parts [] ys e = (refl, e)
fit_parts (x ∷ xs) ys e =
    let parts = and_parts (is_fit x) (are_fit (xs ++ ys)) e in
    let more = fit_parts xs ys parts.1 in
    (ap (λ b. b && are_fit xs) parts.0 ∙ more.0, more.1)

pub operator_parts : (o : Op) (form : Form) (in_place : Bool) (xs ys : List Instr) → xs ++ ys ≡ operator_words o form in_place → (are_fit xs ≡ true) × (are_fit ys ≡ true) × (length xs + length ys ≤ 90)
operator_parts o form in_place xs ys e =
    let known = operator_fit o form in_place in
    let parts = fit_parts xs ys (ap are_fit e ∙ known.0) in
    let few : length (xs ++ ys) ≤ 90 = subst (λ l. length l ≤ 90) (sym e) known.1 in
    let both = length-append xs ys in
    (parts.0, parts.1, omega arith)

pub room_after : (regs : Registers) (before after : List ℕ) (xs : List Instr) (more : ℕ) → after ≡ before ++ map encoded (all_over regs xs) → length before ≤ 1 → length xs + more ≤ 90 → length after + more ≤ 96
room_after regs before after xs more e short few =
    let a = ap length e in
    let b = length-append before (map encoded (all_over regs xs)) in
    let c = length-map (all_over regs xs) encoded in
    let d = length-map xs (over regs) in
    omega arith
