-- The words of a site are entered once, and the site with them.
use Rattle.std.proofs.Common.{◌≡◌, ◌≢◌, ℕ, zero, suc, ◌+◌, ◌≤◌, ◌<◌, ◌⊎◌, inl, inr, List, [], ◌∷◌, ◌++◌, flat_map, length, map, refl, sym, ap, ◌∙◌, subst, arith}
use Rattle.std.specs.Prelude.{Bool, true, false, None, All}
use Rattle.std.proofs.lemmas.Bool.{cases_lt}
use Rattle.std.proofs.lemmas.List.Elements.{All-nil, All-cons}
use Rattle.rv_encode.specs.declared.instruction.Instr.{Instr}
use Rattle.rv_encode.specs.State.{MachineState, Running}
use Rattle.rv_encode.specs.Runs.{pc_of, next_moment, Stand}
use Rattle.rv_encode.specs.Words.{Fits}
use Rattle.template_runs.specs.Machine as machine
use Rattle.template_runs.specs.Machine.{IsBefore}
use Rattle.template_runs.specs.Visits.{visited, Ascend}
use Rattle.code_lines.specs.declared.word.Word.TheVariants.{Further}
use Rattle.code_lines.specs.Words.{template_of, Code, AreStanding, StandHere}
use Rattle.code_lines.specs.Leading.{sites_of, begun_at, entered, entered_by, SitesAreEntered}
use Rattle.code_lines.proofs.Leading.{begun_there, leads_in, leads_by_least}

pub template_long : (site : ℕ) (instrs : List Instr) → length (template_of site instrs) ≡ length instrs
template_long site [] = refl
template_long site (instr ∷ instrs) = let same : length (map Further instrs) ≡ length instrs = further_long instrs in omega (arith, same)
  where
    further_long : (instrs : List Instr) → length (map Further instrs) ≡ length instrs
    further_long [] = refl
    further_long (instr ∷ instrs) = omega (arith, further_long instrs)

-- ---- the machine's view of the words of a site

further_fit : (code : Code) (k : ℕ) (instrs : List Instr) → AreStanding code k (map Further instrs) → All Fits instrs
further_fit code k [] stand = All-nil Fits
further_fit code k (instr ∷ instrs) stand = All-cons Fits instr instrs stand.0.fit (further_fit code (k + 1) instrs stand.1)

further_stand : (code : Code) (k : ℕ) (instrs : List Instr) → AreStanding code k (map Further instrs) → Stand code.words k instrs
further_stand code k [] stand = tt
further_stand code k (instr ∷ instrs) stand = (stand.0.stand, further_stand code (k + 1) instrs stand.1)

pub template_stands : (code : Code) (k site : ℕ) (instrs : List Instr) → StandHere code k (template_of site instrs) → machine.StandHere code.words k instrs
template_stands code k site [] stands = let within = stands.within in record { fit = All-nil Fits; stand = tt; within = within }
template_stands code k site (instr ∷ instrs) stands =
    let within = stands.within in
    record {
      fit = All-cons Fits instr instrs stands.stand.0.fit (further_fit code (k + 1) instrs stands.stand.1);
      stand = (stands.stand.0.stand, further_stand code (k + 1) instrs stands.stand.1);
      within = omega (arith, template_long site (instr ∷ instrs));
    }

-- ---- no further word begins a site

further_begins : (code : Code) (k place : ℕ) (instrs : List Instr) → AreStanding code k (map Further instrs) → k ≤ place → place < k + length instrs → code.begins place ≡ None
further_begins code k place [] stand low high = absurd (omega arith)
further_begins code k place (instr ∷ instrs) stand low high =
    elim (cases_lt k place) [
      | inl behind ↦ further_begins code (k + 1) place instrs stand.1 (omega arith) (omega arith)
      | inr here ↦ let same : place ≡ k = omega arith in ap code.begins same ∙ stand.0.begun
    ]

none_begun : (code : Code) (k from : ℕ) (instrs : List Instr) (pcs : List ℕ) → AreStanding code k (map Further instrs) → k ≤ from → Ascend from (k + length instrs) pcs → flat_map (begun_at code) pcs ≡ []
none_begun code k from instrs [] stand low ascend = refl
none_begun code k from instrs (pc ∷ pcs) stand low ascend =
    let above = ascend.1 in
    let none = ap (begun_at code) ascend.3 ∙ begun_there code ascend.0 ∙ ap sites_of (further_begins code k ascend.0 instrs stand (omega arith) ascend.2) in
    ap (λ l. l ++ flat_map (begun_at code) pcs) none ∙ none_begun code k (ascend.0 + 1) instrs pcs stand (omega arith) ascend.4

-- ---- a site

abbrev pub has_none : List Instr → Bool
has_none [] = true
has_none (instr ∷ instrs) = false

same_number : (k place : ℕ) → pc_of k ≡ pc_of place → place ≡ k
same_number k place is = omega (arith, is)

site_entered : (code : Code) (k site n : ℕ) (instrs : List Instr) (s : MachineState) → StandHere code k (template_of site instrs) → IsBefore k s → (instrs ≡ []) ⊎ (n ≢ 0)
    → Ascend k (k + length instrs) (visited code.words n (Running s)) → entered code n (Running s) ≡ entered_by site instrs
site_entered code k site zero [] s stands before some ascend = refl
site_entered code k site (suc n) [] s stands before some ascend = let above = ascend.1 in let below = ascend.2 in absurd (omega arith)
site_entered code k site zero (instr ∷ instrs) s stands before (inl none) ascend = absurd (let e = none in cc)
site_entered code k site zero (instr ∷ instrs) s stands before (inr some) ascend = absurd (some refl)
site_entered code k site (suc n) (instr ∷ instrs) s stands before some ascend =
    let place : ascend.0 ≡ k = same_number k ascend.0 (sym before.pc ∙ ascend.3) in
    let end : k + length (instr ∷ instrs) ≡ k + 1 + length instrs = omega arith in
    let rest : Ascend (k + 1) (k + 1 + length instrs) (visited code.words n (next_moment code.words (Running s))) =
    subst (λ to. Ascend (k + 1) to (visited code.words n (next_moment code.words (Running s)))) end
    (subst (λ p. Ascend (p + 1) (k + length (instr ∷ instrs)) (visited code.words n (next_moment code.words (Running s)))) place ascend.4) in
    ap (λ pc. begun_at code pc ++ flat_map (begun_at code) (visited code.words n (next_moment code.words (Running s)))) before.pc
    ∙ ap (λ l. l ++ flat_map (begun_at code) (visited code.words n (next_moment code.words (Running s)))) (begun_there code k ∙ ap sites_of stands.stand.0.begun)
    ∙ ap (λ l. site ∷ l) (none_begun code (k + 1) (k + 1) instrs (visited code.words n (next_moment code.words (Running s))) stands.stand.1 (omega arith) rest)

pub leads_site : SitesAreEntered
leads_site code k site n instrs s at stands before some ascend is =
    leads_by_least code n 0 (entered_by site instrs) (Running s) at (omega arith)
    (leads_in code n (entered_by site instrs) (Running s) at is (site_entered code k site n instrs s stands before some ascend))
