-- How the machine comes from one moment to another, and which sites it enters on the way.
use Rattle.std.proofs.Common.{◌≡◌, ℕ, zero, suc, ◌+◌, ◌-◌, ◌/◌, ◌≤◌, ℤ, nat_lt, if◌then◌else◌, Bool, true, false, List, [], ◌∷◌, ◌++◌, flat_map, refl, sym, ap, ◌∙◌, append_assoc, arith}
use Rattle.std.specs.Prelude.{None}
use Rattle.std.proofs.lemmas.Bool.Decides.{nat_tests}
use Rattle.std.proofs.lemmas.List.Concat.{flat_map-append}
use Rattle.rv_encode.specs.State.{MachineState, Moment, Running, Over, Ending, code_start}
use Rattle.rv_encode.specs.Runs.{pc_of, moment_after, next_moment}
use Rattle.rv_encode.proofs.Runs.{moment_after_add}
use Rattle.template_runs.specs.Visits.{pc_at, visited}
use Rattle.code_lines.specs.Words.{Code}
use Rattle.code_lines.specs.Leading.{sites_of, begun_at, entered, LeadsBy, LeadsLater, Leads, with_words}

-- ---- the sites that are entered

-- by some instructions and then others
pub entered_both : (code : Code) (m n : ℕ) (at : Moment) → entered code (m + n) at ≡ entered code m at ++ entered code n (moment_after code.words m at)
entered_both code zero n at = let e : 0 + n ≡ n = omega arith in ap (λ k. entered code k at) e
entered_both code (suc m) n at =
    let e : suc m + n ≡ suc (m + n) = omega arith in
    let front = flat_map (begun_at code) (pc_at at) in
    ap (λ k. entered code k at) e
    ∙ flat_map-append (begun_at code) (pc_at at) (visited code.words (m + n) (next_moment code.words at))
    ∙ ap (λ l. front ++ l) (entered_both code m n (next_moment code.words at))
    ∙ sym (append_assoc front (entered code m (next_moment code.words at)) (entered code n (moment_after code.words m (next_moment code.words at))))
    ∙ ap (λ l. l ++ entered code n (moment_after code.words m (next_moment code.words at))) (sym (flat_map-append (begun_at code) (pc_at at) (visited code.words m (next_moment code.words at))))

-- a run that is over enters no site
pub none_entered : (code : Code) (n : ℕ) (ending : Ending) (output : List ℤ) → entered code n (Over ending output) ≡ []
none_entered code zero ending output = refl
none_entered code (suc n) ending output = none_entered code n ending output

-- the site that a word begins
pub begun_there : (code : Code) (k : ℕ) → begun_at code (pc_of k) ≡ sites_of (code.begins k)
begun_there code k =
    let inside : nat_lt (pc_of k) code_start ≡ false = grind (arith, nat_tests) in
    let number : (pc_of k - code_start) / 4 ≡ k = omega arith in
    ap (λ (b : Bool). if b then [] else sites_of (code.begins ((pc_of k - code_start) / 4))) inside ∙ ap (λ n. sites_of (code.begins n)) number

-- ---- from moment to moment

-- by so many instructions
pub leads_in : (code : Code) (n : ℕ) (sites : List ℕ) (a b : Moment) → moment_after code.words n a ≡ b → entered code n a ≡ sites → LeadsBy code n sites a b
leads_in code n sites a b e is k =
    let more : n + k ≤ n + k = omega arith in (
      n + k,
      more,
      moment_after_add code.words n k a ∙ ap (moment_after code.words k) e,
      entered_both code n k a ∙ ap (λ l. l ++ entered code k (moment_after code.words n a)) is ∙ ap (λ m. sites ++ entered code k m) e,
    )

pub leads_nowhere : (code : Code) (a : Moment) → Leads code a a
leads_nowhere code a k = let same : 0 + k ≤ k = omega arith in (k, same, refl, refl)

-- in as many as both take, by the sites of both
pub leads_by_both : (code : Code) (m n : ℕ) (sites more : List ℕ) (a b c : Moment) → LeadsBy code m sites a b → LeadsBy code n more b c → LeadsBy code (m + n) (sites ++ more) a c
leads_by_both code m n sites more a b c first second k =
    let behind = second k in
    let before = first behind.0 in
    let far = behind.1 in
    let near = before.1 in
    let all : m + n + k ≤ before.0 = omega arith in
    (before.0, all, before.2 ∙ behind.2, before.3 ∙ ap (λ l. sites ++ l) behind.3 ∙ sym (append_assoc sites more (entered code k c)))

pub leads_both : (code : Code) (m n : ℕ) (a b c : Moment) → LeadsLater code m a b → LeadsLater code n b c → LeadsLater code (m + n) a c
leads_both code m n a b c first second = leads_by_both code m n [] [] a b c first second

pub leads_by_least : (code : Code) (m n : ℕ) (sites : List ℕ) (a b : Moment) → n ≤ m → LeadsBy code m sites a b → LeadsBy code n sites a b
leads_by_least code m n sites a b less leads k =
    let at = leads k in
    let more = at.1 in
    let all : n + k ≤ at.0 = omega arith in
    (at.0, all, at.2, at.3)

pub leads_least : (code : Code) (m n : ℕ) (a b : Moment) → n ≤ m → LeadsLater code m a b → LeadsLater code n a b
leads_least code m n a b less leads = leads_by_least code m n [] a b less leads

pub leads_at_all : (code : Code) (m : ℕ) (a b : Moment) → LeadsLater code m a b → Leads code a b
leads_at_all code m a b leads = leads_least code m 0 a b (omega arith) leads

pub leads_then : (code : Code) (a b c : Moment) → Leads code a b → Leads code b c → Leads code a c
leads_then code a b c first second = leads_least code (0 + 0) 0 a c (omega arith) (leads_both code 0 0 a b c first second)

-- where the machine comes, it is after some number of instructions
pub leads_reached : (code : Code) (least : ℕ) (sites : List ℕ) (a b : Moment) → LeadsBy code least sites a b → (n : ℕ) × (moment_after code.words n a ≡ b)
leads_reached code least sites a b leads = let at = leads 0 in (at.0, at.2)

-- by a word of the code's own
pub leads_own : (code : Code) (k : ℕ) (s : MachineState) (at : Moment) → s.pc ≡ pc_of k → code.begins k ≡ None → next_moment code.words (Running s) ≡ at → LeadsLater code 1 (Running s) at
leads_own code k s at here own next =
    leads_in code 1 [] (Running s) at next (ap (λ pc. begun_at code pc ++ []) here ∙ ap (λ l. l ++ []) (begun_there code k ∙ ap sites_of own))

pub with_words_both : (code : Code) (sites more : List ℕ) → with_words code (sites ++ more) ≡ with_words code sites ++ with_words code more
with_words_both code [] more = refl
with_words_both code (site ∷ sites) more = by_test (code.is_wordless site) (with_words_both code sites more)
  where
    by_test : (b : Bool) → with_words code (sites ++ more) ≡ with_words code sites ++ with_words code more
        → (if b then with_words code (sites ++ more) else site ∷ with_words code (sites ++ more)) ≡ (if b then with_words code sites else site ∷ with_words code sites) ++ with_words code more
    by_test true same = same
    by_test false same = ap (λ l. site ∷ l) same
