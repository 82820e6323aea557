-- How the machine comes from one moment to another.
use Rattle.std.proofs.Common.{◌≡◌, ℕ, ◌+◌, ◌≤◌, List, Some, refl, ap, ◌∙◌, arith}
use Rattle.std.specs.Prelude.{slice_get}
use Rattle.rv_encode.specs.declared.instruction.Instr.{Instr}
use Rattle.rv_encode.specs.Decoding.{decoded}
use Rattle.rv_encode.specs.Words.{encoded}
use Rattle.rv_encode.specs.State.{MachineState, Moment, Running}
use Rattle.rv_encode.specs.Effects.{effect_of}
use Rattle.rv_encode.specs.Runs.{pc_of, moment_after, executed, carried_out, Leads}
use Rattle.rv_encode.proofs.Places.{fetched_at}
use Rattle.rv_encode.proofs.Runs.{moment_after_add}

pub leads_nowhere : (code : List ℕ) (a : Moment) → Leads code a a
leads_nowhere code a k = let same : k ≤ k = omega arith in (k, same, refl)

pub leads_then : (code : List ℕ) (a b c : Moment) → Leads code a b → Leads code b c → Leads code a c
leads_then code a b c first second k =
    let behind = second k in
    let before = first behind.0 in
    let more = behind.1 in
    let most = before.1 in
    let all : k ≤ before.0 = omega arith in
    (before.0, all, before.2 ∙ behind.2)

-- by so many instructions
pub leads_in : (code : List ℕ) (n : ℕ) (a b : Moment) → moment_after code n a ≡ b → Leads code a b
leads_in code n a b e k =
    let more : k ≤ n + k = omega arith in
    (n + k, more, moment_after_add code n k a ∙ ap (moment_after code k) e)

-- where the machine comes, it is after some number of instructions
pub leads_reached : (code : List ℕ) (a b : Moment) → Leads code a b → (n : ℕ) × (moment_after code n a ≡ b)
leads_reached code a b leads = let at = leads 0 in (at.0, at.2)

-- by the instruction at the pc
pub leads_one : (code : List ℕ) (s : MachineState) (k : ℕ) (instr : Instr) → s.pc ≡ pc_of k → slice_get code k ≡ Some (encoded instr)
    → decoded (encoded instr) ≡ Some instr → Leads code (Running s) (effect_of instr s)
leads_one code s k instr here stands decodes =
    leads_in code 1 (Running s) (effect_of instr s)
    (ap (λ o. executed o s) (fetched_at code s.pc k here ∙ stands) ∙ ap (λ o. carried_out o s) decodes)
