-- A register is copied.
use Rattle.std.proofs.Common.{◌≡◌, ◌+◌, ◌<◌, ◌≤◌, ℤ, pos, [], ◌∷◌, length, refl, sym, ap, ◌∙◌, arith}
use Rattle.std.specs.Prelude.{FitsSigned}
use Rattle.std.specs.Int.{w32, int_wrapping_add}
use Rattle.std.proofs.lemmas.Int.{ints}
use Rattle.std.proofs.lemmas.List.Elements.{All-head}
use Rattle.rv_encode.specs.declared.instruction.Instr.TheVariants.{Addi}
use Rattle.rv_encode.specs.State.{MachineState, Running, register, registers_with, next_pc}
use Rattle.rv_encode.specs.Effects.{sets}
use Rattle.rv_encode.specs.Runs.{pc_of, next_moment, executed, carried_out}
use Rattle.rv_encode.specs.Words.{Fits}
use Rattle.rv_encode.proofs.Encodings.{encoded_decodes}
use Rattle.rv_encode.proofs.Places.{fetched_at, next_pc_of}
use Rattle.template_runs.specs.Copies.{AddsCopy}
use Rattle.template_runs.proofs.Steps.{count_with, same_with, other_with}

none_added : (v : ℤ) → FitsSigned w32 v → int_wrapping_add w32 v (pos 0) ≡ v
none_added v fits = grind (arith, ints)

pub adds_copy : AddsCopy
adds_copy code k rd rs s stands before some fits =
    let own = Addi rd rs (pos 0) in
    let fit : Fits own = All-head Fits own [] stands.fit in
    let within = stands.within in
    let one : length (own ∷ []) ≡ 1 = refl in
    let small : k + 0 ≤ 16777216 = omega arith in
    let count = before.count in
    let less : rd < length s.registers = let le = fit.0 in omega arith in
    let place : k ≡ k + 0 = omega arith in
    let next : k + (0 + 1) ≡ k + 1 = omega arith in
    let t : MachineState = record s { registers = registers_with s.registers rd (register s rs); pc = next_pc s.pc } in
    let effect : next_moment code (Running s) ≡ Running t =
    ap (λ o. executed o s) (fetched_at code s.pc k before.pc ∙ stands.stand.0) ∙ ap (λ o. carried_out o s) (encoded_decodes own fit)
    ∙ ap (sets s rd) (none_added (register s rs) fits) in (
      t,
      effect,
      record {
        before = record {
          pc = ap next_pc (before.pc ∙ ap pc_of place) ∙ next_pc_of k 0 small ∙ ap pc_of next;
          count = count_with s.registers rd (register s rs) some ∙ before.count;
          zero_is = other_with s.registers rd 0 (register s rs) some (λ e. some (sym e)) ∙ before.zero_is;
        };
        copied = same_with s.registers rd (register s rs) some less;
        others = λ n other. other_with s.registers rd n (register s rs) some other;
        input = refl;
        memory = refl;
        output = refl;
      },
    )
