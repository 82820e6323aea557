use Rattle.std.proofs.Common.{◌-◌, ℤ, [], None, sym, refl, subst, arith, rules}
use Rattle.std.specs.Int.{w16}
use Rattle.std.proofs.lemmas.Int.{to_z-of_z}
use Rattle.rv_encode.specs.State.{Over}
use Rattle.rv_encode.specs.Runs.{stepped}
use Rattle.rv_emulator.specs.Pauses.{Emulation, IsRun, moment_with}
use Rattle.rv_emulator.specs.Endings.{ending_of, pause_of}
use Rattle.rv_emulator.specs.Steps.{HasEffect}
use Rattle.rv_emulator.specs.declared.pause.Pause.{Pause}
use Rattle.rv_emulator.specs.declared.pause.Pause.TheVariants.{Wrote, Budget}
use Rattle.rv_emulator.specs.declared.effects.Step.TheVariants.{Goes, Writes, Ends}
use Rattle.rv_emulator.proofs.Moments.{ran_nothing, ran_goes, run_writes, run_ends, run_budget, seen_running, seen_before}
use Rattle.rv_emulator.proofs.machine.Machine.run_on.Goals as goal

pub loop-left-init : goal.loop-left-init
loop-left-init c = record { same_code = refl; running = c.in_default.is; ran = ran_nothing _ _ _ }

pub loop-left-preserved : goal.loop-left-preserved
loop-left-preserved c =
    let inv = c.loop-left.invariant in
    let hart = c.loop-left.self-inside.hart in
    record {
      same_code = inv.same_code;
      running = inv.running;
      ran = ran_goes _ _ _ _ _ inv.ran c.carry_out.new.state c.loop-left-test.true
          (subst (λ k. HasEffect Goes hart c.carry_out.new.state (stepped k)) c.as_slice.ensures c.in-Goes.ensures);
    }

pub returns-in-Writes : goal.returns-in-Writes
returns-in-Writes c =
    let inv = c.loop-left.invariant in
    let code = c.loop-left.self-inside.code in
    let hart = c.loop-left.self-inside.hart in
    let new = c.carry_out.new.state in
    let effect = subst (λ k. HasEffect (Writes c.in-Writes.sample) hart new (stepped k)) c.as_slice.ensures c.in-Writes.ensures in
    let run = run_writes code c.self.inside.hart c.args.left.now c.loop-left.left hart inv.ran new c.in-Writes.sample c.loop-left-test.true effect in
    let P : Emulation → Type 0 = λ o. IsRun o (record { code = code; moment = moment_with new None }) c.args.left.now (c.loop-left.left - 1) (Wrote c.in-Writes.sample) in
    let Q : Emulation → Type 0 = λ n. IsRun c.args.self.now n c.args.left.now (c.loop-left.left - 1) (Wrote c.in-Writes.sample) in
    let R : ℤ → Type 0 = λ x. IsRun c.args.self.now (record { code = code; moment = moment_with new c.loop-left.self-inside.ending }) c.args.left.now (c.loop-left.left - 1) (Wrote x) in
    subst R (sym (to_z-of_z w16 c.in-Writes.sample (search rules))) (subst Q (sym (seen_running code new c.loop-left.self-inside.ending inv.running)) (subst P (seen_before c.self.inside.code code c.self.inside.hart c.self.inside.ending c.args.self.now c.self.view_is c.in_default.is inv.same_code) run))

pub returns-in-Ends : goal.returns-in-Ends
returns-in-Ends c =
    let inv = c.loop-left.invariant in
    let code = c.loop-left.self-inside.code in
    let hart = c.loop-left.self-inside.hart in
    let new = c.carry_out.new.state in
    let over = Over (ending_of c.in-Ends.ending) [] in
    let effect = subst (λ k. HasEffect (Ends c.in-Ends.ending) hart new (stepped k)) c.as_slice.ensures c.in-Ends.ensures in
    let run = run_ends code c.self.inside.hart c.args.left.now c.loop-left.left hart inv.ran new c.in-Ends.ending c.loop-left-test.true effect in
    let P : Emulation → Type 0 = λ o. IsRun o (record { code = code; moment = over }) c.args.left.now (c.loop-left.left - 1) (pause_of c.in-Ends.ending) in
    let Q : Pause → Type 0 = λ p. IsRun c.args.self.now (record { code = code; moment = over }) c.args.left.now (c.loop-left.left - 1) p in
    subst Q (sym c.into-in-Ends.ensures) (subst P (seen_before c.self.inside.code code c.self.inside.hart c.self.inside.ending c.args.self.now c.self.view_is c.in_default.is inv.same_code) run)

pub returns : goal.returns
returns c =
    let inv = c.loop-left.invariant in
    let code = c.loop-left.self-inside.code in
    let hart = c.loop-left.self-inside.hart in
    let run = run_budget code c.self.inside.hart c.args.left.now c.loop-left.left hart inv.ran (omega arith) in
    let P : Emulation → Type 0 = λ o. IsRun o (record { code = code; moment = moment_with hart None }) c.args.left.now c.loop-left.left Budget in
    let Q : Emulation → Type 0 = λ n. IsRun c.args.self.now n c.args.left.now c.loop-left.left Budget in
    subst Q (sym (seen_running code hart c.loop-left.self-inside.ending inv.running)) (subst P (seen_before c.self.inside.code code c.self.inside.hart c.self.inside.ending c.args.self.now c.self.view_is c.in_default.is inv.same_code) run)
