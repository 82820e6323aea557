use Rattle.std.proofs.Common.{◌≡◌, ◌≤◌, ℕ, ◌+◌, ◌-◌, ℤ, List, sym, ◌∙◌, subst, arith, true≢false}
use Rattle.image_format.specs.declared.image.Image.{Image}
use Rattle.rv_emulator.specs.Pauses.{Emulation}
use Rattle.rv_emulator.specs.After.{IsAfter}
use Rattle.image_runs.proofs.Pausing.{writing_steps, observed}
use Rattle.image_runs.proofs.emulation.run_image.Goals as goal

-- so many instructions less are left
after_call : (image : Image) (input : List ℤ) (steps before left : ℕ) (xs ys : List ℤ) (machine : Emulation) → left ≤ before → before ≤ steps → ys ≡ xs
    → IsAfter image input (steps - before + (before - left)) xs machine → IsAfter image input (steps - left) ys machine
after_call image input steps before left xs ys machine less fewer same after =
    let count : steps - before + (before - left) ≡ steps - left = omega arith in
    subst (λ n. IsAfter image input n ys machine) count (subst (λ zs. IsAfter image input (steps - before + (before - left)) zs machine) (sym same) after)

pub pauses-preserved : goal.pauses-preserved
pauses-preserved c =
    let run = c.run-pause.ensures.run in
    record {
      fewer = omega (arith, run.no_more, c.pauses.invariant.fewer);
      after = after_call c.args.image.now c.args.input.now c.args.steps c.pauses.left c.run-pause.new.left _ c.keep.new.output.items c.run-pause.new.self
          run.no_more c.pauses.invariant.fewer c.in_ok-keep.ensures.kept
          (c.run-pause.ensures.goes_on c.args.image.now c.args.input.now (c.args.steps - c.pauses.left) c.pauses.output.items c.pauses.invariant.after);
    }

pub pauses-smaller : goal.pauses-smaller
pauses-smaller c =
    writing_steps c.pauses.machine c.run-pause.new.self c.pauses.left c.run-pause.new.left c.run-pause.result (c.in_ok-keep.ensures.writes.0 c.if-not-branch.false) c.run-pause.ensures.run

pub returns-then-not-branch : goal.returns-then-not-branch
returns-then-not-branch c =
    let run = c.run-pause.ensures.run in
    let after = after_call c.args.image.now c.args.input.now c.args.steps c.pauses.left c.run-pause.new.left _ c.keep.new.output.items c.run-pause.new.self
    run.no_more c.pauses.invariant.fewer c.in_ok-keep.ensures.kept
    (c.run-pause.ensures.goes_on c.args.image.now c.args.input.now (c.args.steps - c.pauses.left) c.pauses.output.items c.pauses.invariant.after) in
    observed c.args.image.now c.args.input.now c.args.steps c.run-pause.new.left c.keep.new.output.items c.run-pause.new.self.moment c.run-pause.result
    (omega (arith, run.no_more, c.pauses.invariant.fewer)) after.here run.fits
    (λ tells. let no = c.in_ok-keep.ensures.writes.1 tells in let not = c.if-not-branch.true in true≢false (sym no ∙ not))
