use Rattle.std.proofs.Common.{ℤ, List, [], ◌∷◌, refl, ap, subst}
use Rattle.std.proofs.lemmas.Result.{err_from_is_err_and}
use Rattle.sat_base.specs.declared.limits.TheConstants.{SAMPLE_BYTES}
use Rattle.image_format.specs.Reading.{IsFileOf}
use Rattle.image_format.specs.Runs.{machine_observed}
use Rattle.image_runs.specs.declared.limits.TheConstants.{IMAGE_BYTES}
use Rattle.command_outcomes.specs.RunLines.{image_stop_line}
use Rattle.sat_tool.specs.RunImage.{IsNoImage}
use Rattle.command_words.specs.Command.{RunImage}
use Rattle.sat_tool.specs.Input.{IsNoInput}
use Rattle.sat_tool.specs.Run as run
use Rattle.sat_tool.specs.RunResult.{IsResultOf}
use Rattle.sat_tool.specs.World.{store_view}
use Rattle.sat_tool.proofs.Running.{input_named, samples_at, over, after_reading, both_read}
use Rattle.sat_tool.proofs.Serving.{in_any_case}
use Rattle.sat_tool.proofs.run_image.run_image.Goals as goal

pub returns-in_err-image-clause-course : goal.returns-in_err-image-clause-course
returns-in_err-image-clause-course g c =
    let p = err_from_is_err_and c.from_residual.result c.from_residual.ensures.1 in
    let old = store_view (g.S.Store.files c.args.store.now) (g.S.Store.faults c.args.store.now) in
    let mid = store_view (g.S.Store.files c.image_file.new.store) (g.S.Store.faults c.image_file.new.store) in
    let files = c.args.files in
    let command = RunImage files.program.now files.input.now files.output.now c.args.steps in
    let first = input_named files.program.now IMAGE_BYTES in
    let second = input_named files.input.now SAMPLE_BYTES in
    rw (p.1, p.2) (over command first (second ∷ []) [] IsNoImage old mid _ (λ text unfit. unfit) c.in_err-image.ensures.same c.in_err-image.ensures.lacking)

pub returns-in_err-input-clause-course : goal.returns-in_err-input-clause-course
returns-in_err-input-clause-course g c =
    let p = err_from_is_err_and c.from_residual-in_err-input.result c.from_residual-in_err-input.ensures.1 in
    let old = store_view (g.S.Store.files c.args.store.now) (g.S.Store.faults c.args.store.now) in
    let mid = store_view (g.S.Store.files c.image_file.new.store) (g.S.Store.faults c.image_file.new.store) in
    let late = store_view (g.S.Store.files c.input_file.new.store) (g.S.Store.faults c.input_file.new.store) in
    let files = c.args.files in
    let command = RunImage files.program.now files.input.now files.output.now c.args.steps in
    let first = input_named files.program.now IMAGE_BYTES in
    let second = input_named files.input.now SAMPLE_BYTES in
    let held = c.in_ok-image.ensures.held in
    rw (p.1, p.2) (after_reading command first (second ∷ []) [] (IsFileOf c.in_ok-image.image) old mid late _ held (c.in_ok-image.image, held.is)
    c.in_ok-image.ensures.same c.in_ok-image.ensures.later
    (over command second [] (held.text ∷ []) IsNoInput mid late _ (λ text unfit. unfit) c.in_err-input.ensures.same c.in_err-input.ensures.lacking))

pub returns-in_err-ran-clause-course : goal.returns-in_err-ran-clause-course
returns-in_err-ran-clause-course g c =
    let p = err_from_is_err_and c.from_residual-in_err-ran.result c.from_residual-in_err-ran.ensures.1 in
    let old = store_view (g.S.Store.files c.args.store.now) (g.S.Store.faults c.args.store.now) in
    let mid = store_view (g.S.Store.files c.image_file.new.store) (g.S.Store.faults c.image_file.new.store) in
    let late = store_view (g.S.Store.files c.input_file.new.store) (g.S.Store.faults c.input_file.new.store) in
    let files = c.args.files in
    let command = RunImage files.program.now files.input.now files.output.now c.args.steps in
    let first = input_named files.program.now IMAGE_BYTES in
    let second = input_named files.input.now SAMPLE_BYTES in
    let held = c.in_ok-image.ensures.held in
    let given = c.in_ok-input.ensures.held in
    rw (p.1, p.2) (both_read command first second (IsFileOf c.in_ok-image.image) c.in_ok-input.input.items old mid late late _ held given (c.in_ok-image.image, held.is) (c.in_ok-input.input.items, given.is)
    (c.in_ok-image.ensures.same, c.in_ok-image.ensures.later) (c.in_ok-input.ensures.same, c.in_ok-input.ensures.later) (run.wants_memory refl))

pub returns-clause-course : goal.returns-clause-course
returns-clause-course g c =
    let old = store_view (g.S.Store.files c.args.store.now) (g.S.Store.faults c.args.store.now) in
    let mid = store_view (g.S.Store.files c.image_file.new.store) (g.S.Store.faults c.image_file.new.store) in
    let late = store_view (g.S.Store.files c.input_file.new.store) (g.S.Store.faults c.input_file.new.store) in
    let new = store_view (g.S.Store.files c.write_result.new.store) (g.S.Store.faults c.write_result.new.store) in
    let files = c.args.files in
    let command = RunImage files.program.now files.input.now files.output.now c.args.steps in
    let first = input_named files.program.now IMAGE_BYTES in
    let second = input_named files.input.now SAMPLE_BYTES in
    let held = c.in_ok-image.ensures.held in
    let given = c.in_ok-input.ensures.held in
    let result = subst (λ (samples : List ℤ). IsResultOf (image_stop_line c.in_ok-image.image.sites) (machine_observed c.in_ok-image.image samples c.args.steps) c.in_ok-ran.ran) c.deref.ensures.value c.in_ok-ran.ensures in
    in_any_case c.write_result.result _ _
    (λ outcome write. both_read command first second (IsFileOf c.in_ok-image.image) c.in_ok-input.input.items old mid late new outcome held given (c.in_ok-image.image, held.is) (c.in_ok-input.input.items, given.is)
    (c.in_ok-image.ensures.same, c.in_ok-image.ensures.later) (c.in_ok-input.ensures.same, c.in_ok-input.ensures.later)
    (run.writes (record {
      image = c.in_ok-image.image;
      of = held.is;
      samples = c.in_ok-input.input.items;
      are = given.is;
      result = record { writes = ap (samples_at files.output.now) result.output; is = result.outcome };
    }) write))
    c.write_result.ensures.writes
