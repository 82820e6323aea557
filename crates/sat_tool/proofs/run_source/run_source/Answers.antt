use Rattle.std.proofs.Common.{ℤ, List, [], ◌∷◌, refl, ap, subst}
use Rattle.std.proofs.lemmas.Result.{err_from_is_err_and}
use Rattle.sat_base.specs.declared.limits.TheConstants.{SAMPLE_BYTES, SOURCE_BYTES}
use Rattle.typed_meaning.specs.Observed.{observed}
use Rattle.sat_compile.specs.Accepted.{IsSource}
use Rattle.command_outcomes.specs.RunLines.{source_stop_line}
use Rattle.sat_tool.specs.RunSource.{IsNotRun}
use Rattle.command_words.specs.Command.{RunSource}
use Rattle.sat_tool.specs.Input.{IsNoInput}
use Rattle.sat_tool.specs.Run as run
use Rattle.sat_tool.specs.RunResult.{IsResultOf}
use Rattle.sat_tool.specs.World.{store_view}
use Rattle.sat_tool.proofs.Running.{input_named, samples_at, over, after_reading, both_read}
use Rattle.sat_tool.proofs.Serving.{in_any_case}
use Rattle.sat_tool.proofs.run_source.run_source.Goals as goal

pub returns-in_err-source-clause-course : goal.returns-in_err-source-clause-course
returns-in_err-source-clause-course g c =
    let p = err_from_is_err_and c.from_residual.result c.from_residual.ensures.1 in
    let old = store_view (g.S.Store.files c.args.store.now) (g.S.Store.faults c.args.store.now) in
    let mid = store_view (g.S.Store.files c.source_file.new.store) (g.S.Store.faults c.source_file.new.store) in
    let files = c.args.files in
    let command = RunSource files.program.now files.input.now files.output.now c.args.turns in
    let first = input_named files.program.now SOURCE_BYTES in
    let second = input_named files.input.now SAMPLE_BYTES in
    rw (p.1, p.2) (over command first (second ∷ []) [] IsNotRun old mid _ (λ text unfit. unfit) c.in_err-source.ensures.same c.in_err-source.ensures.lacking)

pub returns-in_err-input-clause-course : goal.returns-in_err-input-clause-course
returns-in_err-input-clause-course g c =
    let p = err_from_is_err_and c.from_residual-in_err-input.result c.from_residual-in_err-input.ensures.1 in
    let old = store_view (g.S.Store.files c.args.store.now) (g.S.Store.faults c.args.store.now) in
    let mid = store_view (g.S.Store.files c.source_file.new.store) (g.S.Store.faults c.source_file.new.store) in
    let late = store_view (g.S.Store.files c.input_file.new.store) (g.S.Store.faults c.input_file.new.store) in
    let files = c.args.files in
    let command = RunSource files.program.now files.input.now files.output.now c.args.turns in
    let first = input_named files.program.now SOURCE_BYTES in
    let second = input_named files.input.now SAMPLE_BYTES in
    let held = c.in_ok-source.ensures.held in
    rw (p.1, p.2) (after_reading command first (second ∷ []) [] (λ text. IsSource text c.in_ok-source.source.typed c.in_ok-source.source.order.functions) old mid late _ held (c.in_ok-source.source.typed, c.in_ok-source.source.order.functions, held.is)
    c.in_ok-source.ensures.same c.in_ok-source.ensures.later
    (over command second [] (held.text ∷ []) IsNoInput mid late _ (λ text unfit. unfit) c.in_err-input.ensures.same c.in_err-input.ensures.lacking))

pub returns-in_err-ran-clause-course : goal.returns-in_err-ran-clause-course
returns-in_err-ran-clause-course g c =
    let p = err_from_is_err_and c.from_residual-in_err-ran.result c.from_residual-in_err-ran.ensures.1 in
    let old = store_view (g.S.Store.files c.args.store.now) (g.S.Store.faults c.args.store.now) in
    let mid = store_view (g.S.Store.files c.source_file.new.store) (g.S.Store.faults c.source_file.new.store) in
    let late = store_view (g.S.Store.files c.input_file.new.store) (g.S.Store.faults c.input_file.new.store) in
    let files = c.args.files in
    let command = RunSource files.program.now files.input.now files.output.now c.args.turns in
    let first = input_named files.program.now SOURCE_BYTES in
    let second = input_named files.input.now SAMPLE_BYTES in
    let held = c.in_ok-source.ensures.held in
    let given = c.in_ok-input.ensures.held in
    rw (p.1, p.2) (both_read command first second (λ text. IsSource text c.in_ok-source.source.typed c.in_ok-source.source.order.functions) c.in_ok-input.input.items old mid late late _ held given (c.in_ok-source.source.typed, c.in_ok-source.source.order.functions, held.is) (c.in_ok-input.input.items, given.is)
    (c.in_ok-source.ensures.same, c.in_ok-source.ensures.later) (c.in_ok-input.ensures.same, c.in_ok-input.ensures.later) (run.wants_memory refl))

pub returns-clause-course : goal.returns-clause-course
returns-clause-course g c =
    let old = store_view (g.S.Store.files c.args.store.now) (g.S.Store.faults c.args.store.now) in
    let mid = store_view (g.S.Store.files c.source_file.new.store) (g.S.Store.faults c.source_file.new.store) in
    let late = store_view (g.S.Store.files c.input_file.new.store) (g.S.Store.faults c.input_file.new.store) in
    let new = store_view (g.S.Store.files c.write_result.new.store) (g.S.Store.faults c.write_result.new.store) in
    let files = c.args.files in
    let command = RunSource files.program.now files.input.now files.output.now c.args.turns in
    let first = input_named files.program.now SOURCE_BYTES in
    let second = input_named files.input.now SAMPLE_BYTES in
    let held = c.in_ok-source.ensures.held in
    let given = c.in_ok-input.ensures.held in
    let result = subst (λ (samples : List ℤ). IsResultOf (source_stop_line c.in_ok-source.source.typed.sites) (observed c.in_ok-source.source.typed samples c.args.turns) c.in_ok-ran.ran) c.deref.ensures.value c.in_ok-ran.ensures in
    in_any_case c.write_result.result _ _
    (λ outcome write. both_read command first second (λ text. IsSource text c.in_ok-source.source.typed c.in_ok-source.source.order.functions) c.in_ok-input.input.items old mid late new outcome held given (c.in_ok-source.source.typed, c.in_ok-source.source.order.functions, held.is) (c.in_ok-input.input.items, given.is)
    (c.in_ok-source.ensures.same, c.in_ok-source.ensures.later) (c.in_ok-input.ensures.same, c.in_ok-input.ensures.later)
    (run.writes (record {
      typed = c.in_ok-source.source.typed;
      functions = c.in_ok-source.source.order.functions;
      of = held.is;
      samples = c.in_ok-input.input.items;
      are = given.is;
      result = record { writes = ap (samples_at files.output.now) result.output; is = result.outcome };
    }) write))
    c.write_result.ensures.writes
