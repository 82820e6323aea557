use Rattle.std.proofs.Common.{sym, subst}
use Rattle.std.proofs.lemmas.Result.{err_from_is_err_and, IfOk-weaker, IfErr-weaker}
use Rattle.sat_base.specs.declared.limits.TheConstants.{SAMPLE_BYTES}
use Rattle.sat_tool.specs.Input.{IsNoInput, IsInputOf}
use Rattle.store_io.specs.Outside.{ReadsFile}
use Rattle.sat_tool.specs.Reading as reading
use Rattle.sat_tool.specs.World.{store_view}
use Rattle.sat_tool.proofs.Running.{holds, lacks, input_of, no_input}
use Rattle.sat_tool.proofs.input.input_file.Goals as goal

pub returns-in_err-bytes-clause-lacking : goal.returns-in_err-bytes-clause-lacking
returns-in_err-bytes-clause-lacking g c =
    let p = err_from_is_err_and c.from_residual.result c.from_residual.ensures.1 in rw (p.1, p.2) (reading.unread c.in_err-bytes.ensures.unread)

pub returns-clause-held : goal.returns-clause-held
returns-clause-held g c =
    let files = g.S.Store.files c.args.store.now in
    let read = subst (ReadsFile files c.args.name.now SAMPLE_BYTES) (sym c.deref.ensures.value) c.in_ok-bytes.ensures.text in
    IfOk-weaker c.input_in.result _ _
    (λ given. holds SAMPLE_BYTES files c.args.name.now c.deref.result.now read (IsInputOf given.items) (input_of given.items c.deref.result.now))
    c.input_in.ensures.samples

pub returns-clause-lacking : goal.returns-clause-lacking
returns-clause-lacking g c =
    let old = store_view (g.S.Store.files c.args.store.now) (g.S.Store.faults c.args.store.now) in
    let new = store_view (g.S.Store.files c.read_file.new.store) (g.S.Store.faults c.read_file.new.store) in
    let read = subst (ReadsFile (g.S.Store.files c.args.store.now) c.args.name.now SAMPLE_BYTES) (sym c.deref.ensures.value) c.in_ok-bytes.ensures.text in
    IfErr-weaker c.input_in.result _ _
    (λ outcome. lacks SAMPLE_BYTES c.args.name.now c.deref.result.now old new read IsNoInput (no_input c.deref.result.now) outcome)
    c.input_in.ensures.stops
