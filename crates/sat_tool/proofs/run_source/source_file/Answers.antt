use Rattle.std.proofs.Common.{sym, subst}
use Rattle.std.proofs.lemmas.Result.{err_from_is_err_and, IfOk-weaker, IfErr-weaker}
use Rattle.sat_base.specs.declared.limits.TheConstants.{SOURCE_BYTES}
use Rattle.sat_compile.specs.Accepted.{IsSource}
use Rattle.sat_tool.specs.RunSource.{IsNotRun}
use Rattle.store_io.specs.Outside.{ReadsFile}
use Rattle.sat_tool.specs.Reading as reading
use Rattle.sat_tool.specs.World.{store_view}
use Rattle.sat_tool.proofs.Running.{holds, lacks, source_of, no_source}
use Rattle.sat_tool.proofs.run_source.source_file.Goals as goal

pub returns-in_err-text-clause-lacking : goal.returns-in_err-text-clause-lacking
returns-in_err-text-clause-lacking g c =
    let p = err_from_is_err_and c.from_residual.result c.from_residual.ensures.1 in rw (p.1, p.2) (reading.unread c.in_err-text.ensures.unread)

pub returns-clause-held : goal.returns-clause-held
returns-clause-held g c =
    let files = g.S.Store.files c.args.store.now in
    let read = subst (ReadsFile files c.args.name.now SOURCE_BYTES) (sym c.deref.ensures.value) c.in_ok-text.ensures.text in
    IfOk-weaker c.source_in.result _ _
    (λ front. holds SOURCE_BYTES files c.args.name.now c.deref.result.now read (λ text. IsSource text front.typed front.order.functions) (source_of front.typed front.order.functions c.deref.result.now))
    c.source_in.ensures.source

pub returns-clause-lacking : goal.returns-clause-lacking
returns-clause-lacking g c =
    let old = store_view (g.S.Store.files c.args.store.now) (g.S.Store.faults c.args.store.now) in
    let new = store_view (g.S.Store.files c.read_file.new.store) (g.S.Store.faults c.read_file.new.store) in
    let read = subst (ReadsFile (g.S.Store.files c.args.store.now) c.args.name.now SOURCE_BYTES) (sym c.deref.ensures.value) c.in_ok-text.ensures.text in
    IfErr-weaker c.source_in.result _ _
    (λ outcome. lacks SOURCE_BYTES c.args.name.now c.deref.result.now old new read IsNotRun (no_source c.deref.result.now) outcome)
    c.source_in.ensures.stops
