use Rattle.std.proofs.Common.{subst, sym}
use Rattle.std.proofs.lemmas.Result.{err_from_is_err_and}
use Rattle.sat_base.specs.declared.limits.TheConstants.{SOURCE_BYTES}
use Rattle.store_io.specs.Outside.{ReadsFile}
use Rattle.sat_tool.specs.Run as run
use Rattle.sat_tool.specs.World.{store_view}
use Rattle.sat_tool.proofs.Serving.{in_any_case, serves}
use Rattle.sat_tool.proofs.build.build.Goals as goal

pub returns-in_err-text-clause-course : goal.returns-in_err-text-clause-course
returns-in_err-text-clause-course g c =
    let p = err_from_is_err_and c.from_residual.result c.from_residual.ensures.1 in
    rw (p.1, p.2) (run.stops c.in_err-text.ensures.unread c.in_err-text.ensures.same)

pub returns-clause-course : goal.returns-clause-course
returns-clause-course g c =
    let old = store_view (g.S.Store.files c.args.store.now) (g.S.Store.faults c.args.store.now) in
    let mid = store_view (g.S.Store.files c.read_file.new.store) (g.S.Store.faults c.read_file.new.store) in
    let new = store_view (g.S.Store.files c.build_text.new.store) (g.S.Store.faults c.build_text.new.store) in
    let read = subst (ReadsFile (g.S.Store.files c.args.store.now) c.args.source.now SOURCE_BYTES) (sym c.deref.ensures.value) c.in_ok-text.ensures.text in
    in_any_case c.build_text.result _ _ (serves c.args.source.now c.args.image.now c.deref.result.now old mid new read c.in_ok-text.ensures.same c.in_ok-text.ensures.later) c.build_text.ensures.builds
