use Rattle.std.proofs.Common.{sym, subst}
use Rattle.std.proofs.lemmas.Result.{err_from_is_err_and, IfOk-weaker, IfErr-weaker}
use Rattle.image_format.specs.Reading.{IsFileOf}
use Rattle.image_runs.specs.declared.limits.TheConstants.{IMAGE_BYTES}
use Rattle.sat_tool.specs.RunImage.{IsNoImage}
use Rattle.store_io.specs.Outside.{ReadsFile}
use Rattle.sat_tool.specs.Reading as reading
use Rattle.sat_tool.specs.World.{store_view}
use Rattle.sat_tool.proofs.Running.{holds, lacks, image_of, no_image}
use Rattle.sat_tool.proofs.run_image.image_file.Goals as goal

pub returns-in_err-bytes-clause-lacking : goal.returns-in_err-bytes-clause-lacking
returns-in_err-bytes-clause-lacking g c =
    let p = err_from_is_err_and c.from_residual.result c.from_residual.ensures.1 in rw (p.1, p.2) (reading.unread c.in_err-bytes.ensures.unread)

pub returns-clause-held : goal.returns-clause-held
returns-clause-held g c =
    let files = g.S.Store.files c.args.store.now in
    let read = subst (ReadsFile files c.args.name.now IMAGE_BYTES) (sym c.deref.ensures.value) c.in_ok-bytes.ensures.text in
    IfOk-weaker c.image_in.result _ _
    (λ image. holds IMAGE_BYTES files c.args.name.now c.deref.result.now read (IsFileOf image) (image_of image c.deref.result.now))
    c.image_in.ensures.image

pub returns-clause-lacking : goal.returns-clause-lacking
returns-clause-lacking g c =
    let old = store_view (g.S.Store.files c.args.store.now) (g.S.Store.faults c.args.store.now) in
    let new = store_view (g.S.Store.files c.read_file.new.store) (g.S.Store.faults c.read_file.new.store) in
    let read = subst (ReadsFile (g.S.Store.files c.args.store.now) c.args.name.now IMAGE_BYTES) (sym c.deref.ensures.value) c.in_ok-bytes.ensures.text in
    IfErr-weaker c.image_in.result _ _
    (λ outcome. lacks IMAGE_BYTES c.args.name.now c.deref.result.now old new read IsNoImage (no_image c.deref.result.now) outcome)
    c.image_in.ensures.stops
