-- The files so far, and the one of this turn.
use Rattle.std.proofs.Common.{ap, sym, ◌∙◌, List, ℕ, take}
use Rattle.std.specs.FinMap.{insert}
use Rattle.store_io.specs.Outside.{Files}
use Rattle.store_io.specs.Entries.{files_of}
use Rattle.store_io.proofs.Begun.{files_of-more}
use Rattle.store_io.proofs.calm_store.CalmStore.new.Goals as goal

pub loop-file-preserved : goal.loop-file-preserved
loop-file-preserved c =
    c.in_ok-set.ensures.ok
    ∙ ap (λ (files : Files). insert files c.as_slice.result.now c.as_slice-in-loop-file.result.now) c.loop-file.invariant
    ∙ ap (λ (name : List ℕ). insert (files_of (take c.loop-file.file-index c.args.files.now)) name c.as_slice-in-loop-file.result.now) c.as_slice.ensures
    ∙ ap (λ (bytes : List ℕ). insert (files_of (take c.loop-file.file-index c.args.files.now)) c.file-item.result.name bytes) c.as_slice-in-loop-file.ensures
    ∙ sym (files_of-more c.args.files.now c.loop-file.file-index c.file-item.result c.requires c.loop-file-test.true c.file-item.is)
