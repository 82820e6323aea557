use Rattle.std.proofs.Common.{◌≡◌, take}
use Rattle.store_io.specs.Entries.{files_of}
use Rattle.store_io.proofs.calm_store.CalmStore.new.Given as goal

abbrev pub invariant-loop-file : goal.invariant-loop-file
invariant-loop-file l = l.store ≡ files_of (take l.file-index l.files)
