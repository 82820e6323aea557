-- What the map holds is what it held, with the copies put in.
use Rattle.std.specs.FinMap as map
use Rattle.std.proofs.Common.{ap, ◌∙◌}
use Rattle.store_io.specs.Held.{held_files}
use Rattle.store_io.proofs.Held.{held_files-insert}
use Rattle.store_io.proofs.calm_store.CalmStore.set.Goals as goal

pub returns-clause-ok : goal.returns-clause-ok
returns-clause-ok c =
    ap (λ entries. held_files entries) c.in_ok-insert.ensures.entries
    ∙ held_files-insert c.self.inside.files.entries c.in_ok-name.name c.in_ok-bytes.bytes
    ∙ ap (λ files. map.insert files c.in_ok-name.name.items c.in_ok-bytes.bytes.items) c.self.view_is
    ∙ ap (λ name. map.insert c.args.self.now name c.in_ok-bytes.bytes.items) c.in_ok-name.ensures.items
    ∙ ap (λ bytes. map.insert c.args.self.now c.args.name.now bytes) c.in_ok-bytes.ensures.items
