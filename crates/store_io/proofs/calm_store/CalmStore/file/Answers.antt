-- What the map has at the name's bytes is what the files have there.
use Rattle.std.proofs.Common.{ap, ◌∙◌, sym, Some, List, ℕ}
use Rattle.std.specs.Option.{option_map}
use Rattle.std.specs.FinMap.{get}
use Rattle.store_io.proofs.Held.{get-held_files}
use Rattle.store_io.proofs.calm_store.CalmStore.file.Goals as goal

pub returns-in_err-bytes : goal.returns-in_err-bytes
returns-in_err-bytes c = rw c.from_residual.ensures
    (ap (λ found. option_map (λ v. v.items) found) c.in_err-bytes.ensures.value
    ∙ sym (get-held_files c.as_bytes.result.now c.self.inside.files.entries)
    ∙ ap (λ files. get files c.as_bytes.result.now) c.self.view_is
    ∙ ap (λ (name : List ℕ). get c.args.self.now name) c.as_bytes.ensures.value)

pub returns : goal.returns
returns c =
    ap (λ (bytes : List ℕ). Some bytes) c.as_slice.ensures.value
    ∙ ap (λ found. option_map (λ v. v.items) found) c.in_ok-bytes.ensures.value
    ∙ sym (get-held_files c.as_bytes.result.now c.self.inside.files.entries)
    ∙ ap (λ files. get files c.as_bytes.result.now) c.self.view_is
    ∙ ap (λ (name : List ℕ). get c.args.self.now name) c.as_bytes.ensures.value
