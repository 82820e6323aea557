-- Writing where there is no element.
use Rattle.std.proofs.Common.{◌≡◌, ℕ, ◌≤◌, [], List, length, sym, ap, ◌∙◌}
use Rattle.std.proofs.lemmas.List.{set_past, set-get_or}
use Rattle.std.proofs.lemmas.Option.{unwrap_or-slice_get}
use Rattle.std.specs.Prelude.{ℤ, slice_get, slice_set}
use Rattle.std.specs.Option.{unwrap_or}
use Rattle.sat_base.specs.declared.width.Width.{Width}
use Rattle.source_runs.specs.declared.location.Location.{Location}
use Rattle.source_runs.specs.State.{Kept, numbers_of, written, converted}

set-itself : (rows : List (List ℤ)) (object : ℕ) → slice_set rows object (unwrap_or (slice_get rows object) []) ≡ rows
set-itself rows object = ap (λ (row : List ℤ). slice_set rows object row) (unwrap_or-slice_get rows object []) ∙ set-get_or rows object []

pub written_nowhere : (width : Width) (at : Location) (value : ℤ) (kept : Kept) → length (numbers_of at.object kept) ≤ at.offset → kept ≡ written width at value kept
written_nowhere width at value kept h =
    let rows : slice_set kept.numbers at.object (slice_set (numbers_of at.object kept) at.offset (converted width value)) ≡ kept.numbers =
    ap (λ (row : List ℤ). slice_set kept.numbers at.object row) (set_past (numbers_of at.object kept) at.offset (converted width value) h) ∙ set-itself kept.numbers at.object in
    sym (ap (λ (numbers : List (List ℤ)). record kept { numbers = numbers }) rows)
