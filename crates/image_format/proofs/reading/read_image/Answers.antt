use Rattle.image_format.specs.Parts.{counts_in, first_entry_of, entries_part, entries_in, image_in}
use Rattle.image_format.specs.Rules.{header_rules, entries_rules, image_rules}
use Rattle.image_format.proofs.Broken.{TellsFirst-append, judges_residual}
use Rattle.image_format.proofs.ReadParts.{AreParts-cut, TellsFirst-entries, Judges-image}
use Rattle.image_format.proofs.reading.read_image.Goals as goal

pub returns-in_err-counts : goal.returns-in_err-counts
returns-in_err-counts c =
    let bytes = c.args.bytes.now in
    let counts = counts_in bytes in
    let entries = entries_rules counts.words (first_entry_of counts) (entries_in (entries_part counts bytes)) in
    judges_residual (image_rules bytes) (image_in bytes) _ _ c.from_residual.ensures.1
    (TellsFirst-append (header_rules bytes) entries c.in_err-counts.field-0.0 c.in_err-counts.ensures.answer)

pub returns-in_err-entries_of : goal.returns-in_err-entries_of
returns-in_err-entries_of c =
    let bytes = c.args.bytes.now in
    let parts = AreParts-cut bytes _ _ _ _ _ _ c.in_ok-counts.ensures.answer c.code_bytes.ensures c.split_at.ensures.front c.split_at.ensures.back c.split_at-2.ensures.front c.split_at-2.ensures.back in
    judges_residual (image_rules bytes) (image_in bytes) _ _ c.from_residual-in_err-entries_of.ensures.1
    (TellsFirst-entries bytes _ _ _ _ c.in_err-entries_of.field-0.0 parts c.in_err-entries_of.ensures)

pub returns : goal.returns
returns c =
    let bytes = c.args.bytes.now in
    let parts = AreParts-cut bytes _ _ _ _ _ _ c.in_ok-counts.ensures.answer c.code_bytes.ensures c.split_at.ensures.front c.split_at.ensures.back c.split_at-2.ensures.front c.split_at-2.ensures.back in
    Judges-image bytes _ _ _ _ _ _ _ parts c.in_ok-words_of.ensures c.in_ok-from_slice.ensures c.in_ok-entries_of.ensures
