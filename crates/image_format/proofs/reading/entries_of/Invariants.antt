use Rattle.std.proofs.Common.{◌≡◌, ◌+◌, ◌*◌, map, take, drop}
use Rattle.image_format.specs.Parts.{first_entry_of, entry_in}
use Rattle.image_format.specs.Rules.{first_broken, entries_rules}
use Rattle.image_format.proofs.reading.entries_of.Given as goal

abbrev pub invariant-loop-chunk : goal.invariant-loop-chunk
invariant-loop-chunk l = record {
  place : l.place ≡ first_entry_of l.counts + 28 * l.chunk-index;
  read : l.entries.items ≡ map entry_in (take l.chunk-index l.chunks);
  kept : first_broken (entries_rules l.counts.words l.place (drop l.chunk-index l.chunks))
      ≡ first_broken (entries_rules l.counts.words (first_entry_of l.counts) l.chunks);
}
