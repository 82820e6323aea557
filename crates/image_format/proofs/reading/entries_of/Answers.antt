use Rattle.std.proofs.Common.{◌∙◌, sym, ap, rules, List, ℕ}
use Rattle.image_format.specs.Parts.{first_entry_of}
use Rattle.image_format.specs.Rules.{first_broken, entries_rules}
use Rattle.image_format.proofs.Broken.{goes_on_at, stops_at, entries_more}
use Rattle.image_format.proofs.reading.entries_of.Goals as goal

pub returns-in-Some : goal.returns-in-Some
returns-in-Some c =
    let words = c.args.counts.words in
    let chunks = c.as_chunks.result.0.now in
    ap (λ (entries : List (List ℕ)). first_broken (entries_rules words (first_entry_of c.args.counts) entries)) (sym c.as_chunks.ensures.front)
    ∙ sym c.loop-chunk.invariant.kept
    ∙ stops_at words c.loop-chunk.place c.in-Some.offset c.loop-chunk.chunk-index chunks c.loop-chunk-test.true c.in-Some.ensures.first

pub loop-chunk-preserved : goal.loop-chunk-preserved
loop-chunk-preserved c =
    let chunks = c.as_chunks.result.0.now in
    record {
      place = search rules;
      read = entries_more c.loop-chunk.chunk-index chunks _ _ _ c.loop-chunk-test.true c.loop-chunk.invariant.read c.entry_of.ensures c.in_ok-push.ensures.items;
      kept = sym (goes_on_at c.args.counts.words c.loop-chunk.place c.loop-chunk.chunk-index chunks c.loop-chunk-test.true c.in_default.ensures.first)
          ∙ c.loop-chunk.invariant.kept;
    }
