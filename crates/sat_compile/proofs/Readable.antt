-- The image of a source is one that an image file can hold.
use Rattle.std.proofs.Common.{ℕ, ◌≤◌, All, length, map, arith}
use Rattle.std.proofs.lemmas.List.{length-map}
use Rattle.first_form.specs.declared.first.First.{First}
use Rattle.first_form.specs.Form.{nesting_of}
use Rattle.image_format.specs.declared.image.SiteEntry.{SiteEntry}
use Rattle.image_format.specs.Readable.{IsWord, IsReadableEntry, IsReadable}
use Rattle.rv_encode.specs.Words.{encoded}
use Rattle.sat_compile.specs.Emission.{code_of, image_of, HasNumbers}
use Rattle.sat_compile.proofs.Entries.{LiesIn, entries_lie}
use Rattle.sat_compile.proofs.Sizes.{tokens_in, code_small, memory_whole, memory_small, sites_small}

entry_readable : (words : ℕ) (entry : SiteEntry) → LiesIn 1 words entry → IsWord entry.line × IsWord entry.col → IsReadableEntry words entry
entry_readable words entry lies places =
    let own = lies.is in
    record {
      within = lies.to;
      short = omega arith;
      line = places.0;
      col = places.1;
      bound = omega arith;
      kind = omega arith;
      form = omega arith;
      guard = omega arith;
      operands = omega arith;
      result = omega arith;
      reg_a = omega arith;
      reg_b = omega arith;
      reg_c = omega arith;
      unused_a = λ h. absurd (omega arith);
      unused_b = λ h. absurd (omega arith);
      unused_c = λ h. own.reg_c;
      no_bound = λ other. own.bound;
    }

module _ (first : First) (few : tokens_in first.outs ≤ 131072) (shallow : All (λ e. nesting_of e ≤ 64) first.outs) where
  pub readable : HasNumbers (image_of first) → IsReadable (image_of first)
  readable numbers = record {
    code_fits = omega (arith, length-map (code_of first) encoded, code_small first few);
    memory_fits = memory_small first shallow;
    memory_whole = omega (arith, memory_whole first);
    sites_fit = sites_small first few;
    words = numbers.words;
    bytes = numbers.bytes;
    entries = λ i d within. entry_readable (length (map encoded (code_of first))) _ (entries_lie first i d within) (numbers.places i d within);
  }
