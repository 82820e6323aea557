-- The bytes of an image that a file can hold keep the rules, and the image that is read of them is that image.
use Rattle.std.proofs.Common.{◌≡◌, ℕ, ◌+◌, ◌*◌, ◌/◌, ◌%◌, ◌≤◌, false, not, ◌||◌, eqb, ltb, List, [], ◌∷◌, ◌++◌, map, take, drop, length, None, refl, ap, ◌∙◌, append_assoc, arith}
use Rattle.std.specs.List.{flat_map, AllByRecursion}
use Rattle.std.specs.Int.{w32, from_le_bytes}
use Rattle.std.specs.Simd.{first_chunks}
use Rattle.std.proofs.lemmas.Bool.{le-ltb}
use Rattle.std.proofs.lemmas.Bool.Decides.{nat_tests}
use Rattle.std.proofs.lemmas.List.{length-append, take_at, drop_at}
use Rattle.std.proofs.lemmas.List.Elements.{recursion_from_All}
use Rattle.std.proofs.lemmas.Nat.{from_le_bytes-to_le_bytes_4}
use Rattle.image_format.specs.declared.header.Counts.{Counts}
use Rattle.image_format.specs.declared.image.Image.{Image}
use Rattle.image_format.specs.declared.image.SiteEntry.{SiteEntry}
use Rattle.image_format.specs.ImageBytes.{word_bytes, entry_bytes, image_bytes}
use Rattle.image_format.specs.Readable.{IsWord, IsReadableEntry, IsReadable}
use Rattle.image_format.specs.Parts.{counts_in, first_entry_of, file_bytes_of, code_part, memory_part, entries_part, words_in, entries_in, entry_in, image_in}
use Rattle.image_format.specs.Rules.{first_broken, beginning_rules, count_rules, length_rules, header_rules, entry_rules, entries_rules, image_rules}
use Rattle.image_format.proofs.Broken.{first_broken-goes_on, first_broken-none}
use Rattle.image_format.proofs.Chunks.{All-map, All-weaker, first_chunks-flat_map, length-flat_map_of, map-map_back}
use Rattle.image_format.proofs.ReadParts.{made, rules_at}
use Rattle.image_format.proofs.EntryBytes.{none_broken, entry_again, entry_keeps}

-- ---- the counts

abbrev lengths_of : Image → Counts
lengths_of image = record { words = length image.code; memory = length image.memory; sites = length image.sites }

abbrev counts_with : (words memory sites : ℕ) → Counts
counts_with words memory sites = record { words = words; memory = memory; sites = sites }

same_counts : (a b c a' b' c' : ℕ) → a ≡ a' → b ≡ b' → c ≡ c' → counts_with a b c ≡ counts_with a' b' c'
same_counts a b c a' b' c' p q r = rw (p, q, r) refl

counts_again : (image : Image) → IsReadable image → counts_in (image_bytes image) ≡ lengths_of image
counts_again image readable =
    same_counts _ _ _ _ _ _
    (from_le_bytes-to_le_bytes_4 (length image.code) (omega (arith, readable.code_fits)))
    (from_le_bytes-to_le_bytes_4 (length image.memory) (omega (arith, readable.memory_fits)))
    (from_le_bytes-to_le_bytes_4 (length image.sites) (omega (arith, readable.sites_fit)))

-- ---- the parts

code_len : (words : List ℕ) → length (flat_map word_bytes words) ≡ 4 * length words
code_len words = length-flat_map_of 4 word_bytes (λ _. refl) words

entries_len : (entries : List SiteEntry) → length (flat_map entry_bytes entries) ≡ 28 * length entries
entries_len entries = length-flat_map_of 28 entry_bytes (λ _. refl) entries

cut_first : (n : ℕ) (a b c : List ℕ) → length a ≡ n → (take n (a ++ b ++ c) ≡ a) × (drop n (a ++ b ++ c) ≡ b ++ c)
cut_first n a b c len = (rw append_assoc (take_at a (b ++ c) n len), rw append_assoc (drop_at a (b ++ c) n len))

code_again : (image : Image) → code_part (lengths_of image) (image_bytes image) ≡ flat_map word_bytes image.code
code_again image = (cut_first (4 * length image.code) (flat_map word_bytes image.code) image.memory (flat_map entry_bytes image.sites) (code_len image.code)).0

rest_again : (image : Image) → drop (4 * length image.code) (drop 20 (image_bytes image)) ≡ image.memory ++ flat_map entry_bytes image.sites
rest_again image = (cut_first (4 * length image.code) (flat_map word_bytes image.code) image.memory (flat_map entry_bytes image.sites) (code_len image.code)).1

memory_again : (image : Image) → memory_part (lengths_of image) (image_bytes image) ≡ image.memory
memory_again image = ap (take (length image.memory)) (rest_again image) ∙ take_at image.memory (flat_map entry_bytes image.sites) (length image.memory) refl

entries_again : (image : Image) → entries_part (lengths_of image) (image_bytes image) ≡ flat_map entry_bytes image.sites
entries_again image = ap (drop (length image.memory)) (rest_again image) ∙ drop_at image.memory (flat_map entry_bytes image.sites) (length image.memory) refl

-- ---- what is read of them

words_back : (words : List ℕ) → AllByRecursion IsWord words → words_in (flat_map word_bytes words) ≡ words
words_back words fit =
    let count : length (flat_map word_bytes words) / 4 ≡ length words = omega (arith, code_len words) in
    ap (λ k. map (from_le_bytes w32) (first_chunks 4 k (flat_map word_bytes words))) count
    ∙ ap (map (from_le_bytes w32)) (first_chunks-flat_map 4 word_bytes (λ _. refl) words)
    ∙ map-map_back word_bytes (from_le_bytes w32) words (All-weaker IsWord (λ word. from_le_bytes w32 (word_bytes word) ≡ word) from_le_bytes-to_le_bytes_4 words fit)

chunks_again : (entries : List SiteEntry) → entries_in (flat_map entry_bytes entries) ≡ map entry_bytes entries
chunks_again entries =
    let count : length (flat_map entry_bytes entries) / 28 ≡ length entries = omega (arith, entries_len entries) in
    ap (λ k. first_chunks 28 k (flat_map entry_bytes entries)) count ∙ first_chunks-flat_map 28 entry_bytes (λ _. refl) entries

sites_back : (code_words : ℕ) (entries : List SiteEntry) → code_words ≤ 16777216 → AllByRecursion (IsReadableEntry code_words) entries
    → map entry_in (entries_in (flat_map entry_bytes entries)) ≡ entries
sites_back code_words entries few readable =
    ap (map entry_in) (chunks_again entries)
    ∙ map-map_back entry_bytes entry_in entries
    (All-weaker (IsReadableEntry code_words) (λ entry. entry_in (entry_bytes entry) ≡ entry) (λ entry. entry_again code_words entry few) entries readable)

entries_keep : (code_words place : ℕ) (entries : List (List ℕ)) → AllByRecursion (λ entry. first_broken (entry_rules code_words entry) ≡ None) entries
    → first_broken (entries_rules code_words place entries) ≡ None
entries_keep code_words place [] kept = refl
entries_keep code_words place (entry ∷ entries) kept =
    first_broken-goes_on code_words place entry entries kept.0 ∙ entries_keep code_words (place + 28) entries kept.1

sites_keep : (code_words place : ℕ) (entries : List SiteEntry) → code_words ≤ 16777216 → AllByRecursion (IsReadableEntry code_words) entries
    → first_broken (entries_rules code_words place (entries_in (flat_map entry_bytes entries))) ≡ None
sites_keep code_words place entries few readable =
    ap (λ chunks. first_broken (entries_rules code_words place chunks)) (chunks_again entries)
    ∙ entries_keep code_words place (map entry_bytes entries)
    (All-map entry_bytes (λ entry. first_broken (entry_rules code_words entry) ≡ None) entries
    (All-weaker (IsReadableEntry code_words) (λ entry. first_broken (entry_rules code_words (entry_bytes entry)) ≡ None)
    (λ entry. entry_keeps code_words entry few) entries readable))

-- ---- the whole file

memory_keeps : (memory : ℕ) → memory ≤ 16777216 → memory % 4 ≡ 0 → (ltb 16777216 memory || not (eqb (memory % 4) 0)) ≡ false
memory_keeps memory few whole = grind (arith, nat_tests)

length-image_bytes : (image : Image) → length (image_bytes image) ≡ file_bytes_of (lengths_of image)
length-image_bytes image =
    let code = flat_map word_bytes image.code in
    let entries = flat_map entry_bytes image.sites in
    omega (arith, length-append (code ++ image.memory) entries, length-append code image.memory, code_len image.code, entries_len image.sites)

header_keeps : (image : Image) → IsReadable image → first_broken (header_rules (image_bytes image)) ≡ None
header_keeps image readable =
    let bytes = image_bytes image in
    let counts = lengths_of image in
    let len = length-image_bytes image in
    ap (λ (told : Counts). first_broken (beginning_rules bytes ++ count_rules told ++ length_rules (file_bytes_of told) (length bytes)))
    (counts_again image readable)
    ∙ none_broken (beginning_rules bytes ++ count_rules counts ++ length_rules (file_bytes_of counts) (length bytes)) (
      le-ltb (length bytes) 20 (omega (arith, len)),
      (
        refl,
        (
          refl,
          (
            le-ltb 16777216 (length image.code) readable.code_fits,
            (
              memory_keeps (length image.memory) readable.memory_fits readable.memory_whole,
              (
                le-ltb 131072 (length image.sites) readable.sites_fit,
                (le-ltb (length bytes) (file_bytes_of counts) (omega (arith, len)), (le-ltb (file_bytes_of counts) (length bytes) (omega (arith, len)), tt)),
              ),
            ),
          ),
        ),
      ),
    )

image_with : (image : Image) (words memory : List ℕ) (sites : List SiteEntry) → words ≡ image.code → memory ≡ image.memory → sites ≡ image.sites
    → record { code = words; memory = memory; sites = sites } ≡ image
image_with image words memory sites p q r = rw (p, q, r) refl

pub image_again : (image : Image) → IsReadable image → image_in (image_bytes image) ≡ image
image_again image readable =
    ap (made (image_bytes image)) (counts_again image readable)
    ∙ image_with image _ _ _
    (ap words_in (code_again image) ∙ words_back image.code (recursion_from_All IsWord image.code readable.words))
    (memory_again image)
    (ap (λ part. map entry_in (entries_in part)) (entries_again image)
    ∙ sites_back (length image.code) image.sites readable.code_fits (recursion_from_All (IsReadableEntry (length image.code)) image.sites readable.entries))

pub image_keeps : (image : Image) → IsReadable image → first_broken (image_rules (image_bytes image)) ≡ None
image_keeps image readable =
    first_broken-none (header_rules (image_bytes image)) (rules_at (image_bytes image) (counts_in (image_bytes image))) (header_keeps image readable)
    (ap (λ (counts : Counts). first_broken (rules_at (image_bytes image) counts)) (counts_again image readable)
    ∙ ap (λ part. first_broken (entries_rules (length image.code) (first_entry_of (lengths_of image)) (entries_in part))) (entries_again image)
    ∙ sites_keep (length image.code) (first_entry_of (lengths_of image)) image.sites readable.code_fits
    (recursion_from_All (IsReadableEntry (length image.code)) image.sites readable.entries))
