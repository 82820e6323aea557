-- Bytes that keep the rules are those of the image that is read, which a file can hold.
use Rattle.std.proofs.Common.{◌≡◌, ℕ, ◌+◌, ◌*◌, ◌/◌, ◌%◌, ◌≤◌, Bool, true, false, not, ◌||◌, eqb, ltb, List, [], ◌∷◌, ◌++◌, map, take, drop, length, All, Option, Some, None, codes, refl, sym, ap, subst, ◌∙◌, append_assoc, arith}
use Rattle.std.specs.List.{flat_map, AllByRecursion}
use Rattle.std.specs.Option.{option_or}
use Rattle.std.specs.Int.{w32, from_le_bytes}
use Rattle.std.specs.Simd.{first_chunks}
use Rattle.std.proofs.lemmas.Bool.{not-false, ltb-false, eqb-true}
use Rattle.std.proofs.lemmas.Bool.Decides.{nat_tests}
use Rattle.std.proofs.lemmas.List.{length-map, length-take, length-drop, take-append-drop, get_or_default}
use Rattle.std.proofs.lemmas.List.Elements.{All-from_recursion}
use Rattle.std.proofs.lemmas.Nat.{le_bytes_4}
use Rattle.image_format.specs.declared.header.Counts.{Counts}
use Rattle.image_format.specs.ImageBytes.{word_bytes, entry_bytes}
use Rattle.image_format.specs.Readable.{IsWord, IsByte, IsReadableEntry}
use Rattle.image_format.specs.Parts.{file_word, counts_in, first_entry_of, file_bytes_of, code_part, memory_part, entries_part, words_in, entries_in, entry_in, image_in}
use Rattle.image_format.specs.Rules.{first_broken, magic, header_rules, entry_rules, entries_rules, image_rules, shape_from}
use Rattle.image_format.specs.Reading.{IsFileOf}
use Rattle.image_format.proofs.Broken.{first_broken-append}
use Rattle.image_format.proofs.Chunks.{IsBytes, IsBytes-take, IsBytes-drop, All-first_chunks, All-map, flat_map-first_chunks, length-first_chunks}
use Rattle.image_format.proofs.Cells.{cells_from, cells_from-take, word_bytes-file_word, file_word-fits}
use Rattle.image_format.proofs.EntryBytes.{all_kept, entry_spelled, entry_readable}

-- ---- the words

trivial : {A : Type 0} (items : List A) → AllByRecursion (λ _. Unit {0}) items
trivial [] = tt
trivial (item ∷ items) = (tt, trivial items)

words_spelled : (k : ℕ) (bytes : List ℕ) → length bytes ≡ 4 * k → IsBytes bytes → flat_map word_bytes (words_in bytes) ≡ bytes
words_spelled k bytes len fits =
    flat_map-first_chunks 4 (length bytes / 4) word_bytes (from_le_bytes w32) bytes (omega arith)
    (All-first_chunks 4 (length bytes / 4) (λ _. Unit {0}) (λ chunk. word_bytes (from_le_bytes w32 chunk) ≡ chunk)
    (λ chunk size chunk_fits _. le_bytes_4 chunk (from_le_bytes w32 chunk) size chunk_fits refl)
    bytes (omega arith) fits (trivial (first_chunks 4 (length bytes / 4) bytes)))

words_fit : (k : ℕ) (bytes : List ℕ) → length bytes ≡ 4 * k → IsBytes bytes → All IsWord (words_in bytes)
words_fit k bytes len fits =
    All-from_recursion IsWord (words_in bytes)
    (All-map (from_le_bytes w32) IsWord (first_chunks 4 (length bytes / 4) bytes)
    (All-first_chunks 4 (length bytes / 4) (λ _. Unit {0}) (λ chunk. IsWord (from_le_bytes w32 chunk))
    (λ chunk size chunk_fits _. file_word-fits 0 chunk chunk_fits)
    bytes (omega arith) fits (trivial (first_chunks 4 (length bytes / 4) bytes))))

bytes_fit : (bytes : List ℕ) → IsBytes bytes → All IsByte bytes
bytes_fit bytes fits k d within = rw (get_or_default bytes k d 0 within) (fits k)

-- ---- the entries

or_none : {A : Type 0} (first second : Option A) → option_or first second ≡ None → (first ≡ None) × (second ≡ None)
or_none None second none = (refl, none)
or_none (Some told) second none = absurd cc

map_none : (place : ℕ) (rules : List (Bool × ℕ)) → first_broken (map (shape_from place) rules) ≡ None → first_broken rules ≡ None
map_none place [] none = refl
map_none place ((true, offset) ∷ rules) none = absurd cc
map_none place ((false, offset) ∷ rules) none = map_none place rules none

entries_kept : (code_words place : ℕ) (entries : List (List ℕ)) → first_broken (entries_rules code_words place entries) ≡ None
    → AllByRecursion (λ entry. first_broken (entry_rules code_words entry) ≡ None) entries
entries_kept code_words place [] none = tt
entries_kept code_words place (entry ∷ entries) none =
    let rules = map (shape_from place) (entry_rules code_words entry) in
    let others = entries_rules code_words (place + 28) entries in
    let both = or_none (first_broken rules) (first_broken others) (sym (first_broken-append rules others) ∙ none) in
    (map_none place (entry_rules code_words entry) both.0, entries_kept code_words (place + 28) entries both.1)

entries_spelled : (code_words place k : ℕ) (bytes : List ℕ) → length bytes ≡ 28 * k → IsBytes bytes
    → first_broken (entries_rules code_words place (entries_in bytes)) ≡ None → flat_map entry_bytes (map entry_in (entries_in bytes)) ≡ bytes
entries_spelled code_words place k bytes len fits none =
    flat_map-first_chunks 28 (length bytes / 28) entry_bytes entry_in bytes (omega arith)
    (All-first_chunks 28 (length bytes / 28) (λ entry. first_broken (entry_rules code_words entry) ≡ None) (λ entry. entry_bytes (entry_in entry) ≡ entry)
    (entry_spelled code_words) bytes (omega arith) fits (entries_kept code_words place (entries_in bytes) none))

entries_fit : (code_words place k : ℕ) (bytes : List ℕ) → length bytes ≡ 28 * k → IsBytes bytes
    → first_broken (entries_rules code_words place (entries_in bytes)) ≡ None → All (IsReadableEntry code_words) (map entry_in (entries_in bytes))
entries_fit code_words place k bytes len fits none =
    All-from_recursion (IsReadableEntry code_words) (map entry_in (entries_in bytes))
    (All-map entry_in (IsReadableEntry code_words) (entries_in bytes)
    (All-first_chunks 28 (length bytes / 28) (λ entry. first_broken (entry_rules code_words entry) ≡ None) (λ entry. IsReadableEntry code_words (entry_in entry))
    (λ entry size. entry_readable code_words entry) bytes (omega arith) fits (entries_kept code_words place (entries_in bytes) none)))

-- ---- the beginning

pub record IsBeginning (bytes : List ℕ) (counts : Counts) : Type 0 where
  pub magic_is : file_word bytes 0 ≡ magic
  pub version_is : file_word bytes 4 ≡ 1
  pub words_few : counts.words ≤ 16777216
  pub memory_few : counts.memory ≤ 16777216
  pub memory_whole : counts.memory % 4 ≡ 0
  pub sites_few : counts.sites ≤ 131072
  pub whole : length bytes ≡ file_bytes_of counts

memory_kept : (memory : ℕ) → (ltb 16777216 memory || not (eqb (memory % 4) 0)) ≡ false → (memory ≤ 16777216) × (memory % 4 ≡ 0)
memory_kept memory kept = (grind (arith, nat_tests), grind (arith, nat_tests))

equal_kept : (n m : ℕ) → not (eqb n m) ≡ false → n ≡ m
equal_kept n m kept = eqb-true n m (not-false (eqb n m) kept)

beginning_is : (bytes : List ℕ) → first_broken (header_rules bytes) ≡ None → IsBeginning bytes (counts_in bytes)
beginning_is bytes none =
    let rules = all_kept (header_rules bytes) none in
    let counts = rules.1.1.1 in
    let memory = memory_kept (counts_in bytes).memory counts.1.0 in
    let short = ltb-false _ _ counts.1.1.1.0 in
    let extra = ltb-false _ _ counts.1.1.1.1.0 in
    record {
      magic_is = equal_kept (file_word bytes 0) magic rules.1.0;
      version_is = equal_kept (file_word bytes 4) 1 rules.1.1.0;
      words_few = ltb-false _ _ counts.0;
      memory_few = memory.0;
      memory_whole = memory.1;
      sites_few = ltb-false _ _ counts.1.1.0;
      whole = omega arith;
    }

-- magic, version and counts, as they are spelled
abbrev header_of : (words memory sites : ℕ) → List ℕ
header_of words memory sites = codes "SATI" ++ word_bytes 1 ++ (word_bytes words ++ word_bytes memory ++ word_bytes sites)

header_spelled : (bytes : List ℕ) → IsBytes bytes → IsBeginning bytes (counts_in bytes)
    → header_of (file_word bytes 8) (file_word bytes 12) (file_word bytes 16) ≡ take 20 bytes
header_spelled bytes fits begins =
    let cells : cells_from 0 20 bytes ≡ take 20 bytes = cells_from-take 0 20 bytes (omega (arith, begins.whole)) in
    let first : word_bytes magic ≡ cells_from 0 4 bytes = ap word_bytes (sym begins.magic_is) ∙ word_bytes-file_word 0 bytes fits in
    let second : word_bytes 1 ≡ cells_from 4 4 bytes = ap word_bytes (sym begins.version_is) ∙ word_bytes-file_word 4 bytes fits in
    let third = word_bytes-file_word 8 bytes fits in
    let fourth = word_bytes-file_word 12 bytes fits in
    let fifth = word_bytes-file_word 16 bytes fits in
    cc

-- ---- the whole file

rejoined : (beginning code memory entries : List ℕ) → beginning ++ code ++ memory ++ entries ≡ beginning ++ (code ++ (memory ++ entries))
rejoined beginning code memory entries =
    append_assoc (beginning ++ code) memory entries ∙ append_assoc beginning code (memory ++ entries)

parts_joined : (counts : Counts) (bytes : List ℕ)
    → take 20 bytes ++ code_part counts bytes ++ memory_part counts bytes ++ entries_part counts bytes ≡ bytes
parts_joined counts bytes =
    rejoined (take 20 bytes) (code_part counts bytes) (memory_part counts bytes) (entries_part counts bytes)
    ∙ ap (λ rest. take 20 bytes ++ (code_part counts bytes ++ rest)) (take-append-drop counts.memory (drop (4 * counts.words) (drop 20 bytes)))
    ∙ ap (λ rest. take 20 bytes ++ rest) (take-append-drop (4 * counts.words) (drop 20 bytes))
    ∙ take-append-drop 20 bytes

same_joined : (a a' b b' c d d' : List ℕ) → a ≡ a' → b ≡ b' → d ≡ d' → a ++ b ++ c ++ d ≡ a' ++ b' ++ c ++ d'
same_joined a a' b b' c d d' p q r = rw (p, q, r) refl

pub record HaveLengths (counts : Counts) (bytes : List ℕ) : Type 0 where
  pub code : length (code_part counts bytes) ≡ 4 * counts.words
  pub memory : length (memory_part counts bytes) ≡ counts.memory
  pub entries : length (entries_part counts bytes) ≡ 28 * counts.sites

lengths_are : (counts : Counts) (bytes : List ℕ) → length bytes ≡ file_bytes_of counts → HaveLengths counts bytes
lengths_are counts bytes whole =
    let rest = length-drop 20 bytes in
    let after = length-drop (4 * counts.words) (drop 20 bytes) in
    record {
      code = omega (arith, length-take (4 * counts.words) (drop 20 bytes));
      memory = omega (arith, length-take counts.memory (drop (4 * counts.words) (drop 20 bytes)));
      entries = omega (arith, length-drop counts.memory (drop (4 * counts.words) (drop 20 bytes)));
    }

pub image_spelled : (bytes : List ℕ) → IsBytes bytes → first_broken (image_rules bytes) ≡ None → IsFileOf (image_in bytes) bytes
image_spelled bytes fits none =
    let counts = counts_in bytes in
    let code = code_part counts bytes in
    let memory = memory_part counts bytes in
    let entries = entries_part counts bytes in
    let rules = entries_rules counts.words (first_entry_of counts) (entries_in entries) in
    let both = or_none (first_broken (header_rules bytes)) (first_broken rules) (sym (first_broken-append (header_rules bytes) rules) ∙ none) in
    let begins = beginning_is bytes both.0 in
    let lengths = lengths_are counts bytes begins.whole in
    let code_fits = IsBytes-take (4 * counts.words) (drop 20 bytes) (IsBytes-drop 20 bytes fits) in
    let rest_fits = IsBytes-drop (4 * counts.words) (drop 20 bytes) (IsBytes-drop 20 bytes fits) in
    let memory_fits = IsBytes-take counts.memory (drop (4 * counts.words) (drop 20 bytes)) rest_fits in
    let entries_fits = IsBytes-drop counts.memory (drop (4 * counts.words) (drop 20 bytes)) rest_fits in
    let words_len : length (words_in code) ≡ counts.words =
    length-map (first_chunks 4 (length code / 4) code) (from_le_bytes w32) ∙ length-first_chunks 4 (length code / 4) code ∙ omega (arith, lengths.code) in
    let sites_len : length (map entry_in (entries_in entries)) ≡ counts.sites =
    length-map (entries_in entries) entry_in ∙ length-first_chunks 28 (length entries / 28) entries ∙ omega (arith, lengths.entries) in
    let header : header_of (length (words_in code)) (length memory) (length (map entry_in (entries_in entries))) ≡ take 20 bytes =
    rw (words_len, lengths.memory, sites_len) (header_spelled bytes fits begins) in
    record {
      readable = record {
        code_fits = omega (arith, words_len, begins.words_few);
        memory_fits = omega (arith, lengths.memory, begins.memory_few);
        memory_whole = ap (λ n. n % 4) lengths.memory ∙ begins.memory_whole;
        sites_fit = omega (arith, sites_len, begins.sites_few);
        words = words_fit counts.words code lengths.code code_fits;
        bytes = bytes_fit memory memory_fits;
        entries = subst (λ (n : ℕ). All (IsReadableEntry n) (map entry_in (entries_in entries))) (sym words_len)
            (entries_fit counts.words (first_entry_of counts) counts.sites entries lengths.entries entries_fits both.1);
      };
      spelled = sym (same_joined _ _ _ _ memory _ _ header (words_spelled counts.words code lengths.code code_fits)
          (entries_spelled counts.words (first_entry_of counts) counts.sites entries lengths.entries entries_fits both.1)
          ∙ parts_joined counts bytes);
    }
