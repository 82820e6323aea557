-- An entry is spelled as it is read, and read as it is spelled.
use Rattle.std.proofs.Common.{◌≡◌, ◌≢◌, ℕ, ◌<◌, ◌≤◌, Bool, true, false, not, ◌&&◌, ◌||◌, eqb, ltb, leb, List, [], ◌∷◌, ◌++◌, get_or, length, None, refl, ap, ◌∙◌, arith}
use Rattle.std.specs.List.{AllByRecursion}
use Rattle.std.proofs.lemmas.Bool.{not-false, ltb-false, le-ltb, eqb-true}
use Rattle.std.proofs.lemmas.Bool.Decides.{nat_tests}
use Rattle.std.proofs.lemmas.List.{take_all}
use Rattle.std.proofs.lemmas.Nat.{from_le_bytes-to_le_bytes_2, from_le_bytes-to_le_bytes_4}
use Rattle.image_format.specs.declared.image.SiteEntry.{SiteEntry}
use Rattle.image_format.specs.ImageBytes.{entry_bytes}
use Rattle.image_format.specs.Readable.{IsReadableEntry, bound_kind}
use Rattle.image_format.specs.Parts.{entry_in}
use Rattle.image_format.specs.Rules.{first_broken, place_rules, choice_rules, register_rules, spare_rules, entry_rules}
use Rattle.image_format.proofs.Chunks.{IsBytes}
use Rattle.image_format.proofs.Cells.{cells_from, cells_from-take, word_bytes-file_word, half_bytes-file_half, file_word-fits}

-- ---- rules that are kept

pub all_kept : {A : Type 0} (rules : List (Bool × A)) → first_broken rules ≡ None → AllByRecursion (λ rule. rule.0 ≡ false) rules
all_kept [] kept = tt
all_kept ((true, told) ∷ rules) kept = absurd cc
all_kept ((false, told) ∷ rules) kept = (refl, all_kept rules kept)

pub none_broken : {A : Type 0} (rules : List (Bool × A)) → AllByRecursion (λ rule. rule.0 ≡ false) rules → first_broken rules ≡ None
none_broken [] kept = refl
none_broken ((true, told) ∷ rules) kept = absurd cc
none_broken ((false, told) ∷ rules) kept = none_broken rules kept.1

operand_kept : (operands place register : ℕ) → (ltb 31 register || (leb operands place && not (eqb register 0))) ≡ false
    → (register < 32) × (operands ≤ place → register ≡ 0)
operand_kept operands place register kept = (grind (arith, nat_tests), λ unused. grind (arith, nat_tests))

operand_keeps : (operands place register : ℕ) → register < 32 → (operands ≤ place → register ≡ 0)
    → (ltb 31 register || (leb operands place && not (eqb register 0))) ≡ false
operand_keeps operands place register fits unused = grind (arith, nat_tests)

bound_kept : (bound kind : ℕ) → (not (eqb bound 0) && not (eqb kind bound_kind)) ≡ false → kind ≢ bound_kind → bound ≡ 0
bound_kept bound kind kept other = grind (arith, nat_tests)

bound_keeps : (bound kind : ℕ) → (kind ≢ bound_kind → bound ≡ 0) → (not (eqb bound 0) && not (eqb kind bound_kind)) ≡ false
bound_keeps bound kind unused = grind (arith, nat_tests)

register_fits : (register : ℕ) → ltb 31 register ≡ false → register < 32
register_fits register kept = let fits = ltb-false 31 register kept in omega arith

register_keeps : (register : ℕ) → register < 32 → ltb 31 register ≡ false
register_keeps register fits = le-ltb 31 register (omega arith)

zero_kept : (n : ℕ) → not (eqb n 0) ≡ false → n ≡ 0
zero_kept n kept = eqb-true n 0 (not-false (eqb n 0) kept)

-- ---- an entry that is read

pub entry_spelled : (code_words : ℕ) (bytes : List ℕ) → length bytes ≡ 28 → IsBytes bytes → first_broken (entry_rules code_words bytes) ≡ None
    → entry_bytes (entry_in bytes) ≡ bytes
entry_spelled code_words bytes len fits kept =
    let rules = all_kept (entry_rules code_words bytes) kept in
    let whole : cells_from 0 28 bytes ≡ bytes = cells_from-take 0 28 bytes (omega arith) ∙ take_all 28 bytes (omega arith) in
    let first = word_bytes-file_word 0 bytes fits in
    let line = word_bytes-file_word 4 bytes fits in
    let col = word_bytes-file_word 8 bytes fits in
    let bound = word_bytes-file_word 12 bytes fits in
    let words = half_bytes-file_half 16 bytes fits in
    let registers = rules.1.1.1.1.1.1.1 in
    let spare = registers.1.1.1.1 in
    let last = zero_kept (get_or bytes 26 0) spare.0 in
    let very_last = zero_kept (get_or bytes 27 0) spare.1.0 in
    cc

pub entry_readable : (code_words : ℕ) (bytes : List ℕ) → IsBytes bytes → first_broken (entry_rules code_words bytes) ≡ None
    → IsReadableEntry code_words (entry_in bytes)
entry_readable code_words bytes fits kept =
    let entry = entry_in bytes in
    let place = all_kept (entry_rules code_words bytes) kept in
    let choice = place.1.1.1 in
    let register = choice.1.1.1.1 in
    let a = operand_kept entry.operands 0 entry.reg_a register.1.0 in
    let b = operand_kept entry.operands 1 entry.reg_b register.1.1.0 in
    let c = operand_kept entry.operands 2 entry.reg_c register.1.1.1.0 in
    record {
      within = ltb-false _ _ place.0;
      short = ltb-false _ _ place.1.1.0;
      line = file_word-fits 4 bytes fits;
      col = file_word-fits 8 bytes fits;
      bound = file_word-fits 12 bytes fits;
      kind = ltb-false _ _ choice.0;
      form = ltb-false _ _ choice.1.0;
      guard = ltb-false _ _ choice.1.1.0;
      operands = ltb-false _ _ choice.1.1.1.0;
      result = register_fits entry.result register.0;
      reg_a = a.0;
      reg_b = b.0;
      reg_c = c.0;
      unused_a = a.1;
      unused_b = b.1;
      unused_c = c.1;
      no_bound = bound_kept entry.bound entry.kind place.1.0;
    }

-- ---- an entry that is written

abbrev entry_with : SiteEntry → (first line col bound words : ℕ) → SiteEntry
entry_with entry first line col bound words = record entry { first = first; line = line; col = col; bound = bound; words = words }

entry_with_same : (entry : SiteEntry) (first line col bound words : ℕ) → first ≡ entry.first → line ≡ entry.line → col ≡ entry.col
    → bound ≡ entry.bound → words ≡ entry.words → entry_with entry first line col bound words ≡ entry
entry_with_same entry first line col bound words p q r s t = rw (p, q, r, s, t) refl

pub entry_again : (code_words : ℕ) (entry : SiteEntry) → code_words ≤ 16777216 → IsReadableEntry code_words entry → entry_in (entry_bytes entry) ≡ entry
entry_again code_words entry few readable =
    let first = from_le_bytes-to_le_bytes_4 entry.first (omega (arith, readable.within)) in
    let line = from_le_bytes-to_le_bytes_4 entry.line readable.line in
    let col = from_le_bytes-to_le_bytes_4 entry.col readable.col in
    let bound = from_le_bytes-to_le_bytes_4 entry.bound readable.bound in
    let words = from_le_bytes-to_le_bytes_2 entry.words (omega (arith, readable.short)) in
    entry_with_same entry _ _ _ _ _ first line col bound words

pub entry_keeps : (code_words : ℕ) (entry : SiteEntry) → code_words ≤ 16777216 → IsReadableEntry code_words entry
    → first_broken (entry_rules code_words (entry_bytes entry)) ≡ None
entry_keeps code_words entry few readable =
    ap (λ (e : SiteEntry). first_broken (place_rules code_words e ++ choice_rules e ++ register_rules e ++ spare_rules (entry_bytes entry)))
    (entry_again code_words entry few readable)
    ∙ none_broken (place_rules code_words entry ++ choice_rules entry ++ register_rules entry ++ spare_rules (entry_bytes entry)) (
      le-ltb _ _ readable.within,
      (
        bound_keeps entry.bound entry.kind readable.no_bound,
        (
          le-ltb _ _ readable.short,
          (
            le-ltb _ _ readable.kind,
            (
              le-ltb _ _ readable.form,
              (
                le-ltb _ _ readable.guard,
                (
                  le-ltb _ _ readable.operands,
                  (
                    register_keeps entry.result readable.result,
                    (
                      operand_keeps entry.operands 0 entry.reg_a readable.reg_a readable.unused_a,
                      (
                        operand_keeps entry.operands 1 entry.reg_b readable.reg_b readable.unused_b,
                        (
                          operand_keeps entry.operands 2 entry.reg_c readable.reg_c readable.unused_c,
                          (refl, (refl, tt)),
                        ),
                      ),
                    ),
                  ),
                ),
              ),
            ),
          ),
        ),
      ),
    )
