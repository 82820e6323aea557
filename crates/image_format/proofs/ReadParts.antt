-- The parts of a file as they are cut off, one after the other.
use Rattle.std.proofs.Common.{◌≡◌, ℕ, ◌*◌, ◌-◌, Bool, List, map, take, drop, length, None, refl, sym, ap, subst, ◌∙◌}
use Rattle.std.proofs.lemmas.List.{take_rest}
use Rattle.image_format.specs.declared.header.Counts.{Counts}
use Rattle.image_format.specs.declared.image.Image.{Image}
use Rattle.image_format.specs.declared.image.SiteEntry.{SiteEntry}
use Rattle.image_format.specs.declared.refusal.ImageRefusal.{ImageRefusal}
use Rattle.image_format.specs.Parts.{counts_in, first_entry_of, code_part, memory_part, entries_part, words_in, entries_in, entry_in, image_in}
use Rattle.image_format.specs.Rules.{first_broken, header_rules, entries_rules, image_rules, TellsFirst}
use Rattle.image_format.proofs.Broken.{TellsFirst-later, first_broken-none}

-- counts of a beginning that keeps its rules, and the parts that they tell of
pub record AreParts (bytes : List ℕ) (counts : Counts) (code memory entries : List ℕ) : Type 0 where
  pub kept : first_broken (header_rules bytes) ≡ None
  pub counts_are : counts ≡ counts_in bytes
  pub code_is : code ≡ code_part counts bytes
  pub memory_is : memory ≡ memory_part counts bytes
  pub entries_are : entries ≡ entries_part counts bytes

-- the parts as two cuts give them
pub AreParts-cut : (bytes : List ℕ) (counts : Counts) (code rest memory entries : List ℕ) (n : ℕ)
    → (first_broken (header_rules bytes) ≡ None) × (counts ≡ counts_in bytes) → n ≡ 4 * counts.words
    → code ≡ take n (take (length bytes - 20) (drop 20 bytes)) → rest ≡ drop n (take (length bytes - 20) (drop 20 bytes)) → memory ≡ take counts.memory rest → entries ≡ drop counts.memory rest
    → AreParts bytes counts code memory entries
AreParts-cut bytes counts code rest memory entries n header size front back front' back' =
    let whole = take_rest bytes 20 in
    record { kept = header.0; counts_are = header.1; code_is = cc; memory_is = cc; entries_are = cc }

-- the rules of the entries, as the file has them
abbrev pub rules_at : List ℕ → Counts → List (Bool × ImageRefusal)
rules_at bytes counts = entries_rules counts.words (first_entry_of counts) (entries_in (entries_part counts bytes))

pub TellsFirst-entries : (bytes : List ℕ) (counts : Counts) (code memory entries : List ℕ) (refusal : ImageRefusal) → AreParts bytes counts code memory entries
    → TellsFirst (entries_rules counts.words (first_entry_of counts) (entries_in entries)) refusal → TellsFirst (image_rules bytes) refusal
TellsFirst-entries bytes counts code memory entries refusal parts refused =
    TellsFirst-later (header_rules bytes) (rules_at bytes (counts_in bytes)) refusal parts.kept
    (subst (λ (told : Counts). TellsFirst (rules_at bytes told) refusal) parts.counts_are
    (subst (λ (part : List ℕ). TellsFirst (entries_rules counts.words (first_entry_of counts) (entries_in part)) refusal) parts.entries_are refused))

-- the image that parts of these counts make
abbrev pub made : List ℕ → Counts → Image
made bytes counts = record {
  code = words_in (code_part counts bytes);
  memory = memory_part counts bytes;
  sites = map entry_in (entries_in (entries_part counts bytes));
}

pub Judges-image : (bytes : List ℕ) (counts : Counts) (code memory entries words kept : List ℕ) (sites : List SiteEntry) → AreParts bytes counts code memory entries
    → words ≡ words_in code → kept ≡ memory
    → (first_broken (entries_rules counts.words (first_entry_of counts) (entries_in entries)) ≡ None) × (sites ≡ map entry_in (entries_in entries))
    → (first_broken (image_rules bytes) ≡ None) × (record { code = words; memory = kept; sites = sites } ≡ image_in bytes)
Judges-image bytes counts code memory entries words kept sites parts words_are kept_is entries_are =
    let rest : first_broken (rules_at bytes counts) ≡ None =
    ap (λ (part : List ℕ). first_broken (entries_rules counts.words (first_entry_of counts) (entries_in part))) (sym parts.entries_are) ∙ entries_are.0 in
    let later : first_broken (rules_at bytes (counts_in bytes)) ≡ None =
    ap (λ (told : Counts). first_broken (rules_at bytes told)) (sym parts.counts_are) ∙ rest in
    let code_is = words_are ∙ ap words_in parts.code_is in
    let memory_is = kept_is ∙ parts.memory_is in
    let sites_are = entries_are.1 ∙ ap (λ (part : List ℕ). map entry_in (entries_in part)) parts.entries_are in
    let image : Image = record { code = words; memory = kept; sites = sites } in
    let image_is : image ≡ made bytes counts = rw (code_is, memory_is, sites_are) refl in
    (first_broken-none (header_rules bytes) (rules_at bytes (counts_in bytes)) parts.kept later, image_is ∙ ap (made bytes) parts.counts_are)
