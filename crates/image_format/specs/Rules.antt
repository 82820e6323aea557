-- The rules of an image file, version 1, in the order in which they are judged. A file is refused for the first of them
-- that it breaks.
use Rattle.std.specs.Prelude.{◌≡◌, ℕ, ◌+◌, ◌%◌, Bool, not, ◌&&◌, ◌||◌, ◌==◌, nat_le, nat_lt, if◌then◌else◌, List, [], ◌∷◌, ◌++◌, length, map, slice_index, Option, Some, None, Result, Ok, Err, codes}
use Rattle.std.specs.Int.{w32, from_le_bytes}
use Rattle.image_format.specs.declared.header.Counts.{Counts}
use Rattle.image_format.specs.declared.image.SiteEntry.{SiteEntry}
use Rattle.image_format.specs.declared.refusal.ImageRefusal.{ImageRefusal}
use Rattle.image_format.specs.declared.refusal.ImageRefusal.TheVariants.{Short, Magic, Version, Shape, Extra, Memory}
use Rattle.image_format.specs.Readable.{most_entry_words, greatest_kind, greatest_form, bound_kind}
use Rattle.image_format.specs.Parts.{file_word, counts_in, first_entry_of, file_bytes_of, entries_part, entries_in, entry_in}

-- A rule is whether it is broken, and what is told then. What is told of the first rule that is broken:
abbrev pub first_broken : {A : Type 0} → List (Bool × A) → Option A
first_broken [] = None
first_broken (rule ∷ rules) = if rule.0 then Some rule.1 else first_broken rules

-- ---- the beginning and the length

-- the number that the bytes of the magic spell
abbrev pub magic : ℕ
magic = from_le_bytes w32 (codes "SATI")

abbrev pub beginning_rules : List ℕ → List (Bool × ImageRefusal)
beginning_rules bytes =
    (nat_lt (length bytes) 20, Short (length bytes))
    ∷ (not (file_word bytes 0 == magic), Magic)
    ∷ (not (file_word bytes 4 == 1), Version (file_word bytes 4))
    ∷ []

abbrev pub count_rules : Counts → List (Bool × ImageRefusal)
count_rules counts =
    (nat_lt 16777216 counts.words, Shape 8)
    ∷ (nat_lt 16777216 counts.memory || not (counts.memory % 4 == 0), Shape 12)
    ∷ (nat_lt 131072 counts.sites, Shape 16)
    ∷ []

abbrev pub length_rules : (file_bytes : ℕ) → (length : ℕ) → List (Bool × ImageRefusal)
length_rules file_bytes given =
    (nat_lt given file_bytes, Short given)
    ∷ (nat_lt file_bytes given, Extra file_bytes)
    ∷ []

-- magic, version and counts
abbrev pub told_rules : List ℕ → List (Bool × ImageRefusal)
told_rules bytes = beginning_rules bytes ++ count_rules (counts_in bytes)

abbrev pub header_rules : List ℕ → List (Bool × ImageRefusal)
header_rules bytes =
    told_rules bytes ++ length_rules (file_bytes_of (counts_in bytes)) (length bytes)

-- ---- the entries: what is told is the offset of the wrong field

abbrev pub place_rules : (code_words : ℕ) → SiteEntry → List (Bool × ℕ)
place_rules code_words entry =
    (nat_lt code_words (entry.first + entry.words), 0)
    ∷ (not (entry.bound == 0) && not (entry.kind == bound_kind), 12)
    ∷ (nat_lt most_entry_words entry.words, 16)
    ∷ []

abbrev pub choice_rules : SiteEntry → List (Bool × ℕ)
choice_rules entry =
    (nat_lt greatest_kind entry.kind, 18)
    ∷ (nat_lt greatest_form entry.form, 19)
    ∷ (nat_lt 1 entry.guard, 20)
    ∷ (nat_lt 3 entry.operands, 21)
    ∷ []

-- an operand's register is none that there is, or it is not 0 though the entry has no operand at its place
abbrev pub is_wrong_operand : SiteEntry → (place register : ℕ) → Bool
is_wrong_operand entry place register = nat_lt 31 register || (nat_le entry.operands place && not (register == 0))

abbrev pub register_rules : SiteEntry → List (Bool × ℕ)
register_rules entry =
    (nat_lt 31 entry.result, 22)
    ∷ (is_wrong_operand entry 0 entry.reg_a, 23)
    ∷ (is_wrong_operand entry 1 entry.reg_b, 24)
    ∷ (is_wrong_operand entry 2 entry.reg_c, 25)
    ∷ []

-- the two bytes at the end are 0
abbrev pub spare_rules : List ℕ → List (Bool × ℕ)
spare_rules bytes =
    (not (slice_index bytes 26 == 0), 26)
    ∷ (not (slice_index bytes 27 == 0), 27)
    ∷ []

abbrev pub entry_rules : (code_words : ℕ) → List ℕ → List (Bool × ℕ)
entry_rules code_words bytes = let entry = entry_in bytes in
    place_rules code_words entry ++ choice_rules entry ++ register_rules entry ++ spare_rules bytes

-- the rule of an entry at a place of the file
abbrev pub shape_from : (place : ℕ) → Bool × ℕ → Bool × ImageRefusal
shape_from place rule = (rule.0, Shape (place + rule.1))

-- entry by entry, the first of which stands at this place
abbrev pub entries_rules : (code_words place : ℕ) → List (List ℕ) → List (Bool × ImageRefusal)
entries_rules code_words place [] = []
entries_rules code_words place (entry ∷ entries) =
    map (shape_from place) (entry_rules code_words entry) ++ entries_rules code_words (place + 28) entries

-- ---- the whole file

abbrev pub image_rules : List ℕ → List (Bool × ImageRefusal)
image_rules bytes = let counts = counts_in bytes in
    header_rules bytes ++ entries_rules counts.words (first_entry_of counts) (entries_in (entries_part counts bytes))

-- why a file is refused, where it breaks a rule
abbrev pub first_refusal : List ℕ → Option ImageRefusal
first_refusal bytes = first_broken (image_rules bytes)

-- What is refused by rules: what is told of the first that is broken. Want of memory may be told at any time.
abbrev pub TellsFirst : List (Bool × ImageRefusal) → ImageRefusal → Type 0
TellsFirst rules Memory = Unit {0}
TellsFirst rules refusal = first_broken rules ≡ Some refusal

-- what is answered by rules: the value where none is broken
abbrev pub Judges : {A : Type 0} → List (Bool × ImageRefusal) → (value : A) → Result A ImageRefusal → Type 0
Judges rules value (Ok given) = (first_broken rules ≡ None) × (given ≡ value)
Judges rules value (Err refusal) = TellsFirst rules refusal

-- the entries in these bytes, by their rules
abbrev pub JudgesEntries : Counts → List ℕ → Result (List SiteEntry) ImageRefusal → Type 0
JudgesEntries counts bytes result =
    Judges (entries_rules counts.words (first_entry_of counts) (entries_in bytes)) (map entry_in (entries_in bytes)) result
