-- The lines that tell of runs, each with its line feed.
use Rattle.std.specs.Prelude.{ℕ, ◌/◌, ◌%◌, ◌^◌, ℤ, ◌==◌, ◌&&◌, nat_le, if◌then◌else◌, List, [], ◌∷◌, ◌++◌, Option, Some, None, slice_get, codes}
use Rattle.std.specs.Fmt.{decimal, signed_decimal, digit_glyph}
use Rattle.std.specs.Prelude.{false}
use Rattle.image_format.specs.declared.image.SiteEntry.{SiteEntry}
use Rattle.image_format.specs.declared.refusal.ImageRefusal.{ImageRefusal}
use Rattle.image_format.specs.declared.refusal.ImageRefusal.TheVariants as image
use Rattle.operator_meaning.specs.declared.object.Site.{Site}
use Rattle.operator_meaning.specs.declared.operator.Op.TheVariants.{DivS}
use Rattle.operator_meaning.specs.declared.site.SiteKind.TheVariants.{Call}
use Rattle.sat_base.specs.declared.machine_fault.MachineFault.{MachineFault}
use Rattle.sat_base.specs.declared.machine_fault.MachineFault.TheVariants as fault
use Rattle.sat_compile.specs.Promise.{kind_number}
use Rattle.command_outcomes.specs.Lines.{line_feed, memory_line}

abbrev pub end_line : (overflow : ℤ) (count : ℕ) → List ℕ
end_line overflow count = codes "end " ++ signed_decimal overflow ++ codes " " ++ decimal count ++ line_feed

-- ---- stops

-- how a site of this kind stops, by the kind's number in an image; an operator that always has a value does not
abbrev pub stop_words : ℕ → Option (List ℕ)
stop_words kind =
    if kind == kind_number (Call DivS) then Some (codes "division")
    else (if nat_le 29 kind && nat_le kind 32 then Some (codes "arithmetic")
    else (if nat_le 33 kind && nat_le kind 35 then Some (codes "index")
    else (if kind == 36 then Some (codes "input") else None)))

abbrev pub unknown_words : List ℕ
unknown_words = codes " unknown"

-- a place, and how it stops there
abbrev pub words_at : (line col : ℕ) → Option (List ℕ) → List ℕ
words_at line col None = unknown_words
words_at line col (Some words) = codes " " ++ decimal line ++ codes ":" ++ decimal col ++ codes " " ++ words

abbrev pub stop_line : (site : ℕ) (words : List ℕ) → List ℕ
stop_line site words = codes "stop " ++ decimal site ++ words ++ line_feed

-- the place and the kind of a stop of an image, where it has an entry of such a site
abbrev pub entry_words : Option SiteEntry → List ℕ
entry_words None = unknown_words
entry_words (Some entry) = words_at entry.line entry.col (stop_words entry.kind)

abbrev pub image_stop_line : List SiteEntry → (site : ℕ) → List ℕ
image_stop_line sites site = stop_line site (entry_words (slice_get sites site))

-- the place and the kind of a stop of a source, where it has such a site
abbrev pub site_words : Option Site → List ℕ
site_words None = unknown_words
site_words (Some site) = words_at site.pos.line site.pos.col (stop_words (kind_number site.kind))

abbrev pub source_stop_line : List Site → (site : ℕ) → List ℕ
source_stop_line sites site = stop_line site (site_words (slice_get sites site))

-- ---- faults of the machine

abbrev pub fault_words : MachineFault → List ℕ
fault_words fault.Word = codes "word"
fault_words fault.Fetch = codes "fetch"
fault_words fault.Jump = codes "jump"
fault_words fault.Load = codes "load"
fault_words fault.Store = codes "store"
fault_words fault.Align = codes "align"
fault_words fault.Break = codes "break"
fault_words fault.Call = codes "call"
fault_words fault.Input = codes "input"

-- the digit of a number at a place from the right, in base 16
abbrev pub hexadecimal_digit : ℕ → (place : ℕ) → ℕ
hexadecimal_digit number place = digit_glyph false (number / 16 ^ place % 16)

-- eight digits in base 16
abbrev pub word_digits : ℕ → List ℕ
word_digits number =
    hexadecimal_digit number 7 ∷ hexadecimal_digit number 6 ∷ hexadecimal_digit number 5 ∷ hexadecimal_digit number 4
    ∷ hexadecimal_digit number 3 ∷ hexadecimal_digit number 2 ∷ hexadecimal_digit number 1 ∷ digit_glyph false (number % 16) ∷ []

abbrev pub fault_line : (pc : ℕ) → MachineFault → List ℕ
fault_line pc kind = codes "fault " ++ word_digits pc ++ codes " " ++ fault_words kind ++ line_feed

-- ---- files that are not what they should be

abbrev pub image_line : ImageRefusal → List ℕ
image_line (image.Short at) = codes "image short at " ++ decimal at ++ line_feed
image_line image.Magic = codes "image magic" ++ line_feed
image_line (image.Version number) = codes "image version " ++ decimal number ++ line_feed
image_line (image.Shape at) = codes "image shape at " ++ decimal at ++ line_feed
image_line (image.Extra at) = codes "image extra at " ++ decimal at ++ line_feed
image_line image.Memory = memory_line

abbrev pub long_samples_line : List ℕ
long_samples_line = codes "samples too long" ++ line_feed

abbrev pub odd_samples_line : List ℕ
odd_samples_line = codes "samples odd" ++ line_feed
