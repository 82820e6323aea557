-- Which images the bytes of a file give back: the rules of version 1.
use Rattle.std.specs.Prelude.{◌≡◌, ◌≢◌, ◌≤◌, ◌<◌, ◌+◌, ◌^◌, ◌%◌, ℕ, All, length}
use Rattle.rv_encode.specs.Words.{IsRegister}
use Rattle.image_format.specs.declared.image.Image.{Image}
use Rattle.image_format.specs.declared.image.SiteEntry.{SiteEntry}

-- a number of 4 bytes
abbrev pub IsWord : ℕ → Type 0
IsWord number = number < 2 ^ 32

abbrev pub IsByte : ℕ → Type 0
IsByte number = number < 2 ^ 8

-- the most words of an entry, its greatest kind and form, and the kind that has a bound
abbrev pub most_entry_words : ℕ
most_entry_words = 96

abbrev pub greatest_kind : ℕ
greatest_kind = 36

abbrev pub greatest_form : ℕ
greatest_form = 2

abbrev pub bound_kind : ℕ
bound_kind = 33

-- an operand register that is not among the entry's operands, counted from 0, is 0
abbrev pub IsUnusedZero : SiteEntry → (place register : ℕ) → Type 0
IsUnusedZero entry place register = entry.operands ≤ place → register ≡ 0

-- an entry of an image whose code has this many words
pub record IsReadableEntry (code_words : ℕ) (entry : SiteEntry) : Type 0 where
  pub within : entry.first + entry.words ≤ code_words
  pub short : entry.words ≤ most_entry_words
  pub line : IsWord entry.line
  pub col : IsWord entry.col
  pub bound : IsWord entry.bound
  pub kind : entry.kind ≤ greatest_kind
  pub form : entry.form ≤ greatest_form
  pub guard : entry.guard ≤ 1
  pub operands : entry.operands ≤ 3
  pub result : IsRegister entry.result
  pub reg_a : IsRegister entry.reg_a
  pub reg_b : IsRegister entry.reg_b
  pub reg_c : IsRegister entry.reg_c
  pub unused_a : IsUnusedZero entry 0 entry.reg_a
  pub unused_b : IsUnusedZero entry 1 entry.reg_b
  pub unused_c : IsUnusedZero entry 2 entry.reg_c
  pub no_bound : entry.kind ≢ bound_kind → entry.bound ≡ 0

-- An image file has at most 16777216 words of code, at most 16777216 bytes of data memory in whole words, and at most
-- 131072 sites, whose entries keep the rules.
pub record IsReadable (image : Image) : Type 0 where
  pub code_fits : length image.code ≤ 16777216
  pub memory_fits : length image.memory ≤ 16777216
  pub memory_whole : length image.memory % 4 ≡ 0
  pub sites_fit : length image.sites ≤ 131072
  pub words : All IsWord image.code
  pub bytes : All IsByte image.memory
  pub entries : All (IsReadableEntry (length image.code)) image.sites
