-- The bytes of an image, version 1. Numbers are little-endian.
use Rattle.std.specs.Prelude.{ℕ, List, [], ◌∷◌, ◌++◌, length, codes}
use Rattle.std.specs.List.{flat_map}
use Rattle.byteorder.specs.Endian.{little_bytes}
use Rattle.image_format.specs.declared.image.Image.{Image}
use Rattle.image_format.specs.declared.image.SiteEntry.{SiteEntry}

-- a number of 4 bytes, and one of 2
abbrev pub word_bytes : ℕ → List ℕ
word_bytes n = little_bytes 4 n

abbrev pub half_bytes : ℕ → List ℕ
half_bytes n = little_bytes 2 n

-- how many words of code, bytes of data memory and sites there are
abbrev pub count_bytes : Image → List ℕ
count_bytes image = word_bytes (length image.code) ++ word_bytes (length image.memory) ++ word_bytes (length image.sites)

-- magic, version and counts
abbrev pub header_bytes : Image → List ℕ
header_bytes image = codes "SATI" ++ word_bytes 1 ++ count_bytes image

abbrev pub entry_bytes : SiteEntry → List ℕ
entry_bytes entry =
    word_bytes entry.first ++ word_bytes entry.line ++ word_bytes entry.col ++ word_bytes entry.bound ++ half_bytes entry.words
    ++ (entry.kind ∷ entry.form ∷ entry.guard ∷ entry.operands ∷ entry.result ∷ entry.reg_a ∷ entry.reg_b ∷ entry.reg_c ∷ 0 ∷ 0 ∷ [])

abbrev pub image_bytes : Image → List ℕ
image_bytes image = header_bytes image ++ flat_map word_bytes image.code ++ image.memory ++ flat_map entry_bytes image.sites
