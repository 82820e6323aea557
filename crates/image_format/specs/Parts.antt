-- The parts of an image file, version 1, and the image that they make. Numbers are little-endian.
use Rattle.std.specs.Prelude.{ℕ, ◌+◌, ◌*◌, ◌/◌, List, length, map, take, drop, slice_index}
use Rattle.std.specs.Int.{w16, w32, from_le_bytes}
use Rattle.std.specs.Simd.{first_chunks}
use Rattle.image_format.specs.declared.header.Counts.{Counts}
use Rattle.image_format.specs.declared.image.Image.{Image}
use Rattle.image_format.specs.declared.image.SiteEntry.{SiteEntry}

-- the number in the four bytes from a place on, and in two bytes
abbrev pub file_word : List ℕ → (place : ℕ) → ℕ
file_word bytes place = from_le_bytes w32 (drop place bytes)

abbrev pub file_half : List ℕ → (place : ℕ) → ℕ
file_half bytes place = from_le_bytes w16 (drop place bytes)

-- the counts that the beginning tells of
abbrev pub counts_in : List ℕ → Counts
counts_in bytes = record { words = file_word bytes 8; memory = file_word bytes 12; sites = file_word bytes 16 }

-- the place of the first entry, and the bytes of the whole file
abbrev pub first_entry_of : Counts → ℕ
first_entry_of counts = 20 + 4 * counts.words + counts.memory

abbrev pub file_bytes_of : Counts → ℕ
file_bytes_of counts = first_entry_of counts + 28 * counts.sites

-- code, data memory and entries stand one after the other behind the 20 bytes of the beginning
abbrev pub code_part : Counts → List ℕ → List ℕ
code_part counts bytes = take (4 * counts.words) (drop 20 bytes)

abbrev pub memory_part : Counts → List ℕ → List ℕ
memory_part counts bytes = take counts.memory (drop (4 * counts.words) (drop 20 bytes))

abbrev pub entries_part : Counts → List ℕ → List ℕ
entries_part counts bytes = drop counts.memory (drop (4 * counts.words) (drop 20 bytes))

-- the words in these bytes
abbrev pub words_in : List ℕ → List ℕ
words_in bytes = map (from_le_bytes w32) (first_chunks 4 (length bytes / 4) bytes)

-- the bytes of each entry, and an entry in its bytes
abbrev pub entries_in : List ℕ → List (List ℕ)
entries_in bytes = first_chunks 28 (length bytes / 28) bytes

abbrev pub entry_in : List ℕ → SiteEntry
entry_in bytes = record {
  first = file_word bytes 0;
  line = file_word bytes 4;
  col = file_word bytes 8;
  bound = file_word bytes 12;
  words = file_half bytes 16;
  kind = slice_index bytes 18;
  form = slice_index bytes 19;
  guard = slice_index bytes 20;
  operands = slice_index bytes 21;
  result = slice_index bytes 22;
  reg_a = slice_index bytes 23;
  reg_b = slice_index bytes 24;
  reg_c = slice_index bytes 25;
}

-- the image in the bytes of a file
abbrev pub image_in : List ℕ → Image
image_in bytes = let counts = counts_in bytes in record {
  code = words_in (code_part counts bytes);
  memory = memory_part counts bytes;
  sites = map entry_in (entries_in (entries_part counts bytes));
}
