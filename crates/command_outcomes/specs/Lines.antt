-- The lines that are put to the sink, each with its line feed; those of refused sources are the compiler's.
use Rattle.std.specs.Prelude.{ℕ, List, [], ◌∷◌, ◌++◌, codes}
use Rattle.std.specs.Fmt.{decimal}

abbrev pub line_feed : List ℕ
line_feed = 10 ∷ []

abbrev pub sites_line : ℕ → List ℕ
sites_line count = codes "sites " ++ decimal count ++ line_feed

abbrev pub usage_line : List ℕ
usage_line = codes "usage: satc build SRC IMG" ++ line_feed

abbrev pub memory_line : List ℕ
memory_line = codes "out of memory" ++ line_feed

abbrev pub missing_line : List ℕ → List ℕ
missing_line name = codes "missing " ++ name ++ line_feed

abbrev pub cannot_read_line : List ℕ → List ℕ
cannot_read_line name = codes "cannot read " ++ name ++ line_feed

abbrev pub cannot_write_line : List ℕ → List ℕ
cannot_write_line name = codes "cannot write " ++ name ++ line_feed

abbrev pub going_line : List ℕ
going_line = codes "going" ++ line_feed
