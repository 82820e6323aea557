-- Places in a text. Lines end at line feeds, columns count bytes, and both count from 1.
use Rattle.std.specs.Prelude.{ℕ, ◌+◌, List, ◌==◌, if◌then◌else◌, fold}
use Rattle.sat_base.specs.declared.position.Pos.{Pos}

abbrev pub first_position : Pos
first_position = record { line = 1; col = 1 }

-- the place after one more byte
abbrev pub after_byte : Pos → ℕ → Pos
after_byte at byte =
    if byte == 10 then record { line = at.line + 1; col = 1 } else record { line = at.line; col = at.col + 1 }

-- the place of what follows these bytes
abbrev pub position_after : List ℕ → Pos
position_after text = fold after_byte first_position text
