-- Of which pieces words are made.
use Rattle.std.specs.Prelude.{◌≡◌, List, flat_map}
use Rattle.code_lines.specs.declared.word.Word.{Word}
use Rattle.code_pieces.specs.declared.piece.Entry.{Entry}
use Rattle.code_pieces.specs.declared.piece.Piece.{Piece}
use Rattle.code_pieces.specs.Pieces.{entries_of, words_of}

-- words that are made of pieces, of which the templates are those of these entries, in their order
pub record IsMade (words : List Word) (entries : List Entry) : Type 0 where
  pub pieces : List Piece
  pub as_words : flat_map words_of pieces ≡ words
  pub as_entries : flat_map entries_of pieces ≡ entries
