-- How far the operands of a site have been emitted.
use Rattle.std.specs.Prelude.{◌≡◌, ℕ, ◌+◌, List, ◌++◌, drop}
use Rattle.operator_meaning.specs.declared.object.Object.{Object}
use Rattle.operator_meaning.specs.declared.site.SiteKind.{SiteKind}
use Rattle.ir_arena.specs.declared.node.Node.{Node}
use Rattle.ir_arena.specs.Placed.{trees_at}
use Rattle.code_entries.specs.Entries.{entries_of_operands}
use Rattle.code_pieces.specs.declared.piece.Piece.{Piece}
use Rattle.code_pieces.specs.Pieces.{all_entries, all_words}
use Rattle.code_stacks.specs.Places.{Layout}
use Rattle.expression_code.specs.Code.{operands_code, widths_of}

-- with the operands from this place on, the code is that of before with all operands
pub record IsLeft (objects : List Object) (l : Layout) (kind : SiteKind) (operands : List Node) (place depth : ℕ) (old now : List Piece) : Type 0 where
  pub as_words : all_words now ++ operands_code objects l (drop place (widths_of kind)) (trees_at (drop place operands)) (depth + place)
      ≡ all_words old ++ operands_code objects l (widths_of kind) (trees_at operands) depth
  pub as_entries : all_entries now ++ entries_of_operands (trees_at (drop place operands)) ≡ all_entries old ++ entries_of_operands (trees_at operands)
