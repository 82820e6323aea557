-- The pieces of which code is made: single words of its own, and the templates of sites.
use Rattle.std.specs.Prelude.{◌≡◌, ℕ, zero, suc, ◌≤◌, List, [], ◌∷◌, ◌++◌, flat_map, length, All}
use Rattle.operator_meaning.specs.declared.site.Guard.TheVariants.{Kept}
use Rattle.operator_meaning.specs.declared.site.SiteKind.{SiteKind}
use Rattle.template_runs.specs.declared.registers.Registers.{Registers}
use Rattle.operator_lowering.specs.Sites.{operand_count}
use Rattle.operator_lowering.specs.Template.{ArePlaces}
use Rattle.operator_lowering.specs.Words.{template_words}
use Rattle.code_lines.specs.declared.word.Word.{Word}
use Rattle.code_lines.specs.declared.word.Word.TheVariants.{Own}
use Rattle.code_lines.specs.Words.{template_of}
use Rattle.expression_code.specs.Code.{form_of}
use Rattle.code_pieces.specs.declared.piece.Entry.{Entry}
use Rattle.code_pieces.specs.declared.piece.Piece.{Piece}
use Rattle.code_pieces.specs.declared.piece.Piece.TheVariants.{Single, Template}

-- no site is without its guard
abbrev pub words_of : Piece → List Word
words_of (Single instr) = Own instr ∷ []
words_of (Template entry regs) = template_of entry.site (template_words entry.kind (form_of entry.kind) Kept entry.site regs)

abbrev pub entries_of : Piece → List Entry
entries_of (Single instr) = []
entries_of (Template entry regs) = entry ∷ []

abbrev pub all_words : List Piece → List Word
all_words pieces = flat_map words_of pieces

abbrev pub all_entries : List Piece → List Entry
all_entries pieces = flat_map entries_of pieces

-- ---- code that grows

-- what is appended has these words, and these entries of sites
pub record Appends (old new : List Piece) (words : List Word) (entries : List Entry) : Type 0 where
  pub as_words : all_words new ≡ all_words old ++ words
  pub as_entries : all_entries new ≡ all_entries old ++ entries

-- what is appended has these words, and no site
pub record Extends (old new : List Piece) (words : List Word) : Type 0 where
  pub as_words : all_words new ≡ all_words old ++ words
  pub as_entries : all_entries new ≡ all_entries old

-- the pieces have these words, and these entries of sites
pub record Consists (pieces : List Piece) (words : List Word) (entries : List Entry) : Type 0 where
  pub as_words : all_words pieces ≡ words
  pub as_entries : all_entries pieces ≡ entries

-- ---- what holds of the pieces of a code

-- a place that a site does not have names the register of the result
abbrev pub AreUsed : (count : ℕ) → Registers → Type 0
AreUsed zero regs = (regs.first ≡ regs.result) × (regs.second ≡ regs.result) × (regs.third ≡ regs.result)
AreUsed (suc zero) regs = (regs.second ≡ regs.result) × (regs.third ≡ regs.result)
AreUsed (suc (suc zero)) regs = regs.third ≡ regs.result
AreUsed (suc (suc (suc count))) regs = Unit {0}

-- the registers of a site of this kind
pub record AreSiteRegisters (kind : SiteKind) (regs : Registers) : Type 0 where
  pub places : ArePlaces regs
  pub used : AreUsed (operand_count kind) regs

abbrev pub IsLowered : Piece → Type 0
IsLowered (Single instr) = Unit {0}
IsLowered (Template entry regs) = AreSiteRegisters entry.kind regs

abbrev pub most_words : ℕ
most_words = 16777216

-- so many words they have, which are not too many
pub record IsCode (pieces : List Piece) (words : ℕ) : Type 0 where
  pub count : words ≡ length (all_words pieces)
  pub few : words ≤ most_words
  pub lowered : All IsLowered pieces
