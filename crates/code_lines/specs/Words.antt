-- The words of emitted code: words of its own, and those of sites.
use Rattle.std.specs.Prelude.{◌≡◌, ℕ, ◌+◌, ◌≤◌, Bool, List, [], ◌∷◌, length, map, Option, Some, None, slice_get}
use Rattle.rv_encode.specs.declared.instruction.Instr.{Instr}
use Rattle.rv_encode.specs.Words.{Fits, encoded}
use Rattle.code_lines.specs.declared.word.Word.{Word}
use Rattle.code_lines.specs.declared.word.Word.TheVariants.{Own, First, Further}

abbrev pub instr_of : Word → Instr
instr_of (Own instr) = instr
instr_of (First site instr) = instr
instr_of (Further instr) = instr

-- the site of which it is the first word
abbrev pub begun_by : Word → Option ℕ
begun_by (Own instr) = None
begun_by (First site instr) = Some site
begun_by (Further instr) = None

-- the words of a site
abbrev pub template_of : (site : ℕ) → List Instr → List Word
template_of site [] = []
template_of site (instr ∷ instrs) = First site instr ∷ map Further instrs

-- A code: its words, the site that each begins, and the sites that have no words.
pub record Code : Type 0 where
  pub words : List ℕ
  pub begins : ℕ → Option ℕ
  pub is_wordless : ℕ → Bool

-- a word stands in the code as the word of this number, with fields in the ranges of its format
pub record IsStanding (code : Code) (k : ℕ) (word : Word) : Type 0 where
  pub fit : Fits (instr_of word)
  pub stand : slice_get code.words k ≡ Some (encoded (instr_of word))
  pub begun : code.begins k ≡ begun_by word

abbrev pub AreStanding : Code → ℕ → List Word → Type 0
AreStanding code k [] = Unit {0}
AreStanding code k (word ∷ words) = IsStanding code k word × AreStanding code (k + 1) words

-- words stand in the code from the word of this number on
pub record StandHere (code : Code) (k : ℕ) (words : List Word) : Type 0 where
  pub stand : AreStanding code k words
  pub within : k + length words ≤ 16777216
