-- Which texts are accepted as sources, and which images are made of them.
use Rattle.std.specs.Prelude.{◌≡◌, ◌≤◌, ℕ, List, length}
use Rattle.sat_base.specs.declared.limits.TheConstants.{SOURCE_BYTES, DEPTH}
use Rattle.c_lexer.specs.declared.token.Tokens.{Tokens}
use Rattle.c_lexer.specs.Text.{IsCut}
use Rattle.c_tree.specs.declared.program.Program.{Program}
use Rattle.c_tree.specs.Depth.{depth_of}
use Rattle.c_typed.specs.declared.typed.Typed.{Typed}
use Rattle.c_grammar.specs.Programs.{Spells}
use Rattle.first_form.specs.declared.first.First.{First}
use Rattle.first_form.specs.Form.{IsFirst}
use Rattle.image_format.specs.declared.image.Image.{Image}
use Rattle.sat_compile.specs.Checked.{IsChecked}
use Rattle.sat_compile.specs.FirstSource.{source_of}
use Rattle.sat_compile.specs.Promise.{Compiles}
use Rattle.sat_compile.specs.Source.{Source}

-- the text is within the length of a source and keeps the lexical rules, and these are its tokens
pub record HasTokens (text : List ℕ) (tokens : Tokens) : Type 0 where
  pub short : length text ≤ SOURCE_BYTES
  pub cut : IsCut text tokens

-- the tokens of the text spell this tree, which is within the depth of a source
pub record HasTree (text : List ℕ) (program : Program) : Type 0 where
  pub tokens : Tokens
  pub has : HasTokens text tokens
  pub spelled : Spells program tokens
  pub shallow : depth_of program ≤ DEPTH

-- the text is that of a source: its tree has no fault, these are its tied names, and no function reaches itself
pub record IsSource (text : List ℕ) (typed : Typed) (functions : List ℕ) : Type 0 where
  pub program : Program
  pub tree : HasTree text program
  pub checked : IsChecked program typed functions

-- the text is accepted, and this is its source, which has the first form
pub record IsAccepted (text : List ℕ) (source : Source) : Type 0 where
  pub program : Program
  pub tree : HasTree text program
  pub typed : Typed
  pub functions : List ℕ
  pub checked : IsChecked program typed functions
  pub first : First
  pub form : IsFirst program first
  pub is : source ≡ source_of first

-- the text is not accepted
abbrev pub IsRefused : List ℕ → Type 0
IsRefused text = (source : Source) → IsAccepted text source → ⊥

-- the text is accepted, and the image is one of its source
pub record IsImageOf (text : List ℕ) (image : Image) : Type 0 where
  pub source : Source
  pub accepted : IsAccepted text source
  pub compiles : Compiles source image
