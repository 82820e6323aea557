-- Which programs tokens spell, and where tokens cannot go on.
use Rattle.std.specs.Prelude.{◌≡◌, ◌≢◌, ◌⊎◌, ℕ, suc, ◌≤◌, ◌<◌, List, [], ◌∷◌, ◌++◌, length, take, drop}
use Rattle.sat_base.specs.declared.limits.TheConstants.{DEPTH}
use Rattle.sat_base.specs.declared.position.Pos.{Pos}
use Rattle.c_lexer.specs.declared.token.Tokens.{Tokens}
use Rattle.c_tree.specs.declared.program.Item.{Item}
use Rattle.c_tree.specs.declared.program.Program.{Program}
use Rattle.c_tree.specs.Depth.{depth_of}
use Rattle.c_grammar.specs.declared.refusal.ReadRefusal.{ReadRefusal}
use Rattle.c_grammar.specs.declared.refusal.ReadRefusal.TheVariants as refusal
use Rattle.c_grammar.specs.Nodes as a
use Rattle.c_grammar.specs.Parts.{each}
use Rattle.c_grammar.specs.Spelling as parts
use Rattle.c_grammar.specs.Spots.{Spot, spots_of, end_of, here}

-- the items of the program, of which there is one or more, spell these tokens
pub record SpellsItems (program : Program) (tokens : List Spot) : Type 0 where
  pub some : program.items ≢ []
  pub depth : ℕ
  pub spelled : parts.Spells (each a.item program.items) depth tokens

-- the program spells these tokens, and says how many there are and where the text ends
pub record Spells (program : Program) (tokens : Tokens) : Type 0 where
  pub items : SpellsItems program (spots_of tokens)
  pub end_tok : program.end_tok ≡ length tokens.list
  pub end : program.end ≡ tokens.end

-- a front of some program spells these tokens, and so deep it is
pub record FrontSpells (depth : ℕ) (tokens : List Spot) : Type 0 where
  pub item : Item
  pub items : List Item
  pub front : parts.Front (each a.item (item ∷ items)) depth tokens

-- a program that is spelled is as deep as its tree, and a whole front of itself
abbrev pub DepthsAreThoseOfTrees : Type 0
DepthsAreThoseOfTrees = (program : Program) (tokens : List Spot) (spelled : SpellsItems program tokens) → (spelled.depth ≡ depth_of program) × FrontSpells (depth_of program) tokens

-- some program begins with these tokens
pub record BeginProgram (tokens : List Spot) : Type 0 where
  pub program : Program
  pub more : List Spot
  pub spelled : SpellsItems program (tokens ++ more)

-- the tokens of each front begin a program
abbrev pub FrontsGoOn : Type 0
FrontsGoOn = (depth : ℕ) (tokens : List Spot) → FrontSpells depth tokens → BeginProgram tokens

-- the tokens, and the end after the last one
abbrev pub stream_of : Tokens → List Spot
stream_of tokens = spots_of tokens ++ end_of tokens ∷ []

-- with the end after them, these begin as the tokens do up to the one of this number, which may be the end itself
abbrev pub Through : Tokens → ℕ → List Spot → Type 0
Through tokens tok spelled = take (suc tok) (spelled ++ end_of tokens ∷ []) ≡ take (suc tok) (stream_of tokens)

-- the place of the token of this number
abbrev pub place_of : Tokens → ℕ → Pos
place_of tokens tok = (here (drop tok (stream_of tokens))).pos

-- no program goes on so: none begins with the tokens up to this one, and some front spells those before it
pub record IsSyntaxFault (tokens : Tokens) (tok : ℕ) (pos : Pos) : Type 0 where
  pub within : tok ≤ length tokens.list
  pub place : pos ≡ place_of tokens tok
  pub none : (program : Program) (spelled : List Spot) → SpellsItems program spelled → Through tokens tok spelled → ⊥
  pub depth : ℕ
  pub front : FrontSpells depth (take tok (spots_of tokens))

-- each program that goes on so is too deep, and so is a front that spells the tokens, with this one or without it
pub record IsTooDeep (tokens : Tokens) (tok : ℕ) (pos : Pos) : Type 0 where
  pub within : tok < length tokens.list
  pub place : pos ≡ place_of tokens tok
  pub deeper : (program : Program) (spelled : List Spot) → SpellsItems program spelled → Through tokens tok spelled → DEPTH < depth_of program
  pub depth : ℕ
  pub deep : DEPTH < depth
  pub front : FrontSpells depth (take tok (spots_of tokens)) ⊎ FrontSpells depth (take (suc tok) (spots_of tokens))

-- why the tokens are refused
abbrev pub IsRefused : Tokens → ReadRefusal → Type 0
IsRefused tokens refusal.Memory = Unit {0}
IsRefused tokens (refusal.Syntax tok pos) = IsSyntaxFault tokens tok pos
IsRefused tokens (refusal.TooDeep tok pos) = IsTooDeep tokens tok pos

-- tokens spell at most one program
abbrev pub SpellAtMostOne : Type 0
SpellAtMostOne = (tokens : Tokens) (p q : Program) → Spells p tokens → Spells q tokens → p ≡ q
