-- What the rules of the grammar are put together from.
use Rattle.std.specs.Prelude.{◌≡◌, ℤ, List, [], ◌∷◌}
use Rattle.sat_base.specs.declared.name.At.{At}
use Rattle.sat_base.specs.declared.name.Named.{Named}
use Rattle.c_grammar.specs.declared.symbol.Symbol.{Symbol}
use Rattle.c_grammar.specs.declared.symbol.Symbol.TheVariants as symbol
use Rattle.c_grammar.specs.Nodes.{Node}
use Rattle.c_grammar.specs.Spots.{Spot}

-- a quoted token, whose place the tree may keep, a name, or a number
pub data Token : Type 0 where
  Any : Symbol → Token
  Kept : Symbol → At → Token
  Called : Named → Token
  Valued : At → ℤ → Token

-- a quoted token, or a part of the tree
pub data Part : Type 0 where
  token : Token → Part
  node : Node → Part

-- the token is this one
abbrev pub Is : Token → Spot → Type 0
Is (Any s) x = x.symbol ≡ s
Is (Kept s at) x = (x.symbol ≡ s) × (x.at ≡ at)
Is (Called name) x = (x.symbol ≡ symbol.Name) × (x.at ≡ name.at) × (x.name ≡ name.name)
Is (Valued at v) x = (x.symbol ≡ symbol.Int) × (x.at ≡ at) × (x.value ≡ v)

-- ---- short words for parts

abbrev pub word : Symbol → Part
word s = token (Any s)

abbrev pub kept : Symbol → At → Part
kept s at = token (Kept s at)

abbrev pub called : Named → Part
called name = token (Called name)

abbrev pub valued : At → ℤ → Part
valued at v = token (Valued at v)

-- a node for each of these
abbrev pub each : {A : Type 0} → (A → Node) → List A → List Part
each of [] = []
each of (x ∷ xs) = node (of x) ∷ each of xs

-- a comma and a node for each of these
abbrev pub followed : {A : Type 0} → (A → Node) → List A → List Part
followed of [] = []
followed of (x ∷ xs) = word symbol.Comma ∷ node (of x) ∷ followed of xs

-- nodes with commas between them
abbrev pub separated : {A : Type 0} → (A → Node) → A → List A → List Part
separated of x xs = node (of x) ∷ followed of xs
