-- What it means that something is read rightly at the front of the tokens: what is read is spelled by what was
-- gone over, and anything else that begins so is the same; or else nothing begins so.
use Rattle.std.specs.Prelude.{◌≡◌, ◌≢◌, ℕ, ◌≤◌, ◌<◌, Bool, true, false, List, [], ◌∷◌, ◌++◌, Option, Some, None, ◌⊎◌, Result, Ok, Err}
use Rattle.c_grammar.specs.declared.symbol.Symbol.{Symbol}
use Rattle.c_grammar.specs.declared.symbol.Symbol.TheVariants.{End}
use Rattle.c_grammar.specs.Parts.{Part}
use Rattle.c_grammar.specs.Spelling.{Spells, Front}
use Rattle.c_grammar.specs.Spots.{Spot, here}
use Rattle.right_reading.specs.Stream.{ahead, Fault, Parser}

-- the first token, if there is one
abbrev pub first : List Spot → Option Spot
first [] = None
first (x ∷ xs) = Some x

abbrev pub first_only : List Spot → List Spot
first_only [] = []
first_only (x ∷ xs) = x ∷ []

-- the end is among these tokens
abbrev pub Ends : List Spot → Type 0
Ends [] = ⊥
Ends (x ∷ xs) = (x.symbol ≡ End) ⊎ Ends xs

-- what goes on after a whole part stops it
abbrev pub Stops : {A : Type 0} → (A → Symbol → Bool) → A → List Spot → Type 0
Stops stops a s = stops a (ahead s) ≡ true

-- a is read, and j is left; the tokens `before` were gone over before
pub record Read {A : Type 0} (of : A → List Part) (limit : ℕ) (stops : A → Symbol → Bool) (before i : List Spot) (a : A) (j : List Spot) : Type 0 where
  pub more : List Spot
  pub depth : ℕ
  pub whole : i ≡ more ++ j
  pub spelled : Spells (of a) depth (before ++ more)
  pub within : depth ≤ limit
  pub ends : Ends j
  pub only : (a' : A) (c : ℕ) (v s r : List Spot) → Spells (of a') c v → Stops stops a' s → v ++ s ≡ before ++ (more ++ r) → first r ≡ first j → (a' ≡ a) × (s ≡ r)

-- what is wrong with something that begins as the tokens do: it is not there, or it is too deep
abbrev pub Bad : Bool → ℕ → ℕ → Type 0
Bad false limit depth = ⊥
Bad true limit depth = limit < depth

-- a front spells the tokens; for want of depth it is a deep one, with or without the first token after them
abbrev pub HasFront : {A : Type 0} → (A → List Part) → ℕ → Bool → List Spot → List Spot → Type 0
HasFront {A} of limit false tokens rest = (a : A) × (d : ℕ) × Front (of a) d tokens
HasFront {A} of limit true tokens rest = (a : A) × (d : ℕ) × (Front (of a) d tokens ⊎ Front (of a) d (tokens ++ first_only rest)) × (limit < d) × (ahead rest ≢ End)

-- nothing is read
pub record Refused {A : Type 0} (of : A → List Part) (limit : ℕ) (stops : A → Symbol → Bool) (before i : List Spot) (f : Fault) : Type 0 where
  pub more : List Spot
  pub rest : List Spot
  pub whole : i ≡ more ++ rest
  pub place : f.at ≡ here rest
  pub ends : Ends rest
  pub dead : (a' : A) (c : ℕ) (v s r : List Spot) → Spells (of a') c v → Stops stops a' s → v ++ s ≡ before ++ (more ++ r) → first r ≡ first rest → Bad f.deep limit c
  pub front : HasFront of limit f.deep (before ++ more) rest

abbrev pub Right : {A : Type 0} → (A → List Part) → ℕ → (A → Symbol → Bool) → List Spot → List Spot → Result (A × List Spot) Fault → Type 0
Right of limit stops before i (Ok x) = Read of limit stops before i x.0 x.1
Right of limit stops before i (Err f) = Refused of limit stops before i f

-- whatever follows, what is spelled is known at its last token
abbrev pub always : {A : Type 0} → A → Symbol → Bool
always a s = true

-- where the end is among the tokens, what is read at their front is read rightly
abbrev pub Reads : {A : Type 0} → (A → List Part) → ℕ → (A → Symbol → Bool) → Parser A → Type 0
Reads of limit stops p = (i : List Spot) → Ends i → Right of limit stops [] i (p i)
