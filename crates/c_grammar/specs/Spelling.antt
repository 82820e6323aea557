-- What a list of parts spells, whole or broken off, and how deep it is.
use Rattle.std.specs.Prelude.{◌≡◌, ℕ, suc, max, List, [], ◌∷◌, ◌++◌}
use Rattle.c_grammar.specs.Grammar.{Rule}
use Rattle.c_grammar.specs.Nodes.{Node}
use Rattle.c_grammar.specs.Parts.{Token, Part, token, node, Is}
use Rattle.c_grammar.specs.Spots.{Spot}

-- a part counts as a node where one of these tokens is there
abbrev pub counted : List Spot → ℕ → ℕ
counted [] below = below
counted (x ∷ xs) below = suc below

-- The parts spell these tokens, and so deep they are: a quoted token spells itself, a part of the tree what its
-- rule spells, and a list of parts spells what they spell one after the other.
pub data Spells : List Part → ℕ → List Spot → Type 0 where
  nothing : Spells [] 0 []
  quoted : {t : Token} {x : Spot} {ps : List Part} {d : ℕ} {w : List Spot} → Is t x → Spells ps d w → Spells (token t ∷ ps) d (x ∷ w)
  whole : {n : Node} {early late ps : List Part} {c1 c2 d e : ℕ} {u1 u2 v w : List Spot}
      → Rule n early late → Spells early c1 u1 → Spells late c2 u2 → Spells ps d v
      → w ≡ (u1 ++ u2) ++ v → e ≡ max (counted u2 (max c1 c2)) d → Spells (node n ∷ ps) e w

-- A front of the parts spells these tokens, and so deep it is: from some place on all is lacking, and so it is in
-- the last part that is there.
pub data Front : List Part → ℕ → List Spot → Type 0 where
  lacking : {ps : List Part} → Front ps 0 []
  quoted : {t : Token} {x : Spot} {ps : List Part} {d : ℕ} {w : List Spot} → Is t x → Front ps d w → Front (token t ∷ ps) d (x ∷ w)
  whole : {n : Node} {early late ps : List Part} {c1 c2 d e : ℕ} {u1 u2 v w : List Spot}
      → Rule n early late → Spells early c1 u1 → Spells late c2 u2 → Front ps d v
      → w ≡ (u1 ++ u2) ++ v → e ≡ max (counted u2 (max c1 c2)) d → Front (node n ∷ ps) e w
  broken_early : {n : Node} {early late ps : List Part} {c : ℕ} {u : List Spot} → Rule n early late → Front early c u → Front (node n ∷ ps) c u
  broken_late : {n : Node} {early late ps : List Part} {c1 c2 e : ℕ} {u1 u2 w : List Spot}
      → Rule n early late → Spells early c1 u1 → Front late c2 u2 → w ≡ u1 ++ u2 → e ≡ counted u2 (max c1 c2) → Front (node n ∷ ps) e w
