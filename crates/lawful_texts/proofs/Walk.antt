-- A walk over what is spelled, by the rules of the grammar: what holds of each part of the tree, and the room that its
-- tokens have for it.
use Rattle.std.proofs.Common.{◌≡◌, ℕ, ◌+◌, ◌≤◌, List, [], ◌∷◌, ◌++◌, ap, arith}
use Rattle.c_grammar.specs.Grammar.{Rule}
use Rattle.c_grammar.specs.Nodes.{Node}
use Rattle.c_grammar.specs.Parts.{Token, Part, token, node, Is}
use Rattle.c_grammar.specs.Spelling.{Spells, nothing, quoted, whole}
use Rattle.c_grammar.specs.Spots.{Spot}

-- By what is claimed of a part of the tree in so much room, and by the room that a token has: each part of the tree
-- among these has what is claimed of it, and together they have so much room.
pub data Parts (Claim : Node → ℕ → Type 0) (own : Token → ℕ) : List Part → ℕ → Type 0 where
  ends : Parts Claim own [] 0
  marks : {t : Token} {ps : List Part} {k : ℕ} → Parts Claim own ps k → Parts Claim own (token t ∷ ps) (own t + k)
  stands : {n : Node} {ps : List Part} {i k : ℕ} → Claim n i → Parts Claim own ps k → Parts Claim own (node n ∷ ps) (i + k)

-- the tokens together, by what each counts
abbrev pub total : (Spot → ℕ) → List Spot → ℕ
total count [] = 0
total count (x ∷ w) = count x + total count w

total-append : (count : Spot → ℕ) (u v : List Spot) → total count (u ++ v) ≡ total count u + total count v
total-append count [] v = omega arith
total-append count (x ∷ u) v = omega (arith, total-append count u v)

module _ (Claim : Node → ℕ → Type 0) (own : Token → ℕ) where
  pub record Split (ps qs : List Part) (k : ℕ) : Type 0 where
    pub i : ℕ
    pub j : ℕ
    pub earlier : Parts Claim own ps i
    pub later : Parts Claim own qs j
    pub room : k ≡ i + j

  pub split : (ps qs : List Part) {k : ℕ} → Parts Claim own (ps ++ qs) k → Split ps qs k
  split [] qs {k} all = record { i = 0; j = k; earlier = ends; later = all; room = omega arith }
  split (token t ∷ ps) qs (marks rest) = let s = split ps qs rest in record { i = own t + s.i; j = s.j; earlier = marks s.earlier; later = s.later; room = omega (arith, s.room) }
  split (node n ∷ ps) qs (stands {i = i} one rest) = let s = split ps qs rest in record { i = i + s.i; j = s.j; earlier = stands one s.earlier; later = s.later; room = omega (arith, s.room) }

  -- in no more room than the tokens have
  pub record Within (ps : List Part) (most : ℕ) : Type 0 where
    pub room : ℕ
    pub all : Parts Claim own ps room
    pub within : room ≤ most

  -- where each rule makes what is claimed of its part, all parts have it that tokens spell
  module _ (count : Spot → ℕ) (most : (t : Token) (x : Spot) → Is t x → own t ≤ count x)
      (by_rule : (n : Node) (early late : List Part) (i j : ℕ) → Rule n early late → Parts Claim own early i → Parts Claim own late j → Claim n (i + j)) where
    pub walked : {ps : List Part} {d : ℕ} {w : List Spot} → Spells ps d w → Within ps (total count w)
    walked nothing = record { room = 0; all = ends; within = omega arith }
    walked (quoted {t = t} {x = x} is rest) = let r = walked rest in record { room = own t + r.room; all = marks r.all; within = omega (arith, most t x is, r.within) }
    walked (whole {n = n} {early = early} {late = late} {u1 = u1} {u2 = u2} {v = v} rule before behind after joined depth) =
        let b = walked before in let l = walked behind in let r = walked after in record {
          room = (b.room + l.room) + r.room;
          all = stands (by_rule n early late b.room l.room rule b.all l.all) r.all;
          within = omega (arith, ap (total count) joined, total-append count (u1 ++ u2) v, total-append count u1 u2, b.within, l.within, r.within);
        }
