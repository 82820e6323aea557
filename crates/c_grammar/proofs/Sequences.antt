-- What lists of parts spell, taken apart and put together.
use Rattle.std.proofs.Common.{◌≡◌, ℕ, max, List, [], ◌∷◌, ◌++◌, refl, ap, subst, ◌∙◌, arith}
use Rattle.std.proofs.lemmas.List.{append_assoc}
use Rattle.c_grammar.specs.Grammar.{Rule}
use Rattle.c_grammar.specs.Nodes.{Node}
use Rattle.c_grammar.specs.Parts.{Token, Part, token, node, Is}
use Rattle.c_grammar.specs.Spelling.{counted, Spells, Front}
use Rattle.c_grammar.specs.Spelling as spelling
use Rattle.c_grammar.specs.Spots.{Spot}

-- ---- the first part of a list

pub record FromToken (t : Token) (ps : List Part) (d : ℕ) (w : List Spot) : Type 0 where
  pub x : Spot
  pub rest : List Spot
  pub is : Is t x
  pub after : Spells ps d rest
  pub tokens : w ≡ x ∷ rest

pub from_token : {t : Token} {ps : List Part} {d : ℕ} {w : List Spot} → Spells (token t ∷ ps) d w → FromToken t ps d w
from_token (spelling.quoted {x = x} {w = w} is after) = record { x = x; rest = w; is = is; after = after; tokens = refl }

pub record FromNode (n : Node) (ps : List Part) (e : ℕ) (w : List Spot) : Type 0 where
  pub early : List Part
  pub late : List Part
  pub c1 : ℕ
  pub c2 : ℕ
  pub d : ℕ
  pub u1 : List Spot
  pub u2 : List Spot
  pub v : List Spot
  pub rule : Rule n early late
  pub before : Spells early c1 u1
  pub behind : Spells late c2 u2
  pub after : Spells ps d v
  pub tokens : w ≡ (u1 ++ u2) ++ v
  pub depth : e ≡ max (counted u2 (max c1 c2)) d

pub from_node : {n : Node} {ps : List Part} {e : ℕ} {w : List Spot} → Spells (node n ∷ ps) e w → FromNode n ps e w
from_node (spelling.whole {early = early} {late = late} {c1 = c1} {c2 = c2} {d = d} {u1 = u1} {u2 = u2} {v = v} rule before behind after tokens depth) =
    record { early = early; late = late; c1 = c1; c2 = c2; d = d; u1 = u1; u2 = u2; v = v; rule = rule; before = before; behind = behind; after = after; tokens = tokens; depth = depth }

pub record FromNothing (d : ℕ) (w : List Spot) : Type 0 where
  pub depth : d ≡ 0
  pub tokens : w ≡ []

pub from_nothing : {d : ℕ} {w : List Spot} → Spells [] d w → FromNothing d w
from_nothing spelling.nothing = record { depth = refl; tokens = refl }

-- ---- two lists of parts

pub record Split (ps qs : List Part) (e : ℕ) (w : List Spot) : Type 0 where
  pub c : ℕ
  pub u : List Spot
  pub d : ℕ
  pub v : List Spot
  pub left : Spells ps c u
  pub right : Spells qs d v
  pub tokens : w ≡ u ++ v
  pub depth : e ≡ max c d

pub split : (ps qs : List Part) {e : ℕ} {w : List Spot} → Spells (ps ++ qs) e w → Split ps qs e w
split [] qs {e} {w} s = record { c = 0; u = []; d = e; v = w; left = spelling.nothing; right = s; tokens = refl; depth = omega arith }
split (token t ∷ ps) qs s =
    let a = from_token s in
    let b = split ps qs a.after in
    record { c = b.c; u = a.x ∷ b.u; d = b.d; v = b.v; left = spelling.quoted a.is b.left; right = b.right; tokens = a.tokens ∙ ap (λ (r : List Spot). a.x ∷ r) b.tokens; depth = b.depth }
split (node n ∷ ps) qs {e} {w} s =
    let a = from_node s in
    let b = split ps qs a.after in
    let tokens : w ≡ ((a.u1 ++ a.u2) ++ b.u) ++ b.v = a.tokens ∙ ap (λ (r : List Spot). (a.u1 ++ a.u2) ++ r) b.tokens ∙ simp append_assoc in
    record {
      c = max (counted a.u2 (max a.c1 a.c2)) b.c;
      u = (a.u1 ++ a.u2) ++ b.u;
      d = b.d;
      v = b.v;
      left = spelling.whole a.rule a.before a.behind b.left refl refl;
      right = b.right;
      tokens = tokens;
      depth = omega (arith, a.depth, b.depth);
    }

pub join : {ps qs : List Part} {c d : ℕ} {u v : List Spot} → Spells ps c u → Spells qs d v → Spells (ps ++ qs) (max c d) (u ++ v)
join {qs = qs} {d = d} {v = v} spelling.nothing s = subst (λ (e : ℕ). Spells qs e v) (omega arith) s
join (spelling.quoted is r) s = spelling.quoted is (join r s)
join {d = d'} {v = v'} (spelling.whole {c1 = c1} {c2 = c2} {d = d} {u1 = u1} {u2 = u2} {v = v} rule before behind after tokens depth) s =
    spelling.whole rule before behind (join after s) (ap (λ (r : List Spot). r ++ v') tokens ∙ append_assoc (u1 ++ u2) v v') (omega (arith, depth))

-- ---- fronts

pub Front-more : {ps : List Part} (qs : List Part) {d : ℕ} {u : List Spot} → Front ps d u → Front (ps ++ qs) d u
Front-more qs spelling.lacking = spelling.lacking
Front-more qs (spelling.quoted is r) = spelling.quoted is (Front-more qs r)
Front-more qs (spelling.whole rule before behind after tokens depth) = spelling.whole rule before behind (Front-more qs after) tokens depth
Front-more qs (spelling.broken_early rule r) = spelling.broken_early rule r
Front-more qs (spelling.broken_late rule before r tokens depth) = spelling.broken_late rule before r tokens depth

pub Front-after : {ps qs : List Part} {c d : ℕ} {u v : List Spot} → Spells ps c u → Front qs d v → Front (ps ++ qs) (max c d) (u ++ v)
Front-after {qs = qs} {v = v} spelling.nothing s = subst (λ (e : ℕ). Front qs e v) (omega arith) s
Front-after (spelling.quoted is r) s = spelling.quoted is (Front-after r s)
Front-after {d = d'} {v = v'} (spelling.whole {c1 = c1} {c2 = c2} {d = d} {u1 = u1} {u2 = u2} {v = v} rule before behind after tokens depth) s =
    spelling.whole rule before behind (Front-after after s) (ap (λ (r : List Spot). r ++ v') tokens ∙ append_assoc (u1 ++ u2) v v') (omega (arith, depth))
