-- Fronts that go on: parts that are begun, and what they are when they are whole.
use Rattle.std.proofs.Common.{◌≡◌, ℕ, suc, max, List, [], ◌∷◌, ◌++◌, ◌⊎◌, inl, inr, refl, ap, subst, ◌∙◌, sym}
use Rattle.std.proofs.lemmas.List.{append_assoc, append-nil}
use Rattle.c_grammar.specs.Grammar.{Rule}
use Rattle.c_grammar.specs.Nodes.{Node}
use Rattle.c_grammar.specs.Parts.{Token, Part, token, node, Is}
use Rattle.c_grammar.specs.Spelling.{counted, Spells, Front}
use Rattle.c_grammar.specs.Spelling as spelling
use Rattle.c_grammar.specs.Spots.{Spot}
use Rattle.c_grammar.proofs.Sequences.{join}

-- the parts spell the tokens, however deep they are
pub record Spelled (ps : List Part) (w : List Spot) : Type 0 where
  pub depth : ℕ
  pub spelled : Spells ps depth w

-- the parts are begun by the tokens; the last part that is begun is broken in its rule, and so on, that many times
pub data Begun : ℕ → List Part → List Spot → Type 0 where
  lacking : {h : ℕ} {ps : List Part} → Begun h ps []
  quoted : {h : ℕ} {t : Token} {x : Spot} {ps : List Part} {w : List Spot} → Is t x → Begun h ps w → Begun h (token t ∷ ps) (x ∷ w)
  whole : {h : ℕ} {n : Node} {ps : List Part} {u v w : List Spot} → Spelled (node n ∷ []) u → Begun h ps v → w ≡ u ++ v → Begun h (node n ∷ ps) w
  broken : {h : ℕ} {n : Node} {early late ps : List Part} {u : List Spot} → Rule n early late → Begun h (early ++ late) u → Begun (suc h) (node n ∷ ps) u

pub spelled_nothing : Spelled [] []
spelled_nothing = record { depth = 0; spelled = spelling.nothing }

pub joined : {ps qs : List Part} {u v : List Spot} → Spelled ps u → Spelled qs v → Spelled (ps ++ qs) (u ++ v)
joined x y = record { depth = max x.depth y.depth; spelled = join x.spelled y.spelled }

-- a part of the tree, by its rule
pub by_rule : {n : Node} {early late : List Part} {u v : List Spot} → Rule n early late → Spelled early u → Spelled late v → Spelled (node n ∷ []) (u ++ v)
by_rule {u = u} {v = v} rule x y =
    record { depth = max (counted v (max x.depth y.depth)) 0; spelled = spelling.whole rule x.spelled y.spelled spelling.nothing (sym (append-nil (u ++ v))) refl }

-- ---- each front is begun so

begun_more : {h : ℕ} {ps : List Part} (qs : List Part) {w : List Spot} → Begun h ps w → Begun h (ps ++ qs) w
begun_more qs lacking = lacking
begun_more qs (quoted is b) = quoted is (begun_more qs b)
begun_more qs (whole x b e) = whole x (begun_more qs b) e
begun_more qs (broken rule b) = broken rule b

begun_after : {h : ℕ} {ps qs : List Part} {d : ℕ} {u v : List Spot} → Spells ps d u → Begun h qs v → Begun h (ps ++ qs) (u ++ v)
begun_after spelling.nothing b = b
begun_after (spelling.quoted is s) b = quoted is (begun_after s b)
begun_after {v = r} (spelling.whole {c1 = c1} {c2 = c2} {u1 = u1} {u2 = u2} {v = v} rule early late s e depth) b =
    whole (by_rule rule (record { depth = c1; spelled = early }) (record { depth = c2; spelled = late })) (begun_after s b) (ap (λ (x : List Spot). x ++ r) e ∙ append_assoc (u1 ++ u2) v r)

pub record IsBegun (ps : List Part) (w : List Spot) : Type 0 where
  pub times : ℕ
  pub begun : Begun times ps w

pub begun_of : {ps : List Part} {d : ℕ} {w : List Spot} → Front ps d w → IsBegun ps w
begun_of spelling.lacking = record { times = 0; begun = lacking }
begun_of (spelling.quoted is f) = let b = begun_of f in record { times = b.times; begun = quoted is b.begun }
begun_of (spelling.whole {c1 = c1} {c2 = c2} rule early late f e depth) =
    let b = begun_of f in
    record { times = b.times; begun = whole (by_rule rule (record { depth = c1; spelled = early }) (record { depth = c2; spelled = late })) b.begun e }
begun_of (spelling.broken_early {late = late} rule f) = let b = begun_of f in record { times = suc b.times; begun = broken rule (begun_more late b.begun) }
begun_of {w = w} (spelling.broken_late {n = n} {early = early} {late = late} {ps = ps} rule s f e depth) =
    let b = begun_of f in
    record { times = suc b.times; begun = broken rule (subst (λ (x : List Spot). Begun b.times (early ++ late) x) (sym e) (begun_after s b.begun)) }

-- ---- what is begun of two lists of parts: the first is, or it is whole and the second is

pub record After (h : ℕ) (ps qs : List Part) (w : List Spot) : Type 0 where
  pub u : List Spot
  pub v : List Spot
  pub first : Spelled ps u
  pub second : Begun h qs v
  pub tokens : w ≡ u ++ v

after_token : {h : ℕ} {t : Token} {x : Spot} {ps qs : List Part} {w : List Spot} → Is t x → Begun h ps w ⊎ After h ps qs w → Begun h (token t ∷ ps) (x ∷ w) ⊎ After h (token t ∷ ps) qs (x ∷ w)
after_token is (inl b) = inl (quoted is b)
after_token {x = x} is (inr y) =
    inr (record { u = x ∷ y.u; v = y.v; first = record { depth = y.first.depth; spelled = spelling.quoted is y.first.spelled }; second = y.second; tokens = ap (λ (r : List Spot). x ∷ r) y.tokens })

after_node : {h : ℕ} {n : Node} {ps qs : List Part} {u v w : List Spot} → Spelled (node n ∷ []) u → w ≡ u ++ v → Begun h ps v ⊎ After h ps qs v → Begun h (node n ∷ ps) w ⊎ After h (node n ∷ ps) qs w
after_node x e (inl b) = inl (whole x b e)
after_node {u = u} x e (inr y) =
    inr (record { u = u ++ y.u; v = y.v; first = joined x y.first; second = y.second; tokens = e ∙ ap (λ (r : List Spot). u ++ r) y.tokens ∙ sym (append_assoc u y.u y.v) })

pub begun_split : {h : ℕ} (ps qs : List Part) {w : List Spot} → Begun h (ps ++ qs) w → Begun h ps w ⊎ After h ps qs w
begun_split [] qs {w} b = inr (record { u = []; v = w; first = spelled_nothing; second = b; tokens = refl })
begun_split (token t ∷ ps) qs lacking = inl lacking
begun_split (token t ∷ ps) qs (quoted is b) = after_token is (begun_split ps qs b)
begun_split (node n ∷ ps) qs lacking = inl lacking
begun_split (node n ∷ ps) qs (whole x b e) = after_node x e (begun_split ps qs b)
begun_split (node n ∷ ps) qs (broken rule b) = inl (broken rule b)

-- ---- things that go on

-- a thing that goes on from these tokens, which are its first
pub record Completed {A : Type 0} (of : A → List Part) (w : List Spot) : Type 0 where
  pub it : A
  pub more : List Spot
  pub spelled : Spelled (of it) (w ++ more)

-- whichever of these things is begun, some such thing goes on so
abbrev pub GoesOn : {A : Type 0} → ℕ → (A → List Part) → Type 0
GoesOn {A} h of = (x : A) (w : List Spot) → Begun h (of x) w → Completed of w

-- it is whole
pub completed : {A : Type 0} (of : A → List Part) (x : A) {w : List Spot} → Spelled (of x) w → Completed of w
completed of x {w} s = record { it = x; more = []; spelled = subst (Spelled (of x)) (sym (append-nil w)) s }

pub from_nothing : {A : Type 0} (of : A → List Part) {w : List Spot} → w ≡ [] → Completed of [] → Completed of w
from_nothing of e c = subst (Completed of) (sym e) c

module _ {A : Type 0} {B : A → Type 0} (of_a : A → List Part) (of_b : (a : A) → B a → List Part) where
  abbrev pub one_and_other : (a : A) × B a → List Part
  one_and_other x = of_a x.0 ++ of_b x.0 x.1

  pub completed_first : {w : List Spot} → Completed of_a w → ((a : A) → Completed (of_b a) []) → Completed one_and_other w
  completed_first {w} c some =
      let d = some c.it in
      record { it = (c.it, d.it); more = c.more ++ d.more; spelled = subst (Spelled (of_a c.it ++ of_b c.it d.it)) (append_assoc w c.more d.more) (joined c.spelled d.spelled) }

  pub completed_second : (a : A) {u v : List Spot} → Spelled (of_a a) u → Completed (of_b a) v → Completed one_and_other (u ++ v)
  completed_second a {u} {v} s c =
      record { it = (a, c.it); more = c.more; spelled = subst (Spelled (of_a a ++ of_b a c.it)) (sym (append_assoc u v c.more)) (joined s c.spelled) }

  -- one after the other
  pub goes_then : {h : ℕ} → GoesOn h of_a → ((a : A) → GoesOn h (of_b a)) → ((a : A) → Completed (of_b a) []) → GoesOn h one_and_other
  goes_then {h} first second some x w b = pick (begun_split (of_a x.0) (of_b x.0 x.1) b)
    where
      pick : Begun h (of_a x.0) w ⊎ After h (of_a x.0) (of_b x.0 x.1) w → Completed one_and_other w
      pick (inl b) = completed_first (first x.0 w b) some
      pick (inr y) = subst (Completed one_and_other) (sym y.tokens) (completed_second x.0 y.first (second x.0 x.1 y.v y.second))
