-- Reading a part of the tree by a rule of the grammar.
use Rattle.std.proofs.Common.{◌≡◌, ℕ, suc, max, ◌≤◌, ◌<◌, Bool, List, [], ◌∷◌, ◌++◌, refl, ap, subst, ◌∙◌, sym, arith}
use Rattle.std.proofs.lemmas.List.{append-nil}
use Rattle.c_grammar.specs.declared.symbol.Symbol.{Symbol}
use Rattle.c_grammar.specs.declared.symbol.Symbol.TheVariants as symbol
use Rattle.c_grammar.specs.Grammar.{Rule}
use Rattle.c_grammar.specs.Nodes.{Node}
use Rattle.c_grammar.specs.Parts.{Token, Any, Kept, Called, Valued, Part, token, node, Is}
use Rattle.c_grammar.specs.Spelling.{counted, Spells, Front}
use Rattle.c_grammar.specs.Spelling as spelling
use Rattle.c_grammar.specs.Spots.{Spot}
use Rattle.right_reading.specs.Stream.{ahead}
use Rattle.c_grammar.proofs.Depths.{spells_nothing, nothing_is_flat}
use Rattle.right_reading.specs.Right.{first, Stops}
use Rattle.c_grammar.proofs.Sequences.{from_token, from_node, from_nothing}
use Rattle.right_reading.proofs.Composed.Steps.{Seen}

-- ---- the first token of a list of parts that begins with one

abbrev pub symbol_of_token : Token → Symbol
symbol_of_token (Any s) = s
symbol_of_token (Kept s at) = s
symbol_of_token (Called name) = symbol.Name
symbol_of_token (Valued at v) = symbol.Int

pub is-symbol : (t : Token) (x : Spot) → Is t x → x.symbol ≡ symbol_of_token t
is-symbol (Any s) x e = e
is-symbol (Kept s at) x e = e.0
is-symbol (Called name) x e = e.0
is-symbol (Valued at v) x e = e.0

-- what is ahead where such a list is spelled
pub token-ahead : {t : Token} {ps : List Part} {c : ℕ} {u : List Spot} (s : List Spot) → Spells (token t ∷ ps) c u → ahead (u ++ s) ≡ symbol_of_token t
token-ahead {t = t} {u = u} s sp =
    let a = from_token sp in
    let e : ahead (u ++ s) ≡ a.x.symbol = ap (λ (w : List Spot). ahead (w ++ s)) a.tokens in
    e ∙ is-symbol t a.x a.is

-- ---- a part of the tree

pub record Chosen {A X : Type 0} (of_early of_late : A → List Part) (stops_a : A → Symbol → Bool) (mk : A → X) (x : X) (early late : List Part) (s : List Spot) : Type 0 where
  pub a : A
  pub same : x ≡ mk a
  pub is_early : early ≡ of_early a
  pub is_late : late ≡ of_late a
  pub stops : Stops stops_a a s

-- which rule it is, for an x that begins as i does
abbrev pub Choice : {A X : Type 0} → (X → Node) → (A → List Part) → (A → List Part) → (A → Symbol → Bool) → (X → Symbol → Bool) → List Spot → List Spot → (A → X) → Type 0
Choice {A} {X} n of_early of_late stops_a stops_x before i mk =
    (x : X) (early late : List Part) (c1 c2 : ℕ) (u1 u2 s r : List Spot) → Rule (n x) early late → Spells early c1 u1 → Spells late c2 u2 → Stops stops_x x s
    → (u1 ++ u2) ++ s ≡ before ++ r → first r ≡ first i → Chosen of_early of_late stops_a mk x early late s

abbrev pub no_parts : {A : Type 0} → A → List Part
no_parts a = []

module _ {A X : Type 0} (n : X → Node) (of_a : A → List Part) (limit : ℕ) (stops_a : A → Symbol → Bool) (stops_x : X → Symbol → Bool) (before i : List Spot) (mk : A → X) where
  counted-le : (u : List Spot) (c : ℕ) → counted u c ≤ suc c
  counted-le [] c = omega arith
  counted-le (x ∷ xs) c = omega arith

  -- a node of the tree: the limit is one less for what is in it
  pub late_seen : ((a : A) → Rule (n (mk a)) [] (of_a a)) → Choice n no_parts of_a stops_a stops_x before i mk
      → Seen of_a (λ x. node (n x) ∷ []) limit (suc limit) stops_a stops_x before i mk
  late_seen rule choice = record { forth = forth; front = front; back = back }
    where
      forth : (a : A) (c : ℕ) (u : List Spot) → Spells (of_a a) c u → (d : ℕ) × Spells (node (n (mk a)) ∷ []) d u × (c ≤ limit → d ≤ suc limit)
      forth a c u sp =
          let w : Spells (node (n (mk a)) ∷ []) (max (counted u (max 0 c)) 0) u = spelling.whole (rule a) spelling.nothing sp spelling.nothing (sym (append-nil u)) refl in
          (max (counted u (max 0 c)) 0, w, λ le. omega (arith, counted-le u (max 0 c)))

      deeper : (a : A) (c : ℕ) (u : List Spot) → Front (of_a a) c u → limit < c → suc limit < counted u (max 0 c)
      deeper a c [] f lt = absurd (omega (arith, nothing_is_flat f))
      deeper a c (x ∷ xs) f lt = omega arith

      front : (a : A) (c : ℕ) (u : List Spot) → Front (of_a a) c u → (d : ℕ) × Front (node (n (mk a)) ∷ []) d u × (limit < c → suc limit < d)
      front a c u f = (counted u (max 0 c), spelling.broken_late (rule a) spelling.nothing f refl refl, deeper a c u f)

      higher : (ps : List Part) (c1 c2 d e : ℕ) (u : List Spot) → Spells ps c2 u → e ≡ max (counted u (max c1 c2)) d → limit < c2 → suc limit < e
      higher ps c1 c2 d e [] sp eq lt = absurd (omega (arith, spells_nothing sp refl))
      higher ps c1 c2 d e (x ∷ xs) sp eq lt = omega arith

      back : (x : X) (d : ℕ) (v s r : List Spot) → Spells (node (n x) ∷ []) d v → Stops stops_x x s → v ++ s ≡ before ++ r → first r ≡ first i
          → (a : A) × (c : ℕ) × (x ≡ mk a) × Spells (of_a a) c v × Stops stops_a a s × (limit < c → suc limit < d)
      back x d v s r sp st e h =
          let f = from_node sp in
          let tokens : v ≡ f.u1 ++ f.u2 = f.tokens ∙ ap (λ (w : List Spot). (f.u1 ++ f.u2) ++ w) (from_nothing f.after).tokens ∙ append-nil (f.u1 ++ f.u2) in
          let e2 : (f.u1 ++ f.u2) ++ s ≡ before ++ r = ap (λ (w : List Spot). w ++ s) (sym tokens) ∙ e in
          let k = choice x f.early f.late f.c1 f.c2 f.u1 f.u2 s r f.rule f.before f.behind st e2 h in
          let none : Spells [] f.c1 f.u1 = subst (λ (ps : List Part). Spells ps f.c1 f.u1) k.is_early f.before in
          let some : Spells (of_a k.a) f.c2 f.u2 = subst (λ (ps : List Part). Spells ps f.c2 f.u2) k.is_late f.behind in
          let all : v ≡ f.u2 = tokens ∙ ap (λ (w : List Spot). w ++ f.u2) (from_nothing none).tokens in
          (k.a, f.c2, k.same, subst (λ (w : List Spot). Spells (of_a k.a) f.c2 w) (sym all) some, k.stops, higher f.late f.c1 f.c2 f.d d f.u2 f.behind f.depth)

  -- a part that is no node
  pub early_seen : ((a : A) → Rule (n (mk a)) (of_a a) []) → Choice n of_a no_parts stops_a stops_x before i mk
      → Seen of_a (λ x. node (n x) ∷ []) limit limit stops_a stops_x before i mk
  early_seen rule choice = record { forth = forth; front = front; back = back }
    where
      forth : (a : A) (c : ℕ) (u : List Spot) → Spells (of_a a) c u → (d : ℕ) × Spells (node (n (mk a)) ∷ []) d u × (c ≤ limit → d ≤ limit)
      forth a c u sp =
          let w : Spells (node (n (mk a)) ∷ []) (max (counted [] (max c 0)) 0) u = spelling.whole (rule a) sp spelling.nothing spelling.nothing (sym (append-nil u) ∙ sym (append-nil (u ++ []))) refl in
          (max (counted [] (max c 0)) 0, w, λ le. omega arith)

      front : (a : A) (c : ℕ) (u : List Spot) → Front (of_a a) c u → (d : ℕ) × Front (node (n (mk a)) ∷ []) d u × (limit < c → limit < d)
      front a c u f = (c, spelling.broken_early (rule a) f, λ lt. lt)

      back : (x : X) (d : ℕ) (v s r : List Spot) → Spells (node (n x) ∷ []) d v → Stops stops_x x s → v ++ s ≡ before ++ r → first r ≡ first i
          → (a : A) × (c : ℕ) × (x ≡ mk a) × Spells (of_a a) c v × Stops stops_a a s × (limit < c → limit < d)
      back x d v s r sp st e h =
          let f = from_node sp in
          let tokens : v ≡ f.u1 ++ f.u2 = f.tokens ∙ ap (λ (w : List Spot). (f.u1 ++ f.u2) ++ w) (from_nothing f.after).tokens ∙ append-nil (f.u1 ++ f.u2) in
          let e2 : (f.u1 ++ f.u2) ++ s ≡ before ++ r = ap (λ (w : List Spot). w ++ s) (sym tokens) ∙ e in
          let k = choice x f.early f.late f.c1 f.c2 f.u1 f.u2 s r f.rule f.before f.behind st e2 h in
          let none : Spells [] f.c2 f.u2 = subst (λ (ps : List Part). Spells ps f.c2 f.u2) k.is_late f.behind in
          let some : Spells (of_a k.a) f.c1 f.u1 = subst (λ (ps : List Part). Spells ps f.c1 f.u1) k.is_early f.before in
          let no = from_nothing none in
          let all : v ≡ f.u1 = tokens ∙ ap (λ (w : List Spot). f.u1 ++ w) no.tokens ∙ append-nil f.u1 in
          let same : counted f.u2 (max f.c1 f.c2) ≡ max f.c1 f.c2 = ap (λ (w : List Spot). counted w (max f.c1 f.c2)) no.tokens in
          (k.a, f.c1, k.same, subst (λ (w : List Spot). Spells (of_a k.a) f.c1 w) (sym all) some, k.stops, λ lt. omega (arith, f.depth, same))
