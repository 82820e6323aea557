-- What stands after a part and before it: small steps for lists of parts.
use Rattle.std.proofs.Common.{◌≡◌, ◌≢◌, ℕ, Bool, true, List, [], ◌∷◌, ◌++◌, refl, ap, subst, ◌∙◌, sym, arith}
use Rattle.std.proofs.lemmas.List.{append_assoc}
use Rattle.std.specs.Prelude.{Result, Ok, Err}
use Rattle.c_grammar.specs.declared.symbol.Symbol.{Symbol}
use Rattle.c_grammar.specs.declared.symbol.Symbol.TheVariants as symbol
use Rattle.c_grammar.specs.Parts.{Token, Part, token, word}
use Rattle.right_reading.specs.ReadDeclarations.{word_at}
use Rattle.c_grammar.specs.Spelling.{Spells}
use Rattle.c_grammar.specs.Spelling as spelling
use Rattle.c_grammar.specs.Spots.{Spot}
use Rattle.right_reading.specs.Stream.{ahead, Fault, Parser, ◌>>=◌}
use Rattle.right_reading.proofs.Composed.Alternatives.{by_seen, renamed, again, word_right}
use Rattle.right_reading.proofs.Composed.Dependent.{then_right, then_read, seen_by}
use Rattle.right_reading.specs.Right.{first, Ends, Read, Right, always}
use Rattle.right_reading.proofs.Composed.Rules.{symbol_of_token, token-ahead}
use Rattle.c_grammar.proofs.Sequences.{from_token, from_nothing}
use Rattle.right_reading.proofs.Composed.Shifts.{unshift}
use Rattle.right_reading.proofs.Composed.Steps.{Seen, Right-after, both_stops}
use Rattle.right_reading.proofs.OneToken.Tokens.{ahead-same}

-- fewer symbols may follow
pub stricter : {A : Type 0} (of : A → List Part) (limit : ℕ) (stops stops' : A → Symbol → Bool) (before i : List Spot) → ((a : A) (s : Symbol) → stops' a s ≡ true → stops a s ≡ true)
    → (y : Result (A × List Spot) Fault) → Right of limit stops before i y → Right of limit stops' before i y
stricter of limit stops stops' before i less y r =
    again of limit stops' before i y (by_seen (renamed of of limit stops stops' before i (λ a. a) (λ a. a) (λ a. refl) (λ a. refl) (λ a. refl) less) y r)

-- two steps as one
pub fused : {A C : Type 0} {B : A → Type 0} (y : Result (A × List Spot) Fault) (q : (a : A) → Parser (B a)) (f : (a : A) → B a → C)
    → (y >>= (λ x. seen_by (f x.0) (q x.0 x.1))) ≡ seen_by (λ (z : (a : A) × B a). f z.0 z.1) (then_read y q)
fused {A} {C} {B} (Ok x) q f = step (q x.0 x.1)
  where
    step : (m : Result (B x.0 × List Spot) Fault) → seen_by (f x.0) m ≡ seen_by (λ (z : (a : A) × B a). f z.0 z.1) (m >>= (λ y. Ok ((x.0, y.0), y.1)))
    step (Ok y) = refl
    step (Err g) = refl
fused (Err g) q f = refl

-- twice seen
pub seen_twice : {A B C : Type 0} (f : A → B) (g : B → C) (y : Result (A × List Spot) Fault) → seen_by g (seen_by f y) ≡ seen_by (λ x. g (f x)) y
seen_twice f g (Ok x) = refl
seen_twice f g (Err h) = refl

-- ---- a word after something

abbrev pub word_after : {A : Type 0} → Symbol → Result (A × List Spot) Fault → Result (A × List Spot) Fault
word_after s y = y >>= (λ x. word_at s x.1 >>= (λ z. Ok (x.0, z.1)))

pub then_word : {A : Type 0} (s : Symbol) → s ≢ symbol.End → (of : A → List Part) (limit : ℕ) (stops : A → Symbol → Bool) → ((a : A) → stops a s ≡ true) → (i : List Spot)
    → (y : Result (A × List Spot) Fault) → Right of limit stops [] i y → Right (λ a. of a ++ word s ∷ []) limit always [] i (word_after s y)
then_word {A} s more of limit stops at_word i y r =
    subst (Right (λ a. of a ++ word s ∷ []) limit always [] i) (sym (fused y (λ x. word_at s) (λ x u. x)))
    (by_seen (renamed (λ (x : A × Unit {0}). of x.0 ++ word s ∷ []) (λ a. of a ++ word s ∷ []) limit always always [] i (λ x. x.0) (λ a. (a, tt)) (λ a. refl) (λ a. refl) (λ a. refl) (λ a t e. refl))
    (then_read y (λ x. word_at s))
    (then_right of (λ x u. word s ∷ []) limit stops (λ x. always) (λ a b c v t sp st. ap (stops a) (token-ahead t sp) ∙ at_word a) (λ a. tt) y (λ x. word_at s) [] i r
    (λ a j read. word_right s more limit j read.ends)))

-- ---- what is ahead of a node

pub early_ahead : (u1 u2 v w s : List Spot) → w ≡ (u1 ++ u2) ++ v → ahead (w ++ s) ≡ ahead (u1 ++ (u2 ++ (v ++ s)))
early_ahead u1 u2 v w s e =
    let e2 : ((u1 ++ u2) ++ v) ++ s ≡ u1 ++ (u2 ++ (v ++ s)) = simp append_assoc in
    ap (λ (x : List Spot). ahead (x ++ s)) e ∙ ap ahead e2

pub early_token : {t : Token} {qs : List Part} {c : ℕ} (u1 u2 v w s : List Spot) → w ≡ (u1 ++ u2) ++ v → Spells (token t ∷ qs) c u1 → ahead (w ++ s) ≡ symbol_of_token t
early_token u1 u2 v w s e sp = early_ahead u1 u2 v w s e ∙ token-ahead (u2 ++ (v ++ s)) sp

-- what is ahead of what follows a node with nothing in it
pub nothing_ahead : {c1 c2 : ℕ} (u1 u2 v w s : List Spot) → w ≡ (u1 ++ u2) ++ v → Spells [] c1 u1 → Spells [] c2 u2 → ahead (w ++ s) ≡ ahead (v ++ s)
nothing_ahead u1 u2 v w s e sp sq =
    ap (λ (x : List Spot). ahead (x ++ s)) (e ∙ ap (λ (x : List Spot). (x ++ u2) ++ v) (from_nothing sp).tokens ∙ ap (λ (x : List Spot). x ++ v) (from_nothing sq).tokens)

-- what is ahead, by the first token of a rule
pub rule_ahead : {t : Token} {qs : List Part} {c : ℕ} (u1 u2 s r i : List Spot) → Spells (token t ∷ qs) c u1 → (u1 ++ u2) ++ s ≡ r → first r ≡ first i → ahead i ≡ symbol_of_token t
rule_ahead u1 u2 s r i sp e h = sym (ap ahead e ∙ ahead-same r i h) ∙ ap ahead (append_assoc u1 u2 s) ∙ token-ahead (u2 ++ s) sp

-- a rule with nothing in it
pub rule_nothing : {c d : ℕ} (u1 u2 s r : List Spot) → Spells [] c u1 → Spells [] d u2 → (u1 ++ u2) ++ s ≡ r → s ≡ r
rule_nothing u1 u2 s r sp sq e = ap (λ (w : List Spot). w ++ s) (sym (ap (λ (w : List Spot). w ++ u2) (from_nothing sp).tokens ∙ (from_nothing sq).tokens)) ∙ e

-- what a rule has after its first token
pub record Next (ps : List Part) (u2 s r : List Spot) (d : ℕ) : Type 0 where
  pub w : List Spot
  pub spelled : Spells ps d w
  pub tokens : w ++ (u2 ++ s) ≡ r

pub rule_next : {t : Token} {ps : List Part} {d : ℕ} (c : Spot) (u1 u2 s r : List Spot) → Spells (token t ∷ ps) d u1 → (u1 ++ u2) ++ s ≡ c ∷ r → Next ps u2 s r d
rule_next c u1 u2 s r sp e =
    let t = from_token sp in
    let e2 : t.x ∷ (t.rest ++ (u2 ++ s)) ≡ c ∷ r = sym (append_assoc (t.x ∷ t.rest) u2 s) ∙ ap (λ (w : List Spot). (w ++ u2) ++ s) (sym t.tokens) ∙ e in
    record { w = t.rest; spelled = t.after; tokens = cc }

-- ---- two words that were gone over

two_gone : (s t : Symbol) (limit : ℕ) (c o : Spot) (cs : List Spot) → c.symbol ≡ s → o.symbol ≡ t → Ends cs
    → Read (λ (u : Unit {0}). word s ∷ word t ∷ []) limit always (c ∷ o ∷ []) cs tt cs
two_gone s t limit c o cs is is2 ends =
    let only = λ (a : Unit {0}) (d : ℕ) (v z r : List Spot) (sp : Spells (word s ∷ word t ∷ []) d v) (st : true ≡ true) (e : v ++ z ≡ c ∷ o ∷ r) (h : first r ≡ first cs).
    let x = from_token sp in
    let y = from_token x.after in
    let n = from_nothing y.after in
    let tokens : v ≡ x.x ∷ y.x ∷ [] = x.tokens ∙ ap (λ (w : List Spot). x.x ∷ w) (y.tokens ∙ ap (λ (w : List Spot). y.x ∷ w) n.tokens) in
    let e2 : x.x ∷ y.x ∷ z ≡ c ∷ o ∷ r = ap (λ (w : List Spot). w ++ z) (sym tokens) ∙ e in
    let same : z ≡ r = cc in
    let both : (a ≡ tt) × (z ≡ r) = (refl, same) in
    both in
    record { more = []; depth = 0; whole = refl; spelled = spelling.quoted is (spelling.quoted is2 spelling.nothing); within = omega arith; ends = ends; only = only }

pub two_words_then : {B X : Type 0} (s t : Symbol) (of_b : B → List Part) (of_x : X → List Part) (limit : ℕ) (stops_b : B → Symbol → Bool) (stops_x : X → Symbol → Bool) (mk : B → X)
    (c o : Spot) (cs : List Spot) → c.symbol ≡ s → o.symbol ≡ t → Ends cs
    → Seen (λ b. word s ∷ word t ∷ of_b b) of_x limit limit stops_b stops_x (c ∷ o ∷ []) cs mk
    → (y : Result (B × List Spot) Fault) → Right of_b limit stops_b [] cs y → Right of_x limit stops_x [] (c ∷ o ∷ cs) (seen_by mk y)
two_words_then {B} {X} s t of_b of_x limit stops_b stops_x mk c o cs is is2 ends seen y r = step y r
  where
    seen2 : Seen (λ (x : Unit {0} × B). word s ∷ word t ∷ of_b x.1) of_x limit limit (both_stops stops_b) stops_x (c ∷ o ∷ []) cs (λ x. mk x.1)
    seen2 = record { forth = λ a d u sp. seen.forth a.1 d u sp; front = λ a d u f. seen.front a.1 d u f; back = λ x d v s r sp st e h. let k = seen.back x d v s r sp st e h in ((tt, k.0), k.1, k.2, k.3, k.4, k.5) }

    step : (y : Result (B × List Spot) Fault) → Right of_b limit stops_b [] cs y → Right of_x limit stops_x [] (c ∷ o ∷ cs) (seen_by mk y)
    step (Ok z) r =
        unshift of_x limit stops_x [] (c ∷ o ∷ []) (c ∷ o ∷ cs) cs refl (Ok (mk z.0, z.1))
        (by_seen seen2 (Ok ((tt, z.0), z.1)) (Right-after (λ (u : Unit {0}). word s ∷ word t ∷ []) of_b limit always stops_b (λ a b d v s sp st. refl) (c ∷ o ∷ []) cs tt cs (two_gone s t limit c o cs is is2 ends) (Ok z) r))
    step (Err f) r =
        unshift of_x limit stops_x [] (c ∷ o ∷ []) (c ∷ o ∷ cs) cs refl (Err f)
        (by_seen seen2 (Err f) (Right-after (λ (u : Unit {0}). word s ∷ word t ∷ []) of_b limit always stops_b (λ a b d v s sp st. refl) (c ∷ o ∷ []) cs tt cs (two_gone s t limit c o cs is is2 ends) (Err f) r))
