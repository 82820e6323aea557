-- Reading by cases: what may be there, and what is one of several things.
use Rattle.std.proofs.Common.{◌≡◌, ◌≢◌, ℕ, Bool, true, List, [], ◌∷◌, ◌++◌, inl, inr, refl, ap, subst, ◌∙◌, sym, arith}
use Rattle.std.specs.Prelude.{Result, Ok, Err}
use Rattle.sat_base.specs.declared.name.At.{At}
use Rattle.c_grammar.specs.declared.symbol.Symbol.{Symbol}
use Rattle.c_grammar.specs.declared.symbol.Symbol.TheVariants as symbol
use Rattle.c_grammar.specs.Grammar.{Rule}
use Rattle.c_grammar.specs.Nodes.{Node}
use Rattle.c_grammar.specs.Parts.{Token, Any, Part, token, node, Is, word, kept}
use Rattle.right_reading.specs.ReadDeclarations.{word_at}
use Rattle.c_grammar.specs.Spelling.{Spells, Front}
use Rattle.c_grammar.specs.Spelling as spelling
use Rattle.c_grammar.specs.Spots.{Spot}
use Rattle.right_reading.specs.Stream.{ahead, Fault, take_at, ◌>>=◌}
use Rattle.right_reading.specs.Right.{first, Ends, Stops, Read, Right, always}
use Rattle.right_reading.proofs.Composed.Rules.{Choice, symbol_of_token, token-ahead, no_parts, early_seen}
use Rattle.c_grammar.proofs.Sequences.{from_token, from_nothing}
use Rattle.right_reading.proofs.Composed.Shifts.{unshift}
use Rattle.right_reading.proofs.Composed.Steps.{Seen, Right-seen, Right-after, both_stops}
use Rattle.right_reading.proofs.OneToken.Tokens.{take_right, ahead-same}

-- what is read, seen as something else
pub by_seen : {A X : Type 0} {of_a : A → List Part} {of_x : X → List Part} {limit limit' : ℕ} {stops_a : A → Symbol → Bool} {stops_x : X → Symbol → Bool} {before i : List Spot} {mk : A → X}
    → Seen of_a of_x limit limit' stops_a stops_x before i mk → (y : Result (A × List Spot) Fault) → Right of_a limit stops_a before i y → Right of_x limit' stops_x before i (y >>= (λ z. Ok (mk z.0, z.1)))
by_seen {of_a = of_a} {of_x = of_x} {limit = limit} {limit' = limit'} {stops_a = stops_a} {stops_x = stops_x} {before = before} {i = i} {mk = mk} is y r =
    Right-seen of_a of_x limit limit' stops_a stops_x before i mk is y r

-- ---- what is ahead

-- what is ahead of all that begins as i does, where it begins with this token
pub ahead_is : {t : Token} {ps : List Part} {c : ℕ} {u : List Spot} (s r i : List Spot) → Spells (token t ∷ ps) c u → u ++ s ≡ r → first r ≡ first i → ahead i ≡ symbol_of_token t
ahead_is s r i sp e h = sym (ap ahead e ∙ ahead-same r i h) ∙ token-ahead s sp

-- what follows is a token of this kind
pub follows_token : {t : Token} {ps : List Part} {c : ℕ} {v : List Spot} (stops : Symbol → Bool) (s : List Spot) → Spells (token t ∷ ps) c v → stops (symbol_of_token t) ≡ true → stops (ahead (v ++ s)) ≡ true
follows_token stops s sp e = ap stops (token-ahead s sp) ∙ e

-- what follows is nothing, and then s
pub follows_nothing : {c : ℕ} {v : List Spot} (stops : Symbol → Bool) (s : List Spot) → Spells [] c v → stops (ahead s) ≡ true → stops (ahead (v ++ s)) ≡ true
follows_nothing {v = v} stops s sp e = ap (λ (w : List Spot). stops (ahead (w ++ s))) (from_nothing sp).tokens ∙ e

-- ---- one of several

module _ {A X : Type 0} (of_x : X → List Part) (limit : ℕ) (stops_x : X → Symbol → Bool) (before i : List Spot) (mk : A → X) where
  -- each x that begins so is an mk
  pub alternative : ((x : X) (c : ℕ) (v s r : List Spot) → Spells (of_x x) c v → Stops stops_x x s → v ++ s ≡ before ++ r → first r ≡ first i → (a : A) × (x ≡ mk a))
      → Seen (λ a. of_x (mk a)) of_x limit limit (λ a. stops_x (mk a)) stops_x before i mk
  alternative which = record {
    forth = λ a c u sp. (c, sp, λ le. le);
    front = λ a c u f. (c, f, λ lt. lt);
    back = λ x d v s r sp st e h.
        let k = which x d v s r sp st e h in
        (k.0, d, k.1, subst (λ (y : X). Spells (of_x y) d v) k.1 sp, subst (λ (y : X). Stops stops_x y s) k.1 st, λ lt. lt);
  }

-- the same parts under another name
pub renamed : {A X : Type 0} (of_a : A → List Part) (of_x : X → List Part) (limit : ℕ) (stops_a : A → Symbol → Bool) (stops_x : X → Symbol → Bool) (before i : List Spot) (mk : A → X) (inverse : X → A)
    → ((x : X) → x ≡ mk (inverse x)) → ((a : A) → of_a a ≡ of_x (mk a)) → ((x : X) → of_x x ≡ of_a (inverse x)) → ((x : X) (s : Symbol) → stops_x x s ≡ true → stops_a (inverse x) s ≡ true)
    → Seen of_a of_x limit limit stops_a stops_x before i mk
renamed of_a of_x limit stops_a stops_x before i mk inverse same forth back stops = record {
  forth = λ a c u sp. (c, subst (λ (ps : List Part). Spells ps c u) (forth a) sp, λ le. le);
  front = λ a c u f. (c, subst (λ (ps : List Part). Front ps c u) (forth a) f, λ lt. lt);
  back = λ x d v s r sp st e h. (inverse x, d, same x, subst (λ (ps : List Part). Spells ps d v) (back x) sp, stops x (ahead s) st, λ lt. lt);
}

-- ---- nothing

-- nothing is read
pub nothing_right : {A : Type 0} (of : A → List Part) (limit : ℕ) (stops : A → Symbol → Bool) (i : List Spot) (a : A) → Ends i → of a ≡ []
    → ((x : A) (c : ℕ) (v s r : List Spot) → Spells (of x) c v → Stops stops x s → v ++ s ≡ r → first r ≡ first i → (x ≡ a) × (v ≡ []))
    → Read of limit stops [] i a i
nothing_right of limit stops i a ends none which =
    let only = λ (x : _) (c : ℕ) (v s r : List Spot) (sp : Spells (of x) c v) (st : Stops stops x s) (e : v ++ s ≡ r) (h : first r ≡ first i).
    let k = which x c v s r sp st e h in
    let same : (x ≡ a) × (s ≡ r) = (k.0, ap (λ (w : List Spot). w ++ s) (sym k.1) ∙ e) in
    same in
    record { more = []; depth = 0; whole = refl; spelled = subst (λ (ps : List Part). Spells ps 0 []) (sym none) spelling.nothing; within = omega arith; ends = ends; only = only }

-- a node that is nothing here
pub no_node : {A : Type 0} (n : A → Node) (limit : ℕ) (stops : A → Symbol → Bool) (i : List Spot) (a : A) → Ends i → Rule (n a) [] []
    → Choice {A = Unit {0}} n no_parts no_parts always stops [] i (λ u. a)
    → Right (λ x. node (n x) ∷ []) limit stops [] i (Ok (a, i))
no_node n limit stops i a ends rule choice =
    by_seen (early_seen n no_parts limit always stops [] i (λ (u : Unit {0}). a) (λ u. rule) choice) (Ok (tt, i))
    (nothing_right no_parts limit always i tt ends refl (λ x c v s r sp st e h. (refl, (from_nothing sp).tokens)))

-- ---- words

pub word_right : (s : Symbol) → s ≢ symbol.End → (limit : ℕ) (i : List Spot) → Ends i → Right (λ (u : Unit {0}). word s ∷ []) limit always [] i (word_at s i)
word_right s more limit i ends = by_seen {of_x = λ (u : Unit {0}). word s ∷ []} {limit' = limit} {stops_x = always} seen (take_at s i) (take_right s more limit i ends)
  where
    seen : Seen (λ (at : At). kept s at ∷ []) (λ (u : Unit {0}). word s ∷ []) limit limit always always [] i (λ at. tt)
    seen = record {
      forth = λ at c u sp. let t = from_token sp in (c, subst (λ (w : List Spot). Spells (word s ∷ []) c w) (sym t.tokens) (spelling.quoted t.is.0 t.after), λ le. le);
      front = λ at c u f. (c, front at f, λ lt. lt);
      back = λ x d v s' r sp st e h.
          let t = from_token sp in
          (t.x.at, d, refl, subst (λ (w : List Spot). Spells (kept s t.x.at ∷ []) d w) (sym t.tokens) (spelling.quoted (t.is, refl) t.after), refl, λ lt. lt);
    }
      where
        front : {c : ℕ} {u : List Spot} (at : At) → Front (kept s at ∷ []) c u → Front (word s ∷ []) c u
        front at spelling.lacking = spelling.lacking
        front at (spelling.quoted is f) = spelling.quoted is.0 f

-- ---- after a token that was seen ahead

pub ends_after : (c : Spot) (cs : List Spot) {s : Symbol} → c.symbol ≡ s → s ≢ symbol.End → Ends (c ∷ cs) → Ends cs
ends_after c cs is more (inl e) = absurd (more (sym is ∙ e))
ends_after c cs is more (inr e) = e

-- the token was gone over before
token_gone : {A : Type 0} (of : A → Token) (limit : ℕ) (a : A) (c : Spot) (cs : List Spot) → Is (of a) c → ((a' : A) → Is (of a') c → a' ≡ a) → Ends cs
    → Read (λ a. token (of a) ∷ []) limit always (c ∷ []) cs a cs
token_gone {A} of limit a c cs is same ends =
    let only = λ (a' : A) (d : ℕ) (v s r : List Spot) (sp : Spells (token (of a') ∷ []) d v) (st : Stops always a' s) (e : v ++ s ≡ c ∷ r) (h : first r ≡ first cs).
    let t = from_token sp in
    let n = from_nothing t.after in
    let e2 : t.x ∷ s ≡ c ∷ r = sym (ap (λ (w : List Spot). w ++ s) (t.tokens ∙ ap (λ (w : List Spot). t.x ∷ w) n.tokens)) ∙ e in
    let ex : t.x ≡ c = cc in
    let es : s ≡ r = cc in
    let both : (a' ≡ a) × (s ≡ r) = (same a' (subst (λ (y : Spot). Is (of a') y) ex t.is), es) in
    both in
    record { more = []; depth = 0; whole = refl; spelled = spelling.quoted is spelling.nothing; within = omega arith; ends = ends; only = only }

module _ {A B X : Type 0} (of : A → Token) (of_b : B → List Part) (of_x : X → List Part) (limit : ℕ) (stops_b : B → Symbol → Bool) (stops_x : X → Symbol → Bool) (mk : A × B → X) where
  -- what stands after a token that is known
  pub token_then : (a : A) (c : Spot) (cs : List Spot) → Is (of a) c → ((a' : A) → Is (of a') c → a' ≡ a) → Ends cs
      → Seen (λ x. token (of x.0) ∷ of_b x.1) of_x limit limit (both_stops stops_b) stops_x (c ∷ []) cs mk
      → (y : Result (B × List Spot) Fault) → Right of_b limit stops_b [] cs y → Right of_x limit stops_x [] (c ∷ cs) (y >>= (λ z. Ok (mk (a, z.0), z.1)))
  token_then a c cs is same ends seen (Ok z) r =
      unshift of_x limit stops_x [] (c ∷ []) (c ∷ cs) cs refl (Ok (mk (a, z.0), z.1))
      (by_seen seen (Ok ((a, z.0), z.1)) (Right-after (λ a. token (of a) ∷ []) of_b limit always stops_b (λ a b d v s sp st. refl) (c ∷ []) cs a cs (token_gone of limit a c cs is same ends) (Ok z) r))
  token_then a c cs is same ends seen (Err f) r =
      unshift of_x limit stops_x [] (c ∷ []) (c ∷ cs) cs refl (Err f)
      (by_seen seen (Err f) (Right-after (λ a. token (of a) ∷ []) of_b limit always stops_b (λ a b d v s sp st. refl) (c ∷ []) cs a cs (token_gone of limit a c cs is same ends) (Err f) r))

pub word_then : {B X : Type 0} (s : Symbol) → s ≢ symbol.End → (of_b : B → List Part) (of_x : X → List Part) (limit : ℕ) (stops_b : B → Symbol → Bool) (stops_x : X → Symbol → Bool) (mk : B → X)
    (c : Spot) (cs : List Spot) → c.symbol ≡ s → Ends (c ∷ cs)
    → Seen (λ b. word s ∷ of_b b) of_x limit limit stops_b stops_x (c ∷ []) cs mk
    → (y : Result (B × List Spot) Fault) → Right of_b limit stops_b [] cs y → Right of_x limit stops_x [] (c ∷ cs) (y >>= (λ z. Ok (mk z.0, z.1)))
word_then {B} {X} s more of_b of_x limit stops_b stops_x mk c cs is ends seen y r =
    token_then (λ (u : Unit {0}). Any s) of_b of_x limit stops_b stops_x (λ x. mk x.1) tt c cs is (λ u q. refl) (ends_after c cs is more ends)
    (record { forth = λ a d u sp. seen.forth a.1 d u sp; front = λ a d u f. seen.front a.1 d u f; back = λ x d v s r sp st e h. let k = seen.back x d v s r sp st e h in ((tt, k.0), k.1, k.2, k.3, k.4, k.5) }) y r

-- what is read, with nothing changed
pub again : {A : Type 0} (of : A → List Part) (limit : ℕ) (stops : A → Symbol → Bool) (before i : List Spot) (y : Result (A × List Spot) Fault) → Right of limit stops before i (y >>= (λ z. Ok (z.0, z.1))) → Right of limit stops before i y
again of limit stops before i (Ok z) r = r
again of limit stops before i (Err f) r = r

-- the same parts with the word in front
pub after_word : {B : Type 0} (s : Symbol) → s ≢ symbol.End → (of_b : B → List Part) (limit : ℕ) (stops_b : B → Symbol → Bool) (c : Spot) (cs : List Spot) → c.symbol ≡ s → Ends (c ∷ cs)
    → (y : Result (B × List Spot) Fault) → Right of_b limit stops_b [] cs y → Right (λ b. word s ∷ of_b b) limit stops_b [] (c ∷ cs) y
after_word {B} s more of_b limit stops_b c cs is ends y r =
    again (λ b. word s ∷ of_b b) limit stops_b [] (c ∷ cs) y
    (word_then s more of_b (λ b. word s ∷ of_b b) limit stops_b stops_b (λ b. b) c cs is ends
    (renamed (λ b. word s ∷ of_b b) (λ b. word s ∷ of_b b) limit stops_b stops_b (c ∷ []) cs (λ (b : B). b) (λ b. b) (λ b. refl) (λ b. refl) (λ b. refl) (λ b s e. e)) y r)
