-- Reading one token, one thing after another, and a part of the tree by its rule.
use Rattle.std.proofs.Common.{◌≡◌, ◌≢◌, ℕ, ◌≤◌, ◌<◌, Bool, true, false, List, [], ◌∷◌, ◌++◌, Some, ◌⊎◌, inl, inr, refl, ap, subst, ◌∙◌, sym, arith}
use Rattle.std.specs.Prelude.{Result, Ok, Err}
use Rattle.c_grammar.specs.declared.symbol.Symbol.{Symbol}
use Rattle.c_grammar.specs.declared.symbol.Symbol.TheVariants.{End}
use Rattle.c_grammar.specs.Parts.{Token, Part, token, Is}
use Rattle.c_grammar.specs.Spelling.{Spells, Front}
use Rattle.c_grammar.specs.Spelling as spelling
use Rattle.c_grammar.specs.Spots.{Spot, here}
use Rattle.right_reading.specs.Stream.{Fault, both, Parser, ◌>>=◌}
use Rattle.right_reading.proofs.Composed.Dependent.{first-append, refused_one, then_after, then_right}
use Rattle.right_reading.specs.Right.{first, first_only, Ends, Stops, Read, Bad, HasFront, Refused, Right, always}
use Rattle.c_grammar.proofs.Sequences.{from_token, from_nothing}

-- ---- one after the other

abbrev pub both_parts : {A B : Type 0} → (A → List Part) → (B → List Part) → A × B → List Part
both_parts of_a of_b x = of_a x.0 ++ of_b x.1

abbrev pub both_stops : {A B : Type 0} → (B → Symbol → Bool) → A × B → Symbol → Bool
both_stops stops x s = stops x.1 s

-- what may follow the first thing: the second thing, and what may follow that
abbrev pub Follows : {A B : Type 0} → (A → Symbol → Bool) → (B → List Part) → (B → Symbol → Bool) → Type 0
Follows {A} {B} stops_a of_b stops_b = (a : A) (b : B) (c : ℕ) (v s : List Spot) → Spells (of_b b) c v → Stops stops_b b s → Stops stops_a a (v ++ s)

module _ {A B : Type 0} (of_a : A → List Part) (of_b : B → List Part) (limit : ℕ) (stops_a : A → Symbol → Bool) (stops_b : B → Symbol → Bool) (follows : Follows stops_a of_b stops_b) where
  -- the first thing is refused; b is anything of its kind
  pub refused_first : B → (before i : List Spot) (f : Fault) → Refused of_a limit stops_a before i f → Refused (both_parts of_a of_b) limit (both_stops stops_b) before i f
  refused_first b = refused_one of_a (λ a. of_b) limit stops_a (λ a. stops_b) follows (λ a. b)

  -- the second thing after the first, which is read
  pub Right-after : (before i : List Spot) (a : A) (j : List Spot) → Read of_a limit stops_a before i a j → (y : Result (B × List Spot) Fault) → Right of_b limit stops_b [] j y
      → Right (both_parts of_a of_b) limit (both_stops stops_b) before i (y >>= (λ z. Ok ((a, z.0), z.1)))
  Right-after = then_after of_a (λ a. of_b) limit stops_a (λ a. stops_b) follows

  -- one after the other, where the second is read rightly after the first
  pub Right-both : B → (p : Parser A) (q : Parser B) (before i : List Spot) → Right of_a limit stops_a before i (p i) → ((j : List Spot) → Ends j → Right of_b limit stops_b [] j (q j))
      → Right (both_parts of_a of_b) limit (both_stops stops_b) before i (both p q i)
  Right-both b p q before i r next = then_right of_a (λ a. of_b) limit stops_a (λ a. stops_b) follows (λ a. b) (p i) (λ a. q) before i r (λ a j read. next j read.ends)

-- ---- a token

-- x is the first token, which is taken
pub Read-token : {A : Type 0} (of : A → Token) (limit : ℕ) (a : A) (x : Spot) (xs : List Spot) → Is (of a) x → (x.symbol ≢ End) → ((a' : A) → Is (of a') x → a' ≡ a) → Ends (x ∷ xs)
    → Read (λ a. token (of a) ∷ []) limit always [] (x ∷ xs) a xs
Read-token {A} of limit a x xs is more same ends =
    record { more = x ∷ []; depth = 0; whole = refl; spelled = spelling.quoted is spelling.nothing; within = omega arith; ends = left ends; only = only }
  where
    left : (x.symbol ≡ End) ⊎ Ends xs → Ends xs
    left (inl e) = absurd (more e)
    left (inr e) = e

    only : (a' : A) (c : ℕ) (v s r : List Spot) → Spells (token (of a') ∷ []) c v → Stops always a' s → v ++ s ≡ x ∷ r → first r ≡ first xs → (a' ≡ a) × (s ≡ r)
    only a' c v s r sp st e h =
        let t = from_token sp in
        let n = from_nothing t.after in
        let e2 : t.x ∷ s ≡ x ∷ r = sym (ap (λ (w : List Spot). w ++ s) (t.tokens ∙ ap (λ (w : List Spot). t.x ∷ w) n.tokens)) ∙ e in
        let ex : t.x ≡ x = cc in
        let es : s ≡ r = cc in
        (same a' (subst (λ (y : Spot). Is (of a') y) ex t.is), es)

-- no such token is first
pub Refused-token : {A : Type 0} (of : A → Token) (limit : ℕ) (a : A) (i : List Spot) → Ends i → ((a' : A) (x : Spot) → first i ≡ Some x → Is (of a') x → ⊥)
    → Refused (λ a. token (of a) ∷ []) limit always [] i (record { deep = false; at = here i })
Refused-token {A} of limit a i ends none = record { more = []; rest = i; whole = refl; place = refl; ends = ends; dead = dead; front = (a, 0, spelling.lacking) }
  where
    dead : (a' : A) (c : ℕ) (v s r : List Spot) → Spells (token (of a') ∷ []) c v → Stops always a' s → v ++ s ≡ r → first r ≡ first i → ⊥
    dead a' c v s r sp st e h =
        let t = from_token sp in
        let e2 : first (v ++ s) ≡ Some t.x = ap (λ (w : List Spot). first (w ++ s)) t.tokens in
        none a' t.x (sym h ∙ ap first (sym e) ∙ e2) t.is

-- ---- what is read, seen as something else: each A is an X, and each X that begins so is an A

pub record Seen {A X : Type 0} (of_a : A → List Part) (of_x : X → List Part) (limit limit' : ℕ) (stops_a : A → Symbol → Bool) (stops_x : X → Symbol → Bool) (before i : List Spot) (mk : A → X) : Type 0 where
  pub forth : (a : A) (c : ℕ) (u : List Spot) → Spells (of_a a) c u → (d : ℕ) × Spells (of_x (mk a)) d u × (c ≤ limit → d ≤ limit')
  pub front : (a : A) (c : ℕ) (u : List Spot) → Front (of_a a) c u → (d : ℕ) × Front (of_x (mk a)) d u × (limit < c → limit' < d)
  pub back : (x : X) (d : ℕ) (v s r : List Spot) → Spells (of_x x) d v → Stops stops_x x s → v ++ s ≡ before ++ r → first r ≡ first i
      → (a : A) × (c : ℕ) × (x ≡ mk a) × Spells (of_a a) c v × Stops stops_a a s × (limit < c → limit' < d)

bad_less : (deep : Bool) (limit limit' c d : ℕ) → (limit < c → limit' < d) → Bad deep limit c → Bad deep limit' d
bad_less false limit limit' c d more bad = bad
bad_less true limit limit' c d more bad = more bad

module _ {A X : Type 0} (of_a : A → List Part) (of_x : X → List Part) (limit limit' : ℕ) (stops_a : A → Symbol → Bool) (stops_x : X → Symbol → Bool) (before i : List Spot) (mk : A → X) (is : Seen of_a of_x limit limit' stops_a stops_x before i mk) where
  seen_front : (deep : Bool) (tokens rest : List Spot) → HasFront of_a limit deep tokens rest → HasFront of_x limit' deep tokens rest
  seen_front false tokens rest h = let f = is.front h.0 h.1 tokens h.2 in (mk h.0, f.0, f.1)
  seen_front true tokens rest h = pick h.2
    where
      pick : Front (of_a h.0) h.1 tokens ⊎ Front (of_a h.0) h.1 (tokens ++ first_only rest) → HasFront of_x limit' true tokens rest
      pick (inl f) = let g = is.front h.0 h.1 tokens f in (mk h.0, g.0, inl g.1, g.2 h.3, h.4)
      pick (inr f) = let g = is.front h.0 h.1 (tokens ++ first_only rest) f in (mk h.0, g.0, inr g.1, g.2 h.3, h.4)

  pub Right-seen : (y : Result (A × List Spot) Fault) → Right of_a limit stops_a before i y → Right of_x limit' stops_x before i (y >>= (λ z. Ok (mk z.0, z.1)))
  Right-seen (Ok z) r =
      let f = is.forth z.0 r.depth (before ++ r.more) r.spelled in
      let only = λ (x : X) (c : ℕ) (v s t : List Spot) (sp : Spells (of_x x) c v) (st : Stops stops_x x s) (e : v ++ s ≡ before ++ (r.more ++ t)) (h : first t ≡ first z.1).
      let h2 : first (r.more ++ t) ≡ first i = first-append r.more t z.1 h ∙ ap first (sym r.whole) in
      let b = is.back x c v s (r.more ++ t) sp st e h2 in
      let o = r.only b.0 b.1 v s t b.3 b.4 e h in
      let same : (x ≡ mk z.0) × (s ≡ t) = (b.2 ∙ ap mk o.0, o.1) in
      same in
      record { more = r.more; depth = f.0; whole = r.whole; spelled = f.1; within = f.2 r.within; ends = r.ends; only = only }
  Right-seen (Err g) r =
      let dead = λ (x : X) (c : ℕ) (v s t : List Spot) (sp : Spells (of_x x) c v) (st : Stops stops_x x s) (e : v ++ s ≡ before ++ (r.more ++ t)) (h : first t ≡ first r.rest).
      let h2 : first (r.more ++ t) ≡ first i = first-append r.more t r.rest h ∙ ap first (sym r.whole) in
      let b = is.back x c v s (r.more ++ t) sp st e h2 in
      bad_less g.deep limit limit' b.1 c b.5 (r.dead b.0 b.1 v s t b.3 b.4 e h) in
      record { more = r.more; rest = r.rest; whole = r.whole; place = r.place; ends = r.ends; dead = dead; front = seen_front g.deep (before ++ r.more) r.rest r.front }
