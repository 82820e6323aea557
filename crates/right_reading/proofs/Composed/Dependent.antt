-- Reading one thing after another where the kind of the second depends on the first.
use Rattle.std.proofs.Common.{◌≡◌, ℕ, max, ◌≤◌, Bool, true, false, List, [], ◌∷◌, ◌++◌, refl, ◌⊎◌, inl, inr, ap, subst, ◌∙◌, sym, arith}
use Rattle.std.proofs.lemmas.List.{append_assoc}
use Rattle.std.specs.Prelude.{Result, Ok, Err}
use Rattle.c_grammar.specs.declared.symbol.Symbol.{Symbol}
use Rattle.c_grammar.specs.Parts.{Part}
use Rattle.c_grammar.specs.Spelling.{Spells, Front}
use Rattle.c_grammar.specs.Spots.{Spot}
use Rattle.right_reading.specs.Stream.{Fault, Parser, ◌>>=◌}
use Rattle.right_reading.specs.Right.{first, first_only, Stops, Read, Bad, HasFront, Refused, Right}
use Rattle.c_grammar.proofs.Sequences.{split, join, Front-more, Front-after}

pub bad_more : (deep : Bool) (limit c d : ℕ) → c ≤ d → Bad deep limit c → Bad deep limit d
bad_more false limit c d le bad = bad
bad_more true limit c d le bad = omega arith

-- the first token after some is the same where what is after them begins alike
pub first-append : (t r s : List Spot) → first r ≡ first s → first (t ++ r) ≡ first (t ++ s)
first-append [] r s h = h
first-append (x ∷ xs) r s h = refl

abbrev pub then_parts : {A : Type 0} {B : A → Type 0} → (A → List Part) → ((a : A) → B a → List Part) → (a : A) × B a → List Part
then_parts of_a of_b x = of_a x.0 ++ of_b x.0 x.1

abbrev pub then_stops : {A : Type 0} {B : A → Type 0} → ((a : A) → B a → Symbol → Bool) → (a : A) × B a → Symbol → Bool
then_stops stops x s = stops x.0 x.1 s

-- one result after the other
abbrev pub then_read : {A : Type 0} {B : A → Type 0} → Result (A × List Spot) Fault → ((a : A) → Parser (B a)) → Result (((a : A) × B a) × List Spot) Fault
then_read x q = x >>= (λ x. q x.0 x.1 >>= (λ y. Ok ((x.0, y.0), y.1)))

-- a result
abbrev pub read_as : {A : Type 0} → A → List Spot → Result (A × List Spot) Fault
read_as a j = Ok (a, j)

-- a result, seen by a function
abbrev pub seen_by : {A B : Type 0} → (A → B) → Result (A × List Spot) Fault → Result (B × List Spot) Fault
seen_by f m = m >>= (λ z. Ok (f z.0, z.1))

module _ {A : Type 0} {B : A → Type 0} (of_a : A → List Part) (of_b : (a : A) → B a → List Part) (limit : ℕ) (stops_a : A → Symbol → Bool) (stops_b : (a : A) → B a → Symbol → Bool)
    (follows : (a : A) (b : B a) (c : ℕ) (v s : List Spot) → Spells (of_b a b) c v → Stops (stops_b a) b s → Stops stops_a a (v ++ s)) where
  more_fronts : (a : A) (b : B a) (d : ℕ) (t u : List Spot) → Front (of_a a) d t ⊎ Front (of_a a) d u → Front (of_a a ++ of_b a b) d t ⊎ Front (of_a a ++ of_b a b) d u
  more_fronts a b d t u (inl x) = inl (Front-more (of_b a b) x)
  more_fronts a b d t u (inr x) = inr (Front-more (of_b a b) x)

  front_first : ((a : A) → B a) → (deep : Bool) (tokens rest : List Spot) → HasFront of_a limit deep tokens rest → HasFront (then_parts of_a of_b) limit deep tokens rest
  front_first any false tokens rest h = ((h.0, any h.0), h.1, Front-more (of_b h.0 (any h.0)) h.2)
  front_first any true tokens rest h = ((h.0, any h.0), h.1, more_fronts h.0 (any h.0) h.1 tokens (tokens ++ first_only rest) h.2, h.3, h.4)

  -- the first thing is refused
  pub refused_one : ((a : A) → B a) → (before i : List Spot) (f : Fault) → Refused of_a limit stops_a before i f → Refused (then_parts of_a of_b) limit (then_stops stops_b) before i f
  refused_one any before i f r =
      let dead = λ (x : (a : A) × B a) (c : ℕ) (v s rest : List Spot) (sp : Spells (of_a x.0 ++ of_b x.0 x.1) c v) (st : Stops (stops_b x.0) x.1 s) (e : v ++ s ≡ before ++ (r.more ++ rest)) (h : first rest ≡ first r.rest).
      let p = split (of_a x.0) (of_b x.0 x.1) sp in
      let e2 : p.u ++ (p.v ++ s) ≡ before ++ (r.more ++ rest) = sym (append_assoc p.u p.v s) ∙ ap (λ (w : List Spot). w ++ s) (sym p.tokens) ∙ e in
      bad_more f.deep limit p.c c (omega (arith, p.depth)) (r.dead x.0 p.c p.u (p.v ++ s) rest p.left (follows x.0 x.1 p.d p.v s p.right st) e2 h) in
      record { more = r.more; rest = r.rest; whole = r.whole; place = r.place; ends = r.ends; dead = dead; front = front_first any f.deep (before ++ r.more) r.rest r.front }

  -- what is spelled after the first thing
  record After (a : A) (t rest s : List Spot) (c : ℕ) (x : (a : A) × B a) : Type 0 where
    pub same : x.0 ≡ a
    pub d : ℕ
    pub w : List Spot
    pub spelled : Spells (of_b x.0 x.1) d w
    pub tokens : w ++ s ≡ t ++ rest
    pub less : d ≤ c

  after_first : (before i : List Spot) (a : A) (j : List Spot) (r : Read of_a limit stops_a before i a j) (t k : List Spot) → j ≡ t ++ k
      → (x : (a : A) × B a) (c : ℕ) (v s rest : List Spot) → Spells (of_a x.0 ++ of_b x.0 x.1) c v → Stops (stops_b x.0) x.1 s → v ++ s ≡ before ++ ((r.more ++ t) ++ rest) → first rest ≡ first k
      → After a t rest s c x
  after_first before i a j r t k whole x c v s rest sp st e h =
      let p = split (of_a x.0) (of_b x.0 x.1) sp in
      let e2 : p.u ++ (p.v ++ s) ≡ before ++ (r.more ++ (t ++ rest)) = sym (append_assoc p.u p.v s) ∙ ap (λ (w : List Spot). w ++ s) (sym p.tokens) ∙ e ∙ ap (λ (w : List Spot). before ++ w) (append_assoc r.more t rest) in
      let h2 : first (t ++ rest) ≡ first j = first-append t rest k h ∙ ap first (sym whole) in
      let o = r.only x.0 p.c p.u (p.v ++ s) (t ++ rest) p.left (follows x.0 x.1 p.d p.v s p.right st) e2 h2 in
      record { same = o.0; d = p.d; w = p.v; spelled = p.right; tokens = o.1; less = omega (arith, p.depth) }

  front_second : (a : A) (c : ℕ) (before u : List Spot) → Spells (of_a a) c (before ++ u) → (deep : Bool) (tokens rest : List Spot) → HasFront (of_b a) limit deep tokens rest → HasFront (then_parts of_a of_b) limit deep (before ++ (u ++ tokens)) rest
  front_second a c before u sp false tokens rest h = ((a, h.0), max c h.1, subst (λ (w : List Spot). Front (of_a a ++ of_b a h.0) (max c h.1) w) (append_assoc before u tokens) (Front-after sp h.2))
  front_second a c before u sp true tokens rest h = ((a, h.0), max c h.1, both_fronts h.2, omega (arith, h.3), h.4)
    where
      both_fronts : Front (of_b a h.0) h.1 tokens ⊎ Front (of_b a h.0) h.1 (tokens ++ first_only rest)
          → Front (of_a a ++ of_b a h.0) (max c h.1) (before ++ (u ++ tokens)) ⊎ Front (of_a a ++ of_b a h.0) (max c h.1) ((before ++ (u ++ tokens)) ++ first_only rest)
      both_fronts (inl x) = inl (subst (λ (w : List Spot). Front (of_a a ++ of_b a h.0) (max c h.1) w) (append_assoc before u tokens) (Front-after sp x))
      both_fronts (inr x) =
          let e : (before ++ u) ++ (tokens ++ first_only rest) ≡ (before ++ (u ++ tokens)) ++ first_only rest = simp append_assoc in
          inr (subst (λ (w : List Spot). Front (of_a a ++ of_b a h.0) (max c h.1) w) e (Front-after sp x))

  -- the first thing is read, and the second is refused
  refused_two : (before i : List Spot) (a : A) (j : List Spot) (f : Fault) → Read of_a limit stops_a before i a j → Refused (of_b a) limit (stops_b a) [] j f → Refused (then_parts of_a of_b) limit (then_stops stops_b) before i f
  refused_two before i a j f r q =
      let dead = λ (x : (a : A) × B a) (c : ℕ) (v s rest : List Spot) (sp : Spells (of_a x.0 ++ of_b x.0 x.1) c v) (st : Stops (stops_b x.0) x.1 s) (e : v ++ s ≡ before ++ ((r.more ++ q.more) ++ rest)) (h : first rest ≡ first q.rest).
      let p = after_first before i a j r q.more q.rest q.whole x c v s rest sp st e h in
      let at_a : Bad f.deep limit p.d = subst (λ (a' : A). (b : B a') → Spells (of_b a' b) p.d p.w → Stops (stops_b a') b s → Bad f.deep limit p.d) (sym p.same) (λ b sp st. q.dead b p.d p.w s rest sp st p.tokens h) x.1 p.spelled st in
      bad_more f.deep limit p.d c p.less at_a in
      record {
        more = r.more ++ q.more;
        rest = q.rest;
        whole = r.whole ∙ ap (λ (w : List Spot). r.more ++ w) q.whole ∙ sym (append_assoc r.more q.more q.rest);
        place = q.place;
        ends = q.ends;
        dead = dead;
        front = front_second a r.depth before r.more r.spelled f.deep q.more q.rest q.front;
      }

  -- both are read
  read_two : (before i : List Spot) (a : A) (j : List Spot) (b : B a) (k : List Spot) → Read of_a limit stops_a before i a j → Read (of_b a) limit (stops_b a) [] j b k → Read (then_parts of_a of_b) limit (then_stops stops_b) before i (a, b) k
  read_two before i a j b k r q =
      let only = λ (x : (a : A) × B a) (c : ℕ) (v s rest : List Spot) (sp : Spells (of_a x.0 ++ of_b x.0 x.1) c v) (st : Stops (stops_b x.0) x.1 s) (e : v ++ s ≡ before ++ ((r.more ++ q.more) ++ rest)) (h : first rest ≡ first k).
      let p = after_first before i a j r q.more k q.whole x c v s rest sp st e h in
      let Same : (a' : A) → B a' → Type 0 = λ a' b'. (◌≡◌ {A = (a : A) × B a} (a', b') (a, b)) × (s ≡ rest) in
      let at_a : (b' : B a) → Spells (of_b a b') p.d p.w → Stops (stops_b a) b' s → Same a b' = λ b' sp st.
      let o = q.only b' p.d p.w s rest sp st p.tokens h in
      let pair : ◌≡◌ {A = (a : A) × B a} (a, b') (a, b) = ap (λ (y : B a). let z : (a : A) × B a = (a, y) in z) o.0 in
      (pair, o.1) in
      subst (λ (a' : A). (b' : B a') → Spells (of_b a' b') p.d p.w → Stops (stops_b a') b' s → Same a' b') (sym p.same) at_a x.1 p.spelled st in
      record {
        more = r.more ++ q.more;
        depth = max r.depth q.depth;
        whole = r.whole ∙ ap (λ (w : List Spot). r.more ++ w) q.whole ∙ sym (append_assoc r.more q.more k);
        spelled = subst (λ (w : List Spot). Spells (of_a a ++ of_b a b) (max r.depth q.depth) w) (append_assoc before r.more q.more) (join r.spelled q.spelled);
        within = omega (arith, r.within, q.within);
        ends = q.ends;
        only = only;
      }

  -- the second thing after the first, which is read
  pub then_after : (before i : List Spot) (a : A) (j : List Spot) → Read of_a limit stops_a before i a j → (y : Result (B a × List Spot) Fault) → Right (of_b a) limit (stops_b a) [] j y
      → Right (then_parts of_a of_b) limit (then_stops stops_b) before i (y >>= (λ z. Ok ((a, z.0), z.1)))
  then_after before i a j r (Ok y) q = read_two before i a j y.0 y.1 r q
  then_after before i a j r (Err f) q = refused_two before i a j f r q

  -- one after the other, where the second is read rightly after the first; `any` is something of each kind
  pub then_right : ((a : A) → B a) → (x : Result (A × List Spot) Fault) (q : (a : A) → Parser (B a)) (before i : List Spot) → Right of_a limit stops_a before i x
      → ((a : A) (j : List Spot) → Read of_a limit stops_a before i a j → Right (of_b a) limit (stops_b a) [] j (q a j))
      → Right (then_parts of_a of_b) limit (then_stops stops_b) before i (x >>= (λ x. q x.0 x.1 >>= (λ y. Ok ((x.0, y.0), y.1))))
  then_right any (Ok x) q before i r next = then_after before i x.0 x.1 r (q x.0 x.1) (next x.0 x.1 r)
  then_right any (Err f) q before i r next = refused_one any before i f r
