-- Reading one thing after another while what is ahead goes on with them.
use Rattle.std.proofs.Common.{◌≡◌, ℕ, zero, suc, ◌≤◌, ◌<◌, Bool, true, false, List, [], ◌∷◌, ◌++◌, length, refl, ap, subst, ◌∙◌, sym, arith, length-append}
use Rattle.std.proofs.lemmas.List.{append_assoc, append-nil}
use Rattle.std.specs.Prelude.{Result, Ok, Err, if◌then◌else◌}
use Rattle.c_grammar.specs.declared.symbol.Symbol.{Symbol}
use Rattle.c_grammar.specs.Parts.{Part}
use Rattle.right_reading.specs.Lists.{many}
use Rattle.c_grammar.specs.Spelling.{Spells, Front}
use Rattle.c_grammar.specs.Spelling as spelling
use Rattle.c_grammar.specs.Spots.{Spot}
use Rattle.right_reading.specs.Stream.{ahead, Fault, Parser, ◌>>=◌}
use Rattle.right_reading.specs.Right.{first, Ends, Stops, Read, Right}
use Rattle.c_grammar.proofs.Sequences.{from_nothing, split}
use Rattle.right_reading.proofs.Composed.Steps.{both_parts, both_stops, Follows, refused_first, Right-after, Seen, Right-seen}
use Rattle.right_reading.proofs.OneToken.Tokens.{Right-if, ahead-same}
use Rattle.right_reading.proofs.Composed.Dependent.{seen_by}

-- ---- what was read before

module _ {A : Type 0} (goes : Symbol → Bool) (item : Parser A) where
  pub many-more : (f : ℕ) (xs : List A) (i : List Spot) → many goes item f xs i ≡ seen_by (λ (ys : List A). xs ++ ys) (many goes item f [] i)
  unfolding many
  many-more zero xs i = ap (λ (ys : List A). Ok (ys, i)) (sym (append-nil xs))
  many-more (suc f) xs i = step (λ zs j. many-more f zs j) (goes (ahead i))
    where
      joined : (x : A) (y : Result (List A × List Spot) Fault) → seen_by (λ (ys : List A). (xs ++ x ∷ []) ++ ys) y ≡ seen_by (λ (ys : List A). xs ++ ys) (seen_by (λ (ys : List A). x ∷ ys) y)
      joined x (Err e) = refl
      joined x (Ok y) = ap (λ (ys : List A). Ok (ys, y.1)) (append_assoc xs (x ∷ []) y.0)

      after : ((zs : List A) (j : List Spot) → many goes item f zs j ≡ seen_by (λ (ys : List A). zs ++ ys) (many goes item f [] j)) → (y : Result (A × List Spot) Fault) → (y >>= (λ x. many goes item f (xs ++ x.0 ∷ []) x.1)) ≡ seen_by (λ (ys : List A). xs ++ ys) (y >>= (λ x. many goes item f (x.0 ∷ []) x.1))
      after again (Err e) = refl
      after again (Ok x) =
          again (xs ++ x.0 ∷ []) x.1 ∙ joined x.0 (many goes item f [] x.1) ∙ ap (seen_by (λ (ys : List A). xs ++ ys)) (sym (again (x.0 ∷ []) x.1))

      step : ((zs : List A) (j : List Spot) → many goes item f zs j ≡ seen_by (λ (ys : List A). zs ++ ys) (many goes item f [] j)) → (b : Bool) → (if b then item i >>= (λ x. many goes item f (xs ++ x.0 ∷ []) x.1) else Ok (xs, i))
          ≡ seen_by (λ (ys : List A). xs ++ ys) (if b then item i >>= (λ x. many goes item f (x.0 ∷ []) x.1) else Ok ([], i))
      step again true = after again (item i)
      step again false = ap (λ (ys : List A). Ok (ys, i)) (sym (append-nil xs))

abbrev pub front_of : {A : Type 0} → A × List A → List A
front_of x = x.0 ∷ x.1

-- one, and what follows it
pub one_and_many : {A : Type 0} (goes : Symbol → Bool) (item : Parser A) (fuel : List Spot → ℕ) (y : Result (A × List Spot) Fault)
    → (y >>= (λ x. many goes item (fuel x.1) (x.0 ∷ []) x.1)) ≡ seen_by front_of (y >>= (λ x. seen_by (λ (ys : List A). let z : A × List A = (x.0, ys) in z) (many goes item (fuel x.1) [] x.1)))
one_and_many {A} goes item fuel (Err f) = refl
one_and_many {A} goes item fuel (Ok x) = many-more goes item (fuel x.1) (x.0 ∷ []) x.1 ∙ joined (many goes item (fuel x.1) [] x.1)
  where
    joined : (m : Result (List A × List Spot) Fault) → seen_by (λ (ys : List A). (x.0 ∷ []) ++ ys) m ≡ seen_by front_of (seen_by (λ (ys : List A). let z : A × List A = (x.0, ys) in z) m)
    joined (Ok y) = refl
    joined (Err f) = refl

-- ---- they are read rightly

abbrev pair : {A B : Type 0} → A → B → A × B
pair x y = (x, y)

abbrev pub stops_many : {A : Type 0} → (Symbol → Bool) → List A → Symbol → Bool
stops_many ends xs s = ends s

module _ {A : Type 0} (of : A → List Part) (parts : List A → List Part) (none : parts [] ≡ []) (some : (x : A) (xs : List A) → parts (x ∷ xs) ≡ of x ++ parts xs)
    (limit : ℕ) (stops : A → Symbol → Bool) (goes ends : Symbol → Bool)
    (apart : (s : Symbol) → goes s ≡ true → ends s ≡ true → ⊥)
    (begin : (x : A) (c : ℕ) (v s : List Spot) → Spells (of x) c v → goes (ahead (v ++ s)) ≡ true)
    (filled : (x : A) (c : ℕ) → Spells (of x) c [] → ⊥)
    (follows : Follows stops parts (stops_many ends))
    (item : Parser A) (right : (i : List Spot) → Ends i → goes (ahead i) ≡ true → Right of limit stops [] i (item i)) where
  no_parts : (c : ℕ) (v : List Spot) → Spells (parts []) c v → v ≡ []
  no_parts c v sp = (from_nothing (subst (λ (ps : List Part). Spells ps c v) none sp)).tokens

  -- nothing more is ahead
  over : (i : List Spot) → Ends i → goes (ahead i) ≡ false → Read parts limit (stops_many ends) [] i [] i
  over i ends_i h =
      record { more = []; depth = 0; whole = refl; spelled = subst (λ (ps : List Part). Spells ps 0 []) (sym none) spelling.nothing; within = omega arith; ends = ends_i; only = only }
    where
      only : (xs : List A) (c : ℕ) (v s r : List Spot) → Spells (parts xs) c v → Stops (stops_many ends) xs s → v ++ s ≡ r → first r ≡ first i → (xs ≡ []) × (s ≡ r)
      only [] c v s r sp st e k = (refl, ap (λ (w : List Spot). w ++ s) (sym (no_parts c v sp)) ∙ e)
      only (x ∷ xs) c v s r sp st e k =
          let p = split (of x) (parts xs) (subst (λ (ps : List Part). Spells ps c v) (some x xs) sp) in
          let g : goes (ahead (p.u ++ (p.v ++ s))) ≡ true = begin x p.c p.u (p.v ++ s) p.left in
          let t : p.u ++ (p.v ++ s) ≡ r = sym (append_assoc p.u p.v s) ∙ ap (λ (w : List Spot). w ++ s) (sym p.tokens) ∙ e in
          let a : goes (ahead i) ≡ true = subst (λ (w : Symbol). goes w ≡ true) (ap ahead t ∙ ahead-same r i k) g in
          absurd (cc (a, h))

  cons_seen : (i : List Spot) → goes (ahead i) ≡ true → Seen (both_parts of parts) parts limit limit (both_stops (stops_many ends)) (stops_many ends) [] i (λ (z : A × List A). z.0 ∷ z.1)
  cons_seen i h = record { forth = forth; front = front; back = back }
    where
      forth : (a : A × List A) (c : ℕ) (u : List Spot) → Spells (of a.0 ++ parts a.1) c u → (d : ℕ) × Spells (parts (a.0 ∷ a.1)) d u × (c ≤ limit → d ≤ limit)
      forth a c u sp = (c, subst (λ (ps : List Part). Spells ps c u) (sym (some a.0 a.1)) sp, λ le. le)

      front : (a : A × List A) (c : ℕ) (u : List Spot) → Front (of a.0 ++ parts a.1) c u → (d : ℕ) × Front (parts (a.0 ∷ a.1)) d u × (limit < c → limit < d)
      front a c u f = (c, subst (λ (ps : List Part). Front ps c u) (sym (some a.0 a.1)) f, λ lt. lt)

      back : (x : List A) (d : ℕ) (v s r : List Spot) → Spells (parts x) d v → Stops (stops_many ends) x s → v ++ s ≡ r → first r ≡ first i
          → (a : A × List A) × (c : ℕ) × (x ≡ a.0 ∷ a.1) × Spells (of a.0 ++ parts a.1) c v × Stops (stops_many ends) a.1 s × (limit < c → limit < d)
      back [] d v s r sp st e k =
          let t : s ≡ r = ap (λ (w : List Spot). w ++ s) (sym (no_parts d v sp)) ∙ e in
          let g : ends (ahead i) ≡ true = subst (λ (w : Symbol). ends w ≡ true) (ap ahead t ∙ ahead-same r i k) st in
          absurd (apart (ahead i) h g)
      back (x ∷ xs) d v s r sp st e k = ((x, xs), d, refl, subst (λ (ps : List Part). Spells ps d v) (some x xs) sp, st, λ lt. lt)

  shorter : (i : List Spot) (x : A) (j : List Spot) → Read of limit stops [] i x j → length j < length i
  shorter i x j r = step r.more r.whole r.spelled
    where
      step : (m : List Spot) → i ≡ m ++ j → Spells (of x) r.depth m → length j < length i
      step [] e sp = absurd (filled x r.depth sp)
      step (y ∷ ys) e sp = let k : length i ≡ suc (length (ys ++ j)) = ap length e in omega (arith, k, length-append ys j)

  pub many_right : (f : ℕ) (i : List Spot) → Ends i → length i ≤ f → Right parts limit (stops_many ends) [] i (many goes item f [] i)
  unfolding many
  many_right zero [] ends_i lt = absurd ends_i
  many_right zero (c ∷ cs) ends_i lt = absurd (omega arith)
  many_right (suc f) i ends_i lt =
      Right-if parts limit (stops_many ends) [] i (goes (ahead i)) (item i >>= (λ x. many goes item f (x.0 ∷ []) x.1)) (Ok ([], i))
      (λ h. subst (λ (y : Result (List A × List Spot) Fault). Right parts limit (stops_many ends) [] i y) (same (item i))
      (Right-seen (both_parts of parts) parts limit limit (both_stops (stops_many ends)) (stops_many ends) [] i (λ (z : A × List A). z.0 ∷ z.1) (cons_seen i h)
      (item i >>= (λ x. seen_by (pair x.0) (many goes item f [] x.1))) (one (λ j ends_j le. many_right f j ends_j le) (item i) (right i ends_i h))))
      (λ h. over i ends_i h)
    where
      one : ((j : List Spot) → Ends j → length j ≤ f → Right parts limit (stops_many ends) [] j (many goes item f [] j)) → (y : Result (A × List Spot) Fault) → Right of limit stops [] i y → Right (both_parts of parts) limit (both_stops (stops_many ends)) [] i (y >>= (λ x. seen_by (pair x.0) (many goes item f [] x.1)))
      one again (Err e) r = refused_first of parts limit stops (stops_many ends) follows [] [] i e r
      one again (Ok x) r =
          let lt2 = shorter i x.0 x.1 r in
          Right-after of parts limit stops (stops_many ends) follows [] i x.0 x.1 r (many goes item f [] x.1) (again x.1 r.ends (omega (arith, lt2)))

      same : (y : Result (A × List Spot) Fault) → seen_by (λ (z : A × List A). z.0 ∷ z.1) (y >>= (λ x. seen_by (pair x.0) (many goes item f [] x.1))) ≡ (y >>= (λ x. many goes item f (x.0 ∷ []) x.1))
      same (Err e) = refl
      same (Ok x) = joined (many goes item f [] x.1) ∙ sym (many-more goes item f (x.0 ∷ []) x.1)
        where
          joined : (y : Result (List A × List Spot) Fault) → seen_by (λ (z : A × List A). z.0 ∷ z.1) (seen_by (pair x.0) y) ≡ seen_by (λ (ys : List A). x.0 ∷ ys) y
          joined (Err e) = refl
          joined (Ok y) = refl
