-- Reading what may be there, which the symbol ahead shows, and a token that was read already.
use Rattle.std.proofs.Common.{◌≡◌, ◌≢◌, ℕ, ◌<◌, Bool, true, List, [], ◌∷◌, ◌++◌, ◌⊎◌, inl, inr, refl, ap, subst, ◌∙◌, sym, arith}
use Rattle.std.specs.Prelude.{Result, Ok, if◌then◌else◌}
use Rattle.c_grammar.specs.declared.symbol.Symbol.{Symbol}
use Rattle.c_grammar.specs.Parts.{Token, Part, token, Is}
use Rattle.c_grammar.specs.Spelling.{Spells, Front}
use Rattle.c_grammar.specs.Spelling as spelling
use Rattle.c_grammar.specs.Spots.{Spot}
use Rattle.right_reading.specs.Stream.{ahead, Fault}
use Rattle.c_grammar.specs.Symbols.{same_symbol}
use Rattle.right_reading.proofs.Composed.Dependent.{seen_by}
use Rattle.right_reading.specs.Right.{first, Ends, Stops, Read, Right, always}
use Rattle.c_grammar.proofs.Sequences.{from_token, from_nothing}
use Rattle.right_reading.proofs.Composed.Steps.{Seen, Right-seen}
use Rattle.c_grammar.proofs.SymbolNumbers.{same-is, other-is}
use Rattle.right_reading.proofs.OneToken.Tokens.{ahead-same, Right-if}

-- an X is none, or else an A, which begins with the symbol s0
module _ {A X : Type 0} (of_a : A → List Part) (of_x : X → List Part) (limit : ℕ) (stops_a : A → Symbol → Bool) (stops_x : X → Symbol → Bool) (none : X) (mk : A → X) (s0 : Symbol)
    (empty : of_x none ≡ []) (full : (a : A) → of_x (mk a) ≡ of_a a) (view : (x : X) → (x ≡ none) ⊎ ((a : A) × (x ≡ mk a)))
    (begins : (a : A) (c : ℕ) (u s : List Spot) → Spells (of_a a) c u → ahead (u ++ s) ≡ s0)
    (stops_none : (s : Symbol) → stops_x none s ≡ true → s ≢ s0) (stops_some : (a : A) (s : Symbol) → stops_x (mk a) s ≡ true → stops_a a s ≡ true) where
  is_none : (x : X) (d : ℕ) (v : List Spot) → x ≡ none → Spells (of_x x) d v → v ≡ []
  is_none x d v e sp = let f = from_nothing (subst (λ (ps : List Part). Spells ps d v) (ap of_x e ∙ empty) sp) in f.tokens

  is_some : (x : X) (d : ℕ) (v : List Spot) (a : A) → x ≡ mk a → Spells (of_x x) d v → Spells (of_a a) d v
  is_some x d v a e sp = subst (λ (ps : List Part). Spells ps d v) (ap of_x e ∙ full a) sp

  there : (i : List Spot) → ahead i ≡ s0 → Seen of_a of_x limit limit stops_a stops_x [] i mk
  there i is = record {
    forth = λ a c u sp. (c, subst (λ (ps : List Part). Spells ps c u) (sym (full a)) sp, λ le. le);
    front = λ a c u f. (c, subst (λ (ps : List Part). Front ps c u) (sym (full a)) f, λ lt. lt);
    back = λ x d v s r sp st e h. back x d v s r (view x) sp st e h;
  }
    where
      back : (x : X) (d : ℕ) (v s r : List Spot) → (x ≡ none) ⊎ ((a : A) × (x ≡ mk a)) → Spells (of_x x) d v → Stops stops_x x s → v ++ s ≡ r → first r ≡ first i
          → (a : A) × (c : ℕ) × (x ≡ mk a) × Spells (of_a a) c v × Stops stops_a a s × (limit < c → limit < d)
      back x d v s r (inl n) sp st e h =
          let same : s ≡ r = ap (λ (w : List Spot). w ++ s) (sym (is_none x d v n sp)) ∙ e in
          absurd (stops_none (ahead s) (subst (λ (y : X). stops_x y (ahead s) ≡ true) n st) (ap ahead same ∙ ahead-same r i h ∙ is))
      back x d v s r (inr k) sp st e h = (k.0, d, k.1, is_some x d v k.0 k.1 sp, stops_some k.0 (ahead s) (subst (λ (y : X). stops_x y (ahead s) ≡ true) k.1 st), λ lt. lt)

  not_there : (i : List Spot) → Ends i → ahead i ≢ s0 → Read of_x limit stops_x [] i none i
  not_there i ends not = record { more = []; depth = 0; whole = refl; spelled = subst (λ (ps : List Part). Spells ps 0 []) (sym empty) spelling.nothing; within = omega arith; ends = ends; only = λ x c v s r sp st e h. only x c v s r (view x) sp e h }
    where
      only : (x : X) (c : ℕ) (v s r : List Spot) → (x ≡ none) ⊎ ((a : A) × (x ≡ mk a)) → Spells (of_x x) c v → v ++ s ≡ r → first r ≡ first i → (x ≡ none) × (s ≡ r)
      only x c v s r (inl n) sp e h = (n, ap (λ (w : List Spot). w ++ s) (sym (is_none x c v n sp)) ∙ e)
      only x c v s r (inr k) sp e h = absurd (not (sym (ahead-same r i h) ∙ ap ahead (sym e) ∙ begins k.0 c v s (is_some x c v k.0 k.1 sp)))

  pub Right-maybe : (i : List Spot) → Ends i → (y : Result (A × List Spot) Fault) → (ahead i ≡ s0 → Right of_a limit stops_a [] i y)
      → Right of_x limit stops_x [] i (if same_symbol (ahead i) s0 then seen_by mk y else Ok (none, i))
  Right-maybe i ends y right = Right-if of_x limit stops_x [] i (same_symbol (ahead i) s0) (seen_by mk y) (Ok (none, i))
      (λ e. let is = same-is (ahead i) s0 e in Right-seen of_a of_x limit limit stops_a stops_x [] i mk (there i is) y (right is))
      (λ e. not_there i ends (other-is (ahead i) s0 e))

-- x was read already
pub Read-known : {A : Type 0} (of : A → Token) (limit : ℕ) (a : A) (x : Spot) (j : List Spot) → Is (of a) x → ((a' : A) → Is (of a') x → a' ≡ a) → Ends j
    → Read (λ a. token (of a) ∷ []) limit always (x ∷ []) j a j
Read-known {A} of limit a x j is same ends = record { more = []; depth = 0; whole = refl; spelled = spelling.quoted is spelling.nothing; within = omega arith; ends = ends; only = only }
  where
    only : (a' : A) (c : ℕ) (v s r : List Spot) → Spells (token (of a') ∷ []) c v → Stops always a' s → v ++ s ≡ x ∷ r → first r ≡ first j → (a' ≡ a) × (s ≡ r)
    only a' c v s r sp st e h =
        let t = from_token sp in
        let n = from_nothing t.after in
        let e2 : t.x ∷ s ≡ x ∷ r = sym (ap (λ (w : List Spot). w ++ s) (t.tokens ∙ ap (λ (w : List Spot). t.x ∷ w) n.tokens)) ∙ e in
        let ex : t.x ≡ x = cc in
        let es : s ≡ r = cc in
        (same a' (subst (λ (y : Spot). Is (of a') y) ex t.is), es)
