-- Reading what may be missing before a mark.
use Rattle.std.proofs.Common.{◌≡◌, ◌≢◌, ℕ, max, ◌≤◌, ◌<◌, Bool, true, false, List, [], ◌∷◌, ◌++◌, ◌⊎◌, inl, inr, refl, ap, subst, ◌∙◌, sym, arith}
use Rattle.std.proofs.lemmas.List.{append_assoc, append-nil}
use Rattle.std.specs.Prelude.{Ok, if◌then◌else◌}
use Rattle.c_grammar.specs.declared.symbol.Symbol.{Symbol}
use Rattle.c_grammar.specs.declared.symbol.Symbol.TheVariants as symbol
use Rattle.c_grammar.specs.Grammar.{Rule}
use Rattle.c_grammar.specs.Nodes.{Node}
use Rattle.c_grammar.specs.Parts.{Part, node, word}
use Rattle.right_reading.specs.ReadStatements.{closed}
use Rattle.c_grammar.specs.Spelling.{counted, Spells, Front}
use Rattle.c_grammar.specs.Spelling as spelling
use Rattle.c_grammar.specs.Spots.{Spot}
use Rattle.right_reading.specs.Stream.{ahead, rest, Parser}
use Rattle.c_grammar.specs.Symbols.{same_symbol}
use Rattle.right_reading.proofs.Composed.Inlined.{fold_spelled, fold_front}
use Rattle.right_reading.specs.Right.{first, Ends, Stops, Read, Right, always, Reads}
use Rattle.c_grammar.proofs.Sequences.{FromNode, from_token, from_node, from_nothing, join}
use Rattle.right_reading.proofs.Composed.Steps.{Seen, Right-seen}
use Rattle.c_grammar.proofs.SymbolNumbers.{same-is, same-self}
use Rattle.right_reading.proofs.OneToken.Tokens.{Right-if, ahead-same}
use Rattle.right_reading.proofs.OneToken.Words.{closed_right}
use Rattle.right_reading.proofs.Composed.Dependent.{seen_by}

-- the end is after a token that is not it
pub ends_after : (x : Spot) (xs : List Spot) → x.symbol ≢ symbol.End → Ends (x ∷ xs) → Ends xs
ends_after x xs more (inl e) = absurd (more e)
ends_after x xs more (inr e) = e

-- nothing is there, or an a is
abbrev pub Absent : {X : Type 0} → X → X → List Part → List Part → Type 0
Absent x0 x early late = (x ≡ x0) × (early ≡ []) × (late ≡ [])

abbrev pub Present : {A X : Type 0} → (A → X) → (A → List Part) → X → List Part → List Part → Type 0
Present {A} some of x early late = (a : A) × (x ≡ some a) × (early ≡ of a) × (late ≡ [])

none_spelled : {ps : List Part} {c : ℕ} {u : List Spot} → ps ≡ [] → Spells ps c u → u ≡ []
none_spelled {c = c} {u = u} e sp = (from_nothing (subst (λ (qs : List Part). Spells qs c u) e sp)).tokens

module _ {A X : Type 0} (n : X → Node) (of : A → List Part) (x0 : X) (some : A → X) (limit : ℕ) (stops : A → Symbol → Bool) (mark : Symbol) (more : mark ≢ symbol.End) (any : A)
    (rule0 : Rule (n x0) [] []) (rule1 : (a : A) → Rule (n (some a)) (of a) [])
    (cases : (x : X) (early late : List Part) → Rule (n x) early late → Absent x0 x early late ⊎ Present some of x early late)
    (begin : (a : A) (c : ℕ) (v s : List Spot) → Spells (of a) c v → same_symbol (ahead (v ++ s)) mark ≡ false)
    (may : (a : A) → stops a mark ≡ true)
    (p : Parser A) (right : Reads of limit stops p) where
  -- the mark is first where nothing is there, and else something else is
  record Opened (x : X) (d : ℕ) (v s : List Spot) : Type 0 where
    is : ((x ≡ x0) × (y : Spot) × (y.symbol ≡ mark) × (v ≡ y ∷ []))
        ⊎ ((a : A) × (c : ℕ) × (x ≡ some a) × Spells (of a ++ word mark ∷ []) c v × (c ≤ d) × (same_symbol (ahead (v ++ s)) mark ≡ false))

  opened : (x : X) (d : ℕ) (v s : List Spot) → Spells (node (n x) ∷ word mark ∷ []) d v → Opened x d v s
  opened x d v s sp = step (from_node sp)
    where
      step : FromNode (n x) (word mark ∷ []) d v → Opened x d v s
      step f = record { is = by_case (cases x f.early f.late f.rule) }
        where
          by_case : Absent x0 x f.early f.late ⊎ Present some of x f.early f.late
              → ((x ≡ x0) × (y : Spot) × (y.symbol ≡ mark) × (v ≡ y ∷ []))
              ⊎ ((a : A) × (c : ℕ) × (x ≡ some a) × Spells (of a ++ word mark ∷ []) c v × (c ≤ d) × (same_symbol (ahead (v ++ s)) mark ≡ false))
          by_case (inl k) =
              let t = from_token f.after in
              let no = from_nothing t.after in
              let e1 = none_spelled k.1 f.before in
              let e2 = none_spelled k.2 f.behind in
              let e : v ≡ t.x ∷ [] = f.tokens ∙ ap (λ (w : List Spot). (w ++ f.u2) ++ f.v) e1 ∙ ap (λ (w : List Spot). w ++ f.v) e2 ∙ t.tokens ∙ ap (λ (w : List Spot). t.x ∷ w) no.tokens in
              inl (k.0, t.x, t.is, e)
          by_case (inr k) =
              let e2 = none_spelled k.3 f.behind in
              let before : Spells (of k.0) f.c1 f.u1 = subst (λ (ps : List Part). Spells ps f.c1 f.u1) k.2 f.before in
              let e : v ≡ f.u1 ++ f.v = f.tokens ∙ ap (λ (w : List Spot). (f.u1 ++ w) ++ f.v) e2 ∙ ap (λ (w : List Spot). w ++ f.v) (append-nil f.u1) in
              let b = begin k.0 f.c1 f.u1 (f.v ++ s) before in
              let e3 : f.u1 ++ (f.v ++ s) ≡ v ++ s = sym (append_assoc f.u1 f.v s) ∙ ap (λ (w : List Spot). w ++ s) (sym e) in
              let c : counted f.u2 (max f.c1 f.c2) ≡ max f.c1 f.c2 = ap (λ (w : List Spot). counted w (max f.c1 f.c2)) e2 in
              inr (
                k.0,
                max f.c1 f.d,
                k.1,
                subst (λ (w : List Spot). Spells (of k.0 ++ word mark ∷ []) (max f.c1 f.d) w) (sym e) (join before f.after),
                omega (arith, f.depth, c),
                subst (λ (w : List Spot). same_symbol (ahead w) mark ≡ false) e3 b,
              )

  read_none : (i : List Spot) → Ends i → same_symbol (ahead i) mark ≡ true → Read (λ (x : X). node (n x) ∷ word mark ∷ []) limit (always {A = X}) [] i x0 (rest i)
  read_none [] ends h = absurd ends
  read_none (t ∷ xs) ends h =
      let is : t.symbol ≡ mark = same-is t.symbol mark h in
      record {
        more = t ∷ [];
        depth = 0;
        whole = refl;
        spelled = spelling.whole rule0 spelling.nothing spelling.nothing (spelling.quoted is spelling.nothing) refl refl;
        within = omega arith;
        ends = ends_after t xs (λ e. more (sym is ∙ e)) ends;
        only = only;
      }
    where
      only : (x : X) (c : ℕ) (v s r : List Spot) → Spells (node (n x) ∷ word mark ∷ []) c v → Stops (always {A = X}) x s → v ++ s ≡ t ∷ r → first r ≡ first xs → (x ≡ x0) × (s ≡ r)
      only x c v s r sp st e k = pick (opened x c v s sp).is
        where
          pick : ((x ≡ x0) × (y : Spot) × (y.symbol ≡ mark) × (v ≡ y ∷ []))
              ⊎ ((a : A) × (c2 : ℕ) × (x ≡ some a) × Spells (of a ++ word mark ∷ []) c2 v × (c2 ≤ c) × (same_symbol (ahead (v ++ s)) mark ≡ false)) → (x ≡ x0) × (s ≡ r)
          pick (inl o) =
              let e2 : o.1 ∷ s ≡ t ∷ r = ap (λ (w : List Spot). w ++ s) (sym o.3) ∙ e in
              let e3 : s ≡ r = cc in
              (o.0, e3)
          pick (inr o) = let g : same_symbol t.symbol mark ≡ false = subst (λ (w : List Spot). same_symbol (ahead w) mark ≡ false) e o.5 in absurd (cc (g, h))

  some_seen : (i : List Spot) → same_symbol (ahead i) mark ≡ false → Seen (λ (a : A). of a ++ word mark ∷ []) (λ (x : X). node (n x) ∷ word mark ∷ []) limit limit (always {A = A}) (always {A = X}) [] i some
  some_seen i h = record { forth = forth; front = front; back = back }
    where
      forth : (a : A) (c : ℕ) (u : List Spot) → Spells (of a ++ word mark ∷ []) c u → (d : ℕ) × Spells (node (n (some a)) ∷ word mark ∷ []) d u × (c ≤ limit → d ≤ limit)
      forth a c u sp = (c, fold_spelled (rule1 a) sp, λ le. le)

      front : (a : A) (c : ℕ) (u : List Spot) → Front (of a ++ word mark ∷ []) c u → (d : ℕ) × Front (node (n (some a)) ∷ word mark ∷ []) d u × (limit < c → limit < d)
      front a c u f = (c, fold_front (rule1 a) f, λ lt. lt)

      back : (x : X) (d : ℕ) (v s r : List Spot) → Spells (node (n x) ∷ word mark ∷ []) d v → Stops (always {A = X}) x s → v ++ s ≡ r → first r ≡ first i
          → (a : A) × (c : ℕ) × (x ≡ some a) × Spells (of a ++ word mark ∷ []) c v × Stops (always {A = A}) a s × (limit < c → limit < d)
      back x d v s r sp st e k = pick (opened x d v s sp).is
        where
          pick : ((x ≡ x0) × (y : Spot) × (y.symbol ≡ mark) × (v ≡ y ∷ []))
              ⊎ ((a : A) × (c : ℕ) × (x ≡ some a) × Spells (of a ++ word mark ∷ []) c v × (c ≤ d) × (same_symbol (ahead (v ++ s)) mark ≡ false))
              → (a : A) × (c : ℕ) × (x ≡ some a) × Spells (of a ++ word mark ∷ []) c v × Stops (always {A = A}) a s × (limit < c → limit < d)
          pick (inl o) =
              let e2 : ahead (v ++ s) ≡ mark = ap (λ (w : List Spot). ahead (w ++ s)) o.3 ∙ o.2 in
              let e3 : ahead i ≡ mark = sym (ap ahead e ∙ ahead-same r i k) ∙ e2 in
              let g : same_symbol mark mark ≡ false = subst (λ (y : Symbol). same_symbol y mark ≡ false) e3 h in
              absurd (cc (g, same-self mark))
          pick (inr o) = (o.0, o.1, o.2, o.3, refl, λ lt. omega (arith, o.4))

  pub maybe_right : (i : List Spot) → Ends i → Right (λ (x : X). node (n x) ∷ word mark ∷ []) limit (always {A = X}) [] i (if same_symbol (ahead i) mark then Ok (x0, rest i) else seen_by some (closed p mark i))
  maybe_right i ends =
      Right-if (λ (x : X). node (n x) ∷ word mark ∷ []) limit (always {A = X}) [] i (same_symbol (ahead i) mark) (Ok (x0, rest i)) (seen_by some (closed p mark i))
      (λ h. read_none i ends h)
      (λ h. Right-seen (λ (a : A). of a ++ word mark ∷ []) (λ (x : X). node (n x) ∷ word mark ∷ []) limit limit (always {A = A}) (always {A = X}) [] i some (some_seen i h) (closed p mark i)
      (closed_right of limit stops mark more any p may i (right i ends)))
