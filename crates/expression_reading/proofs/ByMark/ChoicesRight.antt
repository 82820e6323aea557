-- Reading expressions: a chain, and what follows it where it is the condition of a choice.
use Rattle.std.proofs.Common.{◌≡◌, ℕ, suc, max, ◌≤◌, ◌<◌, Bool, true, false, List, [], ◌∷◌, ◌++◌, ◌⊎◌, inl, inr, refl, ap, subst, ◌∙◌, sym, arith}
use Rattle.std.proofs.lemmas.List.{append_assoc, append-nil}
use Rattle.std.specs.Prelude.{Result, Ok, Err}
use Rattle.sat_base.specs.declared.name.At.{At}
use Rattle.c_tree.specs.declared.expression.Expr.{Expr}
use Rattle.c_tree.specs.declared.expression.ExprKind.TheVariants as kind
use Rattle.c_tree.specs.Depth.{depth_of_expression}
use Rattle.c_grammar.specs.declared.symbol.Symbol.{Symbol}
use Rattle.c_grammar.specs.declared.symbol.Symbol.TheVariants as symbol
use Rattle.c_grammar.specs.Grammar.{plain_expr, choose}
use Rattle.c_grammar.specs.Nodes as a
use Rattle.c_grammar.specs.Parts.{Kept, Part, node, Is, kept, word}
use Rattle.right_reading.specs.ReadExpressions.{unmarked}
use Rattle.c_grammar.specs.Spelling.{counted, Spells, Front}
use Rattle.c_grammar.specs.Spelling as spelling
use Rattle.c_grammar.specs.Spots.{Spot}
use Rattle.right_reading.specs.Stream.{ahead, rest, Fault, Parser, ◌>>=◌, both, take_at}
use Rattle.c_grammar.specs.Symbols.{same_symbol}
use Rattle.right_reading.proofs.Composed.Dependent.{bad_more}
use Rattle.expression_reading.proofs.ByMark.Chains.{chain_parts}
use Rattle.expression_reading.proofs.ByMark.ChainsRight.{depth-is, some_expr}
use Rattle.expression_reading.proofs.ByMark.ExpressionsRight.{expr_parts}
use Rattle.right_reading.specs.Right.{first, first_only, Ends, Stops, Read, Bad, HasFront, Refused, Right, always, Reads}
use Rattle.c_grammar.proofs.Sequences.{from_node, from_token, join}
use Rattle.right_reading.proofs.Composed.Steps.{both_parts, both_stops, Follows, Right-both}
use Rattle.right_reading.proofs.Ahead.Stops.{expression-chain}
use Rattle.c_grammar.proofs.SymbolNumbers.{other-is}
use Rattle.right_reading.proofs.OneToken.Tokens.{ahead-same, take_right, nowhere}
use Rattle.right_reading.specs.Stops.{stops_chain, stops_expression}

-- ---- an expression, taken apart

pub record IsChoice (e : Expr) (d : ℕ) (v : List Spot) : Type 0 where
  pub cond : Expr
  pub one : Expr
  pub other : Expr
  pub c : ℕ
  pub c1 : ℕ
  pub c2 : ℕ
  pub u : List Spot
  pub x : Spot
  pub u1 : List Spot
  pub y : Spot
  pub u2 : List Spot
  pub same : e ≡ unmarked cond.at (kind.Choose cond one other)
  pub condition : Spells (chain_parts 9 cond) c u
  pub question : x.symbol ≡ symbol.Question
  pub first_one : Spells (expr_parts one) c1 u1
  pub colon : y.symbol ≡ symbol.Colon
  pub second_one : Spells (expr_parts other) c2 u2
  pub tokens : v ≡ u ++ (x ∷ (u1 ++ (y ∷ u2)))
  pub depth : d ≡ suc (max c (max c1 c2))

pub record IsPlain (e : Expr) (d : ℕ) (v : List Spot) : Type 0 where
  pub chain : Spells (chain_parts 9 e) d v

pub expression-apart : {e : Expr} {d : ℕ} {v : List Spot} → Spells (expr_parts e) d v → IsPlain e d v ⊎ IsChoice e d v
expression-apart {e} {d} {v} (spelling.whole {c1 = c1} {u1 = u1} (plain_expr) before spelling.nothing spelling.nothing tokens depth) =
    let all : u1 ≡ v = sym (tokens ∙ append-nil (u1 ++ []) ∙ append-nil u1) in
    let same : c1 ≡ d = omega (arith, depth) in
    let s1 = subst (λ (x : List Spot). Spells (chain_parts 9 e) c1 x) all before in
    inl (record { chain = subst (λ (x : ℕ). Spells (chain_parts 9 e) x v) same s1 })
expression-apart {e} {d} {v} (spelling.whole {c1 = c1} {c2 = c2} {u1 = u1} {u2 = u2} (choose {cond = cond} {one = one} {other = other} eq) before behind spelling.nothing tokens depth) =
    let q = from_token behind in
    let one_part = from_node q.after in
    let s1 : Spells (expr_parts one) (max (counted one_part.u2 (max one_part.c1 one_part.c2)) 0) ((one_part.u1 ++ one_part.u2) ++ []) =
    spelling.whole one_part.rule one_part.before one_part.behind spelling.nothing refl refl in
    let colon = from_token one_part.after in
    let all : u2 ≡ q.x ∷ ((one_part.u1 ++ one_part.u2) ++ (colon.x ∷ colon.rest)) =
    q.tokens ∙ ap (λ (w : List Spot). q.x ∷ w) (one_part.tokens ∙ ap (λ (w : List Spot). (one_part.u1 ++ one_part.u2) ++ w) colon.tokens) in
    let whole : v ≡ u1 ++ (q.x ∷ (((one_part.u1 ++ one_part.u2) ++ []) ++ (colon.x ∷ colon.rest))) =
    tokens ∙ append-nil (u1 ++ u2) ∙ ap (λ (w : List Spot). u1 ++ w) all ∙ ap (λ (w : List Spot). u1 ++ (q.x ∷ (w ++ (colon.x ∷ colon.rest)))) (sym (append-nil (one_part.u1 ++ one_part.u2))) in
    let count : counted u2 (max c1 c2) ≡ suc (max c1 c2) = ap (λ (w : List Spot). counted w (max c1 c2)) all in
    inr (record {
      cond = cond;
      one = one;
      other = other;
      c = c1;
      c1 = max (counted one_part.u2 (max one_part.c1 one_part.c2)) 0;
      c2 = one_part.d;
      u = u1;
      x = q.x;
      u1 = (one_part.u1 ++ one_part.u2) ++ [];
      y = colon.x;
      u2 = colon.rest;
      same = eq;
      condition = before;
      question = q.is;
      first_one = s1;
      colon = colon.is;
      second_one = colon.after;
      tokens = whole;
      depth = omega (arith, depth, count, one_part.depth);
    })

-- ---- the condition is refused

expression_front : (limit : ℕ) (deep : Bool) (tokens rest : List Spot) → HasFront (chain_parts 9) limit deep tokens rest → HasFront expr_parts limit deep tokens rest
expression_front limit false tokens rest h = (h.0, h.1, spelling.broken_early plain_expr h.2)
expression_front limit true tokens rest h = (h.0, h.1, pick h.2, h.3, h.4)
  where
    pick : Front (chain_parts 9 h.0) h.1 tokens ⊎ Front (chain_parts 9 h.0) h.1 (tokens ++ first_only rest) → Front (expr_parts h.0) h.1 tokens ⊎ Front (expr_parts h.0) h.1 (tokens ++ first_only rest)
    pick (inl f) = inl (spelling.broken_early plain_expr f)
    pick (inr f) = inr (spelling.broken_early plain_expr f)

-- a `?` may follow the condition
question-ends : (e : Expr) (x : Spot) (w : List Spot) → x.symbol ≡ symbol.Question → stops_chain 9 e (ahead (x ∷ w)) ≡ true
question-ends e x w is = subst (λ (t : Symbol). stops_chain 9 e t ≡ true) (sym is) refl

pub condition_refused : (limit : ℕ) (i : List Spot) (f : Fault) → Refused (chain_parts 9) limit (stops_chain 9) [] i f → Refused expr_parts limit stops_expression [] i f
condition_refused limit i f q = record { more = q.more; rest = q.rest; whole = q.whole; place = q.place; ends = q.ends; dead = dead; front = expression_front limit f.deep q.more q.rest q.front }
  where
    dead : (e : Expr) (d : ℕ) (v s r : List Spot) → Spells (expr_parts e) d v → Stops stops_expression e s → v ++ s ≡ q.more ++ r → first r ≡ first q.rest → Bad f.deep limit d
    dead e d v s r sp st g h = pick (expression-apart sp)
      where
        pick : IsPlain e d v ⊎ IsChoice e d v → Bad f.deep limit d
        pick (inl p) = q.dead e d v s r p.chain (expression-chain 9 (ahead s) st) g h
        pick (inr p) =
            let g2 : p.u ++ (p.x ∷ ((p.u1 ++ (p.y ∷ p.u2)) ++ s)) ≡ q.more ++ r = sym (append_assoc p.u (p.x ∷ (p.u1 ++ (p.y ∷ p.u2))) s) ∙ ap (λ (w : List Spot). w ++ s) (sym p.tokens) ∙ g in
            bad_more f.deep limit p.c d (omega (arith, p.depth)) (q.dead p.cond p.c p.u (p.x ∷ ((p.u1 ++ (p.y ∷ p.u2)) ++ s)) r p.condition (question-ends p.cond p.x ((p.u1 ++ (p.y ∷ p.u2)) ++ s) p.question) g2 h)

-- ---- the condition is read

module _ (limit : ℕ) (i : List Spot) (cond : Expr) (j : List Spot) (q : Read (chain_parts 9) limit (stops_chain 9) [] i cond j) where
  -- what begins so is the condition alone, or a choice of this condition
  pub Begun : Expr → ℕ → List Spot → List Spot → Type 0
  Begun e d s r = ((e ≡ cond) × (s ≡ r)) ⊎ ((one : Expr) × (other : Expr) × (c1 : ℕ) × (c2 : ℕ) × (x : Spot) × (u1 : List Spot) × (y : Spot) × (u2 : List Spot) × (e ≡ unmarked cond.at (kind.Choose cond one other))
      × (x.symbol ≡ symbol.Question) × Spells (expr_parts one) c1 u1 × (y.symbol ≡ symbol.Colon) × Spells (expr_parts other) c2 u2 × (x ∷ ((u1 ++ (y ∷ u2)) ++ s) ≡ r) × (d ≡ suc (max q.depth (max c1 c2))))

  begun : (e : Expr) (d : ℕ) (v s r : List Spot) → Spells (expr_parts e) d v → Stops stops_expression e s → v ++ s ≡ q.more ++ r → first r ≡ first j → Begun e d s r
  unfolding Begun
  begun e d v s r sp st g h = pick (expression-apart sp)
    where
      pick : IsPlain e d v ⊎ IsChoice e d v → Begun e d s r
      pick (inl p) = inl (q.only e d v s r p.chain (expression-chain 9 (ahead s) st) g h)
      pick (inr p) =
          let g2 : p.u ++ (p.x ∷ ((p.u1 ++ (p.y ∷ p.u2)) ++ s)) ≡ q.more ++ r = sym (append_assoc p.u (p.x ∷ (p.u1 ++ (p.y ∷ p.u2))) s) ∙ ap (λ (w : List Spot). w ++ s) (sym p.tokens) ∙ g in
          let o = q.only p.cond p.c p.u (p.x ∷ ((p.u1 ++ (p.y ∷ p.u2)) ++ s)) r p.condition (question-ends p.cond p.x ((p.u1 ++ (p.y ∷ p.u2)) ++ s) p.question) g2 h in
          let same : e ≡ unmarked cond.at (kind.Choose cond p.one p.other) = p.same ∙ ap (λ (z : Expr). unmarked z.at (kind.Choose z p.one p.other)) o.0 in
          let depths : p.c ≡ q.depth = depth-is p.condition ∙ ap depth_of_expression o.0 ∙ sym (depth-is q.spelled) in
          inr (p.one, p.other, p.c1, p.c2, p.x, p.u1, p.y, p.u2, same, p.question, p.first_one, p.colon, p.second_one, o.1, omega (arith, p.depth, depths))

  pub plain_right : same_symbol (ahead j) symbol.Question ≡ false → Right expr_parts limit stops_expression q.more j (Ok (cond, j))
  unfolding Begun
  plain_right none = record {
    more = [];
    depth = q.depth;
    whole = refl;
    within = q.within;
    ends = q.ends;
    only = only;
    spelled = subst (λ (w : List Spot). Spells (expr_parts cond) q.depth w) (sym (append-nil q.more)) (spelling.whole plain_expr q.spelled spelling.nothing spelling.nothing (sym (append-nil q.more) ∙ sym (append-nil (q.more ++ []))) (omega arith));
  }
    where
      only : (e : Expr) (d : ℕ) (v s r : List Spot) → Spells (expr_parts e) d v → Stops stops_expression e s → v ++ s ≡ q.more ++ r → first r ≡ first j → (e ≡ cond) × (s ≡ r)
      only e d v s r sp st g h = pick (begun e d v s r sp st g h)
        where
          pick : Begun e d s r → (e ≡ cond) × (s ≡ r)
          pick (inl p) = p
          pick (inr p) = absurd (other-is (ahead j) symbol.Question none (sym (ahead-same r j h) ∙ ap ahead (sym p.13) ∙ p.9))

-- ---- what follows the `?`

abbrev pub colon_parts : At → List Part
colon_parts at = kept symbol.Colon at ∷ []

abbrev pub branch_parts : Expr × (At × Expr) → List Part
branch_parts = both_parts expr_parts (both_parts colon_parts expr_parts)

abbrev pub branch_stops : Expr × (At × Expr) → Symbol → Bool
branch_stops = both_stops (both_stops stops_expression)

pub branches_right : (n : ℕ) (below : Parser Expr) → (Reads expr_parts n stops_expression below) → (i : List Spot) → Ends i
    → Right branch_parts n branch_stops [] i (both below (both (take_at symbol.Colon) below) i)
branches_right n below right i ends =
    Right-both expr_parts (both_parts colon_parts expr_parts) n stops_expression (both_stops stops_expression) colon_follows (nowhere, some_expr) below (both (take_at symbol.Colon) below) [] i (right i ends)
    (λ j e. Right-both colon_parts expr_parts n always stops_expression (λ x y c v s sp st. refl) some_expr (take_at symbol.Colon) below [] j (take_right symbol.Colon (λ q. cc) n j e) right)
  where
    colon_follows : Follows stops_expression (both_parts colon_parts expr_parts) (both_stops stops_expression)
    colon_follows x y c v s sp st =
        let t = from_token sp in
        subst (λ (z : Symbol). stops_expression x z ≡ true) (sym (ap (λ (w : List Spot). ahead (w ++ s)) t.tokens ∙ t.is.0)) refl

loosened : {one other : Expr} {at : At} {c : ℕ} {u : List Spot} → Spells (node (a.expr one) ∷ kept symbol.Colon at ∷ node (a.expr other) ∷ []) c u → Spells (node (a.expr one) ∷ word symbol.Colon ∷ node (a.expr other) ∷ []) c u
loosened {one} {other} {at} {c} {u} sp =
    let f = from_node sp in
    let t = from_token f.after in
    let after : Spells (word symbol.Colon ∷ node (a.expr other) ∷ []) f.d (t.x ∷ t.rest) = spelling.quoted t.is.0 t.after in
    spelling.whole f.rule f.before f.behind after (f.tokens ∙ ap (λ (w : List Spot). (f.u1 ++ f.u2) ++ w) t.tokens) f.depth

loosened_colon : {other : Expr} {at : At} {d : ℕ} {u : List Spot} → Front (kept symbol.Colon at ∷ node (a.expr other) ∷ []) d u → Front (word symbol.Colon ∷ node (a.expr other) ∷ []) d u
loosened_colon spelling.lacking = spelling.lacking
loosened_colon (spelling.quoted is f) = spelling.quoted is.0 f

loosened_front : {one other : Expr} {at : At} {d : ℕ} {u : List Spot} → Front (node (a.expr one) ∷ kept symbol.Colon at ∷ node (a.expr other) ∷ []) d u → Front (node (a.expr one) ∷ word symbol.Colon ∷ node (a.expr other) ∷ []) d u
loosened_front spelling.lacking = spelling.lacking
loosened_front (spelling.whole rule before behind after tokens depth) = spelling.whole rule before behind (loosened_colon after) tokens depth
loosened_front (spelling.broken_early rule f) = spelling.broken_early rule f
loosened_front (spelling.broken_late rule before f tokens depth) = spelling.broken_late rule before f tokens depth

module _ (n : ℕ) (i : List Spot) (cond : Expr) (x : Spot) (xs : List Spot) (q : Read (chain_parts 9) (suc n) (stops_chain 9) [] i cond (x ∷ xs)) (is : x.symbol ≡ symbol.Question) where
  choice_front : (one other : Expr) (d : ℕ) (u : List Spot) → Front (word symbol.Question ∷ node (a.expr one) ∷ word symbol.Colon ∷ node (a.expr other) ∷ []) d (x ∷ u)
      → Front (expr_parts (unmarked cond.at (kind.Choose cond one other))) (suc (max q.depth d)) ((q.more ++ (x ∷ [])) ++ u)
  choice_front one other d u f = spelling.broken_late (choose refl) q.spelled f (append_assoc q.more (x ∷ []) u) refl

  stopped : (e : Expr) (s r : List Spot) → Stops stops_expression e s → s ≡ x ∷ r → ⊥
  stopped e s r st g = let h : stops_expression e symbol.Question ≡ true = subst (λ (z : Symbol). stops_expression e z ≡ true) (ap ahead g ∙ is) st in cc

  -- no choice may stand there
  pub full_choice : suc n ≤ q.depth → Refused expr_parts (suc n) stops_expression q.more (x ∷ xs) (record { deep = true; at = x.at })
  unfolding Begun
  full_choice high =
      let f = spelling.broken_late (choose {cond = cond} {one = some_expr} {other = some_expr} refl) q.spelled (spelling.quoted is spelling.lacking) refl refl in
      record {
        more = [];
        rest = x ∷ xs;
        whole = refl;
        place = refl;
        ends = q.ends;
        dead = dead;
        front = (unmarked cond.at (kind.Choose cond some_expr some_expr), suc (max q.depth 0), inr (subst (λ (w : List Spot). Front (expr_parts (unmarked cond.at (kind.Choose cond some_expr some_expr))) (suc (max q.depth 0)) (w ++ (x ∷ []))) (sym (append-nil q.more)) f), omega arith, λ e. let g : symbol.Question ≡ symbol.End = sym is ∙ e in cc);
      }
    where
      dead : (e : Expr) (d : ℕ) (v s r : List Spot) → Spells (expr_parts e) d v → Stops stops_expression e s → v ++ s ≡ q.more ++ r → first r ≡ first (x ∷ xs) → suc n < d
      dead e d v s r sp st g h = pick (begun (suc n) i cond (x ∷ xs) q e d v s r sp st g h)
        where
          pick : Begun (suc n) i cond (x ∷ xs) q e d s r → suc n < d
          pick (inl p) = let e2 : stops_expression e symbol.Question ≡ true = subst (λ (z : Symbol). stops_expression e z ≡ true) (ap ahead p.1 ∙ ahead-same r (x ∷ xs) h ∙ is) st in cc
          pick (inr p) = omega (arith, p.14)

  -- what begins with the condition and `?` is a choice
  pub record Branches (e : Expr) (d : ℕ) (s r : List Spot) : Type 0 where
    pub b : Expr × (At × Expr)
    pub c : ℕ
    pub u : List Spot
    pub same : e ≡ unmarked cond.at (kind.Choose cond b.0 b.1.1)
    pub spelled : Spells (branch_parts b) c u
    pub tokens : u ++ s ≡ r
    pub deeper : suc c ≤ d

  branches : (e : Expr) (d : ℕ) (v s r : List Spot) → Spells (expr_parts e) d v → Stops stops_expression e s → v ++ s ≡ (q.more ++ (x ∷ [])) ++ r → Branches e d s r
  unfolding Begun
  branches e d v s r sp st g = pick (begun (suc n) i cond (x ∷ xs) q e d v s (x ∷ r) sp st (g ∙ append_assoc q.more (x ∷ []) r) refl)
    where
      pick : Begun (suc n) i cond (x ∷ xs) q e d s (x ∷ r) → Branches e d s r
      pick (inl p) = absurd (stopped e s r st p.1)
      pick (inr p) =
          let colon : Is (Kept symbol.Colon p.6.at) p.6 = (p.11, refl) in
          let sp2 : Spells (branch_parts (p.0, (p.6.at, p.1))) (max p.2 p.3) (p.5 ++ (p.6 ∷ p.7)) = join p.10 (spelling.quoted colon p.12) in
          let all : (p.5 ++ (p.6 ∷ p.7)) ++ s ≡ r = cc (p.13) in
          record { b = (p.0, (p.6.at, p.1)); c = max p.2 p.3; u = p.5 ++ (p.6 ∷ p.7); same = p.8; spelled = sp2; tokens = all; deeper = omega (arith, p.14) }

  deeper_choice : (deep : Bool) (c d : ℕ) → suc c ≤ d → Bad deep n c → Bad deep (suc n) d
  deeper_choice false c d le bad = bad
  deeper_choice true c d le bad = omega arith

  branch_front : (deep : Bool) (tokens rest : List Spot) → HasFront branch_parts n deep tokens rest → HasFront expr_parts (suc n) deep ((q.more ++ (x ∷ [])) ++ tokens) rest
  branch_front false tokens rest h = (unmarked cond.at (kind.Choose cond h.0.0 h.0.1.1), suc (max q.depth h.1), choice_front h.0.0 h.0.1.1 h.1 tokens (spelling.quoted is (loosened_front h.2)))
  branch_front true tokens rest h = (unmarked cond.at (kind.Choose cond h.0.0 h.0.1.1), suc (max q.depth h.1), pick h.2, omega (arith, h.3), h.4)
    where
      pick : Front (branch_parts h.0) h.1 tokens ⊎ Front (branch_parts h.0) h.1 (tokens ++ first_only rest)
          → Front (expr_parts (unmarked cond.at (kind.Choose cond h.0.0 h.0.1.1))) (suc (max q.depth h.1)) ((q.more ++ (x ∷ [])) ++ tokens)
          ⊎ Front (expr_parts (unmarked cond.at (kind.Choose cond h.0.0 h.0.1.1))) (suc (max q.depth h.1)) (((q.more ++ (x ∷ [])) ++ tokens) ++ first_only rest)
      pick (inl f) = inl (choice_front h.0.0 h.0.1.1 h.1 tokens (spelling.quoted is (loosened_front f)))
      pick (inr f) = inr (subst (λ (w : List Spot). Front (expr_parts (unmarked cond.at (kind.Choose cond h.0.0 h.0.1.1))) (suc (max q.depth h.1)) w) (sym (append_assoc (q.more ++ (x ∷ [])) tokens (first_only rest))) (choice_front h.0.0 h.0.1.1 h.1 (tokens ++ first_only rest) (spelling.quoted is (loosened_front f))))

  pub choice_right : q.depth ≤ n → (y : Result ((Expr × (At × Expr)) × List Spot) Fault) → Right branch_parts n branch_stops [] xs y
      → Right expr_parts (suc n) stops_expression (q.more ++ (x ∷ [])) xs (y >>= (λ z. Ok (unmarked cond.at (kind.Choose cond z.0.0 z.0.1.1), z.1)))
  choice_right low (Err f) r = record { more = r.more; rest = r.rest; whole = r.whole; place = r.place; ends = r.ends; dead = dead; front = branch_front f.deep r.more r.rest r.front }
    where
      dead : (e : Expr) (d : ℕ) (v s t : List Spot) → Spells (expr_parts e) d v → Stops stops_expression e s → v ++ s ≡ (q.more ++ (x ∷ [])) ++ (r.more ++ t) → first t ≡ first r.rest → Bad f.deep (suc n) d
      dead e d v s t sp st g h =
          let p = branches e d v s (r.more ++ t) sp st g in
          let stops : stops_expression p.b.1.1 (ahead s) ≡ true = st in
          deeper_choice f.deep p.c d p.deeper (r.dead p.b p.c p.u s t p.spelled stops p.tokens h)
  choice_right low (Ok z) r =
      let late : Spells (word symbol.Question ∷ node (a.expr z.0.0) ∷ word symbol.Colon ∷ node (a.expr z.0.1.1) ∷ []) r.depth (x ∷ r.more) = spelling.quoted is (loosened r.spelled) in
      record {
        more = r.more;
        depth = suc (max q.depth r.depth);
        whole = r.whole;
        within = omega (arith, r.within);
        ends = r.ends;
        only = only;
        spelled = spelling.whole (choose refl) q.spelled late spelling.nothing (append_assoc q.more (x ∷ []) r.more ∙ sym (append-nil (q.more ++ (x ∷ r.more)))) (omega arith);
      }
    where
      only : (e : Expr) (d : ℕ) (v s t : List Spot) → Spells (expr_parts e) d v → Stops stops_expression e s → v ++ s ≡ (q.more ++ (x ∷ [])) ++ (r.more ++ t) → first t ≡ first z.1 → (e ≡ unmarked cond.at (kind.Choose cond z.0.0 z.0.1.1)) × (s ≡ t)
      only e d v s t sp st g h =
          let p = branches e d v s (r.more ++ t) sp st g in
          let stops : stops_expression p.b.1.1 (ahead s) ≡ true = st in
          let o = r.only p.b p.c p.u s t p.spelled stops p.tokens h in
          (p.same ∙ ap (λ (b : Expr × (At × Expr)). unmarked cond.at (kind.Choose cond b.0 b.1.1)) o.0, o.1)
