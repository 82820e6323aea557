-- An `if` is read rightly: an `else` belongs to the nearest `if` before it that has none.
use Rattle.std.proofs.Common.{◌≡◌, ◌≢◌, ℕ, suc, max, ◌≤◌, ◌<◌, Bool, true, false, List, [], ◌∷◌, ◌++◌, Option, Some, None, ◌⊎◌, inl, inr, refl, ap, subst, ◌∙◌, sym, arith}
use Rattle.std.proofs.lemmas.List.{append_assoc, append-nil}
use Rattle.std.specs.Prelude.{Result, Ok, Err, not, ◌&&◌, if◌then◌else◌}
use Rattle.sat_base.specs.declared.name.At.{At}
use Rattle.c_tree.specs.declared.expression.Expr.{Expr}
use Rattle.c_tree.specs.declared.statement.Stmt.{Stmt}
use Rattle.c_tree.specs.declared.statement.Stmt.TheVariants as stmt
use Rattle.c_grammar.specs.declared.symbol.Symbol.{Symbol}
use Rattle.c_grammar.specs.declared.symbol.Symbol.TheVariants as symbol
use Rattle.c_grammar.specs.Grammar.{Rule, ends_open}
use Rattle.c_grammar.specs.Grammar as rule
use Rattle.c_grammar.specs.Nodes as a
use Rattle.c_grammar.specs.Parts.{Part, node, word, kept}
use Rattle.right_reading.specs.ReadExpressions.{expression_at}
use Rattle.right_reading.specs.Lists.{after}
use Rattle.right_reading.specs.ReadStatements.{condition_at, else_by, if_by}
use Rattle.c_grammar.specs.Spelling.{counted, Spells, Front}
use Rattle.c_grammar.specs.Spelling as spelling
use Rattle.c_grammar.specs.Spots.{Spot, here}
use Rattle.right_reading.specs.Stream.{ahead, rest, Fault, Parser, ◌>>=◌, both, take_at}
use Rattle.c_grammar.specs.Symbols.{same_symbol}
use Rattle.right_reading.proofs.Composed.Dependent.{first-append}
use Rattle.right_reading.proofs.Ahead.Begins.{starts}
use Rattle.c_grammar.proofs.Depths.{nothing_is_flat}
use Rattle.right_reading.specs.Right.{first, first_only, Ends, Stops, Read, Bad, HasFront, Refused, Right, always, Reads}
use Rattle.right_reading.proofs.Composed.Rules.{token-ahead}
use Rattle.c_grammar.proofs.Sequences.{from_token, from_node, from_nothing, split, join, Front-after}
use Rattle.statement_reading.proofs.Statements.StatementChoices.{begins_late}
use Rattle.statement_reading.proofs.Statements.StatementParts.{condition_right}
use Rattle.statement_reading.proofs.Statements.StatementStops.{stops_statement, no_else, stops_alike, open-If, open-Else, else_after, Post, post_both, Closes}
use Rattle.right_reading.proofs.Composed.Steps.{both_stops, Right-both}
use Rattle.c_grammar.proofs.SymbolNumbers.{same-is}
use Rattle.right_reading.proofs.OneToken.Tokens.{Right-if, ahead-same, nowhere, take_right, any_expression}
use Rattle.right_reading.proofs.OneToken.Words.{after_right}
use Rattle.right_reading.specs.Stops.{stops_expression}

-- up to the first branch
abbrev Head : Type 0
Head = At × (Expr × Stmt)

abbrev of_head : Head → List Part
of_head z = kept symbol.If z.0 ∷ word symbol.OpenParen ∷ node (a.expr z.1.0) ∷ word symbol.CloseParen ∷ node (a.stmt z.1.1) ∷ []

abbrev stops_head : Head → Symbol → Bool
stops_head z s = stops_statement z.1.1 s

abbrev of_other : Stmt → List Part
of_other s = word symbol.Else ∷ node (a.stmt s) ∷ []

abbrev of_else : Option Stmt → List Part
of_else None = []
of_else (Some s) = of_other s

abbrev if_of : Head → Option Stmt → Stmt
if_of z other = stmt.If z.0 z.1.0 z.1.1 other

abbrev of_statement : Stmt → List Part
of_statement s = node (a.stmt s) ∷ []

-- what may follow
abbrev AfterElse : Option Stmt → Symbol → Type 0
AfterElse None s = same_symbol s symbol.Else ≡ false
AfterElse (Some other) s = stops_statement other s ≡ true

not_open : (is_else : Bool) → not (true && is_else) ≡ true → is_else ≡ false
not_open true e = cc
not_open false e = refl

-- the parts of an `if` that is spelled
record IfParts (n : ℕ) (x : Stmt) (d : ℕ) (v s : List Spot) : Type 0 where
  head : Head
  other : Option Stmt
  same : x ≡ if_of head other
  c : ℕ
  u : List Spot
  left : Spells (of_head head) c u
  e : ℕ
  w : List Spot
  right : Spells (of_else other) e w
  tokens : v ≡ u ++ w
  may : Stops stops_head head (w ++ s)
  may_after : AfterElse other (ahead s)
  deeper_left : n < c → suc n < d
  deeper_right : n < e → suc n < d

counted_some : (u : List Spot) (x : Spot) (r : List Spot) (c : ℕ) → u ≡ x ∷ r → counted u c ≡ suc c
counted_some u x r c e = ap (λ (w : List Spot). counted w c) e

parts_by_rule : (n : ℕ) (i : List Spot) → ahead i ≡ symbol.If → (x : Stmt) (early late : List Part) (c1 c2 d d2 : ℕ) (u1 u2 v s r : List Spot) → Rule (a.stmt x) early late → Spells early c1 u1 → Spells late c2 u2
    → v ≡ u1 ++ u2 → d ≡ max (counted u2 (max c1 c2)) d2 → Stops stops_statement x s → v ++ s ≡ r → first r ≡ first i → IfParts n x d v s
parts_by_rule n i is x early late c1 c2 d d2 u1 u2 v s r (rule.if_ {at = at} {cond = cond} {branch = branch} same) before behind tokens depth st e h =
    let none = from_nothing before in
    let t = from_token behind in
    let k = counted_some u2 t.x t.rest (max c1 c2) t.tokens in
    let st2 : stops_statement (stmt.If at cond branch None) (ahead s) ≡ true = subst (λ (y : Stmt). stops_statement y (ahead s) ≡ true) same st in
    let shut : same_symbol (ahead s) symbol.Else ≡ false =
    not_open (same_symbol (ahead s) symbol.Else) (subst (λ (b : Bool). not (b && same_symbol (ahead s) symbol.Else) ≡ true) (open-If at cond branch) st2) in
    record {
      head = (at, (cond, branch));
      other = None;
      same = same;
      c = c2;
      u = u2;
      left = behind;
      e = 0;
      w = [];
      right = spelling.nothing;
      tokens = tokens ∙ ap (λ (w : List Spot). w ++ u2) none.tokens ∙ sym (append-nil u2);
      may = no_else branch (ahead s) shut;
      may_after = shut;
      deeper_left = λ lt. omega (arith, depth, k);
      deeper_right = λ lt. absurd (omega arith);
    }
parts_by_rule n i is x early late c1 c2 d d2 u1 u2 v s r (rule.if_else {at = at} {cond = cond} {branch = branch} {other = other} same closed) before behind tokens depth st e h =
    let none = from_nothing before in
    let t = from_token behind in
    let k = counted_some u2 t.x t.rest (max c1 c2) t.tokens in
    let head : Head = (at, (cond, branch)) in
    let p = split (of_head head) (of_other other) behind in
    record {
      head = head;
      other = Some other;
      same = same;
      c = p.c;
      u = p.u;
      left = p.left;
      e = p.d;
      w = p.v;
      right = p.right;
      tokens = tokens ∙ ap (λ (w : List Spot). w ++ u2) none.tokens ∙ p.tokens;
      may = subst (λ (b : Bool). not (b && same_symbol (ahead (p.v ++ s)) symbol.Else) ≡ true) (sym closed) refl;
      may_after = stops_alike other x (ahead s) (sym (ap ends_open same ∙ open-Else at cond branch other)) st;
      deeper_left = λ lt. omega (arith, depth, k, p.depth);
      deeper_right = λ lt. omega (arith, depth, k, p.depth);
    }
parts_by_rule n i is x early late c1 c2 d d2 u1 u2 v s r _ before behind tokens depth st e h =
    let k : starts late symbol.If ≡ true = begins_late late symbol.If c1 c2 u1 u2 s r i before behind (ap (λ (w : List Spot). w ++ s) (sym tokens) ∙ e) h is in absurd (cc)

if_parts : (n : ℕ) (i : List Spot) → ahead i ≡ symbol.If → (x : Stmt) (d : ℕ) (v s r : List Spot) → Spells (of_statement x) d v → Stops stops_statement x s → v ++ s ≡ r → first r ≡ first i → IfParts n x d v s
if_parts n i is x d v s r sp st e h =
    let f = from_node sp in
    let tokens : v ≡ f.u1 ++ f.u2 = f.tokens ∙ ap (λ (w : List Spot). (f.u1 ++ f.u2) ++ w) (from_nothing f.after).tokens ∙ append-nil (f.u1 ++ f.u2) in
    parts_by_rule n i is x f.early f.late f.c1 f.c2 d f.d f.u1 f.u2 v s r f.rule f.before f.behind tokens f.depth st e h

bad_deeper : (deep : Bool) (limit limit' c d : ℕ) → (limit < c → limit' < d) → Bad deep limit c → Bad deep limit' d
bad_deeper false limit limit' c d more bad = bad
bad_deeper true limit limit' c d more bad = more bad

-- ---- what is spelled, and fronts

spells_late : {x : Stmt} {late : List Part} (c : ℕ) (u : List Spot) → Rule (a.stmt x) [] late → Spells late c u → Spells (of_statement x) (max (counted u (max 0 c)) 0) u
spells_late c u rule sp = spelling.whole rule spelling.nothing sp spelling.nothing (sym (append-nil u)) refl

front_late : {x : Stmt} {late : List Part} (c : ℕ) (u : List Spot) → Rule (a.stmt x) [] late → Front late c u → Front (of_statement x) (counted u (max 0 c)) u
front_late c u rule f = spelling.broken_late rule spelling.nothing f refl refl

deeper : (n : ℕ) {ps : List Part} (c : ℕ) (u : List Spot) → Front ps c u → n < c → suc n < counted u (max 0 c)
deeper n c [] f lt = absurd (omega (arith, nothing_is_flat f))
deeper n c (x ∷ xs) f lt = omega arith

counted_within : (n c : ℕ) (u : List Spot) → c ≤ n → max (counted u (max 0 c)) 0 ≤ suc n
counted_within n c [] le = omega arith
counted_within n c (x ∷ xs) le = omega arith

-- the front of the parts in place of that of the whole
late_front : (n : ℕ) {A : Type 0} (of : A → List Part) (x : A → Stmt) (late : A → List Part) (c0 : ℕ) (done : List Spot) → ((y : A) → Rule (a.stmt (x y)) [] (late y))
    → ((y : A) (c : ℕ) (u : List Spot) → Front (of y) c u → Front (late y) (max c0 c) (done ++ u)) → (deep : Bool) (tokens rest : List Spot) → HasFront of n deep tokens rest
    → HasFront of_statement (suc n) deep (done ++ tokens) rest
late_front n of x late c0 done rules fronts false tokens rest h = (x h.0, counted (done ++ tokens) (max 0 (max c0 h.1)), front_late (max c0 h.1) (done ++ tokens) (rules h.0) (fronts h.0 h.1 tokens h.2))
late_front n {A} of x late c0 done rules fronts true tokens rest h = pick h.2
  where
    pick : Front (of h.0) h.1 tokens ⊎ Front (of h.0) h.1 (tokens ++ first_only rest) → HasFront of_statement (suc n) true (done ++ tokens) rest
    pick (inl f) =
        let g = fronts h.0 h.1 tokens f in
        let lt : n < max c0 h.1 = omega (arith, h.3) in
        (x h.0, counted (done ++ tokens) (max 0 (max c0 h.1)), inl (front_late (max c0 h.1) (done ++ tokens) (rules h.0) g), deeper n (max c0 h.1) (done ++ tokens) g lt, h.4)
    pick (inr f) =
        let e : done ++ (tokens ++ first_only rest) ≡ (done ++ tokens) ++ first_only rest = sym (append_assoc done tokens (first_only rest)) in
        let g = subst (λ (w : List Spot). Front (late h.0) (max c0 h.1) w) e (fronts h.0 h.1 (tokens ++ first_only rest) f) in
        let lt : n < max c0 h.1 = omega (arith, h.3) in
        (x h.0, counted ((done ++ tokens) ++ first_only rest) (max 0 (max c0 h.1)), inr (front_late (max c0 h.1) ((done ++ tokens) ++ first_only rest) (rules h.0) g), deeper n (max c0 h.1) ((done ++ tokens) ++ first_only rest) g lt, h.4)

module _ (n : ℕ) (i : List Spot) (is : ahead i ≡ symbol.If) where
  -- what is spelled by the same tokens after the head that is read
  after_head : (z : Head) (j : List Spot) (r : Read of_head n stops_head [] i z j) (t k : List Spot) → j ≡ t ++ k → (x : Stmt) (d : ℕ) (v s r2 : List Spot) (p : IfParts n x d v s)
      → v ++ s ≡ (r.more ++ t) ++ r2 → first r2 ≡ first k → (p.head ≡ z) × (p.w ++ s ≡ t ++ r2)
  after_head z j r t k whole x d v s r2 p e h =
      let e2 : p.u ++ (p.w ++ s) ≡ r.more ++ (t ++ r2) = sym (append_assoc p.u p.w s) ∙ ap (λ (w : List Spot). w ++ s) (sym p.tokens) ∙ e ∙ append_assoc r.more t r2 in
      let h2 : first (t ++ r2) ≡ first j = first-append t r2 k h ∙ ap first (sym whole) in
      r.only p.head p.c p.u (p.w ++ s) (t ++ r2) p.left p.may e2 h2

  same_front : (m r2 k : List Spot) → i ≡ m ++ k → first r2 ≡ first k → first (m ++ r2) ≡ first i
  same_front m r2 k whole h = first-append m r2 k h ∙ ap first (sym whole)

  -- the head is refused
  head_refused : (f : Fault) → Refused of_head n stops_head [] i f → Refused of_statement (suc n) stops_statement [] i f
  head_refused f r = record {
    more = r.more;
    rest = r.rest;
    whole = r.whole;
    place = r.place;
    ends = r.ends;
    dead = dead;
    front = late_front n of_head (λ (z : Head). if_of z None) of_head 0 [] (λ z. rule.if_ refl) (λ z c u g. subst (λ (d : ℕ). Front (of_head z) d u) (omega arith) g) f.deep r.more r.rest r.front;
  }
    where
      dead : (x : Stmt) (c : ℕ) (v s r2 : List Spot) → Spells (of_statement x) c v → Stops stops_statement x s → v ++ s ≡ r.more ++ r2 → first r2 ≡ first r.rest → Bad f.deep (suc n) c
      dead x c v s r2 sp st e h =
          let p = if_parts n i is x c v s (r.more ++ r2) sp st e (same_front r.more r2 r.rest r.whole h) in
          let e2 : p.u ++ (p.w ++ s) ≡ r.more ++ r2 = sym (append_assoc p.u p.w s) ∙ ap (λ (w : List Spot). w ++ s) (sym p.tokens) ∙ e in
          bad_deeper f.deep n (suc n) p.c c p.deeper_left (r.dead p.head p.c p.u (p.w ++ s) r2 p.left p.may e2 h)

  -- there is no `else`
  no_else_read : (z : Head) (j : List Spot) → Read of_head n stops_head [] i z j → same_symbol (ahead j) symbol.Else ≡ false → Read of_statement (suc n) stops_statement [] i (if_of z None) j
  no_else_read z j r other =
      record {
        more = r.more;
        depth = max (counted r.more (max 0 r.depth)) 0;
        whole = r.whole;
        spelled = spells_late r.depth r.more (rule.if_ refl) r.spelled;
        within = counted_within n r.depth r.more r.within;
        ends = r.ends;
        only = only;
      }
    where
      only : (x : Stmt) (c : ℕ) (v s r2 : List Spot) → Spells (of_statement x) c v → Stops stops_statement x s → v ++ s ≡ r.more ++ r2 → first r2 ≡ first j → (x ≡ if_of z None) × (s ≡ r2)
      only x c v s r2 sp st e h = pick p.other p.same p.right
        where
          p : IfParts n x c v s
          p = if_parts n i is x c v s (r.more ++ r2) sp st e (same_front r.more r2 j r.whole h)

          o : (p.head ≡ z) × (p.w ++ s ≡ r2)
          o = after_head z j r [] j refl x c v s r2 p (e ∙ ap (λ (w : List Spot). w ++ r2) (sym (append-nil r.more))) h

          pick : (other2 : Option Stmt) → x ≡ if_of p.head other2 → Spells (of_else other2) p.e p.w → (x ≡ if_of z None) × (s ≡ r2)
          pick None same right =
              let e3 : s ≡ r2 = ap (λ (w : List Spot). w ++ s) (sym (from_nothing right).tokens) ∙ o.1 in
              (same ∙ ap (λ (y : Head). if_of y None) o.0, e3)
          pick (Some y) same right =
              let k : ahead j ≡ symbol.Else = sym (ap ahead o.1 ∙ ahead-same r2 j h) ∙ token-ahead s right in
              let m : same_symbol (ahead j) symbol.Else ≡ true = subst (λ (y : Symbol). same_symbol y symbol.Else ≡ true) (sym k) refl in
              absurd (cc (m, other))

  module _ (z : Head) (j : List Spot) (r : Read of_head n stops_head [] i z j) (shut : ends_open z.1.1 ≡ false) (is_else : ahead j ≡ symbol.Else) where
    -- of those that begin so each has an `else`
    has_else : (x : Stmt) (d : ℕ) (v s : List Spot) (p : IfParts n x d v s) (t k r2 : List Spot) → j ≡ t ++ k → p.w ++ s ≡ t ++ r2 → first r2 ≡ first k
        → (y : Stmt) × (x ≡ if_of p.head (Some y)) × Spells (of_other y) p.e p.w × (stops_statement y (ahead s) ≡ true)
    has_else x d v s p t k r2 whole e h = pick p.other p.same p.right p.may_after
      where
        pick : (other : Option Stmt) → x ≡ if_of p.head other → Spells (of_else other) p.e p.w → AfterElse other (ahead s)
            → (y : Stmt) × (x ≡ if_of p.head (Some y)) × Spells (of_other y) p.e p.w × (stops_statement y (ahead s) ≡ true)
        pick None same right may =
            let e2 : s ≡ t ++ r2 = ap (λ (w : List Spot). w ++ s) (sym (from_nothing right).tokens) ∙ e in
            let k2 : ahead s ≡ symbol.Else = ap ahead e2 ∙ ahead-same (t ++ r2) j (first-append t r2 k h ∙ ap first (sym whole)) ∙ is_else in
            let m : same_symbol (ahead s) symbol.Else ≡ true = subst (λ (y : Symbol). same_symbol y symbol.Else ≡ true) (sym k2) refl in
            absurd (cc (m, may))
        pick (Some y) same right may = (y, same, right, may)

    else_refused : (f : Fault) → Refused of_other n stops_statement [] j f → Refused of_statement (suc n) stops_statement [] i f
    else_refused f q =
        record {
          more = r.more ++ q.more;
          rest = q.rest;
          whole = r.whole ∙ ap (λ (w : List Spot). r.more ++ w) q.whole ∙ sym (append_assoc r.more q.more q.rest);
          place = q.place;
          ends = q.ends;
          dead = dead;
          front = late_front n of_other (λ (y : Stmt). if_of z (Some y)) (λ (y : Stmt). of_head z ++ of_other y) r.depth r.more (λ y. rule.if_else refl shut) (λ y c u g. Front-after r.spelled g) f.deep q.more q.rest q.front;
        }
      where
        all : i ≡ (r.more ++ q.more) ++ q.rest
        all = r.whole ∙ ap (λ (w : List Spot). r.more ++ w) q.whole ∙ sym (append_assoc r.more q.more q.rest)

        dead : (x : Stmt) (c : ℕ) (v s r2 : List Spot) → Spells (of_statement x) c v → Stops stops_statement x s → v ++ s ≡ (r.more ++ q.more) ++ r2 → first r2 ≡ first q.rest → Bad f.deep (suc n) c
        dead x c v s r2 sp st e h =
            let p = if_parts n i is x c v s ((r.more ++ q.more) ++ r2) sp st e (same_front (r.more ++ q.more) r2 q.rest all h) in
            let o = after_head z j r q.more q.rest q.whole x c v s r2 p e h in
            let y = has_else x c v s p q.more q.rest r2 q.whole o.1 h in
            bad_deeper f.deep n (suc n) p.e c p.deeper_right (q.dead y.0 p.e p.w s r2 y.2 y.3 o.1 h)

    else_read : (other : Stmt) (k : List Spot) → Read of_other n stops_statement [] j other k → Read of_statement (suc n) stops_statement [] i (if_of z (Some other)) k
    else_read other k q =
        record {
          more = r.more ++ q.more;
          depth = max (counted (r.more ++ q.more) (max 0 (max r.depth q.depth))) 0;
          whole = all;
          spelled = spells_late (max r.depth q.depth) (r.more ++ q.more) (rule.if_else refl shut) (join r.spelled q.spelled);
          within = counted_within n (max r.depth q.depth) (r.more ++ q.more) (omega (arith, r.within, q.within));
          ends = q.ends;
          only = only;
        }
      where
        all : i ≡ (r.more ++ q.more) ++ k
        all = r.whole ∙ ap (λ (w : List Spot). r.more ++ w) q.whole ∙ sym (append_assoc r.more q.more k)

        only : (x : Stmt) (c : ℕ) (v s r2 : List Spot) → Spells (of_statement x) c v → Stops stops_statement x s → v ++ s ≡ (r.more ++ q.more) ++ r2 → first r2 ≡ first k → (x ≡ if_of z (Some other)) × (s ≡ r2)
        only x c v s r2 sp st e h =
            let p = if_parts n i is x c v s ((r.more ++ q.more) ++ r2) sp st e (same_front (r.more ++ q.more) r2 k all h) in
            let o = after_head z j r q.more k q.whole x c v s r2 p e h in
            let y = has_else x c v s p q.more k r2 q.whole o.1 h in
            let g = q.only y.0 p.e p.w s r2 y.2 y.3 o.1 h in
            let same : x ≡ if_of z (Some other) = y.1 ∙ ap (λ (w : Head). if_of w (Some y.0)) o.0 ∙ ap (λ (w : Stmt). if_of z (Some w)) g.0 in
            (same, g.1)

-- ---- with what reads statements

abbrev take_if : Bool → Parser At
take_if b j = if b then Ok (here j, rest j) else Err (record { deep = false; at = here j })

module _ (n : ℕ) (expression_right : Reads (λ (e : Expr). node (a.expr e) ∷ []) n stops_expression (expression_at n))
    (statement : Parser Stmt) (statement_right : Reads (λ (s : Stmt). node (a.stmt s) ∷ []) n stops_statement statement)
    (closes : (i : List Spot) → Post Closes (statement i)) where
  abbrev head_at : Parser Head
  head_at = both (take_at symbol.If) (both (condition_at n) statement)

  any_statement : Stmt
  any_statement = stmt.Empty nowhere

  head_right : Reads of_head n stops_head head_at
  head_right i ends =
      let more : symbol.If ≢ symbol.End = λ e. cc in
      let inner : (j : List Spot) → Ends j → Right (λ (z : Expr × Stmt). word symbol.OpenParen ∷ node (a.expr z.0) ∷ word symbol.CloseParen ∷ node (a.stmt z.1) ∷ []) n (both_stops stops_statement) [] j (both (condition_at n) statement j) =
      λ j ends_j. Right-both (λ (e : Expr). word symbol.OpenParen ∷ node (a.expr e) ∷ word symbol.CloseParen ∷ []) of_statement n always stops_statement (λ e x c v s sp st. refl) any_statement
      (condition_at n) statement [] j (condition_right n expression_right j ends_j) statement_right in
      Right-both (λ (at : At). kept symbol.If at ∷ []) (λ (z : Expr × Stmt). word symbol.OpenParen ∷ node (a.expr z.0) ∷ word symbol.CloseParen ∷ node (a.stmt z.1) ∷ []) n always (both_stops stops_statement)
      (λ x z c v s sp st. refl) (any_expression, any_statement) (take_at symbol.If) (both (condition_at n) statement) [] i (take_right symbol.If more n i ends) inner

  -- the branch that is read does not end open where an `else` is ahead
  head_closes : (i : List Spot) → Post (λ (z : Head) k. Closes z.1.1 k) (head_at i)
  head_closes i = post_both (λ (x : Expr × Stmt) k. Closes x.1 k) (take_at symbol.If) (both (condition_at n) statement) i (λ j. post_both Closes (condition_at n) statement j closes)

  pub if_right : (i : List Spot) → Ends i → ahead i ≡ symbol.If → Right (λ (s : Stmt). node (a.stmt s) ∷ []) (suc n) stops_statement [] i (if_by n statement i)
  unfolding if_by else_by
  if_right i ends is = step (head_at i) (head_right i ends) (head_closes i)
    where
      with_else : (z : Head) (j : List Spot) → Read of_head n stops_head [] i z j → ends_open z.1.1 ≡ false → ahead j ≡ symbol.Else → (y : Result (Stmt × List Spot) Fault) → Right of_other n stops_statement [] j y
          → Right of_statement (suc n) stops_statement [] i (y >>= (λ x. Ok (if_of z (Some x.0), x.1)))
      with_else z j r shut is_else (Ok y) q = else_read n i is z j r shut is_else y.0 y.1 q
      with_else z j r shut is_else (Err f) q = else_refused n i is z j r shut is_else f q

      taken : (j : List Spot) → ahead j ≡ symbol.Else → after symbol.Else statement j ≡ statement (rest j)
      taken j is_else = by (same_symbol (ahead j) symbol.Else) (subst (λ (x : Symbol). same_symbol x symbol.Else ≡ true) (sym is_else) refl)
        where
          by : (b : Bool) → b ≡ true → (take_if b j >>= (λ x. statement x.1)) ≡ statement (rest j)
          by true e = refl
          by false e = cc

      step : (y : Result (Head × List Spot) Fault) → Right of_head n stops_head [] i y → Post (λ (z : Head) k. Closes z.1.1 k) y
          → Right of_statement (suc n) stops_statement [] i (y >>= (λ x. if same_symbol (ahead x.1) symbol.Else then statement (rest x.1) >>= (λ w. Ok (if_of x.0 (Some w.0), w.1)) else Ok (if_of x.0 None, x.1)))
      step (Err f) r post = head_refused n i is f r
      step (Ok x) r post =
          Right-if of_statement (suc n) stops_statement [] i (same_symbol (ahead x.1) symbol.Else) (statement (rest x.1) >>= (λ w. Ok (if_of x.0 (Some w.0), w.1))) (Ok (if_of x.0 None, x.1))
          (λ h.
          let more : symbol.Else ≢ symbol.End = λ e. cc in
          let is_else = same-is (ahead x.1) symbol.Else h in
          let shut : ends_open x.0.1.1 ≡ false = else_after (ends_open x.0.1.1) (subst (λ (b : Bool). not (ends_open x.0.1.1 && b) ≡ true) h post) in
          let q = subst (λ (y : Result (Stmt × List Spot) Fault). Right of_other n stops_statement [] x.1 y) (taken x.1 is_else) (after_right of_statement n stops_statement symbol.Else more any_statement statement statement_right x.1 r.ends) in
          with_else x.0 x.1 r shut is_else (statement (rest x.1)) q)
          (λ h. no_else_read n i is x.0 x.1 r h)
