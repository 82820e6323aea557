-- Reading chains of marks between operands.
use Rattle.std.proofs.Common.{◌≡◌, ℕ, zero, suc, max, ◌≤◌, ◌<◌, nat_le, Bool, true, false, List, [], ◌∷◌, ◌++◌, length, Option, Some, None, ◌⊎◌, inl, inr, refl, ap, subst, ◌∙◌, sym, arith}
use Rattle.std.proofs.lemmas.Bool.Decides.{nat_tests}
use Rattle.std.proofs.lemmas.List.{append_assoc, append-nil, length-append}
use Rattle.std.specs.Prelude.{Result, Ok, Err, pos, if◌then◌else◌}
use Rattle.c_tree.specs.declared.expression.BinaryMark.{BinaryMark}
use Rattle.c_tree.specs.declared.expression.Expr.{Expr}
use Rattle.c_tree.specs.declared.expression.ExprKind.TheVariants as kind
use Rattle.c_tree.specs.Depth.{depth_of_expression}
use Rattle.c_grammar.specs.declared.symbol.Symbol.TheVariants as symbol
use Rattle.c_grammar.specs.Grammar.{binary}
use Rattle.c_grammar.specs.Marks.{binary_symbol, rank_of}
use Rattle.right_reading.specs.ReadExpressions.{ranked, if_mark, marks_at, unmarked}
use Rattle.c_grammar.specs.Spelling.{Spells, Front}
use Rattle.c_grammar.specs.Spelling as spelling
use Rattle.c_grammar.specs.Spots.{Spot, here}
use Rattle.right_reading.specs.Stream.{ahead, rest, Fault, Parser, ◌>>=◌}
use Rattle.c_grammar.specs.Symbols.{binary_mark}
use Rattle.expression_reading.proofs.ByMark.Chains.{joined, chain_parts, Tail, Peeled, Bare, peel}
use Rattle.c_grammar.proofs.Depths.{spelled_depth}
use Rattle.right_reading.specs.Right.{first, first_only, Ends, Stops, Read, Bad, HasFront, Refused, Right, Reads}
use Rattle.right_reading.proofs.Composed.Shifts.{unshift}
use Rattle.right_reading.proofs.Ahead.Stops.{mark-of-symbol, ranked-same, ranked-is, loose-not, loose-lower, looser}
use Rattle.right_reading.proofs.OneToken.Tokens.{ahead-same}
use Rattle.right_reading.specs.Stops.{stops_chain}

-- whatever is a chain and begins as the tokens do goes on from l
abbrev pub Known : ℕ → List Spot → List Spot → Expr → ℕ → Type 0
Known k b i l c =
    (e : Expr) (d : ℕ) (v s r : List Spot) → Spells (chain_parts (suc k) e) d v → Stops (stops_chain (suc k)) e s → v ++ s ≡ b ++ r → first r ≡ first i
    → (w : List Spot) × Tail k l c e d w × (w ++ s ≡ r)

-- the symbol after a bare chain is what is ahead
pub bare-ahead : (i s r w : List Spot) → w ≡ [] → w ++ s ≡ r → first r ≡ first i → ahead s ≡ ahead i
bare-ahead i s r w e f h = ahead-same s i (ap first (ap (λ (x : List Spot). x ++ s) (sym e) ∙ f) ∙ h)

-- and that after a peeled one is its first mark
pub peeled-ahead : {k : ℕ} {l : Expr} {c : ℕ} {e : Expr} {d : ℕ} {w : List Spot} (p : Peeled k l c e d w) (i s r : List Spot) → w ++ s ≡ r → first r ≡ first i → ahead i ≡ binary_symbol p.mark
peeled-ahead {w = w} p i s r f h =
    let e : first (w ++ s) ≡ Some p.x = ap (λ (y : List Spot). first (y ++ s)) p.tokens in
    sym (ahead-same (p.x ∷ []) i (sym e ∙ ap first f ∙ h)) ∙ p.is.0

-- what follows an operand in a chain
pub after_operand : (k : ℕ) (s w : List Spot) {l : Expr} {c : ℕ} {e : Expr} {d : ℕ} → Tail k l c e d w → (f : Expr) → stops_chain (suc k) e (ahead s) ≡ true → stops_chain k f (ahead (w ++ s)) ≡ true
after_operand k s w {l} {c} {e} {d} tail f st = pick (peel tail)
  where
    pick : Bare l c e d w ⊎ Peeled k l c e d w → stops_chain k f (ahead (w ++ s)) ≡ true
    pick (inl bare) = subst (λ (x : List Spot). stops_chain k f (ahead (x ++ s)) ≡ true) (sym bare.tokens) (looser k (ahead s) st)
    pick (inr p) = loose-lower k p.mark (ahead (w ++ s)) (ap (λ (x : List Spot). ahead (x ++ s)) p.tokens ∙ p.is.0) p.rank

-- a chain is as deep as its first operand
pub tail-deep : {k : ℕ} {l : Expr} {c : ℕ} {e : Expr} {d : ℕ} {w : List Spot} → Tail k l c e d w → c ≤ d
tail-deep {k} {l} {c} {e} {d} {w} tail = pick (peel tail)
  where
    pick : Bare l c e d w ⊎ Peeled k l c e d w → c ≤ d
    pick (inl bare) = omega (arith, bare.depth)
    pick (inr p) = omega (arith, p.deeper)

pub depth-is : {k : ℕ} {e : Expr} {c : ℕ} {v : List Spot} → Spells (chain_parts k e) c v → c ≡ depth_of_expression e
depth-is sp = omega (arith, spelled_depth sp)

-- some expression
pub some_expr : Expr
some_expr = unmarked (record { tok = 0; pos = record { line = 1; col = 1 } }) (kind.Int (pos 0))

module _ (k n : ℕ) (right : Parser Expr) (right_right : Reads (chain_parts k) n (stops_chain k) right) where
  -- a bare chain does not go on where a mark of its rank is ahead
  not-bare : (b i : List Spot) (l : Expr) (c : ℕ) (mark : BinaryMark) → ahead i ≡ binary_symbol mark → rank_of mark ≡ suc k
      → (e : Expr) (d : ℕ) (w s r : List Spot) → Stops (stops_chain (suc k)) e s → w ++ s ≡ r → first r ≡ first i → Bare l c e d w → ⊥
  not-bare b i l c mark is rank e d w s r st f h bare = loose-not (suc k) mark (ahead s) (bare-ahead i s r w bare.tokens f h ∙ is) rank st

  peeled : (b i : List Spot) (l : Expr) (c : ℕ) → Known k b i l c → (mark : BinaryMark) → ahead i ≡ binary_symbol mark → rank_of mark ≡ suc k
      → (e : Expr) (d : ℕ) (v s r : List Spot) → Spells (chain_parts (suc k) e) d v → Stops (stops_chain (suc k)) e s → v ++ s ≡ b ++ r → first r ≡ first i
      → (w : List Spot) × Peeled k l c e d w × (w ++ s ≡ r)
  peeled b i l c known mark is rank e d v s r sp st f h = let t = known e d v s r sp st f h in pick t.0 t.2 (peel t.1)
    where
      pick : (w : List Spot) → w ++ s ≡ r → Bare l c e d w ⊎ Peeled k l c e d w → (w : List Spot) × Peeled k l c e d w × (w ++ s ≡ r)
      pick w g (inl bare) = absurd (not-bare b i l c mark is rank e d w s r st g h bare)
      pick w g (inr p) = (w, p, g)

  -- no mark is ahead
  bare_right : (l : Expr) (c : ℕ) (b i : List Spot) → Spells (chain_parts (suc k) l) c b → c ≤ suc n → Ends i → Known k b i l c → ranked (suc k) (binary_mark (ahead i)) ≡ None
      → Right (chain_parts (suc k)) (suc n) (stops_chain (suc k)) b i (Ok (l, i))
  bare_right l c b i sp le ends known none = record { more = []; depth = c; whole = refl; spelled = subst (λ (x : List Spot). Spells (chain_parts (suc k) l) c x) (sym (append-nil b)) sp; within = le; ends = ends; only = only }
    where
      only : (e : Expr) (d : ℕ) (v s r : List Spot) → Spells (chain_parts (suc k) e) d v → Stops (stops_chain (suc k)) e s → v ++ s ≡ b ++ r → first r ≡ first i → (e ≡ l) × (s ≡ r)
      only e d v s r sp2 st f h = let t = known e d v s r sp2 st f h in pick t.0 t.2 (peel t.1)
        where
          pick : (w : List Spot) → w ++ s ≡ r → Bare l c e d w ⊎ Peeled k l c e d w → (e ≡ l) × (s ≡ r)
          pick w g (inl bare) = (bare.same, ap (λ (x : List Spot). x ++ s) (sym bare.tokens) ∙ g)
          pick w g (inr p) = let some : ranked (suc k) (binary_mark (ahead i)) ≡ Some p.mark = ranked-same (suc k) p.mark (ahead i) (peeled-ahead p i s r g h) p.rank in cc (none, some)

  -- the mark is there
  marked : (l : Expr) (c : ℕ) (b : List Spot) (mark : BinaryMark) (x : Spot) → rank_of mark ≡ suc k → x.symbol ≡ binary_symbol mark → Spells (chain_parts (suc k) l) c b
      → (e : Expr) (d : ℕ) (u : List Spot) → Front (chain_parts k e) d u → Front (chain_parts (suc k) (joined mark x.at l e)) (suc (max c d)) (b ++ (x ∷ u))
  marked l c b mark x rank is sp e d u f = spelling.broken_late (binary rank refl) sp (spelling.quoted (is, refl) f) refl refl

  -- no more marks may stand on l
  full_right : (l : Expr) (c : ℕ) (b i : List Spot) (mark : BinaryMark) → ahead i ≡ binary_symbol mark → rank_of mark ≡ suc k → Spells (chain_parts (suc k) l) c b → suc n ≤ c → Ends i → Known k b i l c
      → Refused (chain_parts (suc k)) (suc n) (stops_chain (suc k)) b i (record { deep = true; at = here i })
  full_right l c b [] mark is rank sp le ends known = absurd ends
  full_right l c b (x ∷ xs) mark is rank sp le ends known =
      let f = marked l c b mark x rank is sp some_expr 0 [] spelling.lacking in
      record {
        more = [];
        rest = x ∷ xs;
        whole = refl;
        place = refl;
        ends = ends;
        dead = dead;
        front = (joined mark x.at l some_expr, suc (max c 0), inr (subst (λ (y : List Spot). Front (chain_parts (suc k) (joined mark x.at l some_expr)) (suc (max c 0)) (y ++ (x ∷ []))) (sym (append-nil b)) f), omega arith, λ e. mark-not-end mark (sym is ∙ e));
      }
    where
      mark-not-end : (m : BinaryMark) → binary_symbol m ≡ symbol.End → ⊥
      mark-not-end m e = let g : None ≡ Some m = ap binary_mark (sym e) ∙ mark-of-symbol m in cc

      dead : (e : Expr) (d : ℕ) (v s r : List Spot) → Spells (chain_parts (suc k) e) d v → Stops (stops_chain (suc k)) e s → v ++ s ≡ b ++ r → first r ≡ first (x ∷ xs) → suc n < d
      dead e d v s r sp2 st f h = let p = peeled b (x ∷ xs) l c known mark is rank e d v s r sp2 st f h in omega (arith, p.1.deeper)

  -- ---- what follows the mark

  pub record AfterMark (l : Expr) (c : ℕ) (x : Spot) (e : Expr) (d : ℕ) (s r : List Spot) : Type 0 where
    pub mark : BinaryMark
    pub right_one : Expr
    pub cr : ℕ
    pub u : List Spot
    pub w : List Spot
    pub is : binary_symbol mark ≡ x.symbol
    pub spelled : Spells (chain_parts k right_one) cr u
    pub tail : Tail k (joined mark x.at l right_one) (suc (max c cr)) e d w
    pub tokens : u ++ (w ++ s) ≡ r
    pub stops : stops_chain k right_one (ahead (w ++ s)) ≡ true
    pub deeper : suc (max c cr) ≤ d

  after_mark : (b : List Spot) (l : Expr) (c : ℕ) (mark : BinaryMark) (x : Spot) (xs : List Spot) → Known k b (x ∷ xs) l c → x.symbol ≡ binary_symbol mark → rank_of mark ≡ suc k
      → (e : Expr) (d : ℕ) (v s r : List Spot) → Spells (chain_parts (suc k) e) d v → Stops (stops_chain (suc k)) e s → v ++ s ≡ b ++ (x ∷ r) → AfterMark l c x e d s r
  after_mark b l c mark x xs known is rank e d v s r sp st f =
      let q = peeled b (x ∷ xs) l c known mark is rank e d v s (x ∷ r) sp st f refl in
      let p = q.1 in
      let all : p.x ∷ ((p.u ++ p.w') ++ s) ≡ x ∷ r = ap (λ (y : List Spot). y ++ s) (sym p.tokens) ∙ q.2 in
      let same : p.x ≡ x = cc in
      let others : (p.u ++ p.w') ++ s ≡ r = cc in
      record {
        mark = p.mark;
        right_one = p.right;
        cr = p.cr;
        u = p.u;
        w = p.w';
        is = sym p.is.0 ∙ ap (λ (y : Spot). y.symbol) same;
        spelled = p.spelled;
        tail = subst (λ (y : Spot). Tail k (joined p.mark y.at l p.right) (suc (max c p.cr)) e d p.w') same p.tail;
        tokens = sym (append_assoc p.u p.w' s) ∙ others;
        stops = after_operand k s p.w' p.tail p.right st;
        deeper = p.deeper;
      }

  deeper_bad : (deep : Bool) (c cr d : ℕ) → suc (max c cr) ≤ d → Bad deep n cr → Bad deep (suc n) d
  deeper_bad false c cr d le bad = bad
  deeper_bad true c cr d le bad = omega arith

  marked_front : (l : Expr) (c : ℕ) (b : List Spot) (mark : BinaryMark) (x : Spot) → rank_of mark ≡ suc k → x.symbol ≡ binary_symbol mark → Spells (chain_parts (suc k) l) c b
      → (deep : Bool) (tokens rest : List Spot) → HasFront (chain_parts k) n deep tokens rest → HasFront (chain_parts (suc k)) (suc n) deep (b ++ (x ∷ tokens)) rest
  marked_front l c b mark x rank is sp false tokens rest h = (joined mark x.at l h.0, suc (max c h.1), marked l c b mark x rank is sp h.0 h.1 tokens h.2)
  marked_front l c b mark x rank is sp true tokens rest h = (joined mark x.at l h.0, suc (max c h.1), pick h.2, omega (arith, h.3), h.4)
    where
      pick : Front (chain_parts k h.0) h.1 tokens ⊎ Front (chain_parts k h.0) h.1 (tokens ++ first_only rest)
          → Front (chain_parts (suc k) (joined mark x.at l h.0)) (suc (max c h.1)) (b ++ (x ∷ tokens)) ⊎ Front (chain_parts (suc k) (joined mark x.at l h.0)) (suc (max c h.1)) ((b ++ (x ∷ tokens)) ++ first_only rest)
      pick (inl f) = inl (marked l c b mark x rank is sp h.0 h.1 tokens f)
      pick (inr f) = inr (subst (λ (y : List Spot). Front (chain_parts (suc k) (joined mark x.at l h.0)) (suc (max c h.1)) y) (sym (append_assoc b (x ∷ tokens) (first_only rest))) (marked l c b mark x rank is sp h.0 h.1 (tokens ++ first_only rest) f))

  right_refused : (l : Expr) (c : ℕ) (b : List Spot) (mark : BinaryMark) (x : Spot) (xs : List Spot) → Known k b (x ∷ xs) l c → x.symbol ≡ binary_symbol mark → rank_of mark ≡ suc k → Spells (chain_parts (suc k) l) c b
      → (f : Fault) → Refused (chain_parts k) n (stops_chain k) [] xs f → Refused (chain_parts (suc k)) (suc n) (stops_chain (suc k)) b (x ∷ xs) f
  right_refused l c b mark x xs known is rank sp f q =
      let dead = λ (e : Expr) (d : ℕ) (v s r : List Spot) (sp2 : Spells (chain_parts (suc k) e) d v) (st : Stops (stops_chain (suc k)) e s) (g : v ++ s ≡ b ++ ((x ∷ q.more) ++ r)) (h : first r ≡ first q.rest).
      let p = after_mark b l c mark x xs known is rank e d v s (q.more ++ r) sp2 st g in
      deeper_bad f.deep c p.cr d p.deeper (q.dead p.right_one p.cr p.u (p.w ++ s) r p.spelled p.stops p.tokens h) in
      record { more = x ∷ q.more; rest = q.rest; whole = ap (λ (y : List Spot). x ∷ y) q.whole; place = q.place; ends = q.ends; dead = dead; front = marked_front l c b mark x rank is sp f.deep q.more q.rest q.front }

  right_known : (l : Expr) (c : ℕ) (b : List Spot) (mark : BinaryMark) (x : Spot) (xs : List Spot) → Known k b (x ∷ xs) l c → x.symbol ≡ binary_symbol mark → rank_of mark ≡ suc k
      → (e0 : Expr) (j : List Spot) (q : Read (chain_parts k) n (stops_chain k) [] xs e0 j) → Known k (b ++ (x ∷ q.more)) j (joined mark x.at l e0) (suc (max c q.depth))
  right_known l c b mark x xs known is rank e0 j q = λ e d v s r sp2 st g h.
      let g2 : v ++ s ≡ b ++ (x ∷ (q.more ++ r)) = g ∙ append_assoc b (x ∷ q.more) r in
      let p = after_mark b l c mark x xs known is rank e d v s (q.more ++ r) sp2 st g2 in
      let o = q.only p.right_one p.cr p.u (p.w ++ s) r p.spelled p.stops p.tokens h in
      let symbols : Some p.mark ≡ Some mark = sym (mark-of-symbol p.mark) ∙ ap binary_mark (p.is ∙ is) ∙ mark-of-symbol mark in
      let marks : p.mark ≡ mark = cc in
      let depths : p.cr ≡ q.depth = depth-is p.spelled ∙ ap depth_of_expression o.0 ∙ sym (depth-is q.spelled) in
      let t1 = subst (λ (m : BinaryMark). Tail k (joined m x.at l p.right_one) (suc (max c p.cr)) e d p.w) marks p.tail in
      let t2 = subst (λ (y : Expr). Tail k (joined mark x.at l y) (suc (max c p.cr)) e d p.w) o.0 t1 in
      let t3 = subst (λ (y : ℕ). Tail k (joined mark x.at l e0) (suc (max c y)) e d p.w) depths t2 in
      (p.w, t3, o.1)

  right_spelled : (l : Expr) (c : ℕ) (b : List Spot) (mark : BinaryMark) (x : Spot) → x.symbol ≡ binary_symbol mark → rank_of mark ≡ suc k → Spells (chain_parts (suc k) l) c b
      → (e0 : Expr) (d : ℕ) (u : List Spot) → Spells (chain_parts k e0) d u → Spells (chain_parts (suc k) (joined mark x.at l e0)) (suc (max c d)) (b ++ (x ∷ u))
  right_spelled l c b mark x is rank sp e0 d u r = spelling.whole (binary rank refl) sp (spelling.quoted (is, refl) r) spelling.nothing (sym (append-nil (b ++ (x ∷ u)))) (omega arith)

  -- ---- all marks that follow

  abbrev MarksRight : ℕ → Type 0
  MarksRight fuel = (l : Expr) (c : ℕ) (b i : List Spot) → Spells (chain_parts (suc k) l) c b → c ≤ suc n → Ends i → length i ≤ fuel → Known k b i l c
      → Right (chain_parts (suc k)) (suc n) (stops_chain (suc k)) b i (marks_at fuel (suc k) (suc n) right l i)

  -- after a mark and its right operand
  after_right : (fuel : ℕ) → MarksRight fuel → (l : Expr) (c : ℕ) (b : List Spot) (x : Spot) (xs : List Spot) → Spells (chain_parts (suc k) l) c b → length xs ≤ fuel → Known k b (x ∷ xs) l c
      → (mark : BinaryMark) → x.symbol ≡ binary_symbol mark → rank_of mark ≡ suc k → c ≤ n → (y : Result (Expr × List Spot) Fault) → Right (chain_parts k) n (stops_chain k) [] xs y
      → Right (chain_parts (suc k)) (suc n) (stops_chain (suc k)) b (x ∷ xs) (y >>= (λ z. marks_at fuel (suc k) (suc n) right (joined mark x.at l z.0) z.1))
  after_right fuel again l c b x xs sp short known mark is rank low (Err f) q = right_refused l c b mark x xs known is rank sp f q
  after_right fuel again l c b x xs sp short known mark is rank low (Ok y) q =
      let shorter : length y.1 ≤ fuel = omega (arith, ap length q.whole, length-append q.more y.1) in
      unshift (chain_parts (suc k)) (suc n) (stops_chain (suc k)) b (x ∷ q.more) (x ∷ xs) y.1 (ap (λ (z : List Spot). x ∷ z) q.whole) (marks_at fuel (suc k) (suc n) right (joined mark x.at l y.0) y.1)
      (again (joined mark x.at l y.0) (suc (max c q.depth)) (b ++ (x ∷ q.more)) y.1 (right_spelled l c b mark x is rank sp y.0 q.depth q.more q.spelled) (omega (arith, q.within)) q.ends shorter (right_known l c b mark x xs known is rank y.0 y.1 q))

  next_mark : ℕ → Expr → BinaryMark → Parser Expr
  next_mark fuel l mark i = right (rest i) >>= (λ y. marks_at fuel (suc k) (suc n) right (unmarked l.at (kind.Binary mark (here i) l y.0)) y.1)

  tail-ends : (x : Spot) (xs : List Spot) (mark : BinaryMark) → x.symbol ≡ binary_symbol mark → Ends (x ∷ xs) → Ends xs
  tail-ends x xs mark is (inl e) = let g : None ≡ Some mark = ap binary_mark (sym e ∙ is) ∙ mark-of-symbol mark in cc
  tail-ends x xs mark is (inr e) = e

  by_depth : (fuel : ℕ) → MarksRight fuel → (l : Expr) (c : ℕ) (b : List Spot) (x : Spot) (xs : List Spot) → Spells (chain_parts (suc k) l) c b → c ≤ suc n → Ends (x ∷ xs) → length xs ≤ fuel → Known k b (x ∷ xs) l c
      → (mark : BinaryMark) → x.symbol ≡ binary_symbol mark → rank_of mark ≡ suc k → (deep : Bool) → nat_le (suc n) (depth_of_expression l) ≡ deep
      → Right (chain_parts (suc k)) (suc n) (stops_chain (suc k)) b (x ∷ xs) (if deep then Err (record { deep = true; at = x.at }) else next_mark fuel l mark (x ∷ xs))
  unfolding next_mark
  by_depth fuel again l c b x xs sp le ends short known mark is rank true e =
      let high : suc n ≤ depth_of_expression l = grind (arith, nat_tests) in
      full_right l c b (x ∷ xs) mark is rank sp (omega (arith, high, depth-is sp)) ends known
  by_depth fuel again l c b x xs sp le ends short known mark is rank false e =
      let low : depth_of_expression l < suc n = grind (arith, nat_tests) in
      after_right fuel again l c b x xs sp short known mark is rank (omega (arith, low, depth-is sp)) (right xs) (right_right xs (tail-ends x xs mark is ends))

  by_mark : (fuel : ℕ) → MarksRight fuel → (l : Expr) (c : ℕ) (b : List Spot) (x : Spot) (xs : List Spot) → Spells (chain_parts (suc k) l) c b → c ≤ suc n → Ends (x ∷ xs) → length xs ≤ fuel → Known k b (x ∷ xs) l c
      → (o : Option BinaryMark) → ranked (suc k) (binary_mark x.symbol) ≡ o → Right (chain_parts (suc k)) (suc n) (stops_chain (suc k)) b (x ∷ xs) (if_mark o (suc n) l (next_mark fuel l) (x ∷ xs))
  by_mark fuel again l c b x xs sp le ends short known None e = bare_right l c b (x ∷ xs) sp le ends known e
  by_mark fuel again l c b x xs sp le ends short known (Some mark) e =
      let m = ranked-is (suc k) x.symbol mark e in
      by_depth fuel again l c b x xs sp le ends short known mark m.0 m.1 (nat_le (suc n) (depth_of_expression l)) refl

  pub marks_right : (fuel : ℕ) → MarksRight fuel
  unfolding marks_at next_mark
  marks_right fuel l c b [] sp le ends short known = absurd ends
  marks_right zero l c b (x ∷ xs) sp le ends short known = absurd (omega (arith, short))
  marks_right (suc fuel) l c b (x ∷ xs) sp le ends short known =
      by_mark fuel (marks_right fuel) l c b x xs sp le ends (omega (arith, short)) known (ranked (suc k) (binary_mark x.symbol)) refl
