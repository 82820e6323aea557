-- Chains of marks between operands, which group from the left: a chain is its first operand, and then marks, each
-- with its right operand.
use Rattle.std.proofs.Common.{◌≡◌, ℕ, suc, max, ◌≤◌, List, [], ◌∷◌, ◌++◌, ◌⊎◌, inl, inr, refl, ap, subst, ◌∙◌, sym, arith}
use Rattle.std.proofs.lemmas.List.{append_assoc, append-nil}
use Rattle.sat_base.specs.declared.name.At.{At}
use Rattle.c_tree.specs.declared.expression.BinaryMark.{BinaryMark}
use Rattle.c_tree.specs.declared.expression.Expr.{Expr}
use Rattle.c_tree.specs.declared.expression.ExprKind.TheVariants as kind
use Rattle.c_grammar.specs.Grammar.{operand, binary}
use Rattle.c_grammar.specs.Marks.{binary_symbol, rank_of}
use Rattle.c_grammar.specs.Nodes as a
use Rattle.c_grammar.specs.Parts.{Kept, Part, node, Is}
use Rattle.c_grammar.specs.Spelling.{counted, Spells}
use Rattle.c_grammar.specs.Spelling as spelling
use Rattle.c_grammar.specs.Spots.{Spot}
use Rattle.right_reading.specs.ReadExpressions.{unmarked}
use Rattle.c_grammar.proofs.Sequences.{from_token}

abbrev pub joined : BinaryMark → At → Expr → Expr → Expr
joined mark at left right = unmarked left.at (kind.Binary mark at left right)

abbrev pub chain_parts : ℕ → Expr → List Part
chain_parts k e = node (a.chain k e) ∷ []

-- marks of rank k and one with their right operands, after l of depth c, make e of depth d of it
pub data Tail (k : ℕ) (l : Expr) (c : ℕ) : Expr → ℕ → List Spot → Type 0 where
  done : Tail k l c l c []
  more : {m e right : Expr} {cm cr ce : ℕ} {w u w' : List Spot} {mark : BinaryMark} (x : Spot)
      → Tail k l c m cm w → rank_of mark ≡ suc k → Is (Kept (binary_symbol mark) x.at) x → Spells (chain_parts k right) cr u
      → e ≡ joined mark x.at m right → ce ≡ suc (max cm cr) → w' ≡ w ++ (x ∷ u) → Tail k l c e ce w'

-- a chain, taken apart
pub record Apart (k : ℕ) (e : Expr) (d : ℕ) (v : List Spot) : Type 0 where
  pub l : Expr
  pub c : ℕ
  pub u : List Spot
  pub w : List Spot
  pub first_one : Spells (chain_parts k l) c u
  pub tail : Tail k l c e d w
  pub tokens : v ≡ u ++ w

pub apart : {k : ℕ} {e : Expr} {d : ℕ} {v : List Spot} → Spells (chain_parts (suc k) e) d v → Apart k e d v
apart {k} {e} {d} {v} (spelling.whole {c1 = c1} {u1 = u1} (operand) before spelling.nothing spelling.nothing tokens depth) =
    let same : d ≡ c1 = omega (arith, depth) in
    let all : v ≡ u1 ++ [] = tokens ∙ ap (λ (x : List Spot). x ++ []) (append-nil u1) in
    record { l = e; c = c1; u = u1; w = []; first_one = before; tail = subst (λ (n : ℕ). Tail k e c1 e n []) (sym same) done; tokens = all }
apart {k} {e} {d} {v} (spelling.whole {c1 = c1} {c2 = c2} {u1 = u1} {u2 = u2} (binary {left = left} {right = right} {mark = mark} {mark_at = mark_at} rank eq) before behind spelling.nothing tokens depth) =
    let p = apart before in
    let t = from_token behind in
    let at : t.x.at ≡ mark_at = t.is.1 in
    let is : Is (Kept (binary_symbol mark) t.x.at) t.x = (t.is.0, refl) in
    let eq2 : e ≡ joined mark t.x.at left right = eq ∙ ap (λ (n : At). joined mark n left right) (sym at) in
    let u2-is : u2 ≡ t.x ∷ t.rest = t.tokens in
    let all : v ≡ p.u ++ (p.w ++ (t.x ∷ t.rest)) =
    tokens ∙ append-nil (u1 ++ u2) ∙ ap (λ (x : List Spot). x ++ u2) p.tokens ∙ ap (λ (x : List Spot). (p.u ++ p.w) ++ x) u2-is ∙ append_assoc p.u p.w (t.x ∷ t.rest) in
    let count : counted u2 (max c1 c2) ≡ suc (max c1 c2) = ap (λ (x : List Spot). counted x (max c1 c2)) u2-is in
    let deep : d ≡ suc (max c1 c2) = omega (arith, depth, count) in
    record { l = p.l; c = p.c; u = p.u; w = p.w ++ (t.x ∷ t.rest); first_one = p.first_one; tail = more t.x p.tail rank is t.after eq2 deep refl; tokens = all }

-- and put together again
pub together : {k : ℕ} {l : Expr} {c : ℕ} {u : List Spot} {e : Expr} {d : ℕ} {w : List Spot} → Spells (chain_parts (suc k) l) c u → Tail k l c e d w → Spells (chain_parts (suc k) e) d (u ++ w)
together {k = k} {l = l} {c = c} {u = u} sp done = subst (λ (x : List Spot). Spells (chain_parts (suc k) l) c x) (sym (append-nil u)) sp
together {u = u} {e = e} {d = d} {w = w} sp (more {right = right} {cm = cm} {cr = cr} {w = w0} {u = u0} {mark = mark} x tail rank is r eq depth tokens) =
    let all : u ++ w ≡ ((u ++ w0) ++ (x ∷ u0)) ++ [] = ap (λ (y : List Spot). u ++ y) tokens ∙ sym (append_assoc u w0 (x ∷ u0)) ∙ sym (append-nil ((u ++ w0) ++ (x ∷ u0))) in
    spelling.whole (binary rank eq) (together sp tail) (spelling.quoted is r) spelling.nothing all (omega (arith, depth))

-- ---- the first mark of a tail

pub record Peeled (k : ℕ) (l : Expr) (c : ℕ) (e : Expr) (d : ℕ) (w : List Spot) : Type 0 where
  pub mark : BinaryMark
  pub x : Spot
  pub right : Expr
  pub cr : ℕ
  pub u : List Spot
  pub w' : List Spot
  pub rank : rank_of mark ≡ suc k
  pub is : Is (Kept (binary_symbol mark) x.at) x
  pub spelled : Spells (chain_parts k right) cr u
  pub tail : Tail k (joined mark x.at l right) (suc (max c cr)) e d w'
  pub tokens : w ≡ x ∷ (u ++ w')
  pub deeper : suc (max c cr) ≤ d

pub record Bare (l : Expr) (c : ℕ) (e : Expr) (d : ℕ) (w : List Spot) : Type 0 where
  pub same : e ≡ l
  pub depth : d ≡ c
  pub tokens : w ≡ []

pub peel : {k : ℕ} {l : Expr} {c : ℕ} {e : Expr} {d : ℕ} {w : List Spot} → Tail k l c e d w → Bare l c e d w ⊎ Peeled k l c e d w
peel done = inl (record { same = refl; depth = refl; tokens = refl })
peel {k} {l} {c} {e} {d} {w} (more {m = m} {right = right} {cm = cm} {cr = cr} {w = w0} {u = u0} {mark = mark} x tail rank is r eq depth tokens) = step (peel tail)
  where
    step : Bare l c m cm w0 ⊎ Peeled k l c m cm w0 → Bare l c e d w ⊎ Peeled k l c e d w
    step (inl b) =
        let eq2 : e ≡ joined mark x.at l right = eq ∙ ap (λ (y : Expr). joined mark x.at y right) b.same in
        let deep : d ≡ suc (max c cr) = omega (arith, depth, b.depth) in
        let all : w ≡ x ∷ (u0 ++ []) = tokens ∙ ap (λ (y : List Spot). y ++ (x ∷ u0)) b.tokens ∙ ap (λ (y : List Spot). x ∷ y) (sym (append-nil u0)) in
        let rest : Tail k (joined mark x.at l right) (suc (max c cr)) e d [] =
        subst (λ (y : Expr). Tail k (joined mark x.at l right) (suc (max c cr)) y d []) (sym eq2) (subst (λ (n : ℕ). Tail k (joined mark x.at l right) (suc (max c cr)) (joined mark x.at l right) n []) (sym deep) done) in
        inr (record { mark = mark; x = x; right = right; cr = cr; u = u0; w' = []; rank = rank; is = is; spelled = r; tail = rest; tokens = all; deeper = omega (arith, deep) })
    step (inr p) =
        let all : w ≡ p.x ∷ (p.u ++ (p.w' ++ (x ∷ u0))) = tokens ∙ ap (λ (y : List Spot). y ++ (x ∷ u0)) p.tokens ∙ ap (λ (y : List Spot). p.x ∷ y) (append_assoc p.u p.w' (x ∷ u0)) in
        inr (record {
          mark = p.mark;
          x = p.x;
          right = p.right;
          cr = p.cr;
          u = p.u;
          w' = p.w' ++ (x ∷ u0);
          rank = p.rank;
          is = p.is;
          spelled = p.spelled;
          tail = more x p.tail rank is r eq depth refl;
          tokens = all;
          deeper = omega (arith, p.deeper, depth);
        })
