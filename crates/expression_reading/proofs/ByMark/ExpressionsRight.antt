-- Reading expressions: chains of each rank, and choices.
use Rattle.std.proofs.Common.{◌≡◌, ℕ, zero, suc, Bool, true, false, List, [], ◌∷◌, ◌++◌, length, ◌⊎◌, inl, inr, refl, ap, subst, ◌∙◌, sym, arith}
use Rattle.std.proofs.lemmas.List.{append_assoc, append-nil}
use Rattle.std.specs.Prelude.{Result, Ok, Err}
use Rattle.c_tree.specs.declared.expression.Expr.{Expr}
use Rattle.c_tree.specs.Depth.{depth_of_expression}
use Rattle.c_grammar.specs.declared.symbol.Symbol.{Symbol}
use Rattle.c_grammar.specs.Grammar.{operand, no_chain}
use Rattle.c_grammar.specs.Nodes as a
use Rattle.c_grammar.specs.Parts.{Part, node}
use Rattle.right_reading.specs.ReadExpressions.{Readers, marks_at, chain_by}
use Rattle.c_grammar.specs.Spelling.{Spells, Front}
use Rattle.c_grammar.specs.Spelling as spelling
use Rattle.c_grammar.specs.Spots.{Spot}
use Rattle.right_reading.specs.Stream.{ahead, rest, Fault, Parser, ◌>>=◌}
use Rattle.right_reading.proofs.Composed.Dependent.{bad_more}
use Rattle.expression_reading.proofs.ByMark.Chains.{chain_parts, Tail, apart}
use Rattle.expression_reading.proofs.ByMark.ChainsRight.{Known, after_operand, tail-deep, depth-is, marks_right}
use Rattle.right_reading.specs.Right.{first, first_only, Ends, Stops, Read, HasFront, Refused, Right, Reads}
use Rattle.right_reading.proofs.Composed.Rules.{Choice, no_parts, early_seen}
use Rattle.right_reading.proofs.Composed.Shifts.{unshift}
use Rattle.right_reading.proofs.Composed.Steps.{Seen, Right-seen}
use Rattle.right_reading.proofs.Ahead.Stops.{chain-operand}
use Rattle.right_reading.specs.Stops.{stops_operand, stops_chain}

abbrev pub unary_parts : Expr → List Part
unary_parts e = node (a.unary e) ∷ []

abbrev pub expr_parts : Expr → List Part
expr_parts e = node (a.expr e) ∷ []

-- what is read, as another part of the tree with the same value
pub Right-as : {A : Type 0} (of_a of_x : A → List Part) (limit limit' : ℕ) (stops_a stops_x : A → Symbol → Bool) (before i : List Spot) → Seen of_a of_x limit limit' stops_a stops_x before i (λ a. a)
    → (y : Result (A × List Spot) Fault) → Right of_a limit stops_a before i y → Right of_x limit' stops_x before i y
Right-as of_a of_x limit limit' stops_a stops_x before i is (Ok z) r = Right-seen of_a of_x limit limit' stops_a stops_x before i (λ a. a) is (Ok z) r
Right-as of_a of_x limit limit' stops_a stops_x before i is (Err f) r = Right-seen of_a of_x limit limit' stops_a stops_x before i (λ a. a) is (Err f) r

-- ---- an operand alone

no_chain_choice : (i : List Spot) → Choice (a.chain zero) unary_parts no_parts stops_operand (stops_chain zero) [] i (λ e. e)
no_chain_choice i e early late c1 c2 u1 u2 s r (no_chain) before behind st f h = record { a = e; same = refl; is_early = refl; is_late = refl; stops = chain-operand zero (ahead s) st }

pub operand_right : (limit : ℕ) (i : List Spot) (y : Result (Expr × List Spot) Fault) → Right unary_parts limit stops_operand [] i y → Right (chain_parts zero) limit (stops_chain zero) [] i y
operand_right limit i y r =
    Right-as unary_parts (chain_parts zero) limit limit stops_operand (stops_chain zero) [] i
    (early_seen (a.chain zero) unary_parts limit stops_operand (stops_chain zero) [] i (λ e. e) (λ e. no_chain) (no_chain_choice i)) y r

-- ---- chains

module _ (k limit : ℕ) where
  chain_front : (deep : Bool) (tokens rest : List Spot) → HasFront (chain_parts k) limit deep tokens rest → HasFront (chain_parts (suc k)) limit deep tokens rest
  chain_front false tokens rest h = (h.0, h.1, spelling.broken_early operand h.2)
  chain_front true tokens rest h = (h.0, h.1, pick h.2, h.3, h.4)
    where
      pick : Front (chain_parts k h.0) h.1 tokens ⊎ Front (chain_parts k h.0) h.1 (tokens ++ first_only rest) → Front (chain_parts (suc k) h.0) h.1 tokens ⊎ Front (chain_parts (suc k) h.0) h.1 (tokens ++ first_only rest)
      pick (inl f) = inl (spelling.broken_early operand f)
      pick (inr f) = inr (spelling.broken_early operand f)

  -- the first operand is refused
  chain_refused : (i : List Spot) (f : Fault) → Refused (chain_parts k) limit (stops_chain k) [] i f → Refused (chain_parts (suc k)) limit (stops_chain (suc k)) [] i f
  chain_refused i f q =
      let dead = λ (e : Expr) (d : ℕ) (v s r : List Spot) (sp : Spells (chain_parts (suc k) e) d v) (st : Stops (stops_chain (suc k)) e s) (g : v ++ s ≡ q.more ++ r) (h : first r ≡ first q.rest).
      let p = apart sp in
      let g2 : p.u ++ (p.w ++ s) ≡ q.more ++ r = sym (append_assoc p.u p.w s) ∙ ap (λ (x : List Spot). x ++ s) (sym p.tokens) ∙ g in
      bad_more f.deep limit p.c d (tail-deep p.tail) (q.dead p.l p.c p.u (p.w ++ s) r p.first_one (after_operand k s p.w p.tail p.l st) g2 h) in
      record { more = q.more; rest = q.rest; whole = q.whole; place = q.place; ends = q.ends; dead = dead; front = chain_front f.deep q.more q.rest q.front }

  -- the first operand is read
  chain_known : (i : List Spot) (l : Expr) (j : List Spot) (q : Read (chain_parts k) limit (stops_chain k) [] i l j) → Known k q.more j l q.depth
  chain_known i l j q = λ e d v s r sp st g h.
      let p = apart sp in
      let g2 : p.u ++ (p.w ++ s) ≡ q.more ++ r = sym (append_assoc p.u p.w s) ∙ ap (λ (x : List Spot). x ++ s) (sym p.tokens) ∙ g in
      let o = q.only p.l p.c p.u (p.w ++ s) r p.first_one (after_operand k s p.w p.tail p.l st) g2 h in
      let depths : p.c ≡ q.depth = depth-is p.first_one ∙ ap depth_of_expression o.0 ∙ sym (depth-is q.spelled) in
      let t1 = subst (λ (x : Expr). Tail k x p.c e d p.w) o.0 p.tail in
      let t2 = subst (λ (x : ℕ). Tail k l x e d p.w) depths t1 in
      (p.w, t2, o.1)

  chain_spelled : (l : Expr) (c : ℕ) (u : List Spot) → Spells (chain_parts k l) c u → Spells (chain_parts (suc k) l) c u
  chain_spelled l c u sp = spelling.whole operand sp spelling.nothing spelling.nothing (sym (append-nil u) ∙ sym (append-nil (u ++ []))) (omega arith)

module _ (n : ℕ) (below : Readers) (below_chain : (k : ℕ) → Reads (chain_parts k) n (stops_chain k) (below.chain k))
    (unary : Parser Expr) (unary_right : Reads unary_parts (suc n) stops_operand unary) where
  chain_step : (k : ℕ) (i : List Spot) (y : Result (Expr × List Spot) Fault) → Right (chain_parts k) (suc n) (stops_chain k) [] i y
      → Right (chain_parts (suc k)) (suc n) (stops_chain (suc k)) [] i (y >>= (λ x. marks_at (length x.1) (suc k) (suc n) (below.chain k) x.0 x.1))
  chain_step k i (Err f) q = chain_refused k (suc n) i f q
  chain_step k i (Ok x) q =
      unshift (chain_parts (suc k)) (suc n) (stops_chain (suc k)) [] q.more i x.1 q.whole (marks_at (length x.1) (suc k) (suc n) (below.chain k) x.0 x.1)
      (marks_right k n (below.chain k) (below_chain k) (length x.1) x.0 q.depth q.more x.1 (chain_spelled k (suc n) x.0 q.depth q.more q.spelled) q.within q.ends (omega arith) (chain_known k (suc n) i x.0 x.1 q))

  pub chain_right : (k : ℕ) (i : List Spot) → Ends i → Right (chain_parts k) (suc n) (stops_chain k) [] i (chain_by (suc n) below unary k i)
  unfolding chain_by
  chain_right zero i ends = operand_right (suc n) i (unary i) (unary_right i ends)
  chain_right (suc k) i ends = chain_step k i (chain_by (suc n) below unary k i) (chain_right k i ends)
