-- What the readers of expressions do at each limit.
use Rattle.std.proofs.Common.{◌≡◌, ℕ, zero, suc, ◌-◌, ◌≤◌, nat_le, Bool, true, false, List, length, refl, ap, arith, ◌∙◌, sym}
use Rattle.std.proofs.lemmas.Bool.Decides.{nat_tests}
use Rattle.std.specs.Prelude.{Result, Ok, not, if◌then◌else◌}
use Rattle.sat_base.specs.declared.name.Named.{Named}
use Rattle.c_tree.specs.declared.expression.Expr.{Expr}
use Rattle.c_tree.specs.Depth.{depth_of_expression}
use Rattle.c_tree.specs.declared.place.Place.TheVariants as place
use Rattle.c_grammar.specs.declared.symbol.Symbol.TheVariants as symbol
use Rattle.right_reading.specs.ReadExpressions.{branches_by, if_shallow, readers, next_readers, expression_at, chain_at, unary_at, indices_at, named_at, indirection_at, chain_by, choice_by, marks_at, indices_by, next_unary}
use Rattle.c_grammar.specs.Spots.{Spot}
use Rattle.right_reading.specs.Stream.{ahead, rest, Fault, too_deep_at, refuse_at, mapped, both, take_at, name_at, ◌>>=◌}
use Rattle.c_grammar.specs.Symbols.{same_symbol, begins_expression}

one-less : (n : ℕ) → suc n - 1 ≡ n
one-less n = omega arith

pub indirection_none : (n : ℕ) (i : List Spot) → n ≡ 0 → indirection_at n i ≡ refuse_at (same_symbol (ahead i) symbol.Star) i
unfolding readers
indirection_none zero i e = refl
indirection_none (suc n) i e = absurd (omega arith)

pub indirection_some : (n : ℕ) (i : List Spot) → 1 ≤ n → indirection_at n i ≡ mapped (λ x. place.Deref x.0 x.1) (both (take_at symbol.Star) name_at) i
unfolding readers next_readers
indirection_some zero i e = absurd (omega arith)
indirection_some (suc n) i e = refl

pub named_none : (n : ℕ) (i : List Spot) → n ≡ 0 → named_at n i ≡ refuse_at (same_symbol (ahead i) symbol.Name) i
unfolding readers
named_none zero i e = refl
named_none (suc n) i e = absurd (omega arith)

pub named_some : (n : ℕ) (i : List Spot) → 1 ≤ n → named_at n i ≡ (name_at i >>= (λ x. indices_at n x.0 x.1))
unfolding readers next_readers
named_some zero i e = absurd (omega arith)
named_some (suc n) i e = refl

pub indices_none : (n : ℕ) (name : Named) (i : List Spot) → n ≡ 0 → indices_at n name i ≡ refuse_at (not (same_symbol (ahead i) symbol.End)) i
unfolding readers
indices_none zero name i e = refl
indices_none (suc n) name i e = absurd (omega arith)

pub indices_some : (n : ℕ) (name : Named) (i : List Spot) → 1 ≤ n → indices_at n name i ≡ indices_by (expression_at (n - 1)) name i
unfolding readers next_readers
indices_some zero name i e = absurd (omega arith)
indices_some (suc n) name i e = ap (λ (m : ℕ). indices_by (expression_at m) name i) (sym (one-less n))

pub unary_none : (n : ℕ) (i : List Spot) → n ≡ 0 → unary_at n i ≡ refuse_at (begins_expression (ahead i)) i
unfolding readers
unary_none zero i e = refl
unary_none (suc n) i e = absurd (omega arith)

pub unary_some : (n : ℕ) (i : List Spot) → 1 ≤ n → unary_at n i ≡ next_unary (readers (n - 1)) i
unfolding readers next_readers
unary_some zero i e = absurd (omega arith)
unary_some (suc n) i e = ap (λ (m : ℕ). next_unary (readers m) i) (sym (one-less n))

pub chain_none : (n k : ℕ) (i : List Spot) → k ≡ 0 → chain_at n k i ≡ unary_at n i
unfolding readers next_readers chain_by
chain_none zero k i e = refl
chain_none (suc n) zero i e = refl
chain_none (suc n) (suc k) i e = absurd (omega arith)

pub chain_some : (n k : ℕ) (i : List Spot) → 1 ≤ k → chain_at n k i ≡ (chain_at n (k - 1) i >>= (λ x. marks_at (length x.1) k n (chain_at (n - 1) (k - 1)) x.0 x.1))
unfolding readers next_readers chain_by
chain_some zero k i e = refl
chain_some (suc n) zero i e = absurd (omega arith)
chain_some (suc n) (suc k) i e =
    ap (λ (m : ℕ). chain_at (suc n) m i >>= (λ x. marks_at (length x.1) (suc k) (suc n) (chain_at n m) x.0 x.1)) (sym (one-less k))
    ∙ ap (λ (m : ℕ). chain_at (suc n) (suc k - 1) i >>= (λ x. marks_at (length x.1) (suc k) (suc n) (chain_at m (suc k - 1)) x.0 x.1)) (sym (one-less n))

pub expression_steps : (n : ℕ) (i : List Spot) → expression_at n i ≡ (chain_at n 9 i >>= (λ x. choice_by n (expression_at (n - 1)) x.0 x.1))
unfolding readers next_readers
expression_steps zero i = refl
expression_steps (suc n) i = ap (λ (m : ℕ). chain_at (suc n) 9 i >>= (λ x. choice_by (suc n) (expression_at m) x.0 x.1)) (sym (one-less n))

-- what follows where a `?` is ahead
pub expression_chosen : (n : ℕ) (i : List Spot) (cond : Expr) (j : List Spot) → chain_at n 9 i ≡ Ok (cond, j) → same_symbol (ahead j) symbol.Question ≡ true → nat_le n (depth_of_expression cond) ≡ false
    → expression_at n i ≡ branches_by (expression_at (n - 1)) cond (rest j)
unfolding choice_by
expression_chosen n i cond j read question low =
    expression_steps n i ∙ ap (λ (y : Result (Expr × List Spot) Fault). y >>= (λ x. choice_by n (expression_at (n - 1)) x.0 x.1)) read
    ∙ ap (λ (b : Bool). if b then if_shallow n cond (λ k. branches_by (expression_at (n - 1)) cond (rest k)) j else Ok (cond, j)) question
    ∙ ap (λ (b : Bool). if b then too_deep_at j else branches_by (expression_at (n - 1)) cond (rest j)) low

pub expression_too_deep : (n : ℕ) (i : List Spot) (cond : Expr) (j : List Spot) → chain_at n 9 i ≡ Ok (cond, j) → same_symbol (ahead j) symbol.Question ≡ true → n ≤ depth_of_expression cond → expression_at n i ≡ too_deep_at j
unfolding choice_by
expression_too_deep n i cond j read question high =
    let full : nat_le n (depth_of_expression cond) ≡ true = grind (arith, nat_tests) in
    expression_steps n i ∙ ap (λ (y : Result (Expr × List Spot) Fault). y >>= (λ x. choice_by n (expression_at (n - 1)) x.0 x.1)) read
    ∙ ap (λ (b : Bool). if b then if_shallow n cond (λ k. branches_by (expression_at (n - 1)) cond (rest k)) j else Ok (cond, j)) question
    ∙ ap (λ (b : Bool). if b then too_deep_at j else branches_by (expression_at (n - 1)) cond (rest j)) full
