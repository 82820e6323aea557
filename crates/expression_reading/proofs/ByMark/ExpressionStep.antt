-- Reading an expression from its chain on.
use Rattle.std.proofs.Common.{◌≡◌, ℕ, suc, ◌≤◌, ◌<◌, nat_le, Bool, true, false, List, [], ◌∷◌, ◌++◌, inl, inr, refl, ◌∙◌, sym, arith}
use Rattle.std.proofs.lemmas.Bool.Decides.{nat_tests}
use Rattle.std.proofs.lemmas.List.{append_assoc}
use Rattle.std.specs.Prelude.{Result, Ok, Err, if◌then◌else◌}
use Rattle.c_tree.specs.declared.expression.Expr.{Expr}
use Rattle.c_tree.specs.declared.expression.ExprKind.TheVariants as kind
use Rattle.c_tree.specs.Depth.{depth_of_expression}
use Rattle.c_grammar.specs.declared.symbol.Symbol.TheVariants as symbol
use Rattle.right_reading.specs.ReadExpressions.{choice_by, if_shallow, unmarked}
use Rattle.c_grammar.specs.Spots.{Spot}
use Rattle.right_reading.specs.Stream.{ahead, rest, Fault, Parser, ◌>>=◌, both, mapped, take_at}
use Rattle.c_grammar.specs.Symbols.{same_symbol}
use Rattle.expression_reading.proofs.ByMark.Chains.{chain_parts}
use Rattle.expression_reading.proofs.ByMark.ChainsRight.{depth-is}
use Rattle.expression_reading.proofs.ByMark.ChoicesRight.{condition_refused, plain_right, branches_right, full_choice, choice_right}
use Rattle.expression_reading.proofs.ByMark.ExpressionsRight.{expr_parts}
use Rattle.right_reading.specs.Right.{Ends, Read, Right, Reads}
use Rattle.right_reading.proofs.Composed.Shifts.{unshift}
use Rattle.c_grammar.proofs.SymbolNumbers.{same-is}
use Rattle.right_reading.specs.Stops.{stops_chain, stops_expression}

module _ (n : ℕ) (below : Parser Expr) (below_right : Reads expr_parts n stops_expression below) where
  tail-ends : (x : Spot) (xs : List Spot) → x.symbol ≡ symbol.Question → Ends (x ∷ xs) → Ends xs
  tail-ends x xs is (inl e) = let g : symbol.Question ≡ symbol.End = sym is ∙ e in cc
  tail-ends x xs is (inr e) = e

  by_depth : (i : List Spot) (cond : Expr) (x : Spot) (xs : List Spot) → (q : Read (chain_parts 9) (suc n) (stops_chain 9) [] i cond (x ∷ xs)) → x.symbol ≡ symbol.Question
      → (deep : Bool) → nat_le (suc n) (depth_of_expression cond) ≡ deep
      → Right expr_parts (suc n) stops_expression [] i (if deep then Err (record { deep = true; at = x.at }) else mapped (λ z. unmarked cond.at (kind.Choose cond z.0 z.1.1)) (both below (both (take_at symbol.Colon) below)) xs)
  by_depth i cond x xs q is true e =
      let high : suc n ≤ depth_of_expression cond = grind (arith, nat_tests) in
      unshift expr_parts (suc n) stops_expression [] q.more i (x ∷ xs) q.whole (Err (record { deep = true; at = x.at })) (full_choice n i cond x xs q is (omega (arith, high, depth-is q.spelled)))
  by_depth i cond x xs q is false e =
      let low : depth_of_expression cond < suc n = grind (arith, nat_tests) in
      let whole : i ≡ (q.more ++ (x ∷ [])) ++ xs = q.whole ∙ sym (append_assoc q.more (x ∷ []) xs) in
      unshift expr_parts (suc n) stops_expression [] (q.more ++ (x ∷ [])) i xs whole (mapped (λ z. unmarked cond.at (kind.Choose cond z.0 z.1.1)) (both below (both (take_at symbol.Colon) below)) xs)
      (choice_right n i cond x xs q is (omega (arith, low, depth-is q.spelled)) (both below (both (take_at symbol.Colon) below) xs) (branches_right n below below_right xs (tail-ends x xs is q.ends)))

  by_question : (i : List Spot) (cond : Expr) (j : List Spot) → (q : Read (chain_parts 9) (suc n) (stops_chain 9) [] i cond j) → (b : Bool) → same_symbol (ahead j) symbol.Question ≡ b
      → Right expr_parts (suc n) stops_expression [] i (if b then if_shallow (suc n) cond (λ k. mapped (λ z. unmarked cond.at (kind.Choose cond z.0 z.1.1)) (both below (both (take_at symbol.Colon) below)) (rest k)) j else Ok (cond, j))
  by_question i cond j q false e = unshift expr_parts (suc n) stops_expression [] q.more i j q.whole (Ok (cond, j)) (plain_right (suc n) i cond j q e)
  by_question i cond [] q true e = absurd q.ends
  by_question i cond (x ∷ xs) q true e = by_depth i cond x xs q (same-is x.symbol symbol.Question e) (nat_le (suc n) (depth_of_expression cond)) refl

  pub expression_step : (i : List Spot) (y : Result (Expr × List Spot) Fault) → Right (chain_parts 9) (suc n) (stops_chain 9) [] i y → Right expr_parts (suc n) stops_expression [] i (y >>= (λ x. choice_by (suc n) below x.0 x.1))
  unfolding choice_by
  expression_step i (Err f) q = condition_refused (suc n) i f q
  expression_step i (Ok z) q = by_question i z.0 z.1 q (same_symbol (ahead z.1) symbol.Question) refl
