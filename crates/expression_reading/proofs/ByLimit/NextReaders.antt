-- The readers with a limit that is one more, but for chains and choices.
use Rattle.std.proofs.Common.{ℕ, suc, List, [], ◌∷◌}
use Rattle.c_tree.specs.declared.expression.Expr.{Expr}
use Rattle.c_grammar.specs.Nodes as a
use Rattle.c_grammar.specs.Parts.{node}
use Rattle.right_reading.specs.ReadExpressions.{Readers, next_readers}
use Rattle.c_grammar.specs.Spots.{Spot}
use Rattle.expression_reading.proofs.Parts.Indices.{indices_right}
use Rattle.expression_reading.proofs.ByLimit.Lower.{RightReaders}
use Rattle.expression_reading.proofs.ByOperand.Operands.{next_unary_right}
use Rattle.expression_reading.proofs.Parts.Places.{named_right, indirection_right}
use Rattle.right_reading.specs.Right.{Ends, Right}
use Rattle.right_reading.specs.Stops.{stops_expression}

-- the next readers are right if their reader of expressions is
pub next_readers_right : (n : ℕ) (below : Readers) → RightReaders n below
    → ((i : List Spot) → Ends i → Right (λ (e : Expr). node (a.expr e) ∷ []) (suc n) stops_expression [] i ((next_readers n below).expression i)) → RightReaders (suc n) (next_readers n below)
unfolding next_readers
next_readers_right n below right expression = record {
  indices = indices_right n below.expression right.expression;
  named = named_right n below.expression right.expression;
  indirection = indirection_right n;
  unary = next_unary_right n below right;
  expression = expression;
}
