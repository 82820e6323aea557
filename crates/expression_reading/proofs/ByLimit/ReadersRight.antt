-- Expressions, places and arguments are read rightly, whatever the limit.
use Rattle.std.proofs.Common.{ℕ, zero, suc, [], ◌∷◌}
use Rattle.c_tree.specs.declared.call.Arg.{Arg}
use Rattle.c_grammar.specs.Nodes as a
use Rattle.c_grammar.specs.Parts.{node}
use Rattle.right_reading.specs.ReadExpressions.{readers, next_readers, next_unary, chain_at, expression_at, argument_at}
use Rattle.expression_reading.proofs.Parts.Arguments.{argument_right}
use Rattle.expression_reading.proofs.ByMark.Chains.{chain_parts}
use Rattle.expression_reading.proofs.ByMark.ExpressionStep.{expression_step}
use Rattle.expression_reading.proofs.ByMark.ExpressionsRight.{expr_parts, chain_right}
use Rattle.expression_reading.proofs.ByLimit.Lower.{RightReaders}
use Rattle.expression_reading.proofs.ByLimit.NextReaders.{next_readers_right}
use Rattle.expression_reading.proofs.ByLimit.NoReaders.{no_chain_right, no_readers_right}
use Rattle.expression_reading.proofs.ByOperand.Operands.{next_unary_right}
use Rattle.right_reading.specs.Right.{Reads}
use Rattle.right_reading.specs.Stops.{stops_chain, stops_expression, stops_arg}

abbrev RightChains : ℕ → Type 0
RightChains n = (k : ℕ) → Reads (chain_parts k) n (stops_chain k) (chain_at n k)

all_right : (n : ℕ) → RightReaders n (readers n) × RightChains n
unfolding readers next_readers
all_right zero = (no_readers_right, no_chain_right)
all_right (suc n) =
    let below = all_right n in
    let chains = chain_right n (readers n) below.1 (next_unary (readers n)) (next_unary_right n (readers n) below.0) in
    (next_readers_right n (readers n) below.0 (λ i ends. expression_step n (expression_at n) below.0.expression i (chain_at (suc n) 9 i) (chains 9 i ends)), chains)

pub readers_right : (n : ℕ) → RightReaders n (readers n)
readers_right n = (all_right n).0

pub expression_right : (n : ℕ) → Reads expr_parts n stops_expression (expression_at n)
expression_right n = (readers_right n).expression

pub arg_right : (n : ℕ) → Reads (λ (x : Arg). node (a.arg x) ∷ []) n stops_arg (argument_at n)
arg_right n = argument_right n (readers n) (readers_right n)
