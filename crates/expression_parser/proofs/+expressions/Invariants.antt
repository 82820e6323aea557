-- How the functions that read expressions end, and what their loops keep.
use Rattle.std.proofs.Common.{length, ◌≡◌, ◌+◌, ◌-◌, ◌*◌}
use Rattle.c_tree.specs.Depth.{deepest, depth_of_expression, depth_of_argument}
use Rattle.expression_parser.specs.Heights.{IsMeasured}
use Rattle.right_reading.specs.ReadExpressions.{chain_at, argument_at, listed_by, marks_at, readers}
use Rattle.c_grammar.specs.declared.symbol.Symbol.TheVariants as symbol
use Rattle.right_reading.specs.Lists.{after, is_comma, many}
use Rattle.expression_parser.proofs.+expressions.Given as goal

-- a lower limit counts more than the order of the functions at one limit
abbrev pub decreases-calls::argument : goal.decreases-calls::argument
decreases-calls::argument l = 32 * l.limit + 19

abbrev pub decreases-calls::arguments : goal.decreases-calls::arguments
decreases-calls::arguments l = 32 * l.limit + 21

abbrev pub decreases-expressions::bracketed : goal.decreases-expressions::bracketed
decreases-expressions::bracketed l = 32 * l.limit + 22

abbrev pub decreases-expressions::branches : goal.decreases-expressions::branches
decreases-expressions::branches l = 32 * l.limit + 24

abbrev pub decreases-expressions::chain : goal.decreases-expressions::chain
decreases-expressions::chain l = 32 * l.limit + 3

abbrev pub decreases-expressions::expression : goal.decreases-expressions::expression
decreases-expressions::expression l = 32 * l.limit + 15

abbrev pub decreases-places::index : goal.decreases-places::index
decreases-places::index l = 32 * l.limit + 16

abbrev pub decreases-places::indices : goal.decreases-places::indices
decreases-places::indices l = 32 * l.limit + 17

abbrev pub decreases-calls::listed_arguments : goal.decreases-calls::listed_arguments
decreases-calls::listed_arguments l = 32 * l.limit + 20

abbrev pub decreases-places::named : goal.decreases-places::named
decreases-places::named l = 32 * l.limit + 18

abbrev pub decreases-expressions::named_value : goal.decreases-expressions::named_value
decreases-expressions::named_value l = 32 * l.limit + 23

abbrev pub decreases-expressions::ranked : goal.decreases-expressions::ranked
decreases-expressions::ranked l = 32 * l.limit + (5 + l.rank)

abbrev pub decreases-expressions::unary : goal.decreases-expressions::unary
decreases-expressions::unary l = 32 * l.limit + 4

-- with the turns that are left, reading comes where it comes from the start
abbrev pub invariant-calls::listed_arguments-loop-turn : goal.invariant-calls::listed_arguments-loop-turn
invariant-calls::listed_arguments-loop-turn l = record {
  same : many is_comma (after symbol.Comma (argument_at l.limit)) (l._turn-end - l._turn) l.args l.reader ≡ listed_by (readers l.limit) l.fn.reader;
  measured : IsMeasured (deepest depth_of_argument) l.limit (record { tree = l.args; height = l.height });
}

abbrev pub invariant-expressions::chain-loop-turn : goal.invariant-expressions::chain-loop-turn
invariant-expressions::chain-loop-turn l = record {
  same : marks_at (l._turn-end - l._turn) l.rank l.limit (chain_at (l.limit - 1) (l.rank - 1)) l.left.tree l.reader
      ≡ marks_at (length l.fn.reader) l.rank l.limit (chain_at (l.limit - 1) (l.rank - 1)) l.fn.first.tree l.fn.reader;
  measured : IsMeasured depth_of_expression l.limit l.left;
}
