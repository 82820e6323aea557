use Rattle.std.proofs.Common.{arith, rules}
use Rattle.ir_arena.specs.Placed.{tree_of}
use Rattle.ir_arena.proofs.Trees.{trees_placed, tree-Binary, tree-Choose, tree-Operate}
use Rattle.expression_code.specs.Code.{weight_of}
use Rattle.code_pieces.proofs.Growing.{on_appends_then}
use Rattle.data_layout.specs.Layouts.{layout_of}
use Rattle.expression_words.proofs.Choosing.{chosen_as, stays_as}
use Rattle.expression_words.proofs.Operands.{goes_on}
use Rattle.expression_words.proofs.emission.Emission.+expression.Goals as goal

pub operands-loop-operand-preserved : goal.operands-loop-operand-preserved
operands-loop-operand-preserved t c =
    let place = c.loop-operand.invariant.0 in
    let stepped = c.in_ok-place.ensures in
    let at = c.in_ok-at.ensures in (
      omega (arith, place, stepped),
      goes_on c.args.self.now.objects.now (layout_of c.args.self.now.layout.now) c.args.kind c.args.operands.now c.args.depth c.args.code.now
          c.loop-operand.operand-index c.operand-item.result c.in_ok-at.at _ _ c.loop-operand.code c.expression.new.code c.converted.new.code
          c.loop-operand-test.true c.operand-item.is (omega (arith, place, at)) (rw (place) at c.width_at.ensures) c.fits_sixteen-shown.ensures
          c.in_ok-expression.ensures c.in_ok-converted.ensures c.loop-operand.invariant.1,
    )

pub expression-returns-in_ok-operands-in-Operate : goal.expression-returns-in_ok-operands-in-Operate
expression-returns-in_ok-operands-in-Operate t c =
    rw (c.in-Operate.is, tree-Operate) (on_appends_then _ _ _ _ _ _ _ _ c.in_ok-operands-in-Operate.ensures c.site.ensures)

pub expression-returns-in_ok-weight_of-in-Either : goal.expression-returns-in_ok-weight_of-in-Either
expression-returns-in_ok-weight_of-in-Either t c =
    rw (c.in-Binary.is, tree-Binary, c.in-Either.is) (on_appends_then _ _ _ _ _ _ _ _ c.in_ok-expression-in-Either.ensures
    (chosen_as _ (layout_of c.args.self.now.layout.now) c.args.depth (weight_of (tree_of c.in-Binary.left.now)) _ _ _ _ _ _ _ _ c.in_ok-number-in-Either.ensures c.in_ok-truth_of-in-Either.ensures (rw (c.in_ok-weight_of-in-Either.ensures) at c.chosen-in-Either.ensures)))

pub expression-returns-in_ok-weight_of-in-Choose : goal.expression-returns-in_ok-weight_of-in-Choose
expression-returns-in_ok-weight_of-in-Choose t c =
    rw (c.in-Choose.is, tree-Choose) (on_appends_then _ _ _ _ _ _ _ _ c.in_ok-expression-in-Choose.ensures
    (chosen_as _ (layout_of c.args.self.now.layout.now) c.args.depth (weight_of (tree_of c.in-Choose.cond.now)) _ _ _ _ _ _ _ _ c.in_ok-counted-in-Choose.ensures c.in_ok-counted-in-Choose-2.ensures (rw (c.in_ok-weight_of-in-Choose.ensures) at c.chosen-in-Choose.ensures)))

pub expression-returns-in-Address : goal.expression-returns-in-Address
expression-returns-in-Address t c = stays_as _ _ _ (search (rules, trees_placed, c.in-Address.is)) (search (rules, trees_placed, c.in-Address.is))
