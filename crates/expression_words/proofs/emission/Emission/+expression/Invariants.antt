use Rattle.std.proofs.Common.{◌≡◌}
use Rattle.data_layout.specs.Layouts.{layout_of}
use Rattle.expression_words.specs.Operands.{IsLeft}
use Rattle.expression_words.proofs.emission.Emission.+expression.Given as goal

abbrev pub invariant-operands-loop-operand : goal.invariant-operands-loop-operand
invariant-operands-loop-operand l =
    (l.place ≡ l.operand-index) × IsLeft l.self.objects.now (layout_of l.self.layout.now) l.kind l.operands l.operand-index l.depth l.fn.code l.code
