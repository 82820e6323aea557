-- What the tree of a source does.
use Rattle.std.proofs.Common.{◌∙◌, ap}
use Rattle.c_typed.specs.declared.typed.Typed.{Typed}
use Rattle.ir_arena.specs.declared.ir.Ir.{Ir}
use Rattle.ir_arena.specs.Tree.{IrWhole}
use Rattle.tree_meaning.specs.Observed.{tree_observed, tree_trace}
use Rattle.source_agreement.specs.Agreement.{HasTree}
use Rattle.source_agreement.proofs.Whole.{source_agrees}
use Rattle.lawful_ir.specs.Built.{IsTreeOf, DoesAs}

pub trees_do : (typed : Typed) (ir : Ir) → IsTreeOf typed ir → HasTree typed → DoesAs typed ir
trees_do typed ir of has =
    let agrees = source_agrees typed of.definitions of.are has in
    record {
      observed = λ input turns. ap (λ (tree : IrWhole). tree_observed tree input turns) of.is.tree ∙ agrees.observed input turns;
      trace = λ input turns. ap (λ (tree : IrWhole). tree_trace tree input turns) of.is.tree ∙ agrees.trace input turns;
    }
