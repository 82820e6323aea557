use Rattle.statement_agreement.proofs.Whole.{statement_agrees, block_agrees}
use Rattle.statement_agreement.proofs.laws.statements_agree.Goals as goal

pub returns : goal.returns
returns c = λ here numbers called tree_called defined renumbers. record {
  statements = statement_agrees here numbers called tree_called defined renumbers;
  blocks = block_agrees here numbers called tree_called defined renumbers;
}
