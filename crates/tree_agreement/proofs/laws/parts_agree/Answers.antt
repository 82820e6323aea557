use Rattle.tree_agreement.proofs.Whole.{place_agrees, argument_agrees, call_agrees, expression_agrees}
use Rattle.tree_agreement.proofs.laws.parts_agree.Goals as goal

pub returns : goal.returns
returns c = λ here numbers called tree_called defined renumbers. record {
  places = place_agrees here numbers called tree_called defined renumbers;
  arguments = argument_agrees here numbers called tree_called defined renumbers;
  calls = call_agrees here numbers called tree_called defined renumbers;
  expressions = expression_agrees here numbers called tree_called defined renumbers;
}
