use Rattle.source_costs.proofs.Expressions.{argument_costs, place_costs, call_costs, expression_costs}
use Rattle.source_costs.proofs.Statements.{statement_costs, block_costs}
use Rattle.source_costs.proofs.laws.trees_cost_no_more.Goals as goal

pub returns : goal.returns
returns c = record {
  expressions = λ trees here e. (expression_costs trees e).number here;
  places = λ trees here place ampersand which. place_costs trees place here ampersand which;
  arguments = λ trees here arg asked. argument_costs trees arg here asked;
  calls = λ trees here call. call_costs trees call here;
  statements = λ trees here inside stmt cut. statement_costs trees stmt here inside cut;
  blocks = λ trees here inside block cut. block_costs trees block here inside cut;
}
