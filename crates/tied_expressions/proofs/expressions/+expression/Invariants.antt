use Rattle.std.proofs.Common.{◌≡◌, ◌++◌, drop}
use Rattle.tied_names.specs.Ties.{here_of}
use Rattle.tied_expressions.specs.Expressions.{arguments_from}
use Rattle.tied_expressions.proofs.expressions.+expression.Given as goal

abbrev pub invariant-arguments-loop-place : goal.invariant-arguments-loop-place
invariant-arguments-loop-place l = record {
  value : l.tied ++ (arguments_from (drop l.place l.args) (here_of l.ties) l.tie l.place).value ≡ (arguments_from l.fn.args (here_of l.ties) l.tie 0).value;
  notes : l.notes.items ++ (arguments_from (drop l.place l.args) (here_of l.ties) l.tie l.place).notes ≡ l.fn.notes.items ++ (arguments_from l.fn.args (here_of l.ties) l.tie 0).notes;
}
