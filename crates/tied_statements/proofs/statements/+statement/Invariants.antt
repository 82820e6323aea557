use Rattle.std.proofs.Common.{◌≡◌, ◌++◌, drop}
use Rattle.tied_names.specs.Ties.{here_of}
use Rattle.tied_statements.specs.Declarations.{with_objects}
use Rattle.tied_statements.specs.Statements.{tied_statements}
use Rattle.tied_statements.proofs.statements.+statement.Given as goal

abbrev pub invariant-statements-loop-stmt : goal.invariant-statements-loop-stmt
invariant-statements-loop-stmt l = record {
  value : l.tied ++ (tied_statements (drop l.stmt-index l.stmts) (here_of l.ties) l.inside).value ≡ (tied_statements l.fn.stmts (here_of l.fn.ties) l.inside).value;
  notes : l.notes.items ++ (tied_statements (drop l.stmt-index l.stmts) (here_of l.ties) l.inside).notes ≡ l.fn.notes.items ++ (tied_statements l.fn.stmts (here_of l.fn.ties) l.inside).notes;
  objects : (tied_statements (drop l.stmt-index l.stmts) (here_of l.ties) l.inside).objects ≡ (tied_statements l.fn.stmts (here_of l.fn.ties) l.inside).objects;
  here : here_of l.ties ≡ with_objects (here_of l.fn.ties) (here_of l.ties).objects;
}
