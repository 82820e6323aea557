use Rattle.std.proofs.Common.{◌≡◌, ◌++◌, drop}
use Rattle.tied_names.specs.Ties.{here_of}
use Rattle.tied_statements.specs.Statements.{tied_simples}
use Rattle.tied_statements.proofs.statements.simples.Given as goal

abbrev pub invariant-loop-one : goal.invariant-loop-one
invariant-loop-one l = record {
  value : l.tied ++ (tied_simples (here_of l.ties) (drop l.one-index l.list)).value ≡ (tied_simples (here_of l.ties) l.fn.list).value;
  notes : l.notes.items ++ (tied_simples (here_of l.ties) (drop l.one-index l.list)).notes ≡ l.fn.notes.items ++ (tied_simples (here_of l.ties) l.fn.list).notes;
}
