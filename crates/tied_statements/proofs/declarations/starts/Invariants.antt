use Rattle.std.proofs.Common.{◌≡◌, ◌++◌, drop}
use Rattle.tied_names.specs.Ties.{here_of}
use Rattle.tied_statements.specs.Declarations.{starts_in_lists}
use Rattle.tied_statements.proofs.declarations.starts.Given as goal

abbrev pub invariant-loop-list : goal.invariant-loop-list
invariant-loop-list l = record {
  value : l.all ++ (starts_in_lists (here_of l.ties) l.function (drop l.list-index l.lists)).value ≡ (starts_in_lists (here_of l.fn.ties) l.function l.fn.lists).value;
  notes : l.notes.items ++ (starts_in_lists (here_of l.ties) l.function (drop l.list-index l.lists)).notes ≡ l.fn.notes.items ++ (starts_in_lists (here_of l.fn.ties) l.function l.fn.lists).notes;
  after : (starts_in_lists (here_of l.ties) l.function (drop l.list-index l.lists)).after ≡ (starts_in_lists (here_of l.fn.ties) l.function l.fn.lists).after;
}
