use Rattle.std.proofs.Common.{◌≡◌, ◌++◌, drop}
use Rattle.tied_names.specs.Ties.{here_of}
use Rattle.tied_statements.specs.Declarations.{starts_of}
use Rattle.tied_statements.proofs.declarations.add_starts.Given as goal

abbrev pub invariant-loop-decl : goal.invariant-loop-decl
invariant-loop-decl l = record {
  value : l.starts ++ (starts_of (here_of l.ties) l.function (drop l.decl-index l.decls)).value ≡ l.fn.starts ++ (starts_of (here_of l.fn.ties) l.function l.fn.decls).value;
  notes : l.notes.items ++ (starts_of (here_of l.ties) l.function (drop l.decl-index l.decls)).notes ≡ l.fn.notes.items ++ (starts_of (here_of l.fn.ties) l.function l.fn.decls).notes;
  after : (starts_of (here_of l.ties) l.function (drop l.decl-index l.decls)).after ≡ (starts_of (here_of l.fn.ties) l.function l.fn.decls).after;
}
