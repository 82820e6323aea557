use Rattle.std.proofs.Common.{◌≡◌, drop}
use Rattle.tied_names.specs.Ties.{here_of}
use Rattle.tied_statements.specs.Declarations.{after_objects}
use Rattle.tied_statements.proofs.declarations.objects.Given as goal

abbrev pub invariant-loop-decl : goal.invariant-loop-decl
invariant-loop-decl l = after_objects (here_of l.ties) (drop l.decl-index l.decls) ≡ after_objects (here_of l.fn.ties) l.fn.decls
