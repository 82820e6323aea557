use Rattle.std.proofs.Common.{◌≡◌, ◌++◌, drop}
use Rattle.c_seen.specs.Meanings.{names_of}
use Rattle.c_seen.specs.Declarations.{seen_in_objects, after_objects}
use Rattle.c_seen.proofs.declarations.objects.Given as goal

abbrev pub invariant-loop-decl : goal.invariant-loop-decl
invariant-loop-decl l = (l.seen.items ++ seen_in_objects (names_of l.scope) l.depth (drop l.decl-index l.decls) ≡ l.fn.seen.items ++ seen_in_objects (names_of l.fn.scope) l.depth l.fn.decls) × (after_objects (names_of l.scope) l.depth (drop l.decl-index l.decls) ≡ after_objects (names_of l.fn.scope) l.depth l.fn.decls)
