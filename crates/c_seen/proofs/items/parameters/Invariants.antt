use Rattle.std.proofs.Common.{◌≡◌, ◌++◌, drop}
use Rattle.c_seen.specs.Meanings.{names_of}
use Rattle.c_seen.specs.Declarations.{seen_in_parameters, after_parameters}
use Rattle.c_seen.proofs.items.parameters.Given as goal

abbrev pub invariant-loop-param : goal.invariant-loop-param
invariant-loop-param l = (l.seen.items ++ seen_in_parameters (names_of l.scope) l.is_defined (drop l.param-index l.params) ≡ l.fn.seen.items ++ seen_in_parameters (names_of l.fn.scope) l.is_defined l.fn.params) × (after_parameters (names_of l.scope) (drop l.param-index l.params) ≡ after_parameters (names_of l.fn.scope) l.fn.params)
