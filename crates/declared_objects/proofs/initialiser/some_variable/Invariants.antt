use Rattle.std.proofs.Common.{◌≡◌, false, take}
use Rattle.std.specs.List.{list_any}
use Rattle.declared_objects.specs.Initialisers.{is_variable}
use Rattle.declared_objects.proofs.initialiser.some_variable.Given as goal

abbrev pub invariant-loop-value : goal.invariant-loop-value
invariant-loop-value l = list_any is_variable (take l.value-index l.values) ≡ false
