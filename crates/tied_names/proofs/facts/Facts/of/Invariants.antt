use Rattle.std.proofs.Common.{◌≡◌, [], drop}
use Rattle.tied_names.specs.Numbers.{exposed_in}
use Rattle.tied_names.proofs.facts.Facts.of.Given as goal

abbrev pub invariant-loop-note : goal.invariant-loop-note
invariant-loop-note l = exposed_in l.exposed.keys (drop l.note-index l.notes) ≡ exposed_in [] l.fn.notes
