use Rattle.std.proofs.Common.{◌≡◌, ◌++◌, drop}
use Rattle.tied_names.specs.Numbers.{sites_in}
use Rattle.c_types.proofs.tying.sites_of.Given as goal

abbrev pub invariant-loop-note : goal.invariant-loop-note
invariant-loop-note l = l.sites.items ++ sites_in (drop l.note-index l.notes) ≡ sites_in l.fn.notes
