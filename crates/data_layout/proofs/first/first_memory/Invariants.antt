use Rattle.data_layout.specs.Layouts.{layout_of}
use Rattle.data_layout.proofs.Held.{IsBegun}
use Rattle.data_layout.proofs.first.first_memory.Given as goal

abbrev pub invariant-loop-number : goal.invariant-loop-number
invariant-loop-number l = IsBegun l.objects (layout_of l.layout) l.memory.items l.number
