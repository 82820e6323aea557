use Rattle.std.proofs.Common.{◌+◌, drop, Option, sym, ap, ◌∙◌}
use Rattle.sat_base.specs.declared.fault.Fault.{Fault}
use Rattle.sat_base.specs.Faults.{lesser}
use Rattle.c_faults.specs.Told.{first_among}
use Rattle.c_faults.proofs.Firsts.{lesser-assoc, among-next}
use Rattle.c_faults.proofs.told.first_among.Goals as goal

pub loop-fault-preserved : goal.loop-fault-preserved
loop-fault-preserved c =
    ap (λ (f : Option Fault). lesser f (first_among (drop (c.loop-fault.fault-index + 1) c.args.faults.now))) c.lesser-first.ensures ∙ lesser-assoc c.loop-fault.first _ _
    ∙ ap (lesser c.loop-fault.first) (sym (among-next c.args.faults.now c.loop-fault.fault-index _ c.loop-fault-test.true)) ∙ c.loop-fault.invariant
