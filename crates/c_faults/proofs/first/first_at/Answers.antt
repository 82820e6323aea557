use Rattle.std.proofs.Common.{◌+◌, drop, Option, sym, ap, ◌∙◌}
use Rattle.std.specs.Prelude.{flat_map}
use Rattle.sat_base.specs.declared.fault.Fault.{Fault}
use Rattle.sat_base.specs.Faults.{lesser}
use Rattle.c_faults.specs.Faults.{faults_at}
use Rattle.c_faults.specs.Told.{first_of}
use Rattle.c_faults.proofs.Firsts.{lesser-assoc, first-next}
use Rattle.c_faults.proofs.first.first_at.Goals as goal

pub loop-one-preserved : goal.loop-one-preserved
loop-one-preserved c =
    ap (λ (f : Option Fault). lesser f (first_of (flat_map faults_at (drop (c.loop-one.one-index + 1) c.args.seen.now)))) (c.lesser-first.ensures ∙ ap (lesser c.loop-one.first) c.fault_at.ensures)
    ∙ lesser-assoc c.loop-one.first _ _ ∙ ap (lesser c.loop-one.first) (sym (first-next c.args.seen.now c.loop-one.one-index _ c.loop-one-test.true)) ∙ c.loop-one.invariant
