use Rattle.std.proofs.Common.{◌+◌, List, drop, sym, ap, ◌∙◌}
use Rattle.std.specs.Prelude.{ℤ}
use Rattle.std.proofs.lemmas.Int.{to_z-of_z}
use Rattle.std.specs.BTreeSet.{insert_key}
use Rattle.std.specs.Int.{w32}
use Rattle.std.specs.Ordering.{int_cmp}
use Rattle.c_faults.specs.Limits.{is_one_too_many, first_constant_past}
use Rattle.c_faults.proofs.Counts.{no_constant, counted-now, counted-past}
use Rattle.c_faults.proofs.limits.constants_passed.Goals.{in-Some+in_ok-count-in-Some+else-branch, in-None}
use Rattle.c_faults.proofs.limits.constants_passed.Goals as goal

pub returns-then-branch : goal.returns-then-branch
returns-then-branch c =
    sym (counted-past c.loop-one.values.keys c.args.seen.now c.loop-one.one-index _ c.in-Some.at c.in-Some.value c.loop-one-test.true (sym c.constant_in.ensures.constant ∙ c.in-Some.is)
    (ap (is_one_too_many c.loop-one.values.keys) (sym (to_z-of_z w32 c.in-Some.value (rw c.in-Some.is at c.constant_in.ensures.fits))) ∙ sym c.in_ok-count-in-Some.ensures.past ∙ c.if-branch.true)) ∙ c.loop-one.invariant

pub loop-one-preserved : goal.loop-one-preserved
loop-one-preserved c =
    elim c.match-constant_in.branch [
      | in-Some+in_ok-count-in-Some+else-branch w ↦
          ap (λ (keys : List ℤ). first_constant_past keys (drop (c.loop-one.one-index + 1) c.args.seen.now)) (ap (λ (v : _). v.keys) w.values-is ∙ w.in_ok-count-in-Some.ensures.keys ∙ ap (insert_key int_cmp c.loop-one.values.keys) (to_z-of_z w32 w.in-Some.value (rw w.in-Some.is at c.constant_in.ensures.fits)))
          ∙ sym (counted-now c.loop-one.values.keys c.args.seen.now c.loop-one.one-index _ w.in-Some.at w.in-Some.value c.loop-one-test.true (sym c.constant_in.ensures.constant ∙ w.in-Some.is)
          (ap (is_one_too_many c.loop-one.values.keys) (sym (to_z-of_z w32 w.in-Some.value (rw w.in-Some.is at c.constant_in.ensures.fits))) ∙ sym w.in_ok-count-in-Some.ensures.past ∙ w.if-branch.false)) ∙ c.loop-one.invariant
      | in-None w ↦
          ap (λ (v : _). first_constant_past v.keys (drop (c.loop-one.one-index + 1) c.args.seen.now)) w.values-is
          ∙ sym (no_constant c.loop-one.values.keys c.args.seen.now c.loop-one.one-index _ c.loop-one-test.true (sym c.constant_in.ensures.constant ∙ w.in-None.is)) ∙ c.loop-one.invariant
    ]
