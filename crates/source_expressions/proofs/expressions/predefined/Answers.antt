use Rattle.std.proofs.Common.{◌≡◌, refl, ap, ◌∙◌, w32, rules}
use Rattle.std.proofs.lemmas.Int.{to_z-of_z}
use Rattle.std.specs.Prelude.{ℤ, pos, Ok}
use Rattle.weight_table.specs.declared.counted.Counted.{Counted}
use Rattle.weight_table.specs.declared.table.Table.{Table}
use Rattle.weight_table.specs.Weight.{weight_of}
use Rattle.weight_table.specs.declared.counted.Counted.TheVariants as what
use Rattle.source_runs.specs.Calls.{operator_call, counting, sample_left, sample_out}
use Rattle.source_runs.specs.State.{Kept, counted, put}
use Rattle.source_runs.specs.Runs.{gives, ◌>>◌}
use Rattle.source_runs.specs.Follows.{Follows}
use Rattle.source_runs.proofs.Following.{follows-gives, follows-changing, follows-reading, follows-and, follows-at}
use Rattle.typed_meaning.specs.Expressions.{callee_meaning}
use Rattle.source_expressions.proofs.Parts.{sample_taken}
use Rattle.source_expressions.proofs.expressions.predefined.Goals as goal

counted_so : (table table2 : Table) (what : Counted) (before after : Kept) → table2 ≡ table → after ≡ counted (weight_of table2 what) before → Follows (counting table what >> gives (pos 0)) (Ok (pos 0)) before after
unfolding counting
counted_so table table2 what before after same is =
    follows-and _ _ tt _ before after after (follows-changing _ tt before after (is ∙ ap (λ (t : Table). counted (weight_of t what) before) same)) (follows-gives _ _ after after refl refl)

pub returns-in-Operator-clause-follows : goal.returns-in-Operator-clause-follows
unfolding callee_meaning
returns-in-Operator-clause-follows c =
    rw c.in-Operator.is (follows-at (λ (t : Table). operator_call t c.args.site c.in-Operator.op c.args.givens.now) _ _ _ _ _ c.table_numbered-table.ensures c.operator_call.ensures)

pub returns-in-SampleLeft-clause-follows : goal.returns-in-SampleLeft-clause-follows
unfolding callee_meaning sample_left
returns-in-SampleLeft-clause-follows c =
    rw c.in-SampleLeft.is (follows-reading _ _ _ _ (to_z-of_z w32 c.sample_left.result (search rules) ∙ c.sample_left.ensures) refl)

pub returns-in_ok-put-in-SampleOut-clause-follows : goal.returns-in_ok-put-in-SampleOut-clause-follows
unfolding callee_meaning sample_out
returns-in_ok-put-in-SampleOut-clause-follows c =
    let value = c.in_ok-put-in-SampleOut.ensures ∙ ap (λ (v : ℤ). put v c.args.state.now) (to_z-of_z w32 c.first_number.result (search rules) ∙ c.first_number.ensures) in
    rw c.in-SampleOut.is (follows-and _ _ tt _ _ c.put.new.self _ (follows-changing _ tt _ _ value) (follows-gives _ _ _ _ refl refl))

pub returns-in-Move16-clause-follows : goal.returns-in-Move16-clause-follows
unfolding callee_meaning
returns-in-Move16-clause-follows c = rw c.in-Move16.is (counted_so _ _ what.Move16 _ _ c.table_numbered-table.ensures c.counting.ensures)

pub returns-in-Move32-clause-follows : goal.returns-in-Move32-clause-follows
unfolding callee_meaning
returns-in-Move32-clause-follows c = rw c.in-Move32.is (counted_so _ _ what.Move32 _ _ c.table_numbered-table.ensures c.counting-in-Move32.ensures)

pub returns-in-Logic16-clause-follows : goal.returns-in-Logic16-clause-follows
unfolding callee_meaning
returns-in-Logic16-clause-follows c = rw c.in-Logic16.is (counted_so _ _ what.Logic16 _ _ c.table_numbered-table.ensures c.counting-in-Logic16.ensures)

pub returns-in-Logic32-clause-follows : goal.returns-in-Logic32-clause-follows
unfolding callee_meaning
returns-in-Logic32-clause-follows c = rw c.in-Logic32.is (counted_so _ _ what.Logic32 _ _ c.table_numbered-table.ensures c.counting-in-Logic32.ensures)

pub returns-in-Test-clause-follows : goal.returns-in-Test-clause-follows
unfolding callee_meaning
returns-in-Test-clause-follows c = rw c.in-Test.is (counted_so _ _ what.Test _ _ c.table_numbered-table.ensures c.counting-in-Test.ensures)

pub returns-in-SampleIn-clause-follows : goal.returns-in-SampleIn-clause-follows
unfolding callee_meaning
returns-in-SampleIn-clause-follows c = rw c.in-SampleIn.is (sample_taken c.args.site _ _ _ _ c.take_sample.ensures.sample c.take_sample.ensures.rest c.ok_or.ensures.value)
