use Rattle.std.proofs.Common.{sym, subst, List, ℤ}
use Rattle.operator_meaning.specs.Table.{row_of, AreOperands}
use Rattle.operator_meaning.specs.Outcome.{IsOutcome}
use Rattle.operator_meaning.proofs.Reading.{read_three}
use Rattle.operator_meaning.proofs.outcome.outcome.Goals as goal

pub of_three-requires : goal.of_three-requires
of_three-requires c =
    let op = c.args.op in
    let whole = read_three (row_of op).takes c.args.args.now c.requires c.in-len3.len_at_least c.in-len3.len_below in
    let P : List ℤ → Type 0 = λ args. AreOperands op args in
    subst P (sym whole) c.requires

pub returns-in-len3 : goal.returns-in-len3
returns-in-len3 c =
    let op = c.args.op in
    let whole = read_three (row_of op).takes c.args.args.now c.requires c.in-len3.len_at_least c.in-len3.len_below in
    let P : List ℤ → Type 0 = λ args. IsOutcome op args c.of_three.result in
    subst P whole c.of_three.ensures
