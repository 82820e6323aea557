use Rattle.std.proofs.Common.{sym, subst, Option, ℤ, w32}
use Rattle.std.proofs.lemmas.Int.{to_z-of_z}
use Rattle.operator_meaning.specs.Table.{row_of, FitsWidth}
use Rattle.operator_meaning.proofs.Reading.{fits_32}
use Rattle.operator_meaning.proofs.Values.{IsSettled, settled}
use Rattle.operator_meaning.proofs.meaning.value.Goals as goal

pub returns-in-Some-clause-fits : goal.returns-in-Some-clause-fits
returns-in-Some-clause-fits c =
    let op = c.args.op in
    let width = (row_of op).gives in
    let x = c.in-Some.found.value in
    let P : Option ℤ → Type 0 = λ o. IsSettled op o in
    let fits : FitsWidth width x = subst P c.in-Some.ensures.0 (settled op c.args.args.now c.requires) in
    let Q : ℤ → Type 0 = λ z. FitsWidth width z in
    subst Q (sym (to_z-of_z w32 x (fits_32 width x fits))) fits
