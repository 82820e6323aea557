use Rattle.std.proofs.Common.{◌≡◌, true, false, ◌<◌, inl, inr, sym, ap, ◌∙◌, arith}
use Rattle.operator_meaning.specs.Table.{row_of}
use Rattle.operator_meaning.specs.Order.{place_of}
use Rattle.operator_meaning.proofs.Names.{place_within, at_place}
use Rattle.operator_meaning.proofs.table.of_name.Goals as goal

pub returns : goal.returns
returns c op named =
    elim named [
      | inl e ↦
          let within : place_of op < 29 = place_within op in
          c.loop-op.invariant (place_of op) (omega (arith, within, c.loop-op-test.false)) (ap (λ o. (row_of o).name) (at_place op) ∙ sym e)
      | inr also ↦ let test = c.if-eq.ensures in let e = also.0 in let bad : false ≡ true = rw e at test in cc
    ]
