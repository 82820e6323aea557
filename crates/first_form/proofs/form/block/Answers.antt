use Rattle.std.proofs.Common.{Bool, ◌==◌, ◌≡◌, length, None, Option, IfOk, List, sym, ap, subst, ◌∙◌}
use Rattle.std.proofs.lemmas.Bool.{cond-true, cond-false}
use Rattle.first_form.specs.declared.first.FirstExpr.{FirstExpr}
use Rattle.first_form.specs.Finding.{outs_of}
use Rattle.first_form.proofs.Outs.{block_of-objects, block_of-empty, block_of-last}
use Rattle.first_form.proofs.form.block.Goals as goal

-- what the test of the objects says
tested : {A : Type 0} {xs ys : List A} {result is : Bool} → xs ≡ ys → result ≡ (length xs == 0) → result ≡ is → (length ys == 0) ≡ is
tested same e is = ap (λ (zs : List _). length zs == 0) (sym same) ∙ sym e ∙ is

pub returns-then-not-is_empty : goal.returns-then-not-is_empty
returns-then-not-is_empty c = sym (block_of-objects c.args.block.now (tested c.as_slice.ensures c.is_empty.ensures c.if-not-is_empty.true))

pub returns-in_default : goal.returns-in_default
returns-in_default c =
    sym (block_of-empty c.args.block.now (tested c.as_slice.ensures c.is_empty.ensures c.if-not-is_empty.false) (sym (ap length c.as_slice-2.ensures) ∙ c.in_default.ensures.cases))

pub returns-then-returns_zero : goal.returns-then-returns_zero
returns-then-returns_zero c =
    let stmts = c.in-Some.stmts.now in
    let last = c.in-Some.last.now in
    let whole = block_of-last c.args.block.now stmts last (tested c.as_slice.ensures c.is_empty.ensures c.if-not-is_empty.false) (sym c.as_slice-2.ensures ∙ c.in-Some.ensures.cases.0) in
    let found = whole ∙ cond-true _ (outs_of stmts) None (sym c.returns_zero.ensures ∙ c.if-returns_zero.true) in
    subst (λ (f : Option (List FirstExpr)). IfOk c.outs.result (λ found. found ≡ f)) (sym found) c.outs.ensures

pub returns-else-returns_zero : goal.returns-else-returns_zero
returns-else-returns_zero c =
    let stmts = c.in-Some.stmts.now in
    let last = c.in-Some.last.now in
    let whole = block_of-last c.args.block.now stmts last (tested c.as_slice.ensures c.is_empty.ensures c.if-not-is_empty.false) (sym c.as_slice-2.ensures ∙ c.in-Some.ensures.cases.0) in
    sym (whole ∙ cond-false _ (outs_of stmts) None (sym c.returns_zero.ensures ∙ c.if-returns_zero.false))
