use Rattle.std.proofs.Common.{refl, sym, ap, ◌∙◌, to_z, of_z, w32, rules, arith, map, drop, ◌+◌}
use Rattle.std.proofs.lemmas.Int.{to_z-of_z}
use Rattle.std.proofs.lemmas.List.{at_drop_all}
use Rattle.std.specs.Prelude.{ℤ, List}
use Rattle.source_runs.specs.declared.location.Given.{Given}
use Rattle.source_runs.specs.declared.location.Given.TheVariants.{Number}
use Rattle.source_runs.specs.declared.shape.Shape.{Shape}
use Rattle.source_runs.specs.State.{converted}
use Rattle.source_runs.specs.Marks.{unary_meaning, binary_meaning, both_meaning}
use Rattle.source_runs.specs.Steps.{inside, place_of, in_row, named, pointed}
use Rattle.source_runs.specs.Runs.{holds, gathered}
use Rattle.source_runs.proofs.Following.{follows-gives, follows-reading, follows-next, follows-exit, follows-choosing_exit, follows-holds, follows-fails, follows-at, follows-as}
use Rattle.source_runs.proofs.Operators.{fits_32}
use Rattle.source_runs.proofs.Turning.{gathered-end}
use Rattle.typed_meaning.specs.Expressions.{callee_meaning, index_meaning, indices_meaning}
use Rattle.typed_meaning.proofs.Expressions.{kind-Int, kind-Read, kind-ReadOverflow, kind-Unary, kind-Binary, kind-Cast, kind-Convert, kind-Choose, kind-Call, place-Plain, place-Index, place-Index2, place-Deref, argument-Value, argument-Address, call-is, expression-is}
use Rattle.source_expressions.specs.Does.{setting, called, argument_at}
use Rattle.source_expressions.proofs.Parts.{site_so, found_so, decides, leaves_open, gathered_step}
use Rattle.source_expressions.proofs.expressions.+expression.Goals as goal

pub argument-returns-in_err-x-in-Value : goal.argument-returns-in_err-x-in-Value
argument-returns-in_err-x-in-Value g t c = rw (c.in-Value.is, argument-Value) (follows-exit _ _ _ _ _ _ c.from_residual.ensures.1 c.in_err-x-in-Value.ensures.follows)

pub argument-returns-in_err-to-in-Address : goal.argument-returns-in_err-to-in-Address
argument-returns-in_err-to-in-Address g t c = rw (c.in-Address.is, argument-Address) (follows-exit _ _ _ _ _ _ c.from_residual-in_err-to-in-Address.ensures.1 c.in_err-to-in-Address.ensures)

pub argument-returns-in_ok-x-in-Value : goal.argument-returns-in_ok-x-in-Value
argument-returns-in_ok-x-in-Value g t c =
    rw (c.in-Value.is, argument-Value) (follows-next _ _ c.in_ok-x-in-Value.x _ _ _ _ c.in_ok-x-in-Value.ensures.follows (follows-gives _ _ _ _ (ap Number (to_z-of_z w32 _ c.in_ok-x-in-Value.ensures.fits)) refl))

pub argument-returns-in_ok-to-in-Address : goal.argument-returns-in_ok-to-in-Address
argument-returns-in_ok-to-in-Address g t c = rw (c.in-Address.is, argument-Address) (follows-next _ _ c.in_ok-to-in-Address.to _ _ _ _ c.in_ok-to-in-Address.ensures (follows-gives _ _ _ _ refl refl))

pub expression-returns-in_err-at-in-Read-clause-follows : goal.expression-returns-in_err-at-in-Read-clause-follows
expression-returns-in_err-at-in-Read-clause-follows g t c = rw (expression-is, c.in-Read.is, kind-Read, ← c.get.ensures) (follows-exit _ _ _ _ _ _ c.from_residual.ensures.1 c.in_err-at-in-Read.ensures)

pub expression-returns-in_err-x-in-Unary-clause-follows : goal.expression-returns-in_err-x-in-Unary-clause-follows
expression-returns-in_err-x-in-Unary-clause-follows g t c = rw (expression-is, c.in-Unary.is, kind-Unary, ← c.get-in-Unary.ensures) (follows-exit _ _ _ _ _ _ c.from_residual-in_err-x-in-Unary.ensures.1 c.in_err-x-in-Unary.ensures.follows)

pub expression-returns-in_err-x-in-Binary-clause-follows : goal.expression-returns-in_err-x-in-Binary-clause-follows
unfolding binary_meaning
expression-returns-in_err-x-in-Binary-clause-follows g t c = rw (expression-is, c.in-Binary.is, kind-Binary, ← c.get-in-Binary.ensures) (follows-exit _ _ _ _ _ _ c.from_residual-in_err-x-in-Binary.ensures.1 c.in_err-x-in-Binary.ensures.follows)

pub expression-returns-in-Some-clause-follows : goal.expression-returns-in-Some-clause-follows
unfolding binary_meaning
expression-returns-in-Some-clause-follows g t c =
    rw (expression-is, c.in-Binary.is, kind-Binary, ← c.get-in-Binary.ensures) (follows-next _ _ c.in_ok-x-in-Binary.x _ _ _ _ c.in_ok-x-in-Binary.ensures.follows
    (decides c.in-Binary.mark _ _ c.in-Some.value _ _ _ (to_z-of_z w32 _ c.in_ok-x-in-Binary.ensures.fits) (sym c.in-Some.is ∙ c.decided.ensures) (to_z-of_z w32 _ (search rules))))

pub expression-returns-in_err-y-in-Binary-clause-follows : goal.expression-returns-in_err-y-in-Binary-clause-follows
unfolding binary_meaning
expression-returns-in_err-y-in-Binary-clause-follows g t c =
    rw (expression-is, c.in-Binary.is, kind-Binary, ← c.get-in-Binary.ensures, ← c.get-in-Binary-2.ensures) (follows-next _ _ c.in_ok-x-in-Binary.x _ _ _ _ c.in_ok-x-in-Binary.ensures.follows
    (leaves_open c.in-Binary.mark _ _ _ _ _ _ (to_z-of_z w32 _ c.in_ok-x-in-Binary.ensures.fits) (sym c.in_default.is ∙ c.decided.ensures) (follows-exit _ _ _ _ _ _ c.from_residual-in_err-y-in-Binary.ensures.1 c.in_err-y-in-Binary.ensures.follows)))

pub expression-returns-in_ok-y-in-Binary-clause-follows : goal.expression-returns-in_ok-y-in-Binary-clause-follows
unfolding binary_meaning
expression-returns-in_ok-y-in-Binary-clause-follows g t c =
    let both = follows-at (λ (x : ℤ). both_meaning c.in-Binary.mark c.site_at-in-Binary.result x (to_z w32 (of_z w32 c.in_ok-y-in-Binary.y))) _ _ _ _ _ (to_z-of_z w32 _ c.in_ok-x-in-Binary.ensures.fits) (c.both.ensures _) in
    rw (expression-is, c.in-Binary.is, kind-Binary, ← c.get-in-Binary.ensures, ← c.get-in-Binary-2.ensures, ← c.site_at-in-Binary.ensures) (follows-next _ _ c.in_ok-x-in-Binary.x _ _ _ _ c.in_ok-x-in-Binary.ensures.follows
    (leaves_open c.in-Binary.mark _ _ _ _ _ _ (to_z-of_z w32 _ c.in_ok-x-in-Binary.ensures.fits) (sym c.in_default.is ∙ c.decided.ensures) (follows-next _ _ c.in_ok-y-in-Binary.y _ _ _ _ c.in_ok-y-in-Binary.ensures.follows
    (follows-at (λ (y : ℤ). both_meaning c.in-Binary.mark c.site_at-in-Binary.result c.in_ok-x-in-Binary.x y) _ _ _ _ _ (to_z-of_z w32 _ c.in_ok-y-in-Binary.ensures.fits) both))))

pub expression-returns-in_err-expression-in-Choose-clause-follows : goal.expression-returns-in_err-expression-in-Choose-clause-follows
expression-returns-in_err-expression-in-Choose-clause-follows g t c = rw (expression-is, c.in-Choose.is, kind-Choose, ← c.get-in-Choose.ensures) (follows-choosing_exit _ _ _ _ _ _ _ c.from_residual-in_err-expression-in-Choose.ensures.1 c.in_err-expression-in-Choose.ensures.follows)

pub expression-returns-then-holds-clause-follows : goal.expression-returns-then-holds-clause-follows
expression-returns-then-holds-clause-follows g t c =
    rw (expression-is, c.in-Choose.is, kind-Choose, ← c.get-in-Choose.ensures, ← c.get-then-holds.ensures) (follows-holds _ _ _ c.in_ok-expression-in-Choose.field-0 _ _ _ _ c.in_ok-expression-in-Choose.ensures.follows
    (ap holds (sym (to_z-of_z w32 _ c.in_ok-expression-in-Choose.ensures.fits)) ∙ sym c.holds.ensures ∙ c.if-holds.true) c.expression-then-holds.ensures.follows)

pub expression-returns-else-holds-clause-follows : goal.expression-returns-else-holds-clause-follows
expression-returns-else-holds-clause-follows g t c =
    rw (expression-is, c.in-Choose.is, kind-Choose, ← c.get-in-Choose.ensures, ← c.get-else-holds.ensures) (follows-fails _ _ _ c.in_ok-expression-in-Choose.field-0 _ _ _ _ c.in_ok-expression-in-Choose.ensures.follows
    (ap holds (sym (to_z-of_z w32 _ c.in_ok-expression-in-Choose.ensures.fits)) ∙ sym c.holds.ensures ∙ c.if-holds.false) c.expression-else-holds.ensures.follows)

pub expression-returns-in_err-x-in-Cast-clause-follows : goal.expression-returns-in_err-x-in-Cast-clause-follows
expression-returns-in_err-x-in-Cast-clause-follows g t c = rw (expression-is, c.in-Cast.is, kind-Cast, ← c.get-in-Cast.ensures) (follows-exit _ _ _ _ _ _ c.from_residual-in_err-x-in-Cast.ensures.1 c.in_err-x-in-Cast.ensures.follows)

pub expression-returns-in_ok-x-in-Cast-clause-follows : goal.expression-returns-in_ok-x-in-Cast-clause-follows
expression-returns-in_ok-x-in-Cast-clause-follows g t c =
    rw (expression-is, c.in-Cast.is, kind-Cast, ← c.get-in-Cast.ensures) (follows-next _ _ c.in_ok-x-in-Cast.x _ _ _ _ c.in_ok-x-in-Cast.ensures.follows
    (follows-gives _ _ _ _ (to_z-of_z w32 _ (fits_32 c.in-Cast.width _ c.convert.ensures.fits) ∙ c.convert.ensures.value ∙ ap (converted c.in-Cast.width) (to_z-of_z w32 _ c.in_ok-x-in-Cast.ensures.fits)) refl))

pub expression-returns-in_err-x-in-Convert-clause-follows : goal.expression-returns-in_err-x-in-Convert-clause-follows
expression-returns-in_err-x-in-Convert-clause-follows g t c = rw (expression-is, c.in-Convert.is, kind-Convert, ← c.get-in-Convert.ensures) (follows-exit _ _ _ _ _ _ c.from_residual-in_err-x-in-Convert.ensures.1 c.in_err-x-in-Convert.ensures.follows)

pub expression-returns-in_ok-x-in-Convert-clause-follows : goal.expression-returns-in_ok-x-in-Convert-clause-follows
expression-returns-in_ok-x-in-Convert-clause-follows g t c =
    rw (expression-is, c.in-Convert.is, kind-Convert, ← c.get-in-Convert.ensures) (follows-next _ _ c.in_ok-x-in-Convert.x _ _ _ _ c.in_ok-x-in-Convert.ensures.follows
    (follows-gives _ _ _ _ (to_z-of_z w32 _ (fits_32 c.in-Convert.width _ c.convert-in-Convert.ensures.fits) ∙ c.convert-in-Convert.ensures.value ∙ ap (converted c.in-Convert.width) (to_z-of_z w32 _ c.in_ok-x-in-Convert.ensures.fits)) refl))

pub expression-returns-in-Int-clause-follows : goal.expression-returns-in-Int-clause-follows
expression-returns-in-Int-clause-follows g t c = rw (expression-is, c.in-Int.is, kind-Int) (follows-gives _ _ _ _ (to_z-of_z w32 _ (search rules)) refl)

pub expression-returns-in_ok-at-in-Read-clause-follows : goal.expression-returns-in_ok-at-in-Read-clause-follows
expression-returns-in_ok-at-in-Read-clause-follows g t c =
    rw (expression-is, c.in-Read.is, kind-Read, ← c.get.ensures) (follows-next _ _ c.in_ok-at-in-Read.at _ _ _ _ c.in_ok-at-in-Read.ensures (follows-reading _ _ _ _ ((to_z-of_z w32 _ (search rules)) ∙ c.number_at.ensures) refl))

pub expression-returns-in-ReadOverflow-clause-follows : goal.expression-returns-in-ReadOverflow-clause-follows
expression-returns-in-ReadOverflow-clause-follows g t c = rw (expression-is, c.in-ReadOverflow.is, kind-ReadOverflow) (follows-reading _ _ _ _ ((to_z-of_z w32 _ (search rules)) ∙ c.overflow.ensures) refl)

pub expression-returns-in_ok-x-in-Unary-clause-follows : goal.expression-returns-in_ok-x-in-Unary-clause-follows
expression-returns-in_ok-x-in-Unary-clause-follows g t c =
    rw (expression-is, c.in-Unary.is, kind-Unary, ← c.get-in-Unary.ensures, ← c.site_at.ensures) (follows-next _ _ c.in_ok-x-in-Unary.x _ _ _ _ c.in_ok-x-in-Unary.ensures.follows
    (follows-at (λ (x : ℤ). unary_meaning c.in-Unary.mark c.site_at.result x) _ _ _ _ _ (to_z-of_z w32 _ c.in_ok-x-in-Unary.ensures.fits) (c.unary.ensures _)))

pub expression-returns-in-Call-clause-follows : goal.expression-returns-in-Call-clause-follows
expression-returns-in-Call-clause-follows g t c = rw (expression-is, c.in-Call.is, kind-Call) c.call.ensures.follows

pub located-returns-in_err-i-in-Index : goal.located-returns-in_err-i-in-Index
unfolding index_meaning
located-returns-in_err-i-in-Index g t c = rw (c.in-Index.is, place-Index, ← c.get.ensures) (follows-exit _ _ _ _ _ _ c.from_residual.ensures.1 c.in_err-i-in-Index.ensures.follows)

pub located-returns-in_err-i-in-Index2 : goal.located-returns-in_err-i-in-Index2
unfolding indices_meaning
located-returns-in_err-i-in-Index2 g t c = rw (c.in-Index2.is, place-Index2, ← c.get-in-Index2.ensures) (follows-exit _ _ _ _ _ _ c.from_residual-in_err-i-in-Index2.ensures.1 c.in_err-i-in-Index2.ensures.follows)

pub located-returns-in_err-row-in-Index2 : goal.located-returns-in_err-row-in-Index2
unfolding indices_meaning
located-returns-in_err-row-in-Index2 g t c =
    rw (c.in-Index2.is, place-Index2, ← c.get-in-Index2.ensures) (follows-next _ _ c.in_ok-i-in-Index2.i _ _ _ _ c.in_ok-i-in-Index2.ensures.follows
    (follows-exit _ _ _ _ _ _ c.from_residual-in_err-row-in-Index2.ensures.1 (site_so _ _ _ _ _ _ (c.row_of.ensures ∙ ap (λ (i : ℤ). inside i c.shape-shape-in-Index2.result.rows) (to_z-of_z w32 _ c.in_ok-i-in-Index2.ensures.fits) ∙ ap (λ (s : Shape). inside c.in_ok-i-in-Index2.i s.rows) c.shape-shape-in-Index2.ensures) c.site_at-in-Index2.ensures c.in_err-row-in-Index2.ensures.value)))

pub located-returns-in_err-j-in-Index2 : goal.located-returns-in_err-j-in-Index2
unfolding indices_meaning
located-returns-in_err-j-in-Index2 g t c =
    rw (c.in-Index2.is, place-Index2, ← c.get-in-Index2.ensures, ← c.get-in-Index2-2.ensures) (follows-next _ _ c.in_ok-i-in-Index2.i _ _ _ _ c.in_ok-i-in-Index2.ensures.follows
    (follows-next _ _ c.in_ok-row-in-Index2.row _ _ _ _ (site_so _ _ _ _ _ _ (c.row_of.ensures ∙ ap (λ (i : ℤ). inside i c.shape-shape-in-Index2.result.rows) (to_z-of_z w32 _ c.in_ok-i-in-Index2.ensures.fits) ∙ ap (λ (s : Shape). inside c.in_ok-i-in-Index2.i s.rows) c.shape-shape-in-Index2.ensures) c.site_at-in-Index2.ensures c.in_ok-row-in-Index2.ensures.value)
    (follows-exit _ _ _ _ _ _ c.from_residual-in_err-j-in-Index2.ensures.1 c.in_err-j-in-Index2.ensures.follows)))

pub located-returns-in_ok-j-in-Index2 : goal.located-returns-in_ok-j-in-Index2
unfolding indices_meaning
located-returns-in_ok-j-in-Index2 g t c =
    rw (c.in-Index2.is, place-Index2, ← c.get-in-Index2.ensures, ← c.get-in-Index2-2.ensures) (follows-next _ _ c.in_ok-i-in-Index2.i _ _ _ _ c.in_ok-i-in-Index2.ensures.follows
    (follows-next _ _ c.in_ok-row-in-Index2.row _ _ _ _ (site_so _ _ _ _ _ _ (c.row_of.ensures ∙ ap (λ (i : ℤ). inside i c.shape-shape-in-Index2.result.rows) (to_z-of_z w32 _ c.in_ok-i-in-Index2.ensures.fits) ∙ ap (λ (s : Shape). inside c.in_ok-i-in-Index2.i s.rows) c.shape-shape-in-Index2.ensures) c.site_at-in-Index2.ensures c.in_ok-row-in-Index2.ensures.value)
    (follows-next _ _ c.in_ok-j-in-Index2.j _ _ _ _ c.in_ok-j-in-Index2.ensures.follows
    (site_so _ _ _ _ _ _ (c.in_row.ensures ∙ ap (λ (j : ℤ). in_row c.args.access c.shape-shape-in-Index2.result c.in_ok-row-in-Index2.row j) (to_z-of_z w32 _ c.in_ok-j-in-Index2.ensures.fits) ∙ ap (λ (s : Shape). in_row c.args.access s c.in_ok-row-in-Index2.row c.in_ok-j-in-Index2.j) c.shape-shape-in-Index2.ensures) c.site_at-in-Index2-2.ensures c.ok_or-in-Index2-2.ensures.value))))

pub located-returns-in-Plain : goal.located-returns-in-Plain
located-returns-in-Plain g t c = rw (c.in-Plain.is, place-Plain) (follows-reading _ _ _ _ (c.named.ensures ∙ ap (λ (s : Shape). named s c.args.state.now) c.shape.ensures) refl)

pub located-returns-in_ok-i-in-Index : goal.located-returns-in_ok-i-in-Index
unfolding index_meaning
located-returns-in_ok-i-in-Index g t c =
    rw (c.in-Index.is, place-Index, ← c.get.ensures) (follows-next _ _ c.in_ok-i-in-Index.i _ _ _ _ c.in_ok-i-in-Index.ensures.follows
    (found_so _ _ _ _ _ _ (c.place_of-found.ensures ∙ ap (λ (i : ℤ). place_of c.args.access c.shape-shape.result i c.expression.new.state) (to_z-of_z w32 _ c.in_ok-i-in-Index.ensures.fits)
    ∙ ap (λ (s : Shape). place_of c.args.access s c.in_ok-i-in-Index.i c.expression.new.state) c.shape-shape.ensures) c.site_at.ensures c.ok_or.ensures.value))

pub located-returns-in-Deref : goal.located-returns-in-Deref
located-returns-in-Deref g t c =
    rw (c.in-Deref.is, place-Deref) (found_so _ _ _ _ _ _ (c.pointed-found.ensures ∙ ap (λ (s : Shape). pointed s c.args.state.now) c.shape-in-Deref.ensures) c.site_at-in-Deref.ensures c.ok_or-in-Deref.ensures.value)

pub arguments-returns-in_err-given : goal.arguments-returns-in_err-given
arguments-returns-in_err-given g t c =
    c.loop-arg.invariant _ _ (follows-as _ _ _ _ _ (gathered_step (argument_at c.args.here.now) c.loop-arg.givens c.args.args.now c.loop-arg.arg-index c.arg-item.result c.loop-arg-test.true c.arg-item.is)
    (follows-exit _ _ _ _ _ _ c.from_residual.ensures.1 c.in_err-given.ensures))

pub arguments-loop-arg-preserved : goal.arguments-loop-arg-preserved
arguments-loop-arg-preserved g t c = λ r after rest.
    let more = follows-at (λ (done : List Given). gathered done (map (argument_at c.args.here.now) (drop (c.loop-arg.arg-index + 1) c.args.args.now))) _ _ _ _ _ c.in_ok-push.ensures.ok rest in
    c.loop-arg.invariant r after (follows-as _ _ _ _ _ (gathered_step (argument_at c.args.here.now) c.loop-arg.givens c.args.args.now c.loop-arg.arg-index c.arg-item.result c.loop-arg-test.true c.arg-item.is)
    (follows-next _ _ c.in_ok-given.given _ _ _ _ c.in_ok-given.ensures more))

pub arguments-returns : goal.arguments-returns
arguments-returns g t c =
    c.loop-arg.invariant _ _ (follows-as _ _ _ _ _ (at_drop_all (λ args. gathered c.loop-arg.givens (map (argument_at c.args.here.now) args)) c.args.args.now c.loop-arg.arg-index (omega arith) ∙ gathered-end c.loop-arg.givens)
    (follows-gives _ _ _ _ refl refl))

pub call-returns-in_err-givens-clause-follows : goal.call-returns-in_err-givens-clause-follows
call-returns-in_err-givens-clause-follows g t c = rw (call-is, ← c.as_slice.ensures) (follows-exit _ _ _ _ _ _ c.from_residual.ensures.1 c.in_err-givens.ensures)

pub call-returns-in-Function-clause-follows : goal.call-returns-in-Function-clause-follows
unfolding callee_meaning
call-returns-in-Function-clause-follows g t c =
    rw (call-is, ← c.as_slice.ensures) (follows-next _ _ c.in_ok-givens.givens _ _ _ _ c.in_ok-givens.ensures (rw c.in-Function.is (c.requires.follows _ _ _ _ _ c.calls.ensures)))

pub call-returns-in_default : goal.call-returns-in_default
call-returns-in_default g t c =
    record {
      follows = rw (call-is, ← c.as_slice.ensures, ← c.site_at-site.ensures) (follows-next _ _ c.in_ok-givens.givens _ _ _ _ c.in_ok-givens.ensures
          (follows-at (λ (givens : List Given). callee_meaning (setting c.args.here.now) (called c.args.here.now) c.args.made.now.callee c.site_at-site.result givens) _ _ _ _ _ c.as_slice-in_default.ensures c.predefined.ensures.follows));
      fits = c.predefined.ensures.fits;
    }
