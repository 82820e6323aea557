use Rattle.std.proofs.Common.{refl, sym, subst, ap, ◌∙◌, w32, rules, arith, map}
use Rattle.std.proofs.lemmas.Int.{to_z-of_z}
use Rattle.std.proofs.lemmas.List.{at_drop_all}
use Rattle.std.specs.Prelude.{List}
use Rattle.c_typed.specs.declared.statement.TypedStmt.{TypedStmt}
use Rattle.source_runs.specs.declared.halt.Flow.TheVariants.{Return}
use Rattle.source_runs.specs.Follows.{Follows}
use Rattle.source_runs.specs.Runs.{holds, all_of}
use Rattle.source_runs.specs.Loops.{in_sequence, looping}
use Rattle.source_runs.proofs.Following.{follows-gives, follows-next, follows-exit, follows-and, follows-and_exit, follows-choosing_exit, follows-holds, follows-fails, follows-as}
use Rattle.source_runs.proofs.Turning.{in_sequence-end}
use Rattle.typed_meaning.specs.Statements.{return_meaning}
use Rattle.typed_meaning.proofs.Statements.{statement-Empty, statement-Block, statement-Simple, statement-While, statement-Do, statement-For, statement-Break, statement-Continue, statement-Return, block-is}
use Rattle.source_expressions.specs.Does.{statement_at}
use Rattle.source_statements.proofs.Turns.{if-is, left_early, goes_on, in_sequence_step, turn_step, no_turn_left}
use Rattle.source_statements.proofs.statements.+statement.Goals as goal

pub block-returns-in_err-starts : goal.block-returns-in_err-starts
block-returns-in_err-starts g t c = rw (block-is, ← c.as_slice.ensures) (follows-and_exit _ _ _ _ _ _ c.from_residual.ensures.1 c.in_err-starts.ensures)

pub block-loop-stmt-init : goal.block-loop-stmt-init
block-loop-stmt-init g t c = λ r after rest.
    let stmts = subst (λ (xs : List TypedStmt). Follows (in_sequence (map (statement_at c.args.here.now) xs)) r c.starts.new.state after) c.as_slice-stmts.ensures rest in
    rw (block-is, ← c.as_slice.ensures) (follows-and _ _ c.in_ok-starts.field-0 _ _ _ _ c.in_ok-starts.ensures stmts)

pub block-returns-in_err-left : goal.block-returns-in_err-left
block-returns-in_err-left g t c =
    c.loop-stmt.invariant _ _ (follows-as _ _ _ _ _ (in_sequence_step (statement_at c.args.here.now) c.as_slice-stmts.result.now c.loop-stmt.stmt-index c.stmt-item.result c.loop-stmt-test.true c.stmt-item.is)
    (follows-exit _ _ _ _ _ _ c.from_residual-in_err-left.ensures.1 c.in_err-left.ensures))

pub block-returns-in_default : goal.block-returns-in_default
block-returns-in_default g t c =
    c.loop-stmt.invariant _ _ (follows-as _ _ _ _ _ (in_sequence_step (statement_at c.args.here.now) c.as_slice-stmts.result.now c.loop-stmt.stmt-index c.stmt-item.result c.loop-stmt-test.true c.stmt-item.is)
    (follows-next _ _ c.in_ok-left.left _ _ _ _ c.in_ok-left.ensures (left_early _ _ _ c.in_default.not-Normal)))

pub block-loop-stmt-preserved : goal.block-loop-stmt-preserved
block-loop-stmt-preserved g t c = λ r after rest.
    c.loop-stmt.invariant r after (follows-as _ _ _ _ _ (in_sequence_step (statement_at c.args.here.now) c.as_slice-stmts.result.now c.loop-stmt.stmt-index c.stmt-item.result c.loop-stmt-test.true c.stmt-item.is)
    (follows-next _ _ c.in_ok-left.left _ _ _ _ c.in_ok-left.ensures (rw c.in-Normal.is rest)))

pub block-returns : goal.block-returns
block-returns g t c =
    c.loop-stmt.invariant _ _ (follows-as _ _ _ _ _ (at_drop_all (λ stmts. in_sequence (map (statement_at c.args.here.now) stmts)) c.as_slice-stmts.result.now c.loop-stmt.stmt-index (omega arith) ∙ in_sequence-end)
    (follows-gives _ _ _ _ refl refl))

pub looping-returns-in_err-condition : goal.looping-returns-in_err-condition
unfolding looping
looping-returns-in_err-condition g t c = follows-choosing_exit _ _ _ _ _ _ _ c.from_residual.ensures.1 c.in_err-condition.ensures.follows

pub looping-returns-then-holds : goal.looping-returns-then-holds
unfolding looping
looping-returns-then-holds g t c =
    follows-holds _ _ _ c.in_ok-condition.field-0 _ _ _ _ c.in_ok-condition.ensures.follows
    (ap holds (sym (to_z-of_z w32 _ c.in_ok-condition.ensures.fits)) ∙ sym c.holds.ensures ∙ c.if-holds.true) c.turns.ensures

pub looping-returns-else-holds : goal.looping-returns-else-holds
unfolding looping
looping-returns-else-holds g t c =
    follows-fails _ _ _ c.in_ok-condition.field-0 _ _ _ _ c.in_ok-condition.ensures.follows
    (ap holds (sym (to_z-of_z w32 _ c.in_ok-condition.ensures.fits)) ∙ sym c.holds.ensures ∙ c.if-holds.false) (follows-gives _ _ _ _ refl refl)

pub statement-returns-in_err-simple-in-Simple : goal.statement-returns-in_err-simple-in-Simple
statement-returns-in_err-simple-in-Simple g t c = rw (c.in-Simple.is, statement-Simple) (follows-and_exit _ _ _ _ _ _ c.from_residual.ensures.1 c.in_err-simple-in-Simple.ensures)

pub statement-returns-in-Empty : goal.statement-returns-in-Empty
statement-returns-in-Empty g t c = rw (c.in-Empty.is, statement-Empty) (follows-gives _ _ _ _ refl refl)

pub statement-returns-in-Block : goal.statement-returns-in-Block
statement-returns-in-Block g t c = rw (c.in-Block.is, statement-Block) c.block.ensures

pub statement-returns-in_ok-simple-in-Simple : goal.statement-returns-in_ok-simple-in-Simple
statement-returns-in_ok-simple-in-Simple g t c =
    rw (c.in-Simple.is, statement-Simple) (follows-and _ _ c.in_ok-simple-in-Simple.field-0 _ _ _ _ c.in_ok-simple-in-Simple.ensures (follows-gives _ _ _ _ refl refl))

pub statement-returns-in_err-expression-in-If : goal.statement-returns-in_err-expression-in-If
statement-returns-in_err-expression-in-If g t c =
    rw (c.in-If.is, if-is, ← c.get.ensures) (follows-choosing_exit _ _ _ _ _ _ _ c.from_residual-in_err-expression-in-If.ensures.1 c.in_err-expression-in-If.ensures.follows)

pub statement-returns-then-holds : goal.statement-returns-then-holds
statement-returns-then-holds g t c =
    rw (c.in-If.is, if-is, ← c.get.ensures, ← c.get-then-holds.ensures) (follows-holds _ _ _ c.in_ok-expression-in-If.field-0 _ _ _ _ c.in_ok-expression-in-If.ensures.follows
    (ap holds (sym (to_z-of_z w32 _ c.in_ok-expression-in-If.ensures.fits)) ∙ sym c.holds.ensures ∙ c.if-holds.true) c.statement.ensures)

pub statement-returns-in-Some : goal.statement-returns-in-Some
statement-returns-in-Some g t c =
    rw (c.in-If.is, if-is, ← c.get.ensures, c.in-Some.is, ← c.get-in-Some.ensures) (follows-fails _ _ _ c.in_ok-expression-in-If.field-0 _ _ _ _ c.in_ok-expression-in-If.ensures.follows
    (ap holds (sym (to_z-of_z w32 _ c.in_ok-expression-in-If.ensures.fits)) ∙ sym c.holds.ensures ∙ c.if-holds.false) c.statement-in-Some.ensures)

pub statement-returns-in-None : goal.statement-returns-in-None
statement-returns-in-None g t c =
    rw (c.in-If.is, if-is, ← c.get.ensures, c.in-None.is) (follows-fails _ _ _ c.in_ok-expression-in-If.field-0 _ _ _ _ c.in_ok-expression-in-If.ensures.follows
    (ap holds (sym (to_z-of_z w32 _ c.in_ok-expression-in-If.ensures.fits)) ∙ sym c.holds.ensures ∙ c.if-holds.false) (follows-gives _ _ _ _ refl refl))

pub statement-returns-in-While : goal.statement-returns-in-While
unfolding all_of
statement-returns-in-While g t c = rw (c.in-While.is, statement-While, ← c.get-in-While.ensures, ← c.get-in-While-2.ensures) c.looping.ensures

pub statement-returns-in-Do : goal.statement-returns-in-Do
unfolding all_of
statement-returns-in-Do g t c = rw (c.in-Do.is, statement-Do, ← c.get-in-Do.ensures, ← c.get-in-Do-2.ensures) c.turns.ensures

pub statement-returns-in_err-all_simples-in-For : goal.statement-returns-in_err-all_simples-in-For
statement-returns-in_err-all_simples-in-For g t c =
    rw (c.in-For.is, statement-For, ← c.as_slice.ensures) (follows-and_exit _ _ _ _ _ _ c.from_residual-in_err-all_simples-in-For.ensures.1 c.in_err-all_simples-in-For.ensures)

pub statement-returns-in_err-x-in-Some-value : goal.statement-returns-in_err-x-in-Some-value
unfolding return_meaning
statement-returns-in_err-x-in-Some-value g t c =
    rw (c.in-Return.is, statement-Return, c.in-Some-value.is, ← c.get-in-Some-value.ensures) (follows-exit _ _ _ _ _ _ c.from_residual-in_err-x-in-Some-value.ensures.1 c.in_err-x-in-Some-value.ensures.follows)

pub statement-returns-in_ok-x-in-Some-value : goal.statement-returns-in_ok-x-in-Some-value
unfolding return_meaning
statement-returns-in_ok-x-in-Some-value g t c =
    rw (c.in-Return.is, statement-Return, c.in-Some-value.is, ← c.get-in-Some-value.ensures) (follows-next _ _ c.in_ok-x-in-Some-value.x _ _ _ _ c.in_ok-x-in-Some-value.ensures.follows
    (follows-gives _ _ _ _ (ap Return (to_z-of_z w32 _ c.in_ok-x-in-Some-value.ensures.fits)) refl))

pub statement-returns-in-None-value : goal.statement-returns-in-None-value
unfolding return_meaning
statement-returns-in-None-value g t c = rw (c.in-Return.is, statement-Return, c.in-None-value.is) (follows-gives _ _ _ _ refl refl)

pub statement-returns-in-Break : goal.statement-returns-in-Break
statement-returns-in-Break g t c = rw (c.in-Break.is, statement-Break) (follows-gives _ _ _ _ refl refl)

pub statement-returns-in-Continue : goal.statement-returns-in-Continue
statement-returns-in-Continue g t c = rw (c.in-Continue.is, statement-Continue) (follows-gives _ _ _ _ refl refl)

pub turns-returns-in_err-statement : goal.turns-returns-in_err-statement
turns-returns-in_err-statement g t c =
    c.loop-begun.invariant _ _ (follows-as _ _ _ _ _ (turn_step c.args.here.now.turns c.loop-begun._begun _ _ _ c.loop-begun-test.true)
    (follows-exit _ _ _ _ _ _ c.from_residual.ensures.1 c.in_err-statement.ensures))

pub turns-returns-in-Break : goal.turns-returns-in-Break
turns-returns-in-Break g t c =
    c.loop-begun.invariant _ _ (follows-as _ _ _ _ _ (turn_step c.args.here.now.turns c.loop-begun._begun _ _ _ c.loop-begun-test.true)
    (follows-next _ _ c.in_ok-statement.field-0 _ _ _ _ c.in_ok-statement.ensures (rw c.in-Break.is (follows-gives _ _ _ _ refl refl))))

pub turns-returns-in-Return : goal.turns-returns-in-Return
turns-returns-in-Return g t c =
    c.loop-begun.invariant _ _ (follows-as _ _ _ _ _ (turn_step c.args.here.now.turns c.loop-begun._begun _ _ _ c.loop-begun-test.true)
    (follows-next _ _ c.in_ok-statement.field-0 _ _ _ _ c.in_ok-statement.ensures (rw c.in-Return.is (follows-gives _ _ _ _ (ap Return (to_z-of_z w32 _ (search rules))) refl))))

pub turns-returns-in_err-all_simples : goal.turns-returns-in_err-all_simples
turns-returns-in_err-all_simples g t c =
    c.loop-begun.invariant _ _ (follows-as _ _ _ _ _ (turn_step c.args.here.now.turns c.loop-begun._begun _ _ _ c.loop-begun-test.true)
    (follows-next _ _ c.in_ok-statement.field-0 _ _ _ _ c.in_ok-statement.ensures (goes_on _ _ _ _ _ c.in-Normal.is
    (follows-and_exit _ _ _ _ _ _ c.from_residual-in_err-all_simples.ensures.1 c.in_err-all_simples.ensures))))

pub turns-returns-in_err-condition : goal.turns-returns-in_err-condition
turns-returns-in_err-condition g t c =
    c.loop-begun.invariant _ _ (follows-as _ _ _ _ _ (turn_step c.args.here.now.turns c.loop-begun._begun _ _ _ c.loop-begun-test.true)
    (follows-next _ _ c.in_ok-statement.field-0 _ _ _ _ c.in_ok-statement.ensures (goes_on _ _ _ _ _ c.in-Normal.is
    (follows-and _ _ c.in_ok-all_simples.field-0 _ _ _ _ c.in_ok-all_simples.ensures
    (follows-choosing_exit _ _ _ _ _ _ _ c.from_residual-in_err-condition.ensures.1 c.in_err-condition.ensures.follows)))))

pub turns-returns-then-not-holds : goal.turns-returns-then-not-holds
turns-returns-then-not-holds g t c =
    c.loop-begun.invariant _ _ (follows-as _ _ _ _ _ (turn_step c.args.here.now.turns c.loop-begun._begun _ _ _ c.loop-begun-test.true)
    (follows-next _ _ c.in_ok-statement.field-0 _ _ _ _ c.in_ok-statement.ensures (goes_on _ _ _ _ _ c.in-Normal.is
    (follows-and _ _ c.in_ok-all_simples.field-0 _ _ _ _ c.in_ok-all_simples.ensures
    (follows-fails _ _ _ c.in_ok-condition.field-0 _ _ _ _ c.in_ok-condition.ensures.follows
    (ap holds (sym (to_z-of_z w32 _ c.in_ok-condition.ensures.fits)) ∙ sym c.holds.ensures ∙ c.if-not-holds.true) (follows-gives _ _ _ _ refl refl))))))

pub turns-loop-begun-preserved : goal.turns-loop-begun-preserved
turns-loop-begun-preserved g t c = λ r after rest.
    c.loop-begun.invariant r after (follows-as _ _ _ _ _ (turn_step c.args.here.now.turns c.loop-begun._begun _ _ _ c.loop-begun-test.true)
    (follows-next _ _ c.in_ok-statement.field-0 _ _ _ _ c.in_ok-statement.ensures (goes_on _ _ _ _ _ c.in-Normal.is
    (follows-and _ _ c.in_ok-all_simples.field-0 _ _ _ _ c.in_ok-all_simples.ensures
    (follows-holds _ _ _ c.in_ok-condition.field-0 _ _ _ _ c.in_ok-condition.ensures.follows
    (ap holds (sym (to_z-of_z w32 _ c.in_ok-condition.ensures.fits)) ∙ sym c.holds.ensures ∙ c.if-not-holds.false) rest)))))

pub turns-returns : goal.turns-returns
turns-returns g t c = c.loop-begun.invariant _ _ (no_turn_left _ _ _ _ _ _ c.loop-begun-test.false)

pub statement-returns-in_ok-all_simples-in-For : goal.statement-returns-in_ok-all_simples-in-For
statement-returns-in_ok-all_simples-in-For g t c =
    rw (c.in-For.is, statement-For, ← c.as_slice.ensures, ← c.as_slice-in-For.ensures, ← c.written.ensures, ← c.get-in-For.ensures)
    (follows-and _ _ c.in_ok-all_simples-in-For.field-0 _ _ _ _ c.in_ok-all_simples-in-For.ensures c.looping-in-For.ensures)
