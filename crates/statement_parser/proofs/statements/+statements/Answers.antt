-- The loop over the statements of a block goes on as reading does, and what begins with no word is an assignment, a step or a call.
use Rattle.std.proofs.Common.{◌≡◌, suc, ◌-◌, List, sym, ◌∙◌, ap, subst, arith}
use Rattle.std.specs.Prelude.{not, Result}
use Rattle.c_tree.specs.declared.statement.Stmt.{Stmt}
use Rattle.c_grammar.specs.declared.symbol.Symbol.TheVariants as symbol
use Rattle.c_grammar.specs.Spots.{Spot}
use Rattle.right_reading.specs.Lists.{many}
use Rattle.right_reading.specs.ReadDeclarations.{objects_at}
use Rattle.right_reading.specs.ReadStatements.{no_brace, statement_with}
use Rattle.right_reading.specs.Stream.{Fault}
use Rattle.token_reader.specs.Gives.{Gives}
use Rattle.token_reader.proofs.Loops.{gives_refusal, turned, failed, stopped, ended, many_on, many_over, many_none}
use Rattle.statement_parser.proofs.Beginnings.{simple_below, gives_statement}
use Rattle.statement_parser.proofs.statements.+statements.Goals as goal

pub statement-returns-in_default : goal.statement-returns-in_default
statement-returns-in_default t c =
    let below : c.args.limit ≡ suc (c.args.limit - 1) = omega (arith, c.if-limit-eq0.false) in
    let same = simple_below objects_at c.args.limit (c.args.limit - 1) c.args.reader.now c.ahead-symbol.result below c.ahead-symbol.ensures c.in_default.not-If c.in_default.not-While c.in_default.not-Do c.in_default.not-For
    c.in_default.not-Break c.in_default.not-Continue c.in_default.not-Return c.in_default.not-OpenBrace c.in_default.not-Semicolon in
    subst (λ (y : Result (Stmt × List Spot) Fault). Gives y c.simple_statement.result c.simple_statement.new.reader) same c.simple_statement.ensures

pub statements-returns-in_err-statement : goal.statements-returns-in_err-statement
statements-returns-in_err-statement t c =
    let item = statement_with objects_at c.args.limit in
    let on = ap no_brace (sym c.ahead.ensures) ∙ ap not (sym c.is.ensures ∙ c.if-is.false) in
    gives_refusal c.from_residual.result c.in_err-statement.field-0.0 _ _ c.from_residual.ensures.1
    (failed (many no_brace item) item _ _ c.loop-turn._turn c.loop-turn.stmts c.loop-turn.reader c.loop-turn.invariant c.loop-turn-test.true (many_on no_brace item c.loop-turn.stmts c.loop-turn.reader on) c.in_err-statement.field-0.0 c.in_err-statement.ensures)

pub statements-loop-turn-preserved : goal.statements-loop-turn-preserved
statements-loop-turn-preserved t c =
    let item = statement_with objects_at c.args.limit in
    let on = ap no_brace (sym c.ahead.ensures) ∙ ap not (sym c.is.ensures ∙ c.if-is.false) in
    rw c.in_ok-push.ensures.ok
    (turned (many no_brace item) item _ _ c.loop-turn._turn c.loop-turn.stmts c.loop-turn.reader c.loop-turn.invariant c.loop-turn-test.true (many_on no_brace item c.loop-turn.stmts c.loop-turn.reader on) _ _ c.in_ok-statement.ensures)

pub statements-returns-then-is : goal.statements-returns-then-is
statements-returns-then-is t c =
    let item = statement_with objects_at c.args.limit in
    let over = ap no_brace (sym c.ahead.ensures) ∙ ap not (sym c.is.ensures ∙ c.if-is.true) in
    stopped (many no_brace item) item _ _ c.loop-turn._turn c.loop-turn.stmts c.loop-turn.reader c.loop-turn.invariant c.loop-turn.reader (many_over no_brace item c.loop-turn.stmts c.loop-turn.reader over) c.loop-turn-test.true

pub statements-returns : goal.statements-returns
statements-returns t c =
    let item = statement_with objects_at c.args.limit in
    ended (many no_brace item) item _ _ c.loop-turn._turn c.loop-turn.stmts c.loop-turn.reader c.loop-turn.invariant c.loop-turn-test.false (many_none no_brace item c.loop-turn.stmts c.loop-turn.reader)

pub statement-returns-in-If : goal.statement-returns-in-If
statement-returns-in-If t c =
    gives_statement c.args.limit c.args.reader.now symbol.If c.if_statement.result c.if_statement.new.reader c.if-limit-eq0.false (sym c.in-If.is ∙ c.ahead-symbol.ensures) c.if_statement.ensures

pub statement-returns-in-While : goal.statement-returns-in-While
statement-returns-in-While t c =
    gives_statement c.args.limit c.args.reader.now symbol.While c.while_statement.result c.while_statement.new.reader c.if-limit-eq0.false (sym c.in-While.is ∙ c.ahead-symbol.ensures) c.while_statement.ensures

pub statement-returns-in-Do : goal.statement-returns-in-Do
statement-returns-in-Do t c =
    gives_statement c.args.limit c.args.reader.now symbol.Do c.do_statement.result c.do_statement.new.reader c.if-limit-eq0.false (sym c.in-Do.is ∙ c.ahead-symbol.ensures) c.do_statement.ensures

pub statement-returns-in-For : goal.statement-returns-in-For
statement-returns-in-For t c =
    gives_statement c.args.limit c.args.reader.now symbol.For c.for_statement.result c.for_statement.new.reader c.if-limit-eq0.false (sym c.in-For.is ∙ c.ahead-symbol.ensures) c.for_statement.ensures

pub statement-returns-in-Break : goal.statement-returns-in-Break
statement-returns-in-Break t c =
    gives_statement c.args.limit c.args.reader.now symbol.Break c.break_statement.result c.break_statement.new.reader c.if-limit-eq0.false (sym c.in-Break.is ∙ c.ahead-symbol.ensures) c.break_statement.ensures

pub statement-returns-in-Continue : goal.statement-returns-in-Continue
statement-returns-in-Continue t c =
    gives_statement c.args.limit c.args.reader.now symbol.Continue c.continue_statement.result c.continue_statement.new.reader c.if-limit-eq0.false (sym c.in-Continue.is ∙ c.ahead-symbol.ensures) c.continue_statement.ensures

pub statement-returns-in-Return : goal.statement-returns-in-Return
statement-returns-in-Return t c =
    gives_statement c.args.limit c.args.reader.now symbol.Return c.return_statement.result c.return_statement.new.reader c.if-limit-eq0.false (sym c.in-Return.is ∙ c.ahead-symbol.ensures) c.return_statement.ensures
