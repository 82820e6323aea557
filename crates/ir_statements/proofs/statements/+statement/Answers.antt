use Rattle.source_trees.proofs.Statements.{statement-If, statement-Else, statement-While, statement-Do, statement-For}
use Rattle.ir_statements.proofs.statements.+statement.Goals as goal

pub statement-returns-in_ok-node-in-None-clause-tree : goal.statement-returns-in_ok-node-in-None-clause-tree
statement-returns-in_ok-node-in-None-clause-tree t c =
    rw (c.in-If.is, c.in-None.is, statement-If, ← c.get.ensures, ← c.get-in-If.ensures, ← c.in_ok-cond-in-If.ensures, ← c.in_ok-yes-in-If.ensures.tree) c.in_ok-node-in-None.ensures

pub statement-returns-in_ok-node-in-None-clause-loops : goal.statement-returns-in_ok-node-in-None-clause-loops
statement-returns-in_ok-node-in-None-clause-loops t c =
    rw (c.in-If.is, c.in-None.is, statement-If, ← c.get-in-If.ensures) c.in_ok-yes-in-If.ensures.loops

pub statement-returns-in_ok-node-in-Some-clause-tree : goal.statement-returns-in_ok-node-in-Some-clause-tree
statement-returns-in_ok-node-in-Some-clause-tree t c =
    rw (c.in-If.is, c.in-Some.is, statement-Else, ← c.get.ensures, ← c.get-in-If.ensures, ← c.get-in-Some.ensures, ← c.in_ok-cond-in-If.ensures, ← c.in_ok-yes-in-If.ensures.tree, ← c.in_ok-yes-in-If.ensures.loops, ← c.in_ok-no-in-Some.ensures.tree) c.in_ok-node-in-Some.ensures

pub statement-returns-in_ok-node-in-Some-clause-loops : goal.statement-returns-in_ok-node-in-Some-clause-loops
statement-returns-in_ok-node-in-Some-clause-loops t c =
    rw (c.in-If.is, c.in-Some.is, statement-Else, ← c.get-in-If.ensures, ← c.get-in-Some.ensures, ← c.in_ok-yes-in-If.ensures.loops) c.in_ok-no-in-Some.ensures.loops

pub statement-returns-in_ok-node-in-While-clause-tree : goal.statement-returns-in_ok-node-in-While-clause-tree
statement-returns-in_ok-node-in-While-clause-tree t c =
    rw (c.in-While.is, statement-While, ← c.get-in-While.ensures, ← c.get-in-While-2.ensures, ← c.in_ok-after-in-While.ensures, ← c.in_ok-cond-in-While.ensures, ← c.in_ok-inside-in-While.ensures.tree)
    (rw (c.in_ok-nothing-in-While.ensures, c.in_ok-nothing-in-While-2.ensures) at c.in_ok-node-in-While.ensures)

pub statement-returns-in_ok-node-in-While-clause-loops : goal.statement-returns-in_ok-node-in-While-clause-loops
statement-returns-in_ok-node-in-While-clause-loops t c =
    rw (c.in-While.is, statement-While, ← c.get-in-While-2.ensures, ← c.in_ok-after-in-While.ensures) c.in_ok-inside-in-While.ensures.loops

pub statement-returns-in_ok-node-in-Do-clause-tree : goal.statement-returns-in_ok-node-in-Do-clause-tree
statement-returns-in_ok-node-in-Do-clause-tree t c =
    rw (c.in-Do.is, statement-Do, ← c.get-in-Do.ensures, ← c.get-in-Do-2.ensures, ← c.in_ok-after-in-Do.ensures, ← c.in_ok-cond-in-Do.ensures, ← c.in_ok-inside-in-Do.ensures.tree)
    (rw (c.in_ok-nothing-in-Do.ensures, c.in_ok-nothing-in-Do-2.ensures) at c.in_ok-node-in-Do.ensures)

pub statement-returns-in_ok-node-in-Do-clause-loops : goal.statement-returns-in_ok-node-in-Do-clause-loops
statement-returns-in_ok-node-in-Do-clause-loops t c =
    rw (c.in-Do.is, statement-Do, ← c.get-in-Do.ensures, ← c.in_ok-after-in-Do.ensures) c.in_ok-inside-in-Do.ensures.loops

pub statement-returns-in_ok-node-in-For-clause-tree : goal.statement-returns-in_ok-node-in-For-clause-tree
statement-returns-in_ok-node-in-For-clause-tree t c =
    rw (c.in-For.is, statement-For, ← c.as_slice.ensures, ← c.as_slice-in-For.ensures, ← c.get-in-For.ensures, ← c.in_ok-after-in-For.ensures, ← c.in_ok-first-in-For.ensures, ← c.in_ok-cond-in-For.ensures, ← c.in_ok-last-in-For.ensures, ← c.in_ok-inside-in-For.ensures.tree) c.in_ok-node-in-For.ensures

pub statement-returns-in_ok-node-in-For-clause-loops : goal.statement-returns-in_ok-node-in-For-clause-loops
statement-returns-in_ok-node-in-For-clause-loops t c =
    rw (c.in-For.is, statement-For, ← c.get-in-For.ensures, ← c.in_ok-after-in-For.ensures) c.in_ok-inside-in-For.ensures.loops
