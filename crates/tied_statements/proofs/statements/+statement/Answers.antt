use Rattle.std.proofs.Common.{◌≡◌, List, refl, sym, subst, ap, ◌∙◌, append_assoc}
use Rattle.tied_names.specs.Ties.{Here, here_of}
use Rattle.tied_statements.specs.Declarations.{with_objects, starts_in_lists}
use Rattle.tied_statements.specs.Statements.{Done, tied_statement, tied_block, tied_statements, tied_else}
use Rattle.c_tree.specs.declared.statement.Stmt.{Stmt}
use Rattle.c_typed.specs.declared.statement.TypedBlock.{TypedBlock}
use Rattle.tied_statements.proofs.Restored.{Extends, extends-itself, extends-objects, extends-lists, restored}
use Rattle.tied_statements.proofs.Statement_equations.{tied-If, block-parts}
use Rattle.tied_statements.proofs.statements.+statement.Goals as goal

pub block-returns-clause-after : goal.block-returns-clause-after
block-returns-clause-after t c =
    let before : Here = here_of c.args.ties.now in
    let begun : here_of c.starts.new.ties ≡ (starts_in_lists before c.args.inside.function c.args.block.now.objects).after = rw c.as_slice.ensures at c.in_ok-objects.ensures.after in
    let after : here_of c.statements.new.ties ≡ with_objects (here_of c.starts.new.ties) (tied_statements c.as_slice-2.result.now (here_of c.starts.new.ties) c.args.inside).objects = c.in_ok-stmts.ensures.after in
    let longer : Extends before (here_of c.statements.new.ties) =
    subst (Extends before) (sym (after ∙ ap (λ (h : Here). with_objects h (tied_statements c.as_slice-2.result.now (here_of c.starts.new.ties) c.args.inside).objects) begun))
    (extends-objects before _ _ (extends-lists before before c.args.inside.function c.args.block.now.objects (extends-itself before))) in
    let objects : c.statements.new.ties.objects ≡ (tied_block c.args.block.now before c.args.inside).objects =
    ap (λ (h : Here). h.objects) after ∙ ap (λ (h : Here). (tied_statements c.as_slice-2.result.now h c.args.inside).objects) begun
    ∙ ap (λ (l : List Stmt). (tied_statements l (starts_in_lists before c.args.inside.function c.args.block.now.objects).after c.args.inside).objects) c.as_slice-2.ensures
    ∙ sym (ap (λ (d : Done TypedBlock). d.objects) (block-parts c.args.block.now before c.args.inside)) in
    ap here_of c.leave.ensures ∙ restored before c.statements.new.ties c.len-len.result _ longer c.len-len.ensures objects

pub statement-returns-in_ok-no-in-If-clause-value : goal.statement-returns-in_ok-no-in-If-clause-value
statement-returns-in_ok-no-in-If-clause-value t c =
    rw (c.in_ok-no-in-If.ensures.value, c.in_ok-yes-in-If.ensures.after, c.in_ok-yes-in-If.ensures.value, c.in_ok-cond-in-If.ensures.value, c.get.ensures, c.get-in-If.ensures, c.in-If.is, tied-If) refl

pub statement-returns-in_ok-no-in-If-clause-notes : goal.statement-returns-in_ok-no-in-If-clause-notes
statement-returns-in_ok-no-in-If-clause-notes t c =
    rw (c.in_ok-no-in-If.ensures.notes, c.in_ok-yes-in-If.ensures.after, c.in_ok-yes-in-If.ensures.notes, c.in_ok-cond-in-If.ensures.notes, c.get.ensures, c.get-in-If.ensures, c.in-If.is, tied-If) (simp append_assoc refl)

pub statement-returns-in_ok-no-in-If-clause-after : goal.statement-returns-in_ok-no-in-If-clause-after
statement-returns-in_ok-no-in-If-clause-after t c =
    let before : Here = here_of c.args.ties.now in
    let objects : (tied_else c.in-If.no (with_objects before (tied_statement c.get-in-If.result.now before c.args.inside).objects) c.args.inside).objects ≡ (tied_statement c.args.stmt.now before c.args.inside).objects =
    rw (c.get-in-If.ensures, c.in-If.is, tied-If) refl in
    c.in_ok-no-in-If.ensures.after ∙ ap (λ (h : Here). with_objects h (tied_else c.in-If.no h c.args.inside).objects) c.in_ok-yes-in-If.ensures.after ∙ ap (with_objects before) objects
