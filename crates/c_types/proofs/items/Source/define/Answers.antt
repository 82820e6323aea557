use Rattle.std.proofs.Common.{◌≡◌, ℕ, List, ◌++◌, sym, subst, ap, ◌∙◌}
use Rattle.c_typed.specs.declared.statement.TypedBlock.{TypedBlock}
use Rattle.tied_names.specs.Ties.{Here, here_of}
use Rattle.tied_statements.specs.Declarations.{with_objects}
use Rattle.tied_statements.specs.Statements.{Done, tied_block}
use Rattle.tied_statements.proofs.Restored.{Extends, extends-itself, extends-objects, restored}
use Rattle.c_types.specs.Sources.{parameters_of, inside_of, defined, defining}
use Rattle.c_types.proofs.Restored.{extends-parameters, same-source}
use Rattle.c_types.proofs.items.Source.define.Goals as goal

pub returns : goal.returns
returns c =
    let before : Here = here_of c.args.self.now.ties in
    let begun : Here = (parameters_of before c.args.number c.args.function.now.params).after in
    let body : Here → Done TypedBlock = λ here. tied_block c.args.body.now here (inside_of c.args.number c.args.function.now) in
    let params : here_of c.parameters.new.ties ≡ begun = rw c.as_slice.ensures at c.in_ok-params.ensures.after in
    let after : here_of c.block.new.ties ≡ with_objects begun (body begun).objects =
    c.in_ok-body.ensures.after ∙ ap (λ (here : Here). with_objects here (body here).objects) params in
    let longer : Extends before (here_of c.block.new.ties) =
    subst (Extends before) (sym after) (extends-objects before begun (body begun).objects (extends-parameters before before c.args.number c.args.function.now.params (extends-itself before))) in
    let numbers : c.in_ok-params.params ≡ (parameters_of before c.args.number c.args.function.now.params).numbers = rw c.as_slice.ensures at c.in_ok-params.ensures.numbers in
    let value : c.in_ok-body.body ≡ (body begun).value = c.in_ok-body.ensures.value ∙ ap (λ (here : Here). (body here).value) params in
    same-source _ _ _ _ _ _
    (ap here_of c.leave.ensures ∙ restored before c.block.new.ties c.len-len.result (body begun).objects longer c.len-len.ensures (ap (λ (here : Here). here.objects) after))
    (c.complete.ensures ∙ ap (defining c.args.self.now.functions c.args.number)
    (c.in_ok-whole.ensures ∙ ap (λ (ps : List ℕ). defined c.args.function.now ps c.in_ok-body.body) numbers ∙ ap (defined c.args.function.now (parameters_of before c.args.number c.args.function.now.params).numbers) value))
    (c.in_ok-body.ensures.notes ∙ ap (λ (here : Here). c.args.self.now.notes.items ++ (body here).notes) params)
