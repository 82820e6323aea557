use Rattle.std.proofs.Common.{sym, ap, ◌∙◌}
use Rattle.std.proofs.lemmas.Option.{none-some}
use Rattle.first_form.specs.Finding.{items_of}
use Rattle.first_form.proofs.Statements.{items_sound, items_complete}
use Rattle.first_form.proofs.form.first_of.Goals as goal

pub returns-in_default-clause-none : goal.returns-in_default-clause-none
returns-in_default-clause-none c _ first is =
    let none = sym (ap items_of c.as_slice.ensures) ∙ sym c.in_ok-outs.ensures ∙ c.in_default.is in
    none-some first.outs (sym none ∙ items_complete c.args.program.now.items first.outs is)

pub returns-clause-found : goal.returns-clause-found
returns-clause-found c =
    items_sound c.args.program.now.items c.in-Some.outs (sym (ap items_of c.as_slice.ensures) ∙ sym c.in_ok-outs.ensures ∙ c.in-Some.is)
