use Rattle.std.proofs.Common.{◌≡◌, true, false, not, sym, ap, ◌∙◌, to_z, of_z, w32}
use Rattle.std.proofs.lemmas.Int.{to_z-of_z}
use Rattle.std.specs.Option.{is_some}
use Rattle.c_lexer.specs.Names.{value_named, with_definition}
use Rattle.c_lexer.specs.Views.{names_of}
use Rattle.c_lexer.proofs.Defined.{defined_new, with_old}
use Rattle.c_lexer.proofs.names.Names.define.Goals as goal

pub returns-in_ok-insert : goal.returns-in_ok-insert
returns-in_ok-insert c =
    let none : is_some (value_named (names_of c.args.self.now) c.args.name.now) ≡ false = ap is_some (sym c.value_of.ensures) ∙ c.is_none.ensures ∙ ap not c.if-is_none.true in
    defined_new c.args.self.now.values.entries c.insert.new.self.entries c.args.name (to_z w32 (of_z w32 c.args.value)) none c.in_ok-insert.ensures.entries
    ∙ ap (λ v. with_definition (names_of c.args.self.now) c.args.name.now v) (to_z-of_z w32 c.args.value c.ranges.value)

pub returns-else-is_none : goal.returns-else-is_none
returns-else-is_none c =
    let some : is_some (value_named (names_of c.args.self.now) c.args.name.now) ≡ true = ap is_some (sym c.value_of.ensures) ∙ c.is_none.ensures ∙ ap not c.if-is_none.false in
    sym (with_old (names_of c.args.self.now) c.args.name.now c.args.value some)
