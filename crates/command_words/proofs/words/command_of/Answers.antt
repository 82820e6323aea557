use Rattle.std.proofs.Common.{map, string_bytes}
use Rattle.std.proofs.lemmas.List.Elements.{All-map}
use Rattle.command_words.specs.Command.{IsName}
use Rattle.command_words.proofs.Named.{each_named, named}
use Rattle.command_words.proofs.words.command_of.Goals as goal

pub returns-then-not-are_names-clause-none : goal.returns-then-not-are_names-clause-none
returns-then-not-are_names-clause-none c command asked =
    let are = c.are_names.ensures.1 (each_named string_bytes c.args.words.now (named (map string_bytes c.args.words.now) command asked)) in
    let are_not = c.if-not-are_names.true in
    absurd (cc)

pub row_in-requires : goal.row_in-requires
row_in-requires c = All-map IsName string_bytes c.args.words.now (c.are_names.ensures.0 c.if-not-are_names.false)
