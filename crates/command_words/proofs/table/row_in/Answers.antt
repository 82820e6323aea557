use Rattle.std.proofs.Common.{◌≡◌, ◌∙◌, [], All, map, string_bytes, true, refl, sym, ap, subst, ⊎_elim}
use Rattle.std.proofs.lemmas.List.Elements.{All-tail}
use Rattle.clap.specs.Kinds.{IsAmong}
use Rattle.clap.specs.Faults.{fault_of, is_simple_and_free}
use Rattle.clap.specs.Simple.{App, app_of, is_simple, subcommand_of}
use Rattle.command_words.specs.Command.{IsName}
use Rattle.command_words.specs.Table.{table}
use Rattle.command_words.proofs.Readings.{read, passes}
use Rattle.command_words.proofs.table.row_in.Goals as goal

-- clap tells its matches and faults of such a table
simple : is_simple table ≡ true
simple = refl

simple_and_free : is_simple_and_free table ≡ true
simple_and_free = refl

pub returns-in-Ok-clause-found : goal.returns-in-Ok-clause-found
returns-in-Ok-clause-found c =
    let words = map string_bytes c.args.words.now in
    let is : app_of c.in_ok-table.table ≡ table = c.in_ok-table.ensures in
    let fine : fault_of table words ≡ [] = ap (λ (a : App). fault_of a words) (sym is) ∙ c.in-Ok.ensures.kinds (ap is_simple_and_free is ∙ simple_and_free) in
    let row = read words c.requires fine in
    record {
      verb = row.verb;
      rest = row.rest;
      are = row.are;
      read = (c.in-Ok.ensures.matches (ap is_simple is ∙ simple)).1 ∙ ap (λ (a : App). subcommand_of a words) is ∙ row.rows;
      named = All-tail IsName row.verb row.rest (subst (All IsName) row.are c.requires);
    }

pub returns : goal.returns
returns c =
    let words = map string_bytes c.args.words.now in
    let is : app_of c.in_ok-table.table ≡ table = c.in_ok-table.ensures in
    record {
      found = tt;
      none = λ command asked.
          let fine : fault_of (app_of c.in_ok-table.table) words ≡ [] = ap (λ (a : App). fault_of a words) is ∙ passes words command asked c.requires in
          ⊎_elim (λ memory. c.in_default.not-OutOfMemory (c.kind.ensures ∙ memory)) (λ among. subst (IsAmong _) fine among)
          (c.in-Err.ensures.kinds (ap is_simple_and_free is ∙ simple_and_free));
    }
