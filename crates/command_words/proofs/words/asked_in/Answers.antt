use Rattle.std.proofs.Common.{◌≡◌, ◌∙◌, List, [], ◌∷◌, Option, Some, None, IfSome, IfNone, All, option_map, codes, sym, ap, ap₂, subst, refl}
use Rattle.std.specs.Box.{box_value}
use Rattle.clap.specs.Matches.{found_of, matched_of, raw_values, subcommand_name_of}
use Rattle.clap.specs.Walk.{Row, Text, all_of, rows_of}
use Rattle.clap.specs.Simple.{subcommand_rows, subcommand_rows_of}
use Rattle.clap.specs.declared.parser.matches.ArgMatches.{ArgMatches}
use Rattle.clap.specs.declared.parser.matches.ArgMatches.TheViews.{out-ArgMatches, out-SubCommand}
use Rattle.clap.specs.declared.parser.matches.Found.{Found}
use Rattle.clap.proofs.WalkLemmas.{raw_values-rows}
use Rattle.command_words.specs.declared.words.Command.{Command}
use Rattle.command_words.specs.Command.{IsCommand, IsName, IsNoCommand}
use Rattle.command_words.specs.Table.{row_read}
use Rattle.command_words.specs.Words.{asked_by}
use Rattle.command_words.proofs.words.asked_in.Goals as goal

some_same : {X : Type 0} (a b : X) → Some a ≡ Some b → a ≡ b
some_same a b same = cc

-- the verb is the name of the subcommand
name_of : (m : ArgMatches) → subcommand_name_of m ≡ option_map (λ p. p.0) (subcommand_rows_of m)
name_of m = elim (out-ArgMatches m).subcommand as (λ o. option_map (λ b. (out-SubCommand (box_value b)).name.now) o ≡ option_map (λ p. p.0) (subcommand_rows o)) [
  | None ↦ refl
  | Some b ↦ refl
]

verb_read : (m : ArgMatches) (verb name : Text) (rows : List Row) → subcommand_rows_of m ≡ Some (verb, rows) → Some name ≡ subcommand_name_of m → name ≡ verb
verb_read m verb name rows read is = some_same name verb (is ∙ name_of m ∙ ap (option_map (λ (p : Text × List Row). p.0)) read)

-- and the words after it are its values
values_read : (m : ArgMatches) (f : Found) (verb : Text) (rest : List Text) → subcommand_rows_of m ≡ Some (verb, row_read rest ∷ [])
    → Some (rows_of f) ≡ option_map (λ (p : Text × List Row). p.1) (subcommand_rows_of m) → option_map raw_values (matched_of f (codes "words")) ≡ Some rest
values_read m f verb rest read is =
    let rows = some_same (rows_of f) (row_read rest ∷ []) (is ∙ ap (option_map (λ (p : Text × List Row). p.1)) read) in
    raw_values-rows f (codes "words") ∙ ap (all_of (codes "words")) rows

found_in : (r : Option Command) (words : List Text) (verb : Text) (values : List Text) → words ≡ verb ∷ values → All IsName values
    → IfSome r (λ command. All IsName values → IsCommand (verb ∷ values) (asked_by command)) → IfSome r (λ command. IsCommand words (asked_by command))
found_in None words verb values are named is = tt
found_in (Some command) words verb values are named is = subst (λ (w : List Text). IsCommand w (asked_by command)) (sym are) (is named)

pub returns-in_err-get_strs-clause-none : goal.returns-in_err-get_strs-clause-none
returns-in_err-get_strs-clause-none c = λ words row.
    let values = values_read c.args.row.now (found_of c.in_ok-verb.rest.now) row.verb row.rest row.read c.in_ok-verb.ensures.rows in
    let none = c.in_err-get_strs.ensures in
    absurd (cc)

pub returns-clause-found : goal.returns-clause-found
returns-clause-found c = λ words row.
    let verb = verb_read c.args.row.now row.verb c.in_ok-verb.verb.now (row_read row.rest ∷ []) row.read c.in_ok-verb.ensures.name in
    let values = some_same _ row.rest (c.in_ok-get_strs.ensures ∙ values_read c.args.row.now (found_of c.in_ok-verb.rest.now) row.verb row.rest row.read c.in_ok-verb.ensures.rows) in
    found_in c.asked.result words _ _ (row.are ∙ sym (ap₂ ◌∷◌ verb values)) (subst (All IsName) (sym values) row.named) c.asked.ensures.found

pub returns-clause-none : goal.returns-clause-none
returns-clause-none c = λ words row.
    let verb = verb_read c.args.row.now row.verb c.in_ok-verb.verb.now (row_read row.rest ∷ []) row.read c.in_ok-verb.ensures.name in
    let values = some_same _ row.rest (c.in_ok-get_strs.ensures ∙ values_read c.args.row.now (found_of c.in_ok-verb.rest.now) row.verb row.rest row.read c.in_ok-verb.ensures.rows) in
    subst (λ (w : List Text). IfNone c.asked.result (IsNoCommand w)) (sym (row.are ∙ sym (ap₂ ◌∷◌ verb values))) c.asked.ensures.none
