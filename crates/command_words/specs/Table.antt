-- The table of commands, as clap is told of it, and what clap makes of a row.
use Rattle.std.specs.Prelude.{◌≡◌, ℕ, List, [], ◌∷◌, Some, None, true, false, map, codes, All}
use Rattle.clap.specs.Words.{App, Row, Rule, Shape, new_rule, reading_of, subcommand_rows_of}
use Rattle.clap.specs.Simple.{new_shape}
use Rattle.clap.specs.declared.builder.action.ArgAction.TheVariants.{Set}
use Rattle.clap.specs.declared.builder.command.Command.{Command}
use Rattle.clap.specs.declared.builder.command.Command.TheViews.{out-Command}
use Rattle.clap.specs.declared.builder.value_parser.ValueParser.TheVariants as parser
use Rattle.clap.specs.declared.parser.matches.ArgMatches.{ArgMatches}
use Rattle.clap.specs.declared.parser.matches.ValueSource.TheVariants.{CommandLine}
use Rattle.command_words.specs.Command.{IsName}

-- each verb, and how many words come after it
abbrev pub rows : List (List ℕ × ℕ)
rows = (codes "build", 2) ∷ (codes "run-image", 4) ∷ (codes "run-source", 4) ∷ []

-- the words after a verb, so many of them, under the name by which clap keeps them
abbrev pub words_rule : ℕ → Rule
words_rule count = record (new_rule (codes "words")) {
  action = Some Set;
  required = true;
  range = Some (record { start_inclusive = count; end_inclusive = count });
}

abbrev pub row_shape : List ℕ × ℕ → Shape
row_shape row = record (new_shape row.0) { rules = words_rule row.1 ∷ [] }

-- no other command takes an argument of this one
abbrev pub IsLocal : Command → Type 0
IsLocal command = (out-Command command).has_globals ≡ false

-- one of the rows is asked for, and nothing else: there is no flag, and no word that asks for help
abbrev pub table : App
table = record {
  top = record (new_shape (codes "satc")) {
    is_leaf = false;
    no_binary_name = true;
    disable_help_flag = true;
    disable_help_subcommand = true;
    subcommand_required = true;
  };
  subs = map row_shape rows;
}

-- what clap keeps of the words after a verb
abbrev pub row_read : List (List ℕ) → Row
row_read rest = record {
  id = codes "words";
  values = rest;
  count = None;
  source = Some CommandLine;
  reading = reading_of parser.String;
}

-- clap read these words as a verb, and the names after it
pub record IsRow (words : List (List ℕ)) (matches : ArgMatches) : Type 0 where
  pub verb : List ℕ
  pub rest : List (List ℕ)
  pub are : words ≡ verb ∷ rest
  pub read : subcommand_rows_of matches ≡ Some (verb, row_read rest ∷ [])
  pub named : All IsName rest
