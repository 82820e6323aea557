-- What the grammar gives of what is lawful: laws of every source that tokens spell.
use Rattle.std.specs.Prelude.{◌≡◌, ℕ, [], flat_map, map, Some}
use Rattle.c_lexer.specs.declared.token.Tokens.{Tokens}
use Rattle.c_tree.specs.declared.program.Program.{Program}
use Rattle.c_grammar.specs.Programs.{Spells}
use Rattle.c_typed.specs.declared.typed.Typed.{Typed}
use Rattle.c_types.specs.Tied.{IsTied, IsTyped}
use Rattle.lawful_sources.specs.Lawful.{StandsOnce, definition_token, constants_standing, definitions_in, distinct_after}
use Rattle.lawful_sources.specs.Statements.{in_function}
use Rattle.lawful_laws.specs.Laws.{HasOwnTokens}
use Rattle.lawful_names.specs.Spelled.{AllSpelled}

-- the grammar allows an array whose length is no constant of at least 1, and one without a length or a list: these are faults
abbrev pub TextsAreSpelled : Type 0
TextsAreSpelled = (program : Program) (tokens : Tokens) (typed : Typed) → Spells program tokens → IsTyped program typed → AllSpelled program

abbrev pub SitesHaveOwnTokens : Type 0
SitesHaveOwnTokens = (program : Program) (tokens : Tokens) (typed : Typed) → Spells program tokens → IsTied program typed → HasOwnTokens typed

abbrev pub DefinitionsDiffer : Type 0
DefinitionsDiffer =
    (program : Program) (tokens : Tokens) (typed : Typed) → Spells program tokens → IsTied program typed → (token : ℕ) → StandsOnce (map definition_token typed.functions) (Some token)

abbrev pub ConstantsStand : Type 0
ConstantsStand = (program : Program) (tokens : Tokens) (typed : Typed) → Spells program tokens → IsTyped program typed
    → typed.constants ≡ distinct_after [] (constants_standing (flat_map (in_function typed) (definitions_in typed.functions)))
