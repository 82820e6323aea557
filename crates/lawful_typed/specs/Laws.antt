-- What is typed from the tokens of a text is lawful.
use Rattle.std.specs.Prelude.{ℕ, ◌≤◌, List, length}
use Rattle.sat_base.specs.declared.limits.TheConstants.{TOKENS}
use Rattle.c_lexer.specs.declared.token.Tokens.{Tokens}
use Rattle.c_lexer.specs.Text.{IsCut}
use Rattle.c_tree.specs.declared.program.Program.{Program}
use Rattle.c_grammar.specs.Programs.{Spells}
use Rattle.c_typed.specs.declared.typed.Typed.{Typed}
use Rattle.c_types.specs.Tied.{IsTied, IsTyped}
use Rattle.lawful_sources.specs.Lawful.{IsLawful}
use Rattle.lawful_objects.specs.Integers.{IntegersFit}
use Rattle.lawful_typed.specs.Numbers.{NumbersFit}

abbrev pub NumbersOfTextsFit : Type 0
NumbersOfTextsFit = (text : List ℕ) (tokens : Tokens) → IsCut text tokens → NumbersFit tokens

abbrev pub IntegersOfSourcesFit : Type 0
IntegersOfSourcesFit = (program : Program) (tokens : Tokens) → Spells program tokens → NumbersFit tokens → IntegersFit program

abbrev pub SitesAreFew : Type 0
SitesAreFew = (program : Program) (tokens : Tokens) (typed : Typed) → Spells program tokens → length tokens.list ≤ TOKENS → IsTied program typed → length typed.sites ≤ TOKENS

-- both that each number has 32 bits and that there are no more tokens, the lexer promises
abbrev pub TypedSourcesAreLawful : Type 0
TypedSourcesAreLawful =
    (program : Program) (tokens : Tokens) (typed : Typed) → Spells program tokens → NumbersFit tokens → length tokens.list ≤ TOKENS → IsTyped program typed → IsLawful typed
