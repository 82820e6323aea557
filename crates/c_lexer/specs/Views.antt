-- What the definitions see of the values of the code.
use Rattle.std.specs.Prelude.{◌≡◌, ℕ, Bool, if◌then◌else◌, ℤ, List, map, Option, Some, None, Result, MatchResult}
use Rattle.c_lexer.specs.declared.expression.Part.{Part as Borrowed}
use Rattle.c_lexer.specs.declared.names.Names.{Names}
use Rattle.c_lexer.specs.Expression.{Part}

abbrev pub part_of : Borrowed → Part
part_of p = record { kind = p.kind; bytes = p.bytes.now; spaced = p.spaced }

abbrev pub names_of : Names → List (List ℕ × ℤ)
names_of n = map (λ e. (e.0.now, e.1)) n.values.entries

-- a step to the next state, or none, unless memory is wanting
abbrev pub Steps : {A E : Type 0} → Option A → A → Result Bool E → Type 0
Steps o next r = MatchResult r (λ goes_on. o ≡ (if goes_on then Some next else None)) (λ _. Unit {0})
