-- What is proved of reading one token.
use Rattle.std.specs.Prelude.{◌≢◌, ℕ, ℤ, [], ◌∷◌}
use Rattle.sat_base.specs.declared.name.At.{At}
use Rattle.sat_base.specs.declared.name.Named.{Named}
use Rattle.c_grammar.specs.declared.symbol.Symbol.{Symbol}
use Rattle.c_grammar.specs.declared.symbol.Symbol.TheVariants.{End}
use Rattle.c_grammar.specs.Parts.{kept, called, valued}
use Rattle.right_reading.specs.Right.{Reads, always}
use Rattle.right_reading.specs.Stream.{take_at, name_at, number_at}

pub record RightTokens (n : ℕ) : Type 0 where
  pub taken : (s : Symbol) → s ≢ End → Reads (λ (at : At). kept s at ∷ []) n always (take_at s)
  pub name : Reads (λ (name : Named). called name ∷ []) n always name_at
  pub number : Reads (λ (x : At × ℤ). valued x.0 x.1 ∷ []) n always number_at

-- single tokens are read rightly, whatever the limit
abbrev pub TokensAreRead : Type 0
TokensAreRead = (n : ℕ) → RightTokens n
