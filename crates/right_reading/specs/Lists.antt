-- Reading one thing after another.
use Rattle.std.specs.Prelude.{ℕ, zero, suc, Bool, if◌then◌else◌, List, [], ◌∷◌, ◌++◌, length, Ok}
use Rattle.c_grammar.specs.declared.symbol.Symbol.{Symbol}
use Rattle.c_grammar.specs.declared.symbol.Symbol.TheVariants as symbol
use Rattle.right_reading.specs.Stream.{ahead, Parser, ◌>>=◌, take_at}
use Rattle.c_grammar.specs.Symbols.{same_symbol}

-- after this token
abbrev pub after : {A : Type 0} → Symbol → Parser A → Parser A
after s p i = take_at s i >>= (λ x. p x.1)

-- one after another while what is ahead goes on with them; the number is more than there may be
unfoldable pub many : {A : Type 0} → (Symbol → Bool) → Parser A → ℕ → List A → Parser (List A)
many goes item zero xs i = Ok (xs, i)
many goes item (suc fuel) xs i = if goes (ahead i) then item i >>= (λ x. many goes item fuel (xs ++ x.0 ∷ []) x.1) else Ok (xs, i)

abbrev pub is_comma : Symbol → Bool
is_comma s = same_symbol s symbol.Comma

-- these, and what follows them, each after a comma
abbrev pub more_listed : {A : Type 0} → Parser A → List A → Parser (List A)
more_listed p xs i = many is_comma (after symbol.Comma p) (suc (length i)) xs i

-- one or more, with commas between them
abbrev pub listed_at : {A : Type 0} → Parser A → Parser (List A)
listed_at p i = p i >>= (λ x. more_listed p (x.0 ∷ []) x.1)
