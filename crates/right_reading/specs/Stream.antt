-- What is ahead in the tokens that are not read yet, which end with one that stands for the end.
use Rattle.std.specs.Prelude.{ℤ, pos, Bool, true, false, List, [], ◌∷◌, Result, Ok, Err, if◌then◌else◌}
use Rattle.sat_base.specs.declared.name.At.{At}
use Rattle.sat_base.specs.declared.name.Named.{Named}
use Rattle.c_grammar.specs.declared.symbol.Symbol.{Symbol}
use Rattle.c_grammar.specs.declared.symbol.Symbol.TheVariants.{End}
use Rattle.c_grammar.specs.declared.symbol.Symbol.TheVariants as symbol
use Rattle.c_grammar.specs.Spots.{Spot, here}
use Rattle.c_grammar.specs.Symbols.{same_symbol}

-- what the first token is to the grammar
abbrev pub ahead : List Spot → Symbol
ahead [] = End
ahead (x ∷ xs) = x.symbol

-- where reading stops, and whether it is for want of depth
pub record Fault : Type 0 where
  pub deep : Bool
  pub at : At

infixl 10 ◌>>=◌
abbrev pub ◌>>=◌ : {A B : Type 0} → Result A Fault → (A → Result B Fault) → Result B Fault
(Ok x) >>= f = f x
(Err e) >>= f = Err e

-- what is read at the front of the tokens, and the tokens after it
abbrev pub Parser : Type 0 → Type 0
Parser A = List Spot → Result (A × List Spot) Fault

-- one after the other
abbrev pub both : {A B : Type 0} → Parser A → Parser B → Parser (A × B)
both p q i = p i >>= (λ x. q x.1 >>= (λ y. Ok ((x.0, y.0), y.1)))

-- what is read, seen by a function
abbrev pub mapped : {A B : Type 0} → (A → B) → Parser A → Parser B
mapped f p i = p i >>= (λ x. Ok (f x.0, x.1))

-- ---- one token

abbrev pub first_or_end : List Spot → Spot
first_or_end [] = record { at = record { tok = 0; pos = record { line = 1; col = 1 } }; symbol = End; name = []; value = pos 0 }
first_or_end (x ∷ xs) = x

-- the tokens after the first
abbrev pub rest : List Spot → List Spot
rest [] = []
rest (x ∷ xs) = xs

-- nothing is read: no source goes on with the token ahead, or each that does is too deep
abbrev pub syntax_at : {A : Type 0} → List Spot → Result A Fault
syntax_at i = Err (record { deep = false; at = here i })

abbrev pub too_deep_at : {A : Type 0} → List Spot → Result A Fault
too_deep_at i = Err (record { deep = true; at = here i })

-- where no node may stand: too deep where one begins with the token ahead
abbrev pub refuse_at : {A : Type 0} → Bool → List Spot → Result A Fault
refuse_at begins i = Err (record { deep = begins; at = here i })

abbrev pub pass_at : Parser At
pass_at i = Ok (here i, rest i)

abbrev pub take_at : Symbol → Parser At
take_at s i = if same_symbol (ahead i) s then Ok (here i, rest i) else syntax_at i

abbrev pub name_at : Parser Named
name_at i = if same_symbol (ahead i) symbol.Name then Ok (record { at = here i; name = (first_or_end i).name }, rest i) else syntax_at i

abbrev pub number_at : Parser (At × ℤ)
number_at i = if same_symbol (ahead i) symbol.Int then Ok ((here i, (first_or_end i).value), rest i) else syntax_at i
