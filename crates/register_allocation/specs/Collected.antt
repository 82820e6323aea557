-- What the numbers below some number give, in their order.
use Rattle.std.specs.Prelude.{ℕ, zero, suc, List, [], ◌∷◌, ◌++◌, Option, Some, None}

abbrev pub one_or_none : {A : Type 0} → Option A → List A
one_or_none (Some x) = x ∷ []
one_or_none None = []

abbrev pub collected : {A : Type 0} → (ℕ → Option A) → ℕ → List A
collected given zero = []
collected given (suc number) = collected given number ++ one_or_none (given number)
