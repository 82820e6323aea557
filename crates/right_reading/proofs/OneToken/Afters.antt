-- Reading after a token that is ahead.
use Rattle.std.proofs.Common.{◌≡◌, Bool, true, false, List, refl}
use Rattle.std.specs.Prelude.{Ok, Err, if◌then◌else◌}
use Rattle.sat_base.specs.declared.name.At.{At}
use Rattle.c_grammar.specs.declared.symbol.Symbol.{Symbol}
use Rattle.c_grammar.specs.Spots.{Spot, here}
use Rattle.c_grammar.specs.Symbols.{same_symbol}
use Rattle.right_reading.specs.Lists.{after}
use Rattle.right_reading.specs.Stream.{ahead, rest, Parser, ◌>>=◌}

abbrev taken : Bool → Parser At
taken b i = if b then Ok (here i, rest i) else Err (record { deep = false; at = here i })

-- after a token that is ahead
pub after-taken : {A : Type 0} (s : Symbol) (p : Parser A) (i : List Spot) → same_symbol (ahead i) s ≡ true → after s p i ≡ p (rest i)
after-taken {A} s p i h = step (same_symbol (ahead i) s) h
  where
    step : (b : Bool) → b ≡ true → (taken b i >>= (λ x. p x.1)) ≡ p (rest i)
    step true e = refl
    step false e = cc
