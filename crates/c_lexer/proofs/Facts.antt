-- Facts on single steps.
use Rattle.std.proofs.Common.{◌≡◌, ℕ, cond, codes, Bool, true, false, List, [], ◌∷◌, ◌++◌, Option, Some, None, ℤ, refl, arith}
use Rattle.std.specs.Int.{w32}
use Rattle.std.specs.Int.RustNames.{FitsSigned}
use Rattle.std.proofs.lemmas.Int.{ints}
use Rattle.std.specs.Option.{SomeIff}
use Rattle.std.specs.Str.{bytes_eq}
use Rattle.c_lexer.specs.Expression.{Part, within, split_last, expression_value}
use Rattle.c_lexer.specs.Directive.{bracketed_value}

pub within_from : (r : Option ℤ) (z : ℤ) → SomeIff r (FitsSigned w32 z) z → r ≡ within z
within_from (Some v) z h = grind (arith, ints)
within_from None z h = grind (arith, ints)

pub split_last_snoc : {X : Type 0} (xs : List X) (x : X) → split_last (xs ++ x ∷ []) ≡ Some (xs, x)
unfolding split_last
split_last_snoc [] x = refl
split_last_snoc (y ∷ ys) x = rw (split_last_snoc ys x) refl

pub split_last_none : {X : Type 0} (xs : List X) → xs ≡ [] → split_last xs ≡ None
unfolding split_last
split_last_none xs empty = rw empty refl

-- the value in brackets, where the last part is known
pub bracketed_yes : (names : List (List ℕ × ℤ)) (first : Part) (inner : List Part) (last : Part) (rest : List Part) → rest ≡ inner ++ last ∷ []
    → bytes_eq first.bytes (codes "(") ≡ true → bytes_eq last.bytes (codes ")") ≡ true → bracketed_value names first rest ≡ expression_value names inner
unfolding bracketed_value
bracketed_yes names first inner last rest e opened closed = rw (e, split_last_snoc inner last, opened, closed) refl

pub bracketed_no : (names : List (List ℕ × ℤ)) (first : Part) (inner : List Part) (last : Part) (rest : List Part) → rest ≡ inner ++ last ∷ []
    → bytes_eq first.bytes (codes "(") ≡ true → bytes_eq last.bytes (codes ")") ≡ false → bracketed_value names first rest ≡ None
unfolding bracketed_value
bracketed_no names first inner last rest e opened other = rw (e, split_last_snoc inner last, opened, other) refl

pub bracketed_none : (names : List (List ℕ × ℤ)) (first : Part) (rest : List Part) → rest ≡ [] → bracketed_value names first rest ≡ None
unfolding bracketed_value split_last
bracketed_none names first rest e = rw e (by (bytes_eq first.bytes (codes "("))) where
  by : (b : Bool) → cond {A = Option ℤ} b None None ≡ None
  by true = refl
  by false = refl
