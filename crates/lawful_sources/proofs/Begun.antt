-- Things that begin nothing.
use Rattle.std.proofs.Common.{◌≡◌, ℕ, List, [], ◌∷◌, ◌++◌, Bool, true, false, refl}
use Rattle.std.proofs.lemmas.Bool.{and_parts}
use Rattle.lawful_sources.specs.Things.{Thing}
use Rattle.lawful_sources.specs.Objects.{begun, begun_in}
use Rattle.lawful_sources.proofs.Passing.{Each, PassesExpressions}

abbrev is_nothing : List ℕ → Bool
is_nothing [] = true
is_nothing (x ∷ rest) = false

abbrev pub begins_nothing : Thing → Bool
begins_nothing thing = is_nothing (begun thing)

none-before : (xs ys : List ℕ) → is_nothing xs ≡ true → ys ≡ [] → xs ++ ys ≡ []
none-before [] ys p q = q
none-before (x ∷ xs) ys p q = cc

pub none-begun : (things : List Thing) → Each begins_nothing things → begun_in things ≡ []
none-begun [] p = refl
none-begun (thing ∷ rest) p = let both = and_parts (begins_nothing thing) _ p.all in none-before (begun thing) _ both.0 (none-begun rest (record { all = both.1 }))

pub expressions-begin-nothing : PassesExpressions begins_nothing
expressions-begin-nothing = record {
  places = λ object marks aim. refl;
  calls = λ callee arguments is_needed. refl;
  arguments = λ is_view taken. refl;
  marks = λ at site kind. refl;
  conversions = λ is due. refl;
  constants = λ value. refl;
}
