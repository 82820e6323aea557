-- Laws of accepted texts.
use Rattle.std.specs.Prelude.{◌≡◌, ℕ, List}
use Rattle.sat_compile.specs.Accepted.{IsAccepted}
use Rattle.sat_compile.specs.Causes.{MayShow}
use Rattle.sat_compile.specs.Source.{Source}

-- a text has at most one source
abbrev pub OneSource : Type 0
OneSource = (text : List ℕ) (p q : Source) → IsAccepted text p → IsAccepted text q → p ≡ q

-- no line refuses an accepted text
abbrev pub SourcesAreNotRefused : Type 0
SourcesAreNotRefused = (text line : List ℕ) (source : Source) → IsAccepted text source → MayShow text line → ⊥
