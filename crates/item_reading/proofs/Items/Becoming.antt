-- What is read, seen as something else whose parts stand for its own.
use Rattle.std.proofs.Common.{◌≡◌, ℕ, Bool, List, ◌++◌}
use Rattle.c_grammar.specs.declared.symbol.Symbol.{Symbol}
use Rattle.c_grammar.specs.Parts.{Part}
use Rattle.c_grammar.specs.Spelling.{Spells}
use Rattle.c_grammar.specs.Spots.{Spot}
use Rattle.right_reading.proofs.Composed.Inlined.{Becomes}
use Rattle.right_reading.specs.Right.{first, Stops}
use Rattle.right_reading.proofs.Composed.Steps.{Seen}

-- x is an mk, and its parts are spelled by the same tokens
pub record Back {A X : Type 0} (of_a : A → List Part) (stops_a : A → Symbol → Bool) (mk : A → X) (x : X) (d : ℕ) (v s : List Spot) : Type 0 where
  pub a : A
  pub same : x ≡ mk a
  pub spelled : Spells (of_a a) d v
  pub stops : Stops stops_a a s

pub becoming : {A X : Type 0} (of_a : A → List Part) (of_x : X → List Part) (limit : ℕ) (stops_a : A → Symbol → Bool) (stops_x : X → Symbol → Bool) (before i : List Spot) (mk : A → X)
    → ((a : A) → Becomes (of_a a) (of_x (mk a)))
    → ((x : X) (d : ℕ) (v s r : List Spot) → Spells (of_x x) d v → Stops stops_x x s → v ++ s ≡ before ++ r → first r ≡ first i → Back of_a stops_a mk x d v s)
    → Seen of_a of_x limit limit stops_a stops_x before i mk
becoming of_a of_x limit stops_a stops_x before i mk becomes back = record {
  forth = λ a c u sp. (c, (becomes a).spelled c u sp, λ le. le);
  front = λ a c u f. (c, (becomes a).front c u f, λ lt. lt);
  back = λ x d v s r sp st e h. let k = back x d v s r sp st e h in (k.a, d, k.same, k.spelled, k.stops, λ lt. lt);
}
