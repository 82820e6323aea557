-- The next of several that are done one after the other.
use Rattle.std.proofs.Common.{◌≡◌, ℕ, ◌+◌, ◌<◌, List, length, drop, get_or, map, sym, ap, ◌∙◌}
use Rattle.std.proofs.lemmas.List.{at_drop_more}
use Rattle.source_runs.specs.Runs.{Run, ◌>>◌, all_of}
use Rattle.source_runs.proofs.Turning.{all_of-next}

pub all_of_step : {X : Type 0} (f : X → Run (Unit {0})) (xs : List X) (i : ℕ) (x : X) → i < length xs → x ≡ get_or xs i x
    → all_of (map f (drop i xs)) ≡ (f x >> all_of (map f (drop (i + 1) xs)))
all_of_step f xs i x within is =
    at_drop_more (λ ys. all_of (map f ys)) xs i x within
    ∙ all_of-next (f (get_or xs i x)) (map f (drop (i + 1) xs))
    ∙ ap (λ y. f y >> all_of (map f (drop (i + 1) xs))) (sym is)
