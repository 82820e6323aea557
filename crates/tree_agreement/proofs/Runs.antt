-- Runs that are put together in one way or the other.
use Rattle.std.proofs.Common.{◌≡◌, refl}
use Rattle.source_runs.specs.Runs.{Run, Outcome, Gives, Stops, Goes, gives, continued, ◌>>=◌}

last : {A : Type 0} (outcome : Outcome A) → continued outcome (λ x. gives x) ≡ outcome
last (Gives a s) = refl
last (Stops site s) = refl
last (Goes s) = refl

-- what a run gives is given again
pub gives_last : {A : Type 0} (run : Run A) → (run >>= (λ x. gives x)) ≡ run
unfolding ◌>>=◌
gives_last run = λ i s. last (run s) i

again : {A B C : Type 0} (f : A → Run B) (g : B → Run C) (outcome : Outcome A) → continued (continued outcome f) g ≡ continued outcome (λ x. f x >>= g)
unfolding ◌>>=◌
again f g (Gives a s) = refl
again f g (Stops site s) = refl
again f g (Goes s) = refl

-- one after the other
pub regrouped : {A B C : Type 0} (run : Run A) (f : A → Run B) (g : B → Run C) → (run >>= f >>= g) ≡ (run >>= (λ x. f x >>= g))
unfolding ◌>>=◌
regrouped run f g = λ i s. again f g (run s) i
