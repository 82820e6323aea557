-- That code follows a run: one lemma for each way in which runs are put together.
use Rattle.std.proofs.Common.{◌≡◌, ℕ, List, Bool, true, false, refl, sym, subst, ap, ◌∙◌}
use Rattle.std.specs.Prelude.{Result, Ok, Err, Option, Some, None, ℤ}
use Rattle.std.specs.Option.{ok_or}
use Rattle.std.specs.Result.{IsErrAnd}
use Rattle.source_runs.specs.declared.halt.Halt.{Halt}
use Rattle.source_runs.specs.declared.halt.Halt.TheVariants.{Memory, Stopped, Going}
use Rattle.source_runs.specs.State.{Kept}
use Rattle.source_runs.specs.Runs.{Run, Outcome, Gives, Stops, Goes, gives, continued, ◌>>=◌, ◌>>◌, reading, changing, at_site, found, chosen, choosing, holds}
use Rattle.source_runs.specs.Follows.{Matches, Follows}

-- ---- the last step

pub follows-gives : {A : Type 0} (a b : A) (before after : Kept) → b ≡ a → after ≡ before → Follows (gives a) (Ok b) before after
follows-gives a b before after same kept = record { from = λ sites. (same, kept) }

pub follows-reading : {A : Type 0} (of : Kept → A) (b : A) (before after : Kept) → b ≡ of before → after ≡ before → Follows (reading of) (Ok b) before after
unfolding reading
follows-reading of b before after same kept = record { from = λ sites. (same, kept) }

pub follows-changing : (to : Kept → Kept) (b : Unit {0}) (before after : Kept) → after ≡ to before → Follows (changing to) (Ok b) before after
unfolding changing
follows-changing to b before after kept = record { from = λ sites. (refl, kept) }

pub follows-memory : {A : Type 0} (run : Run A) (before after : Kept) → Follows run (Err Memory) before after
follows-memory run before after = record { from = λ sites. tt }

matches-site : {A : Type 0} (site : ℕ) (value : Option A) (sites : List ℕ) (kept : Kept) → Matches (at_site site value (record { kept = kept; sites = sites })) (ok_or value (Stopped site)) kept
unfolding at_site
matches-site site (Some a) sites kept = (refl, refl)
matches-site site None sites kept = (refl, refl)

-- what a site computes or checks, and a stop there where it has no value
pub follows-site : {A : Type 0} (site : ℕ) (value : Option A) (result : Result A Halt) (kept : Kept) → result ≡ ok_or value (Stopped site) → Follows (at_site site value) result kept kept
follows-site site value result kept is = record { from = λ sites. subst (λ r. Matches (at_site site value (record { kept = kept; sites = sites })) r kept) (sym is) (matches-site site value sites kept) }

pub follows-had : {A : Type 0} (site : ℕ) (value : Option A) (a : A) (kept : Kept) → value ≡ Some a → Follows (at_site site value) (Ok a) kept kept
follows-had site value a kept is = follows-site site value (Ok a) kept (sym (ap (λ v. ok_or v (Stopped site)) is))

pub follows-stopped : {A : Type 0} (site : ℕ) (value : Option A) (kept : Kept) → value ≡ None → Follows (at_site site value) (Err (Stopped site)) kept kept
follows-stopped site value kept is = follows-site site value (Err (Stopped site)) kept (sym (ap (λ v. ok_or v (Stopped site)) is))

pub follows-found : {A : Type 0} (site : ℕ) (value : Kept → Option A) (result : Result A Halt) (kept : Kept) → result ≡ ok_or (value kept) (Stopped site) → Follows (found site value) result kept kept
unfolding found reading ◌>>=◌
follows-found site value result kept is =
    record { from = λ sites. subst (λ r. Matches (at_site site (value kept) (record { kept = kept; sites = sites })) r kept) (sym is) (matches-site site (value kept) sites kept) }

pub follows-valued : {A : Type 0} (site : ℕ) (value computed : Option A) (result : Result A Halt) (kept : Kept) → computed ≡ value → result ≡ ok_or computed (Stopped site) → Follows (at_site site value) result kept kept
follows-valued site value computed result kept same is = follows-site site value result kept (is ∙ ap (λ v. ok_or v (Stopped site)) same)

-- ---- one after the other

matches-next : {A B : Type 0} (outcome : Outcome A) (next : A → Run B) (a : A) (r : Result B Halt) (between after : Kept)
    → Matches outcome (Ok a) between → Follows (next a) r between after → Matches (continued outcome next) r after
matches-next (Gives b s) next a r between after first second =
    let moved : Matches (next a s) r after = subst (λ (k : Kept). Matches (next a (record { kept = k; sites = s.sites })) r after) first.1 (second.from s.sites) in
    subst (λ x. Matches (next x s) r after) first.0 moved
matches-next (Stops site s) next a r between after first second = absurd first
matches-next (Goes s) next a r between after first second = absurd first

matches-out : {A B : Type 0} (outcome : Outcome A) (next : A → Run B) (halt : Halt) (after : Kept)
    → Matches outcome (Err halt) after → Matches (continued outcome next) (Err halt) after
matches-out outcome next Memory after first = tt
matches-out (Gives b s) next (Stopped number) after first = absurd first
matches-out (Gives b s) next Going after first = absurd first
matches-out (Stops site s) next (Stopped number) after first = first
matches-out (Stops site s) next Going after first = first
matches-out (Goes s) next (Stopped number) after first = first
matches-out (Goes s) next Going after first = first

pub follows-next : {A B : Type 0} (first : Run A) (next : A → Run B) (a : A) (r : Result B Halt) (before between after : Kept)
    → Follows first (Ok a) before between → Follows (next a) r between after → Follows (first >>= next) r before after
unfolding ◌>>=◌
follows-next first next a r before between after one other =
    record { from = λ sites. matches-next (first (record { kept = before; sites = sites })) next a r between after (one.from sites) other }

pub follows-out : {A B : Type 0} (first : Run A) (next : A → Run B) (halt : Halt) (before after : Kept)
    → Follows first (Err halt) before after → Follows (first >>= next) (Err halt) before after
unfolding ◌>>=◌
follows-out first next halt before after one =
    record { from = λ sites. matches-out (first (record { kept = before; sites = sites })) next halt after (one.from sites) }

pub follows-and : {A B : Type 0} (first : Run A) (next : Run B) (a : A) (r : Result B Halt) (before between after : Kept)
    → Follows first (Ok a) before between → Follows next r between after → Follows (first >> next) r before after
unfolding ◌>>◌
follows-and first next a r before between after one other = follows-next first (λ _. next) a r before between after one other

pub follows-and_out : {A B : Type 0} (first : Run A) (next : Run B) (halt : Halt) (before after : Kept)
    → Follows first (Err halt) before after → Follows (first >> next) (Err halt) before after
unfolding ◌>>◌
follows-and_out first next halt before after one = follows-out first (λ _. next) halt before after one

-- ---- conditions

pub follows-chosen : {A : Type 0} (b : Bool) (this other : Run A) (r : Result A Halt) (before after : Kept) → b ≡ true → Follows this r before after → Follows (chosen b this other) r before after
follows-chosen true this other r before after is one = one
follows-chosen false this other r before after is one = cc

pub follows-other : {A : Type 0} (b : Bool) (this other : Run A) (r : Result A Halt) (before after : Kept) → b ≡ false → Follows other r before after → Follows (chosen b this other) r before after
follows-other true this other r before after is one = cc
follows-other false this other r before after is one = one

pub follows-holds : {A : Type 0} (condition : Run ℤ) (this other : Run A) (value : ℤ) (r : Result A Halt) (before between after : Kept)
    → Follows condition (Ok value) before between → holds value ≡ true → Follows this r between after → Follows (choosing condition this other) r before after
unfolding choosing
follows-holds condition this other value r before between after one is two =
    follows-next condition _ value r before between after one (follows-chosen (holds value) this other r between after is two)

pub follows-fails : {A : Type 0} (condition : Run ℤ) (this other : Run A) (value : ℤ) (r : Result A Halt) (before between after : Kept)
    → Follows condition (Ok value) before between → holds value ≡ false → Follows other r between after → Follows (choosing condition this other) r before after
unfolding choosing
follows-fails condition this other value r before between after one is two =
    follows-next condition _ value r before between after one (follows-other (holds value) this other r between after is two)

-- ---- where a `?` hands on that a run is cut off

pub follows-handed : {A : Type 0} (run : Run A) (r : Result A Halt) (halt : Halt) (before after : Kept) → IsErrAnd r (λ h. h ≡ halt) → Follows run (Err halt) before after → Follows run r before after
follows-handed run (Ok a) halt before after same one = absurd same
follows-handed run (Err h) halt before after same one = subst (λ (x : Halt). Follows run (Err x) before after) (sym same) one

pub follows-exit : {A B : Type 0} (first : Run A) (next : A → Run B) (r : Result B Halt) (halt : Halt) (before after : Kept)
    → IsErrAnd r (λ h. h ≡ halt) → Follows first (Err halt) before after → Follows (first >>= next) r before after
follows-exit first next r halt before after same one = follows-handed (first >>= next) r halt before after same (follows-out first next halt before after one)

pub follows-and_exit : {A B : Type 0} (first : Run A) (next : Run B) (r : Result B Halt) (halt : Halt) (before after : Kept)
    → IsErrAnd r (λ h. h ≡ halt) → Follows first (Err halt) before after → Follows (first >> next) r before after
follows-and_exit first next r halt before after same one = follows-handed (first >> next) r halt before after same (follows-and_out first next halt before after one)

pub follows-choosing_exit : {A : Type 0} (condition : Run ℤ) (this other : Run A) (r : Result A Halt) (halt : Halt) (before after : Kept)
    → IsErrAnd r (λ h. h ≡ halt) → Follows condition (Err halt) before after → Follows (choosing condition this other) r before after
unfolding choosing
follows-choosing_exit condition this other r halt before after same one = follows-exit condition _ r halt before after same one

-- where there is no memory
pub follows-refused : {A : Type 0} (run : Run A) (r : Result A Halt) (before after : Kept) → IsErrAnd r (λ h. h ≡ Memory) → Follows run r before after
follows-refused run r before after same = follows-handed run r Memory before after same (follows-memory run before after)

-- ---- the same run in other words, and the same numbers

pub follows-as : {A : Type 0} (run whole : Run A) (r : Result A Halt) (before after : Kept) → whole ≡ run → Follows run r before after → Follows whole r before after
follows-as run whole r before after same one = subst (λ x. Follows x r before after) (sym same) one

pub follows-at : {A B : Type 0} (run : B → Run A) (x y : B) (r : Result A Halt) (before after : Kept) → x ≡ y → Follows (run x) r before after → Follows (run y) r before after
follows-at run x y r before after same one = subst (λ z. Follows (run z) r before after) same one

pub ruleset following = (follows-gives, follows-reading, follows-changing, follows-memory, follows-site, follows-valued, follows-found, follows-next, follows-out, follows-and, follows-and_out, follows-holds, follows-fails)
