-- Runs: what a part of a source does, as a function from the state before it. Expressions, places, arguments
-- and statements are such runs alike.
use Rattle.std.specs.Prelude.{ℕ, ℤ, pos, List, [], ◌∷◌, ◌++◌, Bool, true, false, not, Option, Some, None}
use Rattle.std.specs.Ordering.{int_eq}
use Rattle.source_runs.specs.State.{Kept, SourceState}

-- It gives something, it stops at a site, or a loop in it is going on at the number of turns; each with the
-- state that is then.
pub data Outcome (A : Type 0) : Type 0 where
  Gives : A → SourceState → Outcome A
  Stops : (site : ℕ) → SourceState → Outcome A
  Goes : SourceState → Outcome A

abbrev pub Run : Type 0 → Type 0
Run A = SourceState → Outcome A

-- the state in which it ends, or is cut off
abbrev pub state_after : {A : Type 0} → Outcome A → SourceState
state_after (Gives a s) = s
state_after (Stops site s) = s
state_after (Goes s) = s

-- ---- one after the other

abbrev pub gives : {A : Type 0} → A → Run A
gives a s = Gives a s

abbrev pub continued : {A B : Type 0} → Outcome A → (A → Run B) → Outcome B
continued (Gives a s) next = next a s
continued (Stops site s) next = Stops site s
continued (Goes s) next = Goes s

infixl 10 ◌>>=◌
unfoldable pub ◌>>=◌ : {A B : Type 0} → Run A → (A → Run B) → Run B
(first >>= next) s = continued (first s) next

infixl 10 ◌>>◌
unfoldable pub ◌>>◌ : {A B : Type 0} → Run A → Run B → Run B
first >> next = first >>= (λ _. next)

-- ---- what the state keeps

unfoldable pub reading : {A : Type 0} → (Kept → A) → Run A
reading of s = Gives (of s.kept) s

unfoldable pub changing : (Kept → Kept) → Run (Unit {0})
changing to s = Gives tt (record s { kept = to s.kept })

-- ---- sites

abbrev evaluated_to : {A : Type 0} → ℕ → Option A → SourceState → Outcome A
evaluated_to site (Some a) s = Gives a s
evaluated_to site None s = Stops site s

-- A site is evaluated when its operands are known and it computes or checks. A site that stops is evaluated.
unfoldable pub at_site : {A : Type 0} → ℕ → Option A → Run A
at_site site value s = evaluated_to site value (record s { sites = s.sites ++ site ∷ [] })

-- the same of a value that is found in what is kept
unfoldable pub found : {A : Type 0} → ℕ → (Kept → Option A) → Run A
found site value = reading value >>= at_site site

-- ---- conditions

abbrev pub chosen : {A : Type 0} → Bool → Run A → Run A → Run A
chosen true this other s = this s
chosen false this other s = other s

-- a condition holds where its value is not 0
abbrev pub holds : ℤ → Bool
holds value = not (int_eq value (pos 0))

unfoldable pub choosing : {A : Type 0} → Run ℤ → Run A → Run A → Run A
choosing condition this other = condition >>= (λ value. chosen (holds value) this other)

-- ---- several from left to right

-- those that are gathered already, and what these give after them
unfoldable pub gathered : {A : Type 0} → List A → List (Run A) → Run (List A)
gathered done [] = gives done
gathered done (first ∷ more) = first >>= (λ a. gathered (done ++ a ∷ []) more)

-- one after the other, for what they do
unfoldable pub all_of : List (Run (Unit {0})) → Run (Unit {0})
all_of [] = gives tt
all_of (first ∷ more) = first >> all_of more
