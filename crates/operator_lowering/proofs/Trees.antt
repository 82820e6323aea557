-- A course branches where a test is open: what holds of it holds on both branches.
use Rattle.std.proofs.Common.{◌≡◌, ℤ, pos, Bool, true, false, not, if◌then◌else◌, List, refl, sym, ap, ◌∙◌}
use Rattle.template_runs.specs.Courses.{Final, Ends}
use Rattle.template_runs.specs.Values.{added}

pub by_test : {x y z : Final} (b : Bool) → (b ≡ true → x ≡ z) → (b ≡ false → y ≡ z) → (if b then x else y) ≡ z
by_test true on off = on refl
by_test false on off = off refl

-- the same of a test that is turned
pub by_turned : {x y z : Final} (b : Bool) → (b ≡ true → y ≡ z) → (b ≡ false → x ≡ z) → (if not b then x else y) ≡ z
by_turned true on off = on refl
by_turned false on off = off refl

pub ends : {v v' f f' : ℤ} {input : List ℤ} → v ≡ v' → f ≡ f' → Ends v f input ≡ Ends v' f' input
ends {v} {v'} {f} {f'} {input} value flag = ap (λ x. Ends x f input) value ∙ ap (λ x. Ends v' x input) flag

-- Overflow stays, as in the forms that do not set it
pub ends_same : {v v' f : ℤ} {input : List ℤ} → v ≡ v' → Ends v f input ≡ Ends v' f input
ends_same {v} {v'} {f} {input} value = ap (λ x. Ends x f input) value

-- Overflow where a clip changes nothing, and where it changes a number
pub ends_kept : {v v' : ℤ} {input : List ℤ} (flag : ℤ) (changes : Bool) → v ≡ v' → changes ≡ false → Ends v flag input ≡ Ends v' (if changes then pos 1 else flag) input
ends_kept flag changes value none = ends value (ap (λ c. if c then pos 1 else flag) (sym none))

pub one : added (pos 0) (pos 1) ≡ pos 1
unfolding added
one = refl

-- Overflow after a clip, by whether it changes a number: what it is before, what the words set, and what it becomes
pub record Sets (changes : Bool) (kept changed final : ℤ) : Type 0 where
  pub stays : changes ≡ false → kept ≡ final
  pub turns : changes ≡ true → changed ≡ final

pub silent : (changes : Bool) (flag : ℤ) → Sets changes flag flag flag
silent changes flag = record { stays = λ e. refl; turns = λ e. refl }

pub flagged : (changes : Bool) (flag : ℤ) → Sets changes flag (added (pos 0) (pos 1)) (if changes then pos 1 else flag)
flagged changes flag = record { stays = λ e. ap (λ c. if c then pos 1 else flag) (sym e); turns = λ e. one ∙ ap (λ c. if c then pos 1 else flag) (sym e) }

-- a test tells whether the clip changes a number
pub by_clip : {v w r kept changed final : ℤ} {input : List ℤ} {changes : Bool} (b : Bool) → Sets changes kept changed final
    → (b ≡ true → (v ≡ r) × (changes ≡ false)) → (b ≡ false → (w ≡ r) × (changes ≡ true)) → (if b then Ends v kept input else Ends w changed input) ≡ Ends r final input
by_clip true sets on off = let k = on refl in ends k.0 (sets.stays k.1)
by_clip false sets on off = let k = off refl in ends k.0 (sets.turns k.1)

pub ends_changed : {v v' : ℤ} {input : List ℤ} (flag : ℤ) (changes : Bool) → v ≡ v' → changes ≡ true → Ends v (added (pos 0) (pos 1)) input ≡ Ends v' (if changes then pos 1 else flag) input
ends_changed flag changes value some = ends value (one ∙ ap (λ c. if c then pos 1 else flag) (sym some))
