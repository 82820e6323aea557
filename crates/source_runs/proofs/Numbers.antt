-- Numbers that are written into an argument and read back.
use Rattle.std.proofs.Common.{◌≡◌, ap, ◌∙◌, to_z, of_z, w32, SFits}
use Rattle.std.proofs.lemmas.Int.{to_z-of_z}
use Rattle.std.specs.Prelude.{ℤ}

pub read_one : {A : Type 0} (f : ℤ → A) (x : ℤ) → SFits w32 x → f (to_z w32 (of_z w32 x)) ≡ f x
read_one f x fits = ap f (to_z-of_z w32 x fits)

pub read_two : {A : Type 0} (f : ℤ → ℤ → A) (x y : ℤ) → SFits w32 x → SFits w32 y → f (to_z w32 (of_z w32 x)) (to_z w32 (of_z w32 y)) ≡ f x y
read_two f x y first second = ap (λ (a : ℤ). f a (to_z w32 (of_z w32 y))) (to_z-of_z w32 x first) ∙ ap (f x) (to_z-of_z w32 y second)
