-- Tests of which one or both hold.
use Rattle.std.proofs.Common.{◌≡◌, Bool, true, false, refl}
use Rattle.std.specs.Prelude.{not, ◌||◌}

pub or-left : (a b : Bool) → a ≡ true → (a || b) ≡ true
or-left true b p = refl
or-left false b p = cc

pub or-right : (a b : Bool) → b ≡ true → (a || b) ≡ true
or-right true b p = refl
or-right false b p = p

pub is-false : (b : Bool) → not b ≡ true → b ≡ false
is-false true p = cc
is-false false p = refl

-- no test both holds and fails
pub both-ways : {A : Type 0} (b : Bool) → b ≡ true → b ≡ false → A
both-ways true p q = let wrong : true ≡ false = q in absurd (apart wrong)
  where
    apart : true ≡ false → ⊥
    apart r = cc
both-ways false p q = let wrong : false ≡ true = p in absurd (apart wrong)
  where
    apart : false ≡ true → ⊥
    apart r = cc
