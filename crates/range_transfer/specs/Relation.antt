-- Relations, and the values that can stand in one.
use Rattle.std.specs.Prelude.{◌≡◌, ◌≢◌, ℤ, ◌≤ℤ◌, ◌<ℤ◌}
use Rattle.range_core.specs.declared.range.Range.{Range}
use Rattle.range_core.specs.Range.{IsIn}
use Rattle.range_transfer.specs.declared.relation.Rel.{Rel}
use Rattle.range_transfer.specs.declared.relation.Rel.TheVariants.{Lt, Le, Gt, Ge, Eq, Ne}

abbrev pub Holds : Rel → ℤ → ℤ → Type 0
Holds Lt x y = x <ℤ y
Holds Le x y = x ≤ℤ y
Holds Gt x y = y <ℤ x
Holds Ge x y = y ≤ℤ x
Holds Eq x y = x ≡ y
Holds Ne x y = x ≢ y

-- a value of the own range that is in the relation to some value of the other
abbrev pub HasPartner : (ℤ → ℤ → Type 0) → Range → Range → ℤ → Type 0
HasPartner related own other x = IsIn x own × ((y : ℤ) × IsIn y other × related x y)
