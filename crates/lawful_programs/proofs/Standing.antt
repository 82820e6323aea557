-- What is known of the things that stand in a lawful tree.
use Rattle.std.proofs.Common.{◌≡◌, ℕ, Bool, true, false, List, [], ◌∷◌, ◌++◌, refl}
use Rattle.std.specs.Prelude.{Option, Some, None, slice_get}
use Rattle.std.specs.List.{AllByRecursion}
use Rattle.sat_base.specs.declared.name.At.{At}
use Rattle.sat_base.specs.declared.width.Width.{Width}
use Rattle.operator_meaning.specs.declared.object.Site.{Site}
use Rattle.operator_meaning.specs.declared.site.SiteKind.{SiteKind}
use Rattle.c_typed.specs.declared.typed.Typed.{Typed}
use Rattle.lawful_sources.specs.Objects.{begins_well}
use Rattle.lawful_sources.specs.Rows.{arguments_are_counted, place_fits, return_fits, value_is_given, HasKind, IsOfKind}
use Rattle.lawful_sources.specs.Things.{Taken, Thing, Mark}
use Rattle.lawful_ir.specs.Positions.{TreeThing, Of, Misplaced, Position, Acting, Stating, Valued, around, before, placed_if, turned, valued}

module _ (tables : Typed) where
  pub record Fits (thing : Thing) : Type 0 where
    pub reaches : place_fits tables thing ≡ true
    pub counts : arguments_are_counted tables thing ≡ true
    pub gives : value_is_given tables thing ≡ true
    pub begins : begins_well tables thing ≡ true
    pub returns : return_fits thing ≡ true
    pub is_of_kind : IsOfKind tables thing

  abbrev pub Stands : TreeThing → Type 0
  Stands (Of thing) = Fits thing
  Stands Misplaced = ⊥

  abbrev pub Stand : List TreeThing → Type 0
  Stand things = AllByRecursion Stands things

  pub early : (xs ys : List TreeThing) → Stand (xs ++ ys) → Stand xs
  early [] ys stand = tt
  early (x ∷ xs) ys stand = (stand.0, early xs ys stand.1)

  pub late : (xs ys : List TreeThing) → Stand (xs ++ ys) → Stand ys
  late [] ys stand = stand
  late (x ∷ xs) ys stand = late xs ys stand.1

  pub both : (xs ys : List TreeThing) → Stand xs → Stand ys → Stand (xs ++ ys)
  both [] ys one other = other
  both (x ∷ xs) ys one other = (one.0, both xs ys one.1 other)

  pub placed : (is : Bool) (things : List TreeThing) → Stand (placed_if is things) → (is ≡ true) × Stand things
  placed true things stand = (refl, stand)
  placed false things stand = absurd stand.0

  -- in what gives a number
  pub within : (passed : Option (Option Taken)) (due is : Option Width) (things : List TreeThing) → Stand (valued (Valued passed due) is things) → Stand things
  within passed due is things stand = late (turned is due) things (late (before passed) (turned is due ++ things) stand)

  pub in_number : (position : Position) (things : List TreeThing) → Stand (valued position None things) → Stand things
  in_number (Valued passed due) things stand = within passed due None things stand
  in_number position things stand = absurd stand.0

  -- in a call, whose value may be dropped
  pub in_call : (position : Position) (things : List TreeThing) → Stand (around position things) → Stand things
  in_call (Valued passed due) things stand = within passed due None things stand
  in_call Acting things stand = stand
  in_call (Stating spot) things stand = stand.1
  in_call position things stand = absurd stand.0

  -- ---- sites

  kind_there : (found : Option Site) (kind : SiteKind) → HasKind found (Some kind) → (site : Site) × (found ≡ Some site) × (site.kind ≡ kind)
  kind_there None kind is = absurd is
  kind_there (Some site) kind is = (site, refl, is)

  pub site_there : (at : At) (n : ℕ) (kind : SiteKind) → Fits (Mark at (Some n) (Some kind)) → (site : Site) × (slice_get tables.sites n ≡ Some site) × (site.kind ≡ kind)
  site_there at n kind fits = kind_there (slice_get tables.sites n) kind fits.is_of_kind
