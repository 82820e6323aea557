-- Which scalars notes expose, and of which scalars views are given among things: one after another.
use Rattle.std.proofs.Common.{◌≡◌, ℕ, List, [], ◌∷◌, ◌++◌, Bool, true, false, map, refl, sym, ap, ◌∙◌}
use Rattle.std.specs.Prelude.{ℤ, flat_map, slice_get, if◌then◌else◌, Option, Some, None}
use Rattle.std.proofs.lemmas.Grind.{flat_map-append}
use Rattle.std.proofs.lemmas.List.{append-nil}
use Rattle.sat_base.specs.declared.name.At.{At}
use Rattle.c_tree.specs.declared.program.Item.{Item}
use Rattle.c_typed.specs.declared.typed.Typed.{Typed}
use Rattle.operator_meaning.specs.declared.object.Object.{Object}
use Rattle.operator_meaning.specs.declared.object.Site.{Site}
use Rattle.operator_meaning.specs.declared.site.SiteKind.{SiteKind}
use Rattle.tied_names.specs.declared.note.Note.{Note}
use Rattle.tied_names.specs.declared.note.Note.TheVariants as note
use Rattle.tied_names.specs.Ties.{Here}
use Rattle.tied_expressions.specs.Sites.{noted_if}
use Rattle.lawful_sources.specs.Things.{Bare, Given, Thing, Place, Constant}
use Rattle.lawful_sources.specs.Objects.{is_scalar}
use Rattle.lawful_names.proofs.Fitting.{Fits}
use Rattle.lawful_names.proofs.Shapes.{Shaped, is_sound}

-- the same place in the first walk, where no site has a number and no object is exposed
abbrev pub first : List Object → Here → Here
first objects here = record { items = here.items; tokens = []; exposed = []; known = here.known; objects = objects }

abbrev pub exposing : Note → List ℕ
exposing (note.Site site) = []
exposing (note.Exposed number) = number ∷ []

abbrev pub exposes : List Note → List ℕ
exposes notes = flat_map exposing notes

abbrev pub scalar_at : Option Object → Bool
scalar_at None = false
scalar_at (Some object) = is_scalar object

abbrev pub giving : Typed → Thing → List ℕ
giving source (Place object Bare (Given taken)) = if scalar_at (slice_get source.objects object) then object ∷ [] else []
giving source thing = []

abbrev pub gives : Typed → List Thing → List ℕ
gives source things = flat_map (giving source) things

module _ (source : Typed) where
  -- views are given of the scalars that are exposed
  pub record Exposes (notes : List Note) (things : List Thing) : Type 0 where
    pub is : exposes notes ≡ gives source things

  pub nothing : Exposes [] []
  nothing = record { is = refl }

  pub more : (ns ms : List Note) (xs ys : List Thing) → Exposes ns xs → Exposes ms ys → Exposes (ns ++ ms) (xs ++ ys)
  more ns ms xs ys p q = record {
    is = flat_map-append exposing ns ms ∙ ap (λ (l : List ℕ). l ++ exposes ms) p.is ∙ ap (λ (l : List ℕ). gives source xs ++ l) q.is ∙ sym (flat_map-append (giving source) xs ys);
  }

  -- after a thing that gives no view
  pub beyond : (x : Thing) (ns : List Note) (xs : List Thing) → giving source x ≡ [] → Exposes ns xs → Exposes ns (x ∷ xs)
  beyond x ns xs p q = record { is = q.is ∙ ap (λ (l : List ℕ). l ++ gives source xs) (sym p) }

  -- after a site that is noted
  pub sited : (site : Site) (ns : List Note) (xs : List Thing) → Exposes ns xs → Exposes (note.Site site ∷ ns) xs
  sited site ns xs q = record { is = q.is }

  pub noted : (kind : Option SiteKind) (at : At) (ns : List Note) (xs : List Thing) → Exposes ns xs → Exposes (noted_if kind at ++ ns) xs
  noted None at ns xs q = q
  noted (Some kind) at ns xs q = sited _ ns xs q

  -- before things that give no view
  pub before : (ns : List Note) (xs ys : List Thing) → Exposes ns xs → Exposes [] ys → Exposes ns (xs ++ ys)
  before ns xs ys p q = record { is = p.is ∙ sym (flat_map-append (giving source) xs ys ∙ ap (λ (l : List ℕ). gives source xs ++ l) (sym q.is) ∙ append-nil (gives source xs)) }

  pub values : (constants : List ℤ) → Exposes [] (map Constant constants)
  values [] = nothing
  values (value ∷ rest) = beyond (Constant value) [] _ refl (values rest)

-- a test that all things pass
abbrev pub any : Thing → Bool
any thing = true

pub any-fits : (source : Typed) (items : List Item) → Fits source items Shaped is_sound any
any-fits source items = record {
  places = λ at kind width is_const tied marks purpose o q c. refl;
  calls = λ name item number arguments is_needed f good. refl;
  predefined = λ callee is_needed own given. refl;
  numbers = λ width. refl;
  views = λ width is_const. refl;
  marks = λ at site kind. refl;
  conversions = λ width. refl;
  constants = λ value. refl;
  begins = λ number object value stands starts. refl;
  statements = refl;
  leaves = λ in_loop. refl;
  returns = λ has_value gives. refl;
}
