-- What is asked of an object of the source holds of that of the tree: all is the same but for the number of its function.
use Rattle.std.proofs.Common.{◌≡◌, ℕ, List, Bool, true, length, refl, ap, ◌∙◌}
use Rattle.std.proofs.lemmas.List.{length-map}
use Rattle.std.specs.Prelude.{ℤ, nat_lt, slice_get, Option, Some, None, option_map}
use Rattle.operator_meaning.specs.declared.object.Object.{Object}
use Rattle.c_typed.specs.declared.typed.Typed.{Typed}
use Rattle.ir_arena.specs.declared.ir.Ir.{Ir}
use Rattle.lawful_ir.specs.Built.{IsTreeOf}
use Rattle.whole_trees.specs.Sources.{renumbered}
use Rattle.lawful_sources.specs.Lawful.{IsLawful}
use Rattle.lawful_sources.specs.Objects.{begins_with, begins_well}
use Rattle.lawful_sources.specs.Rows.{if_object, object_exists, reaches_number, reaches_view, reaches, place_fits, keeps_const, const_is_kept, has_width, width_agrees}
use Rattle.lawful_sources.specs.Things.{Marks, Bare, Use, Given, View, Place, Begins}
use Rattle.lawful_ir.specs.Lawful.{tables_of, EverywhereIn}
use Rattle.lawful_ir.proofs.Alike.{moved}
use Rattle.lawful_ir.proofs.Wholes.{agrees, objects-are}
use Rattle.ir_rows.proofs.Standing.{Passes, pass}

module _ (place : ℕ → ℕ) where
  number-moved : (o : Object) (marks : Marks) → reaches_number (moved place o) marks ≡ reaches_number o marks
  number-moved o Bare = refl
  number-moved o marks = refl

  view-moved : (o : Object) (marks : Marks) → reaches_view (moved place o) marks ≡ reaches_view o marks
  view-moved o Bare = refl
  view-moved o marks = refl

  reaches-moved : (marks : Marks) (aim : Use) (o : Object) → reaches (moved place o) marks aim ≡ reaches o marks aim
  reaches-moved marks (Given taken) o = view-moved o marks
  reaches-moved marks aim o = number-moved o marks

  keeps-moved : (aim : Use) (o : Object) → keeps_const (moved place o) aim ≡ keeps_const o aim
  keeps-moved (Given (Some (View width is_const))) o = refl
  keeps-moved aim o = refl

  width-moved : (aim : Use) (o : Object) → has_width (moved place o) aim ≡ has_width o aim
  width-moved (Given (Some (View width is_const))) o = refl
  width-moved aim o = refl

  begins-moved : (x : Option Object) (value : Option (Option ℤ)) → begins_with (option_map (moved place) x) value ≡ begins_with x value
  begins-moved (Some o) (Some value) = refl
  begins-moved x value = refl

  object-moved : (holds : Object → Bool) → ((o : Object) → holds (moved place o) ≡ holds o) → (x : Option Object) → if_object (option_map (moved place) x) holds ≡ if_object x holds
  object-moved holds same None = refl
  object-moved holds same (Some o) = same o

module _ (typed : Typed) (ir : Ir) (lawful : IsLawful typed) (is : IsTreeOf typed ir) where
  -- what is seen of an object is seen of it in the tree
  sees : (look : Option Object → Bool) → ((place : ℕ → ℕ) (x : Option Object) → look (option_map (moved place) x) ≡ look x) → (object : ℕ) → look (slice_get typed.objects object) ≡ true → look (slice_get ir.objects object) ≡ true
  sees look same object p = ap look ((agrees typed ir lawful is).objects object) ∙ same _ (slice_get typed.objects object) ∙ p

  exists : (object : ℕ) → nat_lt object (length typed.objects) ≡ true → nat_lt object (length ir.objects) ≡ true
  exists object p = ap (nat_lt object) (ap (λ (l : List Object). length l) (objects-are typed ir lawful is) ∙ length-map typed.objects (renumbered is.definitions)) ∙ p

  pub objects-exist : EverywhereIn ir (object_exists (tables_of ir))
  objects-exist = pass typed ir lawful is object_exists one lawful.objects_exist
    where
      one : Passes typed ir lawful is object_exists
      one (Place object marks aim) f p = exists object p
      one (Begins object value) f p = exists object p
      one x f p = refl

  pub objects-begin : EverywhereIn ir (begins_well (tables_of ir))
  objects-begin = pass typed ir lawful is begins_well one lawful.objects_begin
    where
      one : Passes typed ir lawful is begins_well
      one (Begins object value) f p = sees (λ x. begins_with x value) (λ place x. begins-moved place x value) object p
      one x f p = refl

  pub places-fit : EverywhereIn ir (place_fits (tables_of ir))
  places-fit = pass typed ir lawful is place_fits one lawful.places_fit
    where
      one : Passes typed ir lawful is place_fits
      one (Place object marks aim) f p = sees (λ x. if_object x (λ o. reaches o marks aim)) (λ place. object-moved place _ (reaches-moved place marks aim)) object p
      one x f p = refl

  pub const-is-kept : EverywhereIn ir (const_is_kept (tables_of ir))
  const-is-kept = pass typed ir lawful is const_is_kept one lawful.const_is_kept
    where
      one : Passes typed ir lawful is const_is_kept
      one (Place object marks aim) f p = sees (λ x. if_object x (λ o. keeps_const o aim)) (λ place. object-moved place _ (keeps-moved place aim)) object p
      one x f p = refl

  pub widths-agree : EverywhereIn ir (width_agrees (tables_of ir))
  widths-agree = pass typed ir lawful is width_agrees one lawful.widths_agree
    where
      one : Passes typed ir lawful is width_agrees
      one (Place object marks aim) f p = sees (λ x. if_object x (λ o. has_width o aim)) (λ place. object-moved place _ (width-moved place aim)) object p
      one x f p = refl
