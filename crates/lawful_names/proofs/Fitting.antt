-- What a test has to pass of things that stand where no fault is, so that it passes all that stands in a source.
use Rattle.std.proofs.Common.{◌≡◌, ℕ, List, Bool, true, false, length, refl, subst}
use Rattle.std.specs.Prelude.{ℤ, Option, Some, None, is_some, codes, slice_get}
use Rattle.std.specs.Str.{bytes_eq}
use Rattle.sat_base.specs.declared.name.At.{At}
use Rattle.sat_base.specs.declared.width.Width.{Width}
use Rattle.c_tree.specs.declared.program.Item.{Item}
use Rattle.c_typed.specs.declared.call.Callee.{Callee}
use Rattle.c_typed.specs.declared.call.Callee.TheVariants as callees
use Rattle.c_typed.specs.declared.typed.Typed.{Typed}
use Rattle.operator_meaning.specs.declared.object.Object.{Object}
use Rattle.operator_meaning.specs.declared.site.SiteKind.{SiteKind}
use Rattle.predefined_calls.specs.Calls.{gives_of, takes_of}
use Rattle.c_seen.specs.declared.seen.Kind.{Kind}
use Rattle.c_seen.specs.declared.seen.Marks.{Marks as SeenMarks}
use Rattle.c_seen.specs.declared.seen.Marks.TheVariants as with_marks
use Rattle.c_seen.specs.declared.seen.Meaning.{Meaning}
use Rattle.c_seen.specs.declared.seen.Meaning.TheVariants as means
use Rattle.c_seen.specs.declared.seen.Need.{Need}
use Rattle.c_seen.specs.declared.seen.Need.TheVariants as needs
use Rattle.c_seen.specs.declared.seen.Seen.{Seen}
use Rattle.c_seen.specs.declared.seen.Seen.TheVariants as seen
use Rattle.c_seen.specs.declared.seen.SeenPlace.{SeenPlace}
use Rattle.c_seen.specs.declared.seen.View.{View as SeenView}
use Rattle.c_seen.specs.declared.seen.Wanted.{Wanted}
use Rattle.c_seen.specs.declared.seen.Wanted.TheVariants as wants
use Rattle.c_seen.specs.Functions.{functions_of, is_defined}
use Rattle.tied_names.specs.declared.tie.Asked.{Asked}
use Rattle.tied_names.specs.declared.tie.Asked.TheVariants as asks
use Rattle.tied_names.specs.declared.tie.Tie.{Tie}
use Rattle.tied_names.specs.declared.tie.Tie.TheVariants as ties
use Rattle.tied_names.specs.declared.tie.TiedObject.{TiedObject}
use Rattle.tied_names.specs.Ties.{object_by}
use Rattle.lawful_sources.specs.Things.{Marks, Bare, Once, Twice, Star, Taken, Number, View, Use, Read, Written, Given, Thing, Place, Call, Argument, Mark, Conversion, Begins, Constant, Statement, Leave, Return}
use Rattle.lawful_names.proofs.Agreement.{IsObject, IsFunction, Agrees, is_predefined}
use Rattle.lawful_names.proofs.Clean.{Clean, never}
use Rattle.lawful_names.proofs.Starting.{Starts}

-- ---- what is done with a place, on both sides

pub data Purpose : Type 0 where
  Reads : Purpose
  Writes : Purpose
  Gives : (ampersand : Bool) → SeenView → (first : At) → Purpose

abbrev pub ampersand_of : Purpose → Bool
ampersand_of Reads = false
ampersand_of Writes = false
ampersand_of (Gives ampersand view first) = ampersand

abbrev pub need_for : Purpose → Need
need_for Reads = needs.Number
need_for Writes = needs.Target
need_for (Gives ampersand view first) = needs.View view first

abbrev pub use_of : Purpose → Use
use_of Reads = Read
use_of Writes = Written
use_of (Gives ampersand view first) = Given (Some (View view.width view.is_const))

abbrev pub marks_of : SeenMarks → Marks
marks_of with_marks.None = Bare
marks_of (with_marks.Once mark) = Once
marks_of (with_marks.Twice mark) = Twice
marks_of (with_marks.Star mark) = Star

abbrev pub place_seen : At → SeenMarks → Purpose → Option Meaning → SeenPlace
place_seen at marks purpose meaning = record { at = at; marks = marks; ampersand = ampersand_of purpose; meaning = meaning; need = need_for purpose }

-- ---- what is taken, on both sides

abbrev pub view_of : Width → Bool → SeenView
view_of width is_const = record { width = width; is_const = is_const }

abbrev pub wanted_for : Taken → Wanted
wanted_for (Number width) = wants.Number
wanted_for (View width is_const) = wants.View (view_of width is_const)

abbrev pub asked_for : Taken → Asked
asked_for (Number width) = asks.Number width
asked_for (View width is_const) = asks.View

abbrev pub need_if : Bool → Need
need_if true = needs.Number
need_if false = needs.Nothing

-- a call that has no fault, by what its function is
pub record IsGoodCall (items : List Item) (name : List ℕ) (gives : Bool) (parameters arguments : ℕ) (is_needed : Bool) : Type 0 where
  pub count : arguments ≡ parameters
  pub needed : is_needed ≡ true → gives ≡ true
  pub complete : is_defined (functions_of items) name ≡ true
  pub other : bytes_eq name (codes "main") ≡ false

module _ (source : Typed) (items : List Item) (Shaped : Kind → Object → Type 0) where
  pub record Fits (sound : Seen → Bool) (test : Thing → Bool) : Type 0 where
    pub places : (at : At) (kind : Kind) (width : Width) (is_const : Bool) (tied : TiedObject) (marks : SeenMarks) (purpose : Purpose) → IsObject source Shaped kind width is_const tied
        → sound (seen.Place (place_seen at marks purpose (Some (means.Object kind width is_const)))) ≡ true → Clean (seen.Place (place_seen at marks purpose (Some (means.Object kind width is_const))))
        → test (Place tied.number (marks_of marks) (use_of purpose)) ≡ true
    pub calls : (name : List ℕ) (item number arguments : ℕ) (is_needed : Bool) (f : IsFunction source items name item number)
        → IsGoodCall items name (is_some f.declaration.gives) (length f.declaration.params) arguments is_needed → test (Call (callees.Function number) arguments is_needed) ≡ true
    pub predefined : (callee : Callee) (is_needed : Bool) → is_predefined callee ≡ true → (is_needed ≡ true → is_some (gives_of callee) ≡ true) → test (Call callee (length (takes_of callee)) is_needed) ≡ true
    pub numbers : (width : Width) → test (Argument false (Some (Number width))) ≡ true
    pub views : (width : Width) (is_const : Bool) → test (Argument true (Some (View width is_const))) ≡ true
    pub marks : (at : At) (site : Option ℕ) (kind : Option SiteKind) → test (Mark at site kind) ≡ true
    pub conversions : (width : Option Width) → test (Conversion width width) ≡ true
    pub constants : (value : ℤ) → test (Constant value) ≡ true
    pub begins : (number : ℕ) (object : Object) (value : Option (Option ℤ)) → slice_get source.objects number ≡ Some object → Starts sound object value → test (Begins number value) ≡ true
    pub statements : test Statement ≡ true
    pub leaves : (in_loop : Bool) → test (Leave in_loop) ≡ true
    pub returns : (has_value gives : Bool) → test (Return has_value gives) ≡ true

  -- ---- a place without a fault names an object

  no-function : {A : Type 0} (at : At) (marks : SeenMarks) (purpose : Purpose) (item : ℕ) → Clean (seen.Place (place_seen at marks purpose (Some (means.Function item)))) → A
  no-function at with_marks.None Reads item c = absurd (never at c.number)
  no-function at with_marks.None Writes item c = absurd (never at c.number)
  no-function at with_marks.None (Gives true view first) item c = absurd (never first c.view)
  no-function at with_marks.None (Gives false view first) item c = absurd (never first c.view)
  no-function at (with_marks.Once mark) purpose item c = absurd (never mark c.array)
  no-function at (with_marks.Twice mark) purpose item c = absurd (never mark c.array)
  no-function at (with_marks.Star mark) purpose item c = absurd (never mark c.array)

  no-call : {A : Type 0} (at : At) (marks : SeenMarks) (purpose : Purpose) (callee : Callee) → Clean (seen.Place (place_seen at marks purpose (Some (means.Predefined callee)))) → A
  no-call at with_marks.None Reads callee c = absurd (never at c.number)
  no-call at with_marks.None Writes callee c = absurd (never at c.number)
  no-call at with_marks.None (Gives true view first) callee c = absurd (never first c.view)
  no-call at with_marks.None (Gives false view first) callee c = absurd (never first c.view)
  no-call at (with_marks.Once mark) purpose callee c = absurd (never mark c.array)
  no-call at (with_marks.Twice mark) purpose callee c = absurd (never mark c.array)
  no-call at (with_marks.Star mark) purpose callee c = absurd (never mark c.array)

  -- the object that it names
  pub record NamesObject (meaning : Option Meaning) (tie : Option Tie) : Type 0 where
    pub kind : Kind
    pub width : Width
    pub is_const : Bool
    pub stands_for : meaning ≡ Some (means.Object kind width is_const)
    pub is : IsObject source Shaped kind width is_const (object_by tie)

  pub place-names : (at : At) (name : List ℕ) (marks : SeenMarks) (purpose : Purpose) (meaning : Option Meaning) (tie : Option Tie) → Agrees source items Shaped name meaning tie
      → Clean (seen.Place (place_seen at marks purpose meaning)) → NamesObject meaning tie
  place-names at name marks purpose None tie a c = absurd (never at c.unknown)
  place-names at name marks purpose (Some (means.Object kind width is_const)) None a c = absurd a
  place-names at name marks purpose (Some (means.Object kind width is_const)) (Some (ties.Object tied)) a c = record { kind = kind; width = width; is_const = is_const; stands_for = refl; is = a }
  place-names at name marks purpose (Some (means.Object kind width is_const)) (Some (ties.Function number item)) a c = absurd a
  place-names at name marks purpose (Some (means.Object kind width is_const)) (Some (ties.Predefined callee)) a c = absurd a
  place-names at name marks purpose (Some (means.Function item)) tie a c = no-function at marks purpose item c
  place-names at name marks purpose (Some (means.Predefined callee)) tie a c = no-call at marks purpose callee c

  pub place-fits : (sound : Seen → Bool) (test : Thing → Bool) → Fits sound test → (at : At) (name : List ℕ) (marks : SeenMarks) (purpose : Purpose) (meaning : Option Meaning) (tie : Option Tie) → Agrees source items Shaped name meaning tie
      → sound (seen.Place (place_seen at marks purpose meaning)) ≡ true → Clean (seen.Place (place_seen at marks purpose meaning)) → test (Place (object_by tie).number (marks_of marks) (use_of purpose)) ≡ true
  place-fits sound test fits at name marks purpose meaning tie a q c =
      let o : NamesObject meaning tie = place-names at name marks purpose meaning tie a c in
      fits.places at o.kind o.width o.is_const (object_by tie) marks purpose o.is (subst (λ (m : Option Meaning). sound (seen.Place (place_seen at marks purpose m)) ≡ true) o.stands_for q)
      (subst (λ (m : Option Meaning). Clean (seen.Place (place_seen at marks purpose m))) o.stands_for c)
