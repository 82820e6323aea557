-- What stands in a tree is what stands in its source: how a thing of a source stands in its tree.
use Rattle.std.proofs.Common.{◌≡◌, ℕ, List, [], ◌∷◌, ◌++◌, Bool, true, false, map, refl, sym, ap, ◌∙◌, subst}
use Rattle.std.specs.Prelude.{◌&&◌, ℤ, flat_map, slice_get, unwrap_or, Option, Some, None, option_map}
use Rattle.std.specs.List.{list_all}
use Rattle.std.proofs.lemmas.List.Concat.{flat_map-append}
use Rattle.std.proofs.lemmas.List.Folds.{list_all-append}
use Rattle.sat_base.specs.declared.width.Width.{Width}
use Rattle.operator_meaning.specs.declared.object.Object.{Object}
use Rattle.c_typed.specs.declared.call.Callee.{Callee}
use Rattle.c_typed.specs.declared.call.Callee.TheVariants.{Function, Operator, Test, SampleIn, SampleLeft, SampleOut}
use Rattle.c_typed.specs.declared.typed.Typed.{Typed}
use Rattle.source_runs.specs.Calls.{table_numbered}
use Rattle.typed_meaning.specs.Expressions.{site_at}
use Rattle.source_trees.specs.Expressions.{TreeSetting}
use Rattle.lawful_sources.specs.Objects.{is_complete}
use Rattle.lawful_sources.specs.Rows.{place_fits, arguments_are_counted, callee_is_defined, mark_is_numbered, conversion_stands}
use Rattle.lawful_sources.specs.Things.{Taken, Thing, Call, Mark, Conversion, Constant, taken_at}
use Rattle.lawful_sources.proofs.Passing.{Each}
use Rattle.lawful_ir.specs.Positions.{TreeThing, Of, Valued, before, turned, valued}
use Rattle.lawful_ir.specs.Walk.{marked}

-- ---- truths

pub left : (p q : Bool) → (p && q) ≡ true → p ≡ true
left true q h = refl
left false q h = h

pub right : (p q : Bool) → (p && q) ≡ true → q ≡ true
right true q h = h
right false true h = refl
right false false h = h

pub never : {A : Type 0} → false ≡ true → A
never p = cc

pub head : {A : Type 0} (test : A → Bool) (x : A) (xs : List A) → Each test (x ∷ xs) → test x ≡ true
head test x xs p = left (test x) (list_all test xs) p.all

pub tail : {A : Type 0} (test : A → Bool) (x : A) (xs : List A) → Each test (x ∷ xs) → Each test xs
tail test x xs p = record { all = right (test x) (list_all test xs) p.all }

pub earlier : {A : Type 0} (test : A → Bool) (xs ys : List A) → Each test (xs ++ ys) → Each test xs
earlier test xs ys p = record { all = left (list_all test xs) (list_all test ys) (sym (list_all-append test xs ys) ∙ p.all) }

pub later : {A : Type 0} (test : A → Bool) (xs ys : List A) → Each test (xs ++ ys) → Each test ys
later test xs ys p = record { all = right (list_all test xs) (list_all test ys) (sym (list_all-append test xs ys) ∙ p.all) }

-- ---- how a thing stands in the tree

-- the number of a function among those that are defined
abbrev pub number_at : List ℕ → ℕ → ℕ
number_at numbers function = unwrap_or (slice_get numbers function) 0

abbrev pub renamed : List ℕ → Callee → Callee
renamed numbers (Function function) = Function (number_at numbers function)
renamed numbers (Operator op) = Operator op
renamed numbers SampleIn = SampleIn
renamed numbers SampleLeft = SampleLeft
renamed numbers SampleOut = SampleOut
renamed numbers callee = Test

abbrev pub moved : (ℕ → ℕ) → Object → Object
moved place object = record object { function = option_map place object.function }

module _ (tables : Typed) (numbers : List ℕ) where
  abbrev pub converts : Thing → List TreeThing
  converts (Call callee arguments is_needed) = Of (Call (renamed numbers callee) arguments is_needed) ∷ []
  converts (Mark at site None) = []
  converts (Mark at site (Some kind)) = marked tables (site_at site) kind ∷ []
  converts (Conversion is due) = turned is due
  converts thing = Of thing ∷ []

-- the conditions of a lawful source by which its tree has the same things
abbrev pub fine : Typed → Thing → Bool
fine source thing =
    conversion_stands thing && (place_fits source thing && (mark_is_numbered source thing && (arguments_are_counted source thing && callee_is_defined source thing)))

-- the tables of the tree are those of the source, where each function has its new number
pub record Agrees (source tables : Typed) (numbers : List ℕ) (place : ℕ → ℕ) : Type 0 where
  pub objects : (number : ℕ) → slice_get tables.objects number ≡ option_map (moved place) (slice_get source.objects number)
  pub functions : (number : ℕ) → is_complete (slice_get source.functions number) ≡ true → (parameter : ℕ) → taken_at tables (Function (number_at numbers number)) parameter ≡ taken_at source (Function number) parameter

abbrev pub setting_of : Typed → List ℕ → TreeSetting
setting_of source numbers = record { objects = source.objects; table = table_numbered source.weights; numbers = numbers }

module _ (source tables : Typed) (numbers : List ℕ) where
  abbrev pub all_of : List Thing → List TreeThing
  all_of list = flat_map (converts tables numbers) list

  -- these things of a tree are those of a source
  pub record Goes (things : List TreeThing) (list : List Thing) : Type 0 where
    pub is : Each (fine source) list → things ≡ all_of list

  pub nothing : Goes [] []
  nothing = record { is = λ p. refl }

  pub along : (things others : List TreeThing) (list rest : List Thing) → Goes things list → Goes others rest → Goes (things ++ others) (list ++ rest)
  along things others list rest goes then =
      record { is = λ p. rw (goes.is (earlier (fine source) list rest p), then.is (later (fine source) list rest p)) (sym (flat_map-append (converts tables numbers) list rest)) }

  pub next : (things others : List TreeThing) (x : Thing) (rest : List Thing) → (fine source x ≡ true → things ≡ converts tables numbers x) → Goes others rest → Goes (things ++ others) (x ∷ rest)
  next things others x rest is then =
      record { is = λ p. rw (is (head (fine source) x rest p), then.is (tail (fine source) x rest p)) refl }

  pub goes-on : (things : List TreeThing) (x : Thing) (rest : List Thing) → [] ≡ converts tables numbers x → Goes things rest → Goes things (x ∷ rest)
  goes-on things x rest is then = next [] things x rest (λ p. is) then

  pub goes-by : (things others : List TreeThing) (list : List Thing) → others ≡ things → Goes things list → Goes others list
  goes-by things others list is goes = subst (λ t. Goes t list) (sym is) goes

  pub constants-go : (values : List ℤ) → Goes (map (λ (value : ℤ). Of (Constant value)) values) (map Constant values)
  constants-go [] = nothing
  constants-go (value ∷ values) = next (Of (Constant value) ∷ []) _ (Constant value) _ (λ p. refl) (constants-go values)

  pub valued-goes : (passed : Option (Option Taken)) (is due : Option Width) (things : List TreeThing) (list : List Thing) → Goes things list
      → Each (fine source) (Conversion is due ∷ list) → valued (Valued passed due) is things ≡ before passed ++ all_of (Conversion is due ∷ list)
  valued-goes passed is due things list goes p = ap (λ (l : List TreeThing). before passed ++ (turned is due ++ l)) (goes.is (tail (fine source) (Conversion is due) list p))
