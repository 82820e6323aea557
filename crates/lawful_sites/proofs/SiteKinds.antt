-- The kind of a site in the list is that of its mark, where each array has an element: then the kind of an object shows
-- in its numbers, and what is given as a view stands after `&` exactly where it is a number.
use Rattle.std.proofs.Common.{◌≡◌, ℕ, ◌+◌, List, [], Bool, true, false, map, refl, sym, ap, ◌∙◌, subst, arith}
use Rattle.std.specs.Prelude.{slice_get, Option, Some, None, not, ◌==◌, if◌then◌else◌}
use Rattle.std.specs.List.{All}
use Rattle.std.proofs.lemmas.Bool.{eqb-true}
use Rattle.std.proofs.lemmas.List.Elements.{All-head}
use Rattle.sat_base.specs.declared.name.At.{At}
use Rattle.sat_base.specs.declared.width.Width.{Width}
use Rattle.c_tree.specs.declared.program.Item.{Item}
use Rattle.c_tree.specs.declared.program.Program.{Program}
use Rattle.c_typed.specs.declared.typed.Typed.{Typed}
use Rattle.operator_meaning.specs.declared.object.Object.{Object}
use Rattle.operator_meaning.specs.declared.object.Site.{Site}
use Rattle.operator_meaning.specs.declared.site.SiteKind.TheVariants as sites
use Rattle.c_seen.specs.declared.seen.Kind.{Kind}
use Rattle.c_seen.specs.declared.seen.Kind.TheVariants as kinds
use Rattle.c_seen.specs.declared.seen.Marks.{Marks as SeenMarks}
use Rattle.c_seen.specs.declared.seen.Marks.TheVariants as with_marks
use Rattle.c_seen.specs.Sources.{seen_of}
use Rattle.c_faults.specs.declared.shape.Shape.TheVariants as shapes
use Rattle.c_faults.specs.Shapes.{shape_of_object}
use Rattle.tied_names.specs.declared.tie.TiedObject.{TiedObject}
use Rattle.tied_names.specs.Numbers.{number_in, token_of}
use Rattle.c_types.specs.Tied.{IsTyped}
use Rattle.lawful_laws.specs.Laws.{HasOwnTokens}
use Rattle.lawful_laws.proofs.Functions.{right}
use Rattle.lawful_laws.proofs.Sites.{tokens-rise}
use Rattle.lawful_sources.specs.Things.{Thing, Mark}
use Rattle.lawful_sources.specs.Expressions.{edge, view_kind}
use Rattle.lawful_sources.specs.Rows.{HasKind, IsOfKind}
use Rattle.lawful_sources.specs.Statements.{in_source}
use Rattle.lawful_names.specs.Spelled.{AllSpelled}
use Rattle.lawful_names.proofs.Agreement.{is_pointing}
use Rattle.lawful_names.proofs.Clean.{never}
use Rattle.lawful_names.proofs.Faultless.{seen-clean}
use Rattle.lawful_names.proofs.Fitting.{Purpose, Gives, ampersand_of, use_of}
use Rattle.lawful_names.proofs.Places.{clean_place, given-by}
use Rattle.lawful_names.proofs.Shapes.{Shaped, is_sound, sound-clean, all-sound, sound-shapes}
use Rattle.lawful_names.proofs.Truths.{is-false}
use Rattle.lawful_sites.proofs.Items.{sites-stand}
use Rattle.lawful_sites.proofs.Marks.{SameIndices, Keeps}
use Rattle.lawful_sites.proofs.Numbered.{site-at, stands-hold}
use Rattle.lawful_sites.proofs.Sited.{keyed, is_numbered, site_of}

-- ---- the kinds of indices

-- a view of it is given
abbrev gives_view : Purpose → Bool
gives_view (Gives ampersand view first) = true
gives_view purpose = false

-- a number is given as a view under `&`, and a row without
number-given : (at : At) (kind : Kind) (width : Width) (is_const : Bool) (marks : SeenMarks) (purpose : Purpose) → shape_of_object kind marks ≡ shapes.Number → clean_place at kind width is_const marks purpose
    → ampersand_of purpose ≡ gives_view purpose
number-given at kind width is_const marks (Gives ampersand view first) is c = (given-by at ampersand view first kind width is_const marks shapes.Number is c).given
number-given at kind width is_const marks purpose is c = refl

row-given : (at : At) (kind : Kind) (width : Width) (is_const : Bool) (marks : SeenMarks) (purpose : Purpose) → shape_of_object kind marks ≡ shapes.Row → clean_place at kind width is_const marks purpose → ampersand_of purpose ≡ false
row-given at kind width is_const marks (Gives ampersand view first) is c = is-false ampersand (given-by at ampersand view first kind width is_const marks shapes.Row is c).given
row-given at kind width is_const marks purpose is c = refl

-- the last index of a number, into an array and into a view
last-bound : (length : ℕ) (purpose : Purpose) → ampersand_of purpose ≡ gives_view purpose → sites.Bound (length + edge (use_of purpose)) ≡ (if ampersand_of purpose then sites.Bound (length + 1) else sites.Bound length)
last-bound length (Gives ampersand view first) is = rw is refl
last-bound length purpose is = ap sites.Bound (omega arith)

last-view : (purpose : Purpose) → ampersand_of purpose ≡ gives_view purpose → view_kind (use_of purpose) ≡ (if ampersand_of purpose then sites.ViewEdge else sites.ViewBound)
last-view (Gives ampersand view first) is = rw is refl
last-view purpose is = refl

abbrev named_as : ℕ → Object → TiedObject
named_as number object = record { number = number; width = object.width; rows = object.rows; columns = object.columns; view = object.view }

-- by the kinds whose objects take these marks
indices-same : (at : At) (kind : Kind) (width : Width) (is_const : Bool) (marks : SeenMarks) (purpose : Purpose) (object : Object) (number : ℕ) → object.view ≡ is_pointing kind → Shaped kind object → clean_place at kind width is_const marks purpose
    → SameIndices (λ site. site) marks purpose (Some object) (named_as number object)
indices-same at kinds.Scalar width is_const (with_marks.Once mark) purpose object number v s c = absurd (never mark c.array)
indices-same at kinds.Array width is_const (with_marks.Once mark) purpose object number v s c =
    let line : (object.columns == 0) ≡ true = right (not (object.rows == 0)) _ (right (not object.view) _ s) in
    λ token. ap (site_of token) (rw (v, line) (last-bound object.rows purpose (number-given at kinds.Array width is_const (with_marks.Once mark) purpose refl c)))
indices-same at kinds.Table width is_const (with_marks.Once mark) purpose object number v s c =
    let table : (object.columns == 0) ≡ false = is-false _ (right (not (object.rows == 0)) _ (right (not object.view) _ s)) in
    λ token. ap (site_of token) (rw (v, table, row-given at kinds.Table width is_const (with_marks.Once mark) purpose refl c) refl)
indices-same at kinds.View width is_const (with_marks.Once mark) purpose object number v s c =
    λ token. ap (site_of token) (rw v (last-view purpose (number-given at kinds.View width is_const (with_marks.Once mark) purpose refl c)))
indices-same at kinds.Scalar width is_const (with_marks.Twice mark) purpose object number v s c = absurd (never mark c.array)
indices-same at kinds.Table width is_const (with_marks.Twice mark) purpose object number v s c = (
  λ token. ap (site_of token) (rw v refl),
  λ token. ap (site_of token) (rw v (last-bound object.columns purpose (number-given at kinds.Table width is_const (with_marks.Twice mark) purpose refl c))),
)
indices-same at kind width is_const (with_marks.Twice mark) purpose object number v s c = absurd (never at c.shape)
indices-same at kind width is_const marks purpose object number v s c = tt

kinds-keep : (source : Typed) (items : List Item) → Keeps (λ site. site) source items Shaped is_sound
kinds-keep source items = record {
  indices = λ at kind width is_const named marks purpose o p c.
      subst (SameIndices (λ site. site) marks purpose (Some o.object)) (sym o.tied_as) (indices-same at kind width is_const marks purpose o.object named.number o.views o.shape c);
}

-- ---- things

-- the site of the number of a token is this one
abbrev IsThere : Typed → Site → Type 0
IsThere source site = slice_get source.sites (number_in (map token_of source.sites) site.tok) ≡ Some site

thing-of-kind : (source : Typed) (thing : Thing) → is_numbered (map token_of source.sites) thing ≡ true → All (IsThere source) (keyed (λ site. site) thing) → IsOfKind source thing
thing-of-kind source (Mark at None kind) p q = tt
thing-of-kind source (Mark at (Some number) None) p q = cc
thing-of-kind source (Mark at (Some number) (Some kind)) p q =
    subst (λ (s : Option Site). HasKind s (Some kind)) (sym (ap (slice_get source.sites) (eqb-true number _ p) ∙ All-head (IsThere source) (site_of at kind) [] q)) refl
thing-of-kind source thing p q = tt

-- ---- sources

pub kinds-agree : (program : Program) (source : Typed) → AllSpelled program → IsTyped program source → HasOwnTokens source → All (IsOfKind source) (in_source source)
kinds-agree program source spelled is own =
    stands-hold (λ site. site) program source is.tied
    (sites-stand (λ site. site) program source Shaped is_sound sound-clean sound-shapes (kinds-keep source program.items) is.tied (all-sound (seen_of program) (seen-clean program is.faultless) spelled))
    (IsThere source) (IsOfKind source) (thing-of-kind source) (λ k d less. site-at source.sites (tokens-rise source.sites is.tied.in_order own) k d less)
