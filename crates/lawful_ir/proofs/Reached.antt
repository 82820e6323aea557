-- What stands in the tree of a place is what stands in that place.
use Rattle.std.proofs.Common.{◌≡◌, ℕ, ◌+◌, List, [], ◌∷◌, ◌++◌, Bool, true, false, refl, ap, ◌∙◌, append-nil, arith}
use Rattle.std.proofs.lemmas.Bool.Decides.{nat_tests}
use Rattle.std.specs.Prelude.{◌==◌, slice_get, if◌then◌else◌, Option, Some, None, option_map}
use Rattle.sat_base.specs.declared.name.At.{At}
use Rattle.operator_meaning.specs.declared.object.Object.{Object}
use Rattle.operator_meaning.specs.declared.site.SiteKind.{SiteKind}
use Rattle.operator_meaning.specs.declared.site.SiteKind.TheVariants as sites
use Rattle.c_typed.specs.declared.call.TypedArg.TheOpen as node
use Rattle.c_typed.specs.declared.typed.Typed.{Typed}
use Rattle.source_runs.specs.declared.location.Access.{Access}
use Rattle.source_runs.specs.declared.location.Access.TheVariants.{Element, Address}
use Rattle.source_runs.specs.Shapes.{shape_of}
use Rattle.source_runs.specs.Steps.{edge as tree_edge}
use Rattle.typed_meaning.specs.Expressions.{site_at}
use Rattle.ir_arena.specs.Tree as tree
use Rattle.ir_arena.specs.Tree.{IrTree, IrTarget, IrTrees}
use Rattle.source_trees.specs.Expressions.{one, plain_site, indexed, index_kind as tree_kind, of_place as tree_place}
use Rattle.lawful_sources.specs.Expressions.{Look, Placed, edge, index_kind, first_kind, second_kind, view_kind, of_place}
use Rattle.lawful_sources.specs.Rows.{if_object, reaches, place_fits}
use Rattle.lawful_sources.specs.Things.{Marks, Bare, Once, Twice, Star, Use, Read, Written, Given, Thing, Place, Mark}
use Rattle.lawful_ir.specs.Positions.{TreeThing, Of, Indexing, plainly, is_kind}
use Rattle.lawful_ir.specs.Walk.{is_marked, marks_in, marked, index_position, stands, target_stands, each_stands}
use Rattle.lawful_ir.proofs.Alike.{left, head, never, fine, moved, Agrees, setting_of, Goes, nothing, along, next}
use Rattle.lawful_ir.proofs.Marked.{Walks, plain-goes}

-- a view of a place is given where its address is
abbrev pub access_of : Use → Access
access_of Read = Element
access_of Written = Element
access_of (Given taken) = Address

pub same-number : (n : ℕ) → (n == n) ≡ true
same-number n = grind (arith, nat_tests)

-- an index has the kind that it has
same-view : (aim : Use) → is_kind (view_kind aim) (view_kind aim) ≡ true
same-view Read = refl
same-view Written = refl
same-view (Given taken) = refl

same-kind : (view flat : Bool) (aim : Use) (n m : ℕ) → (kind : SiteKind) → kind ≡ (if view then view_kind aim else (if flat then sites.Bound n else sites.Bound m)) → is_kind kind kind ≡ true
same-kind true flat aim n m kind is = rw is (same-view aim)
same-kind false true aim n m kind is = rw is (same-number n)
same-kind false false aim n m kind is = rw is (same-number m)

-- there is an object, where a place reaches something
pub there : (x : Option Object) (holds : Object → Bool) → if_object x holds ≡ true → (o : Object) × (x ≡ Some o)
there None holds p = never p
there (Some o) holds p = (o, refl)

pub both-are : (xs ys zs ws : List TreeThing) → xs ≡ zs → ys ≡ ws → xs ++ ys ≡ zs ++ ws
both-are xs ys zs ws one other = rw (one, other) refl

module _ (source tables : Typed) (numbers : List ℕ) (place : ℕ → ℕ) (agrees : Agrees source tables numbers place) where
  object-there : (object : ℕ) (marks : Marks) (aim : Use) → fine source (Place object marks aim) ≡ true → (o : Object) × (slice_get source.objects object ≡ Some o)
  object-there object marks aim p = there (slice_get source.objects object) (λ (o : Object). reaches o marks aim) (left (place_fits source (Place object marks aim)) _ p)

  -- an object with indices, as an array or through a view
  by-view : (object : ℕ) (o : Object) (index : IrTrees) (aim : Use) (view : Bool) → o.view ≡ view → slice_get tables.objects object ≡ Some (moved place o) → is_marked (marks_in index) ≡ true
      → target_stands tables (if view then tree.ThroughView object index else tree.Element object index) aim
      ≡ Of (Place object (marks_in index) aim) ∷ each_stands tables index (index_position (Some (moved place o)) aim (marks_in index)) 0
  by-view object o index aim true is at marks = rw (at, marks, is) refl
  by-view object o index aim false is at marks = rw (at, marks, is) refl

  moved-there : (object : ℕ) (o : Object) → slice_get source.objects object ≡ Some o → slice_get tables.objects object ≡ Some (moved place o)
  moved-there object o at = agrees.objects object ∙ ap (option_map (moved place)) at

  target-is : (object : ℕ) (o : Object) (index : IrTrees) (aim : Use) → slice_get source.objects object ≡ Some o → is_marked (marks_in index) ≡ true
      → target_stands tables (indexed (shape_of source.objects object) index) aim
      ≡ Of (Place object (marks_in index) aim) ∷ each_stands tables index (index_position (Some (moved place o)) aim (marks_in index)) 0
  target-is object o index aim at marks = rw at (by-view object o index aim o.view refl (moved-there object o at) marks)

  -- an index that has the kind that is due
  one-index : (site : ℕ) (kind due : SiteKind) (part : IrTree) → kind ≡ due → is_kind due due ≡ true
      → stands tables (plain_site site kind (one part)) (Indexing due 1) ≡ marked tables site due ∷ stands tables part plainly
  one-index site kind due part is same = rw (is, same) (ap (λ (l : List TreeThing). marked tables site due ∷ l) (append-nil (stands tables part plainly)))

  -- the tree of a place, by what that is
  pub record Reaches (target : Access → IrTarget) (placed : Placed) : Type 0 where
    pub reached : (aim : Use) → Goes source tables numbers (target_stands tables (target (access_of aim)) aim) (placed aim)

  once-kind : (object : ℕ) (o : Object) (aim : Use) → slice_get source.objects object ≡ Some o → tree_kind (access_of aim) (shape_of source.objects object) ≡ index_kind (Some (moved place o)) aim
  once-kind object o Read at = rw at refl
  once-kind object o Written at = rw at refl
  once-kind object o (Given taken) at = rw at refl

  second-bound : (object : ℕ) (o : Object) (aim : Use) → slice_get source.objects object ≡ Some o → sites.Bound ((shape_of source.objects object).columns + tree_edge (access_of aim)) ≡ second_kind (Some (moved place o)) aim
  second-bound object o Read at = rw at refl
  second-bound object o Written at = rw at refl
  second-bound object o (Given taken) at = rw at refl

  -- the kinds do not depend on functions
  due-once : (o : Object) (x : Option Object) (aim : Use) → x ≡ Some o → index_kind (Some (moved place o)) aim ≡ index_kind x aim
  due-once o x aim is = rw is refl

  due-first : (o : Object) (x : Option Object) → x ≡ Some o → first_kind (Some (moved place o)) ≡ first_kind x
  due-first o x is = rw is refl

  due-second : (o : Object) (x : Option Object) (aim : Use) → x ≡ Some o → second_kind (Some (moved place o)) aim ≡ second_kind x aim
  due-second o x aim is = rw is refl

  first-bound : (object : ℕ) (o : Object) → slice_get source.objects object ≡ Some o → sites.Bound (shape_of source.objects object).rows ≡ first_kind (Some (moved place o))
  first-bound object o at = rw at refl

  own-kind : (o : Object) (aim : Use) → is_kind (index_kind (Some o) aim) (index_kind (Some o) aim) ≡ true
  own-kind o aim = same-kind o.view (o.columns == 0) aim (o.rows + edge aim) o.rows (index_kind (Some o) aim) refl

  -- an index that is a site, by the kind that the source has for it
  index-goes : (mark_at : At) (site : Option ℕ) (due is : SiteKind) (things : List TreeThing) (list : List Thing) → due ≡ is → Goes source tables numbers things list
      → Goes source tables numbers (marked tables (site_at site) due ∷ things) (Mark mark_at site (Some is) ∷ list)
  index-goes mark_at site due is things list same goes =
      next source tables numbers (marked tables (site_at site) due ∷ []) things (Mark mark_at site (Some is)) list (λ p. ap (λ (k : SiteKind). marked tables (site_at site) k ∷ []) same) goes

  place-goes : (object : ℕ) (marks : Marks) (aim : Use) (things : List TreeThing) (list : List Thing) → Goes source tables numbers things list
      → Goes source tables numbers (Of (Place object marks aim) ∷ things) (Place object marks aim ∷ list)
  place-goes object marks aim things list goes = next source tables numbers (Of (Place object marks aim) ∷ []) things (Place object marks aim) list (λ p. refl) goes

  pub plain-reaches : (at : At) (object : ℕ) → Reaches (tree_place (setting_of source numbers) (node.Plain at object)) (of_place source (node.Plain at object))
  unfolding of_place tree_place
  plain-reaches at object = record { reached = λ aim. place-goes object Bare aim [] [] (nothing source tables numbers) }

  pub index-reaches : (at : At) (object : ℕ) (mark_at : At) (site : Option ℕ) (part : IrTree) (look : Look) → Walks source tables numbers part look
      → Reaches (tree_place (setting_of source numbers) (node.Index at object mark_at site part)) (of_place source (node.Index at object mark_at site look))
  unfolding of_place tree_place
  index-reaches at object mark_at site part look walks =
      record {
        reached = λ aim. record {
          is = λ p.
              let o : (o : Object) × (slice_get source.objects object ≡ Some o) = object-there object Once aim (head (fine source) _ _ p) in
              target-is object o.0 _ aim o.1 refl
              ∙ ap (λ (l : List TreeThing). Of (Place object Once aim) ∷ l) (append-nil _ ∙ one-index (site_at site) _ _ part (once-kind object o.0 aim o.1) (own-kind o.0 aim))
              ∙ (place-goes object Once aim _ _ (index-goes mark_at site _ _ _ _ (due-once o.0 _ aim o.1) (plain-goes source tables numbers part look walks))).is p;
        };
      }

  pub table-reaches : (at : At) (object : ℕ) (first_at : At) (first_site : Option ℕ) (second_at : At) (second_site : Option ℕ) (first second : IrTree) (a b : Look) → Walks source tables numbers first a → Walks source tables numbers second b
      → Reaches (tree_place (setting_of source numbers) (node.Index2 at object first_at first_site first second_at second_site second)) (of_place source (node.Index2 at object first_at first_site a second_at second_site b))
  unfolding of_place tree_place
  table-reaches at object first_at first_site second_at second_site first second a b walks others =
      record {
        reached = λ aim. record {
          is = λ p.
              let o : (o : Object) × (slice_get source.objects object ≡ Some o) = object-there object Twice aim (head (fine source) _ _ p) in
              target-is object o.0 _ aim o.1 refl
              ∙ ap (λ (l : List TreeThing). Of (Place object Twice aim) ∷ l)
              (both-are _ _ _ _ (one-index (site_at first_site) _ (first_kind (Some (moved place o.0))) first (first-bound object o.0 o.1) (same-number o.0.rows))
              (append-nil _ ∙ one-index (site_at second_site) _ (second_kind (Some (moved place o.0)) aim) second (second-bound object o.0 aim o.1) (same-number (o.0.columns + edge aim))))
              ∙ (place-goes object Twice aim _ _ (index-goes first_at first_site _ _ _ _ (due-first o.0 _ o.1)
              (along source tables numbers _ _ _ _ (plain-goes source tables numbers first a walks) (index-goes second_at second_site _ _ _ _ (due-second o.0 _ aim o.1) (plain-goes source tables numbers second b others))))).is p;
        };
      }

  pub star-reaches : (star_at : At) (site : Option ℕ) (at : At) (object : ℕ) → Reaches (tree_place (setting_of source numbers) (node.Deref star_at site at object)) (of_place source (node.Deref star_at site at object))
  unfolding of_place tree_place
  star-reaches star_at site at object =
      record {
        reached = λ aim. record {
          is = λ p.
              let o : (o : Object) × (slice_get source.objects object ≡ Some o) = object-there object Star aim (head (fine source) _ _ p) in
              target-is object o.0 _ aim o.1 refl ∙ (place-goes object Star aim _ _ (index-goes star_at site _ _ _ _ refl (nothing source tables numbers))).is p;
        };
      }
