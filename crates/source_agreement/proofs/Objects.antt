-- A tree does the same over objects that have the same shapes and start alike. So it makes no difference that the
-- functions in the objects have new numbers.
use Rattle.std.proofs.Common.{◌≡◌, ℕ, zero, suc, ◌+◌, ◌==◌, List, [], ◌∷◌, map, refl, ap, if◌then◌else◌}
use Rattle.std.specs.Prelude.{ℤ, pos, Option, Some, None, slice_get, replicate}
use Rattle.std.specs.Option.{unwrap_or}
use Rattle.std.proofs.lemmas.List.{length-map}
use Rattle.std.proofs.lemmas.Option.{slice_get-map}
use Rattle.sat_base.specs.declared.name.At.{At}
use Rattle.operator_meaning.specs.declared.object.Object.{Object}
use Rattle.operator_meaning.specs.declared.object.Storage.{Storage}
use Rattle.operator_meaning.specs.declared.object.Storage.TheVariants.{Static, Automatic, Parameter}
use Rattle.c_tree.specs.declared.expression.UnaryMark.TheVariants as unary
use Rattle.c_tree.specs.declared.simple.AssignMark.{AssignMark}
use Rattle.source_runs.specs.declared.halt.Flow.TheVariants.{Normal}
use Rattle.source_runs.specs.declared.location.Access.TheVariants as access
use Rattle.source_runs.specs.declared.location.Given.{Given}
use Rattle.source_runs.specs.declared.location.Location.{Location}
use Rattle.source_runs.specs.Shapes.{shape_of, opening_of}
use Rattle.source_runs.specs.State.{Kept, location, converted, number_at, with_overflow, written}
use Rattle.source_runs.specs.Steps.{inside, place_of, in_row, named, pointed, opened, given_to, given_to_all, opening_state}
use Rattle.source_runs.specs.Runs.{Run, gives, ◌>>=◌, ◌>>◌, reading, changing, choosing, at_site, found, gathered, all_of}
use Rattle.source_runs.specs.Loops.{in_sequence}
use Rattle.source_runs.specs.Marks.{unary_meaning, binary_meaning, assigned}
use Rattle.source_runs.specs.Calls.{sample_out}
use Rattle.weight_table.specs.declared.table.Table.{Table}
use Rattle.typed_meaning.specs.Expressions.{Setting, Called, site_at, index_meaning, indices_meaning}
use Rattle.typed_meaning.specs.Statements.{assignment_meaning, start_meaning, step_mark, return_meaning, condition_or_one}
use Rattle.ir_arena.specs.Tree.{IrTree, IrTarget, IrTrees, Constant, Read, Address, Operate, Convert, Not, Invert, Binary, Choose, Call, ReadFlag, Left, Write, Step, WriteFlag, Out, AddCount, Start, Empty, Block, If, Loop, Leave, Return, Variable, Element, ThroughView, end, more}
use Rattle.tree_meaning.specs.Parts.{Acts, NodeMeaning, of_value, of_change, of_flow, of_view, of_start, of_site, checked_index, index_or_zero, location_meaning, openings, loop_meaning}
use Rattle.tree_meaning.specs.Trees.{meaning_with, target_with, meanings_with}
use Rattle.whole_trees.specs.Sources.{renumbered}

-- ---- objects with new numbers

module _ (definitions : List (ℕ × At)) where
  abbrev pub changed : List Object → List Object
  changed objects = map (renumbered definitions) objects

  shape_where : (objects : List Object) (number : ℕ) (object : Option Object) → slice_get objects number ≡ object → shape_of (changed objects) number ≡ shape_of objects number
  shape_where objects number None is = rw (slice_get-map (renumbered definitions) objects number, is) refl
  shape_where objects number (Some object) is = rw (slice_get-map (renumbered definitions) objects number, is) refl

  pub shapes_alike : (objects : List Object) → shape_of (changed objects) ≡ shape_of objects
  shapes_alike objects = λ i number. shape_where objects number (slice_get objects number) refl i

  opened_where : (objects : List Object) (number : ℕ) (kept : Kept) (object : Object) (storage : Storage) → slice_get objects number ≡ Some object → object.storage ≡ storage
      → opened (changed objects) number kept ≡ opened objects number kept
  opened_where objects number kept object Static is stored = rw (slice_get-map (renumbered definitions) objects number, is, stored) refl
  opened_where objects number kept object Automatic is stored = rw (slice_get-map (renumbered definitions) objects number, is, stored) refl
  opened_where objects number kept object Parameter is stored = rw (slice_get-map (renumbered definitions) objects number, is, stored) refl

  opened_at : (objects : List Object) (number : ℕ) (kept : Kept) (object : Option Object) → slice_get objects number ≡ object
      → opened (changed objects) number kept ≡ opened objects number kept
  opened_at objects number kept None is = rw (slice_get-map (renumbered definitions) objects number, is) refl
  opened_at objects number kept (Some object) is = opened_where objects number kept object object.storage is refl

  pub opened_alike : (objects : List Object) → opened (changed objects) ≡ opened objects
  opened_alike objects = λ i number kept. opened_at objects number kept (slice_get objects number) refl i

  pub given_alike : (objects : List Object) (params : List ℕ) (givens : List Given) → given_to_all (changed objects) params givens ≡ given_to_all objects params givens
  given_alike objects [] givens = refl
  given_alike objects (param ∷ params) [] = refl
  given_alike objects (param ∷ params) (given ∷ givens) =
      λ i kept. given_alike objects params givens i (given_to (shapes_alike objects i param) given kept)

  values_alike : (objects : List Object) → map opening_of (changed objects) ≡ map opening_of objects
  values_alike [] = refl
  values_alike (object ∷ objects) = ap (λ (values : List (List ℤ)). opening_of object ∷ values) (values_alike objects)

  pub opening_alike : (objects : List Object) (input : List ℤ) → opening_state (changed objects) input ≡ opening_state objects input
  opening_alike objects input =
      λ i. record { numbers = values_alike objects i; views = replicate (length-map objects (renumbered definitions) i) (location 0 0); overflow = pos 0; count = 0; left = input; output = [] }

-- ---- trees over objects that are alike

module _ (objects others : List Object) (shapes : shape_of objects ≡ shape_of others) (opens : opened objects ≡ opened others) (table : Table) (turns : ℕ) where
  abbrev one : Setting
  one = record { objects = objects; table = table; turns = turns }

  abbrev other : Setting
  other = record { objects = others; table = table; turns = turns }

  checked_same : (object site : ℕ) (index : Option (Run ℤ)) → checked_index one object site index ≡ checked_index other object site index
  unfolding index_meaning
  checked_same object site None = λ i which. found site (pointed (shapes i object))
  checked_same object site (Some index) = λ i which. index >>= (λ x. found site (place_of which (shapes i object) x))

  location_same : (object : ℕ) (parts : List NodeMeaning) → location_meaning one object parts ≡ location_meaning other object parts
  unfolding indices_meaning
  location_same object [] = λ i which. reading (named (shapes i object))
  location_same object (check ∷ []) = checked_same object check.site check.index
  location_same object (row ∷ column ∷ others) =
      λ i which. index_or_zero row >>= (λ x. at_site row.site (inside x (shapes i object).rows) >>= (λ r.
      index_or_zero column >>= (λ y. at_site column.site (in_row which (shapes i object) r y))))

  assignment_same : (target : Run Location) (mark : AssignMark) (site : ℕ) (value : Run ℤ) → assignment_meaning one target mark site value ≡ assignment_meaning other target mark site value
  unfolding assignment_meaning
  assignment_same target mark site value =
      λ i. target >>= (λ to. reading (number_at to) >>= (λ old. value >>= (λ right.
      assigned mark site old right >>= (λ new. changing (written (shapes i to.object).width to new)))))

  start_same : (object : ℕ) (value : Option (Run Given)) → start_meaning one object value ≡ start_meaning other object value
  unfolding start_meaning
  start_same object None = λ i. changing (opens i object)
  start_same object (Some value) = λ i. value >>= (λ given. changing (given_to (shapes i object) given))

  openings_same : (count object : ℕ) (starts : List NodeMeaning) → openings one count object starts ≡ openings other count object starts
  openings_same zero object starts = refl
  openings_same (suc count) object [] = λ i. start_same object None i ∷ openings_same count (object + 1) [] i
  openings_same (suc count) object (start ∷ starts) =
      λ i. if start.object == object
      then start_same object (Some start.argument) i ∷ openings_same count (object + 1) starts i
      else start_same object None i ∷ openings_same count (object + 1) (start ∷ starts) i

  module _ (acts : Acts) (called : Called) where
    mutual
      pub tree_same : (tree : IrTree) → meaning_with acts one called tree ≡ meaning_with acts other called tree
      tree_same (Constant value) = refl
      tree_same (Read target) = λ i. of_value (target_same target i access.Element >>= (λ at. reading (number_at at)))
      tree_same (Address target) = λ i. of_view (target_same target i access.Address)
      tree_same (Operate site kind operands weight) = λ i. of_site acts site kind (trees_same operands i) weight
      tree_same (Convert cast width part) = λ i. of_value ((tree_same part i).value >>= (λ x. gives (converted width x)))
      tree_same (Not part) = λ i. of_value ((tree_same part i).value >>= unary_meaning unary.Not 0)
      tree_same (Invert part) = λ i. of_value ((tree_same part i).value >>= unary_meaning unary.Invert 0)
      tree_same (Binary mark left right) = λ i. of_value (binary_meaning mark 0 (tree_same left i).value (tree_same right i).value)
      tree_same (Choose cond this that) = λ i. of_value (choosing (tree_same cond i).value (tree_same this i).value (tree_same that i).value)
      tree_same (Call function args) = λ i. of_value (gathered [] (map (λ (part : NodeMeaning). part.argument) (trees_same args i)) >>= called function)
      tree_same (ReadFlag word) = refl
      tree_same Left = refl
      tree_same (Write target mark width site value) =
          λ i. of_change (assignment_same (target_same target i access.Element) mark (site_at site) (tree_same value i).value i)
      tree_same (Step target up width site) = λ i. of_change (assignment_same (target_same target i access.Element) (step_mark up) site (gives (pos 1)) i)
      tree_same (WriteFlag value) = λ i. of_change ((tree_same value i).value >>= (λ x. changing (with_overflow x)))
      tree_same (Out value) = λ i. of_value ((tree_same value i).value >>= (λ x. sample_out x >> gives (pos 0)))
      tree_same (AddCount weight) = refl
      tree_same (Start object value) = λ i. of_start object (tree_same value i).argument
      tree_same Empty = refl
      tree_same (Block first count starts parts) =
          λ i. of_flow (all_of (openings_same count first (trees_same starts i) i) >> in_sequence (map (λ (part : NodeMeaning). part.flow) (trees_same parts i)))
      tree_same (If cond this that) =
          λ i. of_flow (choosing (tree_same cond i).value (tree_same this i).flow (unwrap_or (slice_get (map (λ (part : NodeMeaning). part.flow) (trees_same that i)) 0) (gives Normal)))
      tree_same (Loop cut tests_first first cond last body) =
          λ i. of_flow (all_of (map (λ (part : NodeMeaning). part.change) (trees_same first i))
          >> loop_meaning tests_first turns (condition_or_one (slice_get (map (λ (part : NodeMeaning). part.value) (trees_same cond i)) 0))
          (all_of (map (λ (part : NodeMeaning). part.change) (trees_same last i))) (tree_same body i).flow)
      tree_same (Leave again) = refl
      tree_same (Return value) = λ i. of_flow (return_meaning (slice_get (map (λ (part : NodeMeaning). part.value) (trees_same value i)) 0))

      target_same : (target : IrTarget) → target_with acts one called target ≡ target_with acts other called target
      target_same (Variable object) = location_same object []
      target_same (Element object index) = λ i. location_same object (trees_same index i) i
      target_same (ThroughView view index) = λ i. location_same view (trees_same index i) i

      trees_same : (trees : IrTrees) → meanings_with acts one called trees ≡ meanings_with acts other called trees
      trees_same end = refl
      trees_same (more first rest) = λ i. tree_same first i ∷ trees_same rest i
