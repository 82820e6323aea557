-- What stands in a tree, in the order of the tokens of its source. A tree is read against its own tables: its objects,
-- functions, sites and table of weights as those of a source.
use Rattle.std.specs.Prelude.{ℕ, zero, suc, ◌+◌, ◌==◌, nat_le, Bool, true, false, not, ◌&&◌, if◌then◌else◌, ℤ, List, [], ◌∷◌, ◌++◌, flat_map, map, length, slice_get, Option, Some, None, option_map, unwrap_or, is_some, is_none}
use Rattle.std.specs.List.{list_any}
use Rattle.sat_base.specs.declared.name.At.{At}
use Rattle.sat_base.specs.declared.width.Width.{Width}
use Rattle.sat_base.specs.declared.width.Width.TheVariants.{W32}
use Rattle.operator_meaning.specs.declared.object.Object.{Object}
use Rattle.operator_meaning.specs.declared.object.Site.{Site}
use Rattle.operator_meaning.specs.declared.site.SiteKind.{SiteKind}
use Rattle.operator_meaning.specs.declared.site.SiteKind.TheVariants as sites
use Rattle.weight_table.specs.declared.counted.Counted.{Counted}
use Rattle.weight_table.specs.declared.counted.Counted.TheVariants as counted
use Rattle.weight_table.specs.Weight.{weight_of}
use Rattle.c_tree.specs.declared.expression.BinaryMark.TheVariants as binary
use Rattle.c_tree.specs.declared.expression.UnaryMark.TheVariants as unary
use Rattle.constant_expressions.specs.Folding.{converted, unary_value, binary_value}
use Rattle.c_typed.specs.declared.call.Callee.{Callee}
use Rattle.c_typed.specs.declared.call.Callee.TheVariants.{Function, Operator, Test, SampleIn, SampleLeft, SampleOut}
use Rattle.c_typed.specs.declared.typed.Typed.{Typed}
use Rattle.source_runs.specs.Calls.{table_numbered}
use Rattle.source_runs.specs.Shapes.{shape_of}
use Rattle.ir_arena.specs.Tree as tree
use Rattle.ir_arena.specs.Tree.{IrTree, IrTarget, IrTrees, TreeFunction, IrWhole}
use Rattle.source_trees.specs.Statements.{object_in}
use Rattle.lawful_sources.specs.Expressions.{binary_kind, first_kind, second_kind, index_kind, opposite, constants_in}
use Rattle.lawful_sources.specs.Lawful.{at_of}
use Rattle.lawful_sources.specs.Objects.{same_truth}
use Rattle.lawful_sources.specs.Rows.{same_width}
use Rattle.lawful_sources.specs.Statements.{assign_kind, step_kind, due_by}
use Rattle.lawful_sources.specs.Things.{Marks, Bare, Once, Twice, Star, Use, Read, Written, Given, Place, Mark, Begins, Constant, Leave, Return, taken_at, taken_by_object}
use Rattle.lawful_ir.specs.Positions.{TreeThing, Of, Misplaced, Position, Valued, Indexing, Starting, Acting, Body, given_as, plainly, placed_if, valued, viewed, acted, called, stated, blocked, spot_in, inside, inside_loop, returning, is_kind}

-- ---- what a node is by itself

-- the integer that it is
abbrev pub integer_in : IrTree → Option ℤ
integer_in (tree.Constant value) = Some value
integer_in node = None

-- the relational constant that it is, if it is one
abbrev pub constant_in : IrTree → List ℤ
constant_in (tree.Constant value) = value ∷ []
constant_in (tree.Operate site sites.Opposite (tree.more part tree.end) weight) = opposite (integer_in part)
constant_in node = []

abbrev pub operated_value : SiteKind → List (Option ℤ) → Option ℤ
operated_value sites.Opposite (part ∷ []) = unary_value unary.Minus part
operated_value sites.Sum (left ∷ right ∷ []) = binary_value binary.Plus left right
operated_value sites.Difference (left ∷ right ∷ []) = binary_value binary.Minus left right
operated_value sites.Product (left ∷ right ∷ []) = binary_value binary.Times left right
operated_value kind parts = None

abbrev mutual
  -- its value, if it is a constant expression
  pub value_in : IrTree → Option ℤ
  value_in (tree.Constant value) = Some value
  value_in (tree.Operate site kind operands weight) = operated_value kind (values_in operands)
  value_in (tree.Convert cast width part) = converted width (value_in part)
  value_in node = None

  pub values_in : IrTrees → List (Option ℤ)
  values_in tree.end = []
  values_in (tree.more first rest) = value_in first ∷ values_in rest

abbrev pub count_in : IrTrees → ℕ
count_in tree.end = 0
count_in (tree.more first rest) = suc (count_in rest)

-- `*x` checks an offset of 0, which no operand gives
abbrev pub one_mark : IrTree → Marks
one_mark (tree.Operate site kind tree.end weight) = Star
one_mark node = Once

-- the marks of a place by its indices, of which there are one or two
abbrev pub marks_in : IrTrees → Marks
marks_in (tree.more only tree.end) = one_mark only
marks_in (tree.more first (tree.more second tree.end)) = Twice
marks_in indices = Bare

abbrev pub is_marked : Marks → Bool
is_marked Bare = false
is_marked marks = true

abbrev pub started_in : IrTree → ℕ
started_in (tree.Start object value) = object
started_in node = 0

-- ---- what it is among others

abbrev pub is_view : Option Object → Bool
is_view None = false
is_view (Some object) = object.view

-- where an index of a place stands
abbrev pub index_position : Option Object → Use → Marks → ℕ → Position
index_position object aim Bare place = Acting
index_position object aim Once place = Indexing (index_kind object aim) 1
index_position object aim Twice zero = Indexing (first_kind object) 1
index_position object aim Twice (suc place) = Indexing (second_kind object aim) 1
index_position object aim Star place = Indexing sites.ViewBound 0

-- an object that starts with a value, and what stands there
pub record Started : Type 0 where
  pub object : ℕ
  pub things : List TreeThing

-- These many objects, of which the first has this number, where some start with a value.
abbrev pub begun_along : ℕ → ℕ → List Started → List TreeThing
begun_along number zero [] = []
begun_along number zero (start ∷ starts) = Misplaced ∷ []
begun_along number (suc count) [] = Of (Begins number None) ∷ begun_along (number + 1) count []
begun_along number (suc count) (start ∷ starts) =
    if start.object == number then start.things ++ begun_along (number + 1) count starts
    else Of (Begins number None) ∷ begun_along (number + 1) count (start ∷ starts)

-- the counting calls
abbrev pub counting : List Counted
counting = counted.Move16 ∷ counted.Move32 ∷ counted.Logic16 ∷ counted.Logic32 ∷ counted.Test ∷ []

abbrev pub nowhere_at : At
nowhere_at = record { tok = 0; pos = record { line = 0; col = 0 } }

-- where the site of this number stands
abbrev pub site_token : List Site → ℕ → At
site_token list site = unwrap_or (option_map at_of (slice_get list site)) nowhere_at

module _ (tables : Typed) where
  abbrev pub object_at : ℕ → Option Object
  object_at object = slice_get tables.objects object

  abbrev pub marked : ℕ → SiteKind → TreeThing
  marked site kind = Of (Mark (site_token tables.sites site) (Some site) (Some kind))

  -- an assignment has a site exactly where its mark is one
  abbrev pub marked_if_any : Option ℕ → Option SiteKind → List TreeThing
  marked_if_any None None = []
  marked_if_any (Some site) (Some kind) = marked site kind ∷ []
  marked_if_any site kind = Misplaced ∷ []

  -- ---- what is computed and checked

  -- a site that is no operator has no weight
  abbrev pub one_operand : Position → ℕ → SiteKind → ℕ → List (List TreeThing) → List TreeThing
  one_operand position site kind weight (part ∷ []) = placed_if (weight == 0) (valued position None (marked site kind ∷ part))
  one_operand position site kind weight operands = Misplaced ∷ []

  abbrev pub two_operands : Position → ℕ → SiteKind → ℕ → List (List TreeThing) → List TreeThing
  two_operands position site kind weight (left ∷ right ∷ []) = placed_if (weight == 0) (valued position None (left ++ (marked site kind ∷ right)))
  two_operands position site kind weight operands = Misplaced ∷ []

  -- by its operands where they are numbers, and where they are arguments
  abbrev pub computed : Position → ℕ → SiteKind → ℕ → List (List TreeThing) → List TreeThing → List TreeThing
  computed position site (sites.Call op) weight operands arguments =
      placed_if (weight == weight_of (table_numbered tables.weights) (counted.Call op)) (called position (Operator op) (length operands) (marked site (sites.Call op) ∷ arguments))
  computed position site sites.Sample weight operands arguments =
      placed_if (weight == 0) (called position SampleIn (length operands) (marked site sites.Sample ∷ arguments))
  computed position site sites.Opposite weight operands arguments = one_operand position site sites.Opposite weight operands
  computed position site sites.Sum weight operands arguments = two_operands position site sites.Sum weight operands
  computed position site sites.Difference weight operands arguments = two_operands position site sites.Difference weight operands
  computed position site sites.Product weight operands arguments = two_operands position site sites.Product weight operands
  computed position site kind weight operands arguments = Misplaced ∷ []

  abbrev pub operated : Position → ℕ → SiteKind → ℕ → List (List TreeThing) → List TreeThing → List TreeThing
  operated (Indexing due count) site kind weight operands arguments =
      placed_if (is_kind due kind && (weight == 0 && length operands == count)) (marked site due ∷ flat_map (λ (part : List TreeThing). part) operands)
  operated position site kind weight operands arguments = computed position site kind weight operands arguments

  -- what an operator or the reading of a sample takes
  abbrev pub operand_position : SiteKind → ℕ → Position
  operand_position (sites.Call op) place = given_as (taken_at tables (Operator op) place)
  operand_position kind place = given_as (taken_at tables SampleIn place)

  abbrev pub argument_position : Callee → ℕ → Position
  argument_position callee place = given_as (taken_at tables callee place)

  -- ---- places

  -- an array by its indices, or what a view reaches by its offset
  abbrev pub indexed : ℕ → Use → Bool → Marks → List TreeThing → List TreeThing
  indexed object aim through marks things =
      placed_if (is_marked marks && same_truth through (is_view (object_at object))) (Of (Place object marks aim) ∷ things)

  -- ---- statements

  -- a width of what is written is that of the object
  abbrev pub written : IrTarget → Width → List TreeThing → List TreeThing
  written target width things = placed_if (same_width width (shape_of tables.objects (object_in target)).width) things

  -- A `do` has a condition and nothing else in its head. Another loop may have none, which is 1.
  abbrev pub looping : Bool → ℕ → ℕ → ℕ → (first cond last body : List TreeThing) → List TreeThing
  looping true firsts conds lasts first cond last body = placed_if (nat_le conds 1) (first ++ (cond ++ (last ++ body)))
  looping false firsts conds lasts first cond last body = placed_if (conds == 1 && (firsts == 0 && lasts == 0)) (body ++ cond)

  abbrev mutual
    pub stands : IrTree → Position → List TreeThing
    stands (tree.Constant value) position = valued position None []
    stands (tree.Read target) position = valued position None (target_stands target Read)
    stands (tree.Address target) position = viewed position (λ taken. target_stands target (Given taken))
    stands (tree.Operate site kind operands weight) position =
        operated position site kind weight (numbers_stand operands) (each_stands operands (operand_position kind) 0)
    stands (tree.Convert cast width part) position = valued position (if cast then None else Some width) (stands part plainly)
    stands (tree.Not part) position = valued position None (stands part plainly)
    stands (tree.Invert part) position = valued position None (stands part plainly)
    stands (tree.Binary mark left right) position =
        placed_if (is_none (binary_kind mark)) (valued position None
        (stands left plainly ++ (map (λ value. Of (Constant value)) (constants_in mark (constant_in left) (constant_in right)) ++ stands right plainly)))
    stands (tree.Choose cond this other) position = valued position None (stands cond plainly ++ (stands this plainly ++ stands other plainly))
    stands (tree.Call function args) position =
        called position (Function function) (count_in args) (each_stands args (argument_position (Function function)) 0)
    stands (tree.ReadFlag pos) position = valued position None []
    stands tree.Left position = called position SampleLeft 0 []
    stands (tree.Write target mark width site value) position =
        acted position (written target width (target_stands target Written
        ++ (marked_if_any site (assign_kind mark) ++ stands value (Valued None (due_by mark (object_at (object_in target)))))))
    stands (tree.Step target up width site) position =
        acted position (written target width (target_stands target Written ++ (marked site (step_kind up) ∷ [])))
    stands (tree.WriteFlag value) position = acted position (stands value (Valued None (Some W32)))
    stands (tree.Out value) position = called position SampleOut 1 (stands value (argument_position SampleOut 0))
    -- which of the counting calls it is no longer shows
    stands (tree.AddCount weight) position =
        placed_if (list_any (λ what. weight == weight_of (table_numbered tables.weights) what) counting) (called position Test 0 [])
    stands (tree.Start object value) Starting = stands value (given_as (taken_by_object (object_at object))) ++ (Of (Begins object (Some (value_in value))) ∷ [])
    stands (tree.Start object value) position = Misplaced ∷ []
    stands tree.Empty position = stated position []
    stands (tree.Block first count starts parts) position =
        blocked position (begun_along first count (starts_stand starts) ++ each_stands parts (λ place. inside position) 0)
    stands (tree.If cond this other) position =
        placed_if (nat_le (count_in other) 1) (stated position (stands cond plainly ++ (stands this (inside position) ++ each_stands other (λ place. inside position) 0)))
    stands (tree.Loop cut tests_first first cond last body) position =
        stated position (looping tests_first (count_in first) (count_in cond) (count_in last)
        (each_stands first (λ place. Acting) 0) (each_stands cond (λ place. plainly) 0) (each_stands last (λ place. Acting) 0) (stands body (inside_loop position)))
    stands (tree.Leave again) position = stated position (Of (Leave (spot_in position).in_loop) ∷ [])
    stands (tree.Return value) position =
        placed_if (nat_le (count_in value) 1)
        (stated position (Of (Return (not (count_in value == 0)) (is_some (spot_in position).gives)) ∷ each_stands value (λ place. returning position) 0))

    pub target_stands : IrTarget → Use → List TreeThing
    target_stands (tree.Variable object) aim = Of (Place object Bare aim) ∷ []
    target_stands (tree.Element object index) aim =
        indexed object aim false (marks_in index) (each_stands index (index_position (object_at object) aim (marks_in index)) 0)
    target_stands (tree.ThroughView view index) aim =
        indexed view aim true (marks_in index) (each_stands index (index_position (object_at view) aim (marks_in index)) 0)

    -- what stands in each, one after the other, by its position
    pub each_stands : IrTrees → (ℕ → Position) → ℕ → List TreeThing
    each_stands tree.end position place = []
    each_stands (tree.more first rest) position place = stands first (position place) ++ each_stands rest position (place + 1)

    -- what stands in each number
    pub numbers_stand : IrTrees → List (List TreeThing)
    numbers_stand tree.end = []
    numbers_stand (tree.more first rest) = stands first plainly ∷ numbers_stand rest

    pub starts_stand : IrTrees → List Started
    starts_stand tree.end = []
    starts_stand (tree.more first rest) = record { object = started_in first; things = stands first Starting } ∷ starts_stand rest

  -- in the definition of a function
  abbrev pub function_stands : TreeFunction → List TreeThing
  function_stands function = stands function.body (Body (record { in_loop = false; gives = function.gives }))

  -- in all definitions
  abbrev pub whole_stands : IrWhole → List TreeThing
  whole_stands whole = flat_map function_stands whole.functions
