-- What stands in statements, blocks and functions.
use Rattle.std.specs.Prelude.{ℕ, Bool, true, false, List, [], ◌∷◌, ◌++◌, flat_map, slice_get, Option, Some, None, option_map, is_some}
use Rattle.sat_base.specs.declared.width.Width.{Width}
use Rattle.sat_base.specs.declared.width.Width.TheVariants.{W32}
use Rattle.operator_meaning.specs.declared.object.Object.{Object}
use Rattle.operator_meaning.specs.declared.site.SiteKind.{SiteKind}
use Rattle.operator_meaning.specs.declared.site.SiteKind.TheVariants as sites
use Rattle.c_tree.specs.declared.simple.AssignMark.{AssignMark}
use Rattle.c_tree.specs.declared.simple.AssignMark.TheVariants as assign
use Rattle.c_typed.specs.declared.expression.TypedExpr.{TypedExpr}
use Rattle.c_typed.specs.declared.place.TypedPlace.{TypedPlace, Plain, Index', Index2', Deref}
use Rattle.c_typed.specs.declared.simple.TypedSimple.{TypedSimple}
use Rattle.c_typed.specs.declared.simple.TypedSimple.TheVariants as simple
use Rattle.c_typed.specs.declared.statement.Start.{Start}
use Rattle.c_typed.specs.declared.statement.TypedBlock.{TypedBlock}
use Rattle.c_typed.specs.declared.statement.TypedStmt.{TypedStmt}
use Rattle.c_typed.specs.declared.statement.TypedStmt.TheOpen as node
use Rattle.c_typed.specs.declared.statement.TypedStmt.TheFolds.{fold-TypedStmt, fold-TypedBlock}
use Rattle.c_typed.specs.declared.typed.Typed.{Typed}
use Rattle.c_typed.specs.declared.typed.TypedFunction.{TypedFunction}
use Rattle.lawful_sources.specs.Things.{Written, Thing, Mark, Begins, Statement, Leave, Return, taken_by_object}
use Rattle.lawful_sources.specs.Expressions.{Argued, argument_look, in_place, in_call, in_expression}

-- ---- assignments, steps and calls

abbrev pub assign_kind : AssignMark → Option SiteKind
assign_kind assign.Plus = Some sites.Sum
assign_kind assign.Minus = Some sites.Difference
assign_kind assign.Times = Some sites.Product
assign_kind mark = None

abbrev pub step_kind : Bool → SiteKind
step_kind true = sites.Sum
step_kind false = sites.Difference

-- the object that a place names
abbrev pub object_in : TypedPlace → ℕ
object_in (Plain at object) = object
object_in (Index' at object mark_at site _ index) = object
object_in (Index2' at object first_at first_site _ first second_at second_site _ second) = object
object_in (Deref star_at site at object) = object

abbrev pub width_of : Object → Width
width_of object = object.width

-- `=` converts to the width of its target; a compound mark converts what it computes
abbrev pub due_by : AssignMark → Option Object → Option Width
due_by assign.Plain target = option_map width_of target
due_by mark target = None

abbrev pub in_option : {A : Type 0} → (A → List Thing) → Option A → List Thing
in_option things None = []
in_option things (Some part) = things part

-- where it stands: whether in a loop, and the width of what its function gives
pub record Spot : Type 0 where
  pub in_loop : Bool
  pub gives : Option Width

abbrev pub looped : Spot → Spot
looped spot = record spot { in_loop = true }

abbrev pub Walk : Type 0
Walk = Spot → List Thing

abbrev pub all_of : List Walk → Walk
all_of [] spot = []
all_of (one ∷ rest) spot = one spot ++ all_of rest spot

abbrev pub walk_if_any : Option Walk → Walk
walk_if_any None spot = []
walk_if_any (Some one) spot = one spot

module _ (source : Typed) where
  unfoldable pub in_simple : TypedSimple → List Thing
  in_simple (simple.Assign at place mark mark_at site value) =
      in_place source place Written ++ (Mark mark_at site (assign_kind mark) ∷ in_expression source value (due_by mark (slice_get source.objects (object_in place))))
  in_simple (simple.Step at place up mark_at site) = in_place source place Written ++ (Mark mark_at site (Some (step_kind up)) ∷ [])
  in_simple (simple.SetOverflow at value) = in_expression source value (Some W32)
  in_simple (simple.Call call) = in_call source call false

  abbrev pub in_simples : List TypedSimple → List Thing
  in_simples list = flat_map in_simple list

  -- an expression whose value is used as it is
  abbrev pub in_value : TypedExpr → List Thing
  in_value e = in_expression source e None

  abbrev pub in_value_of : ℕ → Option Argued → List Thing
  in_value_of object None = Begins object None ∷ []
  in_value_of object (Some value) = value.stands (taken_by_object (slice_get source.objects object)) ++ (Begins object (Some value.value) ∷ [])

  abbrev pub in_start : Start → List Thing
  in_start start = in_value_of start.object (option_map (argument_look source) start.value)

  -- what is returned is converted to what the function gives
  abbrev pub in_returned : Spot → TypedExpr → List Thing
  in_returned spot e = in_expression source e spot.gives

  unfoldable pub of_statement : node.TypedStmt-F Walk Walk → Walk
  of_statement (node.Empty at) = λ spot. Statement ∷ []
  of_statement (node.Block block) = λ spot. Statement ∷ block spot
  of_statement (node.Simple one) = λ spot. Statement ∷ in_simple one
  of_statement (node.If at cond this other) = λ spot. Statement ∷ (in_value cond ++ (this spot ++ walk_if_any other spot))
  of_statement (node.While at cond body) = λ spot. Statement ∷ (in_value cond ++ body (looped spot))
  of_statement (node.Do at body cond) = λ spot. Statement ∷ (body (looped spot) ++ in_value cond)
  of_statement (node.For at first cond last body) = λ spot.
      Statement ∷ (in_simples first ++ (in_option in_value cond ++ (in_simples last ++ body (looped spot))))
  of_statement (node.Break at) = λ spot. Statement ∷ Leave spot.in_loop ∷ []
  of_statement (node.Continue at) = λ spot. Statement ∷ Leave spot.in_loop ∷ []
  of_statement (node.Return at value) = λ spot. Statement ∷ Return (is_some value) (is_some spot.gives) ∷ in_option (in_returned spot) value

  unfoldable pub of_block : node.TypedBlock-F Walk Walk → Walk
  of_block block = λ spot. flat_map in_start block.objects ++ all_of block.stmts spot

  abbrev pub in_statement : TypedStmt → Spot → List Thing
  in_statement = fold-TypedStmt Walk Walk of_statement of_block

  abbrev pub in_block : TypedBlock → Spot → List Thing
  in_block = fold-TypedBlock Walk Walk of_statement of_block

  abbrev pub in_body : Option Width → Option TypedBlock → List Thing
  in_body gives None = []
  in_body gives (Some body) = in_block body (record { in_loop = false; gives = gives })

  -- in the definition of a function
  abbrev pub in_function : TypedFunction → List Thing
  in_function function = in_body function.gives function.body

  -- in all definitions
  abbrev pub in_source : List Thing
  in_source = flat_map in_function source.functions
