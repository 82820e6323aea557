-- Lawful trees. Each line is one condition, read of the nodes and numbers of a tree alone: what holds of a lawful source,
-- and what a tree adds to it.
use Rattle.std.specs.Prelude.{◌≡◌, ℕ, ◌+◌, ◌≤◌, Bool, true, ◌&&◌, ◌||◌, List, [], ◌∷◌, ◌++◌, flat_map, length, map, slice_get, Some, is_none}
use Rattle.std.specs.List.{All, list_all, list_any, sum_by}
use Rattle.std.specs.List.Sorted.{IsPermutation, IsStrictlyIncreasing}
use Rattle.sat_base.specs.declared.limits.TheConstants.{TOKENS, FUNCTIONS, SCALARS, OBJECT_BYTES, CONSTANTS, STATEMENTS, VIEWS}
use Rattle.c_typed.specs.declared.call.Callee.TheVariants.{Function}
use Rattle.c_typed.specs.declared.typed.Typed.{Typed}
use Rattle.c_typed.specs.declared.typed.TypedFunction.{TypedFunction}
use Rattle.call_graph.specs.Walks.{Reaches}
use Rattle.ir_arena.specs.declared.ir.Ir.{Ir}
use Rattle.ir_arena.specs.declared.ir.IrFunction.{IrFunction}
use Rattle.ir_arena.specs.Placed.{function_of, whole_of}
use Rattle.ir_arena.specs.Tree as tree
use Rattle.ir_arena.specs.Tree.{IrTree, IrTrees, TreeFunction}
use Rattle.ir_cuts.specs.Cuts.{cuts_of}
use Rattle.lawful_sources.specs.Things.{Thing, Call}
use Rattle.lawful_sources.specs.Lawful.{is_own_scalar, is_own_view, count, bytes_of_object, is_statement, has_few_parameters, is_good_main, token_of, at_of, constants_standing, distinct_after}
use Rattle.lawful_sources.specs.Objects.{has_shape, has_function, has_parameters, is_no_static_view, initial_fits, begins_well, exposed_from, own_from, follow_from, follow_one_another, begun_in}
use Rattle.lawful_sources.specs.Rows.{object_exists, function_exists, place_fits, const_is_kept, width_agrees, arguments_are_counted, argument_fits, value_is_given, is_main, is_called_main, main_is_not_called, mark_is_numbered, IsOfKind, sites_standing, conversion_stands, is_in_loop, return_fits}
use Rattle.lawful_ir.specs.Endings.{ending_in}
use Rattle.lawful_ir.specs.Positions.{TreeThing, things_of, is_placed}
use Rattle.lawful_ir.specs.Walk.{nowhere_at, function_stands, whole_stands}

-- ---- the tables of a tree, as those of a source whose functions have empty bodies

abbrev pub table_function : IrFunction → TypedFunction
table_function function =
    record { name = function.name; defined = Some nowhere_at; gives = function.gives; params = function.params; body = Some (record { at = nowhere_at; objects = []; stmts = [] }) }

abbrev pub tables_of : Ir → Typed
tables_of ir =
    record { objects = ir.objects; functions = map table_function ir.functions; sites = ir.sites; constants = ir.constants; weights = ir.weights }

-- ---- things

-- what stands in all its functions
abbrev pub stands_in : Ir → List TreeThing
stands_in ir = whole_stands (tables_of ir) (whole_of ir)

abbrev pub things_in : Ir → List Thing
things_in ir = things_of (stands_in ir)

-- each thing that stands in the tree passes a test
abbrev pub EverywhereIn : Ir → (Thing → Bool) → Type 0
EverywhereIn ir test = list_all test (things_in ir) ≡ true

-- ---- functions

-- a function other than main that gives a number surely returns
abbrev pub returns_in : IrFunction → Bool
returns_in function = is_none function.gives || (is_main (table_function function) || (ending_in (function_of function).body).returns)

-- the objects of a function are its parameters, and then those of its blocks in their order
abbrev pub DeclaresIn : Ir → ℕ → TreeFunction → Type 0
DeclaresIn ir number function = function.params ++ begun_in (things_of (function_stands (tables_of ir) function)) ≡ own_from number 0 ir.objects

-- the functions that are called
abbrev pub called_number : Thing → List ℕ
called_number (Call (Function number) arguments is_needed) = number ∷ []
called_number thing = []

-- what each function calls
abbrev pub calls_in : Ir → List (List ℕ)
calls_in ir = map (λ function. flat_map called_number (things_of (function_stands (tables_of ir) function))) (whole_of ir).functions

-- ---- cuts

abbrev mutual
  -- the numbers of the cuts at the heads of its loops, in the order of their keywords
  pub loops_in : IrTree → List ℕ
  loops_in (tree.Block first count starts parts) = loops_in_each parts
  loops_in (tree.If cond this other) = loops_in this ++ loops_in_each other
  loops_in (tree.Loop cut tests_first first cond last body) = cut ∷ loops_in body
  loops_in node = []

  pub loops_in_each : IrTrees → List ℕ
  loops_in_each tree.end = []
  loops_in_each (tree.more first rest) = loops_in first ++ loops_in_each rest

-- The cut of the parameters of a function has this number; the heads of its loops follow, and then its return.
abbrev pub loops_follow : ℕ → List TreeFunction → Bool
loops_follow number [] = true
loops_follow number (function ∷ functions) =
    follow_from (number + 1) (loops_in function.body) && loops_follow (number + 1 + length (loops_in function.body) + 1) functions

pub record IsLawfulTree (ir : Ir) : Type 0 where
  -- limits
  pub functions_are_few : length ir.functions ≤ FUNCTIONS
  pub scalars_are_few : (function : ℕ) → count (is_own_scalar function) ir.objects ≤ SCALARS
  pub parameters_are_few : list_all has_few_parameters (tables_of ir).functions ≡ true
  pub data_are_few : sum_by bytes_of_object ir.objects ≤ OBJECT_BYTES
  pub constants_are_few : length ir.constants ≤ CONSTANTS
  pub statements_are_few : count is_statement (things_in ir) ≤ STATEMENTS
  pub views_are_few : (function : ℕ) → count (is_own_view function) ir.objects ≤ VIEWS
  pub sites_are_few : length ir.sites ≤ TOKENS
  -- no node stands where none of its kind may, each has the parts, the kind, the width and the weight that it takes
  pub nodes_are_placed : list_all is_placed (stands_in ir) ≡ true
  -- each number is one of the tree's own
  pub objects_exist : EverywhereIn ir (object_exists (tables_of ir))
  pub functions_exist : EverywhereIn ir (function_exists (tables_of ir))
  -- functions and objects
  pub objects_have_shapes : list_all has_shape ir.objects ≡ true
  pub objects_have_functions : list_all (λ object. has_function (tables_of ir) object object.function) ir.objects ≡ true
  pub parameters_are_objects : list_all (has_parameters (tables_of ir)) (tables_of ir).functions ≡ true
  pub objects_are_declared : (number : ℕ) (function : TreeFunction) → slice_get (whole_of ir).functions number ≡ Some function → DeclaresIn ir number function
  -- no other object stands between those of a function
  pub objects_follow : (function : ℕ) → follow_one_another (own_from function 0 ir.objects) ≡ true
  pub views_are_not_static : list_all is_no_static_view ir.objects ≡ true
  pub initial_values_fit : list_all (λ object. initial_fits object object.initial) ir.objects ≡ true
  pub objects_begin : EverywhereIn ir (begins_well (tables_of ir))
  pub exposed_are_given : exposed_from (things_in ir) 0 ir.objects ≡ true
  -- places, calls and statements
  pub places_fit : EverywhereIn ir (place_fits (tables_of ir))
  pub const_is_kept : EverywhereIn ir (const_is_kept (tables_of ir))
  pub widths_agree : EverywhereIn ir (width_agrees (tables_of ir))
  pub arguments_are_counted : EverywhereIn ir (arguments_are_counted (tables_of ir))
  pub arguments_fit : EverywhereIn ir argument_fits
  pub values_are_given : EverywhereIn ir (value_is_given (tables_of ir))
  pub main_is_not_called : EverywhereIn ir (main_is_not_called (tables_of ir))
  pub has_main : list_any is_good_main (tables_of ir).functions ≡ true
  -- the function of the number of main has its name
  pub main_is_main : is_called_main (slice_get (tables_of ir).functions ir.main) ≡ true
  pub functions_return : list_all returns_in ir.functions ≡ true
  pub returns_fit : EverywhereIn ir return_fits
  pub leaves_stand_in_loops : EverywhereIn ir is_in_loop
  pub conversions_stand : EverywhereIn ir conversion_stands
  -- sites, constants and weights
  pub sites_are_in_order : IsStrictlyIncreasing (map token_of ir.sites)
  pub marks_are_numbered : EverywhereIn ir (mark_is_numbered (tables_of ir))
  pub sites_stand_once : IsPermutation (sites_standing (things_in ir)) (map at_of ir.sites)
  pub kinds_agree : All (IsOfKind (tables_of ir)) (things_in ir)
  pub constants_stand : ir.constants ≡ distinct_after [] (constants_standing (things_in ir))
  pub weights_are_known : ir.weights ≡ 1
  -- cuts
  pub cuts_stand : ir.cuts ≡ cuts_of (whole_of ir)
  pub loops_are_numbered : loops_follow 0 (whole_of ir).functions ≡ true
  -- no function reaches itself by calls
  pub calls_end : (function : ℕ) → Reaches (calls_in ir) function function → ⊥
