-- Trees over scalars: what is asked of a lawful tree before code is emitted for it.
use Rattle.std.specs.Prelude.{Bool, true, false, not, ◌&&◌, List, [], ◌∷◌}
use Rattle.std.specs.List.{list_all}
use Rattle.operator_meaning.specs.declared.object.Object.{Object}
use Rattle.ir_arena.specs.Tree.{IrTree, IrTarget, IrTrees, TreeFunction, IrWhole, Constant, Read, Address, Operate, Convert, Not, Invert, Binary, Choose, Call, ReadFlag, Write, Step, WriteFlag, Out, AddCount, Start, Empty, Block, If, Loop, Leave, Return, Variable, Element, ThroughView, end, more}
use Rattle.lawful_sources.specs.Objects.{is_scalar}
use Rattle.expression_code.specs.Straight.{is_number, is_site}

-- ---- scalars

abbrev pub is_scalar_target : IrTarget → Bool
is_scalar_target (Variable object) = true
is_scalar_target target = false

abbrev mutual
  -- no array, no view, no call of a function and no sample that is read; its sites are operators and plain arithmetic
  pub is_scalar_tree : IrTree → Bool
  is_scalar_tree (Constant value) = true
  is_scalar_tree (Read target) = is_scalar_target target
  is_scalar_tree (Operate site kind operands weight) = is_site kind && are_scalar_trees operands
  is_scalar_tree (Convert cast width part) = is_scalar_tree part
  is_scalar_tree (Not part) = is_scalar_tree part
  is_scalar_tree (Invert part) = is_scalar_tree part
  is_scalar_tree (Binary mark left right) = is_scalar_tree left && is_scalar_tree right
  is_scalar_tree (Choose cond this other) = is_scalar_tree cond && (is_scalar_tree this && is_scalar_tree other)
  is_scalar_tree (ReadFlag word) = true
  is_scalar_tree (Write target mark width site value) = is_scalar_target target && is_scalar_tree value
  is_scalar_tree (Step target up width site) = is_scalar_target target
  is_scalar_tree (WriteFlag value) = is_scalar_tree value
  is_scalar_tree (Out value) = is_scalar_tree value
  is_scalar_tree (AddCount weight) = true
  is_scalar_tree (Start object value) = is_scalar_tree value
  is_scalar_tree Empty = true
  is_scalar_tree (Block first count starts parts) = are_scalar_trees starts && are_scalar_trees parts
  is_scalar_tree (If cond this other) = is_scalar_tree cond && (is_scalar_tree this && are_scalar_trees other)
  is_scalar_tree (Loop cut tests_first first cond last body) =
      are_scalar_trees first && (are_scalar_trees cond && (are_scalar_trees last && is_scalar_tree body))
  is_scalar_tree (Leave again) = true
  is_scalar_tree (Return value) = are_scalar_trees value
  is_scalar_tree tree = false

  pub are_scalar_trees : IrTrees → Bool
  are_scalar_trees end = true
  are_scalar_trees (more first rest) = is_scalar_tree first && are_scalar_trees rest

-- ---- the whole

-- no array, no view, and no `&` is applied to it
abbrev pub is_plain_scalar : Object → Bool
is_plain_scalar object = is_scalar object && not object.exposed

-- the only function is `main`
abbrev pub has_scalar_body : List TreeFunction → Bool
has_scalar_body (main ∷ []) = is_scalar_tree main.body
has_scalar_body functions = false

abbrev pub has_scalar_form : IrWhole → Bool
has_scalar_form tree = list_all is_plain_scalar tree.objects && has_scalar_body tree.functions

-- ---- numbers of 32 bits

abbrev mutual
  -- each integer of the tree has 32 bits
  pub has_numbers : IrTree → Bool
  has_numbers (Constant value) = is_number value
  has_numbers (Read target) = target_has_numbers target
  has_numbers (Address target) = target_has_numbers target
  has_numbers (Operate site kind operands weight) = have_numbers operands
  has_numbers (Convert cast width part) = has_numbers part
  has_numbers (Not part) = has_numbers part
  has_numbers (Invert part) = has_numbers part
  has_numbers (Binary mark left right) = has_numbers left && has_numbers right
  has_numbers (Choose cond this other) = has_numbers cond && (has_numbers this && has_numbers other)
  has_numbers (Call function args) = have_numbers args
  has_numbers (Write target mark width site value) = target_has_numbers target && has_numbers value
  has_numbers (Step target up width site) = target_has_numbers target
  has_numbers (WriteFlag value) = has_numbers value
  has_numbers (Out value) = has_numbers value
  has_numbers (Start object value) = has_numbers value
  has_numbers (Block first count starts parts) = have_numbers starts && have_numbers parts
  has_numbers (If cond this other) = has_numbers cond && (has_numbers this && have_numbers other)
  has_numbers (Loop cut tests_first first cond last body) = have_numbers first && (have_numbers cond && (have_numbers last && has_numbers body))
  has_numbers (Return value) = have_numbers value
  has_numbers tree = true

  pub target_has_numbers : IrTarget → Bool
  target_has_numbers (Variable object) = true
  target_has_numbers (Element object index) = have_numbers index
  target_has_numbers (ThroughView view index) = have_numbers index

  pub have_numbers : IrTrees → Bool
  have_numbers end = true
  have_numbers (more first rest) = has_numbers first && have_numbers rest

abbrev pub function_has_numbers : TreeFunction → Bool
function_has_numbers function = has_numbers function.body

abbrev pub whole_has_numbers : IrWhole → Bool
whole_has_numbers tree = list_all function_has_numbers tree.functions
