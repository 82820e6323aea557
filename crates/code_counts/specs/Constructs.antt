-- The constructs of a tree that write Overflow, and those that may compare.
use Rattle.std.specs.Prelude.{ℕ, ◌+◌, ◌==◌, Bool, true, false, not, ◌&&◌, List, length, filter}
use Rattle.c_tree.specs.declared.expression.BinaryMark.{BinaryMark}
use Rattle.c_tree.specs.declared.expression.BinaryMark.TheVariants as binary
use Rattle.operator_meaning.specs.declared.object.Object.{Object}
use Rattle.operator_meaning.specs.declared.object.Storage.{Storage}
use Rattle.operator_meaning.specs.declared.object.Storage.TheVariants.{Automatic}
use Rattle.ir_arena.specs.Tree.{IrTree, IrTarget, IrTrees, Read, Address, Operate, Convert, Not, Invert, Binary, Choose, Call, Write, Step, WriteFlag, Out, Start, Block, If, Loop, Return, Variable, Element, ThroughView, end, more}

-- ---- assignments to Overflow

abbrev pub overflow_writes_of_simple : IrTree → ℕ
overflow_writes_of_simple (WriteFlag value) = 1
overflow_writes_of_simple tree = 0

abbrev pub overflow_writes_of_simples : IrTrees → ℕ
overflow_writes_of_simples end = 0
overflow_writes_of_simples (more first rest) = overflow_writes_of_simple first + overflow_writes_of_simples rest

abbrev mutual
  -- those that stand as statements, and as parts of the head of a loop
  pub overflow_writes_of : IrTree → ℕ
  overflow_writes_of (Block first count starts parts) = overflow_writes_in parts
  overflow_writes_of (If cond this end) = overflow_writes_of this
  overflow_writes_of (If cond this (more other rest)) = overflow_writes_of this + overflow_writes_of other
  overflow_writes_of (Loop cut tests_first first cond last body) =
      overflow_writes_of_simples first + (overflow_writes_of body + overflow_writes_of_simples last)
  overflow_writes_of tree = overflow_writes_of_simple tree

  pub overflow_writes_in : IrTrees → ℕ
  overflow_writes_in end = 0
  overflow_writes_in (more first rest) = overflow_writes_of first + overflow_writes_in rest

-- ---- what may compare

-- `&&`, `||` and relations
abbrev pub constructs_of_mark : BinaryMark → ℕ
constructs_of_mark binary.Both = 1
constructs_of_mark binary.Either = 1
constructs_of_mark binary.Eq = 1
constructs_of_mark binary.Ne = 1
constructs_of_mark binary.Lt = 1
constructs_of_mark binary.Le = 1
constructs_of_mark binary.Gt = 1
constructs_of_mark binary.Ge = 1
constructs_of_mark mark = 0

abbrev mutual
  -- relations, `!`, `&&`, `||`, `?:`, `if` and loops
  pub constructs_of : IrTree → ℕ
  constructs_of (Read target) = constructs_of_target target
  constructs_of (Address target) = constructs_of_target target
  constructs_of (Operate site kind operands weight) = constructs_in operands
  constructs_of (Convert cast width part) = constructs_of part
  constructs_of (Not part) = constructs_of part + 1
  constructs_of (Invert part) = constructs_of part
  constructs_of (Binary mark left right) = constructs_of left + constructs_of right + constructs_of_mark mark
  constructs_of (Choose cond this other) = constructs_of cond + constructs_of this + constructs_of other + 1
  constructs_of (Call function args) = constructs_in args
  constructs_of (Write target mark width site value) = constructs_of_target target + constructs_of value
  constructs_of (Step target up width site) = constructs_of_target target
  constructs_of (WriteFlag value) = constructs_of value
  constructs_of (Out value) = constructs_of value
  constructs_of (Start object value) = constructs_of value
  constructs_of (Block first count starts parts) = constructs_in starts + constructs_in parts
  constructs_of (If cond this other) = constructs_of cond + constructs_of this + constructs_in other + 1
  constructs_of (Loop cut tests_first first cond last body) =
      constructs_in first + constructs_in cond + constructs_in last + constructs_of body + 1
  constructs_of (Return value) = constructs_in value
  constructs_of tree = 0

  pub constructs_of_target : IrTarget → ℕ
  constructs_of_target (Variable object) = 0
  constructs_of_target (Element object index) = constructs_in index
  constructs_of_target (ThroughView view index) = constructs_in index

  pub constructs_in : IrTrees → ℕ
  constructs_in end = 0
  constructs_in (more first rest) = constructs_of first + constructs_in rest

-- ---- automatic arrays, which are set as their blocks are entered

abbrev pub is_automatic : Storage → Bool
is_automatic Automatic = true
is_automatic storage = false

abbrev pub is_automatic_array : Object → Bool
is_automatic_array object = is_automatic object.storage && not (object.rows == 0)

abbrev pub automatic_arrays : List Object → ℕ
automatic_arrays objects = length (filter is_automatic_array objects)
