-- All the sites of a tree, each node once, in the order in which its code has them.
use Rattle.std.specs.Prelude.{ℕ, zero, suc, ◌+◌, ◌==◌, Bool, true, false, ◌&&◌, if◌then◌else◌, List, [], ◌∷◌, ◌++◌}
use Rattle.typed_meaning.specs.Expressions.{site_at}
use Rattle.typed_meaning.specs.Statements.{step_mark}
use Rattle.ir_arena.specs.Tree.{IrTree, IrTarget, IrTrees, Read, Address, Operate, Convert, Not, Invert, Binary, Choose, Call, Write, Step, WriteFlag, Out, Start, Block, If, Loop, Return, Variable, Element, ThroughView, end, more}
use Rattle.statement_code.specs.Blocks.{object_of}
use Rattle.code_entries.specs.Entries.{entries_of_mark}
use Rattle.code_pieces.specs.declared.piece.Entry.{Entry}

abbrev mutual
  pub sites_of : IrTree → List Entry
  sites_of (Read target) = sites_of_place target
  sites_of (Address target) = sites_of_place target
  sites_of (Operate site kind operands weight) = sites_in operands ++ record { site = site; kind = kind } ∷ []
  sites_of (Convert cast width part) = sites_of part
  sites_of (Not part) = sites_of part
  sites_of (Invert part) = sites_of part
  sites_of (Binary mark left right) = sites_of left ++ sites_of right
  sites_of (Choose cond this other) = sites_of cond ++ (sites_of this ++ sites_of other)
  sites_of (Call function args) = sites_in args
  sites_of (Write target mark width site value) = sites_of_place target ++ (sites_of value ++ entries_of_mark mark (site_at site))
  sites_of (Step target up width site) = sites_of_place target ++ entries_of_mark (step_mark up) site
  sites_of (WriteFlag value) = sites_of value
  sites_of (Out value) = sites_of value
  sites_of (Start object value) = sites_of value
  sites_of (Block first count starts parts) = sites_in starts ++ sites_in parts
  sites_of (If cond this other) = sites_of cond ++ (sites_of this ++ sites_in other)
  sites_of (Loop cut tests_first first cond last body) = sites_in first ++ (sites_of body ++ (sites_in last ++ sites_in cond))
  sites_of (Return value) = sites_in value
  sites_of tree = []

  pub sites_of_place : IrTarget → List Entry
  sites_of_place (Variable object) = []
  sites_of_place (Element object index) = sites_in index
  sites_of_place (ThroughView view index) = sites_in index

  pub sites_in : IrTrees → List Entry
  sites_in end = []
  sites_in (more first rest) = sites_of first ++ sites_in rest

-- ---- the rows of a tree

-- none or one
abbrev pub is_optional : IrTrees → Bool
is_optional end = true
is_optional (more first end) = true
is_optional (more first (more second rest)) = false

-- the starts of so many objects from this one on, in their order
abbrev pub are_begun : (count object : ℕ) → IrTrees → Bool
are_begun count object end = true
are_begun zero object (more start rest) = false
are_begun (suc count) object (more start rest) =
    if object_of start == object then are_begun count (object + 1) rest else are_begun count (object + 1) (more start rest)

abbrev mutual
  -- what may be missing is there once at most, and what starts is an object of its block
  pub has_rows : IrTree → Bool
  has_rows (Block first count starts parts) = are_begun count first starts && have_rows parts
  has_rows (If cond this other) = has_rows this && (is_optional other && have_rows other)
  has_rows (Loop cut tests_first first cond last body) = is_optional cond && has_rows body
  has_rows (Return value) = is_optional value
  has_rows tree = true

  pub have_rows : IrTrees → Bool
  have_rows end = true
  have_rows (more first rest) = has_rows first && have_rows rest
