-- How many operands the sites of a tree have.
use Rattle.std.specs.Prelude.{ℕ, ◌==◌, nat_le, Bool, true, ◌&&◌}
use Rattle.operator_meaning.specs.declared.site.SiteKind.{SiteKind}
use Rattle.operator_meaning.specs.declared.site.SiteKind.TheVariants as kind
use Rattle.operator_lowering.specs.Sites.{operand_count}
use Rattle.ir_arena.specs.Tree.{IrTree, IrTarget, IrTrees, Read, Address, Operate, Convert, Not, Invert, Binary, Choose, Call, Write, Step, WriteFlag, Out, Start, Block, If, Loop, Return, Variable, Element, ThroughView, end, more}
use Rattle.expression_code.specs.Straight.{count_in}

-- A site has so many operands in a tree. Of a view the index alone is one, and none where it is reached by `*`; its offset
-- and its length are its own.
abbrev pub takes : SiteKind → (operands : ℕ) → Bool
takes kind.ViewBound operands = nat_le operands 1
takes kind.ViewEdge operands = operands == 1
takes kind operands = operands == operand_count kind

abbrev mutual
  -- each site that stands in the tree has as many operands as it takes
  pub has_operands : IrTree → Bool
  has_operands (Read target) = place_has_operands target
  has_operands (Address target) = place_has_operands target
  has_operands (Operate site kind operands weight) = takes kind (count_in operands) && have_operands operands
  has_operands (Convert cast width part) = has_operands part
  has_operands (Not part) = has_operands part
  has_operands (Invert part) = has_operands part
  has_operands (Binary mark left right) = has_operands left && has_operands right
  has_operands (Choose cond this other) = has_operands cond && (has_operands this && has_operands other)
  has_operands (Call function args) = have_operands args
  has_operands (Write target mark width site value) = place_has_operands target && has_operands value
  has_operands (Step target up width site) = place_has_operands target
  has_operands (WriteFlag value) = has_operands value
  has_operands (Out value) = has_operands value
  has_operands (Start object value) = has_operands value
  has_operands (Block first count starts parts) = have_operands starts && have_operands parts
  has_operands (If cond this other) = has_operands cond && (has_operands this && have_operands other)
  has_operands (Loop cut tests_first first cond last body) = have_operands first && (have_operands cond && (have_operands last && has_operands body))
  has_operands (Return value) = have_operands value
  has_operands tree = true

  pub place_has_operands : IrTarget → Bool
  place_has_operands (Variable object) = true
  place_has_operands (Element object index) = have_operands index
  place_has_operands (ThroughView view index) = have_operands index

  pub have_operands : IrTrees → Bool
  have_operands end = true
  have_operands (more first rest) = has_operands first && have_operands rest
