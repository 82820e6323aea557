-- Expressions that have such code: over scalars, with operators, plain arithmetic and choices.
use Rattle.std.specs.Prelude.{ℕ, ◌+◌, max, Bool, true, false, not, ◌&&◌, if◌then◌else◌, ◌==◌, nat_lt, ℤ, pos, negsuc, int_le}
use Rattle.c_tree.specs.declared.expression.BinaryMark.{BinaryMark}
use Rattle.c_tree.specs.declared.expression.BinaryMark.TheVariants as binary
use Rattle.operator_meaning.specs.declared.site.SiteKind.{SiteKind}
use Rattle.operator_meaning.specs.declared.site.SiteKind.TheVariants as kind
use Rattle.operator_meaning.specs.declared.operator.Op.TheVariants as op
use Rattle.ir_arena.specs.Tree.{IrTree, IrTarget, IrTrees, Constant, Read, Operate, Convert, Not, Invert, Binary, Choose, ReadFlag, Variable, end, more}
use Rattle.code_stacks.specs.Places.{Layout}
use Rattle.operator_lowering.specs.Sites.{operand_count}
use Rattle.expression_code.specs.Code.{weight_of}

abbrev pub is_number : ℤ → Bool
is_number value = int_le (negsuc 2147483647) value && int_le value (pos 2147483647)

abbrev pub is_site : SiteKind → Bool
is_site (kind.Call op) = true
is_site kind.Sum = true
is_site kind.Difference = true
is_site kind.Product = true
is_site kind.Opposite = true
is_site other = false

-- a site that has no words, since its result is where its operand is
abbrev pub is_wordless : SiteKind → Bool
is_wordless (kind.Call op.LDepositL) = true
is_wordless other = false

-- the number of a site fits in a register, and it is a site without words exactly where it is held for one
abbrev pub is_numbered : Layout → (site : ℕ) → SiteKind → Bool
is_numbered l site kind = nat_lt site 4294967296 && (if l.is_wordless site then is_wordless kind else not (is_wordless kind))

-- a mark of which both operands are evaluated
abbrev pub is_straight_mark : BinaryMark → Bool
is_straight_mark binary.BitAnd = true
is_straight_mark binary.BitOr = true
is_straight_mark binary.BitXor = true
is_straight_mark binary.Eq = true
is_straight_mark binary.Ne = true
is_straight_mark binary.Lt = true
is_straight_mark binary.Le = true
is_straight_mark binary.Gt = true
is_straight_mark binary.Ge = true
is_straight_mark mark = false

abbrev pub is_variable_of : Layout → IrTarget → Bool
is_variable_of l (Variable object) = l.is_variable object
is_variable_of l target = false

abbrev pub count_in : IrTrees → ℕ
count_in end = 0
count_in (more first rest) = count_in rest + 1

-- a weight that can be brought up at once
abbrev pub is_light : ℕ → Bool
is_light weight = nat_lt weight 2147483648

-- the marks, with the weights of their operands
abbrev pub is_marked : BinaryMark → (left right : ℕ) → Bool
is_marked binary.Both left right = is_light left && is_light right
is_marked binary.Either left right = is_light left && is_light right
is_marked mark left right = is_straight_mark mark

abbrev mutual
  pub is_straight : Layout → IrTree → Bool
  is_straight l (Constant value) = is_number value
  is_straight l (Read target) = is_variable_of l target
  is_straight l (Operate site kind operands weight) = is_site kind && (count_in operands == operand_count kind) && is_numbered l site kind && are_straight l operands
  is_straight l (Convert cast width part) = is_straight l part
  is_straight l (Not part) = is_straight l part
  is_straight l (Invert part) = is_straight l part
  is_straight l (Binary mark left right) = is_marked mark (weight_of left) (weight_of right) && is_straight l left && is_straight l right
  is_straight l (Choose cond this other) = (is_light (weight_of cond) && is_straight l cond) && ((is_light (weight_of this) && is_straight l this) && (is_light (weight_of other) && is_straight l other))
  is_straight l (ReadFlag word) = true
  is_straight l tree = false

  pub are_straight : Layout → IrTrees → Bool
  are_straight l end = true
  are_straight l (more first rest) = is_straight l first && are_straight l rest

-- how many places of the stack an expression takes at once
abbrev mutual
  pub height_of : IrTree → ℕ
  height_of (Operate site kind operands weight) = max 1 (heights_of operands)
  height_of (Convert cast width part) = height_of part
  height_of (Not part) = height_of part
  height_of (Invert part) = height_of part
  height_of (Binary mark left right) = max (height_of left) (1 + height_of right)
  height_of (Choose cond this other) = max (height_of cond) (max (height_of this) (height_of other))
  height_of tree = 1

  pub heights_of : IrTrees → ℕ
  heights_of end = 0
  heights_of (more first rest) = max (height_of first) (1 + heights_of rest)
