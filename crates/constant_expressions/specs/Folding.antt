-- The values of constant expressions (C90, 6.4). In a pattern `boxed` is a box with an expression in it, by its
-- three fields.
use Rattle.std.specs.Prelude.{ℤ, pos, negsuc, ◌+ℤ◌, ◌-ℤ◌, ◌*ℤ◌, neg_ℤ, int_le, ◌&&◌, if◌then◌else◌, Option, Some, None}
use Rattle.sat_base.specs.declared.width.Width.{Width}
use Rattle.sat_base.specs.declared.width.Width.TheVariants.{W16, W32}
use Rattle.sat_base.specs.Clip.{low16}
use Rattle.c_tree.specs.declared.expression.BinaryMark.{BinaryMark}
use Rattle.c_tree.specs.declared.expression.BinaryMark.TheVariants as binary
use Rattle.c_tree.specs.declared.expression.Expr.{Expr}
use Rattle.c_tree.specs.declared.expression.ExprKind.{ExprKind, Int, Unary', Binary', Cast', more_of-Expr as boxed}
use Rattle.c_tree.specs.declared.expression.UnaryMark.{UnaryMark}
use Rattle.c_tree.specs.declared.expression.UnaryMark.TheVariants as unary

-- the number, where it has 32 bits
abbrev pub within : ℤ → Option ℤ
within z = if int_le (negsuc 2147483647) z && int_le z (pos 2147483647) then Some z else None

abbrev pub converted : Width → Option ℤ → Option ℤ
converted width None = None
converted W16 (Some value) = Some (low16 value)
converted W32 (Some value) = Some value

abbrev pub unary_value : UnaryMark → Option ℤ → Option ℤ
unary_value mark None = None
unary_value unary.Plus (Some value) = Some value
unary_value unary.Minus (Some value) = within (neg_ℤ value)
unary_value mark (Some value) = None

abbrev pub binary_value : BinaryMark → Option ℤ → Option ℤ → Option ℤ
binary_value mark None right = None
binary_value mark (Some left) None = None
binary_value binary.Plus (Some left) (Some right) = within (left +ℤ right)
binary_value binary.Minus (Some left) (Some right) = within (left -ℤ right)
binary_value binary.Times (Some left) (Some right) = within (left *ℤ right)
binary_value mark (Some left) (Some right) = None

-- the value of what stands in brackets
abbrev pub folded_kind : ExprKind → Option ℤ
folded_kind (Int value) = Some value
folded_kind (Unary' mark mark_at _ (boxed at brackets kind _)) = unary_value mark (folded_kind kind)
folded_kind (Binary' mark mark_at _ (boxed at brackets kind _) _ (boxed at2 brackets2 kind2 _)) = binary_value mark (folded_kind kind) (folded_kind kind2)
folded_kind (Cast' width _ (boxed at brackets kind _)) = converted width (folded_kind kind)
folded_kind kind = None

-- the value of a constant expression; none where it is none, and where a value on the way leaves 32 bits
abbrev pub folded : Expr → Option ℤ
folded e = folded_kind e.kind
