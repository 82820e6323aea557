-- What the definition of a constant's value says of each node with nodes in it.
use Rattle.std.proofs.Common.{◌≡◌, ap}
use Rattle.sat_base.specs.declared.name.At.{At}
use Rattle.sat_base.specs.declared.width.Width.{Width}
use Rattle.c_tree.specs.declared.expression.BinaryMark.{BinaryMark}
use Rattle.c_tree.specs.declared.expression.Expr.{Expr}
use Rattle.c_tree.specs.declared.expression.ExprKind.TheVariants as kind
use Rattle.c_tree.specs.declared.expression.UnaryMark.{UnaryMark}
use Rattle.c_tree.proofs.ExpressionBoxes.{Unary-boxed, Binary-boxed, Cast-boxed}
use Rattle.constant_expressions.specs.Folding.{folded_kind, unary_value, binary_value, converted}

pub folded-Unary : (mark : UnaryMark) (mark_at : At) (part : Expr) → folded_kind (kind.Unary mark mark_at part) ≡ unary_value mark (folded_kind part.kind)
folded-Unary mark mark_at part = ap folded_kind (Unary-boxed mark mark_at part)

pub folded-Binary : (mark : BinaryMark) (mark_at : At) (left right : Expr) → folded_kind (kind.Binary mark mark_at left right) ≡ binary_value mark (folded_kind left.kind) (folded_kind right.kind)
folded-Binary mark mark_at left right = ap folded_kind (Binary-boxed mark mark_at left right)

pub folded-Cast : (width : Width) (part : Expr) → folded_kind (kind.Cast width part) ≡ converted width (folded_kind part.kind)
folded-Cast width part = ap folded_kind (Cast-boxed width part)

pub ruleset foldings = (folded-Unary, folded-Binary, folded-Cast)
