-- How deep the trees are that are put together.
use Rattle.std.proofs.Common.{◌≡◌, suc, max, List, [], ◌∷◌, ◌++◌, arith}
use Rattle.sat_base.specs.declared.name.At.{At}
use Rattle.sat_base.specs.declared.name.Named.{Named}
use Rattle.sat_base.specs.declared.width.Width.{Width}
use Rattle.c_tree.specs.declared.call.Arg.{Arg}
use Rattle.c_tree.specs.declared.call.Call.{Call}
use Rattle.c_tree.specs.declared.expression.BinaryMark.{BinaryMark}
use Rattle.c_tree.specs.declared.expression.Expr.{Expr}
use Rattle.c_tree.specs.declared.expression.ExprKind.TheVariants as kind
use Rattle.c_tree.specs.declared.expression.UnaryMark.{UnaryMark}
use Rattle.c_tree.specs.declared.place.Place.{Place}
use Rattle.c_tree.specs.declared.place.Place.TheVariants as place
use Rattle.c_tree.specs.Depth.{deepest, depth_of_expression, depth_of_place, depth_of_argument, depth_below}
use Rattle.c_tree.proofs.Deepest.{deepest-append}
use Rattle.c_tree.proofs.Depths.{depth_below-Read, depth_below-Unary, depth_below-Binary, depth_below-Cast, depth_below-Choose, depth_below-Call, depth_of_place-Index, depth_of_place-Index2}

pub read_depth : (p : Place) → depth_below (kind.Read p) ≡ depth_of_place p
read_depth = depth_below-Read

pub unary_depth : (mark : UnaryMark) (at : At) (part : Expr) → depth_below (kind.Unary mark at part) ≡ depth_of_expression part
unary_depth = depth_below-Unary

pub binary_depth : (mark : BinaryMark) (at : At) (left right : Expr) → depth_below (kind.Binary mark at left right) ≡ max (depth_of_expression left) (depth_of_expression right)
binary_depth = depth_below-Binary

pub cast_depth : (width : Width) (part : Expr) → depth_below (kind.Cast width part) ≡ depth_of_expression part
cast_depth = depth_below-Cast

pub choose_depth : (cond one other : Expr) → depth_below (kind.Choose cond one other) ≡ max (depth_of_expression cond) (max (depth_of_expression one) (depth_of_expression other))
choose_depth = depth_below-Choose

pub call_depth : (call : Call) → depth_below (kind.Call call) ≡ deepest depth_of_argument call.args
call_depth = depth_below-Call

pub index_depth : (name : Named) (mark_at : At) (index : Expr) → depth_of_place (place.Index name mark_at index) ≡ suc (depth_of_expression index)
index_depth = depth_of_place-Index

pub index2_depth : (name : Named) (first_at : At) (first : Expr) (second_at : At) (second : Expr) → depth_of_place (place.Index2 name first_at first second_at second) ≡ suc (max (depth_of_expression first) (depth_of_expression second))
index2_depth = depth_of_place-Index2

pub one_more_argument : (xs : List Arg) (x : Arg) → deepest depth_of_argument (xs ++ x ∷ []) ≡ max (deepest depth_of_argument xs) (depth_of_argument x)
one_more_argument xs x = omega (arith, deepest-append depth_of_argument xs (x ∷ []))
