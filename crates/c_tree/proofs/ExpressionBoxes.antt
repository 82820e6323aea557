-- Expressions and places with nodes in them, as the definitions by cases match on them.
use Rattle.std.proofs.Common.{◌≡◌, refl}
use denote.Hole.Carrier.{hidden}
use Rattle.sat_base.specs.declared.name.At.{At}
use Rattle.sat_base.specs.declared.name.Named.{Named}
use Rattle.sat_base.specs.declared.width.Width.{Width}
use Rattle.c_tree.specs.declared.call.Arg.{Value'}
use Rattle.c_tree.specs.declared.call.Arg.TheBlock.{shape-the_row-Place-0, hidden-the_row-Place-0, shape-the_row-Expr-1, hidden-the_row-Expr-1, shape-the_row-Arg-2, hidden-the_row-Arg-2}
use Rattle.c_tree.specs.declared.call.Arg.TheVariants.{Value}
use Rattle.c_tree.specs.declared.expression.BinaryMark.{BinaryMark}
use Rattle.c_tree.specs.declared.call.Call.{Call}
use Rattle.c_tree.specs.declared.expression.Expr.{Expr}
use Rattle.c_tree.specs.declared.expression.ExprKind.{Read', Unary', Binary', Cast', Choose', Call', more_of-Expr as boxed, end_of-Expr as end, more_of-Place as place_in_box, end_of-Place as no_place}
use Rattle.c_tree.specs.declared.expression.ExprKind.TheVariants as kind
use Rattle.c_tree.specs.declared.place.Place.{Place, Index', Index2'}
use Rattle.c_tree.specs.declared.place.Place.TheVariants.{Index, Index2}
use Rattle.c_tree.specs.declared.expression.UnaryMark.{UnaryMark}

pub Read-boxed : (place : Place) → kind.Read place ≡ Read' tt (place_in_box place no_place)
unfolding shape-the_row-Place-0 hidden-the_row-Place-0 hidden
Read-boxed place = refl

pub Unary-boxed : (mark : UnaryMark) (mark_at : At) (part : Expr) → kind.Unary mark mark_at part ≡ Unary' mark mark_at tt (boxed part.at part.brackets part.kind end)
unfolding shape-the_row-Expr-1 hidden-the_row-Expr-1 hidden
Unary-boxed mark mark_at part = refl

pub Binary-boxed : (mark : BinaryMark) (mark_at : At) (left right : Expr)
    → kind.Binary mark mark_at left right ≡ Binary' mark mark_at tt (boxed left.at left.brackets left.kind end) tt (boxed right.at right.brackets right.kind end)
unfolding shape-the_row-Expr-1 hidden-the_row-Expr-1 hidden
Binary-boxed mark mark_at left right = refl

pub Cast-boxed : (width : Width) (part : Expr) → kind.Cast width part ≡ Cast' width tt (boxed part.at part.brackets part.kind end)
unfolding shape-the_row-Expr-1 hidden-the_row-Expr-1 hidden
Cast-boxed width part = refl

pub Choose-boxed : (cond one other : Expr)
    → kind.Choose cond one other ≡ Choose' tt (boxed cond.at cond.brackets cond.kind end) tt (boxed one.at one.brackets one.kind end) tt (boxed other.at other.brackets other.kind end)
unfolding shape-the_row-Expr-1 hidden-the_row-Expr-1 hidden
Choose-boxed cond one other = refl

pub Call-boxed : (call : Call) → kind.Call call ≡ Call' call.name (shape-the_row-Arg-2 call.args) (hidden-the_row-Arg-2 call.args)
Call-boxed call = refl

pub Value-boxed : (e : Expr) → Value e ≡ Value' e.at e.brackets e.kind
Value-boxed e = refl

pub Index-boxed : (name : Named) (mark_at : At) (index : Expr) → Index name mark_at index ≡ Index' name mark_at tt (boxed index.at index.brackets index.kind end)
unfolding shape-the_row-Expr-1 hidden-the_row-Expr-1 hidden
Index-boxed name mark_at index = refl

pub Index2-boxed : (name : Named) (first_at : At) (first : Expr) (second_at : At) (second : Expr)
    → Index2 name first_at first second_at second ≡ Index2' name first_at tt (boxed first.at first.brackets first.kind end) second_at tt (boxed second.at second.brackets second.kind end)
unfolding shape-the_row-Expr-1 hidden-the_row-Expr-1 hidden
Index2-boxed name first_at first second_at second = refl
