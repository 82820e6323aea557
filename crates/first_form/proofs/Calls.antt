-- Calls as the definitions by cases match on them.
use Rattle.std.proofs.Common.{◌≡◌, ℕ, ◌+◌, max, List, [], ◌∷◌, Option, map, refl, ap}
use denote.Hole.Carrier.{hidden}
use Rattle.sat_base.specs.declared.position.Pos.{Pos}
use Rattle.c_tree.specs.declared.call.Arg.{Arg}
use Rattle.c_tree.specs.declared.call.Arg.TheBlock.{hidden-the_row-Arg-2}
use Rattle.c_tree.specs.declared.call.Call.{Call}
use Rattle.c_tree.specs.declared.expression.ExprKind.TheVariants as kind
use Rattle.first_form.specs.declared.first.FirstExpr.{FirstExpr, Add', Sub', more_of-FirstExpr as boxed, end_of-FirstExpr as end}
use Rattle.first_form.specs.declared.first.FirstExpr.TheBlock.{shape-the_row-FirstExpr-0, hidden-the_row-FirstExpr-0}
use Rattle.first_form.specs.declared.first.FirstExpr.TheVariants.{Add, Sub}
use Rattle.first_form.specs.Form.{nesting_of}
use Rattle.first_form.specs.Finding.{call_on, expression_of, argument_of, operands_of, expression_of_call}

-- what is found in the arguments of a call is what is found in those of its list
operands_of-listed : (args : List Arg) → operands_of (hidden-the_row-Arg-2 args) ≡ map argument_of args
unfolding hidden-the_row-Arg-2 hidden
operands_of-listed [] = refl
operands_of-listed (arg ∷ args) = ap (λ (found : List (Option FirstExpr)). argument_of arg ∷ found) (operands_of-listed args)

pub expression_of-Call : (call : Call) → expression_of (kind.Call call) ≡ expression_of_call call
expression_of-Call call = ap (call_on call.name) (operands_of-listed call.args)

pub Add-boxed : (tok : ℕ) (at : Pos) (left right : FirstExpr) → Add tok at left right ≡ Add' tok at tt (boxed left end) tt (boxed right end)
unfolding shape-the_row-FirstExpr-0 hidden-the_row-FirstExpr-0 hidden
Add-boxed tok at left right = refl

pub Sub-boxed : (tok : ℕ) (at : Pos) (left right : FirstExpr) → Sub tok at left right ≡ Sub' tok at tt (boxed left end) tt (boxed right end)
unfolding shape-the_row-FirstExpr-0 hidden-the_row-FirstExpr-0 hidden
Sub-boxed tok at left right = refl

pub nesting_of-Add : (tok : ℕ) (at : Pos) (left right : FirstExpr) → nesting_of (Add tok at left right) ≡ max (nesting_of left) (nesting_of right) + 1
nesting_of-Add tok at left right = ap nesting_of (Add-boxed tok at left right)

pub nesting_of-Sub : (tok : ℕ) (at : Pos) (left right : FirstExpr) → nesting_of (Sub tok at left right) ≡ max (nesting_of left) (nesting_of right) + 1
nesting_of-Sub tok at left right = ap nesting_of (Sub-boxed tok at left right)
