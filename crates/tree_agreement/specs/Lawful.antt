-- What is asked of the calls of a source, so that they have a tree: what every source has takes as many arguments as
-- it has parameters, and each function that is called is defined.
use Rattle.std.specs.Prelude.{ℕ, ◌&&◌, Bool, true, false, List, [], ◌∷◌}
use Rattle.c_typed.specs.declared.call.Callee.{Callee}
use Rattle.c_typed.specs.declared.call.Callee.TheVariants.{Function, Operator, SampleOut}
use Rattle.c_typed.specs.declared.call.TypedArg.{TypedArg}
use Rattle.c_typed.specs.declared.call.TypedArg.TheOpen as node
use Rattle.c_typed.specs.declared.call.TypedArg.TheFolds.{fold-TypedArg, fold-TypedCall, fold-TypedExpr, fold-TypedExprKind, fold-TypedPlace}
use Rattle.c_typed.specs.declared.call.TypedCall.{TypedCall}
use Rattle.c_typed.specs.declared.expression.TypedExpr.{TypedExpr}
use Rattle.c_typed.specs.declared.expression.TypedExprKind.{TypedExprKind}
use Rattle.c_typed.specs.declared.place.TypedPlace.{TypedPlace}

abbrev pub all_hold : List Bool → Bool
all_hold [] = true
all_hold (first ∷ rest) = first && all_hold rest

abbrev pub is_none : List Bool → Bool
is_none [] = true
is_none (first ∷ rest) = false

abbrev pub is_one : List Bool → Bool
is_one [] = false
is_one (first ∷ rest) = is_none rest

module _ (defined : ℕ → Bool) where
  abbrev pub takes : Callee → List Bool → Bool
  takes (Function number) args = defined number
  takes (Operator op) args = true
  takes SampleOut args = is_one args
  takes callee args = is_none args

  unfoldable pub of_argument : node.TypedArg-F Bool Bool Bool Bool Bool → Bool
  of_argument (node.Value value) = value
  of_argument (node.Address at place) = place

  unfoldable pub of_kind : node.TypedExprKind-F Bool Bool Bool Bool Bool → Bool
  of_kind (node.Int value) = true
  of_kind (node.Read place) = place
  of_kind (node.ReadOverflow word_at) = true
  of_kind (node.Unary mark mark_at site part) = part
  of_kind (node.Binary mark mark_at site left right) = left && right
  of_kind (node.Cast width part) = part
  of_kind (node.Convert width part) = part
  of_kind (node.Choose cond this other) = cond && (this && other)
  of_kind (node.Call call) = call

  unfoldable pub of_place : node.TypedPlace-F Bool Bool Bool Bool Bool → Bool
  of_place (node.Plain at object) = true
  of_place (node.Index at object mark_at site index) = index
  of_place (node.Index2 at object first_at first_site first second_at second_site second) = first && second
  of_place (node.Deref star_at site at object) = true

  unfoldable pub of_call : node.TypedCall-F Bool Bool Bool Bool Bool → Bool
  of_call call = takes call.callee call.args && all_hold call.args

  unfoldable pub of_expression : node.TypedExpr-F Bool Bool Bool Bool Bool → Bool
  of_expression e = e.kind

  abbrev pub argument_fits : TypedArg → Bool
  argument_fits = fold-TypedArg Bool Bool Bool Bool Bool of_argument of_kind of_place of_call of_expression

  abbrev pub kind_fits : TypedExprKind → Bool
  kind_fits = fold-TypedExprKind Bool Bool Bool Bool Bool of_argument of_kind of_place of_call of_expression

  abbrev pub place_fits : TypedPlace → Bool
  place_fits = fold-TypedPlace Bool Bool Bool Bool Bool of_argument of_kind of_place of_call of_expression

  abbrev pub call_fits : TypedCall → Bool
  call_fits = fold-TypedCall Bool Bool Bool Bool Bool of_argument of_kind of_place of_call of_expression

  abbrev pub expression_fits : TypedExpr → Bool
  expression_fits = fold-TypedExpr Bool Bool Bool Bool Bool of_argument of_kind of_place of_call of_expression
