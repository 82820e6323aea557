-- What expressions, places, arguments and calls do (C90, 6.3), by cases on them. In a case each part stands for
-- what it does. Evaluation is from left to right.
use Rattle.std.specs.Prelude.{ℕ, ℤ, pos, List, [], Option}
use Rattle.std.specs.Option.{unwrap_or}
use Rattle.operator_meaning.specs.declared.object.Object.{Object}
use Rattle.weight_table.specs.declared.counted.Counted.TheVariants as counted
use Rattle.weight_table.specs.declared.table.Table.{Table}
use Rattle.c_typed.specs.declared.call.Callee.{Callee}
use Rattle.c_typed.specs.declared.call.Callee.TheVariants.{Function, Operator, Move16, Move32, Logic16, Logic32, Test, SampleIn, SampleLeft, SampleOut}
use Rattle.c_typed.specs.declared.call.TypedArg.{TypedArg}
use Rattle.c_typed.specs.declared.call.TypedArg.TheOpen as node
use Rattle.c_typed.specs.declared.call.TypedArg.TheFolds.{fold-TypedArg, fold-TypedCall, fold-TypedExpr, fold-TypedExprKind, fold-TypedPlace}
use Rattle.c_typed.specs.declared.call.TypedCall.{TypedCall}
use Rattle.c_typed.specs.declared.expression.TypedExpr.{TypedExpr}
use Rattle.c_typed.specs.declared.expression.TypedExprKind.{TypedExprKind}
use Rattle.c_typed.specs.declared.place.TypedPlace.{TypedPlace}
use Rattle.source_runs.specs.declared.location.Access.{Access}
use Rattle.source_runs.specs.declared.location.Access.TheVariants.{Element, Address}
use Rattle.source_runs.specs.declared.location.Given.{Given}
use Rattle.source_runs.specs.declared.location.Given.TheVariants.{Number, View}
use Rattle.source_runs.specs.declared.location.Location.{Location}
use Rattle.source_runs.specs.Shapes.{shape_of}
use Rattle.source_runs.specs.State.{converted, number_at}
use Rattle.source_runs.specs.Runs.{Run, gives, ◌>>=◌, ◌>>◌, reading, at_site, found, choosing, gathered}
use Rattle.source_runs.specs.Marks.{unary_meaning, binary_meaning}
use Rattle.source_runs.specs.Steps.{inside, place_of, in_row, named, pointed}
use Rattle.source_runs.specs.Calls.{first_number, operator_call, counting, sample_in, sample_left, sample_out}

-- what a run looks up and does not change: the objects, the table of weights, and how many turns each activation
-- of a loop may begin
pub record Setting : Type 0 where
  pub objects : List Object
  pub table : Table
  pub turns : ℕ

-- the site of a token that has one
abbrev pub site_at : Option ℕ → ℕ
site_at site = unwrap_or site 0

-- what a call of a function of the source does, by the function's number and its arguments
abbrev pub Called : Type 0
Called = ℕ → List Given → Run ℤ

-- a call once its arguments are evaluated; one that is void gives 0, which is not used
unfoldable pub callee_meaning : Setting → Called → Callee → ℕ → List Given → Run ℤ
callee_meaning here called (Function number) site givens = called number givens
callee_meaning here called (Operator op) site givens = operator_call here.table site op givens
callee_meaning here called Move16 site givens = counting here.table counted.Move16 >> gives (pos 0)
callee_meaning here called Move32 site givens = counting here.table counted.Move32 >> gives (pos 0)
callee_meaning here called Logic16 site givens = counting here.table counted.Logic16 >> gives (pos 0)
callee_meaning here called Logic32 site givens = counting here.table counted.Logic32 >> gives (pos 0)
callee_meaning here called Test site givens = counting here.table counted.Test >> gives (pos 0)
callee_meaning here called SampleIn site givens = sample_in site
callee_meaning here called SampleLeft site givens = sample_left
callee_meaning here called SampleOut site givens = sample_out (first_number givens) >> gives (pos 0)

-- an index is checked as soon as it is evaluated
unfoldable pub index_meaning : Setting → ℕ → ℕ → Run ℤ → Access → Run Location
index_meaning here object site index access = index >>= (λ i. found site (place_of access (shape_of here.objects object) i))

unfoldable pub indices_meaning : Setting → ℕ → ℕ → Run ℤ → ℕ → Run ℤ → Access → Run Location
indices_meaning here object first_site first second_site second access =
    first >>= (λ i. at_site first_site (inside i (shape_of here.objects object).rows) >>= (λ row.
    second >>= (λ j. at_site second_site (in_row access (shape_of here.objects object) row j))))

module _ (here : Setting) (called : Called) where
  unfoldable pub of_argument : node.TypedArg-F (Run Given) (Run ℤ) (Access → Run Location) (Run ℤ) (Run ℤ) → Run Given
  of_argument (node.Value value) = value >>= (λ x. gives (Number x))
  of_argument (node.Address at place) = place Address >>= (λ to. gives (View to))

  unfoldable pub of_kind : node.TypedExprKind-F (Run Given) (Run ℤ) (Access → Run Location) (Run ℤ) (Run ℤ) → Run ℤ
  of_kind (node.Int value) = gives value
  of_kind (node.Read place) = place Element >>= (λ at. reading (number_at at))
  of_kind (node.ReadOverflow word_at) = reading (λ kept. kept.overflow)
  of_kind (node.Unary mark mark_at site part) = part >>= unary_meaning mark (site_at site)
  of_kind (node.Binary mark mark_at site left right) = binary_meaning mark (site_at site) left right
  of_kind (node.Cast width part) = part >>= (λ x. gives (converted width x))
  of_kind (node.Convert width part) = part >>= (λ x. gives (converted width x))
  of_kind (node.Choose cond this other) = choosing cond this other
  of_kind (node.Call call) = call

  unfoldable pub of_place : node.TypedPlace-F (Run Given) (Run ℤ) (Access → Run Location) (Run ℤ) (Run ℤ) → Access → Run Location
  of_place (node.Plain at object) access = reading (named (shape_of here.objects object))
  of_place (node.Index at object mark_at site index) access = index_meaning here object (site_at site) index access
  of_place (node.Index2 at object first_at first_site first second_at second_site second) access =
      indices_meaning here object (site_at first_site) first (site_at second_site) second access
  of_place (node.Deref star_at site at object) access = found (site_at site) (pointed (shape_of here.objects object))

  unfoldable pub of_call : node.TypedCall-F (Run Given) (Run ℤ) (Access → Run Location) (Run ℤ) (Run ℤ) → Run ℤ
  of_call call = gathered [] call.args >>= callee_meaning here called call.callee (site_at call.site)

  unfoldable pub of_expression : node.TypedExpr-F (Run Given) (Run ℤ) (Access → Run Location) (Run ℤ) (Run ℤ) → Run ℤ
  of_expression e = e.kind

  abbrev pub argument_meaning : TypedArg → Run Given
  argument_meaning = fold-TypedArg (Run Given) (Run ℤ) (Access → Run Location) (Run ℤ) (Run ℤ) of_argument of_kind of_place of_call of_expression

  abbrev pub kind_meaning : TypedExprKind → Run ℤ
  kind_meaning = fold-TypedExprKind (Run Given) (Run ℤ) (Access → Run Location) (Run ℤ) (Run ℤ) of_argument of_kind of_place of_call of_expression

  abbrev pub place_meaning : TypedPlace → Access → Run Location
  place_meaning = fold-TypedPlace (Run Given) (Run ℤ) (Access → Run Location) (Run ℤ) (Run ℤ) of_argument of_kind of_place of_call of_expression

  abbrev pub call_meaning : TypedCall → Run ℤ
  call_meaning = fold-TypedCall (Run Given) (Run ℤ) (Access → Run Location) (Run ℤ) (Run ℤ) of_argument of_kind of_place of_call of_expression

  abbrev pub expression_meaning : TypedExpr → Run ℤ
  expression_meaning = fold-TypedExpr (Run Given) (Run ℤ) (Access → Run Location) (Run ℤ) (Run ℤ) of_argument of_kind of_place of_call of_expression
