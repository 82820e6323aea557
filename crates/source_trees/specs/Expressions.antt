-- The tree of each expression, place, argument and call, by cases on them: one node for each, but for brackets and
-- unary `+`, which leave none.
use Rattle.std.specs.Prelude.{ℕ, ◌+◌, ◌==◌, pos, List, true, false, if◌then◌else◌, slice_get}
use Rattle.std.specs.Option.{unwrap_or}
use Rattle.operator_meaning.specs.declared.object.Object.{Object}
use Rattle.operator_meaning.specs.declared.site.SiteKind.{SiteKind}
use Rattle.operator_meaning.specs.declared.site.SiteKind.TheVariants as kind
use Rattle.weight_table.specs.declared.counted.Counted.{Counted}
use Rattle.weight_table.specs.declared.counted.Counted.TheVariants as counted
use Rattle.weight_table.specs.declared.table.Table.{Table}
use Rattle.weight_table.specs.Weight.{weight_of}
use Rattle.c_tree.specs.declared.expression.BinaryMark.{BinaryMark}
use Rattle.c_tree.specs.declared.expression.BinaryMark.TheVariants as binary
use Rattle.c_tree.specs.declared.expression.UnaryMark.{UnaryMark}
use Rattle.c_tree.specs.declared.expression.UnaryMark.TheVariants as unary
use Rattle.c_typed.specs.declared.call.Callee.{Callee}
use Rattle.c_typed.specs.declared.call.Callee.TheVariants.{Function, Operator, Move16, Move32, Logic16, Logic32, Test, SampleIn, SampleLeft, SampleOut}
use Rattle.c_typed.specs.declared.call.TypedArg.{TypedArg}
use Rattle.c_typed.specs.declared.call.TypedArg.TheOpen as node
use Rattle.c_typed.specs.declared.call.TypedArg.TheFolds.{fold-TypedArg, fold-TypedCall, fold-TypedExpr, fold-TypedExprKind, fold-TypedPlace}
use Rattle.c_typed.specs.declared.call.TypedCall.{TypedCall}
use Rattle.c_typed.specs.declared.expression.TypedExpr.{TypedExpr}
use Rattle.c_typed.specs.declared.expression.TypedExprKind.{TypedExprKind}
use Rattle.c_typed.specs.declared.place.TypedPlace.{TypedPlace}
use Rattle.source_runs.specs.declared.location.Access.{Access}
use Rattle.source_runs.specs.declared.location.Access.TheVariants as access
use Rattle.source_runs.specs.declared.shape.Shape.{Shape}
use Rattle.source_runs.specs.Shapes.{shape_of}
use Rattle.source_runs.specs.Steps.{edge}
use Rattle.typed_meaning.specs.Expressions.{site_at}
use Rattle.ir_arena.specs.Tree as tree
use Rattle.ir_arena.specs.Tree.{IrTree, IrTarget, IrTrees, trees_from}

-- What is looked up and does not change: the objects, the table of weights, and which number each function of the
-- source has among those that are defined.
pub record TreeSetting : Type 0 where
  pub objects : List Object
  pub table : Table
  pub numbers : List ℕ

abbrev pub one : IrTree → IrTrees
one first = tree.more first tree.end

abbrev pub two : IrTree → IrTree → IrTrees
two first second = tree.more first (one second)

-- ---- marks

-- a site that is no operator has no weight
abbrev pub plain_site : ℕ → SiteKind → IrTrees → IrTree
plain_site site kind operands = tree.Operate site kind operands 0

abbrev pub unary_tree : UnaryMark → ℕ → IrTree → IrTree
unary_tree unary.Minus site part = plain_site site kind.Opposite (one part)
unary_tree unary.Plus site part = part
unary_tree unary.Not site part = tree.Not part
unary_tree unary.Invert site part = tree.Invert part

abbrev pub binary_tree : BinaryMark → ℕ → IrTree → IrTree → IrTree
binary_tree binary.Plus site left right = plain_site site kind.Sum (two left right)
binary_tree binary.Minus site left right = plain_site site kind.Difference (two left right)
binary_tree binary.Times site left right = plain_site site kind.Product (two left right)
binary_tree mark site left right = tree.Binary mark left right

-- ---- places

abbrev pub view_kind : Access → SiteKind
view_kind access.Element = kind.ViewBound
view_kind access.Address = kind.ViewEdge

-- an index on a view is an offset of it; that into an array of two dimensions is a row
abbrev pub index_kind : Access → Shape → SiteKind
index_kind which shape =
    if shape.view then view_kind which else (if shape.columns == 0 then kind.Bound (shape.rows + edge which) else kind.Bound shape.rows)

-- an object by its indices, as an array or through a view
abbrev pub indexed : Shape → IrTrees → IrTarget
indexed shape index = if shape.view then tree.ThroughView shape.object index else tree.Element shape.object index

-- ---- calls

-- a counting call is a node that carries its weight
abbrev pub counting_tree : Table → Counted → IrTree
counting_tree table what = tree.AddCount (weight_of table what)

abbrev pub first_or_zero : List IrTree → IrTree
first_or_zero trees = unwrap_or (slice_get trees 0) (tree.Constant (pos 0))

abbrev pub called_tree : TreeSetting → Callee → ℕ → List IrTree → IrTree
called_tree here (Function number) site args = tree.Call (unwrap_or (slice_get here.numbers number) 0) (trees_from args)
called_tree here (Operator op) site args = tree.Operate site (kind.Call op) (trees_from args) (weight_of here.table (counted.Call op))
called_tree here Move16 site args = counting_tree here.table counted.Move16
called_tree here Move32 site args = counting_tree here.table counted.Move32
called_tree here Logic16 site args = counting_tree here.table counted.Logic16
called_tree here Logic32 site args = counting_tree here.table counted.Logic32
called_tree here Test site args = counting_tree here.table counted.Test
called_tree here SampleIn site args = plain_site site kind.Sample tree.end
called_tree here SampleLeft site args = tree.Left
called_tree here SampleOut site args = tree.Out (first_or_zero args)

-- ---- the folds

module _ (here : TreeSetting) where
  unfoldable pub of_argument : node.TypedArg-F IrTree IrTree (Access → IrTarget) IrTree IrTree → IrTree
  of_argument (node.Value value) = value
  of_argument (node.Address at place) = tree.Address (place access.Address)

  unfoldable pub of_kind : node.TypedExprKind-F IrTree IrTree (Access → IrTarget) IrTree IrTree → IrTree
  of_kind (node.Int value) = tree.Constant value
  of_kind (node.Read place) = tree.Read (place access.Element)
  of_kind (node.ReadOverflow word_at) = tree.ReadFlag word_at.pos
  of_kind (node.Unary mark mark_at site part) = unary_tree mark (site_at site) part
  of_kind (node.Binary mark mark_at site left right) = binary_tree mark (site_at site) left right
  of_kind (node.Cast width part) = tree.Convert true width part
  of_kind (node.Convert width part) = tree.Convert false width part
  of_kind (node.Choose cond this other) = tree.Choose cond this other
  of_kind (node.Call call) = call

  unfoldable pub of_place : node.TypedPlace-F IrTree IrTree (Access → IrTarget) IrTree IrTree → Access → IrTarget
  of_place (node.Plain at object) which = tree.Variable object
  of_place (node.Index at object mark_at site index) which =
      indexed (shape_of here.objects object) (one (plain_site (site_at site) (index_kind which (shape_of here.objects object)) (one index)))
  of_place (node.Index2 at object first_at first_site first second_at second_site second) which =
      indexed (shape_of here.objects object) (two
      (plain_site (site_at first_site) (kind.Bound (shape_of here.objects object).rows) (one first))
      (plain_site (site_at second_site) (kind.Bound ((shape_of here.objects object).columns + edge which)) (one second)))
  of_place (node.Deref star_at site at object) which =
      indexed (shape_of here.objects object) (one (plain_site (site_at site) kind.ViewBound tree.end))

  unfoldable pub of_call : node.TypedCall-F IrTree IrTree (Access → IrTarget) IrTree IrTree → IrTree
  of_call call = called_tree here call.callee (site_at call.site) call.args

  unfoldable pub of_expression : node.TypedExpr-F IrTree IrTree (Access → IrTarget) IrTree IrTree → IrTree
  of_expression e = e.kind

  abbrev pub argument_tree : TypedArg → IrTree
  argument_tree = fold-TypedArg IrTree IrTree (Access → IrTarget) IrTree IrTree of_argument of_kind of_place of_call of_expression

  abbrev pub kind_tree : TypedExprKind → IrTree
  kind_tree = fold-TypedExprKind IrTree IrTree (Access → IrTarget) IrTree IrTree of_argument of_kind of_place of_call of_expression

  abbrev pub place_tree : TypedPlace → Access → IrTarget
  place_tree = fold-TypedPlace IrTree IrTree (Access → IrTarget) IrTree IrTree of_argument of_kind of_place of_call of_expression

  abbrev pub call_tree : TypedCall → IrTree
  call_tree = fold-TypedCall IrTree IrTree (Access → IrTarget) IrTree IrTree of_argument of_kind of_place of_call of_expression

  abbrev pub expression_tree : TypedExpr → IrTree
  expression_tree = fold-TypedExpr IrTree IrTree (Access → IrTarget) IrTree IrTree of_argument of_kind of_place of_call of_expression
