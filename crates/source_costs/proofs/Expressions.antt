-- The tree of each part of an expression costs no more than the part: one lemma for each constructor, and an induction
-- over the source.
use Rattle.std.proofs.Common.{◌≡◌, ℕ, ◌+◌, ◌≤◌, Bool, true, false, List, [], ◌∷◌, map, refl, sym, subst, arith}
use Rattle.std.specs.Prelude.{ℤ, Option}
use Rattle.sat_base.specs.declared.name.At.{At}
use Rattle.sat_base.specs.declared.name.Named.{Named}
use Rattle.sat_base.specs.declared.width.Width.{Width}
use Rattle.c_tree.specs.declared.call.Arg.{Arg, ind-Arg, roll-Arg, map-Arg}
use Rattle.c_tree.specs.declared.call.Arg.TheOpen as node
use Rattle.c_tree.specs.declared.call.Arg.TheVariants as arg
use Rattle.c_tree.specs.declared.call.Call.{Call, ind-Call, roll-Call, map-Call}
use Rattle.c_tree.specs.declared.expression.BinaryMark.{BinaryMark}
use Rattle.c_tree.specs.declared.expression.Expr.{Expr, ind-Expr, roll-Expr, map-Expr}
use Rattle.c_tree.specs.declared.expression.ExprKind.{ExprKind, roll-ExprKind, map-ExprKind}
use Rattle.c_tree.specs.declared.expression.ExprKind.TheVariants as kind
use Rattle.c_tree.specs.declared.expression.UnaryMark.{UnaryMark}
use Rattle.c_tree.specs.declared.place.Place.{Place, ind-Place, roll-Place, map-Place}
use Rattle.c_tree.specs.declared.place.Place.TheVariants as place
use Rattle.source_runs.specs.declared.location.Access.{Access}
use Rattle.source_runs.specs.declared.location.Access.TheVariants.{Element, Address}
use Rattle.source_runs.specs.Shapes.{shape_of}
use Rattle.typed_meaning.specs.Expressions.{site_at}
use Rattle.ir_arena.specs.Costs.{argument_words, cost_of, cost_of_target}
use Rattle.ir_arena.specs.Tree as tree
use Rattle.ir_arena.specs.Tree.{IrTree}
use Rattle.source_trees.specs.Expressions.{TreeSetting, argument_tree, kind_tree, place_tree, call_tree, expression_tree}
use Rattle.source_trees.proofs.Expressions as built
use Rattle.source_costs.specs.Costs.{total, around_words, cost_below, cost_of_place, cost_of_argument, cost_of_expression, cost_of_call}
use Rattle.source_costs.proofs.Equations as source
use Rattle.tied_names.specs.declared.tie.Asked.{Asked}
use Rattle.tied_names.specs.declared.tie.Asked.TheVariants as asks
use Rattle.tied_names.specs.declared.tie.Tie.{Tie}
use Rattle.tied_names.specs.Ties.{Here, tie_of, object_of, callee_by, call_kind, asked_of}
use Rattle.tied_expressions.specs.Expressions.{tied_expression, tied_kind, viewed_kind, tied_place, tied_call, tied_argument, arguments_from, no_view}
use Rattle.tied_expressions.specs.Sites.{unary_kind, binary_kind, number_if}
use Rattle.tied_expressions.proofs.Tied_equations as tied
use Rattle.source_costs.proofs.Calls.{unary_costs, binary_costs, indexed_costs, index_costs, called_costs}

module _ (trees : TreeSetting) where
  abbrev given_cost : IrTree → ℕ
  given_cost tree = argument_words + cost_of tree

  -- as a number, and as a view where one is asked for
  pub record KindCosts (k : ExprKind) : Type 0 where
    pub number : (here : Here) → cost_of (kind_tree trees (tied_kind k here).value) ≤ cost_below k
    pub view : (at : At) (here : Here) → argument_words + cost_of (argument_tree trees (viewed_kind k at here).value) ≤ around_words + cost_below k

  pub record ExpressionCosts (e : Expr) : Type 0 where
    pub number : (here : Here) → around_words + cost_of (expression_tree trees (tied_expression e here).value) ≤ cost_of_expression e
    pub view : (here : Here) → argument_words + cost_of (argument_tree trees (viewed_kind e.kind e.at here).value) ≤ cost_of_expression e

  abbrev PlaceCosts : Place → Type 0
  PlaceCosts p = (here : Here) (ampersand : Bool) (which : Access) → cost_of_target (place_tree trees (tied_place p here ampersand).value which) ≤ cost_of_place p

  abbrev ArgumentCosts : Arg → Type 0
  ArgumentCosts x = (here : Here) (asked : Asked) → argument_words + cost_of (argument_tree trees (tied_argument x here asked).value) ≤ cost_of_argument x

  abbrev CallCosts : Call → Type 0
  CallCosts call = (here : Here) → cost_of (call_tree trees (tied_call call here).value) ≤ cost_of_call call

  -- ---- what stands in the brackets of an expression

  -- what stands for a view that is none
  no_view_costs : (at : At) (here : Here) → argument_words + cost_of (argument_tree trees (no_view at here).value) ≡ argument_words + cost_of (tree.Address (tree.Variable 0))
  no_view_costs at here = rw (built.argument-Address, built.place-Plain) refl

  on_Int : (value : ℤ) → KindCosts (kind.Int value)
  on_Int value = record {
    number = λ here. rw (tied.tied-Int, built.kind-Int) (omega arith);
    view = λ at here. rw tied.viewed-Int (omega (arith, no_view_costs at here));
  }

  on_ReadOverflow : (word_at : At) → KindCosts (kind.ReadOverflow word_at)
  on_ReadOverflow word_at = record {
    number = λ here. rw (tied.tied-ReadOverflow, built.kind-ReadOverflow) (omega arith);
    view = λ at here. rw tied.viewed-ReadOverflow (omega (arith, no_view_costs at here));
  }

  on_Read : (p : Place) → PlaceCosts p → KindCosts (kind.Read p)
  on_Read p reached = record {
    number = λ here. rw (tied.tied-Read, built.kind-Read, source.below-Read) (omega (arith, reached here false Element));
    view = λ at here. rw (tied.viewed-Read, built.argument-Address, source.below-Read) (omega (arith, reached here false Address));
  }

  on_Unary : (mark : UnaryMark) (mark_at : At) (part : Expr) → ExpressionCosts part → KindCosts (kind.Unary mark mark_at part)
  on_Unary mark mark_at part inner = record {
    number = λ here. rw (tied.tied-Unary, built.kind-Unary, source.below-Unary) (omega (arith, unary_costs mark (site_at (number_if here (unary_kind mark) mark_at)) (expression_tree trees (tied_expression part here).value), inner.number here));
    view = λ at here. rw (tied.viewed-Unary, source.below-Unary) (omega (arith, no_view_costs at here));
  }

  on_Binary : (mark : BinaryMark) (mark_at : At) (left right : Expr) → ExpressionCosts left → ExpressionCosts right → KindCosts (kind.Binary mark mark_at left right)
  on_Binary mark mark_at left right first second = record {
    number = λ here. rw (tied.tied-Binary, built.kind-Binary, source.below-Binary)
        (omega (arith, binary_costs mark (site_at (number_if here (binary_kind mark) mark_at)) (expression_tree trees (tied_expression left here).value) (expression_tree trees (tied_expression right here).value), first.number here, second.number here));
    view = λ at here. rw (tied.viewed-Binary, source.below-Binary) (omega (arith, no_view_costs at here));
  }

  on_Cast : (width : Width) (part : Expr) → ExpressionCosts part → KindCosts (kind.Cast width part)
  on_Cast width part inner = record {
    number = λ here. rw (tied.tied-Cast, built.kind-Cast, source.below-Cast) (omega (arith, inner.number here));
    view = λ at here. rw (tied.viewed-Cast, source.below-Cast) (omega (arith, no_view_costs at here));
  }

  on_Choose : (cond this other : Expr) → ExpressionCosts cond → ExpressionCosts this → ExpressionCosts other → KindCosts (kind.Choose cond this other)
  on_Choose cond this other first second third = record {
    number = λ here. rw (tied.tied-Choose, built.kind-Choose, source.below-Choose) (omega (arith, first.number here, second.number here, third.number here));
    view = λ at here. rw (tied.viewed-Choose, source.below-Choose) (omega (arith, no_view_costs at here));
  }

  on_Call : (call : Call) → CallCosts call → KindCosts (kind.Call call)
  on_Call call costs = record {
    number = λ here. rw (tied.tied-Call, built.kind-Call, source.below-Call) (costs here);
    view = λ at here. rw (tied.viewed-Call, source.below-Call) (omega (arith, no_view_costs at here));
  }

  on_whole : (e : Expr) → KindCosts e.kind → ExpressionCosts e
  on_whole e inner = record {
    number = λ here. rw (tied.tied-expression, built.expression-is) (omega (arith, inner.number here));
    view = λ here. inner.view e.at here;
  }

  -- ---- places

  on_Plain : (name : Named) → PlaceCosts (place.Plain name)
  on_Plain name here ampersand which = rw (tied.place-Plain, built.place-Plain) (omega arith)

  on_Index : (name : Named) (mark_at : At) (index : Expr) → ExpressionCosts index → PlaceCosts (place.Index name mark_at index)
  on_Index name mark_at index inner here ampersand which =
      let shape = shape_of trees.objects (object_of here name.name).number in
      rw (tied.place-Index, built.place-Index, source.place-Index, indexed_costs) (omega (arith, index_costs which shape, inner.number here))

  on_Index2 : (name : Named) (first_at : At) (first : Expr) (second_at : At) (second : Expr) → ExpressionCosts first → ExpressionCosts second
      → PlaceCosts (place.Index2 name first_at first second_at second)
  on_Index2 name first_at first second_at second one other here ampersand which =
      rw (tied.place-Index2, built.place-Index2, source.place-Index2, indexed_costs) (omega (arith, one.number here, other.number here))

  on_Deref : (star_at : At) (name : Named) → PlaceCosts (place.Deref star_at name)
  on_Deref star_at name here ampersand which = rw (tied.place-Deref, built.place-Deref, indexed_costs) (omega arith)

  -- ---- arguments

  on_Value : (e : Expr) → ExpressionCosts e → ArgumentCosts (arg.Value e)
  on_Value e inner here (asks.Number width) = rw (tied.argument-Number, built.argument-Value, built.expression-is, built.kind-Convert) (omega (arith, inner.number here))
  on_Value e inner here asks.View = rw tied.argument-View (inner.view here)

  on_Address : (at : At) (p : Place) → PlaceCosts p → ArgumentCosts (arg.Address at p)
  on_Address at p reached here asked = rw (tied.argument-Address, built.argument-Address) (omega (arith, reached here true Address))

  -- ---- the induction

  abbrev SA : Type 0
  SA = (a : Arg) × ArgumentCosts a

  abbrev SK : Type 0
  SK = (k : ExprKind) × KindCosts k

  abbrev SP : Type 0
  SP = (p : Place) × PlaceCosts p

  abbrev SC : Type 0
  SC = (c : Call) × CallCosts c

  abbrev SE : Type 0
  SE = (e : Expr) × ExpressionCosts e

  on_argument : (y : node.Arg-F SA SK SP SC SE) → ArgumentCosts (roll-Arg (map-Arg SA SK SP SC SE Arg ExprKind Place Call Expr (λ e. e.0) (λ e. e.0) (λ e. e.0) (λ e. e.0) (λ e. e.0) y))
  on_argument (node.Value e) = subst ArgumentCosts (sym (arg.rolls-Value e.0)) (on_Value e.0 e.1)
  on_argument (node.Address at p) = subst ArgumentCosts (sym (arg.rolls-Address at p.0)) (on_Address at p.0 p.1)

  on_kind : (y : node.ExprKind-F SA SK SP SC SE) → KindCosts (roll-ExprKind (map-ExprKind SA SK SP SC SE Arg ExprKind Place Call Expr (λ e. e.0) (λ e. e.0) (λ e. e.0) (λ e. e.0) (λ e. e.0) y))
  on_kind (node.Int value) = subst KindCosts (sym (kind.rolls-Int value)) (on_Int value)
  on_kind (node.Read p) = subst KindCosts (sym (kind.rolls-Read p.0)) (on_Read p.0 p.1)
  on_kind (node.ReadOverflow word_at) = subst KindCosts (sym (kind.rolls-ReadOverflow word_at)) (on_ReadOverflow word_at)
  on_kind (node.Unary mark mark_at part) = subst KindCosts (sym (kind.rolls-Unary mark mark_at part.0)) (on_Unary mark mark_at part.0 part.1)
  on_kind (node.Binary mark mark_at left right) = subst KindCosts (sym (kind.rolls-Binary mark mark_at left.0 right.0)) (on_Binary mark mark_at left.0 right.0 left.1 right.1)
  on_kind (node.Cast width part) = subst KindCosts (sym (kind.rolls-Cast width part.0)) (on_Cast width part.0 part.1)
  on_kind (node.Choose cond this other) = subst KindCosts (sym (kind.rolls-Choose cond.0 this.0 other.0)) (on_Choose cond.0 this.0 other.0 cond.1 this.1 other.1)
  on_kind (node.Call call) = subst KindCosts (sym (kind.rolls-Call call.0)) (on_Call call.0 call.1)

  on_place : (y : node.Place-F SA SK SP SC SE) → PlaceCosts (roll-Place (map-Place SA SK SP SC SE Arg ExprKind Place Call Expr (λ e. e.0) (λ e. e.0) (λ e. e.0) (λ e. e.0) (λ e. e.0) y))
  on_place (node.Plain name) = subst PlaceCosts (sym (place.rolls-Plain name)) (on_Plain name)
  on_place (node.Index name mark_at index) = subst PlaceCosts (sym (place.rolls-Index name mark_at index.0)) (on_Index name mark_at index.0 index.1)
  on_place (node.Index2 name first_at first second_at second) =
      subst PlaceCosts (sym (place.rolls-Index2 name first_at first.0 second_at second.0)) (on_Index2 name first_at first.0 second_at second.0 first.1 second.1)
  on_place (node.Deref star_at name) = subst PlaceCosts (sym (place.rolls-Deref star_at name)) (on_Deref star_at name)

  on_arguments : (ys : List SA) (here : Here) (tie : Option Tie) (n : ℕ)
      → total given_cost (map (argument_tree trees) (arguments_from (map (λ (e : SA). e.0) ys) here tie n).value) ≤ total cost_of_argument (map (λ (e : SA). e.0) ys)
  on_arguments [] here tie n = omega arith
  on_arguments (y ∷ ys) here tie n = omega (arith, y.1 here (asked_of here.items tie n), on_arguments ys here tie (n + 1))

  on_call : (y : node.Call-F SA SK SP SC SE) → CallCosts (roll-Call (map-Call SA SK SP SC SE Arg ExprKind Place Call Expr (λ e. e.0) (λ e. e.0) (λ e. e.0) (λ e. e.0) (λ e. e.0) y))
  on_call y here =
      let tie = tie_of here y.name.name in
      rw (tied.call-parts, built.call-is)
      (omega (arith, called_costs trees (callee_by tie) (site_at (number_if here (call_kind (callee_by tie)) y.name.at)) (map (argument_tree trees) (arguments_from (map (λ (e : SA). e.0) y.args) here tie 0).value), on_arguments y.args here tie 0))

  on_expression : (y : node.Expr-F SA SK SP SC SE) → ExpressionCosts (roll-Expr (map-Expr SA SK SP SC SE Arg ExprKind Place Call Expr (λ e. e.0) (λ e. e.0) (λ e. e.0) (λ e. e.0) (λ e. e.0) y))
  on_expression y = on_whole (roll-Expr (map-Expr SA SK SP SC SE Arg ExprKind Place Call Expr (λ e. e.0) (λ e. e.0) (λ e. e.0) (λ e. e.0) (λ e. e.0) y)) y.kind.1

  pub argument_costs : (a : Arg) → ArgumentCosts a
  argument_costs =
      ind-Arg ArgumentCosts KindCosts PlaceCosts CallCosts ExpressionCosts
      (λ x y is. subst (λ z. ArgumentCosts (roll-Arg z)) is (on_argument y))
      (λ x y is. subst (λ z. KindCosts (roll-ExprKind z)) is (on_kind y))
      (λ x y is. subst (λ z. PlaceCosts (roll-Place z)) is (on_place y))
      (λ x y is. subst (λ z. CallCosts (roll-Call z)) is (on_call y))
      (λ x y is. subst (λ z. ExpressionCosts (roll-Expr z)) is (on_expression y))

  pub place_costs : (p : Place) → PlaceCosts p
  place_costs =
      ind-Place ArgumentCosts KindCosts PlaceCosts CallCosts ExpressionCosts
      (λ x y is. subst (λ z. ArgumentCosts (roll-Arg z)) is (on_argument y))
      (λ x y is. subst (λ z. KindCosts (roll-ExprKind z)) is (on_kind y))
      (λ x y is. subst (λ z. PlaceCosts (roll-Place z)) is (on_place y))
      (λ x y is. subst (λ z. CallCosts (roll-Call z)) is (on_call y))
      (λ x y is. subst (λ z. ExpressionCosts (roll-Expr z)) is (on_expression y))

  pub call_costs : (c : Call) → CallCosts c
  call_costs =
      ind-Call ArgumentCosts KindCosts PlaceCosts CallCosts ExpressionCosts
      (λ x y is. subst (λ z. ArgumentCosts (roll-Arg z)) is (on_argument y))
      (λ x y is. subst (λ z. KindCosts (roll-ExprKind z)) is (on_kind y))
      (λ x y is. subst (λ z. PlaceCosts (roll-Place z)) is (on_place y))
      (λ x y is. subst (λ z. CallCosts (roll-Call z)) is (on_call y))
      (λ x y is. subst (λ z. ExpressionCosts (roll-Expr z)) is (on_expression y))

  pub expression_costs : (e : Expr) → ExpressionCosts e
  expression_costs =
      ind-Expr ArgumentCosts KindCosts PlaceCosts CallCosts ExpressionCosts
      (λ x y is. subst (λ z. ArgumentCosts (roll-Arg z)) is (on_argument y))
      (λ x y is. subst (λ z. KindCosts (roll-ExprKind z)) is (on_kind y))
      (λ x y is. subst (λ z. PlaceCosts (roll-Place z)) is (on_place y))
      (λ x y is. subst (λ z. CallCosts (roll-Call z)) is (on_call y))
      (λ x y is. subst (λ z. ExpressionCosts (roll-Expr z)) is (on_expression y))
