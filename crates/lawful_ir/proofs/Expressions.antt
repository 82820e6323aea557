-- What stands in the tree of an expression is what stands in that expression: an induction over the expression.
use Rattle.std.proofs.Common.{◌≡◌, ℕ, List, [], ◌∷◌, map, refl, sym, ap, subst}
use Rattle.std.specs.Prelude.{Some, None}
use Rattle.c_typed.specs.declared.call.TypedArg.{TypedArg}
use Rattle.c_typed.specs.declared.call.TypedArg.TheOpen as node
use Rattle.c_typed.specs.declared.call.TypedArg.TheViews.{roll-TypedArg, roll-TypedExprKind, roll-TypedPlace}
use Rattle.c_typed.specs.declared.call.TypedArg.TheFolds.{map-TypedArg, map-TypedExprKind, map-TypedPlace, fold-roll-TypedArg, fold-roll-TypedExprKind, fold-roll-TypedPlace, fold_out-TypedCall, fold_out-TypedExpr, ind-TypedArg, ind-TypedPlace, ind-TypedCall, ind-TypedExpr}
use Rattle.c_typed.specs.declared.call.TypedCall.{TypedCall, roll-TypedCall}
use Rattle.c_typed.specs.declared.expression.TypedExpr.{TypedExpr, roll-TypedExpr}
use Rattle.c_typed.specs.declared.expression.TypedExprKind.{TypedExprKind}
use Rattle.c_typed.specs.declared.place.TypedPlace.{TypedPlace}
use Rattle.c_typed.specs.declared.typed.Typed.{Typed}
use Rattle.source_runs.specs.declared.location.Access.{Access}
use Rattle.ir_arena.specs.Tree.{IrTree, IrTarget}
use Rattle.source_trees.specs.Expressions.{argument_tree, kind_tree, place_tree, call_tree, expression_tree, of_argument as argument_node, of_kind as kind_node, of_place as place_node, of_call as call_node, of_expression as expression_node}
use Rattle.lawful_sources.specs.Expressions.{Look, Argued, Placed, Calling, of_kind, of_call, argument_look, kind_look, expression_look, in_place, in_call}
use Rattle.lawful_sources.specs.Things.{Read, Conversion}
use Rattle.constant_expressions.specs.Folding.{converted}
use Rattle.lawful_ir.specs.Positions.{Valued, plainly}
use Rattle.lawful_ir.specs.Walk.{stands}
use Rattle.lawful_sources.proofs.Passing.{roll_argument, roll_kind, roll_place, call-is, expression-is}
use Rattle.lawful_ir.proofs.Alike.{tail, fine, Agrees, setting_of, Goes, nothing, along, valued-goes}
use Rattle.lawful_ir.proofs.Marked.{Walks, plain-goes, unary-walks, binary-walks}
use Rattle.lawful_ir.proofs.Reached.{Reaches, plain-reaches, index-reaches, table-reaches, star-reaches}
use Rattle.lawful_ir.proofs.Calling.{Gives, value-gives, address-gives, AllGive, Invokes, called-invokes}
use Rattle.source_trees.specs.Expressions.{TreeSetting}

module _ (source tables : Typed) (numbers : List ℕ) (place : ℕ → ℕ) (agrees : Agrees source tables numbers place) where
  abbrev here : TreeSetting
  here = setting_of source numbers

  abbrev pub ArgumentWalks : TypedArg → Type 0
  ArgumentWalks x = Gives source tables numbers place agrees (argument_tree here x) (argument_look source x)

  abbrev pub KindWalks : TypedExprKind → Type 0
  KindWalks x = Walks source tables numbers (kind_tree here x) (kind_look source x)

  abbrev pub PlaceWalks : TypedPlace → Type 0
  PlaceWalks x = Reaches source tables numbers place agrees (place_tree here x) (in_place source x)

  abbrev pub CallWalks : TypedCall → Type 0
  CallWalks x = Invokes source tables numbers place agrees (call_tree here x) (in_call source x)

  abbrev pub ExpressionWalks : TypedExpr → Type 0
  ExpressionWalks x = Walks source tables numbers (expression_tree here x) (expression_look source x)

  -- ---- by what the tree of a node is, and by what stands in the node

  kind-by : (x : TypedExprKind) (node : IrTree) (look : Look) → kind_tree here x ≡ node → kind_look source x ≡ look → Walks source tables numbers node look → KindWalks x
  kind-by x node look tree is walks = subst (λ (t : IrTree). Walks source tables numbers t (kind_look source x)) (sym tree) (subst (λ (l : Look). Walks source tables numbers node l) (sym is) walks)

  place-by : (x : TypedPlace) (target : Access → IrTarget) (placed : Placed) → place_tree here x ≡ target → in_place source x ≡ placed → Reaches source tables numbers place agrees target placed → PlaceWalks x
  place-by x target placed tree is reaches =
      subst (λ (t : Access → IrTarget). Reaches source tables numbers place agrees t (in_place source x)) (sym tree) (subst (λ (l : Placed). Reaches source tables numbers place agrees target l) (sym is) reaches)

  argument-by : (x : TypedArg) (node : IrTree) (look : Argued) → argument_tree here x ≡ node → argument_look source x ≡ look → Gives source tables numbers place agrees node look → ArgumentWalks x
  argument-by x node look tree is gives =
      subst (λ (t : IrTree). Gives source tables numbers place agrees t (argument_look source x)) (sym tree) (subst (λ (l : Argued). Gives source tables numbers place agrees node l) (sym is) gives)

  call-by : (x : TypedCall) (node : IrTree) (calling : Calling) → call_tree here x ≡ node → in_call source x ≡ calling → Invokes source tables numbers place agrees node calling → CallWalks x
  call-by x node calling tree is invokes =
      subst (λ (t : IrTree). Invokes source tables numbers place agrees t (in_call source x)) (sym tree) (subst (λ (l : Calling). Invokes source tables numbers place agrees node l) (sym is) invokes)

  tree_kind : (z : node.TypedExprKind-F TypedArg TypedExprKind TypedPlace TypedCall TypedExpr) → kind_tree here (roll-TypedExprKind z) ≡ kind_node here (map-TypedExprKind TypedArg TypedExprKind TypedPlace TypedCall TypedExpr IrTree IrTree (Access → IrTarget) IrTree IrTree (argument_tree here) (kind_tree here) (place_tree here) (call_tree here) (expression_tree here) z)
  tree_kind = fold-roll-TypedExprKind _ _ _ _ _ (argument_node here) (kind_node here) (place_node here) (call_node here) (expression_node here)

  tree_place : (z : node.TypedPlace-F TypedArg TypedExprKind TypedPlace TypedCall TypedExpr) → place_tree here (roll-TypedPlace z) ≡ place_node here (map-TypedPlace TypedArg TypedExprKind TypedPlace TypedCall TypedExpr IrTree IrTree (Access → IrTarget) IrTree IrTree (argument_tree here) (kind_tree here) (place_tree here) (call_tree here) (expression_tree here) z)
  tree_place = fold-roll-TypedPlace _ _ _ _ _ (argument_node here) (kind_node here) (place_node here) (call_node here) (expression_node here)

  tree_argument : (z : node.TypedArg-F TypedArg TypedExprKind TypedPlace TypedCall TypedExpr) → argument_tree here (roll-TypedArg z) ≡ argument_node here (map-TypedArg TypedArg TypedExprKind TypedPlace TypedCall TypedExpr IrTree IrTree (Access → IrTarget) IrTree IrTree (argument_tree here) (kind_tree here) (place_tree here) (call_tree here) (expression_tree here) z)
  tree_argument = fold-roll-TypedArg _ _ _ _ _ (argument_node here) (kind_node here) (place_node here) (call_node here) (expression_node here)

  -- ---- the induction

  abbrev SA : Type 0
  SA = (x : TypedArg) × ArgumentWalks x

  abbrev SK : Type 0
  SK = (x : TypedExprKind) × KindWalks x

  abbrev SP : Type 0
  SP = (x : TypedPlace) × PlaceWalks x

  abbrev SC : Type 0
  SC = (x : TypedCall) × CallWalks x

  abbrev SE : Type 0
  SE = (x : TypedExpr) × ExpressionWalks x

  plain : (x : SE) → Goes source tables numbers (stands tables (expression_tree here x.0) plainly) ((expression_look source x.0).stands None)
  plain x = plain-goes source tables numbers _ _ x.1

  on_kind : (y : node.TypedExprKind-F SA SK SP SC SE) → KindWalks (roll-TypedExprKind (map-TypedExprKind SA SK SP SC SE TypedArg TypedExprKind TypedPlace TypedCall TypedExpr (λ q. q.0) (λ q. q.0) (λ q. q.0) (λ q. q.0) (λ q. q.0) y))
  unfolding of_kind kind_node
  on_kind (node.Int value) =
      kind-by _ _ _ (tree_kind (node.Int value)) (roll_kind source (node.Int value))
      (record { integer = refl; constant = refl; value = refl; stand = λ passed due. valued-goes source tables numbers passed None due [] [] (nothing source tables numbers) })
  on_kind (node.Read named) =
      kind-by _ _ _ (tree_kind (node.Read named.0)) (roll_kind source (node.Read named.0))
      (record { integer = refl; constant = refl; value = refl; stand = λ passed due. valued-goes source tables numbers passed None due _ _ (named.1.reached Read) })
  on_kind (node.ReadOverflow word_at) =
      kind-by _ _ _ (tree_kind (node.ReadOverflow word_at)) (roll_kind source (node.ReadOverflow word_at))
      (record { integer = refl; constant = refl; value = refl; stand = λ passed due. valued-goes source tables numbers passed None due [] [] (nothing source tables numbers) })
  on_kind (node.Unary mark mark_at site part) =
      kind-by _ _ _ (tree_kind (node.Unary mark mark_at site part.0)) (roll_kind source (node.Unary mark mark_at site part.0)) (unary-walks source tables numbers mark mark_at site _ _ part.1)
  on_kind (node.Binary mark mark_at site left right) =
      kind-by _ _ _ (tree_kind (node.Binary mark mark_at site left.0 right.0)) (roll_kind source (node.Binary mark mark_at site left.0 right.0)) (binary-walks source tables numbers mark mark_at site _ _ _ _ left.1 right.1)
  on_kind (node.Cast width part) =
      kind-by _ _ _ (tree_kind (node.Cast width part.0)) (roll_kind source (node.Cast width part.0))
      (record { integer = refl; constant = refl; value = ap (converted width) part.1.value; stand = λ passed due. valued-goes source tables numbers passed None due _ _ (plain part) })
  on_kind (node.Convert width part) =
      kind-by _ _ _ (tree_kind (node.Convert width part.0)) (roll_kind source (node.Convert width part.0))
      (record { integer = refl; constant = refl; value = ap (converted width) part.1.value; stand = λ passed due. valued-goes source tables numbers passed (Some width) due _ _ (plain part) })
  on_kind (node.Choose cond this other) =
      kind-by _ _ _ (tree_kind (node.Choose cond.0 this.0 other.0)) (roll_kind source (node.Choose cond.0 this.0 other.0))
      (record {
        integer = refl;
        constant = refl;
        value = refl;
        stand = λ passed due. valued-goes source tables numbers passed None due _ _ (along source tables numbers _ _ _ _ (plain cond) (along source tables numbers _ _ _ _ (plain this) (plain other)));
      })
  on_kind (node.Call call) =
      kind-by _ _ _ (tree_kind (node.Call call.0)) (roll_kind source (node.Call call.0))
      (record {
        integer = call.1.integer;
        constant = call.1.constant;
        value = call.1.value;
        stand = λ passed due p. call.1.invoked (Valued passed due) (λ site kind weight operands arguments. refl) (tail (fine source) (Conversion None due) _ p);
      })

  on_place : (y : node.TypedPlace-F SA SK SP SC SE) → PlaceWalks (roll-TypedPlace (map-TypedPlace SA SK SP SC SE TypedArg TypedExprKind TypedPlace TypedCall TypedExpr (λ q. q.0) (λ q. q.0) (λ q. q.0) (λ q. q.0) (λ q. q.0) y))
  on_place (node.Plain at object) = place-by _ _ _ (tree_place (node.Plain at object)) (roll_place source (node.Plain at object)) (plain-reaches source tables numbers place agrees at object)
  on_place (node.Index at object mark_at site index) =
      place-by _ _ _ (tree_place (node.Index at object mark_at site index.0)) (roll_place source (node.Index at object mark_at site index.0)) (index-reaches source tables numbers place agrees at object mark_at site _ _ index.1)
  on_place (node.Index2 at object first_at first_site first second_at second_site second) =
      place-by _ _ _ (tree_place (node.Index2 at object first_at first_site first.0 second_at second_site second.0)) (roll_place source (node.Index2 at object first_at first_site first.0 second_at second_site second.0))
      (table-reaches source tables numbers place agrees at object first_at first_site second_at second_site _ _ _ _ first.1 second.1)
  on_place (node.Deref star_at site at object) =
      place-by _ _ _ (tree_place (node.Deref star_at site at object)) (roll_place source (node.Deref star_at site at object)) (star-reaches source tables numbers place agrees star_at site at object)

  on_argument : (y : node.TypedArg-F SA SK SP SC SE) → ArgumentWalks (roll-TypedArg (map-TypedArg SA SK SP SC SE TypedArg TypedExprKind TypedPlace TypedCall TypedExpr (λ q. q.0) (λ q. q.0) (λ q. q.0) (λ q. q.0) (λ q. q.0) y))
  unfolding argument_node
  on_argument (node.Value value) = argument-by _ _ _ (tree_argument (node.Value value.0)) (roll_argument source (node.Value value.0)) (value-gives source tables numbers place agrees _ _ value.1)
  on_argument (node.Address at named) = argument-by _ _ _ (tree_argument (node.Address at named.0)) (roll_argument source (node.Address at named.0)) (address-gives source tables numbers place agrees at _ _ named.1)

  all-give : (ys : List SA) → AllGive source tables numbers place agrees (map (argument_tree here) (map (λ (q : SA). q.0) ys)) (map (argument_look source) (map (λ (q : SA). q.0) ys))
  all-give [] = tt
  all-give (y ∷ ys) = (y.1, all-give ys)

  on_call : (y : node.TypedCall-F SA SK SP SC SE) → CallWalks (record { at = y.at; callee = y.callee; site = y.site; args = map (λ (q : SA). q.0) y.args })
  unfolding of_call call_node
  on_call y =
      call-by _ _ _ (fold_out-TypedCall _ _ _ _ _ (argument_node here) (kind_node here) (place_node here) (call_node here) (expression_node here) (record { at = y.at; callee = y.callee; site = y.site; args = map (λ (q : SA). q.0) y.args }))
      (call-is source (record { at = y.at; callee = y.callee; site = y.site; args = map (λ (q : SA). q.0) y.args }))
      (called-invokes source tables numbers place agrees y.callee y.at y.site _ _ (all-give y.args))

  on_expression : (y : node.TypedExpr-F SA SK SP SC SE) → ExpressionWalks (record { at = y.at; brackets = y.brackets; kind = y.kind.0 })
  unfolding expression_node
  on_expression y =
      let e : TypedExpr = record { at = y.at; brackets = y.brackets; kind = y.kind.0 } in
      subst (λ (t : IrTree). Walks source tables numbers t (expression_look source e)) (sym (fold_out-TypedExpr _ _ _ _ _ (argument_node here) (kind_node here) (place_node here) (call_node here) (expression_node here) e))
      (subst (λ (l : Look). Walks source tables numbers (kind_tree here y.kind.0) l) (sym (expression-is source e)) y.kind.1)

  pub argument-walks : (x : TypedArg) → ArgumentWalks x
  argument-walks = ind-TypedArg ArgumentWalks KindWalks PlaceWalks CallWalks ExpressionWalks
      (λ x y is. subst (λ z. ArgumentWalks (roll-TypedArg z)) is (on_argument y))
      (λ x y is. subst (λ z. KindWalks (roll-TypedExprKind z)) is (on_kind y))
      (λ x y is. subst (λ z. PlaceWalks (roll-TypedPlace z)) is (on_place y))
      (λ x y is. subst (λ z. CallWalks (roll-TypedCall z)) is (on_call y))
      (λ x y is. subst (λ z. ExpressionWalks (roll-TypedExpr z)) is (on_expression y))

  pub place-walks : (x : TypedPlace) → PlaceWalks x
  place-walks = ind-TypedPlace ArgumentWalks KindWalks PlaceWalks CallWalks ExpressionWalks
      (λ x y is. subst (λ z. ArgumentWalks (roll-TypedArg z)) is (on_argument y))
      (λ x y is. subst (λ z. KindWalks (roll-TypedExprKind z)) is (on_kind y))
      (λ x y is. subst (λ z. PlaceWalks (roll-TypedPlace z)) is (on_place y))
      (λ x y is. subst (λ z. CallWalks (roll-TypedCall z)) is (on_call y))
      (λ x y is. subst (λ z. ExpressionWalks (roll-TypedExpr z)) is (on_expression y))

  pub call-walks : (x : TypedCall) → CallWalks x
  call-walks = ind-TypedCall ArgumentWalks KindWalks PlaceWalks CallWalks ExpressionWalks
      (λ x y is. subst (λ z. ArgumentWalks (roll-TypedArg z)) is (on_argument y))
      (λ x y is. subst (λ z. KindWalks (roll-TypedExprKind z)) is (on_kind y))
      (λ x y is. subst (λ z. PlaceWalks (roll-TypedPlace z)) is (on_place y))
      (λ x y is. subst (λ z. CallWalks (roll-TypedCall z)) is (on_call y))
      (λ x y is. subst (λ z. ExpressionWalks (roll-TypedExpr z)) is (on_expression y))

  pub expression-walks : (x : TypedExpr) → ExpressionWalks x
  expression-walks = ind-TypedExpr ArgumentWalks KindWalks PlaceWalks CallWalks ExpressionWalks
      (λ x y is. subst (λ z. ArgumentWalks (roll-TypedArg z)) is (on_argument y))
      (λ x y is. subst (λ z. KindWalks (roll-TypedExprKind z)) is (on_kind y))
      (λ x y is. subst (λ z. PlaceWalks (roll-TypedPlace z)) is (on_place y))
      (λ x y is. subst (λ z. CallWalks (roll-TypedCall z)) is (on_call y))
      (λ x y is. subst (λ z. ExpressionWalks (roll-TypedExpr z)) is (on_expression y))
