-- Expressions, places, arguments and calls do what their trees do: one lemma for each constructor.
use Rattle.std.proofs.Common.{◌≡◌, ℕ, Bool, true, false, List, refl, sym, ap, ◌∙◌}
use Rattle.std.specs.Prelude.{ℤ, pos, Option, Some, None, slice_get}
use Rattle.sat_base.specs.declared.name.At.{At}
use Rattle.sat_base.specs.declared.width.Width.{Width}
use Rattle.operator_meaning.specs.declared.object.Object.{Object}
use Rattle.c_tree.specs.declared.expression.BinaryMark.{BinaryMark}
use Rattle.c_tree.specs.declared.expression.BinaryMark.TheVariants as binary
use Rattle.c_tree.specs.declared.expression.UnaryMark.{UnaryMark}
use Rattle.c_tree.specs.declared.expression.UnaryMark.TheVariants as unary
use Rattle.c_typed.specs.declared.call.TypedArg.TheVariants as argument
use Rattle.c_typed.specs.declared.call.TypedCall.{TypedCall}
use Rattle.c_typed.specs.declared.expression.TypedExpr.{TypedExpr}
use Rattle.c_typed.specs.declared.expression.TypedExprKind.{TypedExprKind}
use Rattle.c_typed.specs.declared.expression.TypedExprKind.TheVariants as kind
use Rattle.c_typed.specs.declared.place.TypedPlace.{TypedPlace}
use Rattle.c_typed.specs.declared.place.TypedPlace.TheVariants as place
use Rattle.source_runs.specs.declared.location.Access.{Access}
use Rattle.source_runs.specs.declared.location.Access.TheVariants.{Element, Address}
use Rattle.source_runs.specs.declared.location.Given.TheVariants.{Number, View}
use Rattle.source_runs.specs.declared.location.Location.{Location}
use Rattle.source_runs.specs.declared.shape.Shape.{Shape}
use Rattle.source_runs.specs.Shapes.{shape_of}
use Rattle.source_runs.specs.State.{converted, number_at}
use Rattle.source_runs.specs.Runs.{Run, gives, ◌>>=◌, ◌>>◌, reading, choosing}
use Rattle.source_runs.specs.Marks.{unary_meaning, binary_meaning, both_meaning}
use Rattle.source_runs.specs.Calls.{number_given}
use Rattle.typed_meaning.specs.Expressions.{Setting, Called, site_at, index_meaning, indices_meaning, place_meaning, expression_meaning, kind_meaning, argument_meaning, call_meaning}
use Rattle.typed_meaning.proofs.Expressions as source
use Rattle.ir_arena.specs.Tree.{IrTree, IrTrees}
use Rattle.tree_meaning.specs.Parts.{operate_meaning, location_meaning}
use Rattle.tree_meaning.specs.Trees.{node_meaning, node_meanings, target_meaning}
use Rattle.source_trees.specs.Expressions.{TreeSetting, indexed, kind_tree, place_tree, expression_tree, argument_tree, call_tree}
use Rattle.source_trees.proofs.Expressions as built
use Rattle.tree_agreement.specs.Agreement.{trees_for, GivesNumber, GivesArgument}
use Rattle.tree_agreement.proofs.Runs.{gives_last, regrouped}

shape_where : (objects : List Object) (number : ℕ) (object : Option Object) → slice_get objects number ≡ object → (shape_of objects number).object ≡ number
shape_where objects number (Some object) is = rw is refl
shape_where objects number None is = rw is refl

-- the shape of an object tells the object's number
pub shape_number : (objects : List Object) (number : ℕ) → (shape_of objects number).object ≡ number
shape_number objects number = shape_where objects number (slice_get objects number) refl

module _ (here : Setting) (numbers : List ℕ) (called tree_called : Called) (defined : ℕ → Bool) where
  abbrev pub Gives : IrTree → Run ℤ → Type 0
  Gives = GivesNumber here tree_called

  abbrev pub value_of : IrTree → Run ℤ
  value_of tree = (node_meaning here tree_called tree).value

  pub by_run : (tree : IrTree) (made run : Run ℤ) → value_of tree ≡ made
      → (node_meaning here tree_called tree).argument ≡ (made >>= (λ x. gives (Number x))) → made ≡ run → Gives tree run
  by_run tree made run value argument same =
      record { value = value ∙ same; argument = argument ∙ ap (λ (r : Run ℤ). r >>= (λ x. gives (Number x))) same }

  abbrev forest : TreeSetting
  forest = trees_for here numbers

  abbrev Kind : TypedExprKind → Type 0
  Kind e = Gives (kind_tree forest e) (kind_meaning here called e)

  abbrev Same : TypedExpr → Type 0
  Same e = Gives (expression_tree forest e) (expression_meaning here called e)

  abbrev Reaches : TypedPlace → Type 0
  Reaches p = (access : Access) → target_meaning here tree_called (place_tree forest p access) access ≡ place_meaning here called p access

  pub agree-Int : (value : ℤ) → Kind (kind.Int value)
  agree-Int value = rw (built.kind-Int, source.kind-Int) (by_run _ _ _ refl refl refl)

  pub agree-Read : (p : TypedPlace) → Reaches p → Kind (kind.Read p)
  agree-Read p same = rw (built.kind-Read, source.kind-Read) (by_run _ _ _ refl refl (ap (λ (to : Run Location). to >>= (λ at. reading (number_at at))) (same Element)))

  pub agree-ReadOverflow : (word_at : At) → Kind (kind.ReadOverflow word_at)
  agree-ReadOverflow word_at = rw (built.kind-ReadOverflow, source.kind-ReadOverflow) (by_run _ _ _ refl refl refl)

  pub agree-Unary : (mark : UnaryMark) (mark_at : At) (site : Option ℕ) (part : TypedExpr) → Same part → Kind (kind.Unary mark mark_at site part)
  unfolding unary_meaning operate_meaning
  agree-Unary unary.Minus mark_at site part same =
      rw (built.kind-Unary, source.kind-Unary) (by_run _ _ _ refl refl (ap (λ (run : Run ℤ). run >>= unary_meaning unary.Minus (site_at site)) same.value))
  agree-Unary unary.Plus mark_at site part same = rw (built.kind-Unary, source.kind-Unary) (by_run _ _ _ same.value same.argument (sym (gives_last _)))
  agree-Unary unary.Not mark_at site part same =
      rw (built.kind-Unary, source.kind-Unary) (by_run _ _ _ refl refl (ap (λ (run : Run ℤ). run >>= unary_meaning unary.Not (site_at site)) same.value))
  agree-Unary unary.Invert mark_at site part same =
      rw (built.kind-Unary, source.kind-Unary) (by_run _ _ _ refl refl (ap (λ (run : Run ℤ). run >>= unary_meaning unary.Invert (site_at site)) same.value))

  both_sides : (mark : BinaryMark) (site : ℕ) (left right : TypedExpr) → Same left → Same right
      → binary_meaning mark site (value_of (expression_tree forest left)) (value_of (expression_tree forest right)) ≡ binary_meaning mark site (expression_meaning here called left) (expression_meaning here called right)
  both_sides mark site left right one other =
      ap (λ (run : Run ℤ). binary_meaning mark site run (value_of (expression_tree forest right))) one.value
      ∙ ap (λ (run : Run ℤ). binary_meaning mark site (expression_meaning here called left) run) other.value

  pub agree-Binary : (mark : BinaryMark) (mark_at : At) (site : Option ℕ) (left right : TypedExpr) → Same left → Same right → Kind (kind.Binary mark mark_at site left right)
  unfolding binary_meaning both_meaning operate_meaning
  agree-Binary binary.Plus mark_at site left right one other =
      rw (built.kind-Binary, source.kind-Binary) (by_run _ _ _ refl refl (both_sides binary.Plus (site_at site) left right one other))
  agree-Binary binary.Minus mark_at site left right one other =
      rw (built.kind-Binary, source.kind-Binary) (by_run _ _ _ refl refl (both_sides binary.Minus (site_at site) left right one other))
  agree-Binary binary.Times mark_at site left right one other =
      rw (built.kind-Binary, source.kind-Binary) (by_run _ _ _ refl refl (both_sides binary.Times (site_at site) left right one other))
  agree-Binary binary.Either mark_at site left right one other =
      rw (built.kind-Binary, source.kind-Binary) (by_run _ _ _ refl refl (both_sides binary.Either (site_at site) left right one other))
  agree-Binary binary.Both mark_at site left right one other =
      rw (built.kind-Binary, source.kind-Binary) (by_run _ _ _ refl refl (both_sides binary.Both (site_at site) left right one other))
  agree-Binary binary.BitOr mark_at site left right one other =
      rw (built.kind-Binary, source.kind-Binary) (by_run _ _ _ refl refl (both_sides binary.BitOr (site_at site) left right one other))
  agree-Binary binary.BitXor mark_at site left right one other =
      rw (built.kind-Binary, source.kind-Binary) (by_run _ _ _ refl refl (both_sides binary.BitXor (site_at site) left right one other))
  agree-Binary binary.BitAnd mark_at site left right one other =
      rw (built.kind-Binary, source.kind-Binary) (by_run _ _ _ refl refl (both_sides binary.BitAnd (site_at site) left right one other))
  agree-Binary binary.Eq mark_at site left right one other =
      rw (built.kind-Binary, source.kind-Binary) (by_run _ _ _ refl refl (both_sides binary.Eq (site_at site) left right one other))
  agree-Binary binary.Ne mark_at site left right one other =
      rw (built.kind-Binary, source.kind-Binary) (by_run _ _ _ refl refl (both_sides binary.Ne (site_at site) left right one other))
  agree-Binary binary.Lt mark_at site left right one other =
      rw (built.kind-Binary, source.kind-Binary) (by_run _ _ _ refl refl (both_sides binary.Lt (site_at site) left right one other))
  agree-Binary binary.Le mark_at site left right one other =
      rw (built.kind-Binary, source.kind-Binary) (by_run _ _ _ refl refl (both_sides binary.Le (site_at site) left right one other))
  agree-Binary binary.Gt mark_at site left right one other =
      rw (built.kind-Binary, source.kind-Binary) (by_run _ _ _ refl refl (both_sides binary.Gt (site_at site) left right one other))
  agree-Binary binary.Ge mark_at site left right one other =
      rw (built.kind-Binary, source.kind-Binary) (by_run _ _ _ refl refl (both_sides binary.Ge (site_at site) left right one other))

  pub agree-Cast : (width : Width) (part : TypedExpr) → Same part → Kind (kind.Cast width part)
  agree-Cast width part same = rw (built.kind-Cast, source.kind-Cast) (by_run _ _ _ refl refl (ap (λ (run : Run ℤ). run >>= (λ x. gives (converted width x))) same.value))

  pub agree-Convert : (width : Width) (part : TypedExpr) → Same part → Kind (kind.Convert width part)
  agree-Convert width part same = rw (built.kind-Convert, source.kind-Convert) (by_run _ _ _ refl refl (ap (λ (run : Run ℤ). run >>= (λ x. gives (converted width x))) same.value))

  pub agree-Choose : (cond this other : TypedExpr) → Same cond → Same this → Same other → Kind (kind.Choose cond this other)
  agree-Choose cond this other if then else =
      rw (built.kind-Choose, source.kind-Choose) (by_run _ _ _ refl refl
      (ap (λ (run : Run ℤ). choosing run (value_of (expression_tree forest this)) (value_of (expression_tree forest other))) if.value
      ∙ ap (λ (run : Run ℤ). choosing (expression_meaning here called cond) run (value_of (expression_tree forest other))) then.value
      ∙ ap (λ (run : Run ℤ). choosing (expression_meaning here called cond) (expression_meaning here called this) run) else.value))

  pub agree-Call : (call : TypedCall) → Gives (call_tree forest call) (call_meaning here called call) → Kind (kind.Call call)
  agree-Call call same = rw (built.kind-Call, source.kind-Call) same

  pub agree-expression : (e : TypedExpr) → Kind e.kind → Same e
  agree-expression e same = rw (built.expression-is, source.expression-is) same

  -- ---- places

  target_where : (shape : Shape) (view : Bool) (index : IrTrees) (access : Access) → shape.view ≡ view
      → target_meaning here tree_called (indexed shape index) access ≡ location_meaning here shape.object (node_meanings here tree_called index) access
  target_where shape true index access is = rw is refl
  target_where shape false index access is = rw is refl

  target_indexed : (object : ℕ) (index : IrTrees) (access : Access)
      → target_meaning here tree_called (indexed (shape_of here.objects object) index) access ≡ location_meaning here object (node_meanings here tree_called index) access
  target_indexed object index access =
      target_where (shape_of here.objects object) (shape_of here.objects object).view index access refl
      ∙ ap (λ (n : ℕ). location_meaning here n (node_meanings here tree_called index) access) (shape_number here.objects object)

  pub agree-Plain : (at : At) (object : ℕ) → Reaches (place.Plain at object)
  agree-Plain at object access = rw (built.place-Plain, source.place-Plain) refl

  pub agree-Index : (at : At) (object : ℕ) (mark_at : At) (site : Option ℕ) (index : TypedExpr) → Same index → Reaches (place.Index at object mark_at site index)
  agree-Index at object mark_at site index same access =
      rw (built.place-Index, source.place-Index) (target_indexed object _ access ∙ ap (λ (run : Run ℤ). index_meaning here object (site_at site) run access) same.value)

  pub agree-Index2 : (at : At) (object : ℕ) (first_at : At) (first_site : Option ℕ) (first : TypedExpr) (second_at : At) (second_site : Option ℕ) (second : TypedExpr)
      → Same first → Same second → Reaches (place.Index2 at object first_at first_site first second_at second_site second)
  agree-Index2 at object first_at first_site first second_at second_site second one other access =
      rw (built.place-Index2, source.place-Index2) (target_indexed object _ access
      ∙ ap (λ (run : Run ℤ). indices_meaning here object (site_at first_site) run (site_at second_site) (value_of (expression_tree forest second)) access) one.value
      ∙ ap (λ (run : Run ℤ). indices_meaning here object (site_at first_site) (expression_meaning here called first) (site_at second_site) run access) other.value)

  pub agree-Deref : (star_at : At) (site : Option ℕ) (at : At) (object : ℕ) → Reaches (place.Deref star_at site at object)
  agree-Deref star_at site at object access = rw (built.place-Deref, source.place-Deref) (target_indexed object _ access)

  -- ---- arguments

  pub agree-Value : (e : TypedExpr) → Same e → GivesArgument here tree_called (argument_tree forest (argument.Value e)) (argument_meaning here called (argument.Value e))
  unfolding ◌>>=◌
  agree-Value e same =
      rw (built.argument-Value, source.argument-Value) (record {
        argument = same.argument;
        value = same.value ∙ sym (gives_last (expression_meaning here called e)) ∙ sym (regrouped (expression_meaning here called e) (λ x. gives (Number x)) (λ given. gives (number_given (Some given))));
      })

  pub agree-Address : (at : At) (p : TypedPlace) → Reaches p → GivesArgument here tree_called (argument_tree forest (argument.Address at p)) (argument_meaning here called (argument.Address at p))
  unfolding ◌>>=◌ ◌>>◌
  agree-Address at p same =
      rw (built.argument-Address, source.argument-Address) (record {
        argument = ap (λ (to : Run Location). to >>= (λ at. gives (View at))) (same Address);
        value = ap (λ (to : Run Location). to >> gives (pos 0)) (same Address) ∙ sym (regrouped (place_meaning here called p Address) (λ at. gives (View at)) (λ given. gives (number_given (Some given))));
      })
