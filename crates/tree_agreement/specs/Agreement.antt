-- That a tree does what a part of a source does.
use Rattle.std.specs.Prelude.{◌≡◌, ℕ, ℤ, Bool, IsTrue, List, Some, slice_get}
use Rattle.std.specs.Option.{unwrap_or}
use Rattle.c_typed.specs.declared.call.TypedArg.{TypedArg}
use Rattle.c_typed.specs.declared.call.TypedCall.{TypedCall}
use Rattle.c_typed.specs.declared.expression.TypedExpr.{TypedExpr}
use Rattle.c_typed.specs.declared.expression.TypedExprKind.{TypedExprKind}
use Rattle.c_typed.specs.declared.place.TypedPlace.{TypedPlace}
use Rattle.source_runs.specs.declared.location.Access.{Access}
use Rattle.source_runs.specs.declared.location.Given.{Given}
use Rattle.source_runs.specs.declared.location.Given.TheVariants.{Number}
use Rattle.source_runs.specs.Runs.{Run, gives, ◌>>=◌}
use Rattle.source_runs.specs.Calls.{number_given}
use Rattle.typed_meaning.specs.Expressions.{Setting, Called, argument_meaning, kind_meaning, place_meaning, call_meaning, expression_meaning}
use Rattle.ir_arena.specs.Tree.{IrTree}
use Rattle.tree_meaning.specs.Trees.{node_meaning, target_meaning}
use Rattle.source_trees.specs.Expressions.{TreeSetting, argument_tree, kind_tree, place_tree, call_tree, expression_tree}
use Rattle.tree_agreement.specs.Lawful.{argument_fits, kind_fits, place_fits, call_fits, expression_fits}

-- The calls of the functions of the tree do what those of the source do, where they are defined.
pub record Renumbers (defined : ℕ → Bool) (numbers : List ℕ) (called tree_called : Called) : Type 0 where
  pub same : (number : ℕ) → IsTrue (defined number) → tree_called (unwrap_or (slice_get numbers number) 0) ≡ called number

module _ (here : Setting) (tree_called : Called) where
  -- a node that gives a number gives it as an argument too
  pub record GivesNumber (tree : IrTree) (run : Run ℤ) : Type 0 where
    pub value : (node_meaning here tree_called tree).value ≡ run
    pub argument : (node_meaning here tree_called tree).argument ≡ (run >>= (λ x. gives (Number x)))

  -- an argument gives a number or a view; as a number a view is 0
  pub record GivesArgument (tree : IrTree) (run : Run Given) : Type 0 where
    pub argument : (node_meaning here tree_called tree).argument ≡ run
    pub value : (node_meaning here tree_called tree).value ≡ (run >>= (λ given. gives (number_given (Some given))))

-- what is looked up for the trees
abbrev pub trees_for : Setting → List ℕ → TreeSetting
trees_for here numbers = record { objects = here.objects; table = here.table; numbers = numbers }

module _ (here : Setting) (numbers : List ℕ) (called tree_called : Called) (defined : ℕ → Bool) where
  abbrev pub ArgumentAgrees : TypedArg → Type 0
  ArgumentAgrees a = IsTrue (argument_fits defined a) → GivesArgument here tree_called (argument_tree (trees_for here numbers) a) (argument_meaning here called a)

  abbrev pub KindAgrees : TypedExprKind → Type 0
  KindAgrees kind = IsTrue (kind_fits defined kind) → GivesNumber here tree_called (kind_tree (trees_for here numbers) kind) (kind_meaning here called kind)

  abbrev pub PlaceAgrees : TypedPlace → Type 0
  PlaceAgrees place = IsTrue (place_fits defined place) → (access : Access) → target_meaning here tree_called (place_tree (trees_for here numbers) place access) access ≡ place_meaning here called place access

  abbrev pub CallAgrees : TypedCall → Type 0
  CallAgrees call = IsTrue (call_fits defined call) → GivesNumber here tree_called (call_tree (trees_for here numbers) call) (call_meaning here called call)

  abbrev pub ExpressionAgrees : TypedExpr → Type 0
  ExpressionAgrees e = IsTrue (expression_fits defined e) → GivesNumber here tree_called (expression_tree (trees_for here numbers) e) (expression_meaning here called e)

-- Each place, argument, call and expression does what its tree does, where its calls are lawful.
pub record PartsAgree (here : Setting) (numbers : List ℕ) (called tree_called : Called) (defined : ℕ → Bool) : Type 0 where
  pub places : (place : TypedPlace) → PlaceAgrees here numbers called tree_called defined place
  pub arguments : (argument : TypedArg) → ArgumentAgrees here numbers called tree_called defined argument
  pub calls : (call : TypedCall) → CallAgrees here numbers called tree_called defined call
  pub expressions : (e : TypedExpr) → ExpressionAgrees here numbers called tree_called defined e
