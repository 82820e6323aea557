-- The parts of the tree that the grammar has a rule for.
use Rattle.std.specs.Prelude.{ℕ, Bool, List, Option}
use Rattle.sat_base.specs.declared.name.At.{At}
use Rattle.sat_base.specs.declared.name.Named.{Named}
use Rattle.sat_base.specs.declared.width.Width.{Width}
use Rattle.c_tree.specs.declared.call.Arg.{Arg}
use Rattle.c_tree.specs.declared.call.Call.{Call}
use Rattle.c_tree.specs.declared.declaration.Decl.{Decl}
use Rattle.c_tree.specs.declared.declaration.Dim.{Dim}
use Rattle.c_tree.specs.declared.declaration.Init.{Init}
use Rattle.c_tree.specs.declared.declaration.Objects.{Objects}
use Rattle.c_tree.specs.declared.declaration.Row.{Row}
use Rattle.c_tree.specs.declared.expression.Expr.{Expr}
use Rattle.c_tree.specs.declared.function.Function.{Function}
use Rattle.c_tree.specs.declared.function.Param.{Param}
use Rattle.c_tree.specs.declared.place.Place.{Place}
use Rattle.c_tree.specs.declared.program.Item.{Item}
use Rattle.c_tree.specs.declared.simple.Simple.{Simple}
use Rattle.c_tree.specs.declared.statement.Block.{Block}
use Rattle.c_tree.specs.declared.statement.Stmt.{Stmt}

-- a part of the tree, as the rule of the grammar reads it
pub data Node : Type 0 where
  item : Item → Node
  objects : Objects → Node
  specifiers : At → (is_static is_const : Bool) → Width → Node
  type_ : At → Width → Node
  declarator : (is_static is_const : Bool) → Width → Decl → Node
  dimensions : Option Dim → Option Dim → Node
  dimension : Dim → Node
  start : Init → Node
  view_start : Init → Node
  row : Row → Node
  values : List Expr → Node
  function : Function → Node
  given : At → Bool → Option Width → Node
  result : At → Option Width → Node
  params : List Param → Node
  param : Param → Node
  param_type : (at type_at : At) → Bool → Width → Node
  maybe_name : Option Named → Node
  body : Option Block → Node
  block : Block → Node
  stmt : Stmt → Node
  simples : List Simple → Node
  simple : Simple → Node
  place : Place → Node
  named : Place → Node
  call : Call → Node
  args : List Arg → Node
  arg : Arg → Node
  maybe_expr : Option Expr → Node
  expr : Expr → Node
  chain : ℕ → Expr → Node
  unary : Expr → Node
