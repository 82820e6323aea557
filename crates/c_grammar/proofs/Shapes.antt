-- The rules of the grammar by what stands in them: quoted tokens, names, numbers and parts of the tree of one kind.
use Rattle.std.proofs.Common.{◌≡◌, ℕ, ℤ, Bool, List, [], ◌∷◌, ◌++◌, Option, refl}
use Rattle.sat_base.specs.declared.name.At.{At}
use Rattle.sat_base.specs.declared.name.Named.{Named}
use Rattle.sat_base.specs.declared.width.Width.{Width}
use Rattle.c_tree.specs.declared.call.Arg.{Arg}
use Rattle.c_tree.specs.declared.call.Call.{Call}
use Rattle.c_tree.specs.declared.declaration.Decl.{Decl}
use Rattle.c_tree.specs.declared.declaration.Dim.{Dim}
use Rattle.c_tree.specs.declared.declaration.Init.{Init}
use Rattle.c_tree.specs.declared.declaration.Objects.{Objects}
use Rattle.c_tree.specs.declared.declaration.Row.{Row}
use Rattle.c_tree.specs.declared.expression.Expr.{Expr}
use Rattle.c_tree.specs.declared.function.Function.{Function}
use Rattle.c_tree.specs.declared.function.Param.{Param}
use Rattle.c_tree.specs.declared.place.Place.{Place}
use Rattle.c_tree.specs.declared.program.Item.{Item}
use Rattle.c_tree.specs.declared.simple.Simple.{Simple}
use Rattle.c_tree.specs.declared.statement.Block.{Block}
use Rattle.c_tree.specs.declared.statement.Stmt.{Stmt}
use Rattle.c_grammar.specs.declared.symbol.Symbol.{Symbol}
use Rattle.c_grammar.specs.Nodes.{Node}
use Rattle.c_grammar.specs.Nodes as a
use Rattle.c_grammar.specs.Parts.{Part, node, word, kept, called, valued, each, separated}

-- what a part of the tree is, with what stood before it and is known of it
pub data Kind : Type 0 where
  item : Kind
  objects : Kind
  specifiers : Kind
  type_ : Kind
  declarator : (is_static is_const : Bool) → Width → Kind
  dimensions : Kind
  dimension : Kind
  start : Kind
  view_start : Kind
  row : Kind
  values : Kind
  function : Kind
  given : Kind
  result : Kind
  params : Kind
  param : Kind
  param_type : Kind
  maybe_name : Kind
  body : Kind
  block : Kind
  stmt : Kind
  simples : Kind
  simple : Kind
  place : Kind
  named : Kind
  call : Kind
  args : Kind
  arg : Kind
  maybe_expr : Kind
  expr : Kind
  chain : ℕ → Kind
  unary : Kind

abbrev pub Tree : Kind → Type 0
Tree item = Item
Tree objects = Objects
Tree specifiers = At × Bool × Bool × Width
Tree type_ = At × Width
Tree (declarator is_static is_const width) = Decl
Tree dimensions = Option Dim × Option Dim
Tree dimension = Dim
Tree start = Init
Tree view_start = Init
Tree row = Row
Tree values = List Expr
Tree function = Function
Tree given = At × Bool × Option Width
Tree result = At × Option Width
Tree params = List Param
Tree param = Param
Tree param_type = At × At × Bool × Width
Tree maybe_name = Option Named
Tree body = Option Block
Tree block = Block
Tree stmt = Stmt
Tree simples = List Simple
Tree simple = Simple
Tree place = Place
Tree named = Place
Tree call = Call
Tree args = List Arg
Tree arg = Arg
Tree maybe_expr = Option Expr
Tree expr = Expr
Tree (chain n) = Expr
Tree unary = Expr

abbrev pub node_of : (k : Kind) → Tree k → Node
node_of item x = a.item x
node_of objects x = a.objects x
node_of specifiers x = a.specifiers x.0 x.1 x.2 x.3
node_of type_ x = a.type_ x.0 x.1
node_of (declarator is_static is_const width) x = a.declarator is_static is_const width x
node_of dimensions x = a.dimensions x.0 x.1
node_of dimension x = a.dimension x
node_of start x = a.start x
node_of view_start x = a.view_start x
node_of row x = a.row x
node_of values x = a.values x
node_of function x = a.function x
node_of given x = a.given x.0 x.1 x.2
node_of result x = a.result x.0 x.1
node_of params x = a.params x
node_of param x = a.param x
node_of param_type x = a.param_type x.0 x.1 x.2 x.3
node_of maybe_name x = a.maybe_name x
node_of body x = a.body x
node_of block x = a.block x
node_of stmt x = a.stmt x
node_of simples x = a.simples x
node_of simple x = a.simple x
node_of place x = a.place x
node_of named x = a.named x
node_of call x = a.call x
node_of args x = a.args x
node_of arg x = a.arg x
node_of maybe_expr x = a.maybe_expr x
node_of expr x = a.expr x
node_of (chain n) x = a.chain n x
node_of unary x = a.unary x

abbrev pub kind_of : Node → Kind
kind_of (a.item x) = item
kind_of (a.objects x) = objects
kind_of (a.specifiers at is_static is_const width) = specifiers
kind_of (a.type_ at width) = type_
kind_of (a.declarator is_static is_const width x) = declarator is_static is_const width
kind_of (a.dimensions rows cols) = dimensions
kind_of (a.dimension x) = dimension
kind_of (a.start x) = start
kind_of (a.view_start x) = view_start
kind_of (a.row x) = row
kind_of (a.values x) = values
kind_of (a.function x) = function
kind_of (a.given at is_static gives) = given
kind_of (a.result at gives) = result
kind_of (a.params x) = params
kind_of (a.param x) = param
kind_of (a.param_type at type_at is_const width) = param_type
kind_of (a.maybe_name x) = maybe_name
kind_of (a.body x) = body
kind_of (a.block x) = block
kind_of (a.stmt x) = stmt
kind_of (a.simples x) = simples
kind_of (a.simple x) = simple
kind_of (a.place x) = place
kind_of (a.named x) = named
kind_of (a.call x) = call
kind_of (a.args x) = args
kind_of (a.arg x) = arg
kind_of (a.maybe_expr x) = maybe_expr
kind_of (a.expr x) = expr
kind_of (a.chain n x) = chain n
kind_of (a.unary x) = unary

pub kind-is : (k : Kind) (x : Tree k) → kind_of (node_of k x) ≡ k
kind-is item x = refl
kind-is _ x = refl

-- ---- what stands in a rule

-- a quoted token, one whose place is kept, a name, a number, a part of the tree, parts one after the other, or parts
-- with commas between them
pub data Slot : Type 0 where
  quoted : Symbol → Slot
  held : Symbol → Slot
  name : Slot
  number : Slot
  tree : Kind → Slot
  many : Kind → Slot
  listed : Kind → Slot

abbrev pub Value : Slot → Type 0
Value (quoted s) = Unit {0}
Value (held s) = At
Value name = Named
Value number = At × ℤ
Value (tree k) = Tree k
Value (many k) = List (Tree k)
Value (listed k) = Tree k × List (Tree k)

abbrev pub slot_parts : (s : Slot) → Value s → List Part
slot_parts (quoted s) v = word s ∷ []
slot_parts (held s) v = kept s v ∷ []
slot_parts name v = called v ∷ []
slot_parts number v = valued v.0 v.1 ∷ []
slot_parts (tree k) v = node (node_of k v) ∷ []
slot_parts (many k) v = each (node_of k) v
slot_parts (listed k) v = separated (node_of k) v.0 v.1

abbrev pub Values : List Slot → Type 0
Values [] = Unit {0}
Values (s ∷ ss) = Value s × Values ss

abbrev pub parts_of : (ss : List Slot) → Values ss → List Part
parts_of [] v = []
parts_of (s ∷ ss) v = slot_parts s v.0 ++ parts_of ss v.1
