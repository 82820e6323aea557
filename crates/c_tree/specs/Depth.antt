-- The depth of a tree: the greatest number of nodes on one path from an item to a leaf. The nodes are the
-- statements, the expressions and the places, and each pair of brackets around an expression counts as one
-- more. In a pattern `boxed` is a box with an expression in it, by its three fields, and `place_in_box` and
-- `stmt_in_box` are boxes with a place and a statement in them.
use Rattle.std.specs.Prelude.{ℕ, suc, ◌+◌, max, List, [], ◌∷◌, Option, Some, None}
use Rattle.c_tree.specs.declared.declaration.Decl.{Decl}
use Rattle.c_tree.specs.declared.declaration.Dim.{Dim}
use Rattle.c_tree.specs.declared.declaration.Init.{Init}
use Rattle.c_tree.specs.declared.declaration.Init.TheVariants.{Nothing, One, Flat, Rows}
use Rattle.c_tree.specs.declared.declaration.Objects.{Objects}
use Rattle.c_tree.specs.declared.declaration.Row.{Row}
use Rattle.c_tree.specs.declared.call.Arg.{Arg, Value', Address}
use Rattle.c_tree.specs.declared.call.Call.{Call}
use Rattle.c_tree.specs.declared.expression.Expr.{Expr}
use Rattle.c_tree.specs.declared.expression.ExprKind.{ExprKind, Int, Read', ReadOverflow, Unary', Binary', Cast', Choose', Call', more_of-Expr as boxed, more_of-Place as place_in_box, Row_of-Arg, end_of-Arg, more_of-Arg}
use Rattle.c_tree.specs.declared.place.Place.{Place, Plain, Index', Index2', Deref}
use Rattle.c_tree.specs.declared.function.Function.{Function}
use Rattle.c_tree.specs.declared.function.Param.{Param}
use Rattle.c_tree.specs.declared.program.Item.{Item}
use Rattle.c_tree.specs.declared.program.Item.TheVariants as items
use Rattle.c_tree.specs.declared.program.Program.{Program}
use Rattle.c_tree.specs.declared.statement.Block.{Block}
use Rattle.c_tree.specs.declared.simple.Simple.{Simple}
use Rattle.c_tree.specs.declared.simple.Simple.TheVariants as simple
use Rattle.c_tree.specs.declared.statement.Stmt.{Stmt, Empty, Block', Simple as SimpleStmt, If', While', Do', For', Break, Continue, Return, Held-Stmt-If-3, None', Some', Row_of-Stmt, end_of-Stmt, more_of-Stmt, more_of-Stmt as stmt_in_box}

-- the greatest depth of these, and 0 where there is none
abbrev pub deepest : {A : Type 0} → (A → ℕ) → List A → ℕ
deepest depth [] = 0
deepest depth (x ∷ xs) = max (depth x) (deepest depth xs)

-- the depth of what may be missing
abbrev pub depth_if_any : {A : Type 0} → (A → ℕ) → Option A → ℕ
depth_if_any depth None = 0
depth_if_any depth (Some x) = depth x

-- ---- expressions and places

-- the depth of an expression in this many pairs of brackets, by what lies below it
abbrev pub bracketed : ℕ → ℕ → ℕ
bracketed brackets below = suc below + brackets

abbrev mutual
  -- the greatest depth of what lies below an expression
  pub depth_below : ExprKind → ℕ
  depth_below (Int value) = 0
  depth_below (Read' _ (place_in_box place _)) = depth_of_place place
  depth_below (ReadOverflow word_at) = 0
  depth_below (Unary' mark mark_at _ (boxed at brackets kind _)) = bracketed brackets (depth_below kind)
  depth_below (Binary' mark mark_at _ (boxed at brackets kind _) _ (boxed at2 brackets2 kind2 _)) =
      max (bracketed brackets (depth_below kind)) (bracketed brackets2 (depth_below kind2))
  depth_below (Cast' width _ (boxed at brackets kind _)) = bracketed brackets (depth_below kind)
  depth_below (Choose' _ (boxed at brackets kind _) _ (boxed at2 brackets2 kind2 _) _ (boxed at3 brackets3 kind3 _)) =
      max (bracketed brackets (depth_below kind)) (max (bracketed brackets2 (depth_below kind2)) (bracketed brackets3 (depth_below kind3)))
  depth_below (Call' name _ args) = depth_of_row args

  pub depth_of_place : Place → ℕ
  depth_of_place (Plain name) = 1
  depth_of_place (Index' name mark_at _ (boxed at brackets kind _)) = suc (bracketed brackets (depth_below kind))
  depth_of_place (Index2' name first_at _ (boxed at brackets kind _) second_at _ (boxed at2 brackets2 kind2 _)) =
      suc (max (bracketed brackets (depth_below kind)) (bracketed brackets2 (depth_below kind2)))
  depth_of_place (Deref star_at name) = 1

  pub depth_of_argument : Arg → ℕ
  depth_of_argument (Value' at brackets kind) = bracketed brackets (depth_below kind)
  depth_of_argument (Address at place) = depth_of_place place

  -- the greatest depth of some arguments
  pub depth_of_row : {m : _} → Row_of-Arg m → ℕ
  depth_of_row end_of-Arg = 0
  depth_of_row (more_of-Arg arg more) = max (depth_of_argument arg) (depth_of_row more)

abbrev pub depth_of_expression : Expr → ℕ
depth_of_expression e = bracketed e.brackets (depth_below e.kind)

abbrev pub depth_of_call : Call → ℕ
depth_of_call call = deepest depth_of_argument call.args

-- ---- declarations

abbrev pub depth_of_dimension : Dim → ℕ
depth_of_dimension dim = depth_if_any depth_of_expression dim.length

abbrev pub depth_of_values : Row → ℕ
depth_of_values row = deepest depth_of_expression row.values

abbrev pub depth_of_initialiser : Init → ℕ
depth_of_initialiser Nothing = 0
depth_of_initialiser (One arg) = depth_of_argument arg
depth_of_initialiser (Flat values) = deepest depth_of_expression values
depth_of_initialiser (Rows rows) = deepest depth_of_values rows

abbrev pub depth_of_declared : Decl → ℕ
depth_of_declared decl =
    max (max (depth_if_any depth_of_dimension decl.rows) (depth_if_any depth_of_dimension decl.cols)) (depth_of_initialiser decl.init)

abbrev pub depth_of_objects : Objects → ℕ
depth_of_objects objects = deepest depth_of_declared objects.decls

-- ---- statements

-- the greatest depth of what lies below the statement that this is
abbrev pub depth_of_simple : Simple → ℕ
depth_of_simple (simple.Assign at place mark mark_at value) = max (depth_of_place place) (depth_of_expression value)
depth_of_simple (simple.Step at place up mark_at) = depth_of_place place
depth_of_simple (simple.SetOverflow at value) = depth_of_expression value
depth_of_simple (simple.Call call) = depth_of_call call

abbrev mutual
  pub depth_of_statement : Stmt → ℕ
  depth_of_statement (Empty at) = 1
  depth_of_statement (Block' at objects _ stmts) = suc (max (deepest depth_of_objects objects) (depth_of_statements stmts))
  depth_of_statement (SimpleStmt simple) = suc (depth_of_simple simple)
  depth_of_statement (If' at cond _ (stmt_in_box branch _) other) = suc (max (depth_of_expression cond) (max (depth_of_statement branch) (depth_of_else other)))
  depth_of_statement (While' at cond _ (stmt_in_box body _)) = suc (max (depth_of_expression cond) (depth_of_statement body))
  depth_of_statement (Do' at _ (stmt_in_box body _) cond) = suc (max (depth_of_statement body) (depth_of_expression cond))
  depth_of_statement (For' at first cond last _ (stmt_in_box body _)) =
      suc (max (deepest depth_of_simple first) (max (depth_if_any depth_of_expression cond) (max (deepest depth_of_simple last) (depth_of_statement body))))
  depth_of_statement (Break at) = 1
  depth_of_statement (Continue at) = 1
  depth_of_statement (Return at value) = suc (depth_if_any depth_of_expression value)

  -- the depth of the branch after `else`, if there is one
  pub depth_of_else : Held-Stmt-If-3 → ℕ
  depth_of_else None' = 0
  depth_of_else (Some' _ (stmt_in_box branch _)) = depth_of_statement branch

  -- the greatest depth of some statements
  pub depth_of_statements : {m : _} → Row_of-Stmt m → ℕ
  depth_of_statements end_of-Stmt = 0
  depth_of_statements (more_of-Stmt stmt more) = max (depth_of_statement stmt) (depth_of_statements more)

-- the greatest depth of what lies in a block; the block that is a function's body is no node
abbrev pub depth_of_block : Block → ℕ
depth_of_block block = max (deepest depth_of_objects block.objects) (deepest depth_of_statement block.stmts)

-- ---- the whole source

abbrev pub depth_of_parameter : Param → ℕ
depth_of_parameter param = depth_if_any depth_of_dimension param.dim

abbrev pub depth_of_function : Function → ℕ
depth_of_function function = max (deepest depth_of_parameter function.params) (depth_if_any depth_of_block function.body)

abbrev pub depth_of_item : Item → ℕ
depth_of_item (items.Objects objects) = depth_of_objects objects
depth_of_item (items.Function function) = depth_of_function function
depth_of_item (items.ExternFlag at) = 0

abbrev pub depth_of : Program → ℕ
depth_of program = deepest depth_of_item program.items
