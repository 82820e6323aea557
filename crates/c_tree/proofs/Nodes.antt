-- An induction over the whole tree: a node is no deeper than all the nodes in it, itself among them, and all
-- their pairs of brackets together. In a pattern `boxed` is a box with an expression in it, by its three
-- fields.
use Rattle.std.proofs.Common.{ℕ, suc, ◌+◌, ◌≤◌, List, [], ◌∷◌, Option, Some, None, arith}
use Rattle.c_tree.specs.declared.call.Arg.{Arg, Value', Address}
use Rattle.c_tree.specs.declared.declaration.Decl.{Decl}
use Rattle.c_tree.specs.declared.declaration.Dim.{Dim}
use Rattle.c_tree.specs.declared.declaration.Init.{Init}
use Rattle.c_tree.specs.declared.declaration.Init.TheVariants.{Nothing, One, Flat, Rows}
use Rattle.c_tree.specs.declared.declaration.Objects.{Objects}
use Rattle.c_tree.specs.declared.declaration.Row.{Row}
use Rattle.c_tree.specs.declared.expression.Expr.{Expr}
use Rattle.c_tree.specs.declared.expression.ExprKind.{ExprKind, Int, Read', ReadOverflow, Unary', Binary', Cast', Choose', Call', more_of-Expr as boxed, more_of-Place as place_in_box, Row_of-Arg, end_of-Arg, more_of-Arg}
use Rattle.c_tree.specs.declared.place.Place.{Place, Plain, Index', Index2', Deref}
use Rattle.c_tree.specs.declared.simple.Simple.{Simple}
use Rattle.c_tree.specs.declared.simple.Simple.TheVariants as simple
use Rattle.c_tree.specs.declared.statement.Stmt.{Stmt, Empty, Block', Simple as SimpleStmt, If', While', Do', For', Break, Continue, Return, Held-Stmt-If-3, None', Some', Row_of-Stmt, end_of-Stmt, more_of-Stmt, more_of-Stmt as stmt_in_box}
use Rattle.c_tree.specs.Depth.{deepest, depth_if_any, bracketed, depth_below, depth_of_place, depth_of_argument, depth_of_row, depth_of_expression, depth_of_dimension, depth_of_values, depth_of_initialiser, depth_of_declared, depth_of_objects, depth_of_simple, depth_of_statement, depth_of_else, depth_of_statements}

-- ---- lists and what may be missing

abbrev sum_of : {A : Type 0} → (A → ℕ) → List A → ℕ
sum_of count [] = 0
sum_of count (x ∷ xs) = count x + sum_of count xs

abbrev count_if_any : {A : Type 0} → (A → ℕ) → Option A → ℕ
count_if_any count None = 0
count_if_any count (Some x) = count x

deepest-le-sum_of : {A : Type 0} (depth count : A → ℕ) → ((x : A) → depth x ≤ count x) → (xs : List A) → deepest depth xs ≤ sum_of count xs
deepest-le-sum_of depth count each [] = omega arith
deepest-le-sum_of depth count each (x ∷ xs) = omega (arith, each x, deepest-le-sum_of depth count each xs)

depth-le-count_if_any : {A : Type 0} (depth count : A → ℕ) → ((x : A) → depth x ≤ count x) → (x : Option A) → depth_if_any depth x ≤ count_if_any count x
depth-le-count_if_any depth count each None = omega arith
depth-le-count_if_any depth count each (Some x) = each x

-- ---- expressions and places

abbrev mutual
  pub nodes_below : ExprKind → ℕ
  nodes_below (Int value) = 0
  nodes_below (Read' _ (place_in_box place _)) = nodes_of_place place
  nodes_below (ReadOverflow word_at) = 0
  nodes_below (Unary' mark mark_at _ (boxed at brackets kind _)) = bracketed brackets (nodes_below kind)
  nodes_below (Binary' mark mark_at _ (boxed at brackets kind _) _ (boxed at2 brackets2 kind2 _)) = bracketed brackets (nodes_below kind) + bracketed brackets2 (nodes_below kind2)
  nodes_below (Cast' width _ (boxed at brackets kind _)) = bracketed brackets (nodes_below kind)
  nodes_below (Choose' _ (boxed at brackets kind _) _ (boxed at2 brackets2 kind2 _) _ (boxed at3 brackets3 kind3 _)) =
      bracketed brackets (nodes_below kind) + (bracketed brackets2 (nodes_below kind2) + bracketed brackets3 (nodes_below kind3))
  nodes_below (Call' name _ args) = nodes_of_row args

  pub nodes_of_place : Place → ℕ
  nodes_of_place (Plain name) = 1
  nodes_of_place (Index' name mark_at _ (boxed at brackets kind _)) = suc (bracketed brackets (nodes_below kind))
  nodes_of_place (Index2' name first_at _ (boxed at brackets kind _) second_at _ (boxed at2 brackets2 kind2 _)) =
      suc (bracketed brackets (nodes_below kind) + bracketed brackets2 (nodes_below kind2))
  nodes_of_place (Deref star_at name) = 1

  pub nodes_of_argument : Arg → ℕ
  nodes_of_argument (Value' at brackets kind) = bracketed brackets (nodes_below kind)
  nodes_of_argument (Address at place) = nodes_of_place place

  pub nodes_of_row : {m : _} → Row_of-Arg m → ℕ
  nodes_of_row end_of-Arg = 0
  nodes_of_row (more_of-Arg arg more) = nodes_of_argument arg + nodes_of_row more

mutual
  pub depth_below-le : (kind : ExprKind) → depth_below kind ≤ nodes_below kind
  depth_below-le (Int value) = omega arith
  depth_below-le (Read' _ (place_in_box place _)) = depth_of_place-le place
  depth_below-le (ReadOverflow word_at) = omega arith
  depth_below-le (Unary' mark mark_at _ (boxed at brackets kind _)) = omega (arith, depth_below-le kind)
  depth_below-le (Binary' mark mark_at _ (boxed at brackets kind _) _ (boxed at2 brackets2 kind2 _)) = omega (arith, depth_below-le kind, depth_below-le kind2)
  depth_below-le (Cast' width _ (boxed at brackets kind _)) = omega (arith, depth_below-le kind)
  depth_below-le (Choose' _ (boxed at brackets kind _) _ (boxed at2 brackets2 kind2 _) _ (boxed at3 brackets3 kind3 _)) =
      omega (arith, depth_below-le kind, depth_below-le kind2, depth_below-le kind3)
  depth_below-le (Call' name _ args) = depth_of_row-le args

  pub depth_of_place-le : (place : Place) → depth_of_place place ≤ nodes_of_place place
  depth_of_place-le (Plain name) = omega arith
  depth_of_place-le (Index' name mark_at _ (boxed at brackets kind _)) = omega (arith, depth_below-le kind)
  depth_of_place-le (Index2' name first_at _ (boxed at brackets kind _) second_at _ (boxed at2 brackets2 kind2 _)) = omega (arith, depth_below-le kind, depth_below-le kind2)
  depth_of_place-le (Deref star_at name) = omega arith

  pub depth_of_argument-le : (arg : Arg) → depth_of_argument arg ≤ nodes_of_argument arg
  depth_of_argument-le (Value' at brackets kind) = omega (arith, depth_below-le kind)
  depth_of_argument-le (Address at place) = depth_of_place-le place

  pub depth_of_row-le : {m : _} (row : Row_of-Arg m) → depth_of_row row ≤ nodes_of_row row
  depth_of_row-le end_of-Arg = omega arith
  depth_of_row-le (more_of-Arg arg more) = omega (arith, depth_of_argument-le arg, depth_of_row-le more)

abbrev pub nodes_of_expression : Expr → ℕ
nodes_of_expression e = bracketed e.brackets (nodes_below e.kind)

pub depth_of_expression-le : (e : Expr) → depth_of_expression e ≤ nodes_of_expression e
depth_of_expression-le e = omega (arith, depth_below-le e.kind)

-- ---- declarations

abbrev nodes_of_dimension : Dim → ℕ
nodes_of_dimension dim = count_if_any nodes_of_expression dim.length

abbrev nodes_of_values : Row → ℕ
nodes_of_values row = sum_of nodes_of_expression row.values

abbrev nodes_of_initialiser : Init → ℕ
nodes_of_initialiser Nothing = 0
nodes_of_initialiser (One arg) = nodes_of_argument arg
nodes_of_initialiser (Flat values) = sum_of nodes_of_expression values
nodes_of_initialiser (Rows rows) = sum_of nodes_of_values rows

abbrev nodes_of_declared : Decl → ℕ
nodes_of_declared decl = count_if_any nodes_of_dimension decl.rows + (count_if_any nodes_of_dimension decl.cols + nodes_of_initialiser decl.init)

abbrev pub nodes_of_objects : Objects → ℕ
nodes_of_objects objects = sum_of nodes_of_declared objects.decls

depth_of_dimension-le : (dim : Dim) → depth_of_dimension dim ≤ nodes_of_dimension dim
depth_of_dimension-le dim = depth-le-count_if_any depth_of_expression nodes_of_expression depth_of_expression-le dim.length

depth_of_initialiser-le : (init : Init) → depth_of_initialiser init ≤ nodes_of_initialiser init
depth_of_initialiser-le Nothing = omega arith
depth_of_initialiser-le (One arg) = depth_of_argument-le arg
depth_of_initialiser-le (Flat values) = deepest-le-sum_of depth_of_expression nodes_of_expression depth_of_expression-le values
depth_of_initialiser-le (Rows rows) = deepest-le-sum_of depth_of_values nodes_of_values (λ row. deepest-le-sum_of depth_of_expression nodes_of_expression depth_of_expression-le row.values) rows

depth_of_declared-le : (decl : Decl) → depth_of_declared decl ≤ nodes_of_declared decl
depth_of_declared-le decl =
    let rows = depth-le-count_if_any depth_of_dimension nodes_of_dimension depth_of_dimension-le decl.rows in
    let cols = depth-le-count_if_any depth_of_dimension nodes_of_dimension depth_of_dimension-le decl.cols in
    omega (arith, rows, cols, depth_of_initialiser-le decl.init)

pub depth_of_objects-le : (objects : Objects) → depth_of_objects objects ≤ nodes_of_objects objects
depth_of_objects-le objects = deepest-le-sum_of depth_of_declared nodes_of_declared depth_of_declared-le objects.decls

-- ---- statements

abbrev nodes_of_simple : Simple → ℕ
nodes_of_simple (simple.Assign at place mark mark_at value) = nodes_of_place place + nodes_of_expression value
nodes_of_simple (simple.Step at place up mark_at) = nodes_of_place place
nodes_of_simple (simple.SetOverflow at value) = nodes_of_expression value
nodes_of_simple (simple.Call call) = sum_of nodes_of_argument call.args

depth_of_simple-le : (s : Simple) → depth_of_simple s ≤ nodes_of_simple s
depth_of_simple-le (simple.Assign at place mark mark_at value) = omega (arith, depth_of_place-le place, depth_of_expression-le value)
depth_of_simple-le (simple.Step at place up mark_at) = depth_of_place-le place
depth_of_simple-le (simple.SetOverflow at value) = depth_of_expression-le value
depth_of_simple-le (simple.Call call) = deepest-le-sum_of depth_of_argument nodes_of_argument depth_of_argument-le call.args

abbrev mutual
  pub nodes_of_statement : Stmt → ℕ
  nodes_of_statement (Empty at) = 1
  nodes_of_statement (Block' at objects _ stmts) = suc (sum_of nodes_of_objects objects + nodes_of_statements stmts)
  nodes_of_statement (SimpleStmt simple) = suc (nodes_of_simple simple)
  nodes_of_statement (If' at cond _ (stmt_in_box branch _) other) = suc (nodes_of_expression cond + (nodes_of_statement branch + nodes_of_else other))
  nodes_of_statement (While' at cond _ (stmt_in_box body _)) = suc (nodes_of_expression cond + nodes_of_statement body)
  nodes_of_statement (Do' at _ (stmt_in_box body _) cond) = suc (nodes_of_statement body + nodes_of_expression cond)
  nodes_of_statement (For' at first cond last _ (stmt_in_box body _)) =
      suc (sum_of nodes_of_simple first + (count_if_any nodes_of_expression cond + (sum_of nodes_of_simple last + nodes_of_statement body)))
  nodes_of_statement (Break at) = 1
  nodes_of_statement (Continue at) = 1
  nodes_of_statement (Return at value) = suc (count_if_any nodes_of_expression value)

  pub nodes_of_else : Held-Stmt-If-3 → ℕ
  nodes_of_else None' = 0
  nodes_of_else (Some' _ (stmt_in_box branch _)) = nodes_of_statement branch

  pub nodes_of_statements : {m : _} → Row_of-Stmt m → ℕ
  nodes_of_statements end_of-Stmt = 0
  nodes_of_statements (more_of-Stmt stmt more) = nodes_of_statement stmt + nodes_of_statements more

mutual
  pub depth_of_statement-le : (stmt : Stmt) → depth_of_statement stmt ≤ nodes_of_statement stmt
  depth_of_statement-le (Empty at) = omega arith
  depth_of_statement-le (Block' at objects _ stmts) =
      omega (arith, deepest-le-sum_of depth_of_objects nodes_of_objects depth_of_objects-le objects, depth_of_statements-le stmts)
  depth_of_statement-le (SimpleStmt simple) = omega (arith, depth_of_simple-le simple)
  depth_of_statement-le (If' at cond _ (stmt_in_box branch _) other) = omega (arith, depth_of_expression-le cond, depth_of_statement-le branch, depth_of_else-le other)
  depth_of_statement-le (While' at cond _ (stmt_in_box body _)) = omega (arith, depth_of_expression-le cond, depth_of_statement-le body)
  depth_of_statement-le (Do' at _ (stmt_in_box body _) cond) = omega (arith, depth_of_expression-le cond, depth_of_statement-le body)
  depth_of_statement-le (For' at first cond last _ (stmt_in_box body _)) =
      let before = deepest-le-sum_of depth_of_simple nodes_of_simple depth_of_simple-le first in
      let test = depth-le-count_if_any depth_of_expression nodes_of_expression depth_of_expression-le cond in
      let after = deepest-le-sum_of depth_of_simple nodes_of_simple depth_of_simple-le last in
      omega (arith, before, test, after, depth_of_statement-le body)
  depth_of_statement-le (Break at) = omega arith
  depth_of_statement-le (Continue at) = omega arith
  depth_of_statement-le (Return at value) = omega (arith, depth-le-count_if_any depth_of_expression nodes_of_expression depth_of_expression-le value)

  pub depth_of_else-le : (other : Held-Stmt-If-3) → depth_of_else other ≤ nodes_of_else other
  depth_of_else-le None' = omega arith
  depth_of_else-le (Some' _ (stmt_in_box branch _)) = depth_of_statement-le branch

  pub depth_of_statements-le : {m : _} (row : Row_of-Stmt m) → depth_of_statements row ≤ nodes_of_statements row
  depth_of_statements-le end_of-Stmt = omega arith
  depth_of_statements-le (more_of-Stmt stmt more) = omega (arith, depth_of_statement-le stmt, depth_of_statements-le more)
