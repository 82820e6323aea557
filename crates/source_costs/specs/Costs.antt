-- The words of code that each part of a source may take, by its tree alone, before names are tied: nothing that is
-- made of the part costs more. So what depends on the names is counted at its most: an expression as one that is
-- converted and brought to a parameter, a mark as a site, a call as the dearest of calls. In a pattern `boxed` is a
-- box with an expression in it, by its three fields, and `place_in_box` and `stmt_in_box` are boxes with a place and
-- a statement in them.
use Rattle.std.specs.Prelude.{ℕ, ◌+◌, ◌*◌, max, List, [], ◌∷◌, length, Option, Some, None}
use Rattle.c_tree.specs.declared.call.Arg.{Arg, Value', Address}
use Rattle.c_tree.specs.declared.call.Call.{Call}
use Rattle.c_tree.specs.declared.declaration.Decl.{Decl}
use Rattle.c_tree.specs.declared.declaration.Init.{Init}
use Rattle.c_tree.specs.declared.declaration.Init.TheVariants.{Nothing, One, Flat, Rows}
use Rattle.c_tree.specs.declared.declaration.Objects.{Objects}
use Rattle.c_tree.specs.declared.expression.Expr.{Expr}
use Rattle.c_tree.specs.declared.expression.ExprKind.{ExprKind, Int, Read', ReadOverflow, Unary', Binary', Cast', Choose', Call', more_of-Expr as boxed, more_of-Place as place_in_box, Row_of-Arg, end_of-Arg, more_of-Arg}
use Rattle.c_tree.specs.declared.function.Function.{Function}
use Rattle.c_tree.specs.declared.place.Place.{Place, Plain, Index', Index2', Deref}
use Rattle.c_tree.specs.declared.program.Item.{Item}
use Rattle.c_tree.specs.declared.program.Item.TheVariants as items
use Rattle.c_tree.specs.declared.program.Program.{Program}
use Rattle.c_tree.specs.declared.simple.Simple.{Simple}
use Rattle.c_tree.specs.declared.simple.Simple.TheVariants as simple
use Rattle.c_tree.specs.declared.statement.Block.{Block}
use Rattle.c_tree.specs.declared.statement.Stmt.{Stmt, Empty, Block', Simple as SimpleStmt, If', While', Do', For', Break, Continue, Return, Held-Stmt-If-3, None', Some', Row_of-Stmt, end_of-Stmt, more_of-Stmt, more_of-Stmt as stmt_in_box}
use Rattle.ir_arena.specs.Costs.{operand_words, conversion_words, argument_words, site_words, passing_words, mark_words, call_words, object_words, control_words, function_words, parameter_words, beginning_words}

-- these numbers together
abbrev pub total : {A : Type 0} → (A → ℕ) → List A → ℕ
total of [] = 0
total of (x ∷ xs) = of x + total of xs

-- the cost of what may be missing
abbrev pub cost_if_any : {A : Type 0} → (A → ℕ) → Option A → ℕ
cost_if_any cost None = 0
cost_if_any cost (Some x) = cost x

-- an implied conversion of an expression, and what brings it to a parameter
abbrev pub around_words : ℕ
around_words = conversion_words + argument_words

-- a mark before an operand or between operands
abbrev pub marked_words : ℕ
marked_words = max site_words mark_words

-- a call of an operator or of a function, without its arguments
abbrev pub called_words : ℕ
called_words = max (site_words + passing_words) call_words

-- an index, or the `*` before a view, with what it gives to an address
abbrev pub indexed_words : ℕ
indexed_words = operand_words + site_words

-- an assignment or a step, beside its parts
abbrev pub written_words : ℕ
written_words = site_words + passing_words

-- ---- expressions and places

-- what stands in the brackets of an expression, with what may come around it
abbrev pub surrounded : ℕ → ℕ
surrounded below = around_words + below

abbrev mutual
  pub cost_below : ExprKind → ℕ
  cost_below (Int value) = operand_words
  cost_below (Read' _ (place_in_box place _)) = operand_words + cost_of_place place
  cost_below (ReadOverflow word_at) = operand_words
  cost_below (Unary' mark mark_at _ (boxed at brackets kind _)) = marked_words + surrounded (cost_below kind)
  cost_below (Binary' mark mark_at _ (boxed at brackets kind _) _ (boxed at2 brackets2 kind2 _)) = marked_words + surrounded (cost_below kind) + surrounded (cost_below kind2)
  cost_below (Cast' width _ (boxed at brackets kind _)) = conversion_words + surrounded (cost_below kind)
  cost_below (Choose' _ (boxed at brackets kind _) _ (boxed at2 brackets2 kind2 _) _ (boxed at3 brackets3 kind3 _)) =
      mark_words + surrounded (cost_below kind) + surrounded (cost_below kind2) + surrounded (cost_below kind3)
  cost_below (Call' name _ args) = called_words + cost_of_row args

  -- what finds the part of the object, beside what reads or writes it
  pub cost_of_place : Place → ℕ
  cost_of_place (Plain name) = 0
  cost_of_place (Index' name mark_at _ (boxed at brackets kind _)) = indexed_words + surrounded (cost_below kind)
  cost_of_place (Index2' name first_at _ (boxed at brackets kind _) second_at _ (boxed at2 brackets2 kind2 _)) =
      indexed_words + surrounded (cost_below kind) + site_words + surrounded (cost_below kind2)
  cost_of_place (Deref star_at name) = indexed_words

  pub cost_of_argument : Arg → ℕ
  cost_of_argument (Value' at brackets kind) = surrounded (cost_below kind)
  cost_of_argument (Address at place) = surrounded (operand_words + cost_of_place place)

  pub cost_of_row : {m : _} → Row_of-Arg m → ℕ
  cost_of_row end_of-Arg = 0
  cost_of_row (more_of-Arg arg more) = cost_of_argument arg + cost_of_row more

abbrev pub cost_of_expression : Expr → ℕ
cost_of_expression e = surrounded (cost_below e.kind)

abbrev pub cost_of_call : Call → ℕ
cost_of_call call = called_words + total cost_of_argument call.args

-- ---- declarations

-- the values of a list are constants, of which no code is made
abbrev pub cost_of_initialiser : Init → ℕ
cost_of_initialiser Nothing = 0
cost_of_initialiser (One arg) = cost_of_argument arg
cost_of_initialiser (Flat values) = 0
cost_of_initialiser (Rows rows) = 0

abbrev pub cost_of_declared : Decl → ℕ
cost_of_declared decl = object_words + passing_words + cost_of_initialiser decl.init

abbrev pub cost_of_objects : Objects → ℕ
cost_of_objects objects = total cost_of_declared objects.decls

-- ---- statements

abbrev pub cost_of_simple : Simple → ℕ
cost_of_simple (simple.Assign at place mark mark_at value) = written_words + cost_of_place place + cost_of_expression value
cost_of_simple (simple.Step at place up mark_at) = written_words + cost_of_place place
cost_of_simple (simple.SetOverflow at value) = operand_words + cost_of_expression value
cost_of_simple (simple.Call call) = cost_of_call call

abbrev mutual
  pub cost_of_statement : Stmt → ℕ
  cost_of_statement (Empty at) = 0
  cost_of_statement (Block' at objects _ stmts) = total cost_of_objects objects + cost_of_statements stmts
  cost_of_statement (SimpleStmt simple) = cost_of_simple simple
  cost_of_statement (If' at cond _ (stmt_in_box branch _) other) = control_words + cost_of_expression cond + cost_of_statement branch + cost_of_else other
  cost_of_statement (While' at cond _ (stmt_in_box body _)) = control_words + cost_of_expression cond + cost_of_statement body
  cost_of_statement (Do' at _ (stmt_in_box body _) cond) = control_words + cost_of_statement body + cost_of_expression cond
  cost_of_statement (For' at first cond last _ (stmt_in_box body _)) =
      control_words + total cost_of_simple first + cost_if_any cost_of_expression cond + total cost_of_simple last + cost_of_statement body
  cost_of_statement (Break at) = control_words
  cost_of_statement (Continue at) = control_words
  cost_of_statement (Return at value) = control_words + cost_if_any cost_of_expression value

  pub cost_of_else : Held-Stmt-If-3 → ℕ
  cost_of_else None' = 0
  cost_of_else (Some' _ (stmt_in_box branch _)) = cost_of_statement branch

  pub cost_of_statements : {m : _} → Row_of-Stmt m → ℕ
  cost_of_statements end_of-Stmt = 0
  cost_of_statements (more_of-Stmt stmt more) = cost_of_statement stmt + cost_of_statements more

abbrev pub cost_of_block : Block → ℕ
cost_of_block block = total cost_of_objects block.objects + total cost_of_statement block.stmts

-- ---- the whole source

abbrev pub cost_of_function : Function → ℕ
cost_of_function function = function_words + length function.params * parameter_words + cost_if_any cost_of_block function.body

abbrev pub cost_of_item : Item → ℕ
cost_of_item (items.Objects objects) = cost_of_objects objects
cost_of_item (items.Function function) = cost_of_function function
cost_of_item (items.ExternFlag at) = 0

abbrev pub cost_of_source : Program → ℕ
cost_of_source program = beginning_words + total cost_of_item program.items
