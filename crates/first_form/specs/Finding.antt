-- What is found in a tree, part by part: its first form as far as it has it.
use Rattle.std.specs.Prelude.{ℕ, Bool, true, false, ◌&&◌, ◌==◌, int_le, if◌then◌else◌, ℤ, pos, List, [], ◌∷◌, length, map, Option, Some, None, option_and_then, codes}
use Rattle.std.specs.Ordering.{int_eq}
use Rattle.std.specs.Str.{bytes_eq}
use Rattle.sat_base.specs.declared.name.At.{At}
use Rattle.sat_base.specs.declared.name.Named.{Named}
use Rattle.sat_base.specs.declared.width.Width.{Width}
use Rattle.sat_base.specs.declared.width.Width.TheVariants.{W16, W32}
use Rattle.c_tree.specs.declared.call.Arg.{Arg, Value', Address}
use Rattle.c_tree.specs.declared.call.Call.{Call}
use Rattle.c_tree.specs.declared.expression.ExprKind.{ExprKind, Int as Number, Call', Row_of-Arg, end_of-Arg, more_of-Arg}
use Rattle.c_tree.specs.declared.function.Function.{Function}
use Rattle.c_tree.specs.declared.program.Item.{Item}
use Rattle.c_tree.specs.declared.program.Item.TheVariants as items
use Rattle.c_tree.specs.declared.simple.Simple.TheVariants as simple
use Rattle.c_tree.specs.declared.statement.Block.{Block}
use Rattle.c_tree.specs.declared.statement.Stmt.{Stmt, Simple as SimpleStmt, Return}
use Rattle.first_form.specs.declared.first.FirstExpr.{FirstExpr}
use Rattle.first_form.specs.declared.first.FirstExpr.TheVariants.{Int, Add, Sub}
use Rattle.first_form.specs.declared.form.Operator.{Operator}
use Rattle.first_form.specs.declared.form.Operator.TheVariants as operators

infixl 10 ◌>>=◌
abbrev pub ◌>>=◌ : {A B : Type 0} → Option A → (A → Option B) → Option B
o >>= f = option_and_then f o

-- ---- expressions

-- the number, where it is from 0 to 32767
unfoldable pub operand_of : ℤ → Option FirstExpr
operand_of n = if int_le (pos 0) n && int_le n (pos 32767) then Some (Int n) else None

-- the operator of this name
unfoldable pub operator_of : List ℕ → Option Operator
operator_of name =
    if bytes_eq name (codes "add") then Some operators.Add else (if bytes_eq name (codes "sub") then Some operators.Sub else None)

-- a call of the operator
abbrev pub call_of : Operator → At → FirstExpr → FirstExpr → FirstExpr
call_of operators.Add at left right = Add at.tok at.pos left right
call_of operators.Sub at left right = Sub at.tok at.pos left right

-- a call of this name on what was found in its arguments
unfoldable pub call_on : Named → List (Option FirstExpr) → Option FirstExpr
call_on name (one ∷ other ∷ []) = do
  operator ← operator_of name.name
  left ← one
  right ← other
  Some (call_of operator name.at left right)
call_on name found = None

abbrev mutual
  pub expression_of : ExprKind → Option FirstExpr
  expression_of (Number n) = operand_of n
  expression_of (Call' name _ args) = call_on name (operands_of args)
  expression_of kind = None

  pub argument_of : Arg → Option FirstExpr
  argument_of (Value' at brackets kind) = expression_of kind
  argument_of (Address at place) = None

  pub operands_of : {m : _} → Row_of-Arg m → List (Option FirstExpr)
  operands_of end_of-Arg = []
  operands_of (more_of-Arg arg more) = argument_of arg ∷ operands_of more

-- a call in an expression
abbrev pub expression_of_call : Call → Option FirstExpr
expression_of_call call = call_on call.name (map argument_of call.args)

-- ---- statements

-- what was found in the one argument
abbrev pub only : List (Option FirstExpr) → Option FirstExpr
only (one ∷ []) = one
only found = None

-- what a call as a statement writes
unfoldable pub out_of_call : Call → Option FirstExpr
out_of_call call = if bytes_eq call.name.name (codes "sample_out") then only (map argument_of call.args) else None

-- what a statement writes
abbrev pub out_of : Stmt → Option FirstExpr
out_of (SimpleStmt (simple.Call call)) = out_of_call call
out_of stmt = None

abbrev pub is_zero : ExprKind → Bool
is_zero (Number n) = int_eq n (pos 0)
is_zero kind = false

-- whether a statement returns 0
abbrev pub returns_zero : Stmt → Bool
returns_zero (Return at (Some value)) = is_zero value.kind
returns_zero stmt = false

-- what statements write that only write
unfoldable pub outs_of : List Stmt → Option (List FirstExpr)
outs_of [] = Some []
outs_of (stmt ∷ stmts) = do
  e ← out_of stmt
  es ← outs_of stmts
  Some (e ∷ es)

-- what statements write that write, and last return
unfoldable pub body_of : List Stmt → Option (List FirstExpr)
body_of [] = None
body_of (stmt ∷ []) = if returns_zero stmt then Some [] else None
body_of (stmt ∷ stmts) = do
  e ← out_of stmt
  es ← body_of stmts
  Some (e ∷ es)

-- ---- the whole source

unfoldable pub block_of : Block → Option (List FirstExpr)
block_of block = if length block.objects == 0 then body_of block.stmts else None

abbrev pub is_32 : Option Width → Bool
is_32 (Some W32) = true
is_32 (Some W16) = false
is_32 None = false

-- whether the function is an `int main ( void )`
unfoldable pub is_main : Function → Bool
is_main function = bytes_eq function.name.name (codes "main") && (is_32 function.gives && length function.params == 0)

unfoldable pub function_of : Function → Option (List FirstExpr)
function_of function = if is_main function then function.body >>= block_of else None

unfoldable pub items_of : List Item → Option (List FirstExpr)
items_of (items.Function function ∷ []) = function_of function
items_of items = None
