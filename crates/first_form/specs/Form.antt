-- The first form of sources: which trees have it, one definition for each rule. In a pattern `boxed e` is a box with
-- e in it.
use Rattle.std.specs.Prelude.{◌≡◌, ℕ, ◌+◌, max, ◌≤◌, ℤ, pos, List, [], ◌∷◌, Option, Some, None, codes}
use Rattle.sat_base.specs.declared.name.Named.{Named}
use Rattle.sat_base.specs.declared.position.Pos.{Pos}
use Rattle.sat_base.specs.declared.width.Width.TheVariants.{W32}
use Rattle.c_tree.specs.declared.call.Arg.{Arg, Value', Address}
use Rattle.c_tree.specs.declared.expression.ExprKind.{ExprKind, Int as Number, Call', Row_of-Arg, end_of-Arg, more_of-Arg}
use Rattle.c_tree.specs.declared.function.Function.{Function}
use Rattle.c_tree.specs.declared.program.Item.{Item}
use Rattle.c_tree.specs.declared.program.Item.TheVariants as items
use Rattle.c_tree.specs.declared.program.Program.{Program}
use Rattle.c_tree.specs.declared.simple.Simple.TheVariants as simple
use Rattle.c_tree.specs.declared.statement.Block.{Block}
use Rattle.c_tree.specs.declared.statement.Stmt.{Stmt, Simple as SimpleStmt, Return}
use Rattle.first_form.specs.declared.first.First.{First}
use Rattle.first_form.specs.declared.first.FirstExpr.{FirstExpr, Int, Add', Sub', more_of-FirstExpr as boxed}

-- ---- expressions, in any number of brackets

-- a number from 0 to 32767
abbrev pub IsOperand : ℤ → Type 0
IsOperand n = (m : ℕ) × (n ≡ pos m) × (m ≤ 32767)

-- the called name is this one, and is the token with this number and place
pub record IsCalled (name : Named) (text : List ℕ) (tok : ℕ) (at : Pos) : Type 0 where
  pub named : name.name ≡ text
  pub number : tok ≡ name.at.tok
  pub place : at ≡ name.at.pos

abbrev mutual
  -- what stands in the brackets is this expression of the form
  pub IsExpr : ExprKind → FirstExpr → Type 0
  IsExpr (Number n) (Int m) = (m ≡ n) × IsOperand n
  IsExpr (Call' name _ args) (Add' tok at _ (boxed left _) _ (boxed right _)) = IsCalled name (codes "add") tok at × AreOperands args left right
  IsExpr (Call' name _ args) (Sub' tok at _ (boxed left _) _ (boxed right _)) = IsCalled name (codes "sub") tok at × AreOperands args left right
  IsExpr kind e = ⊥

  -- there are two arguments, and they are these expressions
  pub AreOperands : {m : _} → Row_of-Arg m → FirstExpr → FirstExpr → Type 0
  AreOperands (more_of-Arg one (more_of-Arg other end_of-Arg)) left right = IsArgument one left × IsArgument other right
  AreOperands args left right = ⊥

  -- the argument is a value, and is this expression
  pub IsArgument : Arg → FirstExpr → Type 0
  IsArgument (Value' at brackets kind) e = IsExpr kind e
  IsArgument (Address at place) e = ⊥

-- ---- statements

-- one argument, which is this expression
abbrev pub IsOnlyArgument : List Arg → FirstExpr → Type 0
IsOnlyArgument (arg ∷ []) e = IsArgument arg e
IsOnlyArgument args e = ⊥

-- `sample_out ( E ) ;`
abbrev pub IsOut : Stmt → FirstExpr → Type 0
IsOut (SimpleStmt (simple.Call call)) e = (call.name.name ≡ codes "sample_out") × IsOnlyArgument call.args e
IsOut stmt e = ⊥

abbrev pub IsZero : ExprKind → Type 0
IsZero (Number n) = n ≡ pos 0
IsZero kind = ⊥

-- `return 0 ;`, with any number of brackets around the 0
abbrev pub IsReturn : Stmt → Type 0
IsReturn (Return at (Some value)) = IsZero value.kind
IsReturn stmt = ⊥

-- the statements write these expressions, and the last one returns
abbrev pub AreStatements : List Stmt → List FirstExpr → Type 0
AreStatements (stmt ∷ []) [] = IsReturn stmt
AreStatements (stmt ∷ stmts) (e ∷ es) = IsOut stmt e × AreStatements stmts es
AreStatements stmts es = ⊥

-- ---- the whole source

-- a block without objects
pub record IsBody (block : Block) (outs : List FirstExpr) : Type 0 where
  pub objects : block.objects ≡ []
  pub statements : AreStatements block.stmts outs

abbrev pub HasBody : Option Block → List FirstExpr → Type 0
HasBody (Some block) outs = IsBody block outs
HasBody None outs = ⊥

-- `int main ( void )` with a body, be it `static` or not
pub record IsMain (function : Function) (outs : List FirstExpr) : Type 0 where
  pub named : function.name.name ≡ codes "main"
  pub gives : function.gives ≡ Some W32
  pub params : function.params ≡ []
  pub body : HasBody function.body outs

-- one item, which is a function
abbrev pub IsOnlyItem : List Item → List FirstExpr → Type 0
IsOnlyItem (items.Function function ∷ []) outs = IsMain function outs
IsOnlyItem items outs = ⊥

-- the tree has the first form, and writes these expressions
abbrev pub IsFirst : Program → First → Type 0
IsFirst program first = IsOnlyItem program.items first.outs

-- ---- what an expression has

-- its numbers are from 0 to 32767
abbrev pub HasOperands : FirstExpr → Type 0
HasOperands (Int n) = IsOperand n
HasOperands (Add' tok at _ (boxed left _) _ (boxed right _)) = HasOperands left × HasOperands right
HasOperands (Sub' tok at _ (boxed left _) _ (boxed right _)) = HasOperands left × HasOperands right

-- how many calls lie one in another
abbrev pub nesting_of : FirstExpr → ℕ
nesting_of (Int n) = 0
nesting_of (Add' tok at _ (boxed left _) _ (boxed right _)) = max (nesting_of left) (nesting_of right) + 1
nesting_of (Sub' tok at _ (boxed left _) _ (boxed right _)) = max (nesting_of left) (nesting_of right) + 1
