-- What the definitions of returning and leaving say of each statement with statements in it.
use Rattle.std.proofs.Common.{◌≡◌, Bool, not, ◌&&◌, ◌||◌, true, false, List, [], ◌∷◌, Option, Some, None, refl, sym, ap}
use denote.Hole.Carrier.{hidden}
use Rattle.sat_base.specs.declared.name.At.{At}
use Rattle.c_tree.specs.declared.expression.Expr.{Expr}
use Rattle.c_tree.specs.declared.simple.Simple.{Simple}
use Rattle.c_tree.specs.declared.statement.Block.{Block}
use Rattle.c_tree.specs.declared.statement.Stmt.{Stmt}
use Rattle.c_tree.specs.declared.statement.Stmt.TheBlock.{hidden-the_row-Stmt-0}
use Rattle.c_tree.specs.declared.statement.Stmt.TheVariants as statement
use Rattle.c_tree.proofs.StatementBoxes.{If-boxed, Else-boxed, While-boxed, For-boxed}
use Rattle.constant_expressions.specs.Returning.{is_endless, condition_is_endless, has_own_break, breaks_among, any_breaks, statement_returns, returns_among, some_returns}

breaks_among-listed : (stmts : List Stmt) → breaks_among (hidden-the_row-Stmt-0 stmts) ≡ any_breaks stmts
unfolding hidden-the_row-Stmt-0 hidden
breaks_among-listed [] = refl
breaks_among-listed (stmt ∷ stmts) = ap (◌||◌ (has_own_break stmt)) (breaks_among-listed stmts)

pub breaks-Block : (block : Block) → has_own_break (statement.Block block) ≡ any_breaks block.stmts
breaks-Block block = breaks_among-listed block.stmts

pub breaks-If : (at : At) (cond : Expr) (branch : Stmt) → has_own_break (statement.If at cond branch None) ≡ has_own_break branch || false
breaks-If at cond branch = ap has_own_break (If-boxed at cond branch)

pub breaks-Else : (at : At) (cond : Expr) (branch other : Stmt) → has_own_break (statement.If at cond branch (Some other)) ≡ has_own_break branch || has_own_break other
breaks-Else at cond branch other = ap has_own_break (Else-boxed at cond branch other)

pub ruleset breakings = (breaks-Block, breaks-If, breaks-Else)

returns_among-listed : (stmts : List Stmt) → returns_among (hidden-the_row-Stmt-0 stmts) ≡ some_returns stmts
unfolding hidden-the_row-Stmt-0 hidden
returns_among-listed [] = refl
returns_among-listed (stmt ∷ stmts) = ap (◌||◌ (statement_returns stmt)) (returns_among-listed stmts)

pub returns-Block : (block : Block) → statement_returns (statement.Block block) ≡ some_returns block.stmts
returns-Block block = returns_among-listed block.stmts

pub returns-If : (at : At) (cond : Expr) (branch : Stmt) → statement_returns (statement.If at cond branch None) ≡ statement_returns branch && false
returns-If at cond branch = ap statement_returns (If-boxed at cond branch)

pub returns-Else : (at : At) (cond : Expr) (branch other : Stmt) → statement_returns (statement.If at cond branch (Some other)) ≡ statement_returns branch && statement_returns other
returns-Else at cond branch other = ap statement_returns (Else-boxed at cond branch other)

pub returns-While : (at : At) (cond : Expr) (body : Stmt) → statement_returns (statement.While at cond body) ≡ is_endless cond && not (has_own_break body)
returns-While at cond body = ap statement_returns (While-boxed at cond body)

pub returns-For : (at : At) (first : List Simple) (cond : Option Expr) (last : List Simple) (body : Stmt) → statement_returns (statement.For at first cond last body) ≡ condition_is_endless cond && not (has_own_break body)
returns-For at first cond last body = ap statement_returns (For-boxed at first cond last body)

pub ruleset returnings = (returns-Block, returns-If, returns-Else, returns-While, returns-For)

-- ---- a test that is joined to others

pub or-taken : (r b x whole : Bool) → r ≡ b → r ≡ true → whole ≡ b || x → r ≡ whole
or-taken r true x whole same is e = cc
or-taken r false x whole same is e = cc

pub or-passed : (r b x q whole : Bool) → r ≡ b → r ≡ false → q ≡ x → whole ≡ b || x → q ≡ whole
or-passed r true x q whole same is rest e = cc
or-passed r false x q whole same is rest e = cc

pub and-dropped : (r b x whole : Bool) → r ≡ b → r ≡ false → whole ≡ b && x → r ≡ whole
and-dropped r true x whole same is e = cc
and-dropped r false x whole same is e = cc

pub and-held : (r b x q whole : Bool) → r ≡ b → r ≡ true → q ≡ x → whole ≡ b && x → q ≡ whole
and-held r true x q whole same is rest e = cc
and-held r false x q whole same is rest e = cc

pub and-never : (b whole : Bool) → whole ≡ b && false → false ≡ whole
and-never true whole e = sym e
and-never false whole e = sym e

pub or-alone : (b q whole : Bool) → q ≡ b → whole ≡ b || false → q ≡ whole
or-alone true q whole same e = cc
or-alone false q whole same e = cc
