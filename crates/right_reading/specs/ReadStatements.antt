-- What the functions read that read assignments, steps, calls, blocks and statements. The limit of a function is how
-- many nodes may stand below one another in what it reads.
use Rattle.std.specs.Prelude.{ℕ, zero, suc, Bool, not, if◌then◌else◌, List, [], length, Option, Some, None, Ok}
use Rattle.sat_base.specs.declared.name.At.{At}
use Rattle.sat_base.specs.declared.name.Named.{Named}
use Rattle.c_tree.specs.declared.declaration.Objects.{Objects}
use Rattle.c_tree.specs.declared.expression.Expr.{Expr}
use Rattle.c_tree.specs.declared.place.Place.{Place}
use Rattle.c_tree.specs.declared.simple.Simple.{Simple}
use Rattle.c_tree.specs.declared.simple.Simple.TheVariants as simple
use Rattle.c_tree.specs.declared.statement.Block.{Block}
use Rattle.c_tree.specs.declared.statement.Stmt.{Stmt}
use Rattle.c_tree.specs.declared.statement.Stmt.TheVariants as stmt
use Rattle.c_tree.specs.Starts.{start_of_place}
use Rattle.c_grammar.specs.declared.symbol.Symbol.{Symbol}
use Rattle.c_grammar.specs.declared.symbol.Symbol.TheVariants as symbol
use Rattle.right_reading.specs.Lists.{after, many, listed_at}
use Rattle.c_grammar.specs.Spots.{here}
use Rattle.right_reading.specs.Stream.{ahead, rest, Parser, ◌>>=◌, both, mapped, take_at, name_at, syntax_at, refuse_at}
use Rattle.c_grammar.specs.Symbols.{same_symbol, assign_mark, step_of, begins_objects, begins_statement}
use Rattle.right_reading.specs.ReadExpressions.{expression_at, indices_at, indirection_at, arguments_at, place_at}

-- ---- in common

-- before this token
abbrev pub closed : {A : Type 0} → Parser A → Symbol → Parser A
closed p s i = p i >>= (λ x. take_at s x.1 >>= (λ y. Ok (x.0, y.1)))

-- the mark that the token ahead is, and where it stands
abbrev pub mark_by : {M : Type 0} → Option M → Parser (M × At)
mark_by None i = syntax_at i
mark_by (Some mark) i = Ok ((mark, here i), rest i)

-- ---- assignments, steps and calls

-- the assignment to this place, which is read already
unfoldable pub assignment_at : ℕ → Place → Parser Simple
assignment_at n p = mapped (λ x. simple.Assign (start_of_place p) p x.0.0 x.0.1 x.1) (both (λ i. mark_by (assign_mark (ahead i)) i) (expression_at n))

-- what follows a place that begins with a name
abbrev pub after_place : Option Bool → ℕ → Place → Parser Simple
after_place (Some up) n p i = Ok (simple.Step (start_of_place p) p up (here i), rest i)
after_place None n p i = assignment_at n p i

-- what begins with this name, which is read already
unfoldable pub named_simple_by : ℕ → Named → Parser Simple
named_simple_by n name i =
    if same_symbol (ahead i) symbol.OpenParen then mapped (λ args. simple.Call (record { name = name; args = args })) (arguments_at n) i
    else indices_at n name i >>= (λ x. after_place (step_of (ahead x.1)) n x.0 x.1)

unfoldable pub named_simple_at : ℕ → Parser Simple
named_simple_at n i = name_at i >>= (λ x. named_simple_by n x.0 x.1)

unfoldable pub indirect_simple_at : ℕ → Parser Simple
indirect_simple_at n i = indirection_at n i >>= (λ x. assignment_at n x.0 x.1)

unfoldable pub set_overflow_at : ℕ → Parser Simple
set_overflow_at n = mapped (λ x. simple.SetOverflow x.0 x.1) (both (take_at symbol.Overflow) (after symbol.Equal (expression_at n)))

unfoldable pub step_before_at : ℕ → Parser Simple
step_before_at n = mapped (λ x. simple.Step x.0.1 x.1 x.0.0 x.0.1) (both (λ i. mark_by (step_of (ahead i)) i) (place_at n))

abbrev pub simple_by : Symbol → ℕ → Parser Simple
simple_by symbol.Name n = named_simple_at n
simple_by symbol.Star n = indirect_simple_at n
simple_by symbol.Overflow n = set_overflow_at n
simple_by _ n = step_before_at n

unfoldable pub simple_at : ℕ → Parser Simple
simple_at n i = simple_by (ahead i) n i

unfoldable pub simples_at : ℕ → Parser (List Simple)
simples_at n = listed_at (simple_at n)

-- ---- parts of statements

-- an expression in brackets that belong to a statement
unfoldable pub condition_at : ℕ → Parser Expr
condition_at n = after symbol.OpenParen (closed (expression_at n) symbol.CloseParen)

unfoldable pub simples_before_at : Symbol → ℕ → Parser (List Simple)
simples_before_at mark n i = if same_symbol (ahead i) mark then Ok ([], rest i) else closed (simples_at n) mark i

abbrev pub some_expression : Expr → Option Expr
some_expression e = Some e

unfoldable pub expression_before_semicolon_at : ℕ → Parser (Option Expr)
expression_before_semicolon_at n i =
    if same_symbol (ahead i) symbol.Semicolon then Ok (None, rest i) else mapped some_expression (closed (expression_at n) symbol.Semicolon) i

-- ---- blocks, by what reads objects and statements

unfoldable pub block_objects_by : Parser Objects → Parser (List Objects)
block_objects_by objects i = many begins_objects objects (suc (length i)) [] i

abbrev pub no_brace : Symbol → Bool
no_brace s = not (same_symbol s symbol.CloseBrace)

-- the statements up to the `}` of their block
unfoldable pub statements_by : Parser Stmt → Parser (List Stmt)
statements_by statement i = many no_brace statement (suc (length i)) [] i

unfoldable pub block_by : Parser Objects → Parser Stmt → Parser Block
block_by objects statement =
    mapped (λ x. record { at = x.0; objects = x.1.0; stmts = x.1.1 })
    (both (take_at symbol.OpenBrace) (closed (both (block_objects_by objects) (statements_by statement)) symbol.CloseBrace))

-- ---- statements, by what reads those that are their parts, which have at most this height

-- what follows the first branch
unfoldable pub else_by : Parser Stmt → At → Expr → Stmt → Parser Stmt
else_by statement at cond branch i =
    if same_symbol (ahead i) symbol.Else then statement (rest i) >>= (λ x. Ok (stmt.If at cond branch (Some x.0), x.1))
    else Ok (stmt.If at cond branch None, i)

unfoldable pub if_by : ℕ → Parser Stmt → Parser Stmt
if_by n statement i = both (take_at symbol.If) (both (condition_at n) statement) i >>= (λ x. else_by statement x.0.0 x.0.1.0 x.0.1.1 x.1)

unfoldable pub while_by : ℕ → Parser Stmt → Parser Stmt
while_by n statement = mapped (λ x. stmt.While x.0 x.1.0 x.1.1) (both (take_at symbol.While) (both (condition_at n) statement))

unfoldable pub do_by : ℕ → Parser Stmt → Parser Stmt
do_by n statement =
    mapped (λ x. stmt.Do x.0 x.1.0 x.1.1)
    (both (take_at symbol.Do) (both statement (after symbol.While (closed (condition_at n) symbol.Semicolon))))

unfoldable pub for_by : ℕ → Parser Stmt → Parser Stmt
for_by n statement =
    mapped (λ x. stmt.For x.0 x.1.0 x.1.1.0 x.1.1.1.0 x.1.1.1.1)
    (both (take_at symbol.For) (both (after symbol.OpenParen (simples_before_at symbol.Semicolon n))
    (both (expression_before_semicolon_at n) (both (simples_before_at symbol.CloseParen n) statement))))

unfoldable pub break_at : Parser Stmt
break_at = mapped (λ at. stmt.Break at) (closed (take_at symbol.Break) symbol.Semicolon)

unfoldable pub continue_at : Parser Stmt
continue_at = mapped (λ at. stmt.Continue at) (closed (take_at symbol.Continue) symbol.Semicolon)

unfoldable pub return_at : ℕ → Parser Stmt
return_at n = mapped (λ x. stmt.Return x.0 x.1) (both (take_at symbol.Return) (expression_before_semicolon_at n))

unfoldable pub simple_statement_at : ℕ → Parser Stmt
simple_statement_at n = mapped (λ x. stmt.Simple x) (closed (simple_at n) symbol.Semicolon)

abbrev pub next_statement : Symbol → Parser Objects → ℕ → Parser Stmt → Parser Stmt
next_statement symbol.Semicolon objects n statement = mapped (λ at. stmt.Empty at) (take_at symbol.Semicolon)
next_statement symbol.OpenBrace objects n statement = mapped (λ b. stmt.Block b) (block_by objects statement)
next_statement symbol.If objects n statement = if_by n statement
next_statement symbol.While objects n statement = while_by n statement
next_statement symbol.Do objects n statement = do_by n statement
next_statement symbol.For objects n statement = for_by n statement
next_statement symbol.Break objects n statement = break_at
next_statement symbol.Continue objects n statement = continue_at
next_statement symbol.Return objects n statement = return_at n
next_statement _ objects n statement = simple_statement_at n

-- the statements, with what reads objects by limit
unfoldable pub statement_with : (ℕ → Parser Objects) → ℕ → Parser Stmt
statement_with objects zero i = refuse_at (begins_statement (ahead i)) i
statement_with objects (suc n) i = next_statement (ahead i) (objects n) n (statement_with objects n) i

unfoldable pub block_with : (ℕ → Parser Objects) → ℕ → Parser Block
block_with objects n = block_by (objects n) (statement_with objects n)
