-- How many tokens spell a part of the tree at least, as far as the first form has it.
use Rattle.std.proofs.Common.{◌≡◌, ℕ, suc, ◌+◌, ◌≤◌, List, [], ◌∷◌, ◌++◌, length, Option, Some, None, refl, ap, arith}
use Rattle.std.proofs.lemmas.List.{length-append}
use denote.Hole.Carrier.{hidden}
use Rattle.c_lexer.specs.declared.token.Token.{Token}
use Rattle.c_lexer.specs.declared.token.Tokens.{Tokens}
use Rattle.c_tree.specs.declared.call.Arg.{Arg, Value', Address}
use Rattle.c_tree.specs.declared.call.Arg.TheBlock.{hidden-the_row-Arg-2}
use Rattle.c_tree.specs.declared.call.Call.{Call}
use Rattle.c_tree.specs.declared.expression.Expr.{Expr}
use Rattle.c_tree.specs.declared.expression.ExprKind.{ExprKind, Int as Number, Call', Row_of-Arg, end_of-Arg, more_of-Arg}
use Rattle.c_tree.specs.declared.function.Function.{Function}
use Rattle.c_tree.specs.declared.program.Item.{Item}
use Rattle.c_tree.specs.declared.program.Item.TheVariants as items
use Rattle.c_tree.specs.declared.program.Program.{Program}
use Rattle.c_tree.specs.declared.simple.Simple.{Simple}
use Rattle.c_tree.specs.declared.simple.Simple.TheVariants as simple
use Rattle.c_tree.specs.declared.statement.Block.{Block}
use Rattle.c_tree.specs.declared.statement.Stmt.{Stmt, Simple as SimpleStmt}
use Rattle.c_grammar.specs.declared.symbol.Symbol.TheVariants.{CloseBrace}
use Rattle.c_grammar.specs.Grammar.{Rule}
use Rattle.c_grammar.specs.Grammar as rule
use Rattle.c_grammar.specs.Nodes.{Node}
use Rattle.c_grammar.specs.Nodes as a
use Rattle.c_grammar.specs.Parts.{Part, token, node, word, each, followed}
use Rattle.c_grammar.specs.Programs as programs
use Rattle.c_grammar.specs.Spelling.{Spells, nothing, quoted, whole}
use Rattle.c_grammar.specs.Spots.{Spot, spots_from, spots_of}
use Rattle.first_form.specs.declared.first.First.{First}
use Rattle.first_form.specs.declared.first.FirstExpr.{FirstExpr, Int, Add', Sub', more_of-FirstExpr as boxed}
use Rattle.first_form.specs.Form.{IsExpr, AreOperands, IsArgument, IsOnlyArgument, IsOut, AreStatements, HasBody, IsOnlyItem, IsFirst}
use Rattle.sat_compile.proofs.Sizes.{tokens_of, tokens_in}

-- ---- parts of the tree

-- these numbers together
abbrev pub total : {A : Type 0} → (A → ℕ) → List A → ℕ
total of [] = 0
total of (x ∷ xs) = of x + total of xs

abbrev mutual
  pub least_below : ExprKind → ℕ
  least_below (Number n) = 1
  least_below (Call' name _ args) = 2 + least_of_row args
  least_below kind = 0

  pub least_of_argument : Arg → ℕ
  least_of_argument (Value' at brackets kind) = least_below kind
  least_of_argument (Address at place) = 0

  -- with a comma for each
  pub least_of_row : {m : _} → Row_of-Arg m → ℕ
  least_of_row end_of-Arg = 0
  least_of_row (more_of-Arg arg more) = least_of_argument arg + 1 + least_of_row more

abbrev pub least_of_arguments : List Arg → ℕ
least_of_arguments args = total (λ arg. least_of_argument arg + 1) args

-- a name and two brackets, and a comma less than there are arguments
abbrev pub least_of_call : Call → ℕ
least_of_call call = 2 + least_of_arguments call.args

abbrev pub least_of_simple : Simple → ℕ
least_of_simple (simple.Call call) = least_of_call call
least_of_simple simple = 0

abbrev pub least_of_statement : Stmt → ℕ
least_of_statement (SimpleStmt simple) = least_of_simple simple + 1
least_of_statement stmt = 0

abbrev pub least_of_body : Option Block → ℕ
least_of_body (Some block) = total least_of_statement block.stmts
least_of_body None = 0

abbrev pub least_of_item : Item → ℕ
least_of_item (items.Function function) = least_of_body function.body
least_of_item item = 0

-- what is claimed of a list of arguments with commas between them
abbrev pub least_listed : List Arg → ℕ
least_listed [] = 0
least_listed (arg ∷ args) = least_of_argument arg + least_of_arguments args

abbrev pub least_of_node : Node → ℕ
least_of_node (a.item i) = least_of_item i
least_of_node (a.function f) = least_of_body f.body
least_of_node (a.body b) = least_of_body b
least_of_node (a.block b) = total least_of_statement b.stmts
least_of_node (a.stmt s) = least_of_statement s
least_of_node (a.simple x) = least_of_simple x
least_of_node (a.call c) = least_of_call c
least_of_node (a.args args) = least_listed args
least_of_node (a.arg arg) = least_of_argument arg
least_of_node (a.expr e) = least_below e.kind
least_of_node (a.chain n e) = least_below e.kind
least_of_node (a.unary e) = least_below e.kind
least_of_node n = 0

abbrev pub least_of_parts : List Part → ℕ
least_of_parts [] = 0
least_of_parts (token t ∷ ps) = 1 + least_of_parts ps
least_of_parts (node n ∷ ps) = least_of_node n + least_of_parts ps

-- ---- rules

append_least : (ps qs : List Part) → least_of_parts (ps ++ qs) ≡ least_of_parts ps + least_of_parts qs
append_least [] qs = omega arith
append_least (token t ∷ ps) qs = omega (arith, append_least ps qs)
append_least (node n ∷ ps) qs = omega (arith, append_least ps qs)

each_least : {A : Type 0} (of : A → Node) (xs : List A) → least_of_parts (each of xs) ≡ total (λ x. least_of_node (of x)) xs
each_least of [] = omega arith
each_least of (x ∷ xs) = omega (arith, each_least of xs)

followed_least : (args : List Arg) → least_of_parts (followed a.arg args) ≡ least_of_arguments args
followed_least [] = omega arith
followed_least (arg ∷ args) = omega (arith, followed_least args)

listed_least : (args : List Arg) → least_of_arguments args ≤ least_listed args + 1
listed_least [] = omega arith
listed_least (arg ∷ args) = omega arith

row_least : (args : List Arg) → least_of_row (hidden-the_row-Arg-2 args) ≡ least_of_arguments args
unfolding hidden-the_row-Arg-2 hidden
row_least [] = refl
row_least (arg ∷ args) = ap (λ (n : ℕ). least_of_argument arg + 1 + n) (row_least args)

abbrev least_of_value : Expr → ℕ
least_of_value e = least_below e.kind

-- a part needs no more tokens than what its rule puts together
rule_least : {n : Node} {early late : List Part} → Rule n early late → least_of_node n ≤ least_of_parts early + least_of_parts late
rule_least (rule.extern_flag e) = omega (arith, ap least_of_item e)
rule_least (rule.extern_int e) = omega (arith, ap least_of_item e)
rule_least (rule.item_objects e) = omega (arith, ap least_of_item e)
rule_least (rule.item_function e) = omega (arith, ap least_of_item e)
rule_least (rule.function e) = omega (arith, ap (λ (f : Function). least_of_body f.body) e)
-- statements
rule_least (rule.block {b = b}) =
    let objects = each a.objects b.objects in let stmts = each a.stmt b.stmts in
    omega (arith, append_least (objects ++ stmts) (word CloseBrace ∷ []), append_least objects stmts, each_least a.stmt b.stmts)
rule_least (rule.empty e) = omega (arith, ap least_of_statement e)
rule_least (rule.block_stmt e) = omega (arith, ap least_of_statement e)
rule_least (rule.simple_stmt e) = omega (arith, ap least_of_statement e)
rule_least (rule.if_ e) = omega (arith, ap least_of_statement e)
rule_least (rule.if_else e closed) = omega (arith, ap least_of_statement e)
rule_least (rule.while_ e) = omega (arith, ap least_of_statement e)
rule_least (rule.do_ e) = omega (arith, ap least_of_statement e)
rule_least (rule.for_ e) = omega (arith, ap least_of_statement e)
rule_least (rule.break e) = omega (arith, ap least_of_statement e)
rule_least (rule.continue e) = omega (arith, ap least_of_statement e)
rule_least (rule.return e) = omega (arith, ap least_of_statement e)
rule_least (rule.assign e) = omega (arith, ap least_of_simple e)
rule_least (rule.step_after e) = omega (arith, ap least_of_simple e)
rule_least (rule.step_before e) = omega (arith, ap least_of_simple e)
rule_least (rule.set_overflow e) = omega (arith, ap least_of_simple e)
rule_least (rule.simple_call e) = omega (arith, ap least_of_simple e)
-- calls
rule_least (rule.call {args = args} e) = omega (arith, ap least_of_call e, listed_least args)
rule_least (rule.args {xs = xs}) = omega (arith, followed_least xs)
rule_least (rule.address e) = omega (arith, ap least_of_argument e)
rule_least (rule.value e) = omega (arith, ap least_of_argument e)
-- expressions
rule_least (rule.choose e) = omega (arith, ap least_of_value e)
rule_least (rule.binary rank e) = omega (arith, ap least_of_value e)
rule_least (rule.unary e) = omega (arith, ap least_of_value e)
rule_least (rule.cast e) = omega (arith, ap least_of_value e)
rule_least (rule.brackets e) = omega (arith, ap least_of_value e)
rule_least (rule.number e) = omega (arith, ap least_of_value e)
rule_least (rule.read_overflow e) = omega (arith, ap least_of_value e)
rule_least (rule.call_value {c = c} e) = omega (arith, ap least_of_value e, row_least c.args)
rule_least (rule.read e) = omega (arith, ap least_of_value e)
-- of every other part nothing is claimed, or it stands in its rule as it is
rule_least _ = omega arith

-- parts are spelled by no fewer tokens
pub spelled_least : {ps : List Part} {d : ℕ} {w : List Spot} → Spells ps d w → least_of_parts ps ≤ length w
spelled_least nothing = omega arith
spelled_least (quoted is rest) = omega (arith, spelled_least rest)
spelled_least (whole {u1 = u1} {u2 = u2} {v = v} r early late rest joined e) =
    omega (arith, rule_least r, spelled_least early, spelled_least late, spelled_least rest, ap length joined, length-append (u1 ++ u2) v, length-append u1 u2)

-- ---- the first form

mutual
  expression_counted : (kind : ExprKind) (e : FirstExpr) → IsExpr kind e → tokens_of e ≤ least_below kind
  expression_counted (Number n) (Int m) h = omega arith
  expression_counted (Call' name _ args) (Add' tok at _ (boxed left _) _ (boxed right _)) h = omega (arith, operands_counted args left right h.1)
  expression_counted (Call' name _ args) (Sub' tok at _ (boxed left _) _ (boxed right _)) h = omega (arith, operands_counted args left right h.1)
  expression_counted kind e h = absurd h

  operands_counted : {m : _} (args : Row_of-Arg m) (left right : FirstExpr) → AreOperands args left right → tokens_of left + tokens_of right + 2 ≤ least_of_row args
  operands_counted (more_of-Arg one (more_of-Arg other end_of-Arg)) left right h =
      omega (arith, argument_counted one left h.0, argument_counted other right h.1)
  operands_counted args left right h = absurd h

  argument_counted : (arg : Arg) (e : FirstExpr) → IsArgument arg e → tokens_of e ≤ least_of_argument arg
  argument_counted (Value' at brackets kind) e h = expression_counted kind e h
  argument_counted (Address at place) e h = absurd h

only_counted : (args : List Arg) (e : FirstExpr) → IsOnlyArgument args e → tokens_of e + 1 ≤ least_of_arguments args
only_counted (arg ∷ []) e h = omega (arith, argument_counted arg e h)
only_counted args e h = absurd h

out_counted : (stmt : Stmt) (e : FirstExpr) → IsOut stmt e → tokens_of e + 4 ≤ least_of_statement stmt
out_counted (SimpleStmt (simple.Call call)) e h = omega (arith, only_counted call.args e h.1)
out_counted stmt e h = absurd h

statements_counted : (stmts : List Stmt) (es : List FirstExpr) → AreStatements stmts es → tokens_in es ≤ total least_of_statement stmts
statements_counted (stmt ∷ []) [] h = omega arith
statements_counted (stmt ∷ []) (e ∷ es) h = absurd h.1
statements_counted (stmt ∷ next ∷ more) [] h = absurd h
statements_counted (stmt ∷ next ∷ more) (e ∷ es) h = omega (arith, out_counted stmt e h.0, statements_counted (next ∷ more) es h.1)
statements_counted [] es h = absurd h

body_counted : (body : Option Block) (es : List FirstExpr) → HasBody body es → tokens_in es ≤ least_of_body body
body_counted (Some block) es h = statements_counted block.stmts es h.statements
body_counted None es h = absurd h

items_counted : (list : List Item) (es : List FirstExpr) → IsOnlyItem list es → tokens_in es ≤ least_of_parts (each a.item list)
items_counted (items.Function function ∷ []) es h = omega (arith, body_counted function.body es h.body)
items_counted list es h = absurd h

-- ---- whole sources

spots_counted : (text : List ℕ) (tok : ℕ) (list : List Token) → length (spots_from text tok list) ≡ length list
spots_counted text tok [] = refl
spots_counted text tok (x ∷ list) = ap suc (spots_counted text (suc tok) list)

-- the tokens that spell a program of the first form are no fewer than those of its statements
pub tokens_enough : (program : Program) (tokens : Tokens) (first : First) → programs.Spells program tokens → IsFirst program first → tokens_in first.outs ≤ length (spots_of tokens)
tokens_enough program tokens first spells form =
    omega (arith, items_counted program.items first.outs form, spelled_least spells.items.spelled)

pub tokens_counted : (program : Program) (tokens : Tokens) (first : First) → programs.Spells program tokens → IsFirst program first → tokens_in first.outs ≤ length tokens.list
tokens_counted program tokens first spells form =
    omega (arith, tokens_enough program tokens first spells form, spots_counted tokens.text 0 tokens.list)
