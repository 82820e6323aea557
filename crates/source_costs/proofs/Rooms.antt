-- The tokens that spell a part of the tree have room for what it costs.
use Rattle.std.proofs.Common.{◌≡◌, ◌≢◌, ℕ, suc, ◌+◌, ◌*◌, ◌≤◌, List, [], ◌∷◌, ◌++◌, length, Some, None, refl, ap, ◌∙◌, arith}
use Rattle.std.proofs.lemmas.List.{length-append}
use Rattle.c_lexer.specs.declared.token.Token.{Token}
use Rattle.c_tree.specs.declared.declaration.Objects.{Objects}
use Rattle.c_tree.specs.declared.function.Param.{Param}
use Rattle.c_tree.specs.declared.program.Item.{Item}
use Rattle.c_tree.specs.declared.statement.Stmt.{Stmt}
use Rattle.c_grammar.specs.declared.symbol.Symbol.TheVariants.{CloseBrace, Semicolon}
use Rattle.c_grammar.specs.Grammar.{Rule}
use Rattle.c_grammar.specs.Grammar as rule
use Rattle.c_grammar.specs.Nodes.{Node}
use Rattle.c_grammar.specs.Nodes as a
use Rattle.c_grammar.specs.Parts.{Part, token, node, word, each, followed}
use Rattle.c_grammar.specs.Spelling.{Spells, nothing, quoted, whole}
use Rattle.c_grammar.specs.Spots.{Spot, spots_from}
use Rattle.ir_arena.specs.Costs.{operand_words, beginning_words, parameter_words}
use Rattle.source_costs.specs.Costs.{total, cost_if_any, surrounded, cost_of_place, cost_of_argument, cost_of_expression, cost_of_call, cost_of_initialiser, cost_of_declared, cost_of_objects, cost_of_simple, cost_of_statement, cost_of_block, cost_of_function, cost_of_item}
use Rattle.source_costs.specs.Laws.{token_words, TokensCoverCosts}
use Rattle.source_costs.proofs.Equations as is

-- ---- parts of the tree

-- what is claimed of a part; whatever may be an item has room for the beginning of the code too
abbrev cost_of_node : Node → ℕ
cost_of_node (a.item i) = beginning_words + cost_of_item i
cost_of_node (a.objects o) = beginning_words + cost_of_objects o
cost_of_node (a.specifiers at is_static is_const width) = 0
cost_of_node (a.type_ at width) = parameter_words
cost_of_node (a.declarator is_static is_const width d) = cost_of_declared d
cost_of_node (a.dimensions rows cols) = 0
cost_of_node (a.dimension d) = 0
cost_of_node (a.start i) = cost_of_initialiser i
cost_of_node (a.view_start i) = cost_of_initialiser i
cost_of_node (a.row r) = 0
cost_of_node (a.values vs) = 0
cost_of_node (a.function f) = beginning_words + cost_of_function f
cost_of_node (a.given at is_static gives) = 0
cost_of_node (a.result at gives) = 0
cost_of_node (a.params ps) = length ps * parameter_words
cost_of_node (a.param p) = parameter_words
cost_of_node (a.param_type at type_at is_const width) = parameter_words
cost_of_node (a.maybe_name name) = 0
cost_of_node (a.body b) = cost_if_any cost_of_block b
cost_of_node (a.block b) = cost_of_block b
cost_of_node (a.stmt s) = cost_of_statement s
cost_of_node (a.simples xs) = total cost_of_simple xs
cost_of_node (a.simple x) = cost_of_simple x
cost_of_node (a.place p) = surrounded (operand_words + cost_of_place p)
cost_of_node (a.named p) = surrounded (operand_words + cost_of_place p)
cost_of_node (a.call c) = surrounded (cost_of_call c)
cost_of_node (a.args xs) = total cost_of_argument xs
cost_of_node (a.arg x) = cost_of_argument x
cost_of_node (a.maybe_expr e) = cost_if_any cost_of_expression e
cost_of_node (a.expr e) = cost_of_expression e
cost_of_node (a.chain n e) = cost_of_expression e
cost_of_node (a.unary e) = cost_of_expression e

-- the room in these parts, where each part of the tree takes what it costs
abbrev room_of_parts : List Part → ℕ
room_of_parts [] = 0
room_of_parts (token t ∷ ps) = token_words + room_of_parts ps
room_of_parts (node n ∷ ps) = cost_of_node n + room_of_parts ps

append_room : (ps qs : List Part) → room_of_parts (ps ++ qs) ≡ room_of_parts ps + room_of_parts qs
append_room [] qs = omega arith
append_room (token t ∷ ps) qs = omega (arith, append_room ps qs)
append_room (node n ∷ ps) qs = omega (arith, append_room ps qs)

each_room : {A : Type 0} (of : A → Node) (cost : A → ℕ) → ((x : A) → cost x ≤ cost_of_node (of x)) → (xs : List A) → total cost xs ≤ room_of_parts (each of xs)
each_room of cost one [] = omega arith
each_room of cost one (x ∷ xs) = omega (arith, one x, each_room of cost one xs)

followed_room : {A : Type 0} (of : A → Node) (xs : List A) → total (λ x. cost_of_node (of x)) xs ≤ room_of_parts (followed of xs)
followed_room of [] = omega arith
followed_room of (x ∷ xs) = omega (arith, followed_room of xs)

followed_then_room : {A : Type 0} (of : A → Node) (xs : List A) (rest : List Part) → total (λ x. cost_of_node (of x)) xs + room_of_parts rest ≤ room_of_parts (followed of xs ++ rest)
followed_then_room of xs rest = omega (arith, append_room (followed of xs) rest, followed_room of xs)

parameters_room : (ps : List Param) → length ps * parameter_words ≡ total (λ (p : Param). cost_of_node (a.param p)) ps
parameters_room [] = omega arith
parameters_room (p ∷ ps) = omega (arith, parameters_room ps)

objects_room : (objects : Objects) → cost_of_objects objects ≤ cost_of_node (a.objects objects)
objects_room objects = omega arith

items_room : (xs : List Item) → total cost_of_item xs ≤ room_of_parts (each a.item xs)
items_room [] = omega arith
items_room (x ∷ xs) = omega (arith, items_room xs)

-- ---- rules

-- a part costs no more than what its rule puts together has room for
rule_room : {n : Node} {early late : List Part} → Rule n early late → cost_of_node n ≤ room_of_parts early + room_of_parts late
rule_room (rule.extern_flag e) = omega (arith, ap cost_of_item e)
rule_room (rule.extern_int e) = omega (arith, ap cost_of_item e)
rule_room (rule.item_objects e) = omega (arith, ap cost_of_item e)
rule_room (rule.item_function e) = omega (arith, ap cost_of_item e)
-- objects
rule_room (rule.objects {is_static = is_static} {is_const = is_const} {width = width} {ds = ds} e) =
    omega (arith, ap cost_of_objects e, followed_then_room (a.declarator is_static is_const width) ds (word Semicolon ∷ []))
rule_room (rule.view e) = omega (arith, ap cost_of_declared e)
rule_room (rule.object e) = omega (arith, ap cost_of_declared e)
-- functions
rule_room (rule.function e) = omega (arith, ap cost_of_function e)
rule_room (rule.params {ps = ps}) = omega (arith, parameters_room ps, followed_room a.param ps)
-- statements
rule_room (rule.block {b = b}) =
    let objects = each a.objects b.objects in let stmts = each a.stmt b.stmts in
    omega (arith, append_room (objects ++ stmts) (word CloseBrace ∷ []), append_room objects stmts, each_room a.objects cost_of_objects objects_room b.objects, each_room a.stmt cost_of_statement (λ (s : Stmt). omega arith) b.stmts)
rule_room (rule.empty e) = omega (arith, ap cost_of_statement e)
rule_room (rule.block_stmt {block = block} e) = omega (arith, ap cost_of_statement e ∙ is.statement-Block block)
rule_room (rule.simple_stmt e) = omega (arith, ap cost_of_statement e)
rule_room (rule.if_ {at = at} {cond = cond} {branch = branch} e) = omega (arith, ap cost_of_statement e ∙ is.statement-If at cond branch None)
rule_room (rule.if_else {at = at} {cond = cond} {branch = branch} {other = other} e closed) =
    omega (arith, ap cost_of_statement e ∙ is.statement-If at cond branch (Some other))
rule_room (rule.while_ {at = at} {cond = cond} {body = body} e) = omega (arith, ap cost_of_statement e ∙ is.statement-While at cond body)
rule_room (rule.do_ {at = at} {body = body} {cond = cond} e) = omega (arith, ap cost_of_statement e ∙ is.statement-Do at body cond)
rule_room (rule.for_ {at = at} {first = first} {last = last} {cond = cond} {body = body} e) =
    omega (arith, ap cost_of_statement e ∙ is.statement-For at first cond last body)
rule_room (rule.break e) = omega (arith, ap cost_of_statement e)
rule_room (rule.continue e) = omega (arith, ap cost_of_statement e)
rule_room (rule.return e) = omega (arith, ap cost_of_statement e)
rule_room (rule.simples {xs = xs}) = omega (arith, followed_room a.simple xs)
rule_room (rule.assign e) = omega (arith, ap cost_of_simple e)
rule_room (rule.step_after e) = omega (arith, ap cost_of_simple e)
rule_room (rule.step_before e) = omega (arith, ap cost_of_simple e)
rule_room (rule.set_overflow e) = omega (arith, ap cost_of_simple e)
rule_room (rule.simple_call e) = omega (arith, ap cost_of_simple e)
-- places and calls
rule_room (rule.deref e) = omega (arith, ap cost_of_place e)
rule_room (rule.plain e) = omega (arith, ap cost_of_place e)
rule_room (rule.index {name = name} {mark_at = mark_at} {index = index} e) = omega (arith, ap cost_of_place e ∙ is.place-Index name mark_at index)
rule_room (rule.index2 {name = name} {first_at = first_at} {second_at = second_at} {first = first} {second = second} e) =
    omega (arith, ap cost_of_place e ∙ is.place-Index2 name first_at first second_at second)
rule_room (rule.call e) = omega (arith, ap cost_of_call e)
rule_room (rule.args {xs = xs}) = omega (arith, followed_room a.arg xs)
rule_room (rule.address e) = omega (arith, ap cost_of_argument e)
rule_room (rule.value e) = omega (arith, ap cost_of_argument e)
-- expressions
rule_room (rule.choose {cond = cond} {one = one} {other = other} e) = omega (arith, ap cost_of_expression e, is.below-Choose cond one other)
rule_room (rule.binary {left = left} {right = right} {mark = mark} {mark_at = mark_at} rank e) =
    omega (arith, ap cost_of_expression e, is.below-Binary mark mark_at left right)
rule_room (rule.unary {part = part} {mark = mark} {mark_at = mark_at} e) = omega (arith, ap cost_of_expression e, is.below-Unary mark mark_at part)
rule_room (rule.cast {part = part} {width = width} e) = omega (arith, ap cost_of_expression e, is.below-Cast width part)
rule_room (rule.brackets e) = omega (arith, ap cost_of_expression e)
rule_room (rule.number e) = omega (arith, ap cost_of_expression e)
rule_room (rule.read_overflow e) = omega (arith, ap cost_of_expression e)
rule_room (rule.call_value {c = c} e) = omega (arith, ap cost_of_expression e, is.below-Call c)
rule_room (rule.read {p = p} e) = omega (arith, ap cost_of_expression e, is.below-Read p)
-- of every other part nothing is claimed, or it stands in its rule as it is
rule_room _ = omega arith

-- ---- whole sources

-- parts have room in the tokens that spell them
spelled_room : {ps : List Part} {d : ℕ} {w : List Spot} → Spells ps d w → room_of_parts ps ≤ token_words * length w
spelled_room nothing = omega arith
spelled_room (quoted is rest) = omega (arith, spelled_room rest)
spelled_room (whole {u1 = u1} {u2 = u2} {v = v} r early late rest joined e) =
    omega (arith, rule_room r, spelled_room early, spelled_room late, spelled_room rest, ap length joined, length-append (u1 ++ u2) v, length-append u1 u2)

spots_counted : (text : List ℕ) (tok : ℕ) (list : List Token) → length (spots_from text tok list) ≡ length list
spots_counted text tok [] = refl
spots_counted text tok (x ∷ list) = ap suc (spots_counted text (suc tok) list)

-- the first item has room for the beginning of the code
source_room : (items : List Item) → items ≢ [] → beginning_words + total cost_of_item items ≤ room_of_parts (each a.item items)
source_room [] some = absurd (some refl)
source_room (x ∷ xs) some = omega (arith, items_room xs)

pub tokens_cover : TokensCoverCosts
tokens_cover program tokens spells =
    omega (arith, source_room program.items spells.items.some, spelled_room spells.items.spelled, spots_counted tokens.text 0 tokens.list)
