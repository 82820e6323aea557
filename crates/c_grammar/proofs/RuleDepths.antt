-- The rules of the grammar agree with the definition of depth: a part of the tree is as deep as what its rule puts
-- together, and one more where it counts.
use Rattle.std.proofs.Common.{◌≡◌, ℕ, max, List, [], ◌∷◌, ◌++◌, None, Some, ap, ◌∙◌, arith}
use Rattle.c_tree.specs.Depth.{depth_of_place, depth_of_argument, depth_of_expression, depth_of_call, depth_of_declared, depth_of_objects, depth_of_simple, depth_of_statement, depth_of_parameter, depth_of_function, depth_of_item}
use Rattle.c_tree.proofs.Depths.{depth_below-Read, depth_below-Unary, depth_below-Binary, depth_below-Cast, depth_below-Choose, depth_below-Call, depth_of_place-Index, depth_of_place-Index2, depth_of_statement-Block, depth_of_statement-If, depth_of_statement-While, depth_of_statement-Do, depth_of_statement-For}
use Rattle.c_grammar.specs.declared.symbol.Symbol.TheVariants.{CloseBrace, Comma, Semicolon}
use Rattle.c_grammar.specs.Grammar.{Rule}
use Rattle.c_grammar.specs.Grammar as rule
use Rattle.c_grammar.specs.Nodes.{Node}
use Rattle.c_grammar.specs.Nodes as a
use Rattle.c_grammar.specs.Parts.{Part, word, each}
use Rattle.c_grammar.specs.Spelling.{counted, Spells, nothing, quoted}
use Rattle.c_grammar.specs.Spots.{Spot}
use Rattle.c_grammar.proofs.Counted.{counted_suc, block_counts, place_counts, call_counts, simple_counts}
use Rattle.c_grammar.proofs.NodeDepths.{depth_of_node, depth_of_parts, append_depth, each_depth, followed_depth, followed_then_depth}

-- what stands late in a rule spells a token where there is any, so that the part counts there
pub rule_depth : {n : Node} {early late : List Part} {d : ℕ} {u : List Spot}
    → Rule n early late → Spells late d u → counted u (max (depth_of_parts early) (depth_of_parts late)) ≡ depth_of_node n
-- items
rule_depth (rule.extern_flag e) nothing = omega (arith, ap depth_of_item e)
rule_depth (rule.extern_int e) nothing = omega (arith, ap depth_of_item e)
rule_depth (rule.item_objects e) nothing = omega (arith, ap depth_of_item e)
rule_depth (rule.item_function e) nothing = omega (arith, ap depth_of_item e)
-- objects
rule_depth (rule.objects {is_static = is_static} {is_const = is_const} {width = width} {ds = ds} e) nothing =
    omega (arith, ap depth_of_objects e, followed_then_depth (a.declarator is_static is_const width) ds (word Semicolon ∷ []))
rule_depth (rule.view e) nothing = omega (arith, ap depth_of_declared e)
rule_depth (rule.object e) nothing = omega (arith, ap depth_of_declared e)
-- initialisers
rule_depth (rule.rows {rows = rows}) nothing = omega (arith, followed_then_depth a.row rows (word CloseBrace ∷ []))
rule_depth (rule.rows_and_comma {rows = rows}) nothing = omega (arith, followed_then_depth a.row rows (word Comma ∷ word CloseBrace ∷ []))
rule_depth (rule.values {values = values}) nothing = omega (arith, followed_depth a.expr values)
rule_depth (rule.values_and_comma {values = values}) nothing = omega (arith, followed_then_depth a.expr values (word Comma ∷ []))
-- functions
rule_depth (rule.function e) nothing = omega (arith, ap depth_of_function e)
rule_depth (rule.params {ps = ps}) nothing = omega (arith, followed_depth a.param ps)
rule_depth (rule.number_param e) nothing = omega (arith, ap depth_of_parameter e)
rule_depth (rule.view_param e) nothing = omega (arith, ap depth_of_parameter e)
rule_depth (rule.array_param e) nothing = omega (arith, ap depth_of_parameter e)
-- statements
rule_depth (rule.block {b = b}) nothing =
    let objects = each a.objects b.objects in let stmts = each a.stmt b.stmts in
    omega (arith, append_depth (objects ++ stmts) (word CloseBrace ∷ []), append_depth objects stmts, each_depth a.objects b.objects, each_depth a.stmt b.stmts)
rule_depth (rule.empty e) (quoted is late) = omega (arith, ap depth_of_statement e)
rule_depth (rule.block_stmt {block = block} e) late =
    rw (counted_suc (block_counts late)) (omega (arith, ap depth_of_statement e ∙ depth_of_statement-Block block))
rule_depth (rule.simple_stmt e) late = rw (counted_suc (simple_counts late)) (omega (arith, ap depth_of_statement e))
rule_depth (rule.if_ {at = at} {cond = cond} {branch = branch} e) (quoted is late) =
    omega (arith, ap depth_of_statement e ∙ depth_of_statement-If at cond branch None)
rule_depth (rule.if_else {at = at} {cond = cond} {branch = branch} {other = other} e closed) (quoted is late) =
    omega (arith, ap depth_of_statement e ∙ depth_of_statement-If at cond branch (Some other))
rule_depth (rule.while_ {at = at} {cond = cond} {body = body} e) (quoted is late) =
    omega (arith, ap depth_of_statement e ∙ depth_of_statement-While at cond body)
rule_depth (rule.do_ {at = at} {body = body} {cond = cond} e) (quoted is late) = omega (arith, ap depth_of_statement e ∙ depth_of_statement-Do at body cond)
rule_depth (rule.for_ {at = at} {first = first} {last = last} {cond = cond} {body = body} e) (quoted is late) =
    omega (arith, ap depth_of_statement e ∙ depth_of_statement-For at first cond last body)
rule_depth (rule.break e) (quoted is late) = omega (arith, ap depth_of_statement e)
rule_depth (rule.continue e) (quoted is late) = omega (arith, ap depth_of_statement e)
rule_depth (rule.return e) (quoted is late) = omega (arith, ap depth_of_statement e)
rule_depth (rule.simples {xs = xs}) nothing = omega (arith, followed_depth a.simple xs)
rule_depth (rule.assign e) nothing = omega (arith, ap depth_of_simple e)
rule_depth (rule.step_after e) nothing = omega (arith, ap depth_of_simple e)
rule_depth (rule.step_before e) nothing = omega (arith, ap depth_of_simple e)
rule_depth (rule.set_overflow e) nothing = omega (arith, ap depth_of_simple e)
rule_depth (rule.simple_call e) nothing = omega (arith, ap depth_of_simple e)
-- places and calls
rule_depth (rule.deref e) (quoted is late) = omega (arith, ap depth_of_place e)
rule_depth (rule.plain e) (quoted is late) = omega (arith, ap depth_of_place e)
rule_depth (rule.index {name = name} {mark_at = mark_at} {index = index} e) (quoted is late) =
    omega (arith, ap depth_of_place e ∙ depth_of_place-Index name mark_at index)
rule_depth (rule.index2 {name = name} {first_at = first_at} {second_at = second_at} {first = first} {second = second} e) (quoted is late) =
    omega (arith, ap depth_of_place e ∙ depth_of_place-Index2 name first_at first second_at second)
rule_depth (rule.call e) nothing = omega (arith, ap depth_of_call e)
rule_depth (rule.args {xs = xs}) nothing = omega (arith, followed_depth a.arg xs)
rule_depth (rule.address e) nothing = omega (arith, ap depth_of_argument e)
rule_depth (rule.value e) nothing = omega (arith, ap depth_of_argument e)
-- expressions
rule_depth (rule.choose {cond = cond} {one = one} {other = other} e) (quoted is late) =
    omega (arith, ap depth_of_expression e, depth_below-Choose cond one other)
rule_depth (rule.binary {left = left} {right = right} {mark = mark} {mark_at = mark_at} rank e) (quoted is late) =
    omega (arith, ap depth_of_expression e, depth_below-Binary mark mark_at left right)
rule_depth (rule.unary {part = part} {mark = mark} {mark_at = mark_at} e) (quoted is late) =
    omega (arith, ap depth_of_expression e, depth_below-Unary mark mark_at part)
rule_depth (rule.cast {part = part} {width = width} e) (quoted is late) = omega (arith, ap depth_of_expression e, depth_below-Cast width part)
rule_depth (rule.brackets e) (quoted is late) = omega (arith, ap depth_of_expression e)
rule_depth (rule.number e) (quoted is late) = omega (arith, ap depth_of_expression e)
rule_depth (rule.read_overflow e) (quoted is late) = omega (arith, ap depth_of_expression e)
rule_depth (rule.call_value {c = c} e) late = rw (counted_suc (call_counts late)) (omega (arith, ap depth_of_expression e, depth_below-Call c))
rule_depth (rule.read {p = p} e) late = rw (counted_suc (place_counts late)) (omega (arith, ap depth_of_expression e, depth_below-Read p))
-- every other rule has nothing late, and its part of the tree stands in it as it is
rule_depth _ nothing = omega arith
