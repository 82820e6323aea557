use Rattle.std.proofs.Common.{rules, ◌≡◌, ℕ, suc, length, ◌∷◌, [], ◌++◌, ◌-◌, ◌+◌, ◌≤◌, ◌<◌, nat_le, true, false, arith, ◌∙◌, sym, Some, List, ap, subst}
use Rattle.std.proofs.lemmas.Bool.Decides.{nat_tests}
use Rattle.std.proofs.lemmas.Grind.{common_steps}
use Rattle.std.specs.Prelude.{Result, Ok}
use Rattle.sat_base.specs.declared.name.At.{At}
use Rattle.c_tree.specs.declared.call.Arg.{Arg}
use Rattle.c_tree.specs.declared.expression.Expr.{Expr}
use Rattle.c_tree.specs.declared.expression.ExprKind.TheVariants as kind
use Rattle.c_tree.specs.Depth.{deepest, depth_of_argument, depth_of_expression}
use Rattle.c_grammar.specs.declared.symbol.Symbol.TheVariants as symbol
use Rattle.c_grammar.specs.Spots.{Spot, here}
use Rattle.c_grammar.specs.Symbols.{binary_mark, same_symbol}
use Rattle.right_reading.specs.ReadExpressions.{expression_at, branches_by, chain_at, argument_at, listed_by, marks_at, named_by, ranked, unmarked}
use Rattle.right_reading.specs.Lists.{after, is_comma, many, more_listed}
use Rattle.right_reading.specs.Stream.{ahead, rest, Fault, ◌>>=◌}
use Rattle.token_reader.specs.Gives.{Fails}
use Rattle.expression_parser.specs.Heights.{Measures}
use Rattle.token_reader.proofs.Loops.{rest_passed, turned, failed, many_on, comma_passed}
use Rattle.expression_parser.proofs.HeightEquations.{call_depth, binary_depth, one_more_argument}
use Rattle.expression_parser.proofs.ReaderEquations.{expression_chosen, expression_too_deep}
use Rattle.expression_parser.proofs.Marks.{marks_deep, marks_fail, marks_next, fails_deep, measures_failed}
use Rattle.expression_parser.proofs.+expressions.Goals as goal

pub calls::listed_arguments-loop-turn-init : goal.calls::listed_arguments-loop-turn-init
unfolding listed_by
calls::listed_arguments-loop-turn-init t c =
    let item = argument_at c.args.limit in
    let next_item = after symbol.Comma item in
    let x = c.in_ok-first.first in
    let m = c.in_ok-first.ensures.1 in
    let turns : c.turns-turn-end.result - 0 ≡ suc (length c.argument.new.reader) = omega (arith, c.turns-turn-end.ensures) in
    let one : c.push.new.self ≡ x.tree ∷ [] = c.in_ok-push.ensures.ok ∙ ap (λ (args : List Arg). args ++ x.tree ∷ []) c.new-args.ensures in
    record {
      same = ap (λ (n : ℕ). many is_comma next_item n c.push.new.self c.argument.new.reader) turns ∙ ap (λ (args : List Arg). more_listed item args c.argument.new.reader) one
          ∙ sym (ap (λ (y : Result (Arg × List Spot) Fault). y >>= (λ x. more_listed item (x.0 ∷ []) x.1)) c.in_ok-first.ensures.0);
      measured = record { height = omega (arith, m.height, ap (deepest depth_of_argument) one); within = m.within };
    }

pub calls::listed_arguments-returns-in_err-next : goal.calls::listed_arguments-returns-in_err-next
calls::listed_arguments-returns-in_err-next t c =
    let i = c.loop-turn.reader in
    let e = c.in_err-next.field-0.0 in
    let item = argument_at c.args.limit in
    let next_item = after symbol.Comma item in
    let comma : is_comma (ahead i) ≡ true = sym c.pass_if.ensures.value ∙ c.if-not-pass_if.false in
    let passed : c.pass_if.new.self ≡ rest i = rest_passed c.pass_if.result i c.pass_if.new.self c.pass_if.ensures.rest c.if-not-pass_if.false in
    let bad : Fails (next_item i) e = subst (λ (y : Result (Arg × List Spot) Fault). Fails y e) (sym (comma_passed item i c.pass_if.new.self comma passed)) c.in_err-next.ensures in
    measures_failed (deepest depth_of_argument) c.args.limit c.from_residual-in_err-next.result e c.argument-in-loop-turn.new.reader _ c.from_residual-in_err-next.ensures.1
    (failed (many is_comma next_item) next_item _ c.turns-turn-end.result c.loop-turn._turn c.loop-turn.args i c.loop-turn.invariant.same c.loop-turn-test.true (many_on is_comma next_item c.loop-turn.args i comma) e bad)

pub calls::listed_arguments-loop-turn-preserved : goal.calls::listed_arguments-loop-turn-preserved
calls::listed_arguments-loop-turn-preserved t c =
    let i = c.loop-turn.reader in
    let v = c.loop-turn.invariant in
    let m = c.in_ok-next.ensures.1 in
    let item = argument_at c.args.limit in
    let next_item = after symbol.Comma item in
    let comma : is_comma (ahead i) ≡ true = sym c.pass_if.ensures.value ∙ c.if-not-pass_if.false in
    let passed : c.pass_if.new.self ≡ rest i = rest_passed c.pass_if.result i c.pass_if.new.self c.pass_if.ensures.rest c.if-not-pass_if.false in
    let read = comma_passed item i c.pass_if.new.self comma passed ∙ c.in_ok-next.ensures.0 in
    let next = turned (many is_comma next_item) next_item _ c.turns-turn-end.result c.loop-turn._turn c.loop-turn.args i v.same c.loop-turn-test.true (many_on is_comma next_item c.loop-turn.args i comma)
    c.in_ok-next.next.tree c.argument-in-loop-turn.new.reader read in
    let more = c.in_ok-push-2.ensures.ok in
    record {
      same = ap (λ (args : List Arg). many is_comma next_item (c.turns-turn-end.result - (c.loop-turn._turn + 1)) args c.argument-in-loop-turn.new.reader) more ∙ next;
      measured = record {
        height = omega (arith, c.max-height.ensures, v.measured.height, m.height, ap (deepest depth_of_argument) more, one_more_argument c.loop-turn.args c.in_ok-next.next.tree);
        within = omega (arith, c.max-height.ensures, v.measured.within, m.within);
      };
    }

pub expressions::chain-returns-then-left-limit : goal.expressions::chain-returns-then-left-limit
expressions::chain-returns-then-left-limit t c =
    let i = c.loop-turn.reader in
    let v = c.loop-turn.invariant in
    let is : ranked c.args.rank (binary_mark (ahead i)) ≡ Some c.in-Some.mark = cc in
    let high : c.args.limit ≤ depth_of_expression c.loop-turn.left.tree = omega (arith, v.measured.height, c.if-left-limit.true) in
    fails_deep c.too_deep.result i _ c.too_deep.ensures
    (marks_deep c.args.rank c.args.limit (chain_at (c.args.limit - 1) (c.args.rank - 1)) _ c.left-turn-end.result c.loop-turn._turn c.loop-turn.left.tree i v.same c.in-Some.mark is c.loop-turn-test.true high)

pub expressions::chain-returns-in_err-right : goal.expressions::chain-returns-in_err-right
expressions::chain-returns-in_err-right t c =
    let i = c.loop-turn.reader in
    let v = c.loop-turn.invariant in
    let right = chain_at (c.args.limit - 1) (c.args.rank - 1) in
    let e = c.in_err-right.field-0.0 in
    let is : ranked c.args.rank (binary_mark (ahead i)) ≡ Some c.in-Some.mark = cc in
    let low : depth_of_expression c.loop-turn.left.tree < c.args.limit = omega (arith, v.measured.height, c.if-left-limit.false) in
    let bad : Fails (right (rest i)) e = subst (λ (x : List Spot). Fails (right x) e) c.pass-mark_at.ensures.rest c.in_err-right.ensures in
    measures_failed depth_of_expression c.args.limit c.from_residual.result e c.ranked.new.reader _ c.from_residual.ensures.1
    (marks_fail c.args.rank c.args.limit right _ c.left-turn-end.result c.loop-turn._turn c.loop-turn.left.tree i v.same c.in-Some.mark is c.loop-turn-test.true e low bad)

pub expressions::chain-loop-turn-preserved : goal.expressions::chain-loop-turn-preserved
expressions::chain-loop-turn-preserved t c =
    let i = c.loop-turn.reader in
    let v = c.loop-turn.invariant in
    let right = chain_at (c.args.limit - 1) (c.args.rank - 1) in
    let is : ranked c.args.rank (binary_mark (ahead i)) ≡ Some c.in-Some.mark = cc in
    let low : depth_of_expression c.loop-turn.left.tree < c.args.limit = omega (arith, v.measured.height, c.if-left-limit.false) in
    let read : right (rest i) ≡ Ok (c.in_ok-right.right.tree, c.ranked.new.reader) = ap right (sym c.pass-mark_at.ensures.rest) ∙ c.in_ok-right.ensures.0 in
    let next = marks_next c.args.rank c.args.limit right _ c.left-turn-end.result c.loop-turn._turn c.loop-turn.left.tree i v.same c.in-Some.mark is c.loop-turn-test.true c.in_ok-right.right.tree c.ranked.new.reader low read in
    let tree = c.in_ok-binary.ensures ∙ ap (λ (at : At). unmarked c.loop-turn.left.tree.at (kind.Binary c.in-Some.mark at c.loop-turn.left.tree c.in_ok-right.right.tree)) c.pass-mark_at.ensures.at in
    let depth = ap depth_of_expression tree in
    let height : 1 + c.max.result ≡ depth_of_expression c.in_ok-binary.field-0 =
    omega (arith, depth, c.max.ensures, v.measured.height, c.in_ok-right.ensures.1.height, binary_depth c.in-Some.mark (here i) c.loop-turn.left.tree c.in_ok-right.right.tree) in
    record {
      same = ap (λ (e : Expr). marks_at (c.left-turn-end.result - (c.loop-turn._turn + 1)) c.args.rank c.args.limit right e c.ranked.new.reader) tree ∙ next;
      measured = record { height = height; within = omega (arith, c.max.ensures, c.if-left-limit.false, c.in_ok-right.ensures.1.within) };
    }

pub expressions::expression-returns-then-cond-limit : goal.expressions::expression-returns-then-cond-limit
expressions::expression-returns-then-cond-limit t c =
    let cond = c.in_ok-cond.cond in
    let j = c.ranked.new.reader in
    let question : same_symbol (ahead j) symbol.Question ≡ true = cc in
    let high : c.args.limit ≤ depth_of_expression cond.tree = omega (arith, c.in_ok-cond.ensures.1.height, c.if-cond-limit.true) in
    fails_deep c.too_deep.result j _ c.too_deep.ensures (expression_too_deep c.args.limit c.args.reader.now cond.tree j c.in_ok-cond.ensures.0 question high)

pub expressions::expression-returns : goal.expressions::expression-returns
expressions::expression-returns t c =
    let cond = c.in_ok-cond.cond in
    let j = c.ranked.new.reader in
    let question : same_symbol (ahead j) symbol.Question ≡ true = cc in
    let low : depth_of_expression cond.tree < c.args.limit = omega (arith, c.in_ok-cond.ensures.1.height, c.if-cond-limit.false) in
    let shallow : nat_le c.args.limit (depth_of_expression cond.tree) ≡ false = grind (arith, nat_tests) in
    let same = expression_chosen c.args.limit c.args.reader.now cond.tree j c.in_ok-cond.ensures.0 question shallow
    ∙ ap (λ (i : List Spot). branches_by (expression_at (c.args.limit - 1)) cond.tree i) (sym c.pass.ensures.rest) in
    let one : c.args.limit - 1 + 1 ≡ c.args.limit = omega (arith, low) in
    subst (λ (n : ℕ). Measures depth_of_expression n (expression_at c.args.limit c.args.reader.now) c.branches.result c.branches.new.reader) one
    (subst (λ (y : Result (Expr × List Spot) Fault). Measures depth_of_expression (c.args.limit - 1 + 1) y c.branches.result c.branches.new.reader) (sym same) c.branches.ensures)

pub expressions::named_value-returns-then-is : goal.expressions::named_value-returns-then-is
unfolding named_by
expressions::named_value-returns-then-is t c =
    let args = c.in_ok-args.args in
    let depth = ap depth_of_expression c.call.ensures in (
      first_of (search rules, grind (arith, common_steps)),
      record {
        height = omega (arith, depth, call_depth (record { name = c.in_ok-name.name; args = args.tree }), c.in_ok-args.ensures.1.height);
        within = omega (arith, c.in_ok-args.ensures.1.within);
      },
    )
