use Rattle.std.proofs.Common.{rules, ◌≡◌, ◌+◌, ◌≤◌, ◌++◌, ℕ, List, length, map, max, ap, sym, ◌∙◌, subst, arith}
use Rattle.std.proofs.Math.Nat.{le-max_left, le-max_right}
use Rattle.std.proofs.lemmas.Result.{on_ok_weaker}
use Rattle.first_form.specs.Form.{HasOperands, nesting_of}
use Rattle.first_form.specs.declared.first.FirstExpr.TheVariants.{Add, Sub}
use Rattle.image_format.specs.declared.image.SiteEntry.{SiteEntry}
use Rattle.rv_encode.specs.declared.instruction.Instr.{Instr}
use Rattle.rv_encode.specs.Words.{encoded}
use Rattle.sat_compile.specs.declared.emit.TheConstants.{MOST_WORDS}
use Rattle.sat_compile.specs.Emission.{operand_code, expression_code, expression_entries, entry_of}
use Rattle.first_form.proofs.Calls.{nesting_of-Add, nesting_of-Sub}
use Rattle.sat_compile.proofs.Expressions.{code_of_add, code_of_sub, entries_of_add, entries_of_sub, operands_of_add, operands_of_sub, room_for_right, sites_of_call}
use Rattle.sat_compile.proofs.emit.+expression.Goals as goal

pub push_call-push_operand-requires : goal.push_call-push_operand-requires
push_call-push_operand-requires t c =
    let depth = c.args.depth in
    let right = c.args.right.now in
    let at_most = le-max_right (nesting_of c.args.left.now) (nesting_of right) in
    let room = room_for_right MOST_WORDS c.args.code.now.items c.push_expression.new.code.items (expression_code depth c.args.left.now) (operand_code depth right (expression_code (depth + 1) right)) _ c.requires.fits c.in_ok-push_expression.ensures.code in
    (omega (arith, at_most, c.decreases), (c.requires.right, (c.requires.right_nesting, room)))

pub push_call-returns-clause-sites : goal.push_call-returns-clause-sites
push_call-returns-clause-sites t c =
    let index : c.len-index.result ≡ length c.args.sites.now.items = search rules in
    let words : c.len.result ≡ length c.push_operand.new.code.items = search rules in
    let filled : c.entry-2.result ≡ entry_of c.args.operator (length c.push_operand.new.code.items) c.args.pos = c.entry-2.ensures ∙ ap (λ (n : ℕ). entry_of c.args.operator n c.args.pos) words in
    let whole = sites_of_call c.args.operator c.args.pos c.args.depth c.args.left.now c.args.right.now c.args.code.now.items c.push_expression.new.code.items c.push_operand.new.code.items
    c.args.sites.now.items c.push.new.self.items c.push_expression.new.sites.items c.push_operand.new.sites.items c.entry.result c.entry-2.result c.len-index.result
    c.in_ok-push_expression.ensures.code c.in_ok-push_operand.ensures.code index c.in_ok-push.ensures.items c.in_ok-push_expression.ensures.sites c.in_ok-push_operand.ensures.sites filled in
    on_ok_weaker c.push-2.result (λ _. whole) c.push-2.ensures

pub push_expression-push_call-requires : goal.push_expression-push_call-requires
push_expression-push_call-requires t c =
    let left = c.get.result.now in
    let right = c.get-in-Add.result.now in
    let is : c.args.expr.now ≡ Add c.in-Add.tok c.in-Add.pos left right = cc in
    let operands = operands_of_add c.in-Add.tok c.in-Add.pos left right (subst HasOperands is c.requires.operands) in
    let deep : nesting_of c.args.expr.now ≡ max (nesting_of left) (nesting_of right) + 1 = ap nesting_of is ∙ nesting_of-Add c.in-Add.tok c.in-Add.pos left right in
    let code = ap (expression_code c.args.depth) is ∙ code_of_add c.args.depth c.in-Add.tok c.in-Add.pos left right in
    let at_left = le-max_left (nesting_of left) (nesting_of right) in
    let at_right = le-max_right (nesting_of left) (nesting_of right) in
    let nesting = c.requires.nesting in
    let fits = subst (λ (words : List Instr). length c.args.code.now.items + length words ≤ MOST_WORDS) code c.requires.fits in
    (omega (arith, deep, at_left, at_right, c.decreases), (operands.0, (operands.1, (omega (arith, deep, at_left, nesting), (omega (arith, deep, at_right, nesting), fits)))))

pub push_expression-returns-in-Add-clause-code : goal.push_expression-returns-in-Add-clause-code
push_expression-returns-in-Add-clause-code t c =
    let left = c.get.result.now in
    let right = c.get-in-Add.result.now in
    let is : c.args.expr.now ≡ Add c.in-Add.tok c.in-Add.pos left right = cc in
    let code = ap (expression_code c.args.depth) is ∙ code_of_add c.args.depth c.in-Add.tok c.in-Add.pos left right in
    on_ok_weaker c.push_call.result (λ e. e ∙ ap (λ (words : List Instr). c.args.code.now.items ++ map encoded words) (sym code)) c.push_call.ensures.code

pub push_expression-returns-in-Add-clause-sites : goal.push_expression-returns-in-Add-clause-sites
push_expression-returns-in-Add-clause-sites t c =
    let left = c.get.result.now in
    let right = c.get-in-Add.result.now in
    let start = length c.args.code.now.items in
    let is : c.args.expr.now ≡ Add c.in-Add.tok c.in-Add.pos left right = cc in
    let entries = ap (expression_entries start c.args.depth) is ∙ entries_of_add start c.args.depth c.in-Add.tok c.in-Add.pos left right in
    on_ok_weaker c.push_call.result (λ e. e ∙ ap (λ (es : List SiteEntry). c.args.sites.now.items ++ es) (sym entries)) c.push_call.ensures.sites

pub push_expression-push_call-requires-in-Sub : goal.push_expression-push_call-requires-in-Sub
push_expression-push_call-requires-in-Sub t c =
    let left = c.get-in-Sub.result.now in
    let right = c.get-in-Sub-2.result.now in
    let is : c.args.expr.now ≡ Sub c.in-Sub.tok c.in-Sub.pos left right = cc in
    let operands = operands_of_sub c.in-Sub.tok c.in-Sub.pos left right (subst HasOperands is c.requires.operands) in
    let deep : nesting_of c.args.expr.now ≡ max (nesting_of left) (nesting_of right) + 1 = ap nesting_of is ∙ nesting_of-Sub c.in-Sub.tok c.in-Sub.pos left right in
    let code = ap (expression_code c.args.depth) is ∙ code_of_sub c.args.depth c.in-Sub.tok c.in-Sub.pos left right in
    let at_left = le-max_left (nesting_of left) (nesting_of right) in
    let at_right = le-max_right (nesting_of left) (nesting_of right) in
    let nesting = c.requires.nesting in
    let fits = subst (λ (words : List Instr). length c.args.code.now.items + length words ≤ MOST_WORDS) code c.requires.fits in
    (omega (arith, deep, at_left, at_right, c.decreases), (operands.0, (operands.1, (omega (arith, deep, at_left, nesting), (omega (arith, deep, at_right, nesting), fits)))))

pub push_expression-returns-in-Sub-clause-code : goal.push_expression-returns-in-Sub-clause-code
push_expression-returns-in-Sub-clause-code t c =
    let left = c.get-in-Sub.result.now in
    let right = c.get-in-Sub-2.result.now in
    let is : c.args.expr.now ≡ Sub c.in-Sub.tok c.in-Sub.pos left right = cc in
    let code = ap (expression_code c.args.depth) is ∙ code_of_sub c.args.depth c.in-Sub.tok c.in-Sub.pos left right in
    on_ok_weaker c.push_call-in-Sub.result (λ e. e ∙ ap (λ (words : List Instr). c.args.code.now.items ++ map encoded words) (sym code)) c.push_call-in-Sub.ensures.code

pub push_expression-returns-in-Sub-clause-sites : goal.push_expression-returns-in-Sub-clause-sites
push_expression-returns-in-Sub-clause-sites t c =
    let left = c.get-in-Sub.result.now in
    let right = c.get-in-Sub-2.result.now in
    let start = length c.args.code.now.items in
    let is : c.args.expr.now ≡ Sub c.in-Sub.tok c.in-Sub.pos left right = cc in
    let entries = ap (expression_entries start c.args.depth) is ∙ entries_of_sub start c.args.depth c.in-Sub.tok c.in-Sub.pos left right in
    on_ok_weaker c.push_call-in-Sub.result (λ e. e ∙ ap (λ (es : List SiteEntry). c.args.sites.now.items ++ es) (sym entries)) c.push_call-in-Sub.ensures.sites
