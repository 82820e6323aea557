-- The integers in what is spelled are numbers of the tokens: where each of these has 32 bits, each integer that an
-- object starts with has. A part of the tree is asked only where its tokens count no number that has more.
use Rattle.std.proofs.Common.{◌≡◌, ℕ, suc, ◌+◌, ◌≤◌, List, [], ◌∷◌, ◌++◌, Bool, true, refl, sym, ap, ◌∙◌, inl, inr, arith}
use Rattle.std.specs.Prelude.{ℤ, if◌then◌else◌, Some, None}
use Rattle.std.specs.List.{list_all}
use Rattle.std.proofs.lemmas.Bool.{cases_Bool}
use Rattle.std.proofs.lemmas.List.Folds.{list_all-map}
use Rattle.sat_base.specs.declared.width.Width.TheVariants.{W32}
use Rattle.c_lexer.specs.declared.token.Token as lexed
use Rattle.c_tree.specs.declared.statement.Block.{Block, fold_out-Block}
use Rattle.c_tree.specs.declared.statement.Stmt.TheOpen as node
use Rattle.c_tree.specs.declared.statement.Stmt.{Stmt, fold-Stmt, map-Stmt, roll-Stmt, fold-roll-Stmt}
use Rattle.c_tree.specs.declared.statement.Stmt.TheVariants as stmt
use Rattle.c_tree.proofs.ExpressionBoxes.{Read-boxed, Unary-boxed, Binary-boxed, Cast-boxed, Choose-boxed}
use Rattle.c_grammar.specs.declared.symbol.Symbol.TheVariants.{CloseBrace, Comma, Semicolon}
use Rattle.c_grammar.specs.Grammar.{Rule}
use Rattle.c_grammar.specs.Grammar as rule
use Rattle.c_grammar.specs.Nodes.{Node}
use Rattle.c_grammar.specs.Nodes as a
use Rattle.c_grammar.specs.Parts.{Token, Any, Kept, Called, Valued, Is, Part, word, each, followed}
use Rattle.c_grammar.specs.Spots.{Spot, value_of, spots_from, spots_of}
use Rattle.lawful_sources.specs.Objects.{fits_width}
use Rattle.lawful_laws.proofs.Functions.{both, left, right}
use Rattle.lawful_objects.specs.Integers.{kind_fits, expression_fits, argument_fits, row_fits, initialiser_fits, declaration_fits, declarations_fit, itself, of_statement, of_block, block_fits, body_fits, item_fits}
use Rattle.lawful_texts.proofs.Walk.{Parts, ends, marks, stands, split, total, Within, walked}
use Rattle.lawful_typed.specs.Laws.{IntegersOfSourcesFit}
use Rattle.lawful_typed.specs.Numbers.{token_fits}

-- ---- numbers with more bits

unfoldable too_wide : ℤ → ℕ
too_wide value = if fits_width W32 value then 0 else 1

fits-where : (value : ℤ) → too_wide value ≡ 0 → fits_width W32 value ≡ true
unfolding too_wide
fits-where value z =
    elim (cases_Bool (fits_width W32 value)) [
      | inl fits ↦ fits
      | inr wide ↦ let one : too_wide value ≡ 1 = rw wide refl in absurd (omega arith)
    ]

none-where : (value : ℤ) → fits_width W32 value ≡ true → too_wide value ≡ 0
unfolding too_wide
none-where value p = rw p refl

abbrev own : Token → ℕ
own (Any s) = 0
own (Kept s at) = 0
own (Called name) = 0
own (Valued at value) = too_wide value

abbrev wide_at : Spot → ℕ
wide_at x = too_wide x.value

room-is : (t : Token) (x : Spot) → Is t x → own t ≤ wide_at x
room-is (Any s) x is = omega arith
room-is (Kept s at) x is = omega arith
room-is (Called name) x is = omega arith
room-is (Valued at value) x is = rw is.2 (omega arith)

none-wide : (text : List ℕ) (n : ℕ) (list : List lexed.Token) → list_all token_fits list ≡ true → total wide_at (spots_from text n list) ≡ 0
none-wide text n [] p = refl
none-wide text n (t ∷ list) p =
    omega (arith, none-where (value_of t.kind) (left (token_fits t) _ p), none-wide text (suc n) list (right (token_fits t) _ p))

-- ---- what is claimed

abbrev statement_fits : Stmt → Bool
statement_fits = fold-Stmt Bool Bool of_statement of_block

abbrev fits : Node → Bool
fits (a.item x) = item_fits x
fits (a.objects o) = declarations_fit o
fits (a.declarator is_static is_const width d) = declaration_fits d
fits (a.start i) = initialiser_fits i
fits (a.view_start i) = initialiser_fits i
fits (a.row r) = row_fits r
fits (a.values vs) = list_all expression_fits vs
fits (a.function f) = body_fits f.body
fits (a.body b) = body_fits b
fits (a.block b) = block_fits b
fits (a.stmt s) = statement_fits s
fits (a.arg x) = argument_fits x
fits (a.expr e) = expression_fits e
fits (a.chain n e) = expression_fits e
fits (a.unary e) = expression_fits e
fits n = true

abbrev Claim : Node → ℕ → Type 0
Claim n k = k ≡ 0 → fits n ≡ true

abbrev All : List Part → ℕ → Type 0
All ps k = Parts Claim own ps k

each-fits : {A : Type 0} (of : A → Node) (xs : List A) {k : ℕ} → All (each of xs) k → k ≡ 0 → list_all (λ x. fits (of x)) xs ≡ true
each-fits of [] ends z = refl
each-fits of (x ∷ xs) (stands one rest) z = both _ _ (one (omega arith)) (each-fits of xs rest (omega arith))

followed-fits : {A : Type 0} (of : A → Node) (xs : List A) {k : ℕ} → All (followed of xs) k → k ≡ 0 → list_all (λ x. fits (of x)) xs ≡ true
followed-fits of [] ends z = refl
followed-fits of (x ∷ xs) (marks (stands one rest)) z = both _ _ (one (omega arith)) (followed-fits of xs rest (omega arith))

-- ---- statements

rolled : (s : Stmt) (y : node.Stmt-F Stmt Block) → s ≡ roll-Stmt y → of_statement (map-Stmt Stmt Block Bool Bool statement_fits block_fits y) ≡ true → statement_fits s ≡ true
rolled s y is p = ap statement_fits is ∙ fold-roll-Stmt Bool Bool of_statement of_block y ∙ p

block-fits : (b : Block) → list_all declarations_fit b.objects ≡ true → list_all statement_fits b.stmts ≡ true → block_fits b ≡ true
unfolding of_block
block-fits b p q =
    fold_out-Block Bool Bool of_statement of_block b ∙ both (list_all declarations_fit b.objects) _ p (list_all-map itself statement_fits b.stmts ∙ q)

-- ---- the rules

by_rule : {n : Node} {early late : List Part} {i j : ℕ} → Rule n early late → All early i → All late j → Claim n (i + j)
unfolding of_statement
-- items and objects
by_rule (rule.extern_flag e) all ends = rw e (λ z. refl)
by_rule (rule.extern_int e) all ends = rw e (λ z. refl)
by_rule (rule.item_objects e) (stands o ends) ends = rw e (λ z. o (omega arith))
by_rule (rule.item_function e) (stands f ends) ends = rw e (λ z. f (omega arith))
by_rule (rule.objects {is_static = is_static} {is_const = is_const} {width = width} {ds = ds} e) (stands specifiers (stands one rest)) ends =
    let line = split Claim own (followed (a.declarator is_static is_const width) ds) (word Semicolon ∷ []) rest in
    rw e (λ z. both _ _ (one (omega arith)) (followed-fits (a.declarator is_static is_const width) ds line.earlier (omega (arith, line.room))))
by_rule (rule.view e) (marks (marks (stands s ends))) ends = rw e (λ z. s (omega arith))
by_rule (rule.object e) (marks (stands brackets (stands s ends))) ends = rw e (λ z. s (omega arith))
-- initialisers
by_rule rule.view_one (marks (stands x ends)) ends = λ z. x (omega arith)
by_rule rule.one (marks (stands x ends)) ends = λ z. x (omega arith)
by_rule rule.flat (marks (marks (stands v (marks ends)))) ends = λ z. v (omega arith)
by_rule (rule.rows {rows = rows}) (marks (marks (stands one rest))) ends =
    let more = split Claim own (followed a.row rows) (word CloseBrace ∷ []) rest in
    λ z. both _ _ (one (omega arith)) (followed-fits a.row rows more.earlier (omega (arith, more.room)))
by_rule (rule.rows_and_comma {rows = rows}) (marks (marks (stands one rest))) ends =
    let more = split Claim own (followed a.row rows) (word Comma ∷ word CloseBrace ∷ []) rest in
    λ z. both _ _ (one (omega arith)) (followed-fits a.row rows more.earlier (omega (arith, more.room)))
by_rule rule.row (marks (stands v (marks ends))) ends = λ z. v (omega arith)
by_rule (rule.values {values = values}) (stands one rest) ends = λ z. both _ _ (one (omega arith)) (followed-fits a.expr values rest (omega arith))
by_rule (rule.values_and_comma {values = values}) (stands one rest) ends =
    let more = split Claim own (followed a.expr values) (word Comma ∷ []) rest in
    λ z. both _ _ (one (omega arith)) (followed-fits a.expr values more.earlier (omega (arith, more.room)))
-- functions
by_rule (rule.function e) (stands given (marks (marks (stands params (marks (stands b ends)))))) ends = rw e (λ z. b (omega arith))
by_rule rule.defined (stands b ends) ends = λ z. b (omega arith)
-- statements
by_rule (rule.block {b = b}) (marks rest) ends =
    let whole = split Claim own (each a.objects b.objects ++ each a.stmt b.stmts) (word CloseBrace ∷ []) rest in
    let inner = split Claim own (each a.objects b.objects) (each a.stmt b.stmts) whole.earlier in
    λ z. block-fits b (each-fits a.objects b.objects inner.earlier (omega (arith, whole.room, inner.room))) (each-fits a.stmt b.stmts inner.later (omega (arith, whole.room, inner.room)))
by_rule (rule.empty {at = at} e) ends all = λ z. rolled _ (node.Empty at) (e ∙ sym (stmt.rolls-Empty at)) refl
by_rule (rule.block_stmt {block = block} e) ends (stands b ends) = λ z. rolled _ (node.Block block) (e ∙ sym (stmt.rolls-Block block)) (b (omega arith))
by_rule (rule.simple_stmt {simple = simple} e) ends all = λ z. rolled _ (node.Simple simple) (e ∙ sym (stmt.rolls-Simple simple)) refl
by_rule (rule.if_ {at = at} {cond = cond} {branch = branch} e) ends (marks (marks (stands c (marks (stands b ends))))) =
    λ z. rolled _ (node.If at cond branch None) (e ∙ sym (stmt.rolls-If at cond branch None)) (both _ true (b (omega arith)) refl)
by_rule (rule.if_else {at = at} {cond = cond} {branch = branch} {other = other} e closed) ends (marks (marks (stands c (marks (stands b (marks (stands o ends))))))) =
    λ z. rolled _ (node.If at cond branch (Some other)) (e ∙ sym (stmt.rolls-If at cond branch (Some other))) (both _ _ (b (omega arith)) (o (omega arith)))
by_rule (rule.while_ {at = at} {cond = cond} {body = body} e) ends (marks (marks (stands c (marks (stands b ends))))) =
    λ z. rolled _ (node.While at cond body) (e ∙ sym (stmt.rolls-While at cond body)) (b (omega arith))
by_rule (rule.do_ {at = at} {body = body} {cond = cond} e) ends (marks (stands b (marks (marks (stands c (marks (marks ends))))))) =
    λ z. rolled _ (node.Do at body cond) (e ∙ sym (stmt.rolls-Do at body cond)) (b (omega arith))
by_rule (rule.for_ {at = at} {first = first} {last = last} {cond = cond} {body = body} e) ends (marks (marks (stands f (marks (stands c (marks (stands l (marks (stands b ends))))))))) =
    λ z. rolled _ (node.For at first cond last body) (e ∙ sym (stmt.rolls-For at first cond last body)) (b (omega arith))
by_rule (rule.break {at = at} e) ends all = λ z. rolled _ (node.Break at) (e ∙ sym (stmt.rolls-Break at)) refl
by_rule (rule.continue {at = at} e) ends all = λ z. rolled _ (node.Continue at) (e ∙ sym (stmt.rolls-Continue at)) refl
by_rule (rule.return {at = at} {value = value} e) ends all = λ z. rolled _ (node.Return at value) (e ∙ sym (stmt.rolls-Return at value)) refl
-- arguments
by_rule (rule.address e) all ends = rw e (λ z. refl)
by_rule (rule.value e) (stands x ends) ends = rw e (λ z. x (omega arith))
-- expressions
by_rule rule.plain_expr (stands x ends) ends = λ z. x (omega arith)
by_rule (rule.choose {cond = cond} {one = one} {other = other} e) all rest = rw e (λ z. ap kind_fits (Choose-boxed cond one other))
by_rule rule.operand (stands x ends) ends = λ z. x (omega arith)
by_rule (rule.binary {left = first} {right = second} {mark = mark} {mark_at = mark_at} rank e) (stands x ends) (marks (stands y ends)) =
    rw e (λ z. ap kind_fits (Binary-boxed mark mark_at first second) ∙ both _ _ (x (omega arith)) (y (omega arith)))
by_rule rule.no_chain (stands x ends) ends = λ z. x (omega arith)
by_rule (rule.unary {part = part} {mark = mark} {mark_at = mark_at} e) ends (marks (stands x ends)) = rw e (λ z. ap kind_fits (Unary-boxed mark mark_at part) ∙ x (omega arith))
by_rule (rule.cast {part = part} {width = width} e) ends (marks (stands type (marks (stands x ends)))) = rw e (λ z. ap kind_fits (Cast-boxed width part) ∙ x (omega arith))
by_rule (rule.brackets e) ends (marks (stands x (marks ends))) = rw e (λ z. x (omega arith))
by_rule (rule.number {value = value} e) ends (marks ends) = rw e (λ z. fits-where value (omega arith))
by_rule (rule.read_overflow e) ends all = rw e (λ z. refl)
by_rule (rule.call_value e) ends all = rw e (λ z. refl)
by_rule (rule.read {p = p} e) ends all = rw e (λ z. ap kind_fits (Read-boxed p))
-- nothing is asked of every other part
by_rule other all more = λ z. refl

-- ---- the whole source

pub integers-fit : IntegersOfSourcesFit
integers-fit program tokens spells numbers =
    let w : Within Claim own (each a.item program.items) (total wide_at (spots_of tokens)) = walked Claim own wide_at room-is (λ n early late i j r p q. by_rule r p q) spells.items.spelled in
    each-fits a.item program.items w.all (omega (arith, w.within, none-wide tokens.text 0 tokens.list numbers))
