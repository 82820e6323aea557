-- By which rule a statement is spelled, by the symbol that it begins with.
use Rattle.std.proofs.Common.{◌≡◌, ℕ, Bool, true, false, List, [], ◌∷◌, ◌++◌, Option, refl, ap, subst, ◌∙◌, sym}
use Rattle.sat_base.specs.declared.name.At.{At}
use Rattle.c_tree.specs.declared.expression.Expr.{Expr}
use Rattle.c_tree.specs.declared.simple.Simple.{Simple}
use Rattle.c_tree.specs.declared.statement.Block.{Block}
use Rattle.c_tree.specs.declared.statement.Stmt.{Stmt}
use Rattle.c_tree.specs.declared.statement.Stmt.TheVariants as stmt
use Rattle.c_grammar.specs.declared.symbol.Symbol.{Symbol}
use Rattle.c_grammar.specs.declared.symbol.Symbol.TheVariants as symbol
use Rattle.c_grammar.specs.Grammar.{ends_open}
use Rattle.c_grammar.specs.Grammar as rule
use Rattle.c_grammar.specs.Nodes as a
use Rattle.c_grammar.specs.Parts.{Part, node, word, kept}
use Rattle.c_grammar.specs.Spelling.{Spells}
use Rattle.c_grammar.specs.Spots.{Spot}
use Rattle.right_reading.specs.Stream.{ahead}
use Rattle.c_grammar.specs.Symbols.{same_symbol}
use Rattle.right_reading.proofs.Ahead.Begins.{starts, spells_starts, begins_block}
use Rattle.right_reading.specs.Right.{first, always}
use Rattle.right_reading.proofs.Composed.Rules.{Choice, no_parts}
use Rattle.c_grammar.proofs.Sequences.{from_nothing}
use Rattle.statement_reading.proofs.Statements.StatementStops.{stops_statement, stops_alike, open-While, open-For}
use Rattle.c_grammar.proofs.SymbolNumbers.{same-is}
use Rattle.right_reading.proofs.OneToken.Tokens.{ahead-same}
use Rattle.c_grammar.proofs.SymbolSets.{apart}

-- what a rule with nothing early begins with
pub begins_late : (late : List Part) (t : Symbol) (c1 c2 : ℕ) (u1 u2 s r i : List Spot) → Spells [] c1 u1 → Spells late c2 u2 → (u1 ++ u2) ++ s ≡ r → first r ≡ first i → ahead i ≡ t → starts late t ≡ true
begins_late late t c1 c2 u1 u2 s r i none sp e h is =
    let k : ahead (u2 ++ s) ≡ t = sym (ap (λ (w : List Spot). ahead ((w ++ u2) ++ s)) (from_nothing none).tokens) ∙ ap ahead e ∙ ahead-same r i h ∙ is in
    subst (λ (x : Symbol). starts late x ≡ true) k (spells_starts s sp)

differ : false ≡ true → ⊥
differ e = cc

-- ---- `;`

abbrev pub empty_parts : At → List Part
empty_parts at = kept symbol.Semicolon at ∷ []

pub empty_choice : (i : List Spot) → ahead i ≡ symbol.Semicolon → Choice a.stmt no_parts empty_parts (always {A = At}) stops_statement [] i stmt.Empty
empty_choice i is x early late c1 c2 u1 u2 s r (rule.empty {at = at} same) before behind st e h = record { a = at; same = same; is_early = refl; is_late = refl; stops = refl }
empty_choice i is x early late c1 c2 u1 u2 s r _ before behind st e h = absurd (differ (begins_late late symbol.Semicolon c1 c2 u1 u2 s r i before behind e h is))

-- ---- blocks

abbrev pub block_stmt_parts : Block → List Part
block_stmt_parts b = node (a.block b) ∷ []

pub block_stmt_choice : (i : List Spot) → ahead i ≡ symbol.OpenBrace → Choice a.stmt no_parts block_stmt_parts (always {A = Block}) stops_statement [] i stmt.Block
block_stmt_choice i is x early late c1 c2 u1 u2 s r (rule.block_stmt {block = block} same) before behind st e h = record { a = block; same = same; is_early = refl; is_late = refl; stops = refl }
block_stmt_choice i is x early late c1 c2 u1 u2 s r _ before behind st e h = absurd (differ (begins_late late symbol.OpenBrace c1 c2 u1 u2 s r i before behind e h is))

-- ---- loops

abbrev pub while_parts : At × (Expr × Stmt) → List Part
while_parts z = kept symbol.While z.0 ∷ word symbol.OpenParen ∷ node (a.expr z.1.0) ∷ word symbol.CloseParen ∷ node (a.stmt z.1.1) ∷ []

abbrev pub while_of : At × (Expr × Stmt) → Stmt
while_of z = stmt.While z.0 z.1.0 z.1.1

abbrev pub stops_while : At × (Expr × Stmt) → Symbol → Bool
stops_while z s = stops_statement z.1.1 s

pub while_choice : (i : List Spot) → ahead i ≡ symbol.While → Choice a.stmt no_parts while_parts stops_while stops_statement [] i while_of
while_choice i is x early late c1 c2 u1 u2 s r (rule.while_ {at = at} {cond = cond} {body = body} same) before behind st e h =
    record { a = (at, (cond, body)); same = same; is_early = refl; is_late = refl; stops = stops_alike body x (ahead s) (sym (ap ends_open same ∙ open-While at cond body)) st }
while_choice i is x early late c1 c2 u1 u2 s r _ before behind st e h = absurd (differ (begins_late late symbol.While c1 c2 u1 u2 s r i before behind e h is))

abbrev pub do_parts : At × (Stmt × Expr) → List Part
do_parts z = kept symbol.Do z.0 ∷ node (a.stmt z.1.0) ∷ word symbol.While ∷ word symbol.OpenParen ∷ node (a.expr z.1.1) ∷ word symbol.CloseParen ∷ word symbol.Semicolon ∷ []

abbrev pub do_of : At × (Stmt × Expr) → Stmt
do_of z = stmt.Do z.0 z.1.0 z.1.1

pub do_choice : (i : List Spot) → ahead i ≡ symbol.Do → Choice a.stmt no_parts do_parts (always {A = At × (Stmt × Expr)}) stops_statement [] i do_of
do_choice i is x early late c1 c2 u1 u2 s r (rule.do_ {at = at} {body = body} {cond = cond} same) before behind st e h =
    record { a = (at, (body, cond)); same = same; is_early = refl; is_late = refl; stops = refl }
do_choice i is x early late c1 c2 u1 u2 s r _ before behind st e h = absurd (differ (begins_late late symbol.Do c1 c2 u1 u2 s r i before behind e h is))

-- what `for` is put together from
abbrev pub Turns : Type 0
Turns = List Simple × (Option Expr × (List Simple × Stmt))

abbrev pub for_parts : At × Turns → List Part
for_parts z =
    kept symbol.For z.0 ∷ word symbol.OpenParen ∷ node (a.simples z.1.0) ∷ word symbol.Semicolon ∷ node (a.maybe_expr z.1.1.0) ∷ word symbol.Semicolon ∷ node (a.simples z.1.1.1.0) ∷ word symbol.CloseParen ∷ node (a.stmt z.1.1.1.1) ∷ []

abbrev pub for_of : At × Turns → Stmt
for_of z = stmt.For z.0 z.1.0 z.1.1.0 z.1.1.1.0 z.1.1.1.1

abbrev pub stops_for : At × Turns → Symbol → Bool
stops_for z s = stops_statement z.1.1.1.1 s

pub for_choice : (i : List Spot) → ahead i ≡ symbol.For → Choice a.stmt no_parts for_parts stops_for stops_statement [] i for_of
for_choice i is x early late c1 c2 u1 u2 s r (rule.for_ {at = at} {first = begin} {last = last} {cond = cond} {body = body} same) before behind st e h =
    record { a = (at, (begin, (cond, (last, body)))); same = same; is_early = refl; is_late = refl; stops = stops_alike body x (ahead s) (sym (ap ends_open same ∙ open-For at begin cond last body)) st }
for_choice i is x early late c1 c2 u1 u2 s r _ before behind st e h = absurd (differ (begins_late late symbol.For c1 c2 u1 u2 s r i before behind e h is))

-- ---- jumps

abbrev pub break_parts : At → List Part
break_parts at = kept symbol.Break at ∷ word symbol.Semicolon ∷ []

pub break_choice : (i : List Spot) → ahead i ≡ symbol.Break → Choice a.stmt no_parts break_parts (always {A = At}) stops_statement [] i stmt.Break
break_choice i is x early late c1 c2 u1 u2 s r (rule.break {at = at} same) before behind st e h = record { a = at; same = same; is_early = refl; is_late = refl; stops = refl }
break_choice i is x early late c1 c2 u1 u2 s r _ before behind st e h = absurd (differ (begins_late late symbol.Break c1 c2 u1 u2 s r i before behind e h is))

abbrev pub continue_parts : At → List Part
continue_parts at = kept symbol.Continue at ∷ word symbol.Semicolon ∷ []

pub continue_choice : (i : List Spot) → ahead i ≡ symbol.Continue → Choice a.stmt no_parts continue_parts (always {A = At}) stops_statement [] i stmt.Continue
continue_choice i is x early late c1 c2 u1 u2 s r (rule.continue {at = at} same) before behind st e h = record { a = at; same = same; is_early = refl; is_late = refl; stops = refl }
continue_choice i is x early late c1 c2 u1 u2 s r _ before behind st e h = absurd (differ (begins_late late symbol.Continue c1 c2 u1 u2 s r i before behind e h is))

abbrev pub return_parts : At × Option Expr → List Part
return_parts z = kept symbol.Return z.0 ∷ node (a.maybe_expr z.1) ∷ word symbol.Semicolon ∷ []

abbrev pub return_of : At × Option Expr → Stmt
return_of z = stmt.Return z.0 z.1

pub return_choice : (i : List Spot) → ahead i ≡ symbol.Return → Choice a.stmt no_parts return_parts (always {A = At × Option Expr}) stops_statement [] i return_of
return_choice i is x early late c1 c2 u1 u2 s r (rule.return {at = at} {value = value} same) before behind st e h = record { a = (at, value); same = same; is_early = refl; is_late = refl; stops = refl }
return_choice i is x early late c1 c2 u1 u2 s r _ before behind st e h = absurd (differ (begins_late late symbol.Return c1 c2 u1 u2 s r i before behind e h is))

-- ---- assignments, steps and calls

-- no symbol that another statement begins with
abbrev pub other_statement : Symbol → Bool
other_statement symbol.Semicolon = false
other_statement symbol.OpenBrace = false
other_statement symbol.If = false
other_statement symbol.While = false
other_statement symbol.Do = false
other_statement symbol.For = false
other_statement symbol.Break = false
other_statement symbol.Continue = false
other_statement symbol.Return = false
other_statement _ = true

other_is : (s t : Symbol) → other_statement s ≡ true → same_symbol s t ≡ true → other_statement t ≡ true
other_is s t h e = subst (λ (x : Symbol). other_statement x ≡ true) (same-is s t e) h

other_no_block : (s : Symbol) → other_statement s ≡ true → begins_block s ≡ true → ⊥
other_no_block = apart other_statement begins_block refl

abbrev pub simple_stmt_parts : Simple → List Part
simple_stmt_parts x = node (a.simple x) ∷ word symbol.Semicolon ∷ []

pub simple_stmt_choice : (i : List Spot) → other_statement (ahead i) ≡ true → Choice a.stmt no_parts simple_stmt_parts (always {A = Simple}) stops_statement [] i stmt.Simple
simple_stmt_choice i other x early late c1 c2 u1 u2 s r (rule.simple_stmt {simple = simple} same) before behind st e h =
    record { a = simple; same = same; is_early = refl; is_late = refl; stops = refl }
simple_stmt_choice i other x early late c1 c2 u1 u2 s r (rule.block_stmt same) before behind st e h = absurd (other_no_block (ahead i) other (begins_late late (ahead i) c1 c2 u1 u2 s r i before behind e h refl))
simple_stmt_choice i other x early late c1 c2 u1 u2 s r (rule.empty same) before behind st e h =
    let k = other_is (ahead i) symbol.Semicolon other (begins_late late (ahead i) c1 c2 u1 u2 s r i before behind e h refl) in absurd (cc)
simple_stmt_choice i other x early late c1 c2 u1 u2 s r (rule.if_ same) before behind st e h =
    let k = other_is (ahead i) symbol.If other (begins_late late (ahead i) c1 c2 u1 u2 s r i before behind e h refl) in absurd (cc)
simple_stmt_choice i other x early late c1 c2 u1 u2 s r (rule.if_else same closed) before behind st e h =
    let k = other_is (ahead i) symbol.If other (begins_late late (ahead i) c1 c2 u1 u2 s r i before behind e h refl) in absurd (cc)
simple_stmt_choice i other x early late c1 c2 u1 u2 s r (rule.while_ same) before behind st e h =
    let k = other_is (ahead i) symbol.While other (begins_late late (ahead i) c1 c2 u1 u2 s r i before behind e h refl) in absurd (cc)
simple_stmt_choice i other x early late c1 c2 u1 u2 s r (rule.do_ same) before behind st e h =
    let k = other_is (ahead i) symbol.Do other (begins_late late (ahead i) c1 c2 u1 u2 s r i before behind e h refl) in absurd (cc)
simple_stmt_choice i other x early late c1 c2 u1 u2 s r (rule.for_ same) before behind st e h =
    let k = other_is (ahead i) symbol.For other (begins_late late (ahead i) c1 c2 u1 u2 s r i before behind e h refl) in absurd (cc)
simple_stmt_choice i other x early late c1 c2 u1 u2 s r (rule.break same) before behind st e h =
    let k = other_is (ahead i) symbol.Break other (begins_late late (ahead i) c1 c2 u1 u2 s r i before behind e h refl) in absurd (cc)
simple_stmt_choice i other x early late c1 c2 u1 u2 s r (rule.continue same) before behind st e h =
    let k = other_is (ahead i) symbol.Continue other (begins_late late (ahead i) c1 c2 u1 u2 s r i before behind e h refl) in absurd (cc)
simple_stmt_choice i other x early late c1 c2 u1 u2 s r (rule.return same) before behind st e h =
    let k = other_is (ahead i) symbol.Return other (begins_late late (ahead i) c1 c2 u1 u2 s r i before behind e h refl) in absurd (cc)
