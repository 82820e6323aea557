-- With which symbols the parts of the tree begin.
use Rattle.std.proofs.Common.{◌≡◌, ℕ, Bool, true, false, List, [], ◌∷◌, ◌++◌, refl, ap, subst, ◌∙◌, sym}
use Rattle.std.proofs.lemmas.List.{append_assoc}
use Rattle.std.specs.Prelude.{◌||◌}
use Rattle.c_tree.specs.declared.declaration.Dim.{Dim}
use Rattle.c_tree.specs.declared.declaration.Row.{Row}
use Rattle.c_tree.specs.declared.expression.UnaryMark.{UnaryMark}
use Rattle.c_tree.specs.declared.expression.UnaryMark.TheVariants as unaries
use Rattle.c_tree.specs.declared.statement.Block.{Block}
use Rattle.c_grammar.specs.declared.symbol.Symbol.{Symbol}
use Rattle.c_grammar.specs.declared.symbol.Symbol.TheVariants as symbol
use Rattle.c_grammar.specs.Grammar.{Rule}
use Rattle.c_grammar.specs.Grammar as rule
use Rattle.c_grammar.specs.Marks.{unary_symbol, step_symbol}
use Rattle.c_grammar.specs.Nodes.{Node}
use Rattle.c_grammar.specs.Nodes as a
use Rattle.c_grammar.specs.Parts.{Part, token, node}
use Rattle.c_grammar.specs.Spelling.{Spells}
use Rattle.c_grammar.specs.Spelling as spelling
use Rattle.c_grammar.specs.Spots.{Spot}
use Rattle.right_reading.specs.Stream.{ahead}
use Rattle.c_grammar.specs.Symbols.{same_symbol, begins_type, begins_objects, begins_expression, begins_statement}
use Rattle.right_reading.proofs.Composed.Rules.{symbol_of_token, is-symbol}
use Rattle.c_grammar.proofs.Sequences.{from_nothing}
use Rattle.c_grammar.proofs.SymbolNumbers.{same-is, same-self}
use Rattle.c_grammar.proofs.SymbolSets.{among}

abbrev pub begins_name : Symbol → Bool
begins_name s = same_symbol s symbol.Name

abbrev pub begins_place : Symbol → Bool
begins_place s = same_symbol s symbol.Name || same_symbol s symbol.Star

abbrev pub begins_block : Symbol → Bool
begins_block s = same_symbol s symbol.OpenBrace

abbrev pub begins_simple : Symbol → Bool
begins_simple symbol.Name = true
begins_simple symbol.Star = true
begins_simple symbol.PlusPlus = true
begins_simple symbol.MinusMinus = true
begins_simple symbol.Overflow = true
begins_simple _ = false

abbrev pub begins_declarator : Symbol → Bool
begins_declarator symbol.Star = true
begins_declarator symbol.Name = true
begins_declarator _ = false

abbrev pub begins_param : Symbol → Bool
begins_param symbol.Const = true
begins_param s = begins_type s

abbrev begins_result : Symbol → Bool
begins_result symbol.Void = true
begins_result s = begins_type s

abbrev pub begins_function : Symbol → Bool
begins_function symbol.Static = true
begins_function s = begins_result s

abbrev pub begins_item : Symbol → Bool
begins_item symbol.Extern = true
begins_item symbol.Const = true
begins_item s = begins_function s

-- the symbols that a part of the tree may begin with; of others than these nothing is said
abbrev pub begins : Node → Symbol → Bool
begins (a.item i) s = begins_item s
begins (a.objects o) s = begins_objects s
begins (a.specifiers at is_static is_const width) s = begins_objects s
begins (a.type_ at width) s = begins_type s
begins (a.declarator is_static is_const width d) s = begins_declarator s
begins (a.dimension d) s = same_symbol s symbol.OpenBracket
begins (a.row r) s = same_symbol s symbol.OpenBrace
begins (a.values vs) s = begins_expression s
begins (a.function f) s = begins_function s
begins (a.given at is_static gives) s = begins_function s
begins (a.result at gives) s = begins_result s
begins (a.param p) s = begins_param s
begins (a.param_type at type_at is_const width) s = begins_param s
begins (a.block b) s = begins_block s
begins (a.stmt x) s = begins_statement s
begins (a.simple x) s = begins_simple s
begins (a.place p) s = begins_place s
begins (a.named p) s = begins_name s
begins (a.call c) s = begins_name s
begins (a.arg x) s = same_symbol s symbol.And || begins_expression s
begins (a.expr e) s = begins_expression s
begins (a.chain n e) s = begins_expression s
begins (a.unary e) s = begins_expression s
begins _ s = true

-- those that a list of parts may begin with
abbrev pub starts : List Part → Symbol → Bool
starts [] s = true
starts (token t ∷ ps) s = same_symbol s (symbol_of_token t)
starts (node n ∷ ps) s = begins n s

to : (P : Symbol → Bool) (s t : Symbol) → same_symbol s t ≡ true → P t ≡ true → P s ≡ true
to P s t e p = subst (λ (x : Symbol). P x ≡ true) (sym (same-is s t e)) p

-- ---- which are among which

type_objects : (s : Symbol) → begins_type s ≡ true → begins_objects s ≡ true
type_objects = among begins_type begins_objects refl

type_param : (s : Symbol) → begins_type s ≡ true → begins_param s ≡ true
type_param = among begins_type begins_param refl

type_result : (s : Symbol) → begins_type s ≡ true → begins_result s ≡ true
type_result = among begins_type begins_result refl

result_function : (s : Symbol) → begins_result s ≡ true → begins_function s ≡ true
result_function = among begins_result begins_function refl

function_item : (s : Symbol) → begins_function s ≡ true → begins_item s ≡ true
function_item = among begins_function begins_item refl

objects_item : (s : Symbol) → begins_objects s ≡ true → begins_item s ≡ true
objects_item = among begins_objects begins_item refl

expression_argument : (s : Symbol) → begins_expression s ≡ true → (same_symbol s symbol.And || begins_expression s) ≡ true
expression_argument = among begins_expression (λ (s : Symbol). (same_symbol s symbol.And || begins_expression s)) refl

block_statement : (s : Symbol) → begins_block s ≡ true → begins_statement s ≡ true
block_statement = among begins_block begins_statement refl

simple_statement : (s : Symbol) → begins_simple s ≡ true → begins_statement s ≡ true
simple_statement = among begins_simple begins_statement refl

place_simple : (s : Symbol) → begins_place s ≡ true → begins_simple s ≡ true
place_simple = among begins_place begins_simple refl

name_simple : (s : Symbol) → begins_name s ≡ true → begins_simple s ≡ true
name_simple = among begins_name begins_simple refl

name_place : (s : Symbol) → begins_name s ≡ true → begins_place s ≡ true
name_place = among begins_name begins_place refl

name_expression : (s : Symbol) → begins_name s ≡ true → begins_expression s ≡ true
name_expression = among begins_name begins_expression refl

place_expression : (s : Symbol) → begins_place s ≡ true → begins_expression s ≡ true
place_expression = among begins_place begins_expression refl

unary_expression : (mark : UnaryMark) → begins_expression (unary_symbol mark) ≡ true
unary_expression unaries.Minus = refl
unary_expression unaries.Plus = refl
unary_expression unaries.Not = refl
unary_expression unaries.Invert = refl

step_simple : (up : Bool) → begins_simple (step_symbol up) ≡ true
step_simple true = refl
step_simple false = refl

-- ---- the rules

rule_begins : {n : Node} {early late : List Part} (s : Symbol) → Rule n early late → starts (early ++ late) s ≡ true → begins n s ≡ true
rule_begins s (rule.extern_flag is) h = to begins_item s symbol.Extern h refl
rule_begins s (rule.extern_int is) h = to begins_item s symbol.Extern h refl
rule_begins s (rule.item_objects is) h = objects_item s h
rule_begins s (rule.item_function is) h = function_item s h
rule_begins s (rule.objects is) h = h
rule_begins s rule.no_qualifier h = type_objects s h
rule_begins s rule.static h = to begins_objects s symbol.Static h refl
rule_begins s rule.const h = to begins_objects s symbol.Const h refl
rule_begins s rule.static_const h = to begins_objects s symbol.Static h refl
rule_begins s rule.const_static h = to begins_objects s symbol.Const h refl
rule_begins s rule.word16 h = to begins_type s symbol.Word16 h refl
rule_begins s rule.short h = to begins_type s symbol.Short h refl
rule_begins s rule.short_int h = to begins_type s symbol.Short h refl
rule_begins s rule.word32 h = to begins_type s symbol.Word32 h refl
rule_begins s rule.flag h = to begins_type s symbol.Flag h refl
rule_begins s rule.int h = to begins_type s symbol.IntWord h refl
rule_begins s rule.long h = to begins_type s symbol.Long h refl
rule_begins s rule.long_int h = to begins_type s symbol.Long h refl
rule_begins s (rule.view is) h = to begins_declarator s symbol.Star h refl
rule_begins s (rule.object is) h = to begins_declarator s symbol.Name h refl
rule_begins s rule.dimension h = h
rule_begins s rule.row h = h
rule_begins s rule.values h = h
rule_begins s rule.values_and_comma h = h
rule_begins s (rule.function is) h = h
rule_begins s rule.given h = result_function s h
rule_begins s rule.given_static h = to begins_function s symbol.Static h refl
rule_begins s rule.result_type h = type_result s h
rule_begins s rule.result_void h = to begins_result s symbol.Void h refl
rule_begins s (rule.number_param is) h = h
rule_begins s (rule.view_param is) h = h
rule_begins s (rule.array_param is) h = h
rule_begins s rule.param_type h = type_param s h
rule_begins s rule.const_param_type h = to begins_param s symbol.Const h refl
rule_begins s rule.block h = h
rule_begins s (rule.empty is) h = to begins_statement s symbol.Semicolon h refl
rule_begins s (rule.block_stmt is) h = block_statement s h
rule_begins s (rule.simple_stmt is) h = simple_statement s h
rule_begins s (rule.if_ is) h = to begins_statement s symbol.If h refl
rule_begins s (rule.if_else is closed) h = to begins_statement s symbol.If h refl
rule_begins s (rule.while_ is) h = to begins_statement s symbol.While h refl
rule_begins s (rule.do_ is) h = to begins_statement s symbol.Do h refl
rule_begins s (rule.for_ is) h = to begins_statement s symbol.For h refl
rule_begins s (rule.break is) h = to begins_statement s symbol.Break h refl
rule_begins s (rule.continue is) h = to begins_statement s symbol.Continue h refl
rule_begins s (rule.return is) h = to begins_statement s symbol.Return h refl
rule_begins s (rule.assign is) h = place_simple s h
rule_begins s (rule.step_after is) h = name_simple s h
rule_begins s (rule.step_before {up = up} is) h = to begins_simple s (step_symbol up) h (step_simple up)
rule_begins s (rule.set_overflow is) h = to begins_simple s symbol.Overflow h refl
rule_begins s (rule.simple_call is) h = name_simple s h
rule_begins s rule.place_named h = name_place s h
rule_begins s (rule.deref is) h = to begins_place s symbol.Star h refl
rule_begins s (rule.plain is) h = h
rule_begins s (rule.index is) h = h
rule_begins s (rule.index2 is) h = h
rule_begins s (rule.call is) h = h
rule_begins s (rule.address is) h = to (λ (t : Symbol). same_symbol t symbol.And || begins_expression t) s symbol.And h refl
rule_begins s (rule.value is) h = expression_argument s h
rule_begins s rule.plain_expr h = h
rule_begins s (rule.choose is) h = h
rule_begins s rule.operand h = h
rule_begins s (rule.binary rank is) h = h
rule_begins s rule.no_chain h = h
rule_begins s (rule.unary {mark = mark} is) h = to begins_expression s (unary_symbol mark) h (unary_expression mark)
rule_begins s (rule.cast is) h = to begins_expression s symbol.OpenParen h refl
rule_begins s (rule.brackets is) h = to begins_expression s symbol.OpenParen h refl
rule_begins s (rule.number is) h = to begins_expression s symbol.Int h refl
rule_begins s (rule.read_overflow is) h = to begins_expression s symbol.Overflow h refl
rule_begins s (rule.call_value is) h = name_expression s h
rule_begins s (rule.read is) h = place_expression s h
rule_begins s _ h = refl

-- ---- what is spelled

starts_first : (early late : List Part) (s t : Symbol) → starts early s ≡ true → (early ≡ [] → s ≡ t) → starts late t ≡ true → starts (early ++ late) s ≡ true
starts_first [] late s t h same k = subst (λ (x : Symbol). starts late x ≡ true) (sym (same refl)) k
starts_first (token x ∷ ps) late s t h same k = h
starts_first (node n ∷ ps) late s t h same k = h

no_tokens : {early : List Part} {c : ℕ} {u : List Spot} → Spells early c u → early ≡ [] → u ≡ []
no_tokens {c = c} {u = u} sp e = (from_nothing (subst (λ (ps : List Part). Spells ps c u) e sp)).tokens

-- what is ahead where a list of parts is spelled
pub spells_starts : {ps : List Part} {d : ℕ} {w : List Spot} (s : List Spot) → Spells ps d w → starts ps (ahead (w ++ s)) ≡ true
spells_starts s spelling.nothing = refl
spells_starts s (spelling.quoted {t = t} {x = x} is more) = subst (λ (y : Symbol). same_symbol y (symbol_of_token t) ≡ true) (sym (is-symbol t x is)) (same-self (symbol_of_token t))
spells_starts s (spelling.whole {n = n} {early = early} {late = late} {u1 = u1} {u2 = u2} {v = v} {w = w} rule before behind more tokens depth) =
    let e : w ++ s ≡ u1 ++ (u2 ++ (v ++ s)) = ap (λ (x : List Spot). x ++ s) tokens ∙ simp append_assoc in
    let h = spells_starts (u2 ++ (v ++ s)) before in
    let k = spells_starts (v ++ s) behind in
    let f : starts (early ++ late) (ahead (u1 ++ (u2 ++ (v ++ s)))) ≡ true =
    starts_first early late (ahead (u1 ++ (u2 ++ (v ++ s)))) (ahead (u2 ++ (v ++ s))) h (λ none. ap (λ (x : List Spot). ahead (x ++ (u2 ++ (v ++ s)))) (no_tokens before none)) k in
    rule_begins (ahead (w ++ s)) rule (subst (λ (x : List Spot). starts (early ++ late) (ahead x) ≡ true) (sym e) f)

-- a symbol that is among some is none that is not
pub wrong : (P : Symbol → Bool) (s t : Symbol) → P s ≡ true → s ≡ t → P t ≡ false → ⊥
wrong P s t e f g = let h : P t ≡ true = ap P (sym f) ∙ e in cc

-- ---- parts that begin with one symbol

pub dimension_begins : {d : Dim} {ps : List Part} {c : ℕ} {w : List Spot} (s : List Spot) → Spells (node (a.dimension d) ∷ ps) c w → ahead (w ++ s) ≡ symbol.OpenBracket
dimension_begins {w = w} s sp = same-is (ahead (w ++ s)) symbol.OpenBracket (spells_starts s sp)

pub row_begins : {r : Row} {ps : List Part} {c : ℕ} {w : List Spot} (s : List Spot) → Spells (node (a.row r) ∷ ps) c w → ahead (w ++ s) ≡ symbol.OpenBrace
row_begins {w = w} s sp = same-is (ahead (w ++ s)) symbol.OpenBrace (spells_starts s sp)

pub block_begins : {b : Block} {ps : List Part} {c : ℕ} {w : List Spot} (s : List Spot) → Spells (node (a.block b) ∷ ps) c w → ahead (w ++ s) ≡ symbol.OpenBrace
block_begins {w = w} s sp = same-is (ahead (w ++ s)) symbol.OpenBrace (spells_starts s sp)
