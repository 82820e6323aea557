-- Where no node may stand a statement is too deep, if one begins there.
use Rattle.std.proofs.Common.{◌≡◌, ℕ, suc, max, ◌<◌, Bool, true, false, List, [], ◌∷◌, ◌++◌, None, inr, refl, ap, subst, ◌∙◌, sym, arith}
use Rattle.std.proofs.lemmas.List.{append-nil}
use Rattle.sat_base.specs.declared.name.Named.{Named}
use Rattle.c_tree.specs.declared.place.Place.TheVariants as place
use Rattle.c_tree.specs.declared.simple.AssignMark.TheVariants as assigns
use Rattle.c_tree.specs.declared.simple.Simple.TheVariants as simple
use Rattle.c_tree.specs.declared.statement.Stmt.{Stmt}
use Rattle.c_tree.specs.declared.statement.Stmt.TheVariants as stmt
use Rattle.c_grammar.specs.declared.symbol.Symbol.{Symbol}
use Rattle.c_grammar.specs.declared.symbol.Symbol.TheVariants as symbol
use Rattle.c_grammar.specs.Grammar.{Rule}
use Rattle.c_grammar.specs.Grammar as rule
use Rattle.c_grammar.specs.Nodes as a
use Rattle.c_grammar.specs.Parts.{Part, node}
use Rattle.c_grammar.specs.Spelling.{counted, Spells, Front}
use Rattle.c_grammar.specs.Spelling as spelling
use Rattle.c_grammar.specs.Spots.{Spot, here}
use Rattle.right_reading.specs.Stream.{ahead}
use Rattle.c_grammar.specs.Symbols.{begins_statement}
use Rattle.right_reading.proofs.Ahead.Begins.{spells_starts}
use Rattle.statement_reading.proofs.BlockRight.{statement_filled}
use Rattle.right_reading.specs.Right.{first, Ends, Stops, Bad, HasFront, Refused}
use Rattle.c_grammar.proofs.Sequences.{from_node, from_nothing}
use Rattle.statement_reading.proofs.Simples.SimpleMarks.{any_place}
use Rattle.statement_reading.proofs.Statements.StatementStops.{stops_statement}
use Rattle.right_reading.proofs.OneToken.Tokens.{ahead-same, nowhere, any_expression}

abbrev of_statement : Stmt → List Part
of_statement s = node (a.stmt s) ∷ []

-- ---- a statement has a depth

early_none : {x : Stmt} {early late : List Part} → Rule (a.stmt x) early late → early ≡ []
early_none (rule.empty is) = refl
early_none _ = refl

no_tokens : {ps : List Part} {c : ℕ} {u : List Spot} → ps ≡ [] → Spells ps c u → u ≡ []
no_tokens {c = c} {u = u} e sp = (from_nothing (subst (λ (qs : List Part). Spells qs c u) e sp)).tokens

pub statement_deep : (x : Stmt) (c : ℕ) (v : List Spot) → Spells (node (a.stmt x) ∷ []) c v → 0 < c
statement_deep x c [] sp = absurd (statement_filled x c sp)
statement_deep x c (t ∷ ts) sp =
    let f = from_node sp in
    let e1 = no_tokens (early_none f.rule) f.before in
    let e : t ∷ ts ≡ f.u2 = f.tokens ∙ ap (λ (w : List Spot). (f.u1 ++ f.u2) ++ w) (from_nothing f.after).tokens ∙ append-nil (f.u1 ++ f.u2) ∙ ap (λ (w : List Spot). w ++ f.u2) e1 in
    let k : counted f.u2 (max f.c1 f.c2) ≡ suc (max f.c1 f.c2) = ap (λ (w : List Spot). counted w (max f.c1 f.c2)) (sym e) in
    omega (arith, f.depth, k)

-- ---- a statement that begins with a symbol

record Begun (t : Spot) : Type 0 where
  x : Stmt
  depth : ℕ
  front : Front (of_statement x) depth (t ∷ [])
  deep : 0 < depth

begun_by : (t : Spot) {x : Stmt} {late : List Part} (c : ℕ) → Rule (a.stmt x) [] late → Front late c (t ∷ []) → Begun t
begun_by t {x} c rule f = record { x = x; depth = suc (max 0 c); front = spelling.broken_late rule spelling.nothing f refl refl; deep = omega arith }

abbrev name_of : Spot → Named
name_of t = record { at = t.at; name = t.name }

begun : (t : Spot) (s : Symbol) → t.symbol ≡ s → begins_statement s ≡ true → Begun t
begun t symbol.Semicolon e h = begun_by t 0 (rule.empty {at = t.at} refl) (spelling.quoted (e, refl) spelling.lacking)
begun t symbol.OpenBrace e h = begun_by t 0 (rule.block_stmt {block = record { at = t.at; objects = []; stmts = [] }} refl) (spelling.broken_early rule.block (spelling.quoted (e, refl) spelling.lacking))
begun t symbol.If e h = begun_by t 0 (rule.if_ {at = t.at} {cond = any_expression} {branch = stmt.Empty nowhere} refl) (spelling.quoted (e, refl) spelling.lacking)
begun t symbol.While e h = begun_by t 0 (rule.while_ {at = t.at} {cond = any_expression} {body = stmt.Empty nowhere} refl) (spelling.quoted (e, refl) spelling.lacking)
begun t symbol.Do e h = begun_by t 0 (rule.do_ {at = t.at} {body = stmt.Empty nowhere} {cond = any_expression} refl) (spelling.quoted (e, refl) spelling.lacking)
begun t symbol.For e h = begun_by t 0 (rule.for_ {at = t.at} {first = []} {last = []} {cond = None} {body = stmt.Empty nowhere} refl) (spelling.quoted (e, refl) spelling.lacking)
begun t symbol.Break e h = begun_by t 0 (rule.break {at = t.at} refl) (spelling.quoted (e, refl) spelling.lacking)
begun t symbol.Continue e h = begun_by t 0 (rule.continue {at = t.at} refl) (spelling.quoted (e, refl) spelling.lacking)
begun t symbol.Return e h = begun_by t 0 (rule.return {at = t.at} {value = None} refl) (spelling.quoted (e, refl) spelling.lacking)
begun t symbol.Name e h =
    begun_by t 0 (rule.simple_stmt {simple = simple.Call (record { name = name_of t; args = [] })} refl)
    (spelling.broken_early (rule.simple_call refl) (spelling.broken_early (rule.call refl) (spelling.quoted (e, refl, refl) spelling.lacking)))
begun t symbol.Star e h =
    begun_by t 1 (rule.simple_stmt {simple = simple.Assign t.at (place.Deref t.at (name_of t)) assigns.Plain nowhere any_expression} refl)
    (spelling.broken_early (rule.assign {p = place.Deref t.at (name_of t)} {mark = assigns.Plain} {mark_at = nowhere} {value = any_expression} refl)
    (spelling.broken_late (rule.deref {star_at = t.at} {name = name_of t} refl) spelling.nothing (spelling.quoted (e, refl) spelling.lacking) refl refl))
begun t symbol.PlusPlus e h =
    begun_by t 0 (rule.simple_stmt {simple = simple.Step t.at any_place true t.at} refl)
    (spelling.broken_early (rule.step_before {p = any_place} {up = true} {mark_at = t.at} refl) (spelling.quoted (e, refl) spelling.lacking))
begun t symbol.MinusMinus e h =
    begun_by t 0 (rule.simple_stmt {simple = simple.Step t.at any_place false t.at} refl)
    (spelling.broken_early (rule.step_before {p = any_place} {up = false} {mark_at = t.at} refl) (spelling.quoted (e, refl) spelling.lacking))
begun t symbol.Overflow e h =
    begun_by t 0 (rule.simple_stmt {simple = simple.SetOverflow t.at any_expression} refl)
    (spelling.broken_early (rule.set_overflow {at = t.at} {value = any_expression} refl) (spelling.quoted (e, refl) spelling.lacking))
begun t _ e h = absurd (cc)

-- ---- the refusal

pub statement_refused : (i : List Spot) → Ends i → Refused (λ (s : Stmt). node (a.stmt s) ∷ []) 0 stops_statement [] i (record { deep = begins_statement (ahead i); at = here i })
statement_refused i ends = step (begins_statement (ahead i)) refl
  where
    dead : (b : Bool) → begins_statement (ahead i) ≡ b → (x : Stmt) (c : ℕ) (v s r : List Spot) → Spells (of_statement x) c v → Stops stops_statement x s → v ++ s ≡ r → first r ≡ first i → Bad b 0 c
    dead true is x c v s r sp st e h = statement_deep x c v sp
    dead false is x c v s r sp st e h =
        let k : begins_statement (ahead i) ≡ true = subst (λ (y : Symbol). begins_statement y ≡ true) (ap ahead e ∙ ahead-same r i h) (spells_starts s sp) in
        cc (k, is)

    has_front : (j : List Spot) → Ends j → (b : Bool) → begins_statement (ahead j) ≡ b → HasFront of_statement 0 b [] j
    has_front j ends_j false is = (stmt.Empty nowhere, 0, spelling.lacking)
    has_front [] ends_j true is = absurd ends_j
    has_front (t ∷ xs) ends_j true is =
        let g = begun t t.symbol refl is in
        (g.x, g.depth, inr g.front, g.deep, λ e. let k : begins_statement symbol.End ≡ true = subst (λ (y : Symbol). begins_statement y ≡ true) e is in cc)

    step : (b : Bool) → begins_statement (ahead i) ≡ b → Refused of_statement 0 stops_statement [] i (record { deep = b; at = here i })
    step b is = record { more = []; rest = i; whole = refl; place = refl; ends = ends; dead = dead b is; front = has_front i ends b is }
