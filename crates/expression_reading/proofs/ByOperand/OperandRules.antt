-- Which rule an operand is read by, as its first token shows, or its second.
use Rattle.std.proofs.Common.{◌≡◌, ℕ, ◌+◌, Bool, true, List, [], ◌∷◌, ◌++◌, ◌⊎◌, inl, inr, refl, ap, subst, ◌∙◌, sym, ℤ}
use Rattle.std.proofs.lemmas.List.{append_assoc, append-nil}
use Rattle.std.specs.Prelude.{◌||◌}
use Rattle.sat_base.specs.declared.name.At.{At}
use Rattle.sat_base.specs.declared.width.Width.{Width}
use Rattle.c_tree.specs.declared.call.Call.{Call}
use Rattle.c_tree.specs.declared.expression.Expr.{Expr}
use Rattle.c_tree.specs.declared.expression.ExprKind.TheVariants as kind
use Rattle.c_tree.specs.declared.expression.UnaryMark.{UnaryMark}
use Rattle.c_tree.specs.declared.expression.UnaryMark.TheVariants as unary
use Rattle.c_tree.specs.declared.place.Place.{Place}
use Rattle.c_grammar.specs.declared.symbol.Symbol.{Symbol}
use Rattle.c_grammar.specs.declared.symbol.Symbol.TheVariants as symbol
use Rattle.c_grammar.specs.Grammar.{Rule}
use Rattle.c_grammar.specs.Grammar as rule
use Rattle.c_grammar.specs.Marks.{unary_symbol}
use Rattle.c_grammar.specs.Nodes.{Node}
use Rattle.c_grammar.specs.Nodes as a
use Rattle.c_grammar.specs.Parts.{Token, Part, token, node, word, kept, valued}
use Rattle.right_reading.specs.ReadExpressions.{unmarked, reading}
use Rattle.c_grammar.specs.Spelling.{Spells}
use Rattle.c_grammar.specs.Spots.{Spot}
use Rattle.right_reading.specs.Stream.{ahead}
use Rattle.c_grammar.specs.Symbols.{same_symbol}
use Rattle.expression_reading.proofs.Parts.Arguments.{of_call}
use Rattle.right_reading.proofs.Ahead.Begins.{spells_starts}
use Rattle.expression_reading.proofs.Parts.Places.{of_place}
use Rattle.right_reading.specs.Right.{Stops}
use Rattle.right_reading.proofs.Composed.Rules.{Chosen, no_parts, token-ahead}
use Rattle.c_grammar.proofs.Sequences.{FromNode, from_token, from_node, from_nothing}
use Rattle.c_grammar.proofs.SymbolNumbers.{same-is}

-- ---- the rules of operands, by what they are put together from

abbrev pub of_marked : UnaryMark → At × Expr → List Part
of_marked m x = kept (unary_symbol m) x.0 ∷ node (a.unary x.1) ∷ []

abbrev pub marked : UnaryMark → At × Expr → Expr
marked m x = unmarked x.0 (kind.Unary m x.0 x.1)

abbrev pub Casting : Type 0
Casting = At × ((At × Width) × Expr)

abbrev pub of_cast : Casting → List Part
of_cast x = kept symbol.OpenParen x.0 ∷ node (a.type_ x.1.0.0 x.1.0.1) ∷ word symbol.CloseParen ∷ node (a.unary x.1.1) ∷ []

abbrev pub cast_of : Casting → Expr
cast_of x = unmarked x.0 (kind.Cast x.1.0.1 x.1.1)

abbrev pub of_brackets : At × Expr → List Part
of_brackets x = kept symbol.OpenParen x.0 ∷ node (a.expr x.1) ∷ word symbol.CloseParen ∷ []

abbrev pub bracketed : At × Expr → Expr
bracketed x = record { at = x.0; brackets = x.1.brackets + 1; kind = x.1.kind }

abbrev pub of_number : At × ℤ → List Part
of_number x = valued x.0 x.1 ∷ []

abbrev pub numbered : At × ℤ → Expr
numbered x = unmarked x.0 (kind.Int x.1)

abbrev pub of_overflow : At → List Part
of_overflow at = kept symbol.Overflow at ∷ []

abbrev pub overflow_of : At → Expr
overflow_of at = unmarked at (kind.ReadOverflow at)

abbrev pub calling : Call → Expr
calling c = unmarked c.name.at (kind.Call c)

-- the rule is this one
pub record ByRule {A : Type 0} (of : A → List Part) (mk : A → Expr) (e : Expr) (early late : List Part) : Type 0 where
  pub x : A
  pub same : e ≡ mk x
  pub is_early : early ≡ []
  pub is_late : late ≡ of x

pub chosen : {A : Type 0} (of : A → List Part) (mk : A → Expr) (stops : A → Symbol → Bool) (e : Expr) (early late : List Part) (s : List Spot) (k : ByRule of mk e early late) → Stops stops k.x s
    → Chosen no_parts of stops mk e early late s
chosen of mk stops e early late s k st = record { a = k.x; same = k.same; is_early = k.is_early; is_late = k.is_late; stops = st }

-- which rule it can be, by the first symbol
abbrev pub ByLead : Symbol → Expr → List Part → List Part → Type 0
ByLead symbol.Minus e early late = ByRule (of_marked unary.Minus) (marked unary.Minus) e early late
ByLead symbol.Plus e early late = ByRule (of_marked unary.Plus) (marked unary.Plus) e early late
ByLead symbol.Not e early late = ByRule (of_marked unary.Not) (marked unary.Not) e early late
ByLead symbol.Tilde e early late = ByRule (of_marked unary.Invert) (marked unary.Invert) e early late
ByLead symbol.OpenParen e early late = ByRule of_cast cast_of e early late ⊎ ByRule of_brackets bracketed e early late
ByLead symbol.Int e early late = ByRule of_number numbered e early late
ByLead symbol.Overflow e early late = ByRule of_overflow overflow_of e early late
ByLead symbol.Name e early late = ByRule of_call calling e early late ⊎ ByRule of_place reading e early late
ByLead symbol.Star e early late = ByRule of_place reading e early late
ByLead _ e early late = ⊥

pub marked_lead : (m : UnaryMark) (e : Expr) (early late : List Part) → ByLead (unary_symbol m) e early late → ByRule (of_marked m) (marked m) e early late
marked_lead unary.Minus e early late k = k
marked_lead unary.Plus e early late k = k
marked_lead unary.Not e early late k = k
marked_lead unary.Invert e early late k = k

lead_marked : (m : UnaryMark) (e : Expr) (early late : List Part) → ByRule (of_marked m) (marked m) e early late → ByLead (unary_symbol m) e early late
lead_marked unary.Minus e early late k = k
lead_marked unary.Plus e early late k = k
lead_marked unary.Not e early late k = k
lead_marked unary.Invert e early late k = k

lead_place : (s : Symbol) (e : Expr) (early late : List Part) → (same_symbol s symbol.Name || same_symbol s symbol.Star) ≡ true → ByRule of_place reading e early late → ByLead s e early late
lead_place symbol.Name e early late is k = inr k
lead_place symbol.Star e early late is k = k
lead_place _ e early late is k = cc

-- nothing is early, and what is late begins with this
late_ahead : {c : ℕ} (u1 u2 s w : List Spot) → Spells [] c u1 → (u1 ++ u2) ++ s ≡ w → ahead (u2 ++ s) ≡ ahead w
late_ahead u1 u2 s w none e = ap (λ (u : List Spot). ahead ((u ++ u2) ++ s)) (sym (from_nothing none).tokens) ∙ ap ahead e

by_symbol : (s t : Symbol) (e : Expr) (early late : List Part) → s ≡ t → ByLead s e early late → ByLead t e early late
by_symbol s t e early late is k = subst (λ (u : Symbol). ByLead u e early late) is k

pub by_lead : (e : Expr) {early late : List Part} {c1 c2 : ℕ} (u1 u2 s w : List Spot) → Rule (a.unary e) early late → Spells early c1 u1 → Spells late c2 u2 → (u1 ++ u2) ++ s ≡ w → ByLead (ahead w) e early late
by_lead e u1 u2 s w (rule.unary {part = part} {mark = m} {mark_at = at} same) sp1 sp2 eq =
    by_symbol (unary_symbol m) (ahead w) e [] (kept (unary_symbol m) at ∷ node (a.unary part) ∷ []) (sym (token-ahead s sp2) ∙ late_ahead u1 u2 s w sp1 eq)
    (lead_marked m e [] (kept (unary_symbol m) at ∷ node (a.unary part) ∷ []) (record { x = (at, part); same = same; is_early = refl; is_late = refl }))
by_lead e u1 u2 s w (rule.cast {part = part} {at = at} {type_at = type_at} {width = width} same) sp1 sp2 eq =
    by_symbol symbol.OpenParen (ahead w) e [] (kept symbol.OpenParen at ∷ node (a.type_ type_at width) ∷ word symbol.CloseParen ∷ node (a.unary part) ∷ []) (sym (token-ahead s sp2) ∙ late_ahead u1 u2 s w sp1 eq)
    (inl (record { x = (at, ((type_at, width), part)); same = same; is_early = refl; is_late = refl }))
by_lead e u1 u2 s w (rule.brackets {inner = inner} {at = at} same) sp1 sp2 eq =
    by_symbol symbol.OpenParen (ahead w) e [] (kept symbol.OpenParen at ∷ node (a.expr inner) ∷ word symbol.CloseParen ∷ []) (sym (token-ahead s sp2) ∙ late_ahead u1 u2 s w sp1 eq)
    (inr (record { x = (at, inner); same = same; is_early = refl; is_late = refl }))
by_lead e u1 u2 s w (rule.number {at = at} {value = value} same) sp1 sp2 eq =
    by_symbol symbol.Int (ahead w) e [] (valued at value ∷ []) (sym (token-ahead s sp2) ∙ late_ahead u1 u2 s w sp1 eq)
    (record { x = (at, value); same = same; is_early = refl; is_late = refl })
by_lead e u1 u2 s w (rule.read_overflow {at = at} same) sp1 sp2 eq =
    by_symbol symbol.Overflow (ahead w) e [] (kept symbol.Overflow at ∷ []) (sym (token-ahead s sp2) ∙ late_ahead u1 u2 s w sp1 eq)
    (record { x = at; same = same; is_early = refl; is_late = refl })
by_lead e u1 u2 s w (rule.call_value {c = c} same) sp1 sp2 eq =
    by_symbol symbol.Name (ahead w) e [] (node (a.call c) ∷ []) (sym (same-is (ahead (u2 ++ s)) symbol.Name (spells_starts s sp2)) ∙ late_ahead u1 u2 s w sp1 eq)
    (inl (record { x = c; same = same; is_early = refl; is_late = refl }))
by_lead e u1 u2 s w (rule.read {p = p} same) sp1 sp2 eq =
    by_symbol (ahead (u2 ++ s)) (ahead w) e [] (node (a.place p) ∷ []) (late_ahead u1 u2 s w sp1 eq)
    (lead_place (ahead (u2 ++ s)) e [] (node (a.place p) ∷ []) (spells_starts s sp2) (record { x = p; same = same; is_early = refl; is_late = refl }))

-- ---- the second token

-- what is spelled after a first token
pub after_token : {t : Token} {ps : List Part} {c : ℕ} (u s r : List Spot) (x : Spot) → Spells (token t ∷ ps) c u → u ++ s ≡ x ∷ r → (v : List Spot) × Spells ps c v × (v ++ s ≡ r)
after_token u s r x sp e =
    let t = from_token sp in
    let all : t.x ∷ t.rest ++ s ≡ x ∷ r = ap (λ (w : List Spot). w ++ s) (sym t.tokens) ∙ e in
    let same : t.rest ++ s ≡ r = cc in
    (t.rest, t.after, same)

-- a part of the tree alone
alone : {n : Node} {d : ℕ} {u : List Spot} (f : FromNode n [] d u) → u ≡ f.u1 ++ f.u2
alone f = f.tokens ∙ ap (λ (w : List Spot). (f.u1 ++ f.u2) ++ w) (from_nothing f.after).tokens ∙ append-nil (f.u1 ++ f.u2)

call_rule_second : (c : Call) {early late : List Part} {c1 : ℕ} (u1 u2 s r : List Spot) (x : Spot) → Rule (a.call c) early late → Spells early c1 u1 → (u1 ++ u2) ++ s ≡ x ∷ r → ahead r ≡ symbol.OpenParen
call_rule_second c u1 u2 s r x (rule.call same) sp e =
    let k = after_token u1 (u2 ++ s) r x sp (sym (append_assoc u1 u2 s) ∙ e) in
    sym (ap ahead k.2) ∙ token-ahead (u2 ++ s) k.1

-- after the name of a call there is a `(`
pub call_second : (c : Call) {d : ℕ} (u s r : List Spot) (x : Spot) → Spells (node (a.call c) ∷ []) d u → u ++ s ≡ x ∷ r → ahead r ≡ symbol.OpenParen
call_second c u s r x sp e = let f = from_node sp in call_rule_second c f.u1 f.u2 s r x f.rule f.before (ap (λ (w : List Spot). w ++ s) (sym (alone f)) ∙ e)

named_rule_second : (p : Place) {early late : List Part} {c1 c2 : ℕ} (u1 u2 s r : List Spot) (x : Spot) → Rule (a.named p) early late → Spells early c1 u1 → Spells late c2 u2 → (u1 ++ u2) ++ s ≡ x ∷ r
    → (ahead r ≡ symbol.OpenBracket) ⊎ (s ≡ r)
named_rule_second p u1 u2 s r x (rule.plain same) sp1 sp2 e =
    let k = after_token u2 s r x sp2 (ap (λ (w : List Spot). (w ++ u2) ++ s) (sym (from_nothing sp1).tokens) ∙ e) in
    inr (ap (λ (w : List Spot). w ++ s) (sym (from_nothing k.1).tokens) ∙ k.2)
named_rule_second p u1 u2 s r x (rule.index same) sp1 sp2 e =
    let k = after_token u2 s r x sp2 (ap (λ (w : List Spot). (w ++ u2) ++ s) (sym (from_nothing sp1).tokens) ∙ e) in
    inl (sym (ap ahead k.2) ∙ token-ahead s k.1)
named_rule_second p u1 u2 s r x (rule.index2 same) sp1 sp2 e =
    let k = after_token u2 s r x sp2 (ap (λ (w : List Spot). (w ++ u2) ++ s) (sym (from_nothing sp1).tokens) ∙ e) in
    inl (sym (ap ahead k.2) ∙ token-ahead s k.1)

place_rule_second : (p : Place) {early late : List Part} {c1 c2 : ℕ} (u1 u2 s r : List Spot) (x : Spot) → Rule (a.place p) early late → Spells early c1 u1 → Spells late c2 u2 → (u1 ++ u2) ++ s ≡ x ∷ r
    → x.symbol ≡ symbol.Name → (ahead r ≡ symbol.OpenBracket) ⊎ (s ≡ r)
place_rule_second p u1 u2 s r x rule.place_named sp1 sp2 e is =
    let f = from_node sp1 in
    let all : (f.u1 ++ f.u2) ++ s ≡ x ∷ r = ap (λ (w : List Spot). w ++ s) (sym (alone f)) ∙ ap (λ (w : List Spot). w ++ s) (sym (append-nil u1) ∙ ap (λ (w : List Spot). u1 ++ w) (sym (from_nothing sp2).tokens)) ∙ e in
    named_rule_second p f.u1 f.u2 s r x f.rule f.before f.behind all
place_rule_second p u1 u2 s r x (rule.deref same) sp1 sp2 e is =
    let f : symbol.Star ≡ symbol.Name = sym (token-ahead s sp2) ∙ late_ahead u1 u2 s (x ∷ r) sp1 e ∙ is in cc

-- after the name that begins a place there is a `[`, or else the place is the name
pub place_second : (p : Place) {d : ℕ} (u s r : List Spot) (x : Spot) → Spells (node (a.place p) ∷ []) d u → u ++ s ≡ x ∷ r → x.symbol ≡ symbol.Name → (ahead r ≡ symbol.OpenBracket) ⊎ (s ≡ r)
place_second p u s r x sp e is = let f = from_node sp in place_rule_second p f.u1 f.u2 s r x f.rule f.before f.behind (ap (λ (w : List Spot). w ++ s) (sym (alone f)) ∙ e) is
