-- The readers where no node may stand.
use Rattle.std.proofs.Common.{◌≡◌, ◌≢◌, ℕ, zero, suc, ◌≤◌, ◌<◌, Bool, true, false, List, [], ◌∷◌, ◌++◌, inl, inr, refl, ap, ◌∙◌, sym, arith}
use Rattle.std.proofs.lemmas.List.{append-nil}
use Rattle.std.specs.Prelude.{not, ◌||◌}
use Rattle.sat_base.specs.declared.name.Named.{Named}
use Rattle.c_tree.specs.declared.expression.Expr.{Expr}
use Rattle.c_tree.specs.declared.expression.UnaryMark.TheVariants as unary
use Rattle.c_tree.specs.Depth.{depth_of_place}
use Rattle.c_tree.specs.declared.expression.ExprKind.{more_of-Expr as boxed}
use Rattle.c_tree.specs.declared.place.Place.{Place, Plain, Index', Index2', Deref}
use Rattle.c_tree.specs.declared.place.Place.TheVariants as place
use Rattle.c_grammar.specs.declared.symbol.Symbol.{Symbol}
use Rattle.c_grammar.specs.declared.symbol.Symbol.TheVariants as symbol
use Rattle.c_grammar.specs.Grammar.{Rule}
use Rattle.c_grammar.specs.Grammar as rule
use Rattle.c_grammar.specs.Nodes as a
use Rattle.c_grammar.specs.Parts.{Called, Part, node, Is}
use Rattle.right_reading.specs.ReadExpressions.{no_readers, no_expression}
use Rattle.c_grammar.specs.Spelling.{Spells, Front}
use Rattle.c_grammar.specs.Spelling as spelling
use Rattle.c_grammar.specs.Spots.{Spot}
use Rattle.right_reading.specs.Stream.{ahead, refuse_at}
use Rattle.c_grammar.specs.Symbols.{same_symbol, begins_expression}
use Rattle.expression_reading.proofs.Parts.Indices.{of_expression, of_named}
use Rattle.right_reading.proofs.Ahead.Begins.{spells_starts}
use Rattle.expression_reading.proofs.ByMark.Chains.{chain_parts}
use Rattle.c_grammar.proofs.Depths.{spelled_depth}
use Rattle.expression_reading.proofs.ByLimit.Lower.{RightReaders}
use Rattle.expression_reading.proofs.Parts.Places.{of_place}
use Rattle.right_reading.proofs.Composed.Rules.{token-ahead}
use Rattle.right_reading.specs.Right.{first, Ends, Stops, HasFront, Right, always, Reads}
use Rattle.c_grammar.proofs.Sequences.{from_token, from_node, from_nothing}
use Rattle.c_grammar.proofs.SymbolNumbers.{same-is, other-is}
use Rattle.right_reading.proofs.OneToken.Tokens.{ahead-same, no_name, any_expression}
use Rattle.right_reading.specs.Stops.{ends_place, stops_place, stops_operand, stops_chain, stops_expression}

-- ---- what has a depth is refused

module _ {A : Type 0} (of : A → List Part) (stops : A → Symbol → Bool) (begins : Symbol → Bool) (some : A) (end : begins symbol.End ≡ false)
    (starts : (x : A) (c : ℕ) (v s : List Spot) → Spells (of x) c v → (begins (ahead (v ++ s)) ≡ true) × (1 ≤ c))
    (front : (x : Spot) → begins x.symbol ≡ true → (y : A) × (d : ℕ) × Front (of y) d (x ∷ []) × (1 ≤ d)) where
  not_end : (i : List Spot) → begins (ahead i) ≡ true → ahead i ≢ symbol.End
  not_end i is e = let f : begins symbol.End ≡ true = ap begins (sym e) ∙ is in cc

  deep_front : (i : List Spot) → begins (ahead i) ≡ true → HasFront of 0 true [] i
  deep_front [] is = absurd (not_end [] is refl)
  deep_front (x ∷ xs) is = let f = front x is in (f.0, f.1, inr f.2, omega (arith, f.3), not_end (x ∷ xs) is)

  pub refuse_right : (i : List Spot) → Ends i → (b : Bool) → begins (ahead i) ≡ b → Right of 0 stops [] i (refuse_at b i)
  refuse_right i ends true is = record { more = []; rest = i; whole = refl; place = refl; ends = ends; dead = dead; front = deep_front i is }
    where
      dead : (x : A) (c : ℕ) (v s r : List Spot) → Spells (of x) c v → Stops stops x s → v ++ s ≡ r → first r ≡ first i → 0 < c
      dead x c v s r sp st e h = let k = starts x c v s sp in omega (arith, k.1)
  refuse_right i ends false not = record { more = []; rest = i; whole = refl; place = refl; ends = ends; dead = dead; front = (some, 0, spelling.lacking) }
    where
      dead : (x : A) (c : ℕ) (v s r : List Spot) → Spells (of x) c v → Stops stops x s → v ++ s ≡ r → first r ≡ first i → ⊥
      dead x c v s r sp st e h =
          let k = starts x c v s sp in
          let f : begins (ahead (v ++ s)) ≡ false = ap begins (ap ahead e ∙ ahead-same r i h) ∙ not in
          cc

-- ---- fronts of one token

some_place : Place
some_place = place.Plain no_name

abbrev named_spot : Spot → Named
named_spot x = record { at = x.at; name = x.name }

named_front : (x : Spot) → x.symbol ≡ symbol.Name → Front (node (a.named (place.Plain (named_spot x))) ∷ []) 1 (x ∷ [])
named_front x is = spelling.broken_late (rule.plain refl) spelling.nothing (spelling.quoted (is, refl, refl) spelling.lacking) refl refl

star_front : (x : Spot) → x.symbol ≡ symbol.Star → Front (node (a.place (place.Deref x.at no_name)) ∷ []) 1 (x ∷ [])
star_front x is = spelling.broken_late (rule.deref refl) spelling.nothing (spelling.quoted (is, refl) spelling.lacking) refl refl

place_front : (s : Symbol) (x : Spot) → x.symbol ≡ s → (same_symbol s symbol.Name || same_symbol s symbol.Star) ≡ true → (p : Place) × (d : ℕ) × Front (node (a.place p) ∷ []) d (x ∷ []) × (1 ≤ d)
place_front symbol.Name x is e = (place.Plain (named_spot x), 1, spelling.broken_early rule.place_named (named_front x is), omega arith)
place_front symbol.Star x is e = (place.Deref x.at no_name, 1, star_front x is, omega arith)
place_front _ x is e = cc

abbrev UnaryFront : Spot → Type 0
UnaryFront x = (e : Expr) × (d : ℕ) × Front (node (a.unary e) ∷ []) d (x ∷ []) × (1 ≤ d)

unary_front : (s : Symbol) (x : Spot) → x.symbol ≡ s → begins_expression s ≡ true → UnaryFront x
unary_front symbol.Minus x is e = (_, 1, spelling.broken_late (rule.unary {part = any_expression} {mark = unary.Minus} {mark_at = x.at} refl) spelling.nothing (spelling.quoted (is, refl) spelling.lacking) refl refl, omega arith)
unary_front symbol.Plus x is e = (_, 1, spelling.broken_late (rule.unary {part = any_expression} {mark = unary.Plus} {mark_at = x.at} refl) spelling.nothing (spelling.quoted (is, refl) spelling.lacking) refl refl, omega arith)
unary_front symbol.Not x is e = (_, 1, spelling.broken_late (rule.unary {part = any_expression} {mark = unary.Not} {mark_at = x.at} refl) spelling.nothing (spelling.quoted (is, refl) spelling.lacking) refl refl, omega arith)
unary_front symbol.Tilde x is e = (_, 1, spelling.broken_late (rule.unary {part = any_expression} {mark = unary.Invert} {mark_at = x.at} refl) spelling.nothing (spelling.quoted (is, refl) spelling.lacking) refl refl, omega arith)
unary_front symbol.OpenParen x is e = (_, 1, spelling.broken_late (rule.brackets {inner = any_expression} {at = x.at} refl) spelling.nothing (spelling.quoted (is, refl) spelling.lacking) refl refl, omega arith)
unary_front symbol.Int x is e = (_, 1, spelling.broken_late (rule.number {at = x.at} {value = x.value} refl) spelling.nothing (spelling.quoted (is, refl, refl) spelling.lacking) refl refl, omega arith)
unary_front symbol.Overflow x is e = (_, 1, spelling.broken_late (rule.read_overflow {at = x.at} refl) spelling.nothing (spelling.quoted (is, refl) spelling.lacking) refl refl, omega arith)
unary_front symbol.Name x is e =
    (_, 2, spelling.broken_late (rule.read {p = place.Plain (named_spot x)} refl) spelling.nothing (spelling.broken_early rule.place_named (named_front x is)) refl refl, omega arith)
unary_front symbol.Star x is e = (_, 2, spelling.broken_late (rule.read {p = place.Deref x.at no_name} refl) spelling.nothing (star_front x is) refl refl, omega arith)
unary_front _ x is e = cc

chain_front : (k : ℕ) {e : Expr} {d : ℕ} {w : List Spot} → Front (node (a.unary e) ∷ []) d w → Front (node (a.chain k e) ∷ []) d w
chain_front zero f = spelling.broken_early rule.no_chain f
chain_front (suc k) f = spelling.broken_early rule.operand (chain_front k f)

expression_front : (x : Spot) → begins_expression x.symbol ≡ true → (e : Expr) × (d : ℕ) × Front (node (a.expr e) ∷ []) d (x ∷ []) × (1 ≤ d)
expression_front x is = let f = unary_front x.symbol x refl is in (f.0, f.1, spelling.broken_early rule.plain_expr (chain_front 9 f.2), f.3)

place_some : (p : Place) → 1 ≤ depth_of_place p
place_some (Plain name) = omega arith
place_some (Index' name mark_at _ (boxed at brackets kind _)) = omega arith
place_some (Index2' name first_at _ (boxed at brackets kind _) second_at _ (boxed at2 brackets2 kind2 _)) = omega arith
place_some (Deref star_at name) = omega arith

place_deep : {p : Place} {ps : List Part} {c : ℕ} {v : List Spot} → Spells (node (a.place p) ∷ ps) c v → 1 ≤ c
place_deep {p} sp = omega (arith, spelled_depth sp, place_some p)

named_deep : {p : Place} {ps : List Part} {c : ℕ} {v : List Spot} → Spells (node (a.named p) ∷ ps) c v → 1 ≤ c
named_deep {p} sp = omega (arith, spelled_depth sp, place_some p)

-- ---- the name was read already

after_name : (p : Place) {early late : List Part} {c1 c2 : ℕ} (u1 u2 s r : List Spot) (x : Spot) → Rule (a.named p) early late → Spells early c1 u1 → Spells late c2 u2 → Stops stops_place p s → (u1 ++ u2) ++ s ≡ x ∷ r → ahead r ≢ symbol.End
after_name p u1 u2 s r x (rule.plain e) sp1 sp2 st eq is =
    let t = from_token sp2 in
    let all : t.x ∷ s ≡ x ∷ r = ap (λ (w : List Spot). (w ++ (t.x ∷ [])) ++ s) (sym (from_nothing sp1).tokens) ∙ ap (λ (w : List Spot). (u1 ++ (t.x ∷ w)) ++ s) (sym (from_nothing t.after).tokens)
    ∙ ap (λ (w : List Spot). (u1 ++ w) ++ s) (sym t.tokens) ∙ eq in
    let same : s ≡ r = cc in
    let no : ends_place symbol.End ≡ true = ap ends_place (sym (ap ahead same ∙ is)) ∙ st in
    cc
after_name p u1 u2 s r x (rule.index e) sp1 sp2 st eq is =
    let t = from_token sp2 in
    let k : ahead (t.rest ++ s) ≡ symbol.OpenBracket = token-ahead s t.after in
    let all : t.x ∷ t.rest ++ s ≡ x ∷ r = ap (λ (w : List Spot). (w ++ (t.x ∷ t.rest)) ++ s) (sym (from_nothing sp1).tokens) ∙ ap (λ (w : List Spot). (u1 ++ w) ++ s) (sym t.tokens) ∙ eq in
    let same : t.rest ++ s ≡ r = cc in
    let no : symbol.End ≡ symbol.OpenBracket = sym (ap ahead same ∙ is) ∙ k in
    cc
after_name p u1 u2 s r x (rule.index2 e) sp1 sp2 st eq is =
    let t = from_token sp2 in
    let k : ahead (t.rest ++ s) ≡ symbol.OpenBracket = token-ahead s t.after in
    let all : t.x ∷ t.rest ++ s ≡ x ∷ r = ap (λ (w : List Spot). (w ++ (t.x ∷ t.rest)) ++ s) (sym (from_nothing sp1).tokens) ∙ ap (λ (w : List Spot). (u1 ++ w) ++ s) (sym t.tokens) ∙ eq in
    let same : t.rest ++ s ≡ r = cc in
    let no : symbol.End ≡ symbol.OpenBracket = sym (ap ahead same ∙ is) ∙ k in
    cc

no_indices : (x : Spot) (name : Named) → Is (Called name) x → (i : List Spot) → Ends i → (b : Bool) → same_symbol (ahead i) symbol.End ≡ b → Right of_named 0 stops_place (x ∷ []) i (refuse_at (not b) i)
no_indices x name is i ends true end = record {
  more = [];
  rest = i;
  whole = refl;
  place = refl;
  ends = ends;
  dead = dead;
  front = (place.Plain name, 1, spelling.broken_late (rule.plain refl) spelling.nothing (spelling.quoted is spelling.lacking) refl refl);
}
  where
    dead : (p : Place) (c : ℕ) (v s r : List Spot) → Spells (of_named p) c v → Stops stops_place p s → v ++ s ≡ x ∷ r → first r ≡ first i → ⊥
    dead p c v s r sp st e h =
        let f = from_node sp in
        let all : (f.u1 ++ f.u2) ++ s ≡ x ∷ r = ap (λ (w : List Spot). w ++ s) (sym (append-nil (f.u1 ++ f.u2)) ∙ ap (λ (w : List Spot). (f.u1 ++ f.u2) ++ w) (sym (from_nothing f.after).tokens) ∙ sym f.tokens) ∙ e in
        after_name p f.u1 f.u2 s r x f.rule f.before f.behind st all (ahead-same r i h ∙ same-is (ahead i) symbol.End end)
no_indices x name is i ends false more = record {
  more = [];
  rest = i;
  whole = refl;
  place = refl;
  ends = ends;
  dead = dead;
  front = (place.Plain name, 1, inl (spelling.broken_late (rule.plain refl) spelling.nothing (spelling.quoted is spelling.lacking) refl refl), omega arith, other-is (ahead i) symbol.End more);
}
  where
    dead : (p : Place) (c : ℕ) (v s r : List Spot) → Spells (of_named p) c v → Stops stops_place p s → v ++ s ≡ x ∷ r → first r ≡ first i → 0 < c
    dead p c v s r sp st e h = named_deep sp

-- ---- all of them

expression_deep : {e : Expr} {ps : List Part} {c : ℕ} {v : List Spot} → Spells (node (a.expr e) ∷ ps) c v → 1 ≤ c
expression_deep sp = omega (arith, spelled_depth sp)

unary_deep : {e : Expr} {ps : List Part} {c : ℕ} {v : List Spot} → Spells (node (a.unary e) ∷ ps) c v → 1 ≤ c
unary_deep sp = omega (arith, spelled_depth sp)

chain_deep : {k : ℕ} {e : Expr} {ps : List Part} {c : ℕ} {v : List Spot} → Spells (node (a.chain k e) ∷ ps) c v → 1 ≤ c
chain_deep sp = omega (arith, spelled_depth sp)

no_expression_right : Reads of_expression 0 stops_expression no_expression
no_expression_right i ends = refuse_right of_expression stops_expression begins_expression any_expression refl
    (λ e c v s sp. (spells_starts s sp, expression_deep sp)) expression_front i ends (begins_expression (ahead i)) refl

no_unary_right : Reads (λ (e : Expr). node (a.unary e) ∷ []) 0 stops_operand no_expression
no_unary_right i ends = refuse_right (λ (e : Expr). node (a.unary e) ∷ []) stops_operand begins_expression any_expression refl
    (λ e c v s sp. (spells_starts s sp, unary_deep sp)) (λ x is. unary_front x.symbol x refl is) i ends (begins_expression (ahead i)) refl

pub no_chain_right : (k : ℕ) → Reads (chain_parts k) 0 (stops_chain k) no_expression
no_chain_right k i ends = refuse_right (chain_parts k) (stops_chain k) begins_expression any_expression refl
    (λ e c v s sp. (spells_starts s sp, chain_deep sp)) (λ x is. let f = unary_front x.symbol x refl is in (f.0, f.1, chain_front k f.2, f.3)) i ends (begins_expression (ahead i)) refl

no_named_right : Reads of_named 0 stops_place no_readers.named
no_named_right i ends = refuse_right of_named stops_place (λ s. same_symbol s symbol.Name) some_place refl
    (λ e c v s sp. (spells_starts s sp, named_deep sp)) (λ x is. (place.Plain (named_spot x), 1, named_front x (same-is x.symbol symbol.Name is), omega arith)) i ends (same_symbol (ahead i) symbol.Name) refl

no_indirection_right : (i : List Spot) → Ends i → ahead i ≡ symbol.Star → Right of_place 0 always [] i (no_readers.indirection i)
no_indirection_right i ends is = refuse_right of_place always (λ s. same_symbol s symbol.Name || same_symbol s symbol.Star) some_place refl
    (λ e c v s sp. (spells_starts s sp, place_deep sp)) (λ x is. place_front x.symbol x refl is) i ends (same_symbol (ahead i) symbol.Star)
    (ap (λ (s : Symbol). same_symbol s symbol.Name || same_symbol s symbol.Star) is ∙ sym (ap (λ (s : Symbol). same_symbol s symbol.Star) is))

pub no_readers_right : RightReaders 0 no_readers
no_readers_right = record {
  indices = λ x name is i ends. no_indices x name is i ends (same_symbol (ahead i) symbol.End) refl;
  named = no_named_right;
  indirection = no_indirection_right;
  unary = no_unary_right;
  expression = no_expression_right;
}
