-- Reading the square brackets of declarators.
use Rattle.std.proofs.Common.{◌≡◌, ◌≢◌, ℕ, Bool, true, not, List, [], ◌∷◌, ◌++◌, Option, Some, None, refl, ap, ◌∙◌, sym}
use Rattle.std.specs.Prelude.{Ok}
use Rattle.sat_base.specs.declared.name.At.{At}
use Rattle.c_tree.specs.declared.declaration.Dim.{Dim}
use Rattle.c_tree.specs.declared.expression.Expr.{Expr}
use Rattle.c_grammar.specs.declared.symbol.Symbol.{Symbol}
use Rattle.c_grammar.specs.declared.symbol.Symbol.TheVariants as symbol
use Rattle.c_grammar.specs.Grammar.{Rule}
use Rattle.c_grammar.specs.Grammar as rule
use Rattle.c_grammar.specs.Nodes as a
use Rattle.c_grammar.specs.Parts.{Part, node, word, kept}
use Rattle.right_reading.specs.ReadDeclarations.{word_at, length_at, dimension_of, dimension_at, columns_at, with_columns, dimensions_at}
use Rattle.right_reading.specs.ReadExpressions.{expression_at, index_by}
use Rattle.c_grammar.specs.Spelling.{Spells}
use Rattle.c_grammar.specs.Spots.{Spot}
use Rattle.right_reading.specs.Stream.{ahead, ◌>>=◌, both, take_at}
use Rattle.c_grammar.specs.Symbols.{same_symbol, begins_expression}
use Rattle.right_reading.proofs.Composed.Alternatives.{by_seen, alternative, nothing_right, no_node, word_right, ahead_is}
use Rattle.right_reading.proofs.Ahead.Begins.{dimension_begins, spells_starts}
use Rattle.right_reading.proofs.OneToken.Endings.{stricter, rule_nothing}
use Rattle.right_reading.specs.Right.{first, Ends, Stops, Right, always, Reads}
use Rattle.right_reading.specs.RightExpressions.{RightExpressions}
use Rattle.right_reading.proofs.Composed.Rules.{Chosen, no_parts, early_seen, token-ahead}
use Rattle.c_grammar.proofs.Sequences.{from_nothing}
use Rattle.right_reading.proofs.Composed.Steps.{Right-both}
use Rattle.c_grammar.proofs.SymbolNumbers.{same-is, other-is}
use Rattle.right_reading.proofs.OneToken.Tokens.{Right-if, take_right, ahead-same}
use Rattle.std.proofs.lemmas.List.{append_assoc}
use Rattle.right_reading.specs.Stops.{ends_expression, stops_expression}

abbrev pub stops_length : Option Expr → Symbol → Bool
stops_length l s = same_symbol s symbol.CloseBracket

-- no square bracket follows
abbrev pub no_bracket : {A : Type 0} → A → Symbol → Bool
no_bracket x s = not (same_symbol s symbol.OpenBracket)

pub not-bracket : (s : Symbol) → not (same_symbol s symbol.OpenBracket) ≡ true → s ≢ symbol.OpenBracket
not-bracket s e f = let g : not (same_symbol symbol.OpenBracket symbol.OpenBracket) ≡ true = ap (λ (x : Symbol). not (same_symbol x symbol.OpenBracket)) (sym f) ∙ e in cc

abbrev pub columns_parts : Option (At × Expr) → List Part
columns_parts None = []
columns_parts (Some x) = kept symbol.OpenBracket x.0 ∷ node (a.expr x.1) ∷ word symbol.CloseBracket ∷ []

module _ (n : ℕ) (right : RightExpressions n) where
  length_right : Reads (λ (l : Option Expr). node (a.maybe_expr l) ∷ []) n stops_length (length_at n)
  unfolding length_at
  length_right i ends =
      Right-if (λ (l : Option Expr). node (a.maybe_expr l) ∷ []) n stops_length [] i (same_symbol (ahead i) symbol.CloseBracket) (Ok (None, i)) (expression_at n i >>= (λ x. Ok (Some x.0, x.1)))
      (λ e. no_node a.maybe_expr n stops_length i None ends rule.no_expr (closed (same-is (ahead i) symbol.CloseBracket e)))
      (λ e. by_seen (early_seen a.maybe_expr (λ (e : Expr). node (a.expr e) ∷ []) n stops_expression stops_length [] i (λ (e : Expr). Some e) (λ x. rule.an_expr) (given (other-is (ahead i) symbol.CloseBracket e))) (expression_at n i) (right.expression i ends))
    where
      closed : ahead i ≡ symbol.CloseBracket → (l : Option Expr) (early late : List Part) (c1 c2 : ℕ) (u1 u2 s r : List Spot) → Rule (a.maybe_expr l) early late → Spells early c1 u1 → Spells late c2 u2 → Stops stops_length l s
          → (u1 ++ u2) ++ s ≡ r → first r ≡ first i → Chosen {A = Unit {0}} no_parts no_parts always (λ u. None) l early late s
      closed e l early late c1 c2 u1 u2 s r rule.no_expr sp sq st eq h = record { a = tt; same = refl; is_early = refl; is_late = refl; stops = refl }
      closed e l early late c1 c2 u1 u2 s r (rule.an_expr {e = x}) sp sq st eq h =
          let b : begins_expression (ahead (u1 ++ (u2 ++ s))) ≡ true = spells_starts (u2 ++ s) sp in
          let f : ahead (u1 ++ (u2 ++ s)) ≡ symbol.CloseBracket = ap ahead (sym (append_assoc u1 u2 s)) ∙ ap ahead eq ∙ ahead-same r i h ∙ e in
          let g : begins_expression symbol.CloseBracket ≡ true = ap begins_expression (sym f) ∙ b in
          absurd (cc)

      given : ahead i ≢ symbol.CloseBracket → (l : Option Expr) (early late : List Part) (c1 c2 : ℕ) (u1 u2 s r : List Spot) → Rule (a.maybe_expr l) early late → Spells early c1 u1 → Spells late c2 u2 → Stops stops_length l s
          → (u1 ++ u2) ++ s ≡ r → first r ≡ first i → Chosen (λ (e : Expr). node (a.expr e) ∷ []) no_parts stops_expression (λ (e : Expr). Some e) l early late s
      given ne l early late c1 c2 u1 u2 s r rule.no_expr sp sq st eq h =
          absurd (ne (sym (ap ahead (rule_nothing u1 u2 s r sp sq eq) ∙ ahead-same r i h) ∙ same-is (ahead s) symbol.CloseBracket st))
      given ne l early late c1 c2 u1 u2 s r (rule.an_expr {e = x}) sp sq st eq h =
          record { a = x; same = refl; is_early = refl; is_late = refl; stops = ap ends_expression (same-is (ahead s) symbol.CloseBracket st) }

  abbrev closing : Option Expr × Unit {0} → List Part
  closing x = node (a.maybe_expr x.0) ∷ word symbol.CloseBracket ∷ []

  closing_right : (i : List Spot) → Ends i → Right closing n always [] i (both (length_at n) (word_at symbol.CloseBracket) i)
  closing_right i ends =
      Right-both (λ (l : Option Expr). node (a.maybe_expr l) ∷ []) (λ (u : Unit {0}). word symbol.CloseBracket ∷ []) n stops_length always
      (λ l u c v s sp st. ap (stops_length l) (token-ahead s sp)) tt (length_at n) (word_at symbol.CloseBracket) [] i (length_right i ends) (λ j more. word_right symbol.CloseBracket (λ g. cc) n j more)

  abbrev brackets : At × (Option Expr × Unit {0}) → List Part
  brackets x = kept symbol.OpenBracket x.0 ∷ node (a.maybe_expr x.1.0) ∷ word symbol.CloseBracket ∷ []

  abbrev brackets_of : At × (Option Expr × Unit {0}) → Dim
  brackets_of x = dimension_of x.0 x.1.0

  pub dimension_right : Reads (λ (d : Dim). node (a.dimension d) ∷ []) n always (dimension_at n)
  unfolding dimension_at
  dimension_right i ends =
      by_seen (early_seen a.dimension brackets n always always [] i brackets_of (λ x. rule.dimension {d = brackets_of x}) which)
      (both (take_at symbol.OpenBracket) (both (length_at n) (word_at symbol.CloseBracket)) i)
      (Right-both (λ (at : At). kept symbol.OpenBracket at ∷ []) closing n always always (λ l u c v s sp st. refl) (None, tt)
      (take_at symbol.OpenBracket) (both (length_at n) (word_at symbol.CloseBracket)) [] i (take_right symbol.OpenBracket (λ g. cc) n i ends) closing_right)
    where
      which : (d : Dim) (early late : List Part) (c1 c2 : ℕ) (u1 u2 s r : List Spot) → Rule (a.dimension d) early late → Spells early c1 u1 → Spells late c2 u2 → Stops always d s
          → (u1 ++ u2) ++ s ≡ r → first r ≡ first i → Chosen brackets no_parts always brackets_of d early late s
      which d early late c1 c2 u1 u2 s r rule.dimension sp sq st eq h = record { a = (d.at, (d.length, tt)); same = refl; is_early = refl; is_late = refl; stops = refl }

  columns_right : Reads columns_parts n no_bracket (columns_at n)
  unfolding columns_at
  columns_right i ends =
      Right-if columns_parts n no_bracket [] i (same_symbol (ahead i) symbol.OpenBracket) (index_by (expression_at n) i >>= (λ x. Ok (Some x.0, x.1))) (Ok (None, i))
      (λ e. by_seen (alternative columns_parts n no_bracket [] i (λ (x : At × Expr). Some x) (there (same-is (ahead i) symbol.OpenBracket e))) (index_by (expression_at n) i)
      (stricter (λ (x : At × Expr). columns_parts (Some x)) n always no_bracket [] i (λ x s e. refl) (index_by (expression_at n) i) (right.index i ends)))
      (λ e. nothing_right columns_parts n no_bracket i None ends refl (not_there (other-is (ahead i) symbol.OpenBracket e)))
    where
      there : ahead i ≡ symbol.OpenBracket → (o : Option (At × Expr)) (c : ℕ) (v s r : List Spot) → Spells (columns_parts o) c v → Stops no_bracket o s → v ++ s ≡ r → first r ≡ first i → (x : At × Expr) × (o ≡ Some x)
      there e None c v s r sp st eq h = absurd (not-bracket (ahead s) st (ap (λ (w : List Spot). ahead (w ++ s)) (sym (from_nothing sp).tokens) ∙ ap ahead eq ∙ ahead-same r i h ∙ e))
      there e (Some x) c v s r sp st eq h = (x, refl)

      not_there : ahead i ≢ symbol.OpenBracket → (o : Option (At × Expr)) (c : ℕ) (v s r : List Spot) → Spells (columns_parts o) c v → Stops no_bracket o s → v ++ s ≡ r → first r ≡ first i → (o ≡ None) × (v ≡ [])
      not_there ne None c v s r sp st eq h = (refl, (from_nothing sp).tokens)
      not_there ne (Some x) c v s r sp st eq h = absurd (ne (ahead_is s r i sp eq h))

  abbrev with_brackets : Dim × Option (At × Expr) → List Part
  with_brackets x = node (a.dimension x.0) ∷ columns_parts x.1

  abbrev with_dimension : Dim × Option (At × Expr) → Option Dim × Option Dim
  with_dimension x = with_columns x.0 x.1

  abbrev pub dimensions_node : Option Dim × Option Dim → a.Node
  dimensions_node d = a.dimensions d.0 d.1

  pub dimensions_right : Reads (λ (d : Option Dim × Option Dim). node (a.dimensions d.0 d.1) ∷ []) n no_bracket (dimensions_at n)
  unfolding dimensions_at
  dimensions_right i ends =
      Right-if (λ (d : Option Dim × Option Dim). node (a.dimensions d.0 d.1) ∷ []) n no_bracket [] i (same_symbol (ahead i) symbol.OpenBracket) (both (dimension_at n) (columns_at n) i >>= (λ x. Ok (with_columns x.0.0 x.0.1, x.1))) (Ok ((None, None), i))
      (λ e. by_seen (early_seen dimensions_node with_brackets n no_bracket no_bracket [] i with_dimension by_rule (λ d. there (same-is (ahead i) symbol.OpenBracket e) d.0 d.1)) (both (dimension_at n) (columns_at n) i)
      (Right-both (λ (d : Dim). node (a.dimension d) ∷ []) columns_parts n always no_bracket (λ x y c v s sp st. refl) None (dimension_at n) (columns_at n) [] i (dimension_right i ends) columns_right))
      (λ e. no_node dimensions_node n no_bracket i (None, None) ends rule.scalar (λ d. not_there (other-is (ahead i) symbol.OpenBracket e) d.0 d.1))
    where
      by_rule : (x : Dim × Option (At × Expr)) → Rule (dimensions_node (with_dimension x)) (with_brackets x) []
      by_rule (rows, None) = rule.array
      by_rule (rows, Some x) = rule.table

      there : ahead i ≡ symbol.OpenBracket → (rows cols : Option Dim) (early late : List Part) (c1 c2 : ℕ) (u1 u2 s r : List Spot) → Rule (a.dimensions rows cols) early late → Spells early c1 u1 → Spells late c2 u2 → not (same_symbol (ahead s) symbol.OpenBracket) ≡ true
          → (u1 ++ u2) ++ s ≡ r → first r ≡ first i → Chosen with_brackets no_parts no_bracket with_dimension (rows, cols) early late s
      there e rows cols early late c1 c2 u1 u2 s r rule.scalar sp sq st eq h =
          absurd (not-bracket (ahead s) st (ap ahead (rule_nothing u1 u2 s r sp sq eq) ∙ ahead-same r i h ∙ e))
      there e rows cols early late c1 c2 u1 u2 s r (rule.array {rows = d}) sp sq st eq h = record { a = (d, None); same = refl; is_early = refl; is_late = refl; stops = st }
      there e rows cols early late c1 c2 u1 u2 s r (rule.table {rows = d} {at = at} {length = l}) sp sq st eq h = record { a = (d, Some (at, l)); same = refl; is_early = refl; is_late = refl; stops = st }

      not_there : ahead i ≢ symbol.OpenBracket → (rows cols : Option Dim) (early late : List Part) (c1 c2 : ℕ) (u1 u2 s r : List Spot) → Rule (a.dimensions rows cols) early late → Spells early c1 u1 → Spells late c2 u2 → not (same_symbol (ahead s) symbol.OpenBracket) ≡ true
          → (u1 ++ u2) ++ s ≡ r → first r ≡ first i → Chosen {A = Unit {0}} {X = Option Dim × Option Dim} no_parts no_parts always (λ u. (None, None)) (rows, cols) early late s
      not_there ne rows cols early late c1 c2 u1 u2 s r rule.scalar sp sq st eq h = record { a = tt; same = refl; is_early = refl; is_late = refl; stops = refl }
      not_there ne rows cols early late c1 c2 u1 u2 s r (rule.array {rows = d}) sp sq st eq h =
          absurd (ne (sym (ap ahead eq ∙ ahead-same r i h) ∙ ap ahead (append_assoc u1 u2 s) ∙ dimension_begins (u2 ++ s) sp))
      not_there ne rows cols early late c1 c2 u1 u2 s r (rule.table {rows = d} {at = at} {length = l}) sp sq st eq h =
          absurd (ne (sym (ap ahead eq ∙ ahead-same r i h) ∙ ap ahead (append_assoc u1 u2 s) ∙ dimension_begins (u2 ++ s) sp))
