-- Reading what declared objects start with.
use Rattle.std.proofs.Common.{◌≡◌, ◌≢◌, ℕ, Bool, true, false, List, [], ◌∷◌, ◌++◌, Some, refl, ap, subst, ◌∙◌, sym}
use Rattle.std.proofs.lemmas.List.{append_assoc, append-nil}
use Rattle.std.specs.Prelude.{Result, Ok, if◌then◌else◌}
use Rattle.c_tree.specs.declared.call.Arg.{Arg}
use Rattle.c_tree.specs.declared.call.Arg.TheVariants as arg
use Rattle.c_tree.specs.declared.declaration.Init.{Init}
use Rattle.c_tree.specs.declared.declaration.Init.TheVariants as init
use Rattle.c_tree.specs.declared.declaration.Row.{Row}
use Rattle.c_tree.specs.declared.expression.Expr.{Expr}
use Rattle.c_grammar.specs.declared.symbol.Symbol.{Symbol}
use Rattle.c_grammar.specs.declared.symbol.Symbol.TheVariants as symbol
use Rattle.c_grammar.specs.Grammar.{Rule}
use Rattle.c_grammar.specs.Grammar as rule
use Rattle.c_grammar.specs.Nodes as a
use Rattle.c_grammar.specs.Parts.{Token, Part, token, node, word, separated, followed}
use Rattle.right_reading.specs.ReadDeclarations.{word_at, braced_at, values_at, row_of, row_at, rows_at, initialiser_at, start_at, view_start_at}
use Rattle.right_reading.specs.ReadExpressions.{expression_at, argument_at}
use Rattle.c_grammar.specs.Spelling.{Spells, whole}
use Rattle.c_grammar.specs.Spots.{Spot}
use Rattle.right_reading.specs.Stream.{ahead, rest, Fault, both}
use Rattle.c_grammar.specs.Symbols.{same_symbol, begins_expression}
use Rattle.right_reading.proofs.Composed.Alternatives.{by_seen, no_node, word_right, word_then, ends_after, ahead_is, follows_nothing}
use Rattle.right_reading.proofs.Ahead.Begins.{row_begins, spells_starts}
use Rattle.declaration_reading.proofs.Braced.{Tail, tail_parts, tail_true, tail_false, front_of, closes, braced_as, closed_at, closed_right, closed_is}
use Rattle.right_reading.proofs.Composed.Dependent.{seen_by}
use Rattle.right_reading.proofs.OneToken.Endings.{then_word, seen_twice, rule_ahead, rule_nothing, rule_next, two_words_then, early_token, nothing_ahead}
use Rattle.right_reading.specs.Right.{first, Ends, Stops, Right, always, Reads}
use Rattle.right_reading.specs.RightExpressions.{RightExpressions}
use Rattle.right_reading.proofs.Composed.Rules.{Chosen, no_parts, early_seen, symbol_of_token}
use Rattle.right_reading.proofs.Composed.Steps.{Right-both}
use Rattle.c_grammar.proofs.SymbolNumbers.{same-is, other-is}
use Rattle.right_reading.proofs.OneToken.Tokens.{Right-if, ahead-same}
use Rattle.right_reading.specs.Stops.{ends_expression, stops_expression}
use Rattle.c_grammar.proofs.SymbolSets.{among}

-- what may follow a declarator
abbrev pub ends_start : Symbol → Bool
ends_start symbol.Comma = true
ends_start symbol.Semicolon = true
ends_start _ = false

abbrev pub stops_start : {A : Type 0} → A → Symbol → Bool
stops_start x s = ends_start s

pub start_expression : (s : Symbol) → ends_start s ≡ true → ends_expression s ≡ true
start_expression = among ends_start ends_expression refl

-- nothing that begins with `=` is nothing
no_equal : (s : Symbol) → ends_start s ≡ true → s ≢ symbol.Equal
no_equal s e f = let g : ends_start symbol.Equal ≡ true = ap ends_start (sym f) ∙ e in cc

abbrev pub value_of : Expr → Init
value_of e = init.One (arg.Value e)

-- an expression begins with no brace
no_brace : (s : Symbol) → begins_expression s ≡ true → s ≢ symbol.OpenBrace
no_brace s e f = let g : begins_expression symbol.OpenBrace ≡ true = ap begins_expression (sym f) ∙ e in cc

no_end : (s : Symbol) → begins_expression s ≡ true → s ≢ symbol.CloseBrace
no_end s e f = let g : begins_expression symbol.CloseBrace ≡ true = ap begins_expression (sym f) ∙ e in cc

-- what a list of values begins with

module _ (n : ℕ) (right : RightExpressions n) where
  abbrev value_parts : Expr × Tail Expr → List Part
  value_parts x = node (a.expr x.0) ∷ tail_parts a.expr x.1.0 x.1.1

  value_ends : (x : Expr) (ps : List Part) (c : ℕ) (u s : List Spot) → Spells (node (a.expr x) ∷ ps) c u → ahead (u ++ s) ≢ symbol.CloseBrace
  value_ends x ps c u s sp = no_end (ahead (u ++ s)) (spells_starts s sp)

  abbrev values_parts : List Expr → List Part
  values_parts vs = node (a.values vs) ∷ word symbol.CloseBrace ∷ []

  pub values_right : Reads values_parts n always (values_at n)
  unfolding values_at braced_at
  values_right i ends =
      then_word symbol.CloseBrace (λ g. cc) (λ (vs : List Expr). node (a.values vs) ∷ []) n closes (λ vs. refl) i _
      (braced_as a.expr n ends_expression refl refl (expression_at n) value_ends right.expression
      {of_y = λ (vs : List Expr). node (a.values vs) ∷ []} {limit' = n} {stops_y = closes} {i = i}
      (early_seen a.values value_parts n closes closes [] i front_of by_rule which) ends)
    where
      by_rule : (x : Expr × Tail Expr) → Rule (a.values (front_of x)) (value_parts x) []
      by_rule (e, (es, true)) = subst (λ (ps : List Part). Rule (a.values (e ∷ es)) (node (a.expr e) ∷ ps) []) (sym (tail_true a.expr es)) rule.values_and_comma
      by_rule (e, (es, false)) = subst (λ (ps : List Part). Rule (a.values (e ∷ es)) (node (a.expr e) ∷ ps) []) (sym (tail_false a.expr es)) rule.values

      which : (vs : List Expr) (early late : List Part) (c1 c2 : ℕ) (u1 u2 s r : List Spot) → Rule (a.values vs) early late → Spells early c1 u1 → Spells late c2 u2 → Stops closes vs s
          → (u1 ++ u2) ++ s ≡ r → first r ≡ first i → Chosen value_parts no_parts closes front_of vs early late s
      which vs early late c1 c2 u1 u2 s r (rule.values {value = e} {values = es}) sp sq st eq h =
          record { a = (e, (es, false)); same = refl; is_early = ap (λ (ps : List Part). node (a.expr e) ∷ ps) (sym (tail_false a.expr es)); is_late = refl; stops = st }
      which vs early late c1 c2 u1 u2 s r (rule.values_and_comma {value = e} {values = es}) sp sq st eq h =
          record { a = (e, (es, true)); same = refl; is_early = ap (λ (ps : List Part). node (a.expr e) ∷ ps) (sym (tail_true a.expr es)); is_late = refl; stops = st }

  -- ---- rows

  abbrev row_parts : Unit {0} × List Expr → List Part
  row_parts x = word symbol.OpenBrace ∷ values_parts x.1

  abbrev row_with : Unit {0} × List Expr → Row
  row_with x = row_of x.1

  row_right : Reads (λ (r : Row). node (a.row r) ∷ []) n always (row_at n)
  unfolding row_at
  row_right i ends =
      by_seen (early_seen a.row row_parts n always always [] i row_with (λ x. rule.row {r = row_with x}) which)
      (both (word_at symbol.OpenBrace) (values_at n) i)
      (Right-both (λ (u : Unit {0}). word symbol.OpenBrace ∷ []) values_parts n always always (λ l u c v s sp st. refl) []
      (word_at symbol.OpenBrace) (values_at n) [] i (word_right symbol.OpenBrace (λ g. cc) n i ends) values_right)
    where
      which : (x : Row) (early late : List Part) (c1 c2 : ℕ) (u1 u2 s r : List Spot) → Rule (a.row x) early late → Spells early c1 u1 → Spells late c2 u2 → Stops always x s
          → (u1 ++ u2) ++ s ≡ r → first r ≡ first i → Chosen row_parts no_parts always row_with x early late s
      which x early late c1 c2 u1 u2 s r rule.row sp sq st eq h = record { a = (tt, x.values); same = refl; is_early = refl; is_late = refl; stops = refl }

  row_ends : (x : Row) (ps : List Part) (c : ℕ) (u s : List Spot) → Spells (node (a.row x) ∷ ps) c u → ahead (u ++ s) ≢ symbol.CloseBrace
  row_ends x ps c u s sp f = let g : symbol.OpenBrace ≡ symbol.CloseBrace = sym (row_begins s sp) ∙ f in cc

  abbrev rows_parts : Row × Tail Row → List Part
  rows_parts x = (node (a.row x.0) ∷ tail_parts a.row x.1.0 x.1.1) ++ word symbol.CloseBrace ∷ []

  abbrev rows_of : Row × Tail Row → Init
  rows_of x = init.Rows (front_of x)

  abbrev closed_rows : List Spot → Result ((Row × Tail Row) × List Spot) Fault
  closed_rows i = closed_at a.row n (λ s. true) refl refl (row_at n) row_ends row_right i

  -- ---- initialisers

  abbrev start_node : Init → List Part
  start_node x = node (a.start x) ∷ []

  -- no initialiser
  none : (i : List Spot) → Ends i → ahead i ≢ symbol.Equal → Right start_node n stops_start [] i (Ok (init.Nothing, i))
  none i ends ne = no_node a.start n stops_start i init.Nothing ends rule.nothing which
    where
      which : (x : Init) (early late : List Part) (c1 c2 : ℕ) (u1 u2 s r : List Spot) → Rule (a.start x) early late → Spells early c1 u1 → Spells late c2 u2 → Stops stops_start x s
          → (u1 ++ u2) ++ s ≡ r → first r ≡ first i → Chosen {A = Unit {0}} no_parts no_parts always (λ u. init.Nothing) x early late s
      which x early late c1 c2 u1 u2 s r rule.nothing sp sq st eq h = record { a = tt; same = refl; is_early = refl; is_late = refl; stops = refl }
      which x early late c1 c2 u1 u2 s r rule.one sp sq st eq h = absurd (ne (rule_ahead u1 u2 s r i sp eq h))
      which x early late c1 c2 u1 u2 s r rule.flat sp sq st eq h = absurd (ne (rule_ahead u1 u2 s r i sp eq h))
      which x early late c1 c2 u1 u2 s r rule.rows sp sq st eq h = absurd (ne (rule_ahead u1 u2 s r i sp eq h))
      which x early late c1 c2 u1 u2 s r rule.rows_and_comma sp sq st eq h = absurd (ne (rule_ahead u1 u2 s r i sp eq h))

  -- the second token of a rule
  second : {t : Token} {p : Token} {ps : List Part} {d : ℕ} (c : Spot) (u1 u2 s r i : List Spot) → Spells (token t ∷ token p ∷ ps) d u1 → (u1 ++ u2) ++ s ≡ c ∷ r → first r ≡ first i → ahead i ≡ symbol_of_token p
  second c u1 u2 s r i sp eq h = let k = rule_next c u1 u2 s r sp eq in ahead_is (u2 ++ s) r i k.spelled k.tokens h

  -- one value
  value : (c : Spot) (cs : List Spot) → Ends (c ∷ cs) → c.symbol ≡ symbol.Equal → ahead cs ≢ symbol.OpenBrace → Right start_node n stops_start [] (c ∷ cs) (seen_by value_of (expression_at n cs))
  value c cs ends is ne =
      word_then symbol.Equal (λ g. cc) (λ (e : Expr). node (a.expr e) ∷ []) start_node n stops_expression stops_start value_of c cs is ends
      (early_seen a.start (λ (e : Expr). word symbol.Equal ∷ node (a.expr e) ∷ []) n stops_expression stops_start (c ∷ []) cs value_of (λ e. rule.one) which)
      (expression_at n cs) (right.expression cs (ends_after c cs is (λ g. cc) ends))
    where
      which : (x : Init) (early late : List Part) (c1 c2 : ℕ) (u1 u2 s r : List Spot) → Rule (a.start x) early late → Spells early c1 u1 → Spells late c2 u2 → Stops stops_start x s
          → (u1 ++ u2) ++ s ≡ c ∷ r → first r ≡ first cs → Chosen (λ (e : Expr). word symbol.Equal ∷ node (a.expr e) ∷ []) no_parts stops_expression value_of x early late s
      which x early late c1 c2 u1 u2 s r rule.nothing sp sq st eq h = absurd (no_equal (ahead s) st (ap ahead (rule_nothing u1 u2 s (c ∷ r) sp sq eq) ∙ is))
      which x early late c1 c2 u1 u2 s r (rule.one {value = e}) sp sq st eq h = record { a = e; same = refl; is_early = refl; is_late = refl; stops = start_expression (ahead s) st }
      which x early late c1 c2 u1 u2 s r rule.flat sp sq st eq h = absurd (ne (second c u1 u2 s r cs sp eq h))
      which x early late c1 c2 u1 u2 s r rule.rows sp sq st eq h = absurd (ne (second c u1 u2 s r cs sp eq h))
      which x early late c1 c2 u1 u2 s r rule.rows_and_comma sp sq st eq h = absurd (ne (second c u1 u2 s r cs sp eq h))

  -- what a rule has after two tokens
  third : {t p : Token} {q : Part} {ps : List Part} {d : ℕ} (c o : Spot) (u1 u2 s r i : List Spot) (P : Symbol → Type 0) → Spells (token t ∷ token p ∷ q ∷ ps) d u1 → (u1 ++ u2) ++ s ≡ c ∷ o ∷ r → first r ≡ first i
      → ((w z : List Spot) → Spells (q ∷ ps) d w → P (ahead (w ++ z))) → P (ahead i)
  third c o u1 u2 s r i P sp eq h holds =
      let k = rule_next c u1 u2 s (o ∷ r) sp eq in
      let e : (k.w ++ []) ++ (u2 ++ s) ≡ o ∷ r = ap (λ (w : List Spot). w ++ (u2 ++ s)) (append-nil k.w) ∙ k.tokens in
      let l = rule_next o k.w [] (u2 ++ s) r k.spelled e in
      subst P (ap ahead l.tokens ∙ ahead-same r i h) (holds l.w ([] ++ (u2 ++ s)) l.spelled)

  -- values in braces
  flat : (c o : Spot) (cs : List Spot) → Ends cs → c.symbol ≡ symbol.Equal → o.symbol ≡ symbol.OpenBrace → ahead cs ≢ symbol.OpenBrace → Right start_node n stops_start [] (c ∷ o ∷ cs) (seen_by init.Flat (values_at n cs))
  flat c o cs ends is is2 ne =
      two_words_then symbol.Equal symbol.OpenBrace values_parts start_node n always stops_start init.Flat c o cs is is2 ends
      (early_seen a.start (λ (vs : List Expr). word symbol.Equal ∷ word symbol.OpenBrace ∷ values_parts vs) n always stops_start (c ∷ o ∷ []) cs init.Flat (λ vs. rule.flat) which)
      (values_at n cs) (values_right cs ends)
    where
      which : (x : Init) (early late : List Part) (c1 c2 : ℕ) (u1 u2 s r : List Spot) → Rule (a.start x) early late → Spells early c1 u1 → Spells late c2 u2 → Stops stops_start x s
          → (u1 ++ u2) ++ s ≡ c ∷ o ∷ r → first r ≡ first cs → Chosen (λ (vs : List Expr). word symbol.Equal ∷ word symbol.OpenBrace ∷ values_parts vs) no_parts always init.Flat x early late s
      which x early late c1 c2 u1 u2 s r rule.nothing sp sq st eq h = absurd (no_equal (ahead s) st (ap ahead (rule_nothing u1 u2 s (c ∷ o ∷ r) sp sq eq) ∙ is))
      which x early late c1 c2 u1 u2 s r (rule.one {value = e}) sp sq st eq h =
          let k = rule_next c u1 u2 s (o ∷ r) sp eq in
          absurd (no_brace (ahead (k.w ++ (u2 ++ s))) (spells_starts (u2 ++ s) k.spelled) (ap ahead k.tokens ∙ is2))
      which x early late c1 c2 u1 u2 s r (rule.flat {values = vs}) sp sq st eq h = record { a = vs; same = refl; is_early = refl; is_late = refl; stops = refl }
      which x early late c1 c2 u1 u2 s r rule.rows sp sq st eq h = absurd (ne (third c o u1 u2 s r cs (λ s. s ≡ symbol.OpenBrace) sp eq h (λ w z sp. row_begins z sp)))
      which x early late c1 c2 u1 u2 s r rule.rows_and_comma sp sq st eq h = absurd (ne (third c o u1 u2 s r cs (λ s. s ≡ symbol.OpenBrace) sp eq h (λ w z sp. row_begins z sp)))

  -- rows in braces
  many_rows : (c o : Spot) (cs : List Spot) → Ends cs → c.symbol ≡ symbol.Equal → o.symbol ≡ symbol.OpenBrace → ahead cs ≡ symbol.OpenBrace → Right start_node n stops_start [] (c ∷ o ∷ cs) (seen_by init.Rows (rows_at n cs))
  unfolding rows_at
  many_rows c o cs ends is is2 brace =
      subst (Right start_node n stops_start [] (c ∷ o ∷ cs)) (sym (ap (seen_by init.Rows) (closed_is a.row n (λ s. true) refl refl (row_at n) row_ends row_right cs) ∙ seen_twice front_of init.Rows (closed_rows cs)))
      (two_words_then symbol.Equal symbol.OpenBrace rows_parts start_node n always stops_start rows_of c o cs is is2 ends
      (early_seen a.start (λ (x : Row × Tail Row). word symbol.Equal ∷ word symbol.OpenBrace ∷ rows_parts x) n always stops_start (c ∷ o ∷ []) cs rows_of by_rule which)
      (closed_rows cs) (closed_right a.row n (λ s. true) refl refl (row_at n) row_ends row_right cs ends))
    where
      with_comma : (x : Row) (xs : List Row) → separated a.row x xs ++ word symbol.Comma ∷ word symbol.CloseBrace ∷ [] ≡ rows_parts (x, (xs, true))
      with_comma x xs =
          let e : (followed a.row xs ++ word symbol.Comma ∷ []) ++ word symbol.CloseBrace ∷ [] ≡ followed a.row xs ++ word symbol.Comma ∷ word symbol.CloseBrace ∷ [] = append_assoc (followed a.row xs) (word symbol.Comma ∷ []) (word symbol.CloseBrace ∷ []) in
          ap (λ (ps : List Part). node (a.row x) ∷ ps) (sym e ∙ ap (λ (ps : List Part). ps ++ word symbol.CloseBrace ∷ []) (sym (tail_true a.row xs)))

      with_none : (x : Row) (xs : List Row) → separated a.row x xs ++ word symbol.CloseBrace ∷ [] ≡ rows_parts (x, (xs, false))
      with_none x xs = ap (λ (ps : List Part). node (a.row x) ∷ (ps ++ word symbol.CloseBrace ∷ [])) (sym (tail_false a.row xs))

      by_rule : (x : Row × Tail Row) → Rule (a.start (rows_of x)) (word symbol.Equal ∷ word symbol.OpenBrace ∷ rows_parts x) []
      by_rule (x, (xs, true)) = subst (λ (ps : List Part). Rule (a.start (init.Rows (x ∷ xs))) (word symbol.Equal ∷ word symbol.OpenBrace ∷ ps) []) (with_comma x xs) rule.rows_and_comma
      by_rule (x, (xs, false)) = subst (λ (ps : List Part). Rule (a.start (init.Rows (x ∷ xs))) (word symbol.Equal ∷ word symbol.OpenBrace ∷ ps) []) (with_none x xs) rule.rows

      which : (x : Init) (early late : List Part) (c1 c2 : ℕ) (u1 u2 s r : List Spot) → Rule (a.start x) early late → Spells early c1 u1 → Spells late c2 u2 → Stops stops_start x s
          → (u1 ++ u2) ++ s ≡ c ∷ o ∷ r → first r ≡ first cs → Chosen (λ (x : Row × Tail Row). word symbol.Equal ∷ word symbol.OpenBrace ∷ rows_parts x) no_parts always rows_of x early late s
      which x early late c1 c2 u1 u2 s r rule.nothing sp sq st eq h = absurd (no_equal (ahead s) st (ap ahead (rule_nothing u1 u2 s (c ∷ o ∷ r) sp sq eq) ∙ is))
      which x early late c1 c2 u1 u2 s r (rule.one {value = e}) sp sq st eq h =
          let k = rule_next c u1 u2 s (o ∷ r) sp eq in
          absurd (no_brace (ahead (k.w ++ (u2 ++ s))) (spells_starts (u2 ++ s) k.spelled) (ap ahead k.tokens ∙ is2))
      which x early late c1 c2 u1 u2 s r rule.flat sp sq st eq h =
          absurd (third c o u1 u2 s r cs (λ s. s ≢ symbol.OpenBrace) sp eq h (λ w z sp. no_brace (ahead (w ++ z)) (spells_starts z sp)) brace)
      which x early late c1 c2 u1 u2 s r (rule.rows {row = y} {rows = ys}) sp sq st eq h =
          record { a = (y, (ys, false)); same = refl; is_early = ap (λ (ps : List Part). word symbol.Equal ∷ word symbol.OpenBrace ∷ ps) (with_none y ys); is_late = refl; stops = refl }
      which x early late c1 c2 u1 u2 s r (rule.rows_and_comma {row = y} {rows = ys}) sp sq st eq h =
          record { a = (y, (ys, true)); same = refl; is_early = ap (λ (ps : List Part). word symbol.Equal ∷ word symbol.OpenBrace ∷ ps) (with_comma y ys); is_late = refl; stops = refl }

  given : (c : Spot) (cs : List Spot) → Ends (c ∷ cs) → c.symbol ≡ symbol.Equal → Right start_node n stops_start [] (c ∷ cs) (initialiser_at n cs)
  unfolding initialiser_at
  given c [] ends is = absurd (ends_after c [] is (λ g. cc) ends)
  given c (o ∷ cs) ends is =
      Right-if start_node n stops_start [] (c ∷ o ∷ cs) (same_symbol o.symbol symbol.OpenBrace)
      (if same_symbol (ahead cs) symbol.OpenBrace then seen_by init.Rows (rows_at n cs) else seen_by init.Flat (values_at n cs)) (seen_by value_of (expression_at n (o ∷ cs)))
      (λ e.
      let brace = same-is o.symbol symbol.OpenBrace e in
      let left : Ends cs = ends_after o cs brace (λ g. cc) (ends_after c (o ∷ cs) is (λ g. cc) ends) in
      Right-if start_node n stops_start [] (c ∷ o ∷ cs) (same_symbol (ahead cs) symbol.OpenBrace) (seen_by init.Rows (rows_at n cs)) (seen_by init.Flat (values_at n cs))
      (λ f. many_rows c o cs left is brace (same-is (ahead cs) symbol.OpenBrace f))
      (λ f. flat c o cs left is brace (other-is (ahead cs) symbol.OpenBrace f)))
      (λ e. value c (o ∷ cs) ends is (other-is o.symbol symbol.OpenBrace e))

  pub start_right : Reads start_node n stops_start (start_at n)
  unfolding start_at
  start_right [] ends = absurd ends
  start_right (c ∷ cs) ends =
      Right-if start_node n stops_start [] (c ∷ cs) (same_symbol c.symbol symbol.Equal) (initialiser_at n cs) (Ok (init.Nothing, c ∷ cs))
      (λ e. given c cs ends (same-is c.symbol symbol.Equal e)) (λ e. none (c ∷ cs) ends (other-is c.symbol symbol.Equal e))

-- ---- views

abbrev view_node : Init → List Part
view_node x = node (a.view_start x) ∷ []

module _ (n : ℕ) (right : RightExpressions n) where
  pub view_start_right : Reads view_node n stops_start (view_start_at n)
  unfolding view_start_at
  view_start_right [] ends = absurd ends
  view_start_right (c ∷ cs) ends =
      Right-if view_node n stops_start [] (c ∷ cs) (same_symbol c.symbol symbol.Equal) (seen_by init.One (argument_at n cs)) (Ok (init.Nothing, c ∷ cs))
      (λ e. there (same-is c.symbol symbol.Equal e))
      (λ e. no_node a.view_start n stops_start (c ∷ cs) init.Nothing ends rule.view_nothing (not_there (other-is c.symbol symbol.Equal e)))
    where
      there : c.symbol ≡ symbol.Equal → Right view_node n stops_start [] (c ∷ cs) (seen_by init.One (argument_at n cs))
      there is =
          word_then symbol.Equal (λ g. cc) (λ (x : Arg). node (a.arg x) ∷ []) view_node n (λ x s. ends_expression s) stops_start init.One c cs is ends
          (early_seen a.view_start (λ (x : Arg). word symbol.Equal ∷ node (a.arg x) ∷ []) n (λ x s. ends_expression s) stops_start (c ∷ []) cs init.One (λ x. rule.view_one) which)
          (argument_at n cs) (right.argument cs (ends_after c cs is (λ g. cc) ends))
        where
          which : (x : Init) (early late : List Part) (c1 c2 : ℕ) (u1 u2 s r : List Spot) → Rule (a.view_start x) early late → Spells early c1 u1 → Spells late c2 u2 → Stops stops_start x s
              → (u1 ++ u2) ++ s ≡ c ∷ r → first r ≡ first cs → Chosen (λ (x : Arg). word symbol.Equal ∷ node (a.arg x) ∷ []) no_parts (λ x s. ends_expression s) init.One x early late s
          which x early late c1 c2 u1 u2 s r rule.view_nothing sp sq st eq h = absurd (no_equal (ahead s) st (ap ahead (rule_nothing u1 u2 s (c ∷ r) sp sq eq) ∙ is))
          which x early late c1 c2 u1 u2 s r (rule.view_one {value = y}) sp sq st eq h = record { a = y; same = refl; is_early = refl; is_late = refl; stops = start_expression (ahead s) st }

      not_there : c.symbol ≢ symbol.Equal → (x : Init) (early late : List Part) (c1 c2 : ℕ) (u1 u2 s r : List Spot) → Rule (a.view_start x) early late → Spells early c1 u1 → Spells late c2 u2 → Stops stops_start x s
          → (u1 ++ u2) ++ s ≡ r → first r ≡ Some c → Chosen {A = Unit {0}} no_parts no_parts always (λ u. init.Nothing) x early late s
      not_there ne x early late c1 c2 u1 u2 s r rule.view_nothing sp sq st eq h = record { a = tt; same = refl; is_early = refl; is_late = refl; stops = refl }
      not_there ne x early late c1 c2 u1 u2 s r rule.view_one sp sq st eq h = absurd (ne (rule_ahead u1 u2 s r (c ∷ cs) sp eq h))

-- ---- what is ahead of an initialiser, or after none

-- `=`, or what may follow a declarator
abbrev pub ends_name : Symbol → Bool
ends_name symbol.Equal = true
ends_name symbol.Comma = true
ends_name symbol.Semicolon = true
ends_name _ = false

start_name : (s : Symbol) → ends_start s ≡ true → ends_name s ≡ true
start_name = among ends_start ends_name refl

pub start_then : {x : Init} {ps : List Part} {c : ℕ} {w : List Spot} (P : Symbol → Bool) (s : List Spot) → P symbol.Equal ≡ true → ((d : ℕ) (v : List Spot) → Spells ps d v → P (ahead (v ++ s)) ≡ true)
    → Spells (node (a.start x) ∷ ps) c w → P (ahead (w ++ s)) ≡ true
start_then {w = w} P s equal holds (whole {d = d} {u1 = u1} {u2 = u2} {v = v} rule.nothing early late rest e _) = ap P (nothing_ahead u1 u2 v w s e early late) ∙ holds d v rest
start_then {w = w} P s equal holds (whole {u1 = u1} {u2 = u2} {v = v} rule.one early late rest e _) = ap P (early_token u1 u2 v w s e early) ∙ equal
start_then {w = w} P s equal holds (whole {u1 = u1} {u2 = u2} {v = v} rule.flat early late rest e _) = ap P (early_token u1 u2 v w s e early) ∙ equal
start_then {w = w} P s equal holds (whole {u1 = u1} {u2 = u2} {v = v} rule.rows early late rest e _) = ap P (early_token u1 u2 v w s e early) ∙ equal
start_then {w = w} P s equal holds (whole {u1 = u1} {u2 = u2} {v = v} rule.rows_and_comma early late rest e _) = ap P (early_token u1 u2 v w s e early) ∙ equal

pub start_begins : {x : Init} {c : ℕ} {w : List Spot} (s : List Spot) → Spells (node (a.start x) ∷ []) c w → ends_start (ahead s) ≡ true → ends_name (ahead (w ++ s)) ≡ true
start_begins s sp st = start_then ends_name s refl (λ d v none. follows_nothing ends_name s none (start_name (ahead s) st)) sp
