-- What stands in the brackets of statements is read rightly.
use Rattle.std.proofs.Common.{◌≡◌, ◌≢◌, ℕ, suc, Bool, true, false, List, [], ◌∷◌, ◌++◌, length, Option, None, ◌⊎◌, inl, inr, refl, ap, subst, ◌∙◌, sym, arith}
use Rattle.std.specs.Prelude.{Result, Ok, Err, if◌then◌else◌}
use Rattle.sat_base.specs.declared.name.At.{At}
use Rattle.c_tree.specs.declared.expression.Expr.{Expr}
use Rattle.c_tree.specs.declared.simple.Simple.{Simple}
use Rattle.c_grammar.specs.declared.symbol.Symbol.{Symbol}
use Rattle.c_grammar.specs.declared.symbol.Symbol.TheVariants as symbol
use Rattle.c_grammar.specs.Grammar.{Rule}
use Rattle.c_grammar.specs.Grammar as rule
use Rattle.c_grammar.specs.Nodes as a
use Rattle.c_grammar.specs.Parts.{Part, node, word, followed}
use Rattle.right_reading.specs.ReadExpressions.{expression_at}
use Rattle.right_reading.specs.Lists.{after, is_comma, more_listed}
use Rattle.right_reading.specs.ReadStatements.{closed, simple_at, simples_at, condition_at, simples_before_at, some_expression, expression_before_semicolon_at}
use Rattle.c_grammar.specs.Spots.{Spot}
use Rattle.right_reading.specs.Stream.{ahead, rest, Fault, Parser, ◌>>=◌, both, take_at}
use Rattle.c_grammar.specs.Symbols.{same_symbol, begins_expression}
use Rattle.right_reading.proofs.Ahead.Begins.{begins_simple, spells_starts}
use Rattle.right_reading.proofs.Lists.Listed.{listed_right}
use Rattle.right_reading.proofs.Lists.Many.{one_and_many}
use Rattle.statement_reading.proofs.Statements.Maybes.{Absent, Present, maybe_right}
use Rattle.right_reading.specs.Right.{Ends, Right, always, Reads}
use Rattle.statement_reading.proofs.Simples.SimpleMarks.{any_simple, ends_simple, stops_simple}
use Rattle.c_grammar.proofs.SymbolNumbers.{same-is}
use Rattle.right_reading.proofs.OneToken.Words.{after_right, closed_right}
use Rattle.right_reading.specs.Stops.{stops_expression}
use Rattle.c_grammar.proofs.SymbolSets.{among}
use Rattle.right_reading.proofs.Composed.Dependent.{seen_by}
use Rattle.right_reading.proofs.OneToken.Tokens.{any_expression}

-- two symbols differ where a test tells them apart
pub apart_by : (P : Symbol → Bool) (s t : Symbol) → P s ≡ true → P t ≡ false → same_symbol s t ≡ false
apart_by P s t yes_s no_t = step (same_symbol s t) refl
  where
    step : (b : Bool) → same_symbol s t ≡ b → b ≡ false
    step true e = let k : P t ≡ true = subst (λ (x : Symbol). P x ≡ true) (same-is s t e) yes_s in absurd (cc (k, no_t))
    step false e = refl

-- ---- lists with commas

-- what may follow a list of them: neither a comma nor what begins one
abbrev pub ends_simples : Symbol → Bool
ends_simples symbol.Semicolon = true
ends_simples symbol.CloseParen = true
ends_simples _ = false

simples_end : (s : Symbol) → ends_simples s ≡ true → ends_simple s ≡ true
simples_end = among ends_simples ends_simple refl

abbrev of_simple : Simple → List Part
of_simple x = node (a.simple x) ∷ []

abbrev of_separated : Simple × List Simple → List Part
of_separated z = node (a.simple z.0) ∷ followed a.simple z.1

abbrev stops_separated : Simple × List Simple → Symbol → Bool
stops_separated z s = ends_simples s

abbrev separated_simples : Simple × List Simple → List Simple
separated_simples z = z.0 ∷ z.1

-- the list as its first part and the others
abbrev pairs_at : ℕ → Parser (Simple × List Simple)
pairs_at n = both (simple_at n) (more_listed (simple_at n) [])

pairs-same : (n : ℕ) (i : List Spot) → seen_by separated_simples (pairs_at n i) ≡ simples_at n i
unfolding simples_at
pairs-same n i = sym (one_and_many is_comma (after symbol.Comma (simple_at n)) (λ j. suc (length j)) (simple_at n i))

simples_cases : (xs : List Simple) (early late : List Part) → Rule (a.simples xs) early late → Absent [] xs early late ⊎ Present separated_simples of_separated xs early late
simples_cases xs early late rule.no_simples = inl (refl, refl, refl)
simples_cases xs early late (rule.simples {x = y} {xs = ys}) = inr ((y, ys), refl, refl, refl)

module _ (n : ℕ) (simple_right : Reads (λ (x : Simple). node (a.simple x) ∷ []) n stops_simple (simple_at n)) where
  pairs_right : Reads of_separated n stops_separated (pairs_at n)
  pairs_right = listed_right a.simple n stops_simple ends_simples refl (λ x. refl) (λ x s e. simples_end s e) (simple_at n) simple_right (λ j. suc (length j)) (λ j. omega arith)

  -- none or more before a mark
  pub simples_before_right : (mark : Symbol) → mark ≢ symbol.End → ends_simples mark ≡ true → begins_simple mark ≡ false → (i : List Spot) → Ends i
      → Right (λ (xs : List Simple). node (a.simples xs) ∷ word mark ∷ []) n always [] i (simples_before_at mark n i)
  unfolding simples_before_at
  simples_before_right mark more may other i ends =
      let r = maybe_right a.simples of_separated [] separated_simples n stops_separated mark more (any_simple, []) rule.no_simples (λ z. rule.simples) simples_cases
      (λ z c v s sp. apart_by begins_simple (ahead (v ++ s)) mark (spells_starts s sp) other) (λ z. may) (pairs_at n) pairs_right i ends in
      subst (λ (y : Result (List Simple × List Spot) Fault). Right (λ (xs : List Simple). node (a.simples xs) ∷ word mark ∷ []) n always [] i (if same_symbol (ahead i) mark then Ok ([], rest i) else y)) (same i) r
    where
      closing : (y : Result ((Simple × List Simple) × List Spot) Fault)
          → seen_by separated_simples (y >>= (λ x. take_at mark x.1 >>= (λ z. Ok (x.0, z.1)))) ≡ (seen_by separated_simples y >>= (λ x. take_at mark x.1 >>= (λ z. Ok (x.0, z.1))))
      closing (Err f) = refl
      closing (Ok x) = last (take_at mark x.1)
        where
          last : (y : Result (At × List Spot) Fault) → seen_by separated_simples (y >>= (λ z. Ok (x.0, z.1))) ≡ (y >>= (λ z. Ok (separated_simples x.0, z.1)))
          last (Ok z) = refl
          last (Err f) = refl

      same : (i : List Spot) → seen_by separated_simples (closed (pairs_at n) mark i) ≡ closed (simples_at n) mark i
      same i = closing (pairs_at n i) ∙ ap (λ (y : Result (List Simple × List Spot) Fault). y >>= (λ x. take_at mark x.1 >>= (λ z. Ok (x.0, z.1)))) (pairs-same n i)

-- ---- expressions

abbrev of_expression : Expr → List Part
of_expression e = node (a.expr e) ∷ []

expression_cases : (e : Option Expr) (early late : List Part) → Rule (a.maybe_expr e) early late → Absent None e early late ⊎ Present some_expression of_expression e early late
expression_cases e early late rule.no_expr = inl (refl, refl, refl)
expression_cases e early late (rule.an_expr {e = x}) = inr (x, refl, refl, refl)

module _ (n : ℕ) (expression_right : Reads (λ (e : Expr). node (a.expr e) ∷ []) n stops_expression (expression_at n)) where
  -- none or one before a `;`
  pub expression_before_right : (i : List Spot) → Ends i
      → Right (λ (e : Option Expr). node (a.maybe_expr e) ∷ word symbol.Semicolon ∷ []) n always [] i (expression_before_semicolon_at n i)
  unfolding expression_before_semicolon_at
  expression_before_right i ends =
      let more : symbol.Semicolon ≢ symbol.End = λ e. cc in
      maybe_right a.maybe_expr of_expression None some_expression n stops_expression symbol.Semicolon more any_expression rule.no_expr (λ e. rule.an_expr) expression_cases
      (λ e c v s sp. apart_by begins_expression (ahead (v ++ s)) symbol.Semicolon (spells_starts s sp) refl) (λ e. refl) (expression_at n) expression_right i ends

  -- one in brackets
  pub condition_right : (i : List Spot) → Ends i
      → Right (λ (e : Expr). word symbol.OpenParen ∷ node (a.expr e) ∷ word symbol.CloseParen ∷ []) n always [] i (condition_at n i)
  unfolding condition_at
  condition_right i ends =
      let first : symbol.OpenParen ≢ symbol.End = λ e. cc in
      let last : symbol.CloseParen ≢ symbol.End = λ e. cc in
      after_right (λ (e : Expr). node (a.expr e) ∷ word symbol.CloseParen ∷ []) n always symbol.OpenParen first any_expression (closed (expression_at n) symbol.CloseParen)
      (λ j ends_j. closed_right of_expression n stops_expression symbol.CloseParen last any_expression (expression_at n) (λ e. refl) j (expression_right j ends_j)) i ends
