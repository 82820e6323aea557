-- Reading what follows the name of a function.
use Rattle.std.proofs.Common.{◌≡◌, ◌≢◌, ℕ, List, [], ◌∷◌, ◌++◌, Option, Some, None, refl, ap, ◌∙◌, sym}
use Rattle.std.proofs.lemmas.List.{append_assoc}
use Rattle.std.specs.Prelude.{Ok}
use Rattle.c_tree.specs.declared.function.Param.{Param}
use Rattle.c_tree.specs.declared.statement.Block.{Block}
use Rattle.c_grammar.specs.declared.symbol.Symbol.{Symbol}
use Rattle.c_grammar.specs.declared.symbol.Symbol.TheVariants as symbol
use Rattle.c_grammar.specs.Grammar.{Rule}
use Rattle.c_grammar.specs.Grammar as rule
use Rattle.c_grammar.specs.Nodes as a
use Rattle.c_grammar.specs.Parts.{Part, node, word}
use Rattle.right_reading.specs.ReadDeclarations.{word_at}
use Rattle.right_reading.specs.ReadSource.{params_at, body_at}
use Rattle.c_grammar.specs.Spelling.{Spells}
use Rattle.c_grammar.specs.Spots.{Spot}
use Rattle.right_reading.specs.Stream.{ahead, Parser, both}
use Rattle.c_grammar.specs.Symbols.{same_symbol}
use Rattle.right_reading.proofs.Composed.Alternatives.{by_seen, nothing_right, word_right, ends_after, after_word}
use Rattle.right_reading.proofs.Ahead.Begins.{block_begins}
use Rattle.right_reading.proofs.Composed.Dependent.{seen_by}
use Rattle.right_reading.proofs.OneToken.Endings.{rule_ahead}
use Rattle.item_reading.proofs.FunctionParts.ParametersRight.{closes_params, params_right}
use Rattle.right_reading.specs.Right.{first, Ends, Stops, Right, always, Reads}
use Rattle.right_reading.specs.RightExpressions.{RightExpressions}
use Rattle.right_reading.proofs.Composed.Rules.{Chosen, no_parts, early_seen, token-ahead}
use Rattle.c_grammar.proofs.Sequences.{from_nothing}
use Rattle.right_reading.proofs.Composed.Steps.{Right-both}
use Rattle.c_grammar.proofs.SymbolNumbers.{same-is, other-is}
use Rattle.right_reading.proofs.OneToken.Tokens.{Right-if, ahead-same}

-- `(`, the parameters, `)` and the body
abbrev pub FunctionRest : Type 0
FunctionRest = Unit {0} × (List Param × (Unit {0} × Option Block))

abbrev body_node : Option Block → List Part
body_node b = node (a.body b) ∷ []

abbrev closing : Unit {0} × Option Block → List Part
closing x = word symbol.CloseParen ∷ node (a.body x.1) ∷ []

abbrev with_params : List Param × (Unit {0} × Option Block) → List Part
with_params x = node (a.params x.0) ∷ word symbol.CloseParen ∷ node (a.body x.1.1) ∷ []

abbrev pub function_rest : FunctionRest → List Part
function_rest x = word symbol.OpenParen ∷ node (a.params x.1.0) ∷ word symbol.CloseParen ∷ node (a.body x.1.1.1) ∷ []

abbrev pub read_function : Parser Block → ℕ → Parser FunctionRest
read_function block n = both (word_at symbol.OpenParen) (both (params_at n) (both (word_at symbol.CloseParen) (body_at block)))

module _ (n : ℕ) (block : Parser Block)
    (block_right : Reads (λ (b : Block). node (a.block b) ∷ []) n always block) where
  body_right : Reads body_node n always (body_at block)
  unfolding body_at
  body_right [] ends = absurd ends
  body_right (c ∷ cs) ends =
      Right-if body_node n always [] (c ∷ cs) (same_symbol c.symbol symbol.Semicolon) (Ok (None, cs)) (seen_by (λ (b : Block). Some b) (block (c ∷ cs)))
      (λ e. declared (same-is c.symbol symbol.Semicolon e)) (λ e. by_seen (early_seen a.body (λ (b : Block). node (a.block b) ∷ []) n always always [] (c ∷ cs) (λ (b : Block). Some b) (λ b. rule.defined) (defined (other-is c.symbol symbol.Semicolon e))) (block (c ∷ cs)) (block_right (c ∷ cs) ends))
    where
      declared : c.symbol ≡ symbol.Semicolon → Right body_node n always [] (c ∷ cs) (Ok (None, cs))
      declared is =
          by_seen (early_seen a.body (λ (u : Unit {0}). word symbol.Semicolon ∷ []) n always always [] (c ∷ cs) (λ u. None) (λ u. rule.declared) which) (Ok (tt, cs))
          (after_word symbol.Semicolon (λ g. cc) (λ (u : Unit {0}). []) n always c cs is ends (Ok (tt, cs))
          (nothing_right (λ (u : Unit {0}). []) n always cs tt (ends_after c cs is (λ g. cc) ends) refl (λ x d v t r sp st e h. (refl, (from_nothing sp).tokens))))
        where
          which : (x : Option Block) (early late : List Part) (c1 c2 : ℕ) (u1 u2 s r : List Spot) → Rule (a.body x) early late → Spells early c1 u1 → Spells late c2 u2 → Stops always x s
              → (u1 ++ u2) ++ s ≡ r → first r ≡ Some c → Chosen {A = Unit {0}} (λ u. word symbol.Semicolon ∷ []) no_parts always (λ u. None) x early late s
          which x early late c1 c2 u1 u2 s r rule.declared sp sq st eq h = record { a = tt; same = refl; is_early = refl; is_late = refl; stops = refl }
          which x early late c1 c2 u1 u2 s r rule.defined sp sq st eq h =
              let f : symbol.Semicolon ≡ symbol.OpenBrace = sym (ap ahead (sym (append_assoc u1 u2 s)) ∙ ap ahead eq ∙ ahead-same r (c ∷ cs) h ∙ is) ∙ block_begins (u2 ++ s) sp in absurd (cc)

      defined : c.symbol ≢ symbol.Semicolon → (x : Option Block) (early late : List Part) (c1 c2 : ℕ) (u1 u2 s r : List Spot) → Rule (a.body x) early late → Spells early c1 u1 → Spells late c2 u2 → Stops always x s
          → (u1 ++ u2) ++ s ≡ r → first r ≡ Some c → Chosen (λ (b : Block). node (a.block b) ∷ []) no_parts always (λ (b : Block). Some b) x early late s
      defined ne x early late c1 c2 u1 u2 s r rule.declared sp sq st eq h = absurd (ne (rule_ahead u1 u2 s r (c ∷ cs) sp eq h))
      defined ne x early late c1 c2 u1 u2 s r (rule.defined {block = b}) sp sq st eq h = record { a = b; same = refl; is_early = refl; is_late = refl; stops = refl }

  module _ (right : RightExpressions n) where
    closing_right : (i : List Spot) → Ends i → Right closing n always [] i (both (word_at symbol.CloseParen) (body_at block) i)
    closing_right i ends =
        Right-both (λ (u : Unit {0}). word symbol.CloseParen ∷ []) body_node n always always (λ u b c v s sp st. refl) None (word_at symbol.CloseParen) (body_at block) [] i
        (word_right symbol.CloseParen (λ g. cc) n i ends) body_right

    with_params_right : (i : List Spot) → Ends i → Right with_params n always [] i (both (params_at n) (both (word_at symbol.CloseParen) (body_at block)) i)
    with_params_right i ends =
        Right-both (λ (ps : List Param). node (a.params ps) ∷ []) closing n closes_params always (λ ps b c v s sp st. ap (λ (s : Symbol). same_symbol s symbol.CloseParen) (token-ahead s sp)) (tt, None)
        (params_at n) (both (word_at symbol.CloseParen) (body_at block)) [] i (params_right n right i ends) closing_right

    -- a function from its `(` on
    pub function_right : Reads function_rest n always (read_function block n)
    function_right i ends =
        Right-both (λ (u : Unit {0}). word symbol.OpenParen ∷ []) with_params n always always (λ u b c v s sp st. refl) ([], (tt, None))
        (word_at symbol.OpenParen) (both (params_at n) (both (word_at symbol.CloseParen) (body_at block))) [] i
        (word_right symbol.OpenParen (λ g. cc) n i ends) with_params_right
