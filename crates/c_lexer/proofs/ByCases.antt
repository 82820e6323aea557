-- The tokens of a text, by cases on its pieces.
use Rattle.std.proofs.Common.{◌≡◌, ℕ, Bool, cond, List, [], ◌∷◌, ◌++◌, Option, Some, None, option_map, ℤ, refl, sym, ap, subst, ◌∙◌, inl, inr}
use Rattle.std.specs.Option.{option_map_or, option_to_list, is_some, unwrap_or}
use Rattle.std.proofs.lemmas.Bool.{cases_Bool}
use Rattle.std.proofs.lemmas.List.Sums.{fold-append}
use Rattle.sat_base.specs.Position.{position_after}
use Rattle.c_lexer.specs.declared.lexeme.Kind.{Kind}
use Rattle.c_lexer.specs.declared.lexeme.Kind.TheVariants.{White, Comment, OpenComment, Word, Number, Mark, Hash, Other}
use Rattle.c_lexer.specs.declared.token.LexRefusal.{LexRefusal}
use Rattle.c_lexer.specs.declared.token.LexRefusal.TheVariants as refusals
use Rattle.c_lexer.specs.declared.token.Token.{Token}
use Rattle.c_lexer.specs.declared.token.TokenKind.{TokenKind}
use Rattle.c_lexer.specs.declared.token.TokenKind.TheVariants as tokens
use Rattle.c_lexer.specs.Directive.{is_blank, after_directive}
use Rattle.c_lexer.specs.Lexeme.{is_hash}
use Rattle.c_lexer.specs.Names.{predefined}
use Rattle.c_lexer.specs.Number.{number_value}
use Rattle.c_lexer.specs.Text.{Piece, pieces_of, names_after, names_defined, token_count, token_on_line, token_kind, token_at, token_of, too_many, fault_by, fault_at, tokens_after, fault_after, tokens_of, first_lexical_fault, AreTokens, Nothing, Blank, Directive, Taken}
use Rattle.c_lexer.proofs.Obeyed.{directives_are_obeyed}

-- no fault, and none after it
pub faultless : (first rest : Option LexRefusal) → option_map_or (λ fault. Some fault) first rest ≡ None → (first ≡ None) × (rest ≡ None)
faultless None rest e = (refl, e)
faultless (Some fault) rest e = cc

is_there : {X : Type 0} (o : Option X) (fault : LexRefusal) (more : Option LexRefusal) → cond (is_some o) more (Some fault) ≡ None → (x : X) × (o ≡ Some x)
is_there None fault more e = cc
is_there (Some x) fault more e = (x, refl)

module _ (names : List (List ℕ × ℤ)) (on_line : Bool) (count : ℕ) (p : Piece) (ps : List Piece) (ts : List Token) where
  abbrev After : Type 0
  After = AreTokens (names_after names p) ps ts

  abbrev Here : Type 0
  Here = AreTokens names (p ∷ ps) (option_to_list (token_at names p) ++ ts)

  directive : (o : Option (List (List ℕ × ℤ))) → after_directive names p.parts ≡ o → cond on_line (Some (refusals.BadByte (position_after p.before))) (cond (is_some o) None (Some (refusals.BadDirective (position_after p.before)))) ≡ None
      → p.kind ≡ Hash → AreTokens (unwrap_or o names) ps ts → AreTokens names (p ∷ ps) ts
  directive o is e kind more =
      elim (cases_Bool on_line) [
        | inl used ↦ let g : Some (refusals.BadByte (position_after p.before)) ≡ None = rw used at e in absurd (cc)
        | inr free ↦
            let there = is_there o (refusals.BadDirective (position_after p.before)) None (rw free at e) in
            Directive kind ((directives_are_obeyed names p.parts there.0).0 (is ∙ there.1)) (subst (λ (x : Option (List (List ℕ × ℤ))). AreTokens (unwrap_or x names) ps ts) there.1 more)
      ]

  held : (kind : Kind) → p.kind ≡ kind → AreTokens names (p ∷ ps) (option_to_list (option_map (token_of p) (token_kind names p.bytes kind)) ++ ts) → Here
  held kind is h = subst (λ (k : Kind). AreTokens names (p ∷ ps) (option_to_list (option_map (token_of p) (token_kind names p.bytes k)) ++ ts)) (sym is) h

  left : (kind : Kind) → p.kind ≡ kind → After → AreTokens (cond (is_hash kind) (unwrap_or (after_directive names p.parts) names) names) ps ts
  left kind is more = subst (λ (k : Kind). AreTokens (cond (is_hash k) (unwrap_or (after_directive names p.parts) names) names) ps ts) is more

  by_kind : (kind : Kind) → p.kind ≡ kind → fault_by names on_line count p (position_after p.before) kind ≡ None → After → Here
  by_kind White is e more = held White is (Blank (ap is_blank is) (left White is more))
  by_kind Comment is e more = held Comment is (Blank (ap is_blank is) (left Comment is more))
  by_kind OpenComment is e more = cc
  by_kind Word is e more = held Word is (Taken (ap (token_kind names p.bytes) is) (left Word is more))
  by_kind Mark is e more = held Mark is (Taken (ap (token_kind names p.bytes) is) (left Mark is more))
  by_kind Number is e more =
      let there = is_there (number_value p.bytes) (refusals.BadNumber (position_after p.before)) (too_many count (position_after p.before)) e in
      let value : token_kind names p.bytes Number ≡ Some (tokens.Int there.0) = ap (option_map tokens.Int) there.1 in
      held Number is (subst (λ (o : Option TokenKind). AreTokens names (p ∷ ps) (option_to_list (option_map (token_of p) o) ++ ts)) (sym value)
      (Taken (ap (token_kind names p.bytes) is ∙ value) (left Number is more)))
  by_kind Hash is e more = held Hash is (directive (after_directive names p.parts) refl e is (left Hash is more))
  by_kind Other is e more = cc

tokens_from : (earlier ps : List Piece) → fault_after earlier ps ≡ None → AreTokens (names_defined earlier) ps (tokens_after earlier ps)
unfolding fault_after tokens_after
tokens_from earlier [] e = Nothing
tokens_from earlier (p ∷ ps) e =
    let names = names_defined earlier in
    let none = faultless (fault_at names (token_on_line earlier) (token_count earlier) p) (fault_after (earlier ++ p ∷ []) ps) e in
    let more = subst (λ (ns : List (List ℕ × ℤ)). AreTokens ns ps (tokens_after (earlier ++ p ∷ []) ps)) (fold-append names_after predefined earlier (p ∷ [])) (tokens_from (earlier ++ p ∷ []) ps none.1) in
    by_kind names (token_on_line earlier) (token_count earlier) p ps (tokens_after (earlier ++ p ∷ []) ps) p.kind refl none.0 more

-- the tokens of a text that breaks no rule
pub tokens_by_cases : (text : List ℕ) → first_lexical_fault text ≡ None → AreTokens predefined (pieces_of text) (tokens_of text)
tokens_by_cases text e = tokens_from [] (pieces_of text) e
