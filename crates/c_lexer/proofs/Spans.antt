-- The tokens of a text: no more than the limit, each in the text and after those before it.
use Rattle.std.proofs.Common.{◌≡◌, ℕ, zero, suc, ◌+◌, ◌≤◌, ◌<◌, Bool, cond, ltb, List, [], ◌∷◌, ◌++◌, length, drop, ℤ, Option, Some, None, option_map, sym, ap, subst, ◌∙◌, inl, inr, arith}
use Rattle.std.specs.List.{All, AllPairs}
use Rattle.std.specs.Option.{option_to_list, is_some}
use Rattle.std.proofs.lemmas.Bool.{cases_Bool, cond-false, ltb-true}
use Rattle.std.proofs.lemmas.List.{length-take, length-drop, length-append}
use Rattle.std.proofs.lemmas.List.Elements.{All-nil, All-cons, All-weaker}
use Rattle.std.proofs.lemmas.List.Kept.{AllPairs-cons}
use Rattle.std.proofs.lemmas.Option.{none-some}
use Rattle.sat_base.specs.declared.limits.TheConstants.{TOKENS}
use Rattle.sat_base.specs.declared.position.Pos.{Pos}
use Rattle.sat_base.specs.Position.{position_after}
use Rattle.c_lexer.specs.declared.lexeme.Kind.{Kind}
use Rattle.c_lexer.specs.declared.lexeme.Kind.TheVariants.{White, Comment, OpenComment, Word, Number, Mark, Hash, Other}
use Rattle.c_lexer.specs.declared.token.LexRefusal.TheVariants as refusals
use Rattle.c_lexer.specs.declared.token.Token.{Token}
use Rattle.c_lexer.specs.declared.token.TokenKind.{TokenKind}
use Rattle.c_lexer.specs.Directive.{line_bytes}
use Rattle.c_lexer.specs.Lexeme.{is_hash, lexeme_of}
use Rattle.c_lexer.specs.Number.{number_value}
use Rattle.c_lexer.specs.Spans.{LiesIn, HasBytes, Precedes}
use Rattle.c_lexer.specs.Text.{Piece, piece_bytes, piece_at, pieces_from, pieces_of, is_token, token_count, token_on_line, names_defined, token_kind, token_of, fault_by, fault_at, too_many, tokens_after, fault_after, tokens_of, first_lexical_fault}
use Rattle.c_lexer.proofs.ByCases.{faultless}
use Rattle.c_lexer.proofs.Cutting.{bytes_pos, count_more, token_len}

-- ---- how many

below : (count : ℕ) (at : Pos) → too_many count at ≡ None → count < TOKENS
below count at none =
    elim (cases_Bool (ltb count TOKENS)) [
      | inl few ↦ ltb-true count TOKENS few
      | inr many ↦ absurd (none-some (refusals.TooManyTokens at) (sym none ∙ cond-false (ltb count TOKENS) None (Some (refusals.TooManyTokens at)) many))
    ]

-- a token without a fault is not one too many
room : (names : List (List ℕ × ℤ)) (used : Bool) (count : ℕ) (p : Piece) → count ≤ TOKENS → fault_at names used count p ≡ None → count + cond (is_token p.kind) 1 0 ≤ TOKENS
room names used count p most none = by p.kind none where
  number : (o : Option ℤ) → cond (is_some o) (too_many count (position_after p.before)) (Some (refusals.BadNumber (position_after p.before))) ≡ None → count < TOKENS
  number (Some v) e = below count (position_after p.before) e
  number None e = absurd (none-some (refusals.BadNumber (position_after p.before)) (sym e))

  by : (k : Kind) → fault_by names used count p (position_after p.before) k ≡ None → count + cond (is_token k) 1 0 ≤ TOKENS
  by White e = omega (arith, most)
  by Comment e = omega (arith, most)
  by OpenComment e = omega (arith, most)
  by Word e = omega (arith, below count (position_after p.before) e)
  by Number e = omega (arith, number (number_value p.bytes) e)
  by Mark e = omega (arith, below count (position_after p.before) e)
  by Hash e = omega (arith, most)
  by Other e = omega (arith, most)

few_after : (earlier ps : List Piece) → fault_after earlier ps ≡ None → token_count earlier ≤ TOKENS → token_count earlier + length (tokens_after earlier ps) ≤ TOKENS
unfolding fault_after tokens_after
few_after earlier [] none few = omega (arith, few)
few_after earlier (p ∷ ps) none few =
    let names = names_defined earlier in
    let used = token_on_line earlier in
    let both = faultless (fault_at names used (token_count earlier) p) (fault_after (earlier ++ p ∷ []) ps) none in
    let here = token_len names used (token_count earlier) p both.0 in
    let more = count_more earlier p in
    let fits = room names used (token_count earlier) p few both.0 in
    let rest = few_after (earlier ++ p ∷ []) ps both.1 (omega (arith, more, fits)) in
    omega (arith, length-append (option_to_list (option_map (token_of p) (token_kind names p.bytes p.kind))) (tokens_after (earlier ++ p ∷ []) ps), here, more, rest)

-- ---- where

-- a token that begins at this place or after it, and lies in the text
record Stands (text : List ℕ) (from : ℕ) (t : Token) : Type 0 where
  pub after : from ≤ t.start
  pub lies : LiesIn text t
  pub some : HasBytes t

-- such tokens, one after the other
record AreSpread (text : List ℕ) (from : ℕ) (ts : List Token) : Type 0 where
  pub stand : All (Stands text from) ts
  pub apart : AllPairs Precedes ts

later : (text : List ℕ) (from to : ℕ) (ts : List Token) → from ≤ to → All (Stands text to) ts → All (Stands text from) ts
later text from to ts less = All-weaker (Stands text to) (Stands text from) (λ t s. record { after = omega (arith, less, s.after); lies = s.lies; some = s.some }) ts

-- a piece is a token before the others, or none
spread_more : (text : List ℕ) (p : Piece) (o : Option TokenKind) (ts : List Token) → 1 ≤ length p.bytes → length p.before + length p.bytes ≤ length text → AreSpread text (length p.before + length p.bytes) ts
    → AreSpread text (length p.before) (option_to_list (option_map (token_of p) o) ++ ts)
spread_more text p None ts some fits spread = record { stand = later text (length p.before) (length p.before + length p.bytes) ts (omega arith) spread.stand; apart = spread.apart }
spread_more text p (Some kind) ts some fits spread = record {
  stand = All-cons (Stands text (length p.before)) (token_of p kind) ts (record { after = omega arith; lies = record { within = fits }; some = some }) (later text (length p.before) (length p.before + length p.bytes) ts (omega arith) spread.stand);
  apart = AllPairs-cons Precedes (token_of p kind) ts (All-weaker (Stands text (length p.before + length p.bytes)) (Precedes (token_of p kind)) (λ t s. s.after) ts spread.stand) spread.apart;
}

bytes_fit : (rest : List ℕ) → length (piece_bytes rest) ≤ length rest
bytes_fit rest = omega (arith, length-take (cond (is_hash (lexeme_of rest).kind) (1 + line_bytes (drop 1 rest)) (lexeme_of rest).len) rest)

none_spread : (text : List ℕ) (from : ℕ) → AreSpread text from []
none_spread text from = record { stand = All-nil (Stands text from); apart = λ i j d a b. absurd (omega (arith, b)) }

spread : (text : List ℕ) (n : ℕ) (earlier : List Piece) (before rest : List ℕ) → length before + length rest ≤ length text → AreSpread text (length before) (tokens_after earlier (pieces_from n before rest))
unfolding tokens_after pieces_from piece_at
spread text zero earlier before rest fits = none_spread text (length before)
spread text (suc n) earlier before [] fits = none_spread text (length before)
spread text (suc n) earlier before (b ∷ bs) fits =
    let rest = b ∷ bs in
    let bytes = piece_bytes rest in
    let p = piece_at before rest in
    let inside = bytes_fit rest in
    let joined = length-append before bytes in
    let next = spread text n (earlier ++ p ∷ []) (before ++ bytes) (drop (length bytes) rest) (omega (arith, joined, length-drop (length bytes) rest, inside, fits)) in
    spread_more text p (token_kind (names_defined earlier) p.bytes p.kind) (tokens_after (earlier ++ p ∷ []) (pieces_from n (before ++ bytes) (drop (length bytes) rest))) (bytes_pos b bs) (omega (arith, inside, fits))
    (subst (λ (from : ℕ). AreSpread text from (tokens_after (earlier ++ p ∷ []) (pieces_from n (before ++ bytes) (drop (length bytes) rest)))) joined next)

-- ---- the tokens of a text

pub list_few : (text : List ℕ) (ts : List Token) → first_lexical_fault text ≡ None → ts ≡ tokens_of text → length ts ≤ TOKENS
list_few text ts none is =
    let few = few_after [] (pieces_of text) none (omega arith) in
    omega (arith, few, ap length is)

all_spread : (text : List ℕ) → AreSpread text 0 (tokens_of text)
all_spread text = spread text (length text) [] [] text (omega arith)

pub list_within : (text : List ℕ) (ts : List Token) → ts ≡ tokens_of text → All (LiesIn text) ts
list_within text ts is =
    subst (All (LiesIn text)) (sym is) (All-weaker (Stands text 0) (LiesIn text) (λ t s. s.lies) (tokens_of text) (all_spread text).stand)

pub list_filled : (text : List ℕ) (ts : List Token) → ts ≡ tokens_of text → All HasBytes ts
list_filled text ts is = subst (All HasBytes) (sym is) (All-weaker (Stands text 0) HasBytes (λ t s. s.some) (tokens_of text) (all_spread text).stand)

pub list_ordered : (text : List ℕ) (ts : List Token) → ts ≡ tokens_of text → AllPairs Precedes ts
list_ordered text ts is = subst (AllPairs Precedes) (sym is) (all_spread text).apart
