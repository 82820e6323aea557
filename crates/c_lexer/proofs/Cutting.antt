-- A text that is cut from left to right.
use Rattle.std.proofs.Common.{◌≡◌, ℕ, zero, suc, ◌+◌, ◌≤◌, ◌<◌, Bool, false, cond, ◌⊎◌, List, [], ◌∷◌, ◌++◌, length, take, drop, ℤ, Option, Some, None, option_map, refl, sym, ap, subst, ◌∙◌, inl, inr, arith}
use Rattle.std.specs.Option.{option_to_list, is_some}
use Rattle.std.proofs.lemmas.Bool.{cond_both}
use Rattle.std.proofs.lemmas.List.{length-take, length-drop, length-append, drop-drop, drop_all, append_assoc, append-nil, take_all}
use Rattle.std.proofs.lemmas.List.Sums.{fold-append, sum_by-append, sum_by-cons}
use Rattle.std.proofs.Math.Seq.{take-add}
use Rattle.sat_base.specs.Position.{position_after}
use Rattle.sat_base.specs.declared.position.Pos.{Pos}
use Rattle.c_lexer.specs.declared.lexeme.Kind.{Kind}
use Rattle.c_lexer.specs.declared.lexeme.Kind.TheVariants.{White, Comment, OpenComment, Word, Number, Mark, Hash, Other}
use Rattle.c_lexer.specs.declared.lexer.Lexer.{Lexer}
use Rattle.c_lexer.specs.declared.token.LexRefusal.{LexRefusal}
use Rattle.c_lexer.specs.declared.token.LexRefusal.TheVariants as refusals
use Rattle.c_lexer.specs.declared.token.Token.{Token}
use Rattle.c_lexer.specs.declared.token.TokenKind.TheVariants as tokens
use Rattle.c_lexer.specs.declared.token.Tokens.{Tokens}
use Rattle.std.proofs.lemmas.Option.{none-some}
use Rattle.c_lexer.specs.Directive.{line_bytes}
use Rattle.c_lexer.specs.Judging.{IsBegun, Follows, piece_in}
use Rattle.c_lexer.specs.Lexeme.{is_hash, lexeme_of}
use Rattle.c_lexer.specs.Names.{predefined}
use Rattle.c_lexer.specs.Number.{number_value}
use Rattle.c_lexer.specs.Text.{Piece, piece_bytes, piece_at, pieces_from, is_token, token_count, on_line_after, token_on_line, names_after, names_defined, token_kind, token_at, token_of, fault_by, fault_at, too_many, tokens_after, fault_after, tokens_of, first_lexical_fault, pieces_of, AreTokens, IsCut}
use Rattle.c_lexer.specs.Views.{names_of}
use Rattle.c_lexer.proofs.ByCases.{tokens_by_cases}
use Rattle.c_lexer.proofs.Lines.{lexeme_pos}

-- ---- the number of pieces does not matter where it is large enough

pub bytes_pos : (b : ℕ) (bs : List ℕ) → 0 < length (piece_bytes (b ∷ bs))
bytes_pos b bs =
    let n = cond (is_hash (lexeme_of (b ∷ bs)).kind) (1 + line_bytes (drop 1 (b ∷ bs))) (lexeme_of (b ∷ bs)).len in
    let some : 0 < n = cond_both (is_hash (lexeme_of (b ∷ bs)).kind) (1 + line_bytes (drop 1 (b ∷ bs))) (lexeme_of (b ∷ bs)).len (λ m. 0 < m) (λ e. omega arith) (λ e. lexeme_pos b bs) in
    omega (arith, some, length-take n (b ∷ bs))

cut_fuel : (n m : ℕ) (before rest : List ℕ) → length rest ≤ n → length rest ≤ m → pieces_from n before rest ≡ pieces_from m before rest
unfolding pieces_from
cut_fuel zero zero before rest a b = refl
cut_fuel zero (suc m) before [] a b = refl
cut_fuel zero (suc m) before (c ∷ cs) a b = absurd (omega arith)
cut_fuel (suc n) zero before [] a b = refl
cut_fuel (suc n) zero before (c ∷ cs) a b = absurd (omega arith)
cut_fuel (suc n) (suc m) before [] a b = refl
cut_fuel (suc n) (suc m) before (c ∷ cs) a b =
    let rest = c ∷ cs in
    let some = bytes_pos c cs in
    let shorter = length-drop (length (piece_bytes rest)) rest in
    ap (λ (ps : List Piece). piece_at before rest ∷ ps) (cut_fuel n m (before ++ piece_bytes rest) (drop (length (piece_bytes rest)) rest) (omega (arith, some, shorter, a)) (omega (arith, some, shorter, b)))

-- the pieces from a place of a text on
unfoldable pub pieces_on : List ℕ → ℕ → List Piece
pieces_on text at = pieces_from (length (drop at text)) (take at text) (drop at text)

-- the bytes of a piece are those after its place
pub bytes_are : (rest : List ℕ) → piece_bytes rest ≡ take (length (piece_bytes rest)) rest
bytes_are rest = taken (cond (is_hash (lexeme_of rest).kind) (1 + line_bytes (drop 1 rest)) (lexeme_of rest).len) rest where
  taken : (n : ℕ) (xs : List ℕ) → take n xs ≡ take (length (take n xs)) xs
  taken zero xs = refl
  taken (suc n) [] = refl
  taken (suc n) (x ∷ xs) = ap (λ (ys : List ℕ). x ∷ ys) (taken n xs)

cut_cons : (n : ℕ) (before rest : List ℕ) → 0 < length rest → length rest ≤ n → pieces_from n before rest ≡ piece_at before rest ∷ pieces_from (length (drop (length (piece_bytes rest)) rest)) (before ++ piece_bytes rest) (drop (length (piece_bytes rest)) rest)
unfolding pieces_from
cut_cons zero before rest some fits = absurd (omega arith)
cut_cons (suc n) before [] some fits = absurd (omega arith)
cut_cons (suc n) before (c ∷ cs) some fits =
    let rest = c ∷ cs in
    let first = bytes_pos c cs in
    let shorter = length-drop (length (piece_bytes rest)) rest in
    ap (λ (ps : List Piece). piece_at before rest ∷ ps) (cut_fuel n (length (drop (length (piece_bytes rest)) rest)) (before ++ piece_bytes rest) (drop (length (piece_bytes rest)) rest) (omega (arith, first, shorter, fits)) (omega arith))

on_cons : (text : List ℕ) (at n : ℕ) → at < length text → n ≡ length (piece_bytes (drop at text)) → pieces_on text at ≡ piece_in text at ∷ pieces_on text (at + n)
unfolding pieces_on
on_cons text at n inside is =
    let rest = drop at text in
    let some : 0 < length rest = omega (arith, length-drop at text, inside) in
    let front : take at text ++ piece_bytes rest ≡ take (at + n) text = ap (λ (xs : List ℕ). take at text ++ xs) (bytes_are rest ∙ ap (λ (k : ℕ). take k rest) (sym is)) ∙ sym (take-add at n text) in
    let back : drop (length (piece_bytes rest)) rest ≡ drop (at + n) text = ap (λ (k : ℕ). drop k rest) (sym is) ∙ drop-drop n at text in
    cut_cons (length rest) (take at text) rest some (omega arith) ∙ rw (front, back) refl

on_end : (text : List ℕ) (at : ℕ) → length text ≤ at → pieces_on text at ≡ []
unfolding pieces_on pieces_from
on_end text at over = rw (drop_all at text over) refl

-- ---- what the pieces before a place say

pub count_more : (done : List Piece) (p : Piece) → token_count (done ++ p ∷ []) ≡ token_count done + cond (is_token p.kind) 1 0
count_more done p = sum_by-append (λ (q : Piece). cond (is_token q.kind) 1 0) done (p ∷ []) ∙ ap (λ n. token_count done + n) (sum_by-cons (λ (q : Piece). cond (is_token q.kind) 1 0) p []) ∙ omega arith

-- a piece without a fault is a token, or it is not, by its kind
pub token_len : (names : List (List ℕ × ℤ)) (used : Bool) (count : ℕ) (p : Piece) → fault_at names used count p ≡ None → length (option_to_list (token_at names p)) ≡ cond (is_token p.kind) 1 0
token_len names used count p none = by p.kind none where
  number : (o : Option ℤ) → cond (is_some o) (too_many count (position_after p.before)) (Some (refusals.BadNumber (position_after p.before))) ≡ None → length (option_to_list (option_map (token_of p) (option_map tokens.Int o))) ≡ 1
  number (Some v) e = refl
  number None e = absurd (none-some (refusals.BadNumber (position_after p.before)) (sym e))

  by : (k : Kind) → fault_by names used count p (position_after p.before) k ≡ None → length (option_to_list (option_map (token_of p) (token_kind names p.bytes k))) ≡ cond (is_token k) 1 0
  by White e = refl
  by Comment e = refl
  by OpenComment e = refl
  by Word e = refl
  by Number e = number (number_value p.bytes) e
  by Mark e = refl
  by Hash e = refl
  by Other e = refl

-- the pieces of a text before a place, with what was found in them
pub record Reached (text : List ℕ) (l : Lexer) (at : ℕ) : Type 0 where
  pub done : List Piece
  pub tokens : tokens_of text ≡ l.list ++ tokens_after done (pieces_on text at)
  pub fault : first_lexical_fault text ≡ fault_after done (pieces_on text at)
  pub names : names_of l.names ≡ names_defined done
  pub on_line : l.on_line ≡ token_on_line done
  pub count : length l.list ≡ token_count done
  pub within : at ≤ length text

pub reached_start : (text : List ℕ) (l : Lexer) → IsBegun l → Reached text l 0
unfolding pieces_on
reached_start text l begun = record {
  done = [];
  tokens = rw begun.list refl;
  fault = refl;
  names = begun.names;
  on_line = begun.on_line;
  count = rw begun.list refl;
  within = omega arith;
}

pub reached_step : (text : List ℕ) (before after : Lexer) (at n : ℕ) → Reached text before at → at < length text → Follows before (piece_in text at) after → n ≡ length (piece_in text at).bytes → at + n ≤ length text
    → Reached text after (at + n)
unfolding tokens_after fault_after piece_at
reached_step text before after at n reached inside follows is within =
    let p = piece_in text at in
    let done = reached.done in
    let cons = on_cons text at n inside is in
    let names = reached.names in
    let used = reached.on_line in
    let count = reached.count in
    let faultless : fault_at (names_defined done) (token_on_line done) (token_count done) p ≡ None = rw (names, used, count) at follows.faultless in
    let token : after.list ≡ before.list ++ option_to_list (token_at (names_defined done) p) = follows.list ∙ ap (λ (ds : List (List ℕ × ℤ)). before.list ++ option_to_list (token_at ds p)) names in
    record {
      done = done ++ p ∷ [];
      tokens = reached.tokens ∙ ap (λ (ps : List Piece). before.list ++ tokens_after done ps) cons
          ∙ sym (append_assoc before.list (option_to_list (token_at (names_defined done) p)) (tokens_after (done ++ p ∷ []) (pieces_on text (at + n))))
          ∙ ap (λ (ts : List Token). ts ++ tokens_after (done ++ p ∷ []) (pieces_on text (at + n))) (sym token);
      fault = reached.fault ∙ ap (fault_after done) cons ∙ rw faultless refl;
      names = follows.names ∙ ap (λ (ds : List (List ℕ × ℤ)). names_after ds p) names ∙ sym (fold-append names_after predefined done (p ∷ []));
      on_line = follows.on_line ∙ ap (λ (b : Bool). on_line_after b p) used ∙ sym (fold-append on_line_after false done (p ∷ []));
      count = omega (arith, ap length token, length-append before.list (option_to_list (token_at (names_defined done) p)), token_len (names_defined done) (token_on_line done) (token_count done) p faultless, count_more done p, count);
      within = within;
    }

pub reached_fault : (text : List ℕ) (l : Lexer) (at : ℕ) (e : LexRefusal) → Reached text l at → at < length text → fault_at (names_of l.names) l.on_line (length l.list) (piece_in text at) ≡ Some e → first_lexical_fault text ≡ Some e
unfolding fault_after
reached_fault text l at e reached inside fault =
    let done = reached.done in
    let cons = on_cons text at (length (piece_bytes (drop at text))) inside refl in
    let names = reached.names in
    let used = reached.on_line in
    let count = reached.count in
    let found : fault_at (names_defined done) (token_on_line done) (token_count done) (piece_in text at) ≡ Some e = rw (names, used, count) at fault in
    reached.fault ∙ ap (fault_after done) cons ∙ rw found refl

pub reached_end : (text : List ℕ) (l : Lexer) (at : ℕ) → Reached text l at → length text ≤ at → (first_lexical_fault text ≡ None) × (l.list ≡ tokens_of text) × (take at text ≡ text)
unfolding tokens_after fault_after
reached_end text l at reached over =
    let end = on_end text at over in
    (reached.fault ∙ ap (fault_after reached.done) end, sym (reached.tokens ∙ ap (λ (ps : List Piece). l.list ++ tokens_after reached.done ps) end ∙ append-nil l.list), take_all at text over)

-- ---- at the loop, where the cursor has the text

pub step_to : (text held : List ℕ) (before after : Lexer) (at next n : ℕ) → held ≡ text → next ≡ at + n → Reached text before at → at < length text → Follows before (piece_in held at) after → n ≡ length (piece_in held at).bytes
    → at + n ≤ length held → Reached text after next
step_to text held before after at next n same there reached inside follows is within =
    subst (Reached text after) (sym there)
    (reached_step text before after at n reached inside (subst (λ (t : List ℕ). Follows before (piece_in t at) after) same follows) (subst (λ (t : List ℕ). n ≡ length (piece_in t at).bytes) same is) (omega (arith, within, ap length same)))

pub refused_at : (text held : List ℕ) (l : Lexer) (at : ℕ) (e : LexRefusal) → held ≡ text → Reached text l at → at < length text
    → (e ≡ refusals.Memory) ⊎ (fault_at (names_of l.names) l.on_line (length l.list) (piece_in held at) ≡ Some e) → (e ≡ refusals.Memory) ⊎ (first_lexical_fault text ≡ Some e)
refused_at text held l at e same reached inside (inl memory) = inl memory
refused_at text held l at e same reached inside (inr fault) =
    inr (reached_fault text l at e reached inside (subst (λ (t : List ℕ). fault_at (names_of l.names) l.on_line (length l.list) (piece_in t at) ≡ Some e) same fault))

pub cut_whole : (text held : List ℕ) (l : Lexer) (at : ℕ) (pos : Pos) (answer : Tokens) → held ≡ text → Reached text l at → length text ≤ at → pos ≡ position_after (take at held)
    → answer.text ≡ text → answer.list ≡ l.list → answer.end ≡ pos → IsCut text answer
cut_whole text held l at pos answer same reached over place copied list end =
    let all = reached_end text l at reached over in
    record {
      faultless = all.0;
      by_cases = subst (AreTokens predefined (pieces_of text)) (sym (list ∙ all.1)) (tokens_by_cases text all.0);
      text = copied;
      list = list ∙ all.1;
      end = end ∙ place ∙ ap (λ (t : List ℕ). position_after (take at t)) same ∙ ap position_after all.2;
    }
