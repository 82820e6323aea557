-- The pieces of a text, one after the other.
use Rattle.std.proofs.Common.{◌≡◌, ℕ, zero, suc, ◌≤◌, ◌<◌, true, List, [], ◌∷◌, ◌++◌, length, take, drop, get_or, map, refl, sym, ap, subst, ◌∙◌, inl, inr, arith}
use Rattle.std.specs.List.{All, concat}
use Rattle.std.proofs.lemmas.Bool.{cases_Bool}
use Rattle.std.proofs.lemmas.List.{length-take-le, length-drop, append_assoc, append-nil, take-append-drop}
use Rattle.std.proofs.Math.Seq.{drop-append_seam}
use Rattle.std.proofs.lemmas.List.Elements.{All-nil, All-cons}
use Rattle.c_lexer.specs.declared.lexeme.Kind.{Kind}
use Rattle.c_lexer.specs.CuttingLaws.{PiecesMakeTheText, PiecesFollow, PiecesAreLongest, front_of}
use Rattle.c_lexer.specs.Lexeme.{is_hash, lexeme_of}
use Rattle.c_lexer.specs.Piece.{IsPiece, IsLongest, is_number_sign}
use Rattle.c_lexer.specs.Text.{Piece, piece_bytes, piece_at, pieces_from}
use Rattle.c_lexer.proofs.Cutting.{bytes_pos, bytes_are}
use Rattle.c_lexer.proofs.Judged.{kind_hash}
use Rattle.c_lexer.proofs.Longest.{byte_len, fronts_are_longest}

-- the bytes of the first piece, and those after them
pub split : (rest : List ℕ) → piece_bytes rest ++ drop (length (piece_bytes rest)) rest ≡ rest
split rest = ap (λ (xs : List ℕ). xs ++ drop (length (piece_bytes rest)) rest) (bytes_are rest) ∙ take-append-drop (length (piece_bytes rest)) rest

make_rest : (n : ℕ) (before rest : List ℕ) → length rest ≤ n → concat (map (λ (p : Piece). p.bytes) (pieces_from n before rest)) ≡ rest
unfolding pieces_from piece_at
make_rest zero before [] fits = refl
make_rest zero before (b ∷ bs) fits = absurd (omega (arith, fits))
make_rest (suc n) before [] fits = refl
make_rest (suc n) before (b ∷ bs) fits =
    let rest = b ∷ bs in
    let bytes = piece_bytes rest in
    let more = make_rest n (before ++ bytes) (drop (length bytes) rest) (omega (arith, length-drop (length bytes) rest, bytes_pos b bs, fits)) in
    ap (λ (xs : List ℕ). bytes ++ xs) more ∙ split rest

pub pieces_make_the_text : PiecesMakeTheText
pieces_make_the_text text = make_rest (length text) [] text (omega arith)

follow : (n : ℕ) (before rest : List ℕ) (k : ℕ) (d : Piece) → k < length (pieces_from n before rest)
    → (get_or (pieces_from n before rest) k d).before ≡ before ++ concat (map (λ (p : Piece). p.bytes) (take k (pieces_from n before rest)))
unfolding pieces_from piece_at
follow zero before rest k d inside = absurd (omega (arith, inside))
follow (suc n) before [] k d inside = absurd (omega (arith, inside))
follow (suc n) before (b ∷ bs) zero d inside = sym (append-nil before)
follow (suc n) before (b ∷ bs) (suc k) d inside =
    let rest = b ∷ bs in
    let bytes = piece_bytes rest in
    let more = pieces_from n (before ++ bytes) (drop (length bytes) rest) in
    follow n (before ++ bytes) (drop (length bytes) rest) k d (omega (arith, inside))
    ∙ append_assoc before bytes (concat (map (λ (p : Piece). p.bytes) (take k more)))

pub pieces_follow : PiecesFollow
pieces_follow text k d inside = follow (length text) [] text k d inside

-- a `#` is a piece of one byte
pub hash_len : (rest : List ℕ) → IsLongest rest (lexeme_of rest) → is_hash (lexeme_of rest).kind ≡ true → (lexeme_of rest).len ≡ 1
hash_len rest front hash =
    let piece = subst (λ (kind : Kind). IsPiece kind (take (lexeme_of rest).len rest)) (kind_hash (lexeme_of rest).kind hash) front.piece in
    sym (length-take-le (lexeme_of rest).len rest front.within) ∙ byte_len is_number_sign (take (lexeme_of rest).len rest) piece

front_is : (before rest : List ℕ) → IsLongest rest (lexeme_of rest) → front_of (piece_at before rest) ≡ lexeme_of rest
unfolding piece_at
front_is before rest front =
    ap (λ (n : ℕ). record { kind = (lexeme_of rest).kind; len = n })
    (elim (cases_Bool (is_hash (lexeme_of rest).kind)) [
      | inl hash ↦ rw hash (sym (hash_len rest front hash))
      | inr other ↦ rw other (length-take-le (lexeme_of rest).len rest front.within)
    ])

longest_from : (text : List ℕ) (n : ℕ) (before rest : List ℕ) → before ++ rest ≡ text → All (λ (p : Piece). IsLongest (drop (length p.before) text) (front_of p)) (pieces_from n before rest)
unfolding pieces_from piece_at
longest_from text zero before rest whole = All-nil (λ (p : Piece). IsLongest (drop (length p.before) text) (front_of p))
longest_from text (suc n) before [] whole = All-nil (λ (p : Piece). IsLongest (drop (length p.before) text) (front_of p))
longest_from text (suc n) before (b ∷ bs) whole =
    let rest = b ∷ bs in
    let bytes = piece_bytes rest in
    let front = fronts_are_longest rest (omega arith) in
    let here : drop (length before) text ≡ rest = ap (drop (length before)) (sym whole) ∙ drop-append_seam before rest in
    let first : IsLongest (drop (length before) text) (front_of (piece_at before rest)) = subst (λ (xs : List ℕ). IsLongest xs (front_of (piece_at before rest))) (sym here) (subst (IsLongest rest) (sym (front_is before rest front)) front) in
    let next = append_assoc before bytes (drop (length bytes) rest) ∙ ap (λ (xs : List ℕ). before ++ xs) (split rest) ∙ whole in
    All-cons (λ (p : Piece). IsLongest (drop (length p.before) text) (front_of p)) (piece_at before rest) (pieces_from n (before ++ bytes) (drop (length bytes) rest)) first
    (longest_from text n (before ++ bytes) (drop (length bytes) rest) next)

pub pieces_are_longest : PiecesAreLongest
pieces_are_longest text = longest_from text (length text) [] text refl
