-- A text is cut into longest pieces in one way.
use Rattle.std.proofs.Common.{◌≡◌, ◌≢◌, ℕ, zero, suc, ◌+◌, ◌≤◌, ◌<◌, true, false, not, eqb, List, [], ◌∷◌, ◌++◌, length, take, drop, get_or, map, refl, sym, ap, subst, ◌∙◌, inl, inr, arith}
use Rattle.std.proofs.lemmas.Bool.{cases_Bool, cases_order, false≢true, false_from_ne_true, eqb-true}
use Rattle.std.proofs.lemmas.List.{length-take-le, length-drop}
use Rattle.std.proofs.lemmas.List.Sums.{sum_by-cons}
use Rattle.c_lexer.specs.declared.lexeme.Kind.{Kind}
use Rattle.c_lexer.specs.declared.lexeme.Kind.TheVariants.{White, Comment, OpenComment, Word, Number, Mark, Hash, Other}
use Rattle.c_lexer.specs.declared.lexeme.Lexeme.{Lexeme}
use Rattle.c_lexer.specs.CuttingLaws.{EndsLine, IsLineOf, StandInLine, bytes_in, IsLongestDirective, IsFirstPiece, IsCutting, IsOnlyCutting}
use Rattle.c_lexer.specs.Directive.{line_pieces, line_bytes}
use Rattle.c_lexer.specs.Lexeme.{is_hash, is_word_byte, is_long_mark, single_kind, lexeme_of}
use Rattle.c_lexer.specs.Piece.{IsPiece, IsLongest}
use Rattle.c_lexer.specs.Text.{Piece, piece_bytes, piece_at, pieces_from}
use Rattle.c_lexer.proofs.Cutting.{bytes_pos, bytes_are}
use Rattle.c_lexer.proofs.Fronts.{when_lone, when_single}
use Rattle.c_lexer.proofs.Judged.{kind_hash}
use Rattle.c_lexer.proofs.KindsApart.{kind_of, kind_is, kinds_are_apart}
use Rattle.c_lexer.proofs.LinePieces.{open_whole, lines_are_longest}
use Rattle.c_lexer.proofs.Longest.{fronts_are_longest}
use Rattle.c_lexer.proofs.Marks.{long_first}
use Rattle.c_lexer.proofs.Pieces.{hash_len}

-- ---- one longest front

no_piece : (kind : Kind) → IsPiece kind [] → ⊥
no_piece White is = is
no_piece Comment (inl is) = let e = is.opens in absurd (cc)
no_piece Comment (inr is) = let e = is.opens in absurd (cc)
no_piece OpenComment is = let e = is.opens in absurd (cc)
no_piece Word is = is
no_piece Number is = is
no_piece Mark is = false≢true is
no_piece Hash is = is
no_piece Other is = is

filled : (rest : List ℕ) (front : Lexeme) → IsLongest rest front → 0 < length rest
filled [] front is =
    let none : front.len ≡ 0 = let within = is.within in omega (arith, within) in
    absurd (no_piece front.kind (subst (λ (n : ℕ). IsPiece front.kind (take n [])) none is.piece))
filled (b ∷ bs) front is = omega arith

only_front : (rest : List ℕ) (front : Lexeme) → IsLongest rest front → front ≡ lexeme_of rest
only_front rest front is =
    let l = lexeme_of rest in
    let own = fronts_are_longest rest (filled rest front is) in
    elim (cases_order front.len l.len) [
      | inl same ↦
          let piece = subst (λ (n : ℕ). IsPiece l.kind (take n rest)) (sym same) own.piece in
          let kind = kinds_are_apart (take front.len rest) front.kind l.kind is.piece piece in
          ap (λ (k : Kind). record { kind = k; len = front.len }) kind ∙ ap (λ (n : ℕ). record { kind = l.kind; len = n }) same
      | inr (inl less) ↦ absurd (is.longest l.len l.kind less own.within own.piece)
      | inr (inr more) ↦ absurd (own.longest front.len front.kind more is.within is.piece)
    ]

-- ---- lines

-- a byte that begins no longer piece
alone : (b : ℕ) (bs : List ℕ) → eqb b 47 ≡ false → is_word_byte b ≡ false → ((c : ℕ) → is_long_mark b c ≡ false) → lexeme_of (b ∷ bs) ≡ record { kind = single_kind b; len = 1 }
alone b [] slash word long = when_lone b word
alone b (c ∷ cs) slash word long = when_single b c cs (rw slash refl) (rw slash refl) (long c) word

feed_alone : (c : ℕ) → is_long_mark 10 c ≡ false
feed_alone c = false_from_ne_true (is_long_mark 10 c) (λ long. false≢true (long_first (λ x. not (eqb x 10)) 10 c long refl refl))

sign_alone : (c : ℕ) → is_long_mark 35 c ≡ false
sign_alone c = false_from_ne_true (is_long_mark 35 c) (λ long. false≢true (long_first (λ x. not (eqb x 35)) 35 c long refl refl))

fed : (rest : List ℕ) → length rest ≢ 0 → get_or rest 0 0 ≡ 10 → lexeme_of rest ≡ record { kind = White; len = 1 }
fed [] some feed = absurd (some refl)
fed (b ∷ bs) some feed = subst (λ (x : ℕ). lexeme_of (x ∷ bs) ≡ record { kind = White; len = 1 }) (sym feed) (alone 10 bs refl refl feed_alone)

first_byte : (rest : List ℕ) → length rest ≢ 0 → take 1 rest ≡ get_or rest 0 0 ∷ []
first_byte [] some = absurd (some refl)
first_byte (b ∷ bs) some = refl

-- what stands in a line does not stand at its end
no_end : (rest : List ℕ) (kind : Kind) (bytes : List ℕ) → bytes ≢ 10 ∷ [] → kind ≢ OpenComment → IsLongest rest (record { kind = kind; len = length bytes }) → bytes ≡ take (length bytes) rest → EndsLine rest → ⊥
no_end rest kind bytes other closed is front (inl empty) = let some = filled rest _ is in absurd (omega (arith, empty, some))
no_end rest kind bytes other closed is front (inr (inl feed)) =
    let some : length rest ≢ 0 = λ e. let f = filled rest _ is in absurd (omega (arith, e, f)) in
    let len : length bytes ≡ 1 = ap (λ (l : Lexeme). l.len) (only_front rest _ is ∙ fed rest some feed) in
    other (front ∙ ap (λ (n : ℕ). take n rest) len ∙ first_byte rest some ∙ ap (λ (b : ℕ). b ∷ []) feed)
no_end rest kind bytes other closed is front (inr (inr unended)) = closed (ap (λ (l : Lexeme). l.kind) (only_front rest _ is) ∙ kind_is OpenComment rest unended)

line_stands : (rest : List ℕ) (ps : List (Kind × List ℕ)) → IsLineOf rest ps → StandInLine rest ps
line_stands rest [] is = tt
line_stands rest (p ∷ ps) is =
    let feed : p.1 ≢ 10 ∷ [] = λ e.
    let some = filled rest _ is.1 in
    let front : take 1 rest ≡ 10 ∷ [] = ap (λ (n : ℕ). take n rest) (ap length (sym e)) ∙ sym is.2 ∙ e in
    is.0 (inr (inl (begins rest front))) in
    let closed : p.0 ≢ OpenComment = λ e. is.0 (inr (inr (open_whole rest (filled rest _ is.1) (sym (ap (λ (l : Lexeme). l.kind) (only_front rest _ is.1)) ∙ e)))) in
    (feed, closed, is.1, is.2, line_stands (drop (length p.1) rest) ps is.3)
  where
    begins : (rest : List ℕ) → take 1 rest ≡ 10 ∷ [] → get_or rest 0 0 ≡ 10
    begins [] e = cc
    begins (b ∷ bs) e = cc

-- nothing that stands in a line is longer than the line
no_longer : (rest : List ℕ) (ps qs : List (Kind × List ℕ)) → StandInLine rest ps → IsLineOf rest qs → bytes_in ps ≤ bytes_in qs
no_longer rest [] qs stands is = omega arith
no_longer rest (p ∷ ps) [] stands is = absurd (no_end rest p.0 p.1 stands.0 stands.1 stands.2 stands.3 is)
no_longer rest (p ∷ ps) (q ∷ qs) stands is =
    let len : length p.1 ≡ length q.1 = ap (λ (l : Lexeme). l.len) (only_front rest _ stands.2 ∙ sym (only_front rest _ is.1)) in
    let more = no_longer (drop (length q.1) rest) ps qs (subst (λ (n : ℕ). StandInLine (drop n rest) ps) len stands.4) is.3 in
    omega (arith, len, more, sum_by-cons (λ (x : Kind × List ℕ). length x.1) p ps, sum_by-cons (λ (x : Kind × List ℕ). length x.1) q qs)

line_within : (rest : List ℕ) (ps : List (Kind × List ℕ)) → IsLineOf rest ps → bytes_in ps ≤ length rest
line_within rest [] is = omega arith
line_within rest (p ∷ ps) is =
    let more = line_within (drop (length p.1) rest) ps is.3 in
    let within = is.1.within in
    omega (arith, more, within, length-drop (length p.1) rest, sum_by-cons (λ (x : Kind × List ℕ). length x.1) p ps)

-- ---- the first piece

directive : (rest : List ℕ) → IsPiece Hash (take 1 rest) → IsLongestDirective rest (1 + line_bytes (drop 1 rest))
directive rest sign =
    let line = lines_are_longest (drop 1 rest) in
    record {
      sign = sign;
      pieces = line_pieces (length (drop 1 rest)) (drop 1 rest);
      line = line_stands (drop 1 rest) (line_pieces (length (drop 1 rest)) (drop 1 rest)) line;
      bytes = refl;
      longest = λ more stands. no_longer (drop 1 rest) more (line_pieces (length (drop 1 rest)) (drop 1 rest)) stands line;
    }

signed : (rest : List ℕ) → IsPiece Hash (take 1 rest) → (0 < length rest) × (lexeme_of rest ≡ record { kind = Hash; len = 1 })
signed [] is = absurd is
signed (b ∷ bs) is = (omega arith, subst (λ (x : ℕ). lexeme_of (x ∷ bs) ≡ record { kind = Hash; len = 1 }) (sym (eqb-true b 35 is)) (alone 35 bs refl refl sign_alone))

sign_of : (rest : List ℕ) → 0 < length rest → is_hash (kind_of rest) ≡ true → IsPiece Hash (take 1 rest)
sign_of rest some hash =
    let own = fronts_are_longest rest some in
    subst (λ (n : ℕ). IsPiece Hash (take n rest)) (hash_len rest own hash) (subst (λ (kind : Kind). IsPiece kind (take (lexeme_of rest).len rest)) (kind_hash (kind_of rest) hash) own.piece)

hash_bytes : (rest : List ℕ) → is_hash (kind_of rest) ≡ true → piece_bytes rest ≡ take (1 + line_bytes (drop 1 rest)) rest
hash_bytes rest hash = rw hash refl

plain_bytes : (rest : List ℕ) → is_hash (kind_of rest) ≡ false → piece_bytes rest ≡ take (lexeme_of rest).len rest
plain_bytes rest other = rw other refl

first_piece : (rest : List ℕ) → 0 < length rest → IsFirstPiece rest (kind_of rest, piece_bytes rest)
first_piece rest some =
    let own = fronts_are_longest rest some in
    record {
      front = bytes_are rest;
      directive = λ hash.
          let fits : 1 + line_bytes (drop 1 rest) ≤ length rest = omega (arith, some, length-drop 1 rest, line_within (drop 1 rest) (line_pieces (length (drop 1 rest)) (drop 1 rest)) (lines_are_longest (drop 1 rest))) in
          subst (IsLongestDirective rest) (sym (ap length (hash_bytes rest hash) ∙ length-take-le (1 + line_bytes (drop 1 rest)) rest fits)) (directive rest (sign_of rest some hash));
      other = λ none. subst (λ (n : ℕ). IsLongest rest (record { kind = kind_of rest; len = n })) (sym (ap length (plain_bytes rest none) ∙ length-take-le (lexeme_of rest).len rest own.within)) own;
    }

-- it is the only one
first_is : (rest : List ℕ) (p : Kind × List ℕ) → IsFirstPiece rest p → (0 < length rest) × (p ≡ (kind_of rest, piece_bytes rest))
first_is rest p is =
    elim (cases_Bool (is_hash p.0)) [
      | inl hash ↦
          let d = is.directive hash in
          let sign = signed rest d.sign in
          let own = directive rest d.sign in
          let a = d.longest own.pieces own.line in
          let b = own.longest d.pieces d.line in
          let len : length p.1 ≡ 1 + line_bytes (drop 1 rest) = let e = d.bytes in omega (arith, a, b, e) in
          let kind : p.0 ≡ kind_of rest = kind_hash p.0 hash ∙ sym (ap (λ (l : Lexeme). l.kind) sign.1) in
          let bytes : p.1 ≡ piece_bytes rest = is.front ∙ ap (λ (n : ℕ). take n rest) len ∙ sym (hash_bytes rest (ap is_hash (sym kind) ∙ hash)) in
          (sign.0, same_pair p kind bytes)
      | inr none ↦
          let l = is.other none in
          let only = only_front rest _ l in
          let kind : p.0 ≡ kind_of rest = ap (λ (m : Lexeme). m.kind) only in
          let len : length p.1 ≡ (lexeme_of rest).len = ap (λ (m : Lexeme). m.len) only in
          let bytes : p.1 ≡ piece_bytes rest = is.front ∙ ap (λ (n : ℕ). take n rest) len ∙ sym (plain_bytes rest (ap is_hash (sym kind) ∙ none)) in
          (filled rest _ l, same_pair p kind bytes)
    ]
  where
    same_pair : (p : Kind × List ℕ) {k : Kind} {bs : List ℕ} → p.0 ≡ k → p.1 ≡ bs → p ≡ (k, bs)
    same_pair p {k} e f = ap (λ (x : Kind). (x, p.1)) e ∙ ap (λ (x : List ℕ). (k, x)) f

-- ---- all pieces

abbrev cuts : List Piece → List (Kind × List ℕ)
cuts pieces = map (λ p. (p.kind, p.bytes)) pieces

is_cutting : (n : ℕ) (before rest : List ℕ) → length rest ≤ n → IsCutting rest (cuts (pieces_from n before rest))
unfolding pieces_from piece_at
is_cutting zero before [] fits = refl
is_cutting zero before (b ∷ bs) fits = absurd (omega (arith, fits))
is_cutting (suc n) before [] fits = refl
is_cutting (suc n) before (b ∷ bs) fits =
    let rest = b ∷ bs in
    let bytes = piece_bytes rest in
    (first_piece rest (omega arith), is_cutting n (before ++ bytes) (drop (length bytes) rest) (omega (arith, length-drop (length bytes) rest, bytes_pos b bs, fits)))

is_only : (n : ℕ) (before rest : List ℕ) → length rest ≤ n → (cutting : List (Kind × List ℕ)) → IsCutting rest cutting → cutting ≡ cuts (pieces_from n before rest)
unfolding pieces_from piece_at
is_only zero before [] fits [] is = refl
is_only (suc n) before [] fits [] is = refl
is_only n before (b ∷ bs) fits [] is = cc
is_only n before [] fits (p ∷ ps) is = absurd (omega (arith, (first_is [] p is.0).0))
is_only zero before (b ∷ bs) fits (p ∷ ps) is = absurd (omega (arith, fits))
is_only (suc n) before (b ∷ bs) fits (p ∷ ps) is =
    let rest = b ∷ bs in
    let bytes = piece_bytes rest in
    let first = (first_is rest p is.0).1 in
    let left = subst (λ (q : Kind × List ℕ). IsCutting (drop (length q.1) rest) ps) first is.1 in
    let more = is_only n (before ++ bytes) (drop (length bytes) rest) (omega (arith, length-drop (length bytes) rest, bytes_pos b bs, fits)) ps left in
    ap (λ (q : Kind × List ℕ). q ∷ ps) first ∙ ap (λ (qs : List (Kind × List ℕ)). (kind_of rest, bytes) ∷ qs) more

pub only_cutting : IsOnlyCutting
only_cutting text = (is_cutting (length text) [] text (omega arith), is_only (length text) [] text (omega arith))
