-- Places are told by line feeds, and by the bytes after the last of them.
use Rattle.std.proofs.Common.{◌≡◌, ℕ, ◌+◌, true, not, cond, ◌==◌, List, [], ◌∷◌, length, refl, ap, ◌∙◌, inl, inr, arith}
use Rattle.std.specs.List.{list_all, fold}
use Rattle.std.proofs.lemmas.Bool.{cases_Bool, and_parts, not-true}
use Rattle.std.proofs.lemmas.List.Sums.{fold-append}
use Rattle.sat_base.specs.declared.position.Pos.{Pos}
use Rattle.sat_base.specs.Position.{first_position, after_byte}
use Rattle.c_lexer.specs.PlainLaws.{LinesAreCounted, ColumnsAreCounted}

abbrev count : ℕ → ℕ → ℕ
count n b = n + cond (b == 10) 1 0

lines_from : (at : Pos) (n : ℕ) (text : List ℕ) → at.line ≡ 1 + n → (fold after_byte at text).line ≡ 1 + fold count n text
lines_from at n [] e = e
lines_from at n (b ∷ bs) e =
    elim (cases_Bool (b == 10)) [
      | inl feed ↦ lines_from (after_byte at b) (count n b) bs (rw feed (omega (arith, e)))
      | inr other ↦ lines_from (after_byte at b) (count n b) bs (rw other (omega (arith, e)))
    ]

pub lines_are_counted : LinesAreCounted
lines_are_counted text = lines_from first_position 0 text refl

columns_from : (at : Pos) (line : List ℕ) → list_all (λ b. not (b == 10)) line ≡ true → (fold after_byte at line).col ≡ at.col + length line
columns_from at [] none = omega arith
columns_from at (b ∷ bs) none =
    let both = and_parts (not (b == 10)) (list_all (λ x. not (x == 10)) bs) none in
    let other = not-true (b == 10) both.0 in
    let more = columns_from (after_byte at b) bs both.1 in
    let next : (after_byte at b).col ≡ at.col + 1 = rw other refl in
    omega (arith, more, next)

pub columns_are_counted : ColumnsAreCounted
columns_are_counted before line none = (
  columns_from first_position line none,
  ap (λ (at : Pos). at.col) (fold-append after_byte first_position before (10 ∷ line)) ∙ columns_from (after_byte (fold after_byte first_position before) 10) line none,
)
