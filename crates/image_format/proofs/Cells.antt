-- Places of bytes, and the numbers in them.
use Rattle.std.proofs.Common.{◌≡◌, ℕ, zero, suc, ◌+◌, ◌^◌, ◌<◌, ◌≤◌, List, [], ◌∷◌, take, drop, get_or, length, refl, sym, ap, ◌∙◌, arith}
use Rattle.std.specs.Int.{w16, w32, from_le_bytes}
use Rattle.std.proofs.lemmas.List.{drop_more, get_or-drop}
use Rattle.std.proofs.lemmas.Nat.{le_bytes_2, le_bytes_4}
use Rattle.image_format.specs.ImageBytes.{word_bytes, half_bytes}
use Rattle.image_format.specs.Parts.{file_word, file_half}
use Rattle.image_format.proofs.Chunks.{IsBytes}

-- n places of a list, from the place i on
abbrev pub cells_from : (i n : ℕ) → List ℕ → List ℕ
cells_from i zero bytes = []
cells_from i (suc n) bytes = get_or bytes i 0 ∷ cells_from (suc i) n bytes

pub cells_from-take : (i n : ℕ) (bytes : List ℕ) → i + n ≤ length bytes → cells_from i n bytes ≡ take n (drop i bytes)
cells_from-take i zero bytes within = refl
cells_from-take i (suc n) bytes within =
    let next : i + 1 ≡ suc i = omega arith in
    let front : drop i bytes ≡ get_or bytes i 0 ∷ drop (suc i) bytes = drop_more bytes i 0 (omega arith) ∙ ap (λ k. get_or bytes i 0 ∷ drop k bytes) next in
    ap (λ rest. get_or bytes i 0 ∷ rest) (cells_from-take (suc i) n bytes (omega arith)) ∙ ap (take (suc n)) (sym front)

four_fit : (a b c d : ℕ) → a < 256 → b < 256 → c < 256 → d < 256 → IsBytes (a ∷ b ∷ c ∷ d ∷ [])
four_fit a b c d p q r s zero = p
four_fit a b c d p q r s (suc zero) = q
four_fit a b c d p q r s (suc (suc zero)) = r
four_fit a b c d p q r s (suc (suc (suc zero))) = s
four_fit a b c d p q r s (suc (suc (suc (suc i)))) = omega arith

two_fit : (a b : ℕ) → a < 256 → b < 256 → IsBytes (a ∷ b ∷ [])
two_fit a b p q zero = p
two_fit a b p q (suc zero) = q
two_fit a b p q (suc (suc i)) = omega arith

at_drop : (place k n : ℕ) (bytes : List ℕ) → place + k ≡ n → get_or (drop place bytes) k 0 ≡ get_or bytes n 0
at_drop place k n bytes e = get_or-drop place bytes k 0 ∙ ap (λ i. get_or bytes i 0) e

file_word-cells : (place : ℕ) (bytes : List ℕ) → file_word bytes place ≡ from_le_bytes w32 (cells_from place 4 bytes)
file_word-cells place bytes =
    let a = at_drop place 0 place bytes (omega arith) in
    let b = at_drop place 1 (suc place) bytes (omega arith) in
    let c = at_drop place 2 (suc (suc place)) bytes (omega arith) in
    let d = at_drop place 3 (suc (suc (suc place))) bytes (omega arith) in
    rw (a, b, c, d) refl

file_half-cells : (place : ℕ) (bytes : List ℕ) → file_half bytes place ≡ from_le_bytes w16 (cells_from place 2 bytes)
file_half-cells place bytes =
    let a = at_drop place 0 place bytes (omega arith) in
    let b = at_drop place 1 (suc place) bytes (omega arith) in
    rw (a, b) refl

-- the bytes of the number at a place are those at the place
pub word_bytes-file_word : (place : ℕ) (bytes : List ℕ) → IsBytes bytes → word_bytes (file_word bytes place) ≡ cells_from place 4 bytes
word_bytes-file_word place bytes fits =
    le_bytes_4 (cells_from place 4 bytes) (file_word bytes place) refl
    (four_fit _ _ _ _ (fits place) (fits (suc place)) (fits (suc (suc place))) (fits (suc (suc (suc place)))))
    (file_word-cells place bytes)

pub half_bytes-file_half : (place : ℕ) (bytes : List ℕ) → IsBytes bytes → half_bytes (file_half bytes place) ≡ cells_from place 2 bytes
half_bytes-file_half place bytes fits =
    le_bytes_2 (cells_from place 2 bytes) (file_half bytes place) refl
    (two_fit _ _ (fits place) (fits (suc place)))
    (file_half-cells place bytes)

pub file_word-fits : (place : ℕ) (bytes : List ℕ) → IsBytes bytes → file_word bytes place < 2 ^ 32
file_word-fits place bytes fits =
    omega (
      arith,
      get_or-drop place bytes 0 0,
      get_or-drop place bytes 1 0,
      get_or-drop place bytes 2 0,
      get_or-drop place bytes 3 0,
      fits place,
      fits (place + 1),
      fits (place + 2),
      fits (place + 3),
    )
