-- What is loaded after a store.
use Rattle.std.proofs.Common.{◌≡◌, ℕ, ◌+◌, ◌-◌, ◌^◌, ◌<◌, ◌≤◌, ◌⊎◌, ⊎_elim, IsTrue, List, ◌++◌, length, take, drop, refl, sym, ap, ◌∙◌, arith, length-drop}
use Rattle.std.specs.Int.{w32, from_le_bytes, to_le_bytes}
use Rattle.std.proofs.lemmas.Bool.{and_parts, leb-true}
use Rattle.std.proofs.lemmas.List.{length-take-le, take_at, take-take, take-append-le, drop_at, drop-append-le, drop-drop, drop-take}
use Rattle.std.proofs.lemmas.Nat.{from_le_bytes-to_le_bytes_4}
use Rattle.rv_encode.specs.State.{data_start, is_inside, with_word, word_at}

-- four bytes in the place of those from a place on
abbrev replaced : List ℕ → ℕ → List ℕ → List ℕ
replaced xs place bytes = take place xs ++ (bytes ++ drop (place + 4) xs)

-- from the place on, these bytes stand first
drop-replaced : (xs : List ℕ) (place : ℕ) (bytes : List ℕ) → place ≤ length xs → drop place (replaced xs place bytes) ≡ bytes ++ drop (place + 4) xs
drop-replaced xs place bytes within = drop_at (take place xs) (bytes ++ drop (place + 4) xs) place (length-take-le place xs within)

here : (xs : List ℕ) (place : ℕ) (bytes : List ℕ) → place ≤ length xs → length bytes ≡ 4 → take 4 (drop place (replaced xs place bytes)) ≡ bytes
here xs place bytes within four = ap (take 4) (drop-replaced xs place bytes within) ∙ take_at bytes (drop (place + 4) xs) 4 four

-- what lies before stays
before : (xs : List ℕ) (place k : ℕ) (bytes : List ℕ) → place ≤ length xs → k + 4 ≤ place → take 4 (drop k (replaced xs place bytes)) ≡ take 4 (drop k xs)
before xs place k bytes within less =
    let whole : length (take place xs) ≡ place = length-take-le place xs within in
    let split : place ≡ k + (place - k) = omega arith in
    let front : drop k (take place xs) ≡ take (place - k) (drop k xs) = ap (λ n. drop k (take n xs)) split ∙ drop-take k (place - k) xs in
    ap (take 4) (drop-append-le k (take place xs) (bytes ++ drop (place + 4) xs) (omega arith))
    ∙ take-append-le 4 (drop k (take place xs)) (bytes ++ drop (place + 4) xs) (omega (arith, length-drop k (take place xs)))
    ∙ ap (take 4) front ∙ take-take 4 (place - k) (drop k xs) (omega arith)

-- what lies behind stays
behind : (xs : List ℕ) (place k : ℕ) (bytes : List ℕ) → place ≤ length xs → length bytes ≡ 4 → place + 4 ≤ k → take 4 (drop k (replaced xs place bytes)) ≡ take 4 (drop k xs)
behind xs place k bytes within four more =
    let j = k - (place + 4) in
    let split : place + 4 + j ≡ k = omega arith in
    let parts : drop (place + 4 + j) (replaced xs place bytes) ≡ drop j (drop 4 (drop place (replaced xs place bytes))) =
    sym (ap (drop j) (drop-drop 4 place (replaced xs place bytes)) ∙ drop-drop j (place + 4) (replaced xs place bytes)) in
    let rest : drop 4 (drop place (replaced xs place bytes)) ≡ drop (place + 4) xs =
    ap (drop 4) (drop-replaced xs place bytes within) ∙ drop_at bytes (drop (place + 4) xs) 4 four in
    ap (λ n. take 4 (drop n (replaced xs place bytes))) (sym split)
    ∙ ap (take 4) (parts ∙ ap (drop j) rest ∙ drop-drop j (place + 4) xs) ∙ ap (λ n. take 4 (drop n xs)) split

-- an address of a word inside, as a place
inside_place : (memory : List ℕ) (address : ℕ) → IsTrue (is_inside memory address 4) → (data_start ≤ address) × (address + 4 ≤ data_start + length memory)
inside_place memory address inside =
    let parts = and_parts _ _ inside in (leb-true _ _ parts.0, leb-true _ _ parts.1)

pub stored_is_loaded : (memory : List ℕ) (address word : ℕ) → IsTrue (is_inside memory address 4) → word < 2 ^ 32
    → word_at (with_word memory address word) address ≡ word
stored_is_loaded memory address word inside small =
    let within = inside_place memory address inside in
    let low = within.0 in
    let high = within.1 in
    ap (from_le_bytes w32) (here memory (address - data_start) (to_le_bytes w32 word) (omega arith) refl)
    ∙ from_le_bytes-to_le_bytes_4 word small

pub others_stay : (memory : List ℕ) (address other word : ℕ) → IsTrue (is_inside memory address 4) → IsTrue (is_inside memory other 4)
    → (address + 4 ≤ other) ⊎ (other + 4 ≤ address) → word_at (with_word memory address word) other ≡ word_at memory other
others_stay memory address other word inside other_inside apart =
    let within = inside_place memory address inside in
    let low = within.0 in
    let high = within.1 in
    let other_within = inside_place memory other other_inside in
    let other_low = other_within.0 in
    ap (from_le_bytes w32) (⊎_elim
    (λ (above : address + 4 ≤ other). behind memory (address - data_start) (other - data_start) (to_le_bytes w32 word) (omega arith) refl (omega arith))
    (λ (below : other + 4 ≤ address). before memory (address - data_start) (other - data_start) (to_le_bytes w32 word) (omega arith) (omega arith))
    apart)
