-- The pc of a word of the code, and the words that stand there.
use Rattle.std.proofs.Common.{◌≡◌, ℕ, suc, zero, ◌+◌, ◌-◌, ◌*◌, ◌/◌, ◌%◌, ◌≤◌, pos, true, false, List, [], ◌∷◌, ◌++◌, ◌==◌, nat_lt, length, map, take, drop, if◌then◌else◌, Some, None, refl, sym, ap, ◌∙◌, subst, arith, add-one, append_assoc, length-append}
use Rattle.std.specs.Prelude.{slice_get}
use Rattle.std.proofs.Math.Seq.{drop-cons}
use Rattle.std.proofs.lemmas.Int.{ints}
use Rattle.std.proofs.lemmas.Option.{slice_get_within, get_or_from_slice_get}
use Rattle.rv_encode.specs.declared.instruction.Instr.{Instr}
use Rattle.rv_encode.specs.Words.{encoded}
use Rattle.rv_encode.specs.State.{code_start, next_pc, target_pc}
use Rattle.rv_encode.specs.Runs.{pc_of, fetched, Stand}

-- the most words that a code has
abbrev pub most_words : ℕ
most_words = 16777216

-- ---- the pc

pub fetched_at : (code : List ℕ) (pc k : ℕ) → pc ≡ pc_of k → fetched code pc ≡ slice_get code k
fetched_at code pc k here =
    let not_below : nat_lt (pc_of k) code_start ≡ false = grind (arith) in
    let index : (pc_of k - code_start) / 4 ≡ k = omega arith in
    ap (fetched code) here
    ∙ ap (λ b. if b then None else slice_get code ((pc_of k - code_start) / 4)) not_below ∙ ap (slice_get code) index

pub next_pc_of : (k i : ℕ) → k + i ≤ most_words → next_pc (pc_of (k + i)) ≡ pc_of (k + (i + 1))
next_pc_of k i small = omega arith

pub target_pc_of : (k i m : ℕ) → k + i ≤ most_words → m ≤ 1000 → target_pc (pc_of (k + i)) (pos (4 * m)) ≡ pc_of (k + (i + m))
target_pc_of k i m small short = grind (arith, ints)

pub whole_pc_of : (k : ℕ) → (pc_of k % 4 == 0) ≡ true
whole_pc_of k = grind (arith)

-- ---- instructions that stand in a code

-- the first of two parts, and the second
pub stand_left : (code : List ℕ) (k : ℕ) (xs ys : List Instr) → Stand code k (xs ++ ys) → Stand code k xs
stand_left code k [] ys stand = tt
stand_left code k (x ∷ xs) ys stand = (stand.0, stand_left code (k + 1) xs ys stand.1)

pub stand_right : (code : List ℕ) (k : ℕ) (xs ys : List Instr) → Stand code k (xs ++ ys) → Stand code (k + length xs) ys
stand_right code k [] ys stand = let e : k ≡ k + length {A = Instr} [] = omega arith in subst (λ n. Stand code n ys) e stand
stand_right code k (x ∷ xs) ys stand =
    let e : k + 1 + length xs ≡ k + length (x ∷ xs) = omega arith in
    subst (λ n. Stand code n ys) e (stand_right code (k + 1) xs ys stand.1)

-- one of them
pub stand_at : (code : List ℕ) (k : ℕ) (instrs : List Instr) → Stand code k instrs → (i : ℕ) (instr : Instr) → slice_get instrs i ≡ Some instr
    → slice_get code (k + i) ≡ Some (encoded instr)
stand_at code k [] stand i instr e = let less = slice_get_within [] i instr e in absurd (omega arith)
stand_at code k (x ∷ xs) stand zero instr e =
    let same : x ≡ instr = cc in
    let place : k + 0 ≡ k = omega arith in
    ap (slice_get code) place ∙ stand.0 ∙ ap (λ v. Some (encoded v)) same
stand_at code k (x ∷ xs) stand (suc i) instr e =
    let place : k + suc i ≡ k + 1 + i = omega arith in
    ap (slice_get code) place ∙ stand_at code (k + 1) xs stand.1 i instr e

-- their words after others
get-seam : (front : List ℕ) (word : ℕ) (back : List ℕ) → slice_get (front ++ word ∷ back) (length front) ≡ Some word
get-seam [] word back = refl
get-seam (x ∷ front) word back =
    let e : length (x ∷ front) ≡ suc (length front) = omega arith in
    ap (slice_get (x ∷ (front ++ word ∷ back))) e ∙ get-seam front word back

pub stand_after : (front : List ℕ) (instrs : List Instr) (back : List ℕ) → Stand (front ++ (map encoded instrs ++ back)) (length front) instrs
stand_after front [] back = tt
stand_after front (x ∷ xs) back =
    let word = encoded x in
    let rest = map encoded xs ++ back in
    let more : length (front ++ word ∷ []) ≡ length front + 1 = length-append front (word ∷ []) in (
      get-seam front word rest,
      subst (λ n. Stand (front ++ word ∷ rest) n xs) more
          (subst (λ code. Stand code (length (front ++ word ∷ [])) xs) (append_assoc front (word ∷ []) rest) (stand_after (front ++ word ∷ []) xs back)),
    )

-- they are what the code has there
pub stand_words : (code : List ℕ) (k : ℕ) (instrs : List Instr) → Stand code k instrs → take (length instrs) (drop k code) ≡ map encoded instrs
stand_words code k [] stand = refl
stand_words code k (x ∷ xs) stand =
    let word = encoded x in
    let first : drop k code ≡ word ∷ drop (suc k) code =
    drop-cons code k word (slice_get_within code k word stand.0) ∙ ap (λ w. w ∷ drop (suc k) code) (get_or_from_slice_get code k word word stand.0) in
    let many : length (x ∷ xs) ≡ suc (length xs) = omega arith in
    ap (λ n. take n (drop k code)) many ∙ ap (take (suc (length xs))) first
    ∙ ap (λ n. word ∷ take (length xs) (drop n code)) (sym (add-one k)) ∙ ap (λ l. word ∷ l) (stand_words code (k + 1) xs stand.1)
