-- Words that are kept.
use Rattle.std.proofs.Common.{◌≡◌, ◌≢◌, ℕ, ◌+◌, ◌-◌, ◌%◌, ◌^◌, ◌<◌, ◌≤◌, ◌⊎◌, inl, inr, ⊎_elim, ℤ, true, ◌==◌, List, ◌++◌, length, take, drop, refl, ap, ◌∙◌, arith, length-append, length-drop, length-take-le}
use Rattle.std.specs.Prelude.{FitsSigned}
use Rattle.std.specs.Int.{w32, cast_signed, cast_unsigned, to_le_bytes}
use Rattle.std.proofs.lemmas.Bool.Decides.{nat_tests}
use Rattle.std.proofs.lemmas.Bool.{cases_lt}
use Rattle.std.proofs.lemmas.Int.{ints}
use Rattle.rv_encode.specs.State.{data_start, is_inside, with_word}
use Rattle.rv_encode.proofs.Stores.{stored_is_loaded, others_stay}
use Rattle.code_memory.specs.Memory.{IsSlot, WordsAreKept}

pub is_in : (memory : List ℕ) (slot : ℕ) → IsSlot memory slot → is_inside memory (data_start + slot) 4 ≡ true
is_in memory slot at = let within = at.inside in grind (arith, nat_tests)

pub is_whole : (memory : List ℕ) (slot : ℕ) → IsSlot memory slot → ((data_start + slot) % 4 == 0) ≡ true
is_whole memory slot at = let whole = at.whole in grind (arith, nat_tests)

as_word : (x : ℤ) → FitsSigned w32 x → cast_unsigned w32 x < 2 ^ 32
as_word x fits = grind (arith, ints)

back : (x : ℤ) → FitsSigned w32 x → cast_signed w32 (cast_unsigned w32 x) ≡ x
back x fits = grind (arith, ints)

apart : (memory : List ℕ) (slot other : ℕ) → IsSlot memory slot → IsSlot memory other → other ≢ slot
    → (data_start + slot + 4 ≤ data_start + other) ⊎ (data_start + other + 4 ≤ data_start + slot)
apart memory slot other at at2 differ =
    let whole = at.whole in
    let whole2 = at2.whole in
    ⊎_elim (λ (less : slot < other). inl (omega arith))
    (λ (more : other ≤ slot). ⊎_elim (λ (less : other < slot). inr (omega arith)) (λ (less : slot ≤ other). absurd (differ (omega arith))) (cases_lt other slot))
    (cases_lt slot other)

kept_size : (memory : List ℕ) (slot word : ℕ) → IsSlot memory slot → length (with_word memory (data_start + slot) word) ≡ length memory
kept_size memory slot word at =
    let within = at.inside in
    let k = data_start + slot - data_start in
    let is : k ≡ slot = omega arith in
    let front : length (take k memory) ≡ k = length-take-le k memory (omega arith) in
    let behind : length (drop (k + 4) memory) ≡ length memory - (k + 4) = length-drop (k + 4) memory in
    let bytes : length (to_le_bytes w32 word) ≡ 4 = refl in
    length-append (take k memory) (to_le_bytes w32 word ++ drop (k + 4) memory)
    ∙ ap (λ n. length (take k memory) + n) (length-append (to_le_bytes w32 word) (drop (k + 4) memory))
    ∙ omega (arith, front, behind, bytes)

pub words_are_kept : WordsAreKept
words_are_kept = record {
  there = λ memory slot x at fits. ap (cast_signed w32) (stored_is_loaded memory (data_start + slot) (cast_unsigned w32 x) (is_in memory slot at) (as_word x fits)) ∙ back x fits;
  others = λ memory slot other x at at2 differ.
      ap (cast_signed w32) (others_stay memory (data_start + slot) (data_start + other) (cast_unsigned w32 x) (is_in memory slot at) (is_in memory other at2) (apart memory slot other at at2 differ));
  size = λ memory slot x at. kept_size memory slot (cast_unsigned w32 x) at;
}
