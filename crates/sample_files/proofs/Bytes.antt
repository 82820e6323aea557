-- Samples are read as they are spelled, and spelled as they are read.
use Rattle.std.proofs.Common.{◌≡◌, ℕ, zero, suc, ◌+◌, ◌*◌, ◌/◌, ◌%◌, ◌^◌, ◌<◌, ◌≤◌, ℤ, List, [], ◌∷◌, ◌++◌, map, take, drop, get_or, length, refl, sym, ap, ◌∙◌, arith, inl, inr}
use Rattle.std.specs.List.{AllByRecursion}
use Rattle.std.specs.Int.{w16, cast_signed, cast_unsigned, from_le_bytes, to_le_bytes}
use Rattle.std.specs.Int.RustNames.{FitsSigned}
use Rattle.std.specs.Simd.{first_chunks}
use Rattle.std.proofs.lemmas.Bool.{cases_lt}
use Rattle.std.proofs.lemmas.Int.{ints, of_z-to_z, to_z-of_z}
use Rattle.std.proofs.lemmas.List.{nil_from_length, take-append-drop, length-take, length-drop, get_or-take, get_or-drop, get_or_past}
use Rattle.std.proofs.lemmas.List.Elements.{All-from_recursion, recursion_from_All}
use Rattle.std.proofs.lemmas.Nat.{le_bytes_2, from_le_bytes-to_le_bytes_2}
use Rattle.sat_base.specs.declared.limits.TheConstants.{SAMPLE_BYTES}
use Rattle.sample_files.specs.declared.refusal.SampleRefusal.{SampleRefusal}
use Rattle.sample_files.specs.declared.refusal.SampleRefusal.TheVariants.{Memory}
use Rattle.sample_files.specs.Samples.{bytes_of_sample, sample_in, sample_bytes, samples_in}
use Rattle.sample_files.specs.Reading.{HaveSixteenBits, SamplesHaveOneSpelling}

abbrev pub IsBytes : List ℕ → Type 0
IsBytes bytes = (i : ℕ) → get_or bytes i 0 < 256

IsBytes-drop : (n : ℕ) (bytes : List ℕ) → IsBytes bytes → IsBytes (drop n bytes)
IsBytes-drop n bytes fits i = rw get_or-drop (fits (n + i))

IsBytes-take : (n : ℕ) (bytes : List ℕ) → IsBytes bytes → IsBytes (take n bytes)
IsBytes-take n bytes fits i = elim (cases_lt i n) [
  | inl within ↦ rw (get_or-take n bytes i 0 within) (fits i)
  | inr past ↦ rw (get_or_past (take n bytes) i 0 (omega (arith, length-take n bytes))) (omega arith)
]

-- ---- one sample

number_fits : (pair : List ℕ) → IsBytes pair → from_le_bytes w16 pair < 2 ^ 16
number_fits pair fits = omega (arith, fits 0, fits 1)

sample_spelled : (pair : List ℕ) → length pair ≡ 2 → IsBytes pair → bytes_of_sample (sample_in pair) ≡ pair
sample_spelled pair len fits =
    ap (to_le_bytes w16) (of_z-to_z w16 (from_le_bytes w16 pair) (number_fits pair fits)) ∙ le_bytes_2 pair (from_le_bytes w16 pair) len fits refl

signed_fits : (n : ℕ) → n < 2 ^ 16 → FitsSigned w16 (cast_signed w16 n)
signed_fits n fits = search (arith, ints)

unsigned_fits : (sample : ℤ) → FitsSigned w16 sample → cast_unsigned w16 sample < 2 ^ 16
unsigned_fits sample fits = search (arith, ints)

sample_again : (sample : ℤ) → FitsSigned w16 sample → sample_in (bytes_of_sample sample) ≡ sample
sample_again sample fits =
    ap (cast_signed w16) (from_le_bytes-to_le_bytes_2 (cast_unsigned w16 sample) (unsigned_fits sample fits)) ∙ to_z-of_z w16 sample fits

-- ---- all samples

spelled : (k : ℕ) (bytes : List ℕ) → length bytes ≡ 2 * k → IsBytes bytes → sample_bytes (map sample_in (first_chunks 2 k bytes)) ≡ bytes
spelled zero bytes len fits = sym (nil_from_length bytes (omega arith))
spelled (suc k) bytes len fits =
    ap (λ front. front ++ sample_bytes (map sample_in (first_chunks 2 k (drop 2 bytes))))
    (sample_spelled (take 2 bytes) (omega (arith, length-take 2 bytes)) (IsBytes-take 2 bytes fits))
    ∙ ap (λ rest. take 2 bytes ++ rest) (spelled k (drop 2 bytes) (omega (arith, length-drop 2 bytes)) (IsBytes-drop 2 bytes fits))
    ∙ take-append-drop 2 bytes

are_samples : (k : ℕ) (bytes : List ℕ) → IsBytes bytes → AllByRecursion (FitsSigned w16) (map sample_in (first_chunks 2 k bytes))
are_samples zero bytes fits = tt
are_samples (suc k) bytes fits = (
  signed_fits (from_le_bytes w16 (take 2 bytes)) (number_fits (take 2 bytes) (IsBytes-take 2 bytes fits)),
  are_samples k (drop 2 bytes) (IsBytes-drop 2 bytes fits),
)

again : (samples : List ℤ) → AllByRecursion (FitsSigned w16) samples → map sample_in (first_chunks 2 (length samples) (sample_bytes samples)) ≡ samples
again [] fit = refl
again (sample ∷ samples) fit = rw (sample_again sample fit.0, again samples fit.1) refl

length-sample_bytes : (samples : List ℤ) → length (sample_bytes samples) ≡ 2 * length samples
length-sample_bytes [] = omega arith
length-sample_bytes (sample ∷ samples) = omega (arith, length-sample_bytes samples)

-- ---- the answers

pub have_sixteen_bits : (bytes : List ℕ) (read : List ℤ) → IsBytes bytes → read ≡ samples_in bytes
    → HaveSixteenBits read
have_sixteen_bits bytes read fits read_is = rw read_is (All-from_recursion (FitsSigned w16) _ (are_samples (length bytes / 2) bytes fits))

pub reads : (bytes : List ℕ) (samples : List ℤ) → IsBytes bytes → length bytes ≤ SAMPLE_BYTES → length bytes % 2 ≡ 0
    → samples ≡ samples_in bytes
    → (length bytes ≤ SAMPLE_BYTES) × (bytes ≡ sample_bytes samples)
reads bytes samples fits few even read =
    let back = spelled (length bytes / 2) bytes (omega arith) fits in
    (few, sym back ∙ ap sample_bytes (sym read))

pub have_one_spelling : SamplesHaveOneSpelling
have_one_spelling samples others fit others_fit same =
    let count : length samples ≡ length others = omega (arith, length-sample_bytes samples, length-sample_bytes others, ap length same) in
    sym (again samples (recursion_from_All (FitsSigned w16) samples fit))
    ∙ ap (λ bytes. map sample_in (first_chunks 2 (length samples) bytes)) same
    ∙ ap (λ k. map sample_in (first_chunks 2 k (sample_bytes others))) count
    ∙ again others (recursion_from_All (FitsSigned w16) others others_fit)

-- ---- what was read, and what was not

pub is_read : (bytes : List ℕ) (read : List ℤ) → read ≡ samples_in bytes
    → (samples : List ℤ) → HaveSixteenBits samples → bytes ≡ sample_bytes samples → length bytes ≤ SAMPLE_BYTES → read ≡ samples
is_read bytes read read_is samples fit spells few =
    let count : length (sample_bytes samples) / 2 ≡ length samples = omega (arith, length-sample_bytes samples) in
    read_is
    ∙ ap samples_in spells
    ∙ ap (λ k. map sample_in (first_chunks 2 k (sample_bytes samples))) count
    ∙ again samples (recursion_from_All (FitsSigned w16) samples fit)

pub is_none_read : (bytes : List ℕ) (refusal : SampleRefusal) → length bytes % 2 ≡ 1
    → (samples : List ℤ) → HaveSixteenBits samples → bytes ≡ sample_bytes samples → length bytes ≤ SAMPLE_BYTES → refusal ≡ Memory
is_none_read bytes refusal odd samples fit spells few = absurd (omega (arith, length-sample_bytes samples, ap length spells))
