-- What reading a file of samples answers.
use Rattle.std.specs.Prelude.{◌≡◌, ℕ, ◌%◌, ◌<◌, ◌≤◌, ℤ, List, All, length, Result, Ok, Err, MatchResult}
use Rattle.std.specs.Global.{Vec}
use Rattle.std.specs.Int.{w16}
use Rattle.std.specs.Int.RustNames.{FitsSigned}
use Rattle.sat_base.specs.declared.limits.TheConstants.{SAMPLE_BYTES}
use Rattle.sample_files.specs.declared.refusal.SampleRefusal.{SampleRefusal}
use Rattle.sample_files.specs.declared.refusal.SampleRefusal.TheVariants.{TooLong, OddLength, Memory}
use Rattle.sample_files.specs.Samples.{sample_bytes}

-- Samples are read of bytes that are theirs, and not too many. Bytes are refused where they are too many, or else where
-- their number is odd. Want of memory may be told at any time.
abbrev pub IsAnswerTo : List ℕ → Result (Vec ℤ) SampleRefusal → Type 0
IsAnswerTo bytes (Ok samples) = (length bytes ≤ SAMPLE_BYTES) × (bytes ≡ sample_bytes samples.items)
IsAnswerTo bytes (Err TooLong) = SAMPLE_BYTES < length bytes
IsAnswerTo bytes (Err OddLength) = (length bytes ≤ SAMPLE_BYTES) × (length bytes % 2 ≡ 1)
IsAnswerTo bytes (Err Memory) = Unit {0}

-- numbers of 16 bits
abbrev pub HaveSixteenBits : List ℤ → Type 0
HaveSixteenBits samples = All (FitsSigned w16) samples

-- the samples whose bytes these are are read, where the bytes are not too many and memory does not run out
abbrev pub IsReadFrom : List ℕ → Result (Vec ℤ) SampleRefusal → Type 0
IsReadFrom bytes result = (samples : List ℤ) → HaveSixteenBits samples → bytes ≡ sample_bytes samples → length bytes ≤ SAMPLE_BYTES
    → MatchResult result (λ read. read.items ≡ samples) (λ refusal. refusal ≡ Memory)

-- no two lists of samples have the same bytes
abbrev pub SamplesHaveOneSpelling : Type 0
SamplesHaveOneSpelling = (samples others : List ℤ) → HaveSixteenBits samples → HaveSixteenBits others
    → sample_bytes samples ≡ sample_bytes others → samples ≡ others
