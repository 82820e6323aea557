-- The bytes of samples: each is two bytes, the lower first, in two's complement.
use Rattle.std.specs.Prelude.{ℕ, ◌/◌, ℤ, List, length, map}
use Rattle.std.specs.List.{flat_map}
use Rattle.std.specs.Simd.{first_chunks}
use Rattle.std.specs.Int.{w16, cast_signed, cast_unsigned, to_le_bytes, from_le_bytes}

-- the two bytes of a sample, and the sample in two bytes
abbrev pub bytes_of_sample : ℤ → List ℕ
bytes_of_sample sample = to_le_bytes w16 (cast_unsigned w16 sample)

abbrev pub sample_in : List ℕ → ℤ
sample_in bytes = cast_signed w16 (from_le_bytes w16 bytes)

abbrev pub sample_bytes : List ℤ → List ℕ
sample_bytes samples = flat_map bytes_of_sample samples

-- the samples in these bytes, two after two
abbrev pub samples_in : List ℕ → List ℤ
samples_in bytes = map sample_in (first_chunks 2 (length bytes / 2) bytes)
