use Rattle.std.proofs.Common.{◌≡◌, take}
use Rattle.sample_files.specs.Samples.{sample_bytes}
use Rattle.sample_files.proofs.spelling.bytes_of.Given as goal

abbrev pub invariant-loop-sample : goal.invariant-loop-sample
invariant-loop-sample l = l.bytes.items ≡ sample_bytes (take l.sample-index l.samples)
