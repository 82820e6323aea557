use Rattle.std.proofs.Common.{arith}
use Rattle.sample_files.proofs.Bytes.{reads, is_read, is_none_read, have_sixteen_bits}
use Rattle.sample_files.proofs.reading.samples.Goals as goal

pub returns-then-bytes-ne0-clause-read : goal.returns-then-bytes-ne0-clause-read
returns-then-bytes-ne0-clause-read c = is_none_read c.args.bytes.now _ (omega arith)

pub returns-clause-answer : goal.returns-clause-answer
returns-clause-answer c =
    reads c.args.bytes.now c.in_ok-samples_in.field-0.items (λ i. omega (arith, c.type_inv.bytes i)) (omega arith) (omega arith) c.in_ok-samples_in.ensures

pub returns-clause-read : goal.returns-clause-read
returns-clause-read c = is_read c.args.bytes.now c.in_ok-samples_in.field-0.items c.in_ok-samples_in.ensures

pub returns-clause-wide : goal.returns-clause-wide
returns-clause-wide c = have_sixteen_bits c.args.bytes.now c.in_ok-samples_in.field-0.items (λ i. omega (arith, c.type_inv.bytes i)) c.in_ok-samples_in.ensures
