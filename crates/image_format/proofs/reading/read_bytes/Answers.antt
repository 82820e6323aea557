use Rattle.std.proofs.Common.{arith}
use Rattle.image_format.proofs.Read.{is_spelled, is_refused_so, is_read}
use Rattle.image_format.proofs.reading.read_bytes.Goals as goal

pub returns : goal.returns
returns c = let bytes = c.args.bytes.now in record {
  spelled = is_spelled bytes _ (λ i. omega (arith, c.type_inv.bytes i)) c.read_image.ensures;
  cause = is_refused_so bytes _ c.read_image.ensures;
  exact = is_read bytes _ c.read_image.ensures;
}
