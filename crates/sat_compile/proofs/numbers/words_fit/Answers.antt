use Rattle.std.proofs.Common.{arith}
use Rattle.std.proofs.lemmas.List.Elements.{All-from_get_or}
use Rattle.image_format.specs.Readable.{IsWord}
use Rattle.sat_compile.proofs.numbers.words_fit.Goals as goal

pub returns : goal.returns
returns c = All-from_get_or IsWord c.args.code.now 0 (λ i within. omega (arith, c.type_inv.code i))
