use Rattle.std.proofs.Common.{◌*◌, ◌%◌, ◌^◌, ap, ◌∙◌, w32, w64, to_z, of_z}
use Rattle.std.proofs.lemmas.Int.{to_z-of_z}
use Rattle.operator_meaning.proofs.Shifts.{left_is}
use Rattle.operator_meaning.proofs.shift.multiplied.Goals as goal

pub returns : goal.returns
returns c = ap (λ y. to_z w64 (of_z w64 y * 2 ^ c.args.count % 18446744073709551616)) (c.from.ensures ∙ to_z-of_z w32 c.args.x c.ranges.x) ∙ left_is c.args.x c.args.count c.ranges.x c.requires
