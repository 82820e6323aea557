-- The words of an operator that cannot stop do not depend on its guard.
use Rattle.std.proofs.Common.{refl}
use Rattle.operator_meaning.specs.declared.operator.Op.TheVariants as op
use Rattle.operator_meaning.specs.declared.site.SiteKind.TheVariants as kind
use Rattle.template_fields.specs.Laws.{GuardsThatCannotStop}

pub guards_that_cannot_stop : GuardsThatCannotStop
guards_that_cannot_stop (kind.Call op.DivS) form site regs gone = absurd (let e = gone in cc)
guards_that_cannot_stop (kind.Call o) form site regs gone = refl
guards_that_cannot_stop k form site regs gone = absurd (let e = gone in cc)
