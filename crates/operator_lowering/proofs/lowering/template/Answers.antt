use Rattle.operator_lowering.specs.Registers.{places_of}
use Rattle.operator_lowering.proofs.Places.{places_are}
use Rattle.operator_lowering.proofs.Templates.{holds}
use Rattle.operator_lowering.proofs.lowering.template.Goals as goal

pub returns-clause-holds : goal.returns-clause-holds
returns-clause-holds c =
    holds c.args.kind c.args.form c.args.guard c.args.site (places_of c.args.regs.now) c.requires.form c.ranges.site.fits (places_are c.args.kind c.args.regs.now c.requires.registers)
