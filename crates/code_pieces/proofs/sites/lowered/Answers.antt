use Rattle.std.proofs.Common.{rules}
use Rattle.code_pieces.proofs.sites.lowered.Goals as goal

-- src/sites.rt:130:1
pub returns : goal.returns
returns c = rw (c.template.ensures.words, c.regs_of-registers.ensures.places, c.form_of.ensures) (search (rules))
