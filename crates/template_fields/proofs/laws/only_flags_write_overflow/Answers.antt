use Rattle.template_fields.proofs.Writes.{only_flags_write_overflow}
use Rattle.template_fields.proofs.laws.only_flags_write_overflow.Goals as goal

pub returns : goal.returns
returns c = only_flags_write_overflow
