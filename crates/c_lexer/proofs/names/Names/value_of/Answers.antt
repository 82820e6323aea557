use Rattle.std.proofs.Common.{◌∙◌}
use Rattle.c_lexer.proofs.Defined.{lookup_named}
use Rattle.c_lexer.proofs.names.Names.value_of.Goals as goal

pub returns : goal.returns
returns c = c.copied.ensures ∙ c.get.ensures.value ∙ lookup_named c.args.self.now.values.entries c.args.name.now
