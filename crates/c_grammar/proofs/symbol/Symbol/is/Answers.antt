use Rattle.c_grammar.proofs.SymbolNumbers.{tag_is_number}
use Rattle.c_grammar.proofs.symbol.Symbol.is.Goals as goal

-- src/symbol.rt:80:5
pub returns : goal.returns
returns c = rw (tag_is_number c.args.self, tag_is_number c.args.other)
