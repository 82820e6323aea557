use Rattle.std.proofs.Common.{ap}
use Rattle.c_lexer.specs.Views.{names_of}
use Rattle.c_lexer.proofs.Defined.{seen, predefined_steps}
use Rattle.c_lexer.proofs.names.Names.new.Goals as goal

pub returns : goal.returns
returns c =
    predefined_steps (seen c.new.result.entries) (names_of c.define.new.self) (names_of c.define-2.new.self) (names_of c.define-3.new.self) (names_of c.define-4.new.self)
    (ap seen c.new.ensures.empty) c.in_ok-define.ensures c.in_ok-define-2.ensures c.in_ok-define-3.ensures c.in_ok-define-4.ensures
