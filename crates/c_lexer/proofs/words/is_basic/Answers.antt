use Rattle.std.proofs.Common.{List, ℕ, sym, subst, ◌∙◌}
use Rattle.operator_meaning.specs.Table.{IsNameOf, IsNoName}
use Rattle.std.specs.Option.{MatchOption}
use Rattle.c_lexer.proofs.Operators.{basic_is, no_text}
use Rattle.c_lexer.proofs.words.is_basic.Goals as goal

pub returns-in-Ok : goal.returns-in-Ok
returns-in-Ok c =
    c.is_some.ensures
    ∙ basic_is c.args.word.now c.of_name.result (subst (λ (t : List ℕ). MatchOption c.of_name.result (IsNoName t) (IsNameOf t)) c.in-Ok.ensures.cases.0 c.of_name.ensures)

pub returns-in-Err : goal.returns-in-Err
returns-in-Err c = sym (no_text c.args.word.now c.in-Err.ensures.cases.0)
