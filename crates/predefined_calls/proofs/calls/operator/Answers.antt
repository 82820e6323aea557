use Rattle.std.proofs.Common.{ℕ, List, subst}
use Rattle.std.specs.Prelude.{None}
use Rattle.std.specs.Option.{MatchOption}
use Rattle.operator_meaning.specs.Table.{IsNameOf, IsNoName}
use Rattle.predefined_calls.proofs.Found.{operator-found}
use Rattle.predefined_calls.proofs.Texts.{no_text}
use Rattle.predefined_calls.proofs.calls.operator.Goals as goal

pub returns-in-Ok : goal.returns-in-Ok
returns-in-Ok c =
    operator-found c.args.name.now c.of_name.result
    (subst (λ (t : List ℕ). MatchOption c.of_name.result (IsNoName t) (IsNameOf t)) c.in-Ok.ensures.cases.0 c.of_name.ensures)

pub returns-in-Err : goal.returns-in-Err
returns-in-Err c = operator-found c.args.name.now None (no_text c.args.name.now c.in-Err.ensures.cases.0)
