use Rattle.std.proofs.Common.{ℕ, List, ap, ◌∙◌}
use Rattle.c_seen.specs.declared.seen.Meaning.TheVariants as means
use Rattle.c_seen.specs.Meanings.{names_of, declaring}
use Rattle.c_seen.proofs.Restored.{restored-parameters}
use Rattle.c_seen.proofs.items.function.Goals as goal

pub returns-clause-names : goal.returns-clause-names
returns-clause-names c =
    ap names_of c.leave.ensures
    ∙ restored-parameters (names_of c.declare.new.self) c.body_if_any.new.scope c.len-len.result c.as_slice.result.now (c.in_ok-body_if_any.ensures.names ∙ c.in_ok-parameters.ensures.names) c.len-len.ensures
    ∙ c.in_ok-declare.ensures ∙ ap (λ (name : List ℕ). declaring (names_of c.args.scope.now) name 0 (means.Function c.args.item)) c.as_bytes-name.ensures
