use Rattle.std.proofs.Common.{List, ℕ, Option, Some, inr, refl, ap, ◌∙◌}
use Rattle.std.proofs.lemmas.Result.{err_from_is_err_and}
use Rattle.command_outcomes.specs.declared.outcome.Outcome.TheVariants.{Done}
use Rattle.sat_tool.specs.Files.{Output}
use Rattle.command_outcomes.specs.Lines.{sites_line}
use Rattle.sat_tool.specs.Outcomes as outcomes
use Rattle.sat_tool.proofs.Serving.{in_any_case}
use Rattle.sat_tool.proofs.build.build_text.Goals as goal

pub returns-in_err-built-clause-builds : goal.returns-in_err-built-clause-builds
returns-in_err-built-clause-builds g c =
    let p = err_from_is_err_and c.from_residual.result c.from_residual.ensures.1 in rw (p.1, p.2) (outcomes.stops c.in_err-built.ensures.stops refl)

pub returns-in_err-bytes-clause-builds : goal.returns-in_err-bytes-clause-builds
returns-in_err-bytes-clause-builds g c =
    let p = err_from_is_err_and c.from_residual-in_err-bytes.result c.from_residual-in_err-bytes.ensures.1 in rw (p.1, p.2) (outcomes.stops (inr refl) refl)

pub returns-in_err-report-clause-builds : goal.returns-in_err-report-clause-builds
returns-in_err-report-clause-builds g c =
    let p = err_from_is_err_and c.from_residual-in_err-report.result c.from_residual-in_err-report.ensures.1 in rw (p.1, p.2) (outcomes.stops (inr refl) refl)

-- the file of this name with these bytes
abbrev output : (name bytes : List ℕ) → Option Output
output name bytes = Some (record { name = name; bytes = bytes })

pub returns-clause-builds : goal.returns-clause-builds
returns-clause-builds g c =
    in_any_case c.write_file.result _ _
    (λ outcome write. outcomes.writes (record { image = c.in_ok-built.built.image; of = c.in_ok-built.ensures.built; writes = ap (output c.args.image.now) (c.deref.ensures.value ∙ c.in_ok-bytes.ensures); is = c.in_ok-report.ensures ∙ ap (λ (n : ℕ). Done (Some (sites_line n))) c.len.ensures }) write)
    c.write_file.ensures.writes
