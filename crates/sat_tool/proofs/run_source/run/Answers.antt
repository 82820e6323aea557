use Rattle.std.proofs.Common.{sym, ap, ◌∙◌}
use Rattle.sat_base.specs.Observation.{output_of}
use Rattle.command_outcomes.specs.Outcomes.{outcome_of}
use Rattle.command_outcomes.specs.RunLines.{source_stop_line}
use Rattle.sat_tool.proofs.Running.{output_at, seen_by}
use Rattle.sat_tool.proofs.run_source.run.Goals as goal

pub returns : goal.returns
returns c =
    let after = c.run.new.self in
    let seen = seen_by c.args.typed.now c.args.input.now c.args.turns c.in_ok-runner.runner after c.in_ok-end.end
    c.in_ok-runner.ensures.ready c.in_ok-end.ensures.answers in
    record {
      output = c.in_ok-output.ensures.items ∙ c.output.ensures ∙ sym (output_at c.in_ok-end.end after.output) ∙ ap output_of seen;
      outcome = c.in_ok-outcome.ensures after.output ∙ ap (outcome_of (source_stop_line c.args.typed.now.sites)) seen;
    }
