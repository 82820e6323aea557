use Rattle.std.proofs.Common.{sym, ap, ◌∙◌}
use Rattle.sat_base.specs.Observation.{output_of}
use Rattle.command_outcomes.specs.Outcomes.{outcome_of}
use Rattle.command_outcomes.specs.RunLines.{image_stop_line}
use Rattle.sat_tool.proofs.Running.{output_with}
use Rattle.sat_tool.proofs.run_image.run.Goals as goal

pub returns : goal.returns
returns c =
    let seen = sym c.in_ok-emulated.ensures in
    record {
      output = sym (output_with c.in_ok-emulated.emulated.pause c.in_ok-emulated.emulated.output.items) ∙ ap output_of seen;
      outcome = c.in_ok-outcome.ensures c.in_ok-emulated.emulated.output.items ∙ ap (outcome_of (image_stop_line c.args.image.now.sites)) seen;
    }
