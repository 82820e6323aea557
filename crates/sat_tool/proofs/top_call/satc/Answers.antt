use Rattle.sat_tool.proofs.Headline.{builds_accepted, refuses_others}
use Rattle.sat_tool.proofs.RunHeadline.{runs_images, runs_sources, refuses_to_run_others}
use Rattle.sat_tool.proofs.top_call.satc.Goals as goal

pub returns-clause-built : goal.returns-clause-built
returns-clause-built g c = builds_accepted _ _ _ _ (record { outcome = c.outcome_of-outcome.result; comes = c.outcome_of-outcome.ensures.comes; tells = c.tell.ensures.told; store_later = c.outcome_of-outcome.ensures.later; sink_later = c.tell.ensures.later })

pub returns-clause-refused : goal.returns-clause-refused
returns-clause-refused g c = refuses_others _ _ _ _ (record { outcome = c.outcome_of-outcome.result; comes = c.outcome_of-outcome.ensures.comes; tells = c.tell.ensures.told; store_later = c.outcome_of-outcome.ensures.later; sink_later = c.tell.ensures.later })

pub returns-clause-ran : goal.returns-clause-ran
returns-clause-ran g c = runs_images _ _ _ _ (record { outcome = c.outcome_of-outcome.result; comes = c.outcome_of-outcome.ensures.comes; tells = c.tell.ensures.told; store_later = c.outcome_of-outcome.ensures.later; sink_later = c.tell.ensures.later })

pub returns-clause-ran_source : goal.returns-clause-ran_source
returns-clause-ran_source g c = runs_sources _ _ _ _ (record { outcome = c.outcome_of-outcome.result; comes = c.outcome_of-outcome.ensures.comes; tells = c.tell.ensures.told; store_later = c.outcome_of-outcome.ensures.later; sink_later = c.tell.ensures.later })

pub returns-clause-not_run : goal.returns-clause-not_run
returns-clause-not_run g c = refuses_to_run_others _ _ _ _ (record { outcome = c.outcome_of-outcome.result; comes = c.outcome_of-outcome.ensures.comes; tells = c.tell.ensures.told; store_later = c.outcome_of-outcome.ensures.later; sink_later = c.tell.ensures.later })
