use Rattle.std.proofs.Common.{ap, ◌∙◌, refl}
use Rattle.call_graph.proofs.Fronts.{front-begun, front-spread, none-further, are-distances, some-functions, opening}
use Rattle.call_graph.proofs.distance.distances.Goals as goal

pub waves-init : goal.waves-init
waves-init c = front-begun _ _ _ (c.in_ok-wave.ensures ∙ ap (λ n. opening n c.args.start) c.len.ensures)

pub spread-requires-clause-none : goal.spread-requires-clause-none
spread-requires-clause-none c = none-further _ _ _ _ c.waves.invariant

pub waves-preserved : goal.waves-preserved
waves-preserved c = front-spread _ _ _ _ _ c.waves.invariant c.in_ok-next.ensures (some-functions _ (λ none. let no = c.waves-test.ensures.1 none in cc))

pub returns : goal.returns
returns c = are-distances _ _ _ _ c.waves.invariant (c.waves-test.ensures.0 refl)
