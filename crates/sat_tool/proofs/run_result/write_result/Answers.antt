use Rattle.std.proofs.Common.{ℕ, List, ap, refl, subst, ◌∙◌}
use Rattle.std.proofs.lemmas.Result.{err_from_is_err_and}
use Rattle.sample_files.specs.Samples.{sample_bytes}
use Rattle.sat_tool.specs.Outcomes.{InAnyCase}
use Rattle.sat_tool.specs.Run.{Writes}
use Rattle.sat_tool.specs.Run as run
use Rattle.sat_tool.specs.World.{store_view}
use Rattle.sat_tool.proofs.run_result.write_result.Goals as goal

pub returns-in_err-bytes-clause-writes : goal.returns-in_err-bytes-clause-writes
returns-in_err-bytes-clause-writes g c =
    let p = err_from_is_err_and c.from_residual.result c.from_residual.ensures.1 in rw (p.1, p.2) (run.wants_memory refl)

pub returns-clause-writes : goal.returns-clause-writes
returns-clause-writes g c =
    let old = store_view (g.S.Store.files c.args.store.now) (g.S.Store.faults c.args.store.now) in
    let new = store_view (g.S.Store.files c.write_file.new.store) (g.S.Store.faults c.write_file.new.store) in
    let same = c.deref-2.ensures.value ∙ c.in_ok-bytes.ensures ∙ ap sample_bytes c.deref.ensures.value in
    subst (λ (bytes : List ℕ). InAnyCase c.write_file.result (Writes (record { name = c.args.name.now; bytes = bytes }) c.args.ran.outcome old new)) same
    c.write_file.ensures.writes
