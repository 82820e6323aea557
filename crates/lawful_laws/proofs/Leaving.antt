-- `break` and `continue` stand in loops.
use Rattle.std.proofs.Common.{◌≡◌, Bool, true, false, [], refl}
use Rattle.c_seen.specs.declared.seen.Seen.{Seen}
use Rattle.c_seen.specs.declared.seen.Seen.TheVariants as seen
use Rattle.c_faults.specs.Faults.{faults_at}
use Rattle.lawful_sources.specs.Rows.{is_in_loop}
use Rattle.lawful_sources.proofs.Passing.{PassesExpressions}
use Rattle.lawful_laws.proofs.Statements.{Follows}
use Rattle.lawful_laws.proofs.Sound.{stands}
use Rattle.lawful_laws.specs.Laws.{LeavesStandInLoops}

sound : Seen → Bool
sound (seen.Leave at in_loop) = in_loop
sound s = true

each : (s : Seen) → faults_at s ≡ [] → sound s ≡ true
unfolding sound
each (seen.Place p) none = refl
each (seen.Call call) none = refl
each (seen.NoView at) none = refl
each (seen.Name at is_taken) none = refl
each (seen.Object object) none = refl
each (seen.Parameter param) none = refl
each (seen.Function function) none = refl
each (seen.Statement at) none = refl
each (seen.Constant at value) none = refl
each (seen.Leave at true) none = refl
each (seen.Leave at false) none = cc
each (seen.Return at has_value gives) none = refl
each (seen.End at has_main) none = refl

passes : PassesExpressions is_in_loop
passes = record {
  places = λ object marks aim. refl;
  calls = λ callee arguments is_needed. refl;
  arguments = λ is_view taken. refl;
  marks = λ at site kind. refl;
  conversions = λ is due. refl;
  constants = λ value. refl;
}

follows : Follows is_in_loop sound
unfolding sound
follows = record { expressions = passes; statements = refl; begins = λ object value. refl; leaves = λ at in_loop p. p; returns = λ at has_value gives p. refl }

pub leaves-in-loops : LeavesStandInLoops
leaves-in-loops program typed is = stands sound each typed is_in_loop follows program is
