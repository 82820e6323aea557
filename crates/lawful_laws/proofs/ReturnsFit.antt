-- `return` has a value exactly where its function gives a number.
use Rattle.std.proofs.Common.{◌≡◌, Bool, true, false, [], refl}
use Rattle.c_seen.specs.declared.seen.Seen.{Seen}
use Rattle.c_seen.specs.declared.seen.Seen.TheVariants as seen
use Rattle.c_faults.specs.Faults.{faults_at}
use Rattle.lawful_sources.specs.Objects.{same_truth}
use Rattle.lawful_sources.specs.Rows.{return_fits}
use Rattle.lawful_sources.proofs.Passing.{PassesExpressions}
use Rattle.lawful_laws.proofs.Statements.{Follows}
use Rattle.lawful_laws.proofs.Sound.{stands}
use Rattle.lawful_laws.specs.Laws.{ReturnsFit}

sound : Seen → Bool
sound (seen.Return at has_value gives) = same_truth has_value gives
sound s = true

each : (s : Seen) → faults_at s ≡ [] → sound s ≡ true
unfolding sound
each (seen.Place p) none = refl
each (seen.Call call) none = refl
each (seen.NoView at) none = refl
each (seen.Name at is_taken) none = refl
each (seen.Object object) none = refl
each (seen.Parameter param) none = refl
each (seen.Function function) none = refl
each (seen.Statement at) none = refl
each (seen.Constant at value) none = refl
each (seen.Leave at in_loop) none = refl
each (seen.Return at true true) none = refl
each (seen.Return at true false) none = cc
each (seen.Return at false true) none = cc
each (seen.Return at false false) none = refl
each (seen.End at has_main) none = refl

passes : PassesExpressions return_fits
passes = record {
  places = λ object marks aim. refl;
  calls = λ callee arguments is_needed. refl;
  arguments = λ is_view taken. refl;
  marks = λ at site kind. refl;
  conversions = λ is due. refl;
  constants = λ value. refl;
}

follows : Follows return_fits sound
unfolding sound
follows = record { expressions = passes; statements = refl; begins = λ object value. refl; leaves = λ at in_loop p. refl; returns = λ at has_value gives p. p }

pub returns-fit : ReturnsFit
returns-fit program typed is = stands sound each typed return_fits follows program is
