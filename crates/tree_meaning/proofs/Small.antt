-- The examples hold by computation.
use Rattle.std.proofs.Common.{ℕ, refl}
use Rattle.std.specs.Int.{int_wrap}
use Rattle.sat_base.specs.declared.position.Pos.{Pos}
use Rattle.source_runs.specs.Runs.{◌>>=◌, ◌>>◌, reading, changing, at_site, found, choosing, gathered, all_of}
use Rattle.source_runs.specs.Marks.{unary_meaning, binary_meaning, both_meaning, assigned}
use Rattle.source_runs.specs.Calls.{sample_in, sample_left, sample_out}
use Rattle.source_runs.specs.Loops.{in_sequence, going_on, turns_of, looping}
use Rattle.typed_meaning.specs.Expressions.{index_meaning}
use Rattle.typed_meaning.specs.Statements.{assignment_meaning, start_meaning, return_meaning}
use Rattle.tree_meaning.specs.Parts.{operated_with, operate_meaning}
use Rattle.tree_meaning.specs.Observed.{function_with, called_with}
use Rattle.tree_meaning.specs.Examples.{AreExamples}

pub examples : (word : Pos) (turns : ℕ) → AreExamples word turns
unfolding looping turns_of choosing ◌>>=◌ ◌>>◌ going_on unary_meaning binary_meaning both_meaning at_site gathered sample_in sample_left sample_out found reading changing all_of in_sequence start_meaning assignment_meaning return_meaning assigned index_meaning operated_with operate_meaning function_with called_with int_wrap
examples word turns = record {
  two_calls = refl;
  view_stops = refl;
  sites_of_views = refl;
  block_starts_anew = refl;
  one_turn_less = refl;
  call_is_between = refl;
  energy_fits = refl;
  energy_overflows = refl;
  no_energy = refl;
  impulse_is_filtered = refl;
}
