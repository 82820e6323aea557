-- The examples hold by computation.
use Rattle.std.proofs.Common.{refl}
use Rattle.std.specs.Int.{int_wrap}
use Rattle.sat_base.specs.declared.name.At.{At}
use Rattle.source_runs.specs.State.{SourceState}
use Rattle.source_runs.specs.Runs.{◌>>=◌, ◌>>◌, reading, changing, at_site, found, choosing, gathered, all_of}
use Rattle.source_runs.specs.Marks.{binary_meaning, both_meaning, assigned}
use Rattle.source_runs.specs.Calls.{operated, operator_call, sample_in}
use Rattle.source_runs.specs.Loops.{in_sequence, going_on, turns_of, looping}
use Rattle.typed_meaning.specs.Expressions.{Setting, Called, callee_meaning, index_meaning}
use Rattle.typed_meaning.specs.Statements.{assignment_meaning, start_meaning, simple_meaning}
use Rattle.typed_meaning.specs.Laws.{AreExamples}
use Rattle.typed_meaning.proofs.Expressions.{kind-Int, kind-Binary, kind-Call, place-Plain, place-Index, argument-Value, call-is, expression-is}
use Rattle.typed_meaning.proofs.Statements.{statement-Empty, statement-Simple, statement-While, statement-Do, statement-Break, block-is}

pub examples : (at : At) (here : Setting) (called : Called) (s : SourceState) → AreExamples at here called s
unfolding looping turns_of choosing ◌>>=◌ ◌>>◌ going_on binary_meaning both_meaning at_site gathered callee_meaning sample_in found reading changing operator_call operated all_of in_sequence start_meaning assignment_meaning simple_meaning assigned index_meaning int_wrap
examples at here called s = record {
  endless_loop = rw (statement-While, statement-Empty, expression-is, kind-Int) refl;
  loop_with_break = rw (statement-While, statement-Break, expression-is, kind-Int) refl;
  no_turn_begins = rw statement-Do refl;
  no_turn_is_needed = rw (statement-While, expression-is, kind-Int) refl;
  sum_stops = rw (expression-is, kind-Binary, expression-is, kind-Int, expression-is, kind-Int) refl;
  left_decides = rw (expression-is, kind-Binary, expression-is, kind-Int) refl;
  left_to_right = rw (expression-is, kind-Call, call-is, argument-Value, expression-is, kind-Call, call-is, argument-Value, expression-is, kind-Call, call-is) refl;
  object_starts_anew = rw (block-is, statement-Simple, place-Plain, expression-is, kind-Int) refl;
  index_comes_first = rw (place-Index, expression-is, kind-Int) refl;
}
