use Rattle.std.proofs.Common.{◌-◌, ℕ, ◌<◌, ◌≤◌, length}
use Rattle.std.specs.Prelude.{slice_index_or}
use Rattle.tied_names.proofs.tokens.Tokens.number_at.Given as goal

abbrev pub invariant-loop-low : goal.invariant-loop-low
invariant-loop-low l = record {
  ends : l.low ≤ l.high;
  high : l.high ≤ length l.self-inside.tokens.items;
  before : (k : ℕ) → k < l.low → slice_index_or l.self-inside.tokens.items k 0 < l.tok;
  after : (k : ℕ) → l.high ≤ k → k < length l.self-inside.tokens.items → l.tok ≤ slice_index_or l.self-inside.tokens.items k 0;
}

abbrev pub decreases-loop-low : goal.decreases-loop-low
decreases-loop-low l = l.high - l.low
