-- Readers in small trees.
use Rattle.sat_base.specs.declared.position.Pos.{Pos}
use Rattle.ir_arena.specs.declared.forms.Reader.TheVariants.{At, End}
use Rattle.tree_meaning.specs.Examples.{two_callers, call_between}
use Rattle.flag_readers.specs.Readers.{IsReader}

pub record AreExamples (word : Pos) : Type 0 where
  -- a call is no assignment, and the end of `main` is a reader
  pub end_reads : IsReader call_between 0 End
  -- a function is left to any of its calls: `add` in `inc`, after the second call of which Overflow is read
  pub caller_reads : IsReader (two_callers word) 0 (At word)
