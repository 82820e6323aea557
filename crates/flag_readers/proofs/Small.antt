-- The walks of the examples, step by step.
use Rattle.std.proofs.Common.{[], ◌∷◌, refl, inl, inr}
use Rattle.sat_base.specs.declared.position.Pos.{Pos}
use Rattle.tree_meaning.specs.Examples.{two_callers, call_between}
use Rattle.flag_readers.specs.Ways.{left, not_left, taken, stays, goes_on, through, Through, Returned, Underway, returned, underway, ReadsFlag, EntersFunction, LeavesFunction, nothing, AfterSite, AfterCall}
use Rattle.flag_readers.specs.Readers as reader
use Rattle.flag_readers.specs.Readers.{IsReader, onward}
use Rattle.flag_readers.specs.Laws.{AreExamples}

here : nothing [] Through
here = (refl, left)

-- `a = add(32767, 1); nop(); sample_out(a); return 0;`, from just after the sum
to_the_end : onward call_between 1 (AfterSite 0) (EntersFunction 0 ∷ LeavesFunction 0 ∷ []) Returned
to_the_end =
    inr (inl (goes_on (inr (inl (goes_on (inr (refl, here)) here)))
    (goes_on (goes_on here (goes_on (taken left) (goes_on (through (goes_on here here)) (taken left))))
    (goes_on here (stays (goes_on (goes_on here here) (refl, left)) returned)))))

-- `return add(v, 1);`, from just after the sum
to_the_caller : (word : Pos) → onward (two_callers word) 0 (AfterSite 0) [] Returned
to_the_caller word = inr (inl (stays (inl (goes_on (inl (goes_on (inr (refl, here)) here)) (refl, left))) returned))

-- the second `a = inc(32767);`, from just after the call, and then `Overflow != 0`
to_the_read : (word : Pos) → onward (two_callers word) 1 (AfterCall 0) (ReadsFlag word ∷ []) Underway
to_the_read word =
    inr (inr (inr (inl (goes_on (inr (inl (goes_on (inr (refl, here)) here)))
    (stays (stays (goes_on (taken left) (refl, not_left)) underway) underway)))))

pub examples : (word : Pos) → AreExamples word
examples word = record {
  end_reads = reader.at_end 1 (EntersFunction 0 ∷ LeavesFunction 0 ∷ []) (reader.ends Returned to_the_end reader.returned) (reader.next (λ is. cc) (reader.next (λ is. cc) reader.none));
  caller_reads =
      reader.reads 0 (LeavesFunction 0 ∷ []) word (reader.leaves 1 [] (ReadsFlag word ∷ []) Returned (to_the_caller word) reader.returned (reader.inside Underway (to_the_read word)))
      (reader.next (λ is. cc) reader.none);
}
