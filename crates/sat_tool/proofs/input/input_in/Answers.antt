use Rattle.std.proofs.Common.{Err, inl, subst}
use Rattle.sample_files.specs.declared.refusal.SampleRefusal.{SampleRefusal}
use Rattle.sample_files.specs.Reading.{IsAnswerTo}
use Rattle.sat_tool.specs.Input as inputs
use Rattle.sat_tool.proofs.input.input_in.Goals as goal

pub returns-in_ok-unfit-in-Err-TooLong-clause-stops : goal.returns-in_ok-unfit-in-Err-TooLong-clause-stops
returns-in_ok-unfit-in-Err-TooLong-clause-stops c =
    rw c.in_ok-unfit-in-Err-TooLong.ensures
    (inl (inputs.long (subst (λ (r : SampleRefusal). IsAnswerTo c.args.bytes.now (Err r)) c.in-Err-TooLong.field-0-is c.in-Err-TooLong.ensures.answer)))

pub returns-in_ok-unfit-in-Err-OddLength-clause-stops : goal.returns-in_ok-unfit-in-Err-OddLength-clause-stops
returns-in_ok-unfit-in-Err-OddLength-clause-stops c =
    let half = subst (λ (r : SampleRefusal). IsAnswerTo c.args.bytes.now (Err r)) c.in-Err-OddLength.field-0-is c.in-Err-OddLength.ensures.answer in
    rw c.in_ok-unfit-in-Err-OddLength.ensures (inl (inputs.odd half.0 half.1))
