-- Texts that are what a command asks for are not refused.
use Rattle.std.proofs.Common.{◌≡◌, ℕ, ℤ, List, sym, ap, ◌∙◌, arith}
use Rattle.std.proofs.lemmas.Option.{none-some}
use Rattle.image_format.specs.declared.image.Image.{Image}
use Rattle.image_format.specs.Reading.{IsFileOf}
use Rattle.image_format.specs.Rules.{first_refusal}
use Rattle.image_format.proofs.Read.{are_read_back}
use Rattle.sample_files.specs.declared.refusal.SampleRefusal.TheVariants.{TooLong, Memory}
use Rattle.sample_files.proofs.Bytes.{is_none_read}
use Rattle.command_outcomes.specs.declared.outcome.Outcome.{Outcome}
use Rattle.sat_tool.specs.Input.{IsNoInput, IsInputOf}
use Rattle.sat_tool.specs.Input as inputs
use Rattle.sat_tool.specs.RunImage.{IsNoImage}

pub image_fits : (image : Image) (text : List ℕ) (outcome : Outcome) → IsFileOf image text → IsNoImage text outcome → ⊥
image_fits image text outcome of judged =
    none-some judged.refusal (sym (are_read_back image of.readable).0 ∙ sym (ap first_refusal of.spelled) ∙ judged.broken)

pub input_fits : (samples : List ℤ) (text : List ℕ) (outcome : Outcome) → IsInputOf samples text → IsNoInput text outcome → ⊥
input_fits samples text outcome are (inputs.long many) = let few = are.few in omega (arith, few, many)
input_fits samples text outcome are (inputs.odd few half) =
    let same : TooLong ≡ Memory = is_none_read text TooLong half samples are.wide are.spelled are.few in
    cc
