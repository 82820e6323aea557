-- What was read of a file, against what the file holds.
use Rattle.std.proofs.Common.{◌≡◌, ℕ, ◌+◌, ◌<◌, ◌≤◌, List, length, take, ap, ◌∙◌, subst, arith}
use Rattle.std.proofs.lemmas.List.{length-take, take_all}
use Rattle.sat_base.specs.declared.limits.TheConstants.{SOURCE_BYTES}
use Rattle.image_format.specs.declared.image.Image.{Image}
use Rattle.sat_compile.specs.Accepted.{IsImageOf}
use Rattle.sat_compile.specs.Causes.{IsCause, MayShow}
use Rattle.sat_compile.specs.declared.refusal.CompileRefusal.{CompileRefusal}
use Rattle.sat_compile.specs.declared.refusal.CompileRefusal.TheVariants.{TooLong, Lex, Syntax, TooDeep, Faulty, Recursive, NotYet, Memory}

-- a front that is within the length of a source is the whole
pub whole : (file bytes : List ℕ) → bytes ≡ take (SOURCE_BYTES + 1) file → length bytes ≤ SOURCE_BYTES → bytes ≡ file
whole file bytes front short =
    let less : length file ≤ SOURCE_BYTES + 1 = omega (arith, ap length front, length-take (SOURCE_BYTES + 1) file) in
    front ∙ take_all (SOURCE_BYTES + 1) file less

-- and one that is not is that of a file that is not
longer : (file bytes : List ℕ) → bytes ≡ take (SOURCE_BYTES + 1) file → SOURCE_BYTES < length bytes → SOURCE_BYTES < length file
longer file bytes front long = omega (arith, ap length front, length-take (SOURCE_BYTES + 1) file)

pub cause_of_file : (file bytes : List ℕ) (refusal : CompileRefusal) → bytes ≡ take (SOURCE_BYTES + 1) file → IsCause bytes refusal → IsCause file refusal
cause_of_file file bytes TooLong front cause = longer file bytes front cause
cause_of_file file bytes (Lex kind at) front cause = subst (λ b. IsCause b (Lex kind at)) (whole file bytes front cause.0) cause
cause_of_file file bytes (Syntax tok at) front cause = subst (λ b. IsCause b (Syntax tok at)) (whole file bytes front cause.1.short) cause
cause_of_file file bytes (TooDeep tok at) front cause = subst (λ b. IsCause b (TooDeep tok at)) (whole file bytes front cause.1.short) cause
cause_of_file file bytes (Faulty fault) front cause = subst (λ b. IsCause b (Faulty fault)) (whole file bytes front cause.1.has.short) cause
cause_of_file file bytes (Recursive pos names) front cause = subst (λ b. IsCause b (Recursive pos names)) (whole file bytes front cause.1.has.short) cause
cause_of_file file bytes NotYet front cause = subst (λ b. IsCause b NotYet) (whole file bytes front cause.tree.has.short) cause
cause_of_file file bytes Memory front cause = tt

pub shown_of_file : (file bytes line : List ℕ) → bytes ≡ take (SOURCE_BYTES + 1) file → MayShow bytes line → MayShow file line
shown_of_file file bytes line front shown = record {
  refusal = shown.refusal;
  other = shown.other;
  cause = cause_of_file file bytes shown.refusal front shown.cause;
  told = shown.told;
}

-- an image of the front of a file is one of the file
pub image_of_file : (file bytes : List ℕ) (image : Image) → bytes ≡ take (SOURCE_BYTES + 1) file → IsImageOf bytes image → IsImageOf file image
image_of_file file bytes image front of = subst (λ b. IsImageOf b image) (whole file bytes front of.accepted.tree.has.short) of
