-- What reading answers, both ways.
use Rattle.std.proofs.Common.{◌≡◌, ℕ, ◌<◌, List, length, get_or, All, arith, Some, None, Result, Ok, Err, refl, sym, ap, subst, ◌∙◌, inl, inr}
use Rattle.std.specs.Prelude.{IfOk, IfErr}
use Rattle.std.proofs.lemmas.Bool.{cases_lt}
use Rattle.std.proofs.lemmas.List.{get_or_past}
use Rattle.image_format.specs.declared.image.Image.{Image}
use Rattle.image_format.specs.declared.refusal.ImageRefusal.{ImageRefusal}
use Rattle.image_format.specs.declared.refusal.ImageRefusal.TheVariants.{Memory}
use Rattle.image_format.specs.Readable.{IsByte}
use Rattle.image_format.specs.Parts.{image_in}
use Rattle.image_format.specs.Rules.{image_rules, first_refusal, TellsFirst, Judges}
use Rattle.image_format.specs.Reading.{IsFileOf, IsUnlessMemory, IsRead, IsRefusedSo, AreReadBack, AreEnough, ImagesHaveOneSpelling}
use Rattle.image_format.proofs.Chunks.{IsBytes}
use Rattle.image_format.proofs.Spelled.{image_spelled}
use Rattle.image_format.proofs.Again.{image_again, image_keeps}

byte_below : (bytes : List ℕ) (i : ℕ) → All IsByte bytes → get_or bytes i 0 < 256
byte_below bytes i fit = elim (cases_lt i (length bytes)) [
  | inl within ↦ fit i 0 within
  | inr past ↦ rw (get_or_past bytes i 0 past) (omega arith)
]

pub is_spelled : (bytes : List ℕ) (result : Result Image ImageRefusal) → IsBytes bytes → Judges (image_rules bytes) (image_in bytes) result
    → IfOk result (λ image. IsFileOf image bytes)
is_spelled bytes (Ok image) fits answer = subst (λ (read : Image). IsFileOf read bytes) (sym answer.1) (image_spelled bytes fits answer.0)
is_spelled bytes (Err refusal) fits answer = tt

refused_so : (bytes : List ℕ) (refusal : ImageRefusal) → TellsFirst (image_rules bytes) refusal → IsRefusedSo bytes refusal
refused_so bytes Memory refused = inr refl
refused_so bytes refusal refused = inl refused

pub is_refused_so : (bytes : List ℕ) (result : Result Image ImageRefusal) → Judges (image_rules bytes) (image_in bytes) result
    → IfErr result (IsRefusedSo bytes)
is_refused_so bytes (Ok image) answer = tt
is_refused_so bytes (Err refusal) answer = refused_so bytes refusal answer

-- the bytes of a readable image break no rule, and give it back
pub spelled_keeps : (bytes : List ℕ) (image : Image) → IsFileOf image bytes → first_refusal bytes ≡ None
spelled_keeps bytes image spells = ap first_refusal spells.spelled ∙ image_keeps image spells.readable

pub spelled_again : (bytes : List ℕ) (image : Image) → IsFileOf image bytes → image_in bytes ≡ image
spelled_again bytes image spells = ap image_in spells.spelled ∙ image_again image spells.readable

reads_image : (bytes : List ℕ) (result : Result Image ImageRefusal) → Judges (image_rules bytes) (image_in bytes) result
    → (image : Image) → IsFileOf image bytes → IsUnlessMemory result (Ok image)
reads_image bytes (Ok read) answer image spells = inl (ap Ok (answer.1 ∙ spelled_again bytes image spells))
reads_image bytes (Err Memory) answer image spells = inr refl
reads_image bytes (Err refusal) answer image spells = let kept = spelled_keeps bytes image spells in absurd cc

reads_refusal : (bytes : List ℕ) (result : Result Image ImageRefusal) → Judges (image_rules bytes) (image_in bytes) result
    → (refusal : ImageRefusal) → first_refusal bytes ≡ Some refusal → IsUnlessMemory result (Err refusal)
reads_refusal bytes (Ok read) answer refusal broken = absurd cc
reads_refusal bytes (Err Memory) answer refusal broken = inr refl
reads_refusal bytes (Err told) answer refusal broken = inl cc

pub is_read : (bytes : List ℕ) (result : Result Image ImageRefusal) → Judges (image_rules bytes) (image_in bytes) result → IsRead bytes result
is_read bytes result answer = record { image = reads_image bytes result answer; refusal = reads_refusal bytes result answer }

-- ---- the laws

pub are_read_back : AreReadBack
are_read_back image readable = (image_keeps image readable, image_again image readable)

pub are_enough : AreEnough
are_enough bytes fit kept = (image_in bytes, image_spelled bytes (λ i. byte_below bytes i fit) kept)

pub have_one_spelling : ImagesHaveOneSpelling
have_one_spelling image other readable other_readable same =
    sym (image_again image readable) ∙ ap image_in same ∙ image_again other other_readable
