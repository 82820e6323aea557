-- What reading a file answers, in both directions.
use Rattle.std.specs.Prelude.{◌≡◌, ℕ, ◌⊎◌, List, All, Some, None, Result, Ok, Err}
use Rattle.image_format.specs.declared.image.Image.{Image}
use Rattle.image_format.specs.declared.refusal.ImageRefusal.{ImageRefusal}
use Rattle.image_format.specs.declared.refusal.ImageRefusal.TheVariants.{Memory}
use Rattle.image_format.specs.ImageBytes.{image_bytes}
use Rattle.image_format.specs.Readable.{IsByte, IsReadable}
use Rattle.image_format.specs.Parts.{image_in}
use Rattle.image_format.specs.Rules.{first_refusal}

-- the bytes are those of this image, which a file can hold
pub record IsFileOf (image : Image) (bytes : List ℕ) : Type 0 where
  pub readable : IsReadable image
  pub spelled : bytes ≡ image_bytes image

-- the answer, unless memory runs out
abbrev pub IsUnlessMemory : Result Image ImageRefusal → (answer : Result Image ImageRefusal) → Type 0
IsUnlessMemory result answer = (result ≡ answer) ⊎ (result ≡ Err Memory)

-- What bytes spell is read, and nothing else. Bytes are refused for the first rule that they break, and for nothing else.
pub record IsRead (bytes : List ℕ) (result : Result Image ImageRefusal) : Type 0 where
  pub image : (image : Image) → IsFileOf image bytes → IsUnlessMemory result (Ok image)
  pub refusal : (refusal : ImageRefusal) → first_refusal bytes ≡ Some refusal → IsUnlessMemory result (Err refusal)

-- bytes are refused so: the first rule that they break tells it, or memory ran out
abbrev pub IsRefusedSo : List ℕ → ImageRefusal → Type 0
IsRefusedSo bytes refusal = (first_refusal bytes ≡ Some refusal) ⊎ (refusal ≡ Memory)

-- the bytes of an image that a file can hold break no rule, and the image in them is that one
abbrev pub AreReadBack : Type 0
AreReadBack = (image : Image) → IsReadable image → (first_refusal (image_bytes image) ≡ None) × (image_in (image_bytes image) ≡ image)

-- bytes that break no rule are those of an image that a file can hold
abbrev pub AreEnough : Type 0
AreEnough = (bytes : List ℕ) → All IsByte bytes → first_refusal bytes ≡ None → (image : Image) × IsFileOf image bytes

-- no two images that a file can hold have the same bytes
abbrev pub ImagesHaveOneSpelling : Type 0
ImagesHaveOneSpelling = (image other : Image) → IsReadable image → IsReadable other → image_bytes image ≡ image_bytes other → image ≡ other
