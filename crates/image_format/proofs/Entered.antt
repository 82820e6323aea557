-- The sites that a run enters, of all instructions and of a part of them.
use Rattle.std.proofs.Common.{◌≡◌, ℕ, zero, suc, ◌+◌, ℤ, if◌then◌else◌, List, [], ◌++◌, Option, None, Some, is_some, refl, sym, ap, ◌∙◌, arith, append_assoc}
use Rattle.rv_encode.specs.State.{Ending, Moment, Running, Over}
use Rattle.rv_encode.specs.Runs.{fetched, moment_after, stepped}
use Rattle.rv_encode.proofs.Runs.{over_stays}
use Rattle.image_format.specs.declared.image.Image.{Image}
use Rattle.image_format.specs.Entries.{entered_at, entered_along, last_pc, EntriesFollow}
use Rattle.image_format.specs.Runs.{loaded}

over_enters_none : (image : Image) (n : ℕ) (before : Option ℕ) (ending : Ending) (output : List ℤ) → entered_along image n before (Over ending output) ≡ []
over_enters_none image zero before ending output = refl
over_enters_none image (suc n) before ending output = refl

entered_add : (image : Image) (m n : ℕ) (before : Option ℕ) (at : Moment)
    → entered_along image (m + n) before at ≡ entered_along image m before at ++ entered_along image n (last_pc image m before at) (moment_after image.code m at)
entered_add image zero n before at = let e : 0 + n ≡ n = omega arith in ap (λ k. entered_along image k before at) e
entered_add image (suc m) n before (Over ending output) =
    over_enters_none image (suc m + n) before ending output
    ∙ sym (ap (entered_along image n before) (over_stays image.code m ending output) ∙ over_enters_none image n before ending output)
entered_add image (suc m) n before (Running s) =
    let e : suc m + n ≡ suc (m + n) = omega arith in
    let here = if is_some (fetched image.code s.pc) then entered_at image.sites 0 before s.pc else [] in
    let next = stepped image.code s in
    ap (λ k. entered_along image k before (Running s)) e
    ∙ ap (λ l. here ++ l) (entered_add image m n (Some s.pc) next)
    ∙ sym (append_assoc here (entered_along image m (Some s.pc) next) (entered_along image n (last_pc image m (Some s.pc) next) (moment_after image.code m next)))

pub entries_follow : EntriesFollow
entries_follow image input m n = entered_add image m n None (Running (loaded image input))
