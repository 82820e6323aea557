-- The sites that a run enters.
use Rattle.std.specs.Prelude.{◌≡◌, ℕ, zero, suc, ◌+◌, ◌*◌, ℤ, Bool, false, not, ◌&&◌, ◌==◌, nat_le, nat_lt, if◌then◌else◌, List, [], ◌∷◌, ◌++◌, Option, Some, None, is_some}
use Rattle.image_format.specs.declared.image.Image.{Image}
use Rattle.image_format.specs.declared.image.SiteEntry.{SiteEntry}
use Rattle.rv_encode.specs.State.{Moment, Running, Over}
use Rattle.rv_encode.specs.Runs.{pc_of, fetched, stepped}
use Rattle.image_format.specs.Runs.{loaded, machine_after}

-- the pc of the entry's first word
abbrev pub first_pc : SiteEntry → ℕ
first_pc entry = pc_of entry.first

-- the pc is that of one of the entry's words
abbrev pub is_in : SiteEntry → (pc : ℕ) → Bool
is_in entry pc = nat_le (first_pc entry) pc && nat_lt pc (first_pc entry + 4 * entry.words)

-- the instruction before, if there was one, was one of the entry's words
abbrev pub was_in : SiteEntry → (before : Option ℕ) → Bool
was_in entry None = false
was_in entry (Some pc) = is_in entry pc

-- the sites that the word at a pc enters, where the first of the entries is that of this site
abbrev pub entered_at : List SiteEntry → (site : ℕ) → (before : Option ℕ) → (pc : ℕ) → List ℕ
entered_at [] site before pc = []
entered_at (entry ∷ entries) site before pc =
    (if (pc == first_pc entry) && is_in entry pc && not (was_in entry before) then site ∷ [] else []) ++ entered_at entries (site + 1) before pc

-- the sites that at most n instructions enter, in their order; a word that faults counts as executed
abbrev pub entered_along : Image → ℕ → (before : Option ℕ) → Moment → List ℕ
entered_along image zero before at = []
entered_along image (suc n) before (Over ending output) = []
entered_along image (suc n) before (Running s) =
    (if is_some (fetched image.code s.pc) then entered_at image.sites 0 before s.pc else [])
    ++ entered_along image n (Some s.pc) (stepped image.code s)

-- the pc of the last of at most n instructions, or what was before where there is none
abbrev pub last_pc : Image → ℕ → (before : Option ℕ) → Moment → Option ℕ
last_pc image zero before at = before
last_pc image (suc n) before (Over ending output) = before
last_pc image (suc n) before (Running s) = last_pc image n (Some s.pc) (stepped image.code s)

-- The sites that a run enters in at most n instructions: a site is entered where the word at its entry's first
-- place is executed, and the instruction before was not one of the entry's words.
abbrev pub entered_sites : Image → List ℤ → ℕ → List ℕ
entered_sites image input n = entered_along image n None (Running (loaded image input))

-- the sites that the next n instructions enter, after m
abbrev pub entered_later : Image → List ℤ → (m n : ℕ) → List ℕ
entered_later image input m n =
    entered_along image n (last_pc image m None (Running (loaded image input))) (machine_after image input m)

-- the sites of m + n instructions are those of m, and then those of the next n
abbrev pub EntriesFollow : Type 0
EntriesFollow = (image : Image) (input : List ℤ) (m n : ℕ)
    → entered_sites image input (m + n) ≡ entered_sites image input m ++ entered_later image input m n
