-- Laws of the words of instructions, of the data memory and of runs.
use Rattle.std.specs.Prelude.{◌≡◌, ℕ, ◌+◌, ◌^◌, ◌<◌, ◌≤◌, ◌⊎◌, IsTrue, List, Some}
use Rattle.rv_encode.specs.declared.instruction.Instr.{Instr}
use Rattle.rv_encode.specs.Words.{Fits, encoded}
use Rattle.rv_encode.specs.Decoding.{decoded}
use Rattle.rv_encode.specs.State.{Moment, is_inside, with_word, word_at}
use Rattle.rv_encode.specs.Runs.{moment_after}

-- the word of an instruction is decoded to it
abbrev pub EncodedDecodes : Type 0
EncodedDecodes = (i : Instr) → Fits i → decoded (encoded i) ≡ Some i

-- an instruction that a word is decoded to has that word, and fields in their ranges
abbrev pub DecodedEncodes : Type 0
DecodedEncodes = (w : ℕ) (i : Instr) → w < 2 ^ 32 → decoded w ≡ Some i → Fits i × (encoded i ≡ w)

-- the word that is stored at an address is loaded from it
abbrev pub StoredIsLoaded : Type 0
StoredIsLoaded = (memory : List ℕ) (address word : ℕ) → IsTrue (is_inside memory address 4) → word < 2 ^ 32
    → word_at (with_word memory address word) address ≡ word

-- a store leaves each word that it does not overlap
abbrev pub OthersStay : Type 0
OthersStay = (memory : List ℕ) (address other word : ℕ) → IsTrue (is_inside memory address 4) → IsTrue (is_inside memory other 4)
    → (address + 4 ≤ other) ⊎ (other + 4 ≤ address) → word_at (with_word memory address word) other ≡ word_at memory other

-- so many instructions and then so many lead where all of them do
abbrev pub RunsCompose : Type 0
RunsCompose = (code : List ℕ) (m n : ℕ) (at : Moment) → moment_after code (m + n) at ≡ moment_after code n (moment_after code m at)
