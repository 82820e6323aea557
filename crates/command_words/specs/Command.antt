-- The words of the command line.
use Rattle.std.specs.Prelude.{◌≡◌, ◌≢◌, ℕ, List, [], ◌∷◌, codes}
use Rattle.command_words.specs.Numbers.{IsNumber}

-- what is asked for, with the names of the files
pub data Command : Type 0 where
  Build : (source image : List ℕ) → Command
  RunImage : (image input output : List ℕ) (steps : ℕ) → Command
  RunSource : (source input output : List ℕ) (turns : ℕ) → Command

-- a name is not empty and does not begin with `-`
abbrev pub IsName : List ℕ → Type 0
IsName [] = ⊥
IsName (first ∷ rest) = first ≢ 45

-- a number of instructions has at most 20 digits and 64 bits
abbrev pub IsStepCount : List ℕ → ℕ → Type 0
IsStepCount = IsNumber 20 18446744073709551615

-- a number of turns has at most 10 digits and 32 bits
abbrev pub IsTurnCount : List ℕ → ℕ → Type 0
IsTurnCount = IsNumber 10 4294967295

-- these words ask by this verb to run a program, for a number that their last word spells
pub record AsksToRun (verb : List ℕ) (IsCount : List ℕ → ℕ → Type 0) (words : List (List ℕ)) (program input output : List ℕ) (count : ℕ) : Type 0 where
  pub digits : List ℕ
  pub are : words ≡ verb ∷ program ∷ input ∷ output ∷ digits ∷ []
  pub program_named : IsName program
  pub input_named : IsName input
  pub output_named : IsName output
  pub counted : IsCount digits count

-- these words ask for it
abbrev pub IsCommand : List (List ℕ) → Command → Type 0
IsCommand words (Build source image) = (words ≡ codes "build" ∷ source ∷ image ∷ []) × IsName source × IsName image
IsCommand words (RunImage image input output steps) = AsksToRun (codes "run-image") IsStepCount words image input output steps
IsCommand words (RunSource source input output turns) = AsksToRun (codes "run-source") IsTurnCount words source input output turns

-- these words ask for nothing that there is
abbrev pub IsNoCommand : List (List ℕ) → Type 0
IsNoCommand words = (command : Command) → IsCommand words command → ⊥
