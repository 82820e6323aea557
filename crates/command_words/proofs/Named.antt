-- The words of a command are names, its verb and its number included.
use Rattle.std.proofs.Common.{◌≡◌, ◌≤◌, ℕ, List, [], ◌∷◌, map, codes, sym, subst, arith}
use Rattle.std.specs.List.{All}
use Rattle.std.proofs.lemmas.List.Elements.{All-cons, All-head, All-nil, All-tail}
use Rattle.command_words.specs.Command.{AsksToRun, Command, Build, RunImage, RunSource, IsCommand, IsName}
use Rattle.command_words.specs.Numbers.{IsDigit, IsNumber}

number_named : (most_digits greatest : ℕ) (word : List ℕ) (number : ℕ) → IsNumber most_digits greatest word number → IsName word
number_named most_digits greatest [] number is = let some = is.some in absurd (omega arith)
number_named most_digits greatest (first ∷ rest) number is = let digit : 48 ≤ first = (All-head IsDigit first rest is.digits).0 in λ (dash : first ≡ 45). absurd (omega arith)

two_named : (a b : List ℕ) → IsName a → IsName b → All IsName (a ∷ b ∷ [])
two_named a b i j = All-cons IsName a (b ∷ []) i (All-cons IsName b [] j (All-nil IsName))

-- the words by which a verb asks to run are names, if it is one
run_named : (verb : List ℕ) (most_digits greatest : ℕ) (words : List (List ℕ)) (program input output : List ℕ) (count : ℕ) → IsName verb
    → AsksToRun verb (IsNumber most_digits greatest) words program input output count → All IsName words
run_named verb most_digits greatest words program input output count verb_named asked =
    let last = two_named output asked.digits asked.output_named (number_named most_digits greatest asked.digits count asked.counted) in
    let files = All-cons IsName program (input ∷ output ∷ asked.digits ∷ []) asked.program_named (All-cons IsName input (output ∷ asked.digits ∷ []) asked.input_named last) in
    subst (All IsName) (sym asked.are) (All-cons IsName verb (program ∷ input ∷ output ∷ asked.digits ∷ []) verb_named files)

pub named : (words : List (List ℕ)) (command : Command) → IsCommand words command → All IsName words
named words (Build source image) asked =
    subst (All IsName) (sym asked.0) (All-cons IsName (codes "build") (source ∷ image ∷ []) (λ e. absurd (omega arith)) (two_named source image asked.1 asked.2))
named words (RunImage image input output steps) asked = run_named (codes "run-image") 20 18446744073709551615 words image input output steps (λ e. absurd (omega arith)) asked
named words (RunSource source input output turns) asked = run_named (codes "run-source") 10 4294967295 words source input output turns (λ e. absurd (omega arith)) asked

-- that each of some texts is a name, by what they stand for
pub each_named : {X : Type 0} (f : X → List ℕ) (xs : List X) → All IsName (map f xs) → All (λ x. IsName (f x)) xs
each_named f [] are = All-nil (λ x. IsName (f x))
each_named f (x ∷ xs) are = All-cons (λ x. IsName (f x)) x xs (All-head IsName (f x) (map f xs) are) (each_named f xs (All-tail IsName (f x) (map f xs) are))
