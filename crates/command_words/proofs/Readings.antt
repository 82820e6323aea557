-- What clap makes of the words of a command.
use Rattle.std.proofs.Common.{◌≡◌, ◌≢◌, ◌∙◌, ℕ, Bool, true, false, List, [], ◌∷◌, length, map, Some, None, refl, sym, ap, subst, codes}
use Rattle.std.specs.List.{All, find, list_all}
use Rattle.std.proofs.lemmas.List.Elements.{All-head, All-tail}
use Rattle.std.specs.Str.{bytes_eq}
use Rattle.std.proofs.lemmas.Slice.Eq.{bytes_eq-Decides}
use Rattle.clap.specs.Faults.{defaults_fault, fault_of, walk_fault}
use Rattle.clap.specs.Kinds.{range_kinds}
use Rattle.clap.specs.Walk.{Row, Text, answers_to, takes_several}
use Rattle.clap.specs.Simple.{label_of, subcommand_of}
use Rattle.clap.specs.declared.error.kind.ErrorKind.TheVariants.{InvalidSubcommand, MissingRequiredArgument, MissingSubcommand, UnknownArgument}
use Rattle.clap.proofs.WalkLemmas.{both}
use Rattle.command_words.specs.Command.{AsksToRun, Command, Build, RunImage, RunSource, IsCommand, IsName, IsStepCount, IsTurnCount}
use Rattle.command_words.specs.Table.{row_read, rows, table}
use Rattle.command_words.proofs.Leaves.{built_row, built_rule, no_words, row_fault, row_rows}
use Rattle.command_words.proofs.Tables.{known, rows_known, unknown}

-- the row takes two words or more
abbrev has_several : List ℕ × ℕ → Bool
has_several row = takes_several (built_rule row.1)

-- the row of a verb, if there is one
data Looked (table : List (List ℕ × ℕ)) (verb : Text) : Type 0 where
  none : find (λ s. answers_to verb (label_of s)) (map built_row table) ≡ None → Looked table verb
  some : (count : ℕ) → has_several (verb, count) ≡ true → find (λ s. answers_to verb (label_of s)) (map built_row table) ≡ Some (built_row (verb, count)) → Looked table verb

looked : (table : List (List ℕ × ℕ)) (verb : Text) → list_all has_several table ≡ true → Looked table verb
looked [] verb several = none refl
looked (row ∷ rest) verb several =
    let own = both (has_several row) (list_all has_several rest) several in
    go own.0 (bytes_eq row.0 verb) refl (looked rest verb own.1)
  where
    go : has_several row ≡ true → (same : Bool) → bytes_eq row.0 verb ≡ same → Looked rest verb → Looked (row ∷ rest) verb
    go several true is others =
        let own : row.0 ≡ verb = (bytes_eq-Decides row.0 verb).0 is in
        some row.1 several (rw is (ap (λ (v : List ℕ). Some (built_row (v, row.1))) own))
    go several false is (none absent) = none (rw is absent)
    go several false is (some count many found) = some count many (rw is found)

each_several : list_all has_several rows ≡ true
each_several = refl

-- clap read these words as a verb, and the words after it
pub record IsRead (words : List Text) : Type 0 where
  pub verb : Text
  pub rest : List Text
  pub are : words ≡ verb ∷ rest
  pub rows : subcommand_of table words ≡ Some (verb, row_read rest ∷ [])

-- a verb alone is a fault
verb_alone : (verb : Text) (count : ℕ) → find (λ s. answers_to verb (label_of s)) (map built_row rows) ≡ Some (built_row (verb, count)) → fault_of table (verb ∷ []) ≢ []
verb_alone verb count found fine =
    let fault : fault_of table (verb ∷ []) ≡ MissingRequiredArgument ∷ [] = known (map built_row rows) verb (built_row (verb, count)) refl found [] ∙ no_words verb count in
    cc

-- where there is no fault, all words are read
pub read : (words : List Text) → All IsName words → fault_of table words ≡ [] → IsRead words
unfolding walk_fault defaults_fault
read [] named fine = let fault : fault_of table [] ≡ MissingSubcommand ∷ [] = refl in absurd (cc)
read (verb ∷ rest) named fine = go (looked rows verb each_several) rest (All-tail IsName verb rest named) fine
  where
    go : Looked rows verb → (rest : List Text) → All IsName rest → fault_of table (verb ∷ rest) ≡ [] → IsRead (verb ∷ rest)
    go (none absent) others others_named fine =
        let fault : fault_of table (verb ∷ others) ≡ UnknownArgument ∷ InvalidSubcommand ∷ [] = unknown (map built_row rows) verb others (All-head IsName verb rest named) absent in
        absurd (cc)
    go (some count many found) [] named fine = absurd (verb_alone verb count found fine)
    go (some count many found) (word ∷ rest) named fine = record {
      verb = verb;
      rest = word ∷ rest;
      are = refl;
      rows = rows_known (map built_row rows) verb (built_row (verb, count)) refl found (word ∷ rest)
          ∙ ap (λ (r : List Row). Some (verb, r)) (row_rows verb count many word rest named);
    }

-- a row's own number of words is no fault
full : (verb : Text) (count : ℕ) (word : Text) (rest : List Text) → has_several (verb, count) ≡ true
    → find (λ s. answers_to verb (label_of s)) (map built_row rows) ≡ Some (built_row (verb, count)) → All IsName (word ∷ rest)
    → range_kinds count count (length (word ∷ rest)) ≡ [] → fault_of table (verb ∷ word ∷ rest) ≡ []
full verb count word rest many found named right =
    known (map built_row rows) verb (built_row (verb, count)) refl found (word ∷ rest) ∙ row_fault verb count many word rest named ∙ right

run_passes : (verb : Text) (IsCount : List ℕ → ℕ → Type 0) (words : List Text) (program input output : Text) (count : ℕ)
    → find (λ s. answers_to verb (label_of s)) (map built_row rows) ≡ Some (built_row (verb, 4)) → AsksToRun verb IsCount words program input output count
    → All IsName words → fault_of table words ≡ []
run_passes verb IsCount words program input output count found asked named =
    let others = All-tail IsName verb (program ∷ input ∷ output ∷ asked.digits ∷ []) (subst (All IsName) asked.are named) in
    subst (λ (w : List Text). fault_of table w ≡ []) (sym asked.are) (full verb 4 program (input ∷ output ∷ asked.digits ∷ []) refl found others refl)

-- the words of a command are no fault
pub passes : (words : List Text) (command : Command) → IsCommand words command → All IsName words → fault_of table words ≡ []
passes words (Build source image) asked named =
    let others = All-tail IsName (codes "build") (source ∷ image ∷ []) (subst (All IsName) asked.0 named) in
    subst (λ (w : List Text). fault_of table w ≡ []) (sym asked.0) (full (codes "build") 2 source (image ∷ []) refl refl others refl)
passes words (RunImage image input output steps) asked named = run_passes (codes "run-image") IsStepCount words image input output steps refl asked named
passes words (RunSource source input output turns) asked named = run_passes (codes "run-source") IsTurnCount words source input output turns refl asked named
