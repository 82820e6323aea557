-- What is answered of all tokens.
use Rattle.std.specs.Prelude.{◌≡◌, List, Result, Ok, Err}
use Rattle.c_grammar.specs.declared.refusal.ReadRefusal.{ReadRefusal}
use Rattle.c_grammar.specs.Spots.{Spot}
use Rattle.right_reading.specs.Stream.{Fault}
use Rattle.token_reader.specs.Gives.{Fails}

-- all items are what reading gives, unless memory ran out
abbrev pub GivesAll : {A : Type 0} → Result (A × List Spot) Fault → Result A ReadRefusal → Type 0
GivesAll read (Ok x) = (rest : List Spot) × (read ≡ Ok (x, rest))
GivesAll read (Err e) = Fails read e
