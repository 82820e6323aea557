-- What a function that reads promises, by the function on lists that says what it reads.
use Rattle.std.specs.Prelude.{◌≡◌, Bool, true, false, List, Result, Ok, Err}
use Rattle.std.specs.Borrow.{MutBor}
use Rattle.c_grammar.specs.declared.refusal.ReadRefusal.{ReadRefusal}
use Rattle.c_grammar.specs.declared.refusal.ReadRefusal.TheVariants as refusal
use Rattle.c_grammar.specs.declared.symbol.Symbol.{Symbol}
use Rattle.c_grammar.specs.Spots.{Spot}
use Rattle.right_reading.specs.Stream.{Fault, Parser}

-- what is told of it
abbrev pub refusal_of : Fault → ReadRefusal
refusal_of fault = told fault.deep
  where
    told : Bool → ReadRefusal
    told true = refusal.TooDeep fault.at.tok fault.at.pos
    told false = refusal.Syntax fault.at.tok fault.at.pos

-- the refusal is that of reading, or want of memory
abbrev pub Fails : {A : Type 0} → Result A Fault → ReadRefusal → Type 0
Fails read refusal.Memory = Unit {0}
Fails read (refusal.Syntax tok pos) = read ≡ Err (record { deep = false; at = record { tok = tok; pos = pos } })
Fails read (refusal.TooDeep tok pos) = read ≡ Err (record { deep = true; at = record { tok = tok; pos = pos } })

-- what was answered and the tokens that are left are what reading gives, unless memory ran out
abbrev pub Gives : {A : Type 0} → Result (A × List Spot) Fault → Result A ReadRefusal → List Spot → Type 0
Gives read (Ok x) left = read ≡ Ok (x, left)
Gives read (Err e) left = Fails read e

-- a function value reads what the function on lists says
abbrev pub Parses : {A : Type 0} → (MutBor (List Spot) → Result A ReadRefusal → MutBor (List Spot) → Type 0) → Parser A → Type 0
Parses {A} post p = (old new : MutBor (List Spot)) (r : Result A ReadRefusal) → post old r new → Gives (p old.now) r new.now

-- a function value answers what the test does
abbrev pub Tests : (Symbol → Bool → Type 0) → (Symbol → Bool) → Type 0
Tests post test = (s : Symbol) (b : Bool) → post s b → b ≡ test s

-- what is answered by means of a function value, whatever that reads
abbrev pub GivesBy : {A B : Type 0} → (MutBor (List Spot) → Result A ReadRefusal → MutBor (List Spot) → Type 0) → (Parser A → Result (B × List Spot) Fault) → Result B ReadRefusal → List Spot → Type 0
GivesBy {A} post read result left = (p : Parser A) → Parses post p → Gives (read p) result left

-- the same by means of a test too
abbrev pub GivesWhile : {A B : Type 0} → (Symbol → Bool → Type 0) → (MutBor (List Spot) → Result A ReadRefusal → MutBor (List Spot) → Type 0) → ((Symbol → Bool) → Parser A → Result (B × List Spot) Fault)
    → Result B ReadRefusal → List Spot → Type 0
GivesWhile {A} tests post read result left = (q : Symbol → Bool) (p : Parser A) → Tests tests q → Parses post p → Gives (read q p) result left
