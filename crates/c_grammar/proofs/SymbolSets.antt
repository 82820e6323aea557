-- Sets of symbols, as tests: that one lies in another, or apart from it, is one test of all symbols.
use Rattle.std.proofs.Common.{◌≡◌, ℕ, zero, suc, Bool, true, false, not, ◌&&◌, List, [], ◌∷◌, ◌++◌, take, get_or, refl, ap, ◌∙◌, sym}
use Rattle.std.specs.List.{list_all}
use Rattle.std.specs.Prelude.{◌||◌}
use Rattle.c_grammar.specs.declared.symbol.Symbol.{Symbol}
use Rattle.c_grammar.specs.declared.symbol.Symbol.TheVariants as symbol
use Rattle.c_grammar.specs.Symbols.{number_of}
use Rattle.c_grammar.proofs.SymbolNumbers.{symbols, numbered-number}

first_of : (a b : Bool) → (a && b) ≡ true → a ≡ true
first_of true b h = refl
first_of false b h = h

second_of : (a b : Bool) → (a && b) ≡ true → b ≡ true
second_of true b h = h
second_of false b h = cc

-- a test that each passes, passes at each place
each_passes : (p : Symbol → Bool) (xs : List Symbol) (n : ℕ) → list_all p xs ≡ true → p symbol.Tilde ≡ true → p (get_or xs n symbol.Tilde) ≡ true
each_passes p [] n all last = last
each_passes p (x ∷ xs) zero all last = first_of (p x) (list_all p xs) all
each_passes p (x ∷ xs) (suc n) all last = each_passes p xs n (second_of (p x) (list_all p xs) all) last

-- the last symbol is one of all
last_passes : (p : Symbol → Bool) (xs : List Symbol) → list_all p (xs ++ symbol.Tilde ∷ []) ≡ true → p symbol.Tilde ≡ true
last_passes p [] all = first_of (p symbol.Tilde) true all
last_passes p (x ∷ xs) all = last_passes p xs (second_of (p x) (list_all p (xs ++ symbol.Tilde ∷ [])) all)

passes : (p : Symbol → Bool) → list_all p symbols ≡ true → (s : Symbol) → p s ≡ true
passes p all s = ap p (sym (numbered-number s)) ∙ each_passes p symbols (number_of s) all (last_passes p (take 57 symbols) all)

implied : (a b : Bool) → (not a || b) ≡ true → a ≡ true → b ≡ true
implied true b h e = h
implied false b h e = cc

never : (a b : Bool) → not (a && b) ≡ true → a ≡ true → b ≡ true → ⊥
never true true h e f = cc
never true false h e f = cc
never false b h e f = cc

abbrev within : (P Q : Symbol → Bool) → Symbol → Bool
within P Q s = not (P s) || Q s

abbrev beside : (P Q : Symbol → Bool) → Symbol → Bool
beside P Q s = not (P s && Q s)

pub among : (P Q : Symbol → Bool) → list_all (within P Q) symbols ≡ true → (s : Symbol) → P s ≡ true → Q s ≡ true
among P Q all s = implied (P s) (Q s) (passes (within P Q) all s)

pub apart : (P Q : Symbol → Bool) → list_all (beside P Q) symbols ≡ true → (s : Symbol) → P s ≡ true → Q s ≡ true → ⊥
apart P Q all s = never (P s) (Q s) (passes (beside P Q) all s)
