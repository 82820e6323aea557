-- Numbers that are added one after the other.
use Rattle.std.proofs.Common.{◌≡◌, ℕ, List, [], ◌++◌, drop, length, ◌≤◌, ◌-◌, sym, ap, ◌∙◌, append_assoc, arith, length-drop}
use Rattle.std.specs.Prelude.{Result, Ok, Err, OnOk, flat_map}
use Rattle.std.proofs.lemmas.List.{append-nil, nil_from_length}

pub adds-none : (old more : List ℕ) → more ≡ [] → old ≡ old ++ more
adds-none old more none = sym (ap (λ xs. old ++ xs) none ∙ append-nil old)

pub adds-two : (old mid new a b : List ℕ) → mid ≡ old ++ a → new ≡ mid ++ b → new ≡ old ++ (a ++ b)
adds-two old mid new a b first second = second ∙ ap (λ xs. xs ++ b) first ∙ append_assoc old a b

pub on-two : {T E : Type 0} (r : Result T E) (old mid new a b : List ℕ) → mid ≡ old ++ a → OnOk r (new ≡ mid ++ b) → OnOk r (new ≡ old ++ (a ++ b))
on-two (Ok t) old mid new a b first second = adds-two old mid new a b first second
on-two (Err e) old mid new a b first second = tt

pub on-three : {T E : Type 0} (r : Result T E) (old first second new a b c : List ℕ) → first ≡ old ++ a → second ≡ first ++ b → OnOk r (new ≡ second ++ c) → OnOk r (new ≡ old ++ (a ++ b ++ c))
on-three r old first second new a b c one two three = on-two r old second new (a ++ b) c (adds-two old first second a b one two) three

pub on-four : {T E : Type 0} (r : Result T E) (old first second third new a b c d : List ℕ) → first ≡ old ++ a → second ≡ first ++ b → third ≡ second ++ c → OnOk r (new ≡ third ++ d) → OnOk r (new ≡ old ++ (a ++ b ++ c ++ d))
on-four r old first second third new a b c d one two three four = on-two r old third new (a ++ b ++ c) d (adds-two old second third (a ++ b) c (adds-two old first second a b one two) three) four

-- all items of a loop
pub adds-all : {A : Type 0} (f : A → List ℕ) (items : List A) (index : ℕ) (old new : List ℕ) → length items ≤ index → new ++ flat_map f (drop index items) ≡ old ++ flat_map f items → new ≡ old ++ flat_map f items
adds-all f items index old new all is = let none : drop index items ≡ [] = nil_from_length (drop index items) (let rest = length-drop index items in omega (arith, rest, all)) in sym (ap (λ xs. new ++ flat_map f xs) none ∙ append-nil new) ∙ is
