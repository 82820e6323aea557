-- How often a function stands in a list.
use Rattle.std.proofs.Common.{◌≡◌, ◌≢◌, ℕ, ◌+◌, suc, true, List, [], ◌∷◌, ◌++◌, reverse, refl, ap, ◌∙◌, inl, inr, arith}
use Rattle.std.specs.Prelude.{◌==◌, Contains}
use Rattle.std.proofs.lemmas.Bool.{eq-eqb}
use Rattle.std.proofs.lemmas.Bool.Decides.{eqb_tells}
use Rattle.std.proofs.lemmas.List.{reverse-append}
use Rattle.call_graph.specs.Orders.{count_of}

pub count_of-append : (f : ℕ) (xs ys : List ℕ) → count_of f (xs ++ ys) ≡ count_of f xs + count_of f ys
count_of-append f [] ys = omega arith
count_of-append f (x ∷ xs) ys = let more = count_of-append f xs ys in omega arith

pub count_of-end_same : (f g : ℕ) (xs : List ℕ) → g ≡ f → count_of f (xs ++ g ∷ []) ≡ count_of f xs + 1
count_of-end_same f g xs same = let both : (g == f) ≡ true = eq-eqb g f same in count_of-append f xs (g ∷ []) ∙ rw both refl

pub count_of-end_other : (f g : ℕ) (xs : List ℕ) → g ≢ f → count_of f (xs ++ g ∷ []) ≡ count_of f xs
count_of-end_other f g xs other =
    elim (eqb_tells g f) [
      | inl same ↦ absurd (other same.1)
      | inr apart ↦ count_of-append f xs (g ∷ []) ∙ rw apart.0 (omega arith)
    ]

pub count_of-reverse : (f : ℕ) (xs : List ℕ) → count_of f (reverse xs) ≡ count_of f xs
count_of-reverse f [] = refl
count_of-reverse f (x ∷ xs) = ap (count_of f) (reverse-append (x ∷ []) xs) ∙ count_of-append f (reverse xs) (x ∷ []) ∙ (let rest = count_of-reverse f xs in omega arith)

-- a function that is counted is there
pub counted : (f : ℕ) (xs : List ℕ) → count_of f xs ≡ 1 → Contains xs f
counted f [] is = absurd (let e = is in omega arith)
counted f (x ∷ xs) is =
    elim (eqb_tells x f) [
      | inl same ↦ (0, omega arith, same.1)
      | inr apart ↦ let rest : 0 + count_of f xs ≡ 1 = rw apart.0 at is in let there = counted f xs (omega (arith, rest)) in (suc there.0, omega (arith, there.1), there.2)
    ]
