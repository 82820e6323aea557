-- One token more.
use Rattle.std.proofs.Common.{◌≡◌, ℕ, suc, ◌-◌, ◌≤◌, length, List, [], ◌∷◌, ◌++◌, get_or, take, drop, refl, ap, ◌∙◌, arith}
use Rattle.std.proofs.lemmas.List.{append_assoc, length-append, take_all}
use Rattle.std.specs.Prelude.{map}
use Rattle.c_lexer.specs.declared.token.Token.{Token}
use Rattle.c_grammar.specs.Spots.{Spot, seen, spot_of, spots_from}
use Rattle.c_grammar.specs.declared.spot.Spot as declared

pub record OneLess (L : List Token) (d : Token) : Type 0 where
  pub t : Token
  pub ts : List Token
  pub whole : L ≡ t ∷ ts
  pub first : get_or L 0 d ≡ t
  pub rest : take (length L - 1) (drop 1 L) ≡ ts

pub one_less : (L : List Token) (d : Token) → 1 ≤ length L → OneLess L d
one_less [] d some = absurd (omega arith)
one_less (t ∷ ts) d some = record { t = t; ts = ts; whole = refl; first = refl; rest = all (length (t ∷ ts) - 1) (omega arith) }
  where
    all : (n : ℕ) → n ≡ length ts → take n (drop 1 (t ∷ ts)) ≡ ts
    all n e = take_all n ts (omega (arith, e))

mapped-append : (xs : List declared.Spot) (y : declared.Spot) → map seen (xs ++ y ∷ []) ≡ map seen xs ++ seen y ∷ []
mapped-append [] y = refl
mapped-append (x ∷ xs) y = ap (λ (r : List Spot). seen x ∷ r) (mapped-append xs y)

pub one_spot : (text : List ℕ) (made : List declared.Spot) (y : declared.Spot) (t : Token) (ts : List Token) (all : List Spot) → seen y ≡ spot_of text (length made) t → map seen made ++ spots_from text (length made) (t ∷ ts) ≡ all
    → map seen (made ++ y ∷ []) ++ spots_from text (length (made ++ y ∷ [])) ts ≡ all
one_spot text made y t ts all e f =
    let n : length (made ++ y ∷ []) ≡ suc (length made) = omega (arith, length-append made (y ∷ [])) in
    ap (λ (m : ℕ). map seen (made ++ y ∷ []) ++ spots_from text m ts) n
    ∙ ap (λ (r : List Spot). r ++ spots_from text (suc (length made)) ts) (mapped-append made y)
    ∙ append_assoc (map seen made) (seen y ∷ []) (spots_from text (suc (length made)) ts)
    ∙ ap (λ (x : Spot). map seen made ++ (x ∷ spots_from text (suc (length made)) ts)) e ∙ f
