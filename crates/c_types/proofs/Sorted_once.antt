-- Sites in the order of their tokens, those of one token in a given order, are one list.
use Rattle.std.proofs.Common.{◌≡◌, ℕ, zero, suc, ◌<◌, List, [], ◌∷◌, Bool, true, false, length, refl, sym, ap, ◌∙◌, inl, inr, arith}
use Rattle.std.specs.Prelude.{nat_lt, slice_index_or}
use Rattle.std.specs.List.{filter}
use Rattle.std.specs.List.Sorted.{IsNonDecreasingBy, ties}
use Rattle.std.specs.Ordering.{is_lt, nat_cmp}
use Rattle.std.proofs.lemmas.Bool.{cases_Bool}
use Rattle.std.proofs.lemmas.Bool.Decides.{nat_tests}
use Rattle.operator_meaning.specs.declared.object.Site.{Site}
use Rattle.tied_names.specs.Numbers.{token_of}

abbrev before : Site → Site → Bool
before x y = is_lt (nat_cmp (token_of x) (token_of y))

tie-same : (x y : Site) → x.tok ≡ y.tok → ties before x y ≡ true
tie-same x y same = grind (arith, nat_tests)

tie-less : (x y : Site) → x.tok < y.tok → ties before x y ≡ false
tie-less x y less = grind (arith, nat_tests)

none : (x : Site) (zs : List Site) → ((k : ℕ) (d : Site) → k < length zs → x.tok < token_of (slice_index_or zs k d)) → filter (ties before x) zs ≡ []
none x [] above = refl
none x (z ∷ zs) above = rw (tie-less x z (above zero z (omega arith))) (none x zs (λ k d within. above (suc k) d (omega arith)))

first : (x : Site) (zs : List Site) → filter (ties before x) (x ∷ zs) ≡ x ∷ filter (ties before x) zs
first x zs = rw (tie-same x x refl) refl

tail : (xs : List Site) (x : Site) → IsNonDecreasingBy token_of (x ∷ xs) → IsNonDecreasingBy token_of xs
tail xs x up i j d less within = up (suc i) (suc j) d (omega arith) (omega arith)

no-less : (y z : Site) (ys zs : List Site) → IsNonDecreasingBy token_of (z ∷ zs) → filter (ties before y) (y ∷ ys) ≡ filter (ties before y) (z ∷ zs) → y.tok < z.tok → ⊥
no-less y z ys zs up same less =
    let nothing : filter (ties before y) (z ∷ zs) ≡ [] = none y (z ∷ zs) (λ k d within. omega (arith, up zero k d (omega arith) within)) in
    let some : filter (ties before y) (y ∷ ys) ≡ y ∷ filter (ties before y) ys = first y ys in
    cc

pub one-sorted : (ys zs : List Site) → IsNonDecreasingBy token_of ys → IsNonDecreasingBy token_of zs → ((x : Site) → filter (ties before x) ys ≡ filter (ties before x) zs) → ys ≡ zs
one-sorted [] [] up vp same = refl
one-sorted [] (z ∷ zs) up vp same = let some = same z ∙ first z zs in cc
one-sorted (y ∷ ys) [] up vp same = let some = sym (first y ys) ∙ same y in cc
one-sorted (y ∷ ys) (z ∷ zs) up vp same =
    elim (cases_Bool (nat_lt y.tok z.tok)) [
      | inl less ↦ absurd (no-less y z ys zs vp (same y) (grind (arith, nat_tests)))
      | inr other ↦ elim (cases_Bool (nat_lt z.tok y.tok)) [
        | inl less ↦ absurd (no-less z y zs ys up (sym (same z)) (grind (arith, nat_tests)))
        | inr also ↦
            let token : y.tok ≡ z.tok = grind (arith, nat_tests) in
            let whole : y ∷ filter (ties before y) ys ≡ z ∷ filter (ties before y) zs = sym (first y ys) ∙ same y ∙ rw (tie-same y z token) refl in
            let head : y ≡ z = cc in
            let rest : (x : Site) → filter (ties before x) ys ≡ filter (ties before x) zs = λ x. elim (cases_Bool (ties before x y)) [
              | inl tied ↦
                  let also_tied : ties before x z ≡ true = ap (ties before x) (sym head) ∙ tied in
                  let longer : y ∷ filter (ties before x) ys ≡ z ∷ filter (ties before x) zs = rw (tied, also_tied) at (same x) in
                  cc
              | inr apart ↦
                  let also_apart : ties before x z ≡ false = ap (ties before x) (sym head) ∙ apart in
                  rw (apart, also_apart) at (same x)
            ] in
            let tails : ys ≡ zs = one-sorted ys zs (tail ys y up) (tail zs z vp) rest in
            ap (λ (x : Site). x ∷ ys) head ∙ ap (λ (l : List Site). z ∷ l) tails
      ]
    ]
