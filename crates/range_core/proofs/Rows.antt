-- What is kept, row by row.
use Rattle.std.proofs.Common.{◌≡◌, ℕ, suc, ◌+◌, ◌<◌, ◌^◌, inl, inr, ℤ, pos, negsuc, FitsSigned, w32, List, [], ◌∷◌, ◌++◌, length, get_or, refl, subst, sym, ap, lit<, zero, ◌*◌, ◌≤◌, add-one, pow_mono, ◌∙◌, arith}
use Rattle.std.specs.List.{Contains}
use Rattle.std.specs.List.Sorted.{IsSorted, IsPermutation}
use Rattle.std.specs.Ordering.{int_cmp}
use Rattle.std.proofs.Math.Nat.{pow-succ'}
use Rattle.std.proofs.lemmas.Bool.{cases_lt}
use Rattle.std.proofs.lemmas.List.{get_or_default}
use Rattle.std.proofs.lemmas.List.Sorted.{IsPermutation-sym, Contains-permutation}
use Rattle.std.proofs.lemmas.List.Elements.{Contains-get_or, Contains-append_left, Contains-push, Contains-push_cases}
use Rattle.range_core.specs.Kept.{Adds, IsInRows, IsKept, IsLadder, constant_row}
use Rattle.range_core.specs.Thresholds.{AreThresholds, near_power, near_constant}

pub adds_nothing : (old : List ℤ) (rows : ℕ → List ℤ) → Adds old (IsInRows rows 0) old
adds_nothing old rows y = (λ h. inl h, λ h. elim h [ inl there ↦ there | inr row ↦ absurd (omega (arith, row.1.1)) ])

-- one row more
pub adds_row : (rows : ℕ → List ℤ) (n : ℕ) (old before after : List ℤ) → Adds old (IsInRows rows n) before → Adds before (IsKept (rows n)) after → Adds old (IsInRows rows (n + 1)) after
adds_row rows n old before after first then y = (
  λ h. elim ((then y).0 h) [
    | inl there ↦ elim ((first y).0 there) [ inl was ↦ inl was | inr (fits, (k, less, in')) ↦ inr (fits, (k, omega arith, in')) ]
    | inr (fits, in') ↦ inr (fits, (n, omega arith, in'))
  ],
  λ h. elim h [
    | inl was ↦ (then y).1 (inl ((first y).1 (inl was)))
    | inr (fits, (k, less, in')) ↦ elim (cases_lt k n) [
      | inl below ↦ (then y).1 (inl ((first y).1 (inr (fits, (k, below, in')))))
      | inr last ↦ let e : k ≡ n = omega arith in (then y).1 (inr (fits, subst (λ (i : ℕ). Contains (rows i) y) e in'))
    ]
  ],
)

only : (x y : ℤ) → Contains (x ∷ []) y → x ≡ y
only x y (zero, less, e) = e
only x y (suc k, less, e) = absurd (omega (arith, less))

pub adds_pushed : (old : List ℤ) (x : ℤ) → FitsSigned w32 x → Adds old (IsKept (x ∷ [])) (old ++ x ∷ [])
adds_pushed old x fits y = (
  λ h. elim (Contains-push_cases old x y h) [ inl was ↦ inl was | inr e ↦ inr (subst (FitsSigned w32) e fits, (0, omega arith, e)) ],
  λ h. elim h [ inl was ↦ Contains-append_left old (x ∷ []) y was | inr kept ↦ subst (Contains (old ++ x ∷ [])) (only x y kept.1) (Contains-push old x) ],
)

pub adds_unfit : (old : List ℤ) (x : ℤ) → (FitsSigned w32 x → ⊥) → Adds old (IsKept (x ∷ [])) old
adds_unfit old x unfit y = (
  λ h. inl h,
  λ h. elim h [ inl was ↦ was | inr kept ↦ absurd (unfit (subst (FitsSigned w32) (sym (only x y kept.1)) kept.0)) ],
)

pub adds_same : (old xs ys new : List ℤ) → xs ≡ ys → Adds old (IsKept xs) new → Adds old (IsKept ys) new
adds_same old xs ys new e h = subst (λ (zs : List ℤ). Adds old (IsKept zs) new) e h

pub three : (a b c p q r : ℤ) → a ≡ p → b ≡ q → c ≡ r → a ∷ b ∷ c ∷ [] ≡ p ∷ q ∷ r ∷ []
three a b c p q r e f g = cc

pub twice : (k : ℕ) → 2 ^ (k + 1) ≡ 2 * 2 ^ k
twice k = ap (λ n. 2 ^ n) (add-one k) ∙ pow-succ' 2 k

pub power_fits : (k : ℕ) → k < 32 → 2 ^ k < 4294967296
power_fits k less = let most : k ≤ 31 = omega arith in let h : 2 ^ k ≤ 2 ^ 31 = pow_mono most in omega (arith, h)

-- each number is a row of its own
abbrev pub singles : List ℤ → ℕ → List ℤ
singles xs k = get_or xs k (pos 0) ∷ []

pub adds_singles : (old xs new : List ℤ) → Adds old (IsInRows (singles xs) (length xs)) new → Adds old (IsKept xs) new
adds_singles old xs new h y = (
  λ there. elim ((h y).0 there) [
    | inl was ↦ inl was
    | inr (fits, (k, less, in')) ↦ inr (fits, (k, less, get_or_default xs k y (pos 0) less ∙ only (get_or xs k (pos 0)) y in'))
  ],
  λ there. elim there [
    | inl was ↦ (h y).1 (inl was)
    | inr (fits, (k, less, e)) ↦ (h y).1 (inr (fits, (k, less, (0, omega arith, get_or_default xs k (pos 0) y less ∙ e))))
  ],
)

-- the rows of the powers, and then those of the constants, have all thresholds
pub are_thresholds : (constants powers all : List ℤ) → Adds [] (IsInRows near_power 32) powers → Adds powers (IsInRows (constant_row constants) (length constants)) all → AreThresholds constants all
are_thresholds constants powers all first then x = (
  λ h. elim ((then x).0 h) [
    | inl there ↦ elim ((first x).0 there) [ inl none ↦ absurd (omega (arith, none.1)) | inr (fits, (k, less, in')) ↦ (fits, inr (inl (k, less, in'))) ]
    | inr (fits, (k, less, in')) ↦ (fits, inr (inr (get_or constants k (pos 0), Contains-get_or constants k (pos 0) less, in')))
  ],
  λ (fits, h). elim h [
    | inl zero' ↦ (then x).1 (inl ((first x).1 (inr (fits, (0, omega arith, (1, omega arith, sym zero'))))))
    | inr (inl (k, less, in')) ↦ (then x).1 (inl ((first x).1 (inr (fits, (k, less, in')))))
    | inr (inr (c, (k, less, is), in')) ↦
        (then x).1 (inr (fits, (k, less, subst (λ (d : ℤ). Contains (near_constant d) x) (sym (get_or_default constants k (pos 0) c less ∙ is)) in')))
  ],
)

pub same_thresholds : (constants xs ys : List ℤ) → IsPermutation xs ys → AreThresholds constants xs → AreThresholds constants ys
same_thresholds constants xs ys moved h x = (
  λ there. (h x).0 (Contains-permutation ys xs x (IsPermutation-sym xs ys moved) there),
  λ is. Contains-permutation xs ys x moved ((h x).1 is),
)

pub is_ladder : (constants values : List ℤ) → IsSorted int_cmp values → AreThresholds constants values → IsLadder values
is_ladder constants values sorted h = record {
  sorted = sorted;
  lowest = (h (negsuc 2147483647)).1 (record { sfits = lit< tt }, inr (inl (31, omega arith, (2, omega arith, refl))));
  highest = (h (pos 2147483647)).1 (record { sfits = lit< tt }, inr (inl (31, omega arith, (1, omega arith, refl))));
}
