-- The quotient of two fractions.
use Rattle.std.proofs.Common.{◌≡◌, ℕ, zero, suc, ◌+◌, ◌*◌, ◌/◌, ◌<◌, ◌≤◌, ℤ, pos, negsuc, ◌≤ℤ◌, ◌<ℤ◌, Bool, true, false, leb, ◌==◌, if◌then◌else◌, Some, None, refl, sym, ap, ◌∙◌, subst, arith}
use Rattle.std.specs.Prelude.{FitsSigned}
use Rattle.std.specs.Int.{w16, w32, cast_unsigned}
use Rattle.std.proofs.lemmas.Bool.{eqb-true, eq-eqb}
use Rattle.std.proofs.lemmas.Int.{ints}
use Rattle.std.proofs.lemmas.Nat.{div_below}
use Rattle.std.proofs.Math.Nat.{mul-div_cancel}
use Rattle.operator_meaning.specs.Value.{floor, quotient}
use Rattle.template_runs.specs.Values.{divided, taken, to_left, to_right}

-- what the words make of the operands
abbrev pub quotient_words : ℤ → ℤ → ℤ
quotient_words a b = let q = divided (to_left a 15) b in taken q (to_right q 15)

raised : (a : ℕ) → FitsSigned w16 (pos a) → to_left (pos a) 15 ≡ pos (32768 * a)
unfolding to_left
raised a fits = grind (arith, ints)

divides : (x b q : ℕ) → x < 2147483648 → suc b < 32768 → q ≡ x / suc b → divided (pos x) (pos (suc b)) ≡ pos q
unfolding divided
divides x b q less small e = grind (arith, ints)

less_none : (q : ℕ) → q < 32768 → taken (pos q) (to_right (pos q) 15) ≡ pos q
unfolding taken to_right
less_none q less = grind (arith, ints)

less_one : taken (pos 32768) (to_right (pos 32768) 15) ≡ pos 32767
unfolding taken to_right
less_one = refl

-- the quotient of the words, of natural numbers
quotient_is : (a b : ℕ) → a ≤ suc b → FitsSigned w16 (pos a) → FitsSigned w16 (pos (suc b)) → divided (to_left (pos a) 15) (pos (suc b)) ≡ pos (32768 * a / suc b)
quotient_is a b less fits_a fits_b =
    ap (λ x. divided x (pos (suc b))) (raised a fits_a) ∙ divides (32768 * a) b (32768 * a / suc b) (below a fits_a) (small b fits_b) refl
  where
    below : (a : ℕ) → FitsSigned w16 (pos a) → 32768 * a < 2147483648
    below a fits = grind (arith, ints)

    small : (b : ℕ) → FitsSigned w16 (pos (suc b)) → suc b < 32768
    small b fits = grind (arith, ints)

-- a quotient of equals, of less by more, and of 0
of_equals : (a b q : ℕ) → a ≡ suc b → q ≡ 32768 * a / suc b → q ≡ 32768
of_equals a b q e f = f ∙ ap (λ x. 32768 * x / suc b) e ∙ whole (suc b) (let e : 0 < suc b = omega arith in e)
  where
    whole : (n : ℕ) → 0 < n → 32768 * n / n ≡ 32768
    whole n some = mul-div_cancel 32768 some

of_less : (a b q : ℕ) → a < suc b → q ≡ 32768 * a / suc b → q < 32768
of_less a b q less e = subst (λ n. n < 32768) (sym e) (div_below (32768 * a) (suc b) 32768 (omega arith) (omega arith))

-- the words give the value, where there is one
pub quotient_gives : (a b w : ℤ) → FitsSigned w16 a → FitsSigned w16 b → quotient a b ≡ Some w → quotient_words a b ≡ w
quotient_gives (pos a) (pos zero) w fa fb is = absurd (let e = is in cc)
quotient_gives (pos a) (negsuc b) w fa fb is = absurd (let e = is in cc)
quotient_gives (negsuc a) b w fa fb is = absurd (let e = is in cc)
quotient_gives (pos a) (pos (suc b)) w fa fb is = pick (leb (suc b + 1) a) (a == 0) (a == suc b) refl refl refl is
  where
    q : ℕ
    q = 32768 * a / suc b

    most : leb (suc b + 1) a ≡ false → a ≤ suc b
    most e = grind arith

    words_are : a ≤ suc b → quotient_words (pos a) (pos (suc b)) ≡ taken (pos q) (to_right (pos q) 15)
    words_are less = ap (λ x. taken x (to_right x 15)) (quotient_is a b less fa fb)

    none : a ≡ 0 → q ≡ 0
    none e = let less = div_below (32768 * a) (suc b) 1 (omega arith) (omega arith) in omega arith

    differ : (a == suc b) ≡ false → a ≤ suc b → a < suc b
    differ e less = grind (arith, eq-eqb)

    pick : (o z t : Bool) → leb (suc b + 1) a ≡ o → (a == 0) ≡ z → (a == suc b) ≡ t
        → (if o then None else (if z then Some (pos 0) else (if t then Some (pos 32767) else Some (floor (pos (32768 * a)) (suc b))))) ≡ Some w
        → quotient_words (pos a) (pos (suc b)) ≡ w
    pick true z t e f g is = absurd (let h = is in cc)
    pick false true t e f g is =
        let zero_is = eqb-true a 0 f in
        words_are (most e) ∙ less_none q (of_less a b q (omega arith) refl) ∙ ap pos (none zero_is) ∙ (let h = is in cc)
    pick false false true e f g is =
        let same = eqb-true a (suc b) g in
        words_are (most e) ∙ ap (λ n. taken (pos n) (to_right (pos n) 15)) (of_equals a b q same refl) ∙ less_one ∙ (let h = is in cc)
    pick false false false e f g is =
        let less = differ g (most e) in
        words_are (most e) ∙ less_none q (of_less a b q less refl) ∙ (let h = is in cc)

-- where there is none
pub none_by_second : (a b : ℤ) → b ≤ℤ pos 0 → quotient a b ≡ None
none_by_second (pos a) (pos zero) e = refl
none_by_second (pos a) (negsuc b) e = refl
none_by_second (negsuc a) (pos b) e = refl
none_by_second (negsuc a) (negsuc b) e = refl
none_by_second (pos a) (pos (suc b)) e = absurd (grind (arith, ints))

pub none_by_first : (a b : ℤ) → FitsSigned w16 a → FitsSigned w16 b → cast_unsigned w32 b < cast_unsigned w32 a → quotient a b ≡ None
none_by_first (negsuc a) (pos b) fa fb e = refl
none_by_first (negsuc a) (negsuc b) fa fb e = refl
none_by_first (pos a) (pos zero) fa fb e = refl
none_by_first (pos a) (negsuc b) fa fb e = refl
none_by_first (pos a) (pos (suc b)) fa fb e =
    ap (λ (o : Bool). if o then None else (if a == 0 then Some (pos 0) else (if a == suc b then Some (pos 32767) else Some (floor (pos (32768 * a)) (suc b))))) (above e)
  where
    above : suc b < a → leb (suc b + 1) a ≡ true
    above e = grind arith

-- and where there is one
pub some_by_order : (a b : ℤ) → FitsSigned w16 a → FitsSigned w16 b → pos 0 <ℤ b → cast_unsigned w32 a ≤ cast_unsigned w32 b → quotient a b ≡ None → ⊥
some_by_order (negsuc a) (pos b) fa fb e f none = over fa fb f
  where
    over : FitsSigned w16 (negsuc a) → FitsSigned w16 (pos b) → cast_unsigned w32 (negsuc a) ≤ b → ⊥
    over fa fb f = grind (arith, ints)
some_by_order (negsuc a) (negsuc b) fa fb e f none = grind (arith, ints)
some_by_order (pos a) (pos zero) fa fb e f none = grind (arith, ints)
some_by_order (pos a) (negsuc b) fa fb e f none = grind (arith, ints)
some_by_order (pos a) (pos (suc b)) fa fb e f none = pick (leb (suc b + 1) a) (a == 0) (a == suc b) refl none
  where
    not_above : leb (suc b + 1) a ≡ true → a ≤ suc b → ⊥
    not_above g less = grind arith

    pick : (o z t : Bool) → leb (suc b + 1) a ≡ o
        → (if o then None else (if z then Some (pos 0) else (if t then Some (pos 32767) else Some (floor (pos (32768 * a)) (suc b))))) ≡ None → ⊥
    pick true z t g is = not_above g f
    pick false true t g is = let h = is in absurd (let k : Unit {0} ≡ ⊥ = cc in subst (λ T. T) k tt)
    pick false false true g is = let h = is in absurd (let k : Unit {0} ≡ ⊥ = cc in subst (λ T. T) k tt)
    pick false false false g is = let h = is in absurd (let k : Unit {0} ≡ ⊥ = cc in subst (λ T. T) k tt)
