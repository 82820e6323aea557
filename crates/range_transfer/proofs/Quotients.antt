-- The least range of the quotients of two ranges.
use Rattle.std.proofs.Common.{◌≡◌, ℕ, zero, suc, ◌<◌, inl, inr, ℤ, pos, negsuc, ◌≤ℤ◌, ◌<ℤ◌, unsigned_abs, [], ◌∷◌, Option, Some, None, MatchOption, unwrap_or, sym, subst, ap, ◌∙◌, arith}
use Rattle.std.specs.Int.{int_min}
use Rattle.std.proofs.lemmas.Bool.{cases_lt}
use Rattle.std.proofs.lemmas.Bool.Decides.{nat_tests}
use Rattle.std.proofs.lemmas.Int.{ints, clamps, by_lt_z}
use Rattle.operator_meaning.specs.Value.{quotient}
use Rattle.operator_meaning.specs.declared.operator.Op.TheVariants.{DivS}
use Rattle.range_core.specs.Range.{IsRange, IsIn, IsLeast}
use Rattle.range_core.specs.declared.range.Range.{Range}
use Rattle.range_core.specs.declared.range.Range.TheVariants.{Empty, Span}
use Rattle.range_transfer.specs.Image.{IsValueOn}
use Rattle.range_transfer.proofs.Division.{fraction, quotient_is, of_same, at_most, fraction_rises, fraction_falls}
use Rattle.range_transfer.proofs.Least.{least_from_ends, none_is_least}
use Rattle.range_transfer.proofs.Parts.{IsCommon, fits_32, positives}

-- ---- the quotients of whole numbers

abbrev IsValid : ℤ → ℤ → Type 0
IsValid a b = (pos 0 ≤ℤ a) × (a ≤ℤ b) × (pos 0 <ℤ b)

abbrev ratio : ℤ → ℤ → ℤ
ratio a b = pos (fraction (unsigned_abs a) (unsigned_abs b))

ratio_is : (a b : ℤ) → IsValid a b → quotient a b ≡ Some (ratio a b)
ratio_is (pos a) (pos (suc b)) valid = quotient_is a b (omega (arith, ints, valid.1))
ratio_is (pos a) (pos zero) valid = absurd (omega (arith, ints, valid.2))
ratio_is (pos a) (negsuc b) valid = absurd (omega (arith, ints, valid.2))
ratio_is (negsuc a) b valid = absurd (omega (arith, ints, valid.0))

beyond : (a b : ℕ) → suc b < a → quotient (pos a) (pos (suc b)) ≡ None
beyond a b more = grind (arith, nat_tests, more)

no_value : (x : ℤ) → None ≡ Some x → ⊥
no_value x e = subst (λ (o : Option ℤ). MatchOption o (Unit {0}) (λ y. ⊥)) e tt

valid_of : (a b x : ℤ) → quotient a b ≡ Some x → IsValid a b
valid_of (pos a) (pos (suc b)) x e =
    elim (cases_lt (suc b) a) [
      | inl more ↦ absurd (no_value x (sym (beyond a b more) ∙ e))
      | inr less ↦ (omega (arith, ints), omega (arith, ints, less), omega (arith, ints))
    ]
valid_of (pos a) (pos zero) x e = absurd (no_value x e)
valid_of (pos a) (negsuc b) x e = absurd (no_value x e)
valid_of (negsuc a) b x e = absurd (no_value x e)

value_is : (a b x : ℤ) → quotient a b ≡ Some x → x ≡ ratio a b
value_is a b x e = ap (λ (o : Option ℤ). unwrap_or o (pos 0)) (sym e ∙ ratio_is a b (valid_of a b x e))

ratio_rises : (a c b : ℤ) → pos 0 ≤ℤ a → a ≤ℤ c → IsValid c b → ratio a b ≤ℤ ratio c b
ratio_rises a c b some le valid =
    let h = fraction_rises (unsigned_abs a) (unsigned_abs c) (unsigned_abs b) (omega (arith, ints, clamps, valid.2)) (omega (arith, ints, clamps, some, le)) (omega (arith, ints, clamps, valid)) in
    omega (arith, ints, h)

ratio_falls : (a b d : ℤ) → IsValid a b → b ≤ℤ d → ratio a d ≤ℤ ratio a b
ratio_falls a b d valid le =
    let h = fraction_falls (unsigned_abs a) (unsigned_abs b) (unsigned_abs d) (omega (arith, ints, clamps, valid.2)) (omega (arith, ints, clamps, valid)) (omega (arith, ints, clamps, valid.2, le)) in
    omega (arith, ints, h)

ratio_most : (a b : ℤ) → IsValid a b → ratio a b ≤ℤ pos 32767
ratio_most a b valid =
    let h = at_most (unsigned_abs a) (unsigned_abs b) (omega (arith, ints, clamps, valid.2)) (omega (arith, ints, clamps, valid)) in
    omega (arith, ints, h)

ratio_same : (b : ℤ) → pos 0 <ℤ b → ratio b b ≡ pos 32767
ratio_same b some = ap pos (of_same (unsigned_abs b) (omega (arith, ints, clamps, some)))

-- ---- their ends

under : (a b lo high : ℤ) → IsValid a b → pos 0 ≤ℤ lo → lo ≤ℤ a → b ≤ℤ high → ratio lo high ≤ℤ ratio a b
under a b lo high valid some le le' =
    let first = ratio_falls lo b high (some, omega (arith, ints, le, valid.1), valid.2) le' in
    let second = ratio_rises lo a b some le valid in
    omega (arith, ints, first, second)

over : (a b hi low : ℤ) → IsValid a b → a ≤ℤ hi → pos 0 <ℤ low → low ≤ℤ b → ratio a b ≤ℤ ratio (int_min hi low) low
over a b hi low valid le some le' =
    by_lt_z low hi
    (λ less.
    let e : int_min hi low ≡ low = omega (arith, ints, clamps, less) in
    let most = ratio_most a b valid in
    omega (arith, ints, most, ap (λ (y : ℤ). ratio y low) e ∙ ratio_same low some))
    (λ more.
    let e : int_min hi low ≡ hi = omega (arith, ints, clamps, more) in
    let first = ratio_rises a hi b valid.0 le (omega (arith, ints, valid.0, le), omega (arith, ints, more, le'), valid.2) in
    let second = ratio_falls hi low b (omega (arith, ints, valid.0, le), more, some) le' in
    omega (arith, ints, first, second, ap (λ (y : ℤ). ratio y low) e))

abbrev pub dividends : Range
dividends = Span (pos 0) (pos 2147483647)

quotients_of : (dividend divisor : Range) (P : ℤ → Type 0) → ((a b x : ℤ) → IsIn a dividend → IsIn b divisor → quotient a b ≡ Some x → P x) → (x : ℤ) → IsValueOn DivS (dividend ∷ divisor ∷ []) x → P x
quotients_of dividend divisor P inside x ([], in', e) = absurd in'
quotients_of dividend divisor P inside x (a ∷ [], in', e) = absurd in'.1
quotients_of dividend divisor P inside x (a ∷ b ∷ [], in', e) = inside a b x in'.0 in'.1.0 e
quotients_of dividend divisor P inside x (a ∷ b ∷ c ∷ cs, in', e) = absurd in'.1.1

-- what is valid lies in the parts that are not negative
pub first_part : (dividend first : Range) → IsRange dividend → IsCommon first dividend dividends → (a b : ℤ) → IsIn a dividend → IsValid a b → IsIn a first
first_part dividend first is common a b in' valid = (common a).1 (in', (valid.0, omega (arith, ints, fits_32 dividend is a in')))

pub second_part : (divisor second : Range) → IsRange divisor → IsCommon second divisor positives → (a b : ℤ) → IsIn b divisor → IsValid a b → IsIn b second
second_part divisor second is common a b in' valid = (common b).1 (in', (omega (arith, ints, valid.2), omega (arith, ints, fits_32 divisor is b in')))

-- their ends
pub ends_valid : (dividend divisor : Range) (lo hi low high : ℤ) → lo ≤ℤ hi → low ≤ℤ high → IsCommon (Span lo hi) dividend dividends → IsCommon (Span low high) divisor positives → (pos 0 ≤ℤ lo) × (pos 0 <ℤ low)
ends_valid dividend divisor lo hi low high some some' common common' =
    let first = ((common lo).0 (omega (arith, ints), some)).1.0 in
    let second = ((common' low).0 (omega (arith, ints), some')).1.0 in
    (first, omega (arith, ints, second))

pub no_quotients : (dividend divisor : Range) → ((a b : ℤ) → IsIn a dividend → IsIn b divisor → IsValid a b → ⊥) → IsLeast (IsValueOn DivS (dividend ∷ divisor ∷ [])) Empty
no_quotients dividend divisor none =
    none_is_least (IsValueOn DivS (dividend ∷ divisor ∷ []))
    (λ x h. quotients_of dividend divisor (λ y. ⊥) (λ a b y in' in'' e. none a b in' in'' (valid_of a b y e)) x h)

pub quotients : (dividend divisor : Range) (lo hi low high first last : ℤ) → IsRange dividend → IsRange divisor → lo ≤ℤ hi → low ≤ℤ high
    → IsCommon (Span lo hi) dividend dividends → IsCommon (Span low high) divisor positives → lo ≤ℤ high
    → quotient lo high ≡ Some first → quotient (int_min hi low) low ≡ Some last → IsLeast (IsValueOn DivS (dividend ∷ divisor ∷ [])) (Span first last)
quotients dividend divisor lo hi low high first last is is' some some' common common' valid begin end =
    let begins = value_is lo high first begin in
    let ends = value_is (int_min hi low) low last end in
    let at_lo = (common lo).0 (omega (arith, ints), some) in
    let at_hi = (common hi).0 (some, omega (arith, ints)) in
    let at_low = (common' low).0 (omega (arith, ints), some') in
    let at_high = (common' high).0 (some', omega (arith, ints)) in
    let P = IsValueOn DivS (dividend ∷ divisor ∷ []) in
    let both : (k : ℤ) → low ≤ℤ hi → lo ≤ℤ k → k ≤ℤ hi → low ≤ℤ k → k ≤ℤ high → P last = λ k meets le le' more more'.
    let positive : pos 0 <ℤ k = omega (arith, ints, more, at_low.1.0) in
    let e : int_min hi low ≡ low = omega (arith, ints, clamps, meets) in
    let same : ratio k k ≡ last = ratio_same k positive ∙ sym (ends ∙ ap (λ (y : ℤ). ratio y low) e ∙ ratio_same low (omega (arith, ints, at_low.1.0))) in
    (k ∷ k ∷ [], (((common k).0 (le, le')).0, (((common' k).0 (more, more')).0, tt)), ratio_is k k (omega (arith, ints, positive), omega (arith, ints), positive) ∙ ap Some same) in
    least_from_ends P first last
    (λ x h. quotients_of dividend divisor (λ y. IsIn y (Span first last)) (λ a b y in' in'' e.
    let good = valid_of a b y e in
    let there = first_part dividend (Span lo hi) is common a b in' good in
    let there' = second_part divisor (Span low high) is' common' a b in'' good in
    let is_value = value_is a b y e in
    let below = under a b lo high good at_lo.1.0 there.0 there'.1 in
    let above = over a b hi low good there.1 (omega (arith, ints, at_low.1.0)) there'.0 in
    (omega (arith, ints, below, begins, is_value), omega (arith, ints, above, ends, is_value))) x h)
    (lo ∷ high ∷ [], (at_lo.0, (at_high.0, tt)), begin)
    (by_lt_z hi low
    (λ less.
    let e : int_min hi low ≡ hi = omega (arith, ints, clamps, less) in
    (hi ∷ low ∷ [], (at_hi.0, (at_low.0, tt)), ap (λ (y : ℤ). quotient y low) (sym e) ∙ end))
    (λ meets. by_lt_z lo low
    (λ less. both low meets (omega (arith, ints, less)) meets (omega (arith, ints)) some')
    (λ more. both lo meets (omega (arith, ints)) some more valid)))

-- a quotient has 16 bits
pub quotient_fits : (a b x : ℤ) → quotient a b ≡ Some x → (pos 0 ≤ℤ x) × (x ≤ℤ pos 32767)
quotient_fits a b x e =
    let is = value_is a b x e in
    let most = ratio_most a b (valid_of a b x e) in
    (omega (arith, ints, is), omega (arith, ints, is, most))

pub quotients_rise : (lo hi low high first last : ℤ) → lo ≤ℤ hi → low ≤ℤ high → quotient lo high ≡ Some first → quotient (int_min hi low) low ≡ Some last → lo ≤ℤ high → pos 0 ≤ℤ lo → pos 0 <ℤ low → first ≤ℤ last
quotients_rise lo hi low high first last some some' begin end valid low' positive =
    let begins = value_is lo high first begin in
    let ends = value_is (int_min hi low) low last end in
    let h = over lo high hi low (low', valid, omega (arith, ints, positive, some')) some positive some' in
    omega (arith, ints, begins, ends, h)
