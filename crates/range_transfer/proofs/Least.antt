-- Least ranges of sets, and of the values that have a partner.
use Rattle.std.proofs.Common.{◌≡◌, ◌≢◌, ◌↔◌, ℤ, pos, ◌≤ℤ◌, ◌<ℤ◌, ◌+ℤ◌, ◌-ℤ◌, arith, sym, subst, ◌∙◌, refl}
use Rattle.std.proofs.lemmas.Int.{ints, by_lt_z}
use Rattle.range_core.specs.Range.{IsIn, Covers, IsLeast}
use Rattle.range_core.specs.declared.range.Range.{Range}
use Rattle.range_core.specs.declared.range.Range.TheVariants.{Empty, Span}
use Rattle.range_transfer.specs.Relation.{HasPartner}

-- a range that has just the numbers of the set is least
pub exact_is_least : (P : ℤ → Type 0) (range : Range) → ((x : ℤ) → IsIn x range ↔ P x) → IsLeast P range
exact_is_least P range same = record { has = λ x p. (same x).1 p; least = λ other all x h. all x ((same x).0 h) }

pub same_set : (P Q : ℤ → Type 0) (range : Range) → ((x : ℤ) → P x ↔ Q x) → IsLeast P range → IsLeast Q range
same_set P Q range same h = record { has = λ x q. h.has x ((same x).1 q); least = λ other all. h.least other (λ x p. all x ((same x).0 p)) }

pub same_partners : (R S : ℤ → ℤ → Type 0) (own other range : Range) → ((x y : ℤ) → R x y ↔ S x y) → IsLeast (HasPartner R own other) range → IsLeast (HasPartner S own other) range
same_partners R S own other range same =
    same_set _ _ range (λ x. (
      λ (in', (y, is, related)). (in', (y, is, (same x y).0 related)),
      λ (in', (y, is, related)). (in', (y, is, (same x y).1 related)),
    ))

pub none_is_least : (P : ℤ → Type 0) → ((x : ℤ) → P x → ⊥) → IsLeast P Empty
none_is_least P none = record { has = none; least = λ other all x h. absurd h }

-- a range with both ends of a span covers it
pub covers_from_ends : (other : Range) (lo hi : ℤ) → IsIn lo other → IsIn hi other → Covers other (Span lo hi)
covers_from_ends Empty lo hi low high x h = low
covers_from_ends (Span a b) lo hi low high x h = (omega (arith, ints), omega (arith, ints))

-- a span is least where its ends are of the set and all of the set lies between them
pub least_from_ends : (P : ℤ → Type 0) (lo hi : ℤ) → ((x : ℤ) → P x → IsIn x (Span lo hi)) → P lo → P hi → IsLeast P (Span lo hi)
least_from_ends P lo hi between low high = record {
  has = between;
  least = λ other all. covers_from_ends other lo hi (all lo low) (all hi high);
}

pub partners_lt : (own range : Range) (lo hi m : ℤ) → lo ≤ℤ hi → ((x : ℤ) → IsIn x range ↔ (IsIn x own × x ≤ℤ m)) → m ≡ hi -ℤ pos 1 → IsLeast (HasPartner (λ (x y : ℤ). x <ℤ y) own (Span lo hi)) range
partners_lt own range lo hi m some values e =
    exact_is_least _ range (λ x. (
      λ h. let (in', le) = (values x).0 h in (in', (hi, (some, omega (arith, ints)), omega (arith, ints, le, e))),
      λ (in', (y, is, related)). (values x).1 (in', omega (arith, ints, is, related, e)),
    ))

pub partners_le : (own range : Range) (lo hi m : ℤ) → lo ≤ℤ hi → ((x : ℤ) → IsIn x range ↔ (IsIn x own × x ≤ℤ m)) → m ≡ hi → IsLeast (HasPartner (λ (x y : ℤ). x ≤ℤ y) own (Span lo hi)) range
partners_le own range lo hi m some values e =
    exact_is_least _ range (λ x. (
      λ h. let (in', le) = (values x).0 h in (in', (hi, (some, omega (arith, ints)), omega (arith, ints, le, e))),
      λ (in', (y, is, related)). (values x).1 (in', omega (arith, ints, is, related, e)),
    ))

pub partners_gt : (own range : Range) (lo hi m : ℤ) → lo ≤ℤ hi → ((x : ℤ) → IsIn x range ↔ (IsIn x own × m ≤ℤ x)) → m ≡ lo +ℤ pos 1 → IsLeast (HasPartner (λ (x y : ℤ). y <ℤ x) own (Span lo hi)) range
partners_gt own range lo hi m some values e =
    exact_is_least _ range (λ x. (
      λ h. let (in', le) = (values x).0 h in (in', (lo, (omega (arith, ints), some), omega (arith, ints, le, e))),
      λ (in', (y, is, related)). (values x).1 (in', omega (arith, ints, is, related, e)),
    ))

pub partners_ge : (own range : Range) (lo hi m : ℤ) → lo ≤ℤ hi → ((x : ℤ) → IsIn x range ↔ (IsIn x own × m ≤ℤ x)) → m ≡ lo → IsLeast (HasPartner (λ (x y : ℤ). y ≤ℤ x) own (Span lo hi)) range
partners_ge own range lo hi m some values e =
    exact_is_least _ range (λ x. (
      λ h. let (in', le) = (values x).0 h in (in', (lo, (omega (arith, ints), some), omega (arith, ints, le, e))),
      λ (in', (y, is, related)). (values x).1 (in', omega (arith, ints, is, related, e)),
    ))

pub partners_eq : (own other range : Range) → ((x : ℤ) → IsIn x range ↔ (IsIn x own × IsIn x other)) → IsLeast (HasPartner (λ (x y : ℤ). x ≡ y) own other) range
partners_eq own other range values =
    exact_is_least _ range (λ x. (
      λ h. let (in', there) = (values x).0 h in (in', (x, there, refl)),
      λ (in', (y, is, e)). (values x).1 (in', subst (λ (z : ℤ). IsIn z other) (sym e) is),
    ))

-- two numbers or more: one of them differs from any number
pub partners_ne_all : (own : Range) (lo hi : ℤ) → lo <ℤ hi → IsLeast (HasPartner (λ (x y : ℤ). x ≢ y) own (Span lo hi)) own
partners_ne_all own lo hi some =
    exact_is_least _ own (λ x. (
      λ h. by_lt_z x hi
          (λ less. (h, (hi, (omega (arith, ints), omega (arith, ints)), λ e. omega (arith, ints, e, less))))
          (λ more. (h, (lo, (omega (arith, ints), omega (arith, ints)), λ e. omega (arith, ints, e, more)))),
      λ h. h.0,
    ))

-- one number alone
pub partners_ne_one : (own range : Range) (lo hi m : ℤ) → lo ≤ℤ hi → hi ≤ℤ lo → IsLeast (λ (x : ℤ). IsIn x own × x ≢ m) range → m ≡ lo → IsLeast (HasPartner (λ (x y : ℤ). x ≢ y) own (Span lo hi)) range
partners_ne_one own range lo hi m some one h same =
    same_set _ _ range (λ x. (
      λ (in', differ). (in', (lo, (omega (arith, ints), some), λ e. differ (e ∙ sym same))),
      λ (in', (y, is, differ)). (in', λ e. differ (omega (arith, ints, e, is, one, same))),
    )) h

-- the ends without one number
pub without_low : (lo hi m one : ℤ) (range : Range) → ((x : ℤ) → IsIn x range ↔ (IsIn x (Span lo hi) × m ≤ℤ x)) → m ≡ one +ℤ pos 1 → lo ≡ one → IsLeast (λ (x : ℤ). IsIn x (Span lo hi) × x ≢ one) range
without_low lo hi m one range values e low =
    exact_is_least _ range (λ x. (
      λ h. let (in', le) = (values x).0 h in (in', λ f. omega (arith, ints, f, le, e)),
      λ (in', differ). (values x).1 (in', omega (arith, ints, in', differ, e, low)),
    ))

pub without_high : (lo hi m one : ℤ) (range : Range) → ((x : ℤ) → IsIn x range ↔ (IsIn x (Span lo hi) × x ≤ℤ m)) → m ≡ one -ℤ pos 1 → hi ≡ one → IsLeast (λ (x : ℤ). IsIn x (Span lo hi) × x ≢ one) range
without_high lo hi m one range values e high =
    exact_is_least _ range (λ x. (
      λ h. let (in', le) = (values x).0 h in (in', λ f. omega (arith, ints, f, le, e)),
      λ (in', differ). (values x).1 (in', omega (arith, ints, in', differ, e, high)),
    ))

pub without_inner : (lo hi one : ℤ) → lo ≤ℤ hi → lo ≢ one → hi ≢ one → IsLeast (λ (x : ℤ). IsIn x (Span lo hi) × x ≢ one) (Span lo hi)
without_inner lo hi one some low high =
    least_from_ends _ lo hi (λ x h. h.0) ((omega (arith, ints), some), low) ((some, omega (arith, ints)), high)
