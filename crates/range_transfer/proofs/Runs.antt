-- The least range of the low halves of a range's numbers.
use Rattle.std.proofs.Common.{◌≡◌, ℤ, pos, negsuc, ◌+ℤ◌, ◌-ℤ◌, ◌*ℤ◌, ◌≤ℤ◌, ◌<ℤ◌, FitsSigned, w16, w32, w64, to_z, of_z, [], ◌∷◌, Option, Some, unwrap_or, sym, subst, ap, ◌∙◌, arith}
use Rattle.std.proofs.lemmas.Int.{ints}
use Rattle.sat_base.specs.Clip.{low16}
use Rattle.operator_meaning.specs.declared.operator.Op.TheVariants.{ExtractL}
use Rattle.operator_meaning.specs.Value.{floor}
use Rattle.range_core.specs.Range.{IsIn, IsLeast}
use Rattle.range_core.specs.declared.range.Range.{Range}
use Rattle.range_core.specs.declared.range.Range.TheVariants.{Empty, Span}
use Rattle.range_transfer.specs.Image.{IsValueOn}
use Rattle.range_transfer.proofs.Least.{least_from_ends, none_is_least}
use Rattle.range_transfer.proofs.Numbers.{read_end}
use Rattle.range_transfer.proofs.Order.{end_is}
use Rattle.range_transfer.proofs.Steady.{floor_up}
use Rattle.range_transfer.proofs.Low.{run_of, run_bounds, low_rises, low_at_end, low_at_begin, low_fits}

low_of : (range : Range) (P : ℤ → Type 0) → ((y : ℤ) → IsIn y range → P (low16 y)) → (x : ℤ) → IsValueOn ExtractL (range ∷ []) x → P x
low_of range P inside x ([], in', e) = absurd in'
low_of range P inside x (y ∷ [], in', e) = subst P (ap (λ (o : Option ℤ). unwrap_or o (pos 0)) e) (inside y in'.0)
low_of range P inside x (y ∷ z ∷ zs, in', e) = absurd in'.1

pub no_low : IsLeast (IsValueOn ExtractL (Empty ∷ [])) Empty
no_low = none_is_least (IsValueOn ExtractL (Empty ∷ [])) (λ x h. low_of Empty (λ y. ⊥) (λ y in'. in') x h)

pub same_run : (lo hi : ℤ) → lo ≤ℤ hi → run_of hi ≤ℤ run_of lo → run_of lo ≡ run_of hi
same_run lo hi some less =
    let rises = floor_up 65536 (omega arith) (lo +ℤ pos 32768) (hi +ℤ pos 32768) (omega (arith, ints, some)) in
    omega (arith, ints, less, rises)

-- what the code reads
pub read_run : (x r : ℤ) → FitsSigned w32 x → r ≡ floor (to_z w64 (of_z w64 x) +ℤ pos 32768) 65536 → to_z w64 (of_z w64 r) ≡ run_of x
read_run x r fits found = ap (λ (y : ℤ). to_z w64 (of_z w64 y)) (found ∙ ap run_of (read_end x fits)) ∙ within (run_of x) (run_bounds x)
  where
    within : (q : ℤ) → ((pos 65536 *ℤ q) ≤ℤ (x +ℤ pos 32768)) × ((x +ℤ pos 32768) <ℤ (pos 65536 *ℤ q +ℤ pos 65536)) → to_z w64 (of_z w64 q) ≡ q
    within q bounds = omega (arith, ints, bounds, fits)

pub read_low : (x l r : ℤ) → FitsSigned w32 x → l ≡ low16 (to_z w32 (of_z w32 (to_z w64 (of_z w64 x)))) → FitsSigned w16 l → r ≡ to_z w32 (of_z w32 l) → to_z w64 (of_z w64 r) ≡ low16 x
read_low x l r fits low small read =
    let same : to_z w64 (of_z w64 r) ≡ l = omega (arith, ints, small, read) in
    same ∙ low ∙ ap low16 (end_is x fits)

pub low_in_run : (lo hi first last : ℤ) → lo ≤ℤ hi → run_of hi ≤ℤ run_of lo → first ≡ low16 lo → last ≡ low16 hi → IsLeast (IsValueOn ExtractL (Span lo hi ∷ [])) (Span first last)
low_in_run lo hi first last some less low high =
    let same = same_run lo hi some less in
    least_from_ends (IsValueOn ExtractL (Span lo hi ∷ [])) first last
    (λ x h. low_of (Span lo hi) (λ y. IsIn y (Span first last)) (λ y in'.
    let (under, over) = low_rises lo y hi in'.0 in'.1 same in
    (omega (arith, ints, under, low), omega (arith, ints, over, high))) x h)
    (lo ∷ [], ((omega (arith, ints), some), tt), ap Some (sym low))
    (hi ∷ [], ((some, omega (arith, ints)), tt), ap Some (sym high))

-- where the last run begins in the range, and ends one before it the run below
pub low_over_runs : (lo hi : ℤ) → lo ≤ℤ hi → run_of lo <ℤ run_of hi → IsLeast (IsValueOn ExtractL (Span lo hi ∷ [])) (Span (negsuc 32767) (pos 32767))
low_over_runs lo hi some less =
    let q = run_of hi in
    let begin = pos 65536 *ℤ q -ℤ pos 32768 in
    let end = pos 65536 *ℤ (q -ℤ pos 1) +ℤ pos 32767 in
    let bounds = run_bounds lo in
    let bounds' = run_bounds hi in
    least_from_ends (IsValueOn ExtractL (Span lo hi ∷ [])) (negsuc 32767) (pos 32767)
    (λ x h. low_of (Span lo hi) (λ y. IsIn y (Span (negsuc 32767) (pos 32767))) (λ y in'. low_fits y) x h)
    (begin ∷ [], ((omega (arith, ints, less, bounds), omega (arith, ints, bounds')), tt), ap Some (low_at_begin q))
    (end ∷ [], ((omega (arith, ints, less, bounds), omega (arith, ints, bounds')), tt), ap Some (low_at_end (q -ℤ pos 1)))
