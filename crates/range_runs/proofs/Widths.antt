-- Ranges that fit their widths one by one.
use Rattle.std.proofs.Common.{◌≡◌, ℕ, suc, ◌<◌, List, [], ◌∷◌, length, get_or, arith}
use Rattle.sat_base.specs.declared.width.Width.{Width}
use Rattle.sat_base.specs.declared.width.Width.TheVariants.{W32}
use Rattle.range_core.specs.declared.range.Range.{Range}
use Rattle.range_core.specs.declared.range.Range.TheVariants.{Empty}
use Rattle.range_transfer.specs.Box.{FitsRange, FitRanges}

pub all_fit : (widths : List Width) (ranges : List Range) → length ranges ≡ length widths → ((k : ℕ) → k < length ranges → FitsRange (get_or widths k W32) (get_or ranges k Empty)) → FitRanges widths ranges
all_fit [] [] e each = tt
all_fit (width ∷ widths) (range ∷ ranges) e each = (each 0 (omega arith), all_fit widths ranges (omega (arith, e)) (λ k less. each (suc k) (omega (arith, less))))
all_fit [] (range ∷ ranges) e each = absurd (omega (arith, e))
all_fit (width ∷ widths) [] e each = absurd (omega (arith, e))
