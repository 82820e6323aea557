-- What the code keeps of a box while it goes from corner to corner.
use Rattle.std.specs.Prelude.{ℤ, List, [], ◌∷◌}
use Rattle.std.specs.List.{Contains}
use Rattle.operator_meaning.specs.Table.{FitWidths}
use Rattle.operator_meaning.specs.declared.site.SiteKind.{SiteKind}
use Rattle.range_core.specs.declared.range.Range.{Range}
use Rattle.range_core.specs.Range.{IsRange}
use Rattle.range_transfer.specs.Site.{widths_of}

abbrev pub AreRanges : List Range → Type 0
AreRanges [] = Unit {0}
AreRanges (range ∷ ranges) = IsRange range × AreRanges ranges

-- each of the lists can be the operands of the site
abbrev pub AllFit : SiteKind → List (List ℤ) → Type 0
AllFit kind corners = (args : List ℤ) → Contains corners args → FitWidths (widths_of kind) args
