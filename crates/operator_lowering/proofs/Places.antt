-- The registers of a site lie in x8 to x23.
use Rattle.std.proofs.Common.{ℕ, zero, suc, List, [], ◌∷◌}
use Rattle.std.specs.Prelude.{All, slice_index_or}
use Rattle.std.proofs.lemmas.List.Elements.{All-head, All-tail}
use Rattle.operator_meaning.specs.declared.site.SiteKind.{SiteKind}
use Rattle.template_runs.specs.Renaming.{IsPlace}
use Rattle.operator_lowering.specs.declared.site_registers.Regs.{Regs}
use Rattle.operator_lowering.specs.Registers.{AreRegistersOf, places_of}
use Rattle.operator_lowering.specs.Template.{ArePlaces}

-- what holds of each element and of the default holds at each place
at_place : (P : ℕ → Type 0) (xs : List ℕ) (i d : ℕ) → All P xs → P d → P (slice_index_or xs i d)
at_place P [] i d all own = own
at_place P (x ∷ xs) zero d all own = All-head P x xs all
at_place P (x ∷ xs) (suc i) d all own = at_place P xs i d (All-tail P x xs all) own

pub places_are : (k : SiteKind) (regs : Regs) → AreRegistersOf k regs → ArePlaces (places_of regs)
places_are k regs are = record {
  result = are.result;
  first = at_place IsPlace regs.operands.items 0 regs.dest are.operands are.result;
  second = at_place IsPlace regs.operands.items 1 regs.dest are.operands are.result;
  third = at_place IsPlace regs.operands.items 2 regs.dest are.operands are.result;
}
