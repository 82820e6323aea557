-- The registers of a site, by the places of a template.
use Rattle.std.specs.Prelude.{◌≡◌, All, length, slice_index_or}
use Rattle.operator_meaning.specs.declared.site.SiteKind.{SiteKind}
use Rattle.template_runs.specs.declared.registers.Registers.{Registers}
use Rattle.template_runs.specs.Renaming.{IsPlace}
use Rattle.operator_lowering.specs.declared.site_registers.Regs.{Regs}
use Rattle.operator_lowering.specs.Sites.{operand_count}

-- a place that the site does not have names the register of the result
abbrev pub places_of : Regs → Registers
places_of regs = record {
  result = regs.dest;
  first = slice_index_or regs.operands.items 0 regs.dest;
  second = slice_index_or regs.operands.items 1 regs.dest;
  third = slice_index_or regs.operands.items 2 regs.dest;
}

-- as many registers as the kind of a site has operands, all among x8 to x23
pub record AreRegistersOf (k : SiteKind) (regs : Regs) : Type 0 where
  pub count : length regs.operands.items ≡ operand_count k
  pub result : IsPlace regs.dest
  pub operands : All IsPlace regs.operands.items
