-- The words of a site, by its kind, its form and its guard, over the registers of its operands and its result:
-- those that are compiled so far.
use Rattle.std.specs.Prelude.{ℕ, pos, negsuc, List, [], ◌∷◌}
use Rattle.rv_encode.specs.declared.instruction.Instr.{Instr}
use Rattle.rv_encode.specs.declared.instruction.Instr.TheVariants.{Lui, Addi, Blt, Bge, Jal}
use Rattle.rv_encode.specs.declared.instruction.Instr.TheVariants as instr
use Rattle.operator_meaning.specs.declared.operator.Op.{Op}
use Rattle.operator_meaning.specs.declared.operator.Op.TheVariants.{Add, Sub}
use Rattle.operator_meaning.specs.declared.site.SiteKind.{SiteKind}
use Rattle.operator_meaning.specs.declared.site.SiteKind.TheVariants.{Call}
use Rattle.sat_compile.specs.Source.{Treatment}

-- the registers of a result and of up to three operands; 0 where there is none
pub record Registers : Type 0 where
  pub result : ℕ
  pub first : ℕ
  pub second : ℕ
  pub third : ℕ

-- a register is clipped to 16 bits, and x27 becomes 1 where the clip changed it
abbrev pub clip_words : ℕ → List Instr
clip_words rd =
    -- above 32767
    Lui 5 8 ∷ Blt rd 5 (pos 16) ∷ Addi rd 5 (negsuc 0) ∷ Addi 27 0 (pos 1) ∷ Jal 0 (pos 20) ∷
    -- below -32768
    Lui 6 0xFFFF8 ∷ Bge rd 6 (pos 12) ∷ Addi rd 6 (pos 0) ∷ Addi 27 0 (pos 1) ∷ []

-- of an operator that clips and updates Overflow
abbrev pub flag_words : Op → Registers → List Instr
flag_words Add at = instr.Add at.result at.first at.second ∷ clip_words at.result
flag_words Sub at = instr.Sub at.result at.first at.second ∷ clip_words at.result
flag_words op at = []

abbrev pub template : SiteKind → Treatment → Registers → List Instr
template (Call op) treatment at = flag_words op at
template kind treatment at = []
