-- Words of sites write Overflow in form Flag alone.
use Rattle.std.proofs.Common.{◌≡◌, ◌≢◌, ℕ, ◌==◌, Bool, true, false, if◌then◌else◌, List, [], ◌∷◌, ◌++◌, filter, refl, arith}
use Rattle.std.proofs.lemmas.Bool.{eqb-true}
use Rattle.std.proofs.lemmas.List.Elements.{filter-append}
use Rattle.operator_meaning.specs.declared.operator.Op.{Op}
use Rattle.operator_meaning.specs.declared.operator.Op.TheVariants as op
use Rattle.operator_meaning.specs.declared.site.SiteKind.{SiteKind}
use Rattle.operator_meaning.specs.declared.site.SiteKind.TheVariants as kind
use Rattle.operator_meaning.specs.declared.site.Form.{Form}
use Rattle.operator_meaning.specs.declared.site.Form.TheVariants.{Plain, Clamp, Flag}
use Rattle.operator_meaning.specs.declared.site.Guard.{Guard}
use Rattle.operator_meaning.specs.declared.site.Guard.TheVariants.{Kept, Gone}
use Rattle.rv_encode.specs.declared.instruction.Instr.{Instr}
use Rattle.rv_encode.specs.declared.instruction.Instr.TheVariants.{Lui, Jal, Addi, Sltiu, Ori, Andi, Slli, Srli, Srai, Add, Sll, Xor, Sub, Sra, Mul, Mulh, Div}
use Rattle.rv_encode.specs.declared.register.TheConstants.{OVERFLOW}
use Rattle.template_runs.specs.declared.registers.Registers.{Registers}
use Rattle.template_runs.specs.Renaming.{AreInRange, IsOperandPlace, IsPlace, all_over, over, renamed}
use Rattle.operator_lowering.specs.Words.{bound_check, bound_of, checked_by, difference_check, edge_check, front, is_in_place, is_small, operator_words, opposite_check, places, product_check, quotient_check, sample_check, sample_words, site_words, sum_check, view_check, way_of}
use Rattle.template_fields.specs.Laws.{OnlyFlagsWriteOverflow}
use Rattle.template_fields.specs.Writes.{is_overflow_write}
use Rattle.template_fields.proofs.Fronts.{either, front_is, places_in_range}

-- none of the words writes Overflow
abbrev AreStill : List Instr → Type 0
AreStill words = filter is_overflow_write words ≡ []

-- ---- words as a template is written

of_operator : (o : Op) (in_place : Bool) → AreStill (operator_words o Plain in_place) × AreStill (operator_words o Clamp in_place)
of_operator op.LAdd true = (refl, refl)
of_operator op.LAdd false = (refl, refl)
of_operator op.LSub true = (refl, refl)
of_operator op.LSub false = (refl, refl)
of_operator o in_place = (refl, refl)

operator_still : (o : Op) (form : Form) (in_place : Bool) → form ≢ Flag → AreStill (operator_words o form in_place)
operator_still o Plain in_place other = (of_operator o in_place).0
operator_still o Clamp in_place other = (of_operator o in_place).1
operator_still o Flag in_place other = absurd (other refl)

-- whatever is small
size_still : (words : (small : Bool) → List Instr) → AreStill (words true) → AreStill (words false) → (small : Bool) → AreStill (words small)
size_still words one other true = one
size_still words one other false = other

site_still : (k : SiteKind) (form : Form) (guard : Guard) (in_place : Bool) (site : ℕ) → form ≢ Flag → AreStill (site_words k form guard in_place site)
site_still (kind.Call op.DivS) form Kept in_place site other = size_still (λ small. checked_by small quotient_check site ++ operator_words op.DivS form in_place) refl refl (is_small site)
site_still (kind.Call o) form guard in_place site other = operator_still o form in_place other
site_still kind.Sum form Kept true site other = size_still (λ small. checked_by small (sum_check true) site) refl refl (is_small site)
site_still kind.Sum form Kept false site other = size_still (λ small. checked_by small (sum_check false) site) refl refl (is_small site)
site_still kind.Difference form Kept true site other = size_still (λ small. checked_by small (difference_check true) site) refl refl (is_small site)
site_still kind.Difference form Kept false site other = size_still (λ small. checked_by small (difference_check false) site) refl refl (is_small site)
site_still kind.Product form Kept in_place site other = size_still (λ small. checked_by small product_check site) refl refl (is_small site)
site_still kind.Opposite form Kept in_place site other = size_still (λ small. checked_by small opposite_check site ++ operator_words op.Negate Plain in_place) refl refl (is_small site)
site_still (kind.Bound bound) form Kept in_place site other =
    let n = bound_of bound in
    let checked = λ (few small : Bool). checked_by small (bound_check few n) site in
    size_still (λ few. checked few (is_small site)) (size_still (checked true) refl refl (is_small site)) (size_still (checked false) refl refl (is_small site)) (is_small n)
site_still kind.ViewBound form Kept in_place site other = size_still (λ small. checked_by small view_check site) refl refl (is_small site)
site_still kind.ViewEdge form Kept in_place site other = size_still (λ small. checked_by small edge_check site) refl refl (is_small site)
site_still kind.Sample form Kept in_place site other = size_still (λ small. checked_by small sample_check site ++ sample_words) refl refl (is_small site)
site_still k form Gone in_place site other = refl

-- ---- words over the registers of a site

-- a register that is not x27
abbrev IsKept : ℕ → Type 0
IsKept n = (n == OVERFLOW) ≡ false

place_kept : (n : ℕ) → IsPlace n → IsKept n
place_kept n place = let high = place.1 in grind (arith, eqb-true)

module _ (regs : Registers) (range : AreInRange regs) where
  operand_kept : (n : ℕ) → IsOperandPlace n → IsKept n
  operand_kept n place = grind (arith, eqb-true)

  renamed_kept : (n : ℕ) → IsKept n → IsKept (renamed regs n)
  renamed_kept n own =
      either IsKept (n == 8) (place_kept regs.result range.result) (either IsKept (n == 11) (operand_kept regs.first range.first)
      (either IsKept (n == 12) (operand_kept regs.second range.second) (either IsKept (n == 13) (operand_kept regs.third range.third) own)))

  word_kept : (instr : Instr) → is_overflow_write instr ≡ false → is_overflow_write (over regs instr) ≡ false
  word_kept (Lui rd imm) own = renamed_kept rd own
  word_kept (Jal rd imm) own = renamed_kept rd own
  word_kept (Addi rd rs1 imm) own = renamed_kept rd own
  word_kept (Sltiu rd rs1 imm) own = renamed_kept rd own
  word_kept (Ori rd rs1 imm) own = renamed_kept rd own
  word_kept (Andi rd rs1 imm) own = renamed_kept rd own
  word_kept (Slli rd rs1 imm) own = renamed_kept rd own
  word_kept (Srli rd rs1 imm) own = renamed_kept rd own
  word_kept (Srai rd rs1 imm) own = renamed_kept rd own
  word_kept (Add rd rs1 rs2) own = renamed_kept rd own
  word_kept (Sll rd rs1 rs2) own = renamed_kept rd own
  word_kept (Xor rd rs1 rs2) own = renamed_kept rd own
  word_kept (Sub rd rs1 rs2) own = renamed_kept rd own
  word_kept (Sra rd rs1 rs2) own = renamed_kept rd own
  word_kept (Mul rd rs1 rs2) own = renamed_kept rd own
  word_kept (Mulh rd rs1 rs2) own = renamed_kept rd own
  word_kept (Div rd rs1 rs2) own = renamed_kept rd own
  word_kept instr own = own

  all_kept : (words : List Instr) → AreStill words → AreStill (all_over regs words)
  all_kept [] still = refl
  all_kept (instr ∷ words) still =
      let parts = none_passes (is_overflow_write instr) instr (filter is_overflow_write words) still in rw (word_kept instr parts.0) (all_kept words parts.1)
    where
      none_passes : (passes : Bool) (instr : Instr) (others : List Instr) → (if passes then instr ∷ others else others) ≡ [] → (passes ≡ false) × (others ≡ [])
      none_passes true instr others none = absurd (let e = none in cc)
      none_passes false instr others none = (refl, none)

pub only_flags_write_overflow : OnlyFlagsWriteOverflow
only_flags_write_overflow k form guard site regs own other =
    let way = way_of k form guard in
    let words = site_words k form guard (is_in_place (places way regs)) site in
    let begun = front_is AreStill refl regs (rw (place_kept regs.result own.result) refl) refl refl refl way in
    let rest = all_kept (places way regs) (places_in_range regs own way) words (site_still k form guard (is_in_place (places way regs)) site other) in
    rw (filter-append is_overflow_write (front way regs) (all_over (places way regs) words), begun, rest) refl
