-- The words of each site.
use Rattle.std.specs.Prelude.{ℕ, ◌+◌, ◌/◌, ◌%◌, ◌^◌, pos, ◌-ℤ◌, Bool, true, false, ◌==◌, ◌&&◌, ◌||◌, not, min, nat_lt, if◌then◌else◌, List, [], ◌∷◌, ◌++◌}
use Rattle.operator_meaning.specs.declared.operator.Op.{Op}
use Rattle.operator_meaning.specs.declared.operator.Op.TheVariants as op
use Rattle.operator_meaning.specs.declared.site.SiteKind.{SiteKind}
use Rattle.operator_meaning.specs.declared.site.SiteKind.TheVariants as kind
use Rattle.operator_meaning.specs.declared.site.Form.{Form}
use Rattle.operator_meaning.specs.declared.site.Form.TheVariants.{Plain, Clamp, Flag}
use Rattle.operator_meaning.specs.declared.site.Guard.{Guard}
use Rattle.operator_meaning.specs.declared.site.Guard.TheVariants.{Kept, Gone}
use Rattle.rv_encode.specs.declared.instruction.Instr.{Instr}
use Rattle.rv_encode.specs.declared.instruction.Instr.TheVariants.{Lui, Addi, Add, Sub, Mul, Mulh, Srai, Beq, Bne, Blt, Bge, Bltu, Bgeu, Jal, Ecall}
use Rattle.template_runs.specs.declared.registers.Registers.{Registers}
use Rattle.template_runs.specs.Renaming.{all_over}
use Rattle.operator_lowering.specs.declared.way.Way.{Way}
use Rattle.operator_lowering.specs.declared.way.Way.TheVariants.{Straight, Moves, KeepsFirst, KeepsThird, KeepsBoth, Turns}
use Rattle.operator_lowering.specs.declared.tables.sums.TheConstants.{SUM, DIFFERENCE, L_ADD_CLAMP, L_ADD_FLAG, L_SUB_CLAMP, L_SUB_FLAG, L_ADD_IN_PLACE_CLAMP, L_ADD_IN_PLACE_FLAG, L_SUB_IN_PLACE_CLAMP, L_SUB_IN_PLACE_FLAG, ROUND_PLAIN, ROUND_CLAMP, ROUND_FLAG, ROUND_SUM_CLAMP, ROUND_SUM_FLAG}
use Rattle.operator_lowering.specs.declared.tables.clips.TheConstants.{CLIP_16_CLAMP, CLIP_16_FLAG, CLIP_FRACTION_CLAMP, CLIP_FRACTION_FLAG}
use Rattle.operator_lowering.specs.declared.tables.halves.TheConstants.{EXTRACT_H, EXTRACT_L, DEPOSIT_H, ABS_PLAIN, ABS_16, ABS_32, NEGATE_PLAIN, NEGATE_16, NEGATE_32}
use Rattle.operator_lowering.specs.declared.tables.products.TheConstants.{PRODUCT, MULT, MULT_R, L_MULT_PLAIN, L_MULT_CLAMP, L_MULT_FLAG, DIVIDE}
use Rattle.operator_lowering.specs.declared.tables.accumulations.TheConstants.{L_MAC_PLAIN, L_MAC_CLAMP, L_MAC_FLAG, L_MSU_PLAIN, L_MSU_CLAMP, L_MSU_FLAG, MAC_PLAIN, MAC_CLAMP, MAC_FLAG, MSU_PLAIN, MSU_CLAMP, MSU_FLAG}
use Rattle.operator_lowering.specs.declared.tables.plain_shifts.TheConstants.{SHL_PLAIN, SHR_PLAIN, SHR_R_PLAIN, L_SHR_R_PLAIN}
use Rattle.operator_lowering.specs.declared.tables.short_shifts.TheConstants.{SHL_CLAMP, SHL_FLAG, SHR_CLAMP, SHR_FLAG, SHR_R_CLAMP, SHR_R_FLAG}
use Rattle.operator_lowering.specs.declared.tables.long_shifts.TheConstants.{L_SHL_CLAMP, L_SHL_FLAG, L_SHR_CLAMP, L_SHR_FLAG, L_SHR_R_CLAMP, L_SHR_R_FLAG}
use Rattle.operator_lowering.specs.declared.tables.norms.TheConstants.{NORM_S, NORM_L}

-- one of three by the form
abbrev pub by_form : List Instr → List Instr → List Instr → Form → List Instr
by_form plain clamp flag Plain = plain
by_form plain clamp flag Clamp = clamp
by_form plain clamp flag Flag = flag

-- ---- operators, by whether the result has the register of the second operand

abbrev pub operator_words : Op → Form → (in_place : Bool) → List Instr
operator_words op.Add form in_place = SUM ++ by_form [] CLIP_16_CLAMP CLIP_16_FLAG form
operator_words op.Sub form in_place = DIFFERENCE ++ by_form [] CLIP_16_CLAMP CLIP_16_FLAG form
operator_words op.AbsS form in_place = by_form ABS_PLAIN ABS_16 ABS_16 form
operator_words op.Shl form in_place = by_form SHL_PLAIN SHL_CLAMP SHL_FLAG form
operator_words op.Shr form in_place = by_form SHR_PLAIN SHR_CLAMP SHR_FLAG form
operator_words op.ExtractH form in_place = EXTRACT_H
operator_words op.ExtractL form in_place = EXTRACT_L
operator_words op.Mult form in_place = MULT ++ by_form [] CLIP_FRACTION_CLAMP CLIP_FRACTION_FLAG form
operator_words op.LMult form in_place = by_form L_MULT_PLAIN L_MULT_CLAMP L_MULT_FLAG form
operator_words op.Negate form in_place = by_form NEGATE_PLAIN NEGATE_16 NEGATE_16 form
operator_words op.Round form in_place = by_form ROUND_PLAIN ROUND_CLAMP ROUND_FLAG form
operator_words op.LMac form in_place = by_form L_MAC_PLAIN L_MAC_CLAMP L_MAC_FLAG form
operator_words op.LMsu form in_place = by_form L_MSU_PLAIN L_MSU_CLAMP L_MSU_FLAG form
operator_words op.MacR form in_place = by_form MAC_PLAIN MAC_CLAMP MAC_FLAG form ++ by_form [] ROUND_SUM_CLAMP ROUND_SUM_FLAG form
operator_words op.MsuR form in_place = by_form MSU_PLAIN MSU_CLAMP MSU_FLAG form ++ by_form [] ROUND_SUM_CLAMP ROUND_SUM_FLAG form
operator_words op.LAdd form in_place = by_form SUM (if in_place then L_ADD_IN_PLACE_CLAMP else L_ADD_CLAMP) (if in_place then L_ADD_IN_PLACE_FLAG else L_ADD_FLAG) form
operator_words op.LSub form in_place = by_form DIFFERENCE (if in_place then L_SUB_IN_PLACE_CLAMP else L_SUB_CLAMP) (if in_place then L_SUB_IN_PLACE_FLAG else L_SUB_FLAG) form
operator_words op.LNegate form in_place = by_form NEGATE_PLAIN NEGATE_32 NEGATE_32 form
operator_words op.MultR form in_place = MULT_R ++ by_form [] CLIP_FRACTION_CLAMP CLIP_FRACTION_FLAG form
operator_words op.LShl form in_place = by_form SHL_PLAIN L_SHL_CLAMP L_SHL_FLAG form
operator_words op.LShr form in_place = by_form SHR_PLAIN L_SHR_CLAMP L_SHR_FLAG form
operator_words op.ShrR form in_place = by_form SHR_R_PLAIN SHR_R_CLAMP SHR_R_FLAG form
operator_words op.LShrR form in_place = by_form L_SHR_R_PLAIN L_SHR_R_CLAMP L_SHR_R_FLAG form
operator_words op.LAbs form in_place = by_form ABS_PLAIN ABS_32 ABS_32 form
operator_words op.LDepositH form in_place = DEPOSIT_H
operator_words op.LDepositL form in_place = []
operator_words op.NormS form in_place = NORM_S
operator_words op.NormL form in_place = NORM_L
operator_words op.DivS form in_place = DIVIDE

-- ---- checks

-- one word makes a number
abbrev pub is_small : ℕ → Bool
is_small number = nat_lt number 2048

-- a register becomes a number of 32 bits
abbrev pub constant_words : (small : Bool) → (rd number : ℕ) → List Instr
constant_words true rd number = Addi rd 0 (pos number) ∷ []
constant_words false rd number =
    Lui rd ((number + 2048) / 4096 % 2 ^ 20) ∷ Addi rd rd (pos ((number + 2048) % 4096) -ℤ pos 2048) ∷ []

-- the machine stops at the site of a number
abbrev pub stop_words : (small : Bool) → (site : ℕ) → List Instr
stop_words small site = constant_words small 10 site ++ Addi 17 0 (pos 5) ∷ Ecall ∷ []

-- the bytes of a stop
abbrev pub stop_size : (small : Bool) → ℕ
stop_size small = if small then 12 else 16

-- The words before a stop, over its size. Where nothing stops they jump over it, and where the site stops to it.
abbrev pub sum_check : (in_place : Bool) → (size : ℕ) → List Instr
sum_check true size =
    Blt 12 0 (pos 16) ∷ Add 8 11 12 ∷ Bge 8 11 (pos (size + 16)) ∷ Jal 0 (pos 12) ∷ Add 8 11 12 ∷ Blt 8 11 (pos (size + 4)) ∷ []
sum_check false size =
    Add 8 11 12 ∷ Blt 12 0 (pos 12) ∷ Bge 8 11 (pos (size + 12)) ∷ Jal 0 (pos 8) ∷ Blt 8 11 (pos (size + 4)) ∷ []

abbrev pub difference_check : (in_place : Bool) → (size : ℕ) → List Instr
difference_check true size =
    Blt 12 0 (pos 16) ∷ Sub 8 11 12 ∷ Bge 11 8 (pos (size + 16)) ∷ Jal 0 (pos 12) ∷ Sub 8 11 12 ∷ Blt 11 8 (pos (size + 4)) ∷ []
difference_check false size =
    Sub 8 11 12 ∷ Blt 12 0 (pos 12) ∷ Bge 11 8 (pos (size + 12)) ∷ Jal 0 (pos 8) ∷ Blt 11 8 (pos (size + 4)) ∷ []

abbrev pub product_check : (size : ℕ) → List Instr
product_check size = Mulh 6 11 12 ∷ Mul 8 11 12 ∷ Srai 5 8 31 ∷ Beq 6 5 (pos (size + 4)) ∷ []

abbrev pub opposite_check : (size : ℕ) → List Instr
opposite_check size = Lui 5 0x80000 ∷ Bne 11 5 (pos (size + 4)) ∷ []

-- The result has the index. From 2^31 on each number that is not negative is below the bound
abbrev pub bound_check : (small : Bool) → (bound size : ℕ) → List Instr
bound_check small bound size = constant_words small 5 bound ++ Bltu 8 5 (pos (size + 4)) ∷ []

abbrev pub quotient_check : (size : ℕ) → List Instr
quotient_check size = Bge 0 12 (pos 8) ∷ Bgeu 12 11 (pos (size + 4)) ∷ []

abbrev pub view_sum : List Instr
view_sum = Bge 12 0 (pos 8) ∷ Blt 11 0 (pos 16) ∷ Add 8 11 12 ∷ Blt 8 0 (pos 8) ∷ []

abbrev pub view_check : (size : ℕ) → List Instr
view_check size = view_sum ++ Blt 8 13 (pos (size + 4)) ∷ []

abbrev pub edge_check : (size : ℕ) → List Instr
edge_check size = view_sum ++ Bge 13 8 (pos (size + 4)) ∷ []

abbrev pub sample_check : (size : ℕ) → List Instr
sample_check size = Addi 17 0 (pos 1) ∷ Ecall ∷ Bne 10 0 (pos (size + 4)) ∷ []

-- the next sample
abbrev pub sample_words : List Instr
sample_words = Addi 17 0 (pos 2) ∷ Ecall ∷ Addi 8 10 (pos 0) ∷ []

-- a check with its stop
abbrev pub checked_by : (small : Bool) → (ℕ → List Instr) → (site : ℕ) → List Instr
checked_by small check site = check (stop_size small) ++ stop_words small site

abbrev pub checked : (ℕ → List Instr) → (site : ℕ) → List Instr
checked check site = checked_by (is_small site) check site

-- the least bound that is as good
abbrev pub bound_of : ℕ → ℕ
bound_of bound = min bound 0x80000000

-- ---- sites

abbrev pub site_words : SiteKind → Form → Guard → (in_place : Bool) → (site : ℕ) → List Instr
site_words (kind.Call op.DivS) form Kept in_place site = checked quotient_check site ++ DIVIDE
site_words (kind.Call op) form guard in_place site = operator_words op form in_place
site_words kind.Sum form Kept in_place site = checked (sum_check in_place) site
site_words kind.Sum form Gone in_place site = SUM
site_words kind.Difference form Kept in_place site = checked (difference_check in_place) site
site_words kind.Difference form Gone in_place site = DIFFERENCE
site_words kind.Product form Kept in_place site = checked product_check site
site_words kind.Product form Gone in_place site = PRODUCT
site_words kind.Opposite form Kept in_place site = checked opposite_check site ++ NEGATE_PLAIN
site_words kind.Opposite form Gone in_place site = NEGATE_PLAIN
site_words (kind.Bound bound) form Kept in_place site = checked (bound_check (is_small (bound_of bound)) (bound_of bound)) site
site_words (kind.Bound bound) form Gone in_place site = []
site_words kind.ViewBound form Kept in_place site = checked view_check site
site_words kind.ViewBound form Gone in_place site = SUM
site_words kind.ViewEdge form Kept in_place site = checked edge_check site
site_words kind.ViewEdge form Gone in_place site = SUM
site_words kind.Sample form Kept in_place site = checked sample_check site ++ sample_words
site_words kind.Sample form Gone in_place site = sample_words

-- ---- registers that meet

abbrev pub by_clip : Way → Form → Way
by_clip way Plain = Straight
by_clip way form = way

abbrev pub operator_way : Op → Form → Way
operator_way op.AbsS form = by_clip Moves form
operator_way op.LAbs form = by_clip Moves form
operator_way op.LDepositL form = Moves
operator_way op.LMac form = by_clip KeepsFirst form
operator_way op.LMsu form = by_clip KeepsFirst form
operator_way op.LSub form = by_clip KeepsFirst form
operator_way op.LAdd form = by_clip Turns form
operator_way op.LShl form = by_clip KeepsBoth form
operator_way op form = Straight

abbrev pub way_of : SiteKind → Form → Guard → Way
way_of (kind.Call op) form guard = operator_way op form
way_of kind.Sum form Kept = Turns
way_of kind.Difference form Kept = KeepsFirst
way_of (kind.Bound bound) form guard = Moves
way_of kind.ViewBound form Kept = KeepsThird
way_of kind.ViewEdge form Kept = KeepsThird
way_of other form guard = Straight

-- a register is copied
abbrev pub copy : (rd rs : ℕ) → List Instr
copy rd rs = Addi rd rs (pos 0) ∷ []

abbrev pub keeps_first : Registers → Bool
keeps_first regs = regs.result == regs.first

-- the second operand takes the part of the first
abbrev pub turns : Registers → Bool
turns regs = (regs.result == regs.first) && not (regs.result == regs.second)

-- the register of an operand, or x28 where it is that of the result
abbrev pub kept_at : (result number : ℕ) → ℕ
kept_at result number = if result == number then 28 else number

abbrev pub front : Way → Registers → List Instr
front Straight regs = []
front Moves regs = if regs.result == regs.first then [] else copy regs.result regs.first
front KeepsFirst regs = if keeps_first regs then copy 28 regs.first else []
front KeepsThird regs = if regs.result == regs.third then copy 28 regs.third else []
front KeepsBoth regs = if (regs.result == regs.first) || (regs.result == regs.second) then copy 28 regs.result else []
front Turns regs = if turns regs then [] else (if keeps_first regs then copy 28 regs.first else [])

-- the registers of the words after that
abbrev pub places : Way → Registers → Registers
places Straight regs = regs
places Moves regs = record regs { first = regs.result }
places KeepsFirst regs = if keeps_first regs then record regs { first = 28 } else regs
places KeepsThird regs = if regs.result == regs.third then record regs { third = 28 } else regs
places KeepsBoth regs = record regs { first = kept_at regs.result regs.first; second = kept_at regs.result regs.second }
places Turns regs =
    if turns regs then record regs { first = regs.second; second = regs.first } else
    (if keeps_first regs then record regs { first = 28 } else regs)

-- the result has the register of the second operand
abbrev pub is_in_place : Registers → Bool
is_in_place regs = regs.result == regs.second

-- the words of a site
abbrev pub template_words : SiteKind → Form → Guard → (site : ℕ) → Registers → List Instr
template_words k form guard site regs =
    let way = way_of k form guard in front way regs ++ all_over (places way regs) (site_words k form guard (is_in_place (places way regs)) site)
