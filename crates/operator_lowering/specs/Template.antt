-- What is promised of a template.
use Rattle.std.specs.Prelude.{◌≡◌, ◌≢◌, ℕ, ◌+◌, ◌≤◌, ℤ, Bool, true, false, List, Option, Some, None, All, FitsSigned, length}
use Rattle.std.specs.Int.{w16}
use Rattle.operator_meaning.specs.declared.operator.Op.TheVariants as op
use Rattle.operator_meaning.specs.declared.site.SiteKind.{SiteKind}
use Rattle.operator_meaning.specs.declared.site.SiteKind.TheVariants as kind
use Rattle.operator_meaning.specs.declared.site.Form.{Form}
use Rattle.operator_meaning.specs.declared.site.Form.TheVariants.{Plain}
use Rattle.operator_meaning.specs.declared.site.Guard.{Guard}
use Rattle.operator_meaning.specs.declared.site.Guard.TheVariants.{Gone}
use Rattle.rv_encode.specs.declared.instruction.Instr.{Instr}
use Rattle.rv_encode.specs.Comparing.{is_comparing}
use Rattle.rv_encode.specs.declared.register.TheConstants.{OVERFLOW}
use Rattle.rv_encode.specs.State.{MachineState, Moment, Running, Over, Stopped, register}
use Rattle.rv_encode.specs.Runs.{moment_after}
use Rattle.rv_encode.specs.Words.{Fits}
use Rattle.template_runs.specs.declared.registers.Registers.{Registers}
use Rattle.template_runs.specs.Machine.{IsBefore, Leaves, StandHere}
use Rattle.template_runs.specs.Renaming.{IsPlace}
use Rattle.template_runs.specs.Visits.{visited, Ascend}
use Rattle.operator_lowering.specs.Sites.{site_value, site_clips, site_raises, samples_after, AreSiteOperands, flag_after}

-- the registers of a site lie in x8 to x23
pub record ArePlaces (regs : Registers) : Type 0 where
  pub result : IsPlace regs.result
  pub first : IsPlace regs.first
  pub second : IsPlace regs.second
  pub third : IsPlace regs.third

-- only a sample makes calls where nothing stops
abbrev pub makes_calls : SiteKind → Bool
makes_calls kind.Sample = true
makes_calls other = false

-- What is asked of the operands of a site: they lie in their widths; in form Plain no clip changes a number; a guard that
-- is gone would not stop; and the samples that are left have 16 bits.
pub record AreAsked (k : SiteKind) (form : Form) (guard : Guard) (a b c : ℤ) (input : List ℤ) : Type 0 where
  pub fit : AreSiteOperands k a b c
  pub unclipped : form ≡ Plain → site_clips k a b c ≡ false
  pub goes_on : guard ≡ Gone → site_value k a b c input ≢ None
  pub samples : All (FitsSigned w16) input

-- Where a site has a value, the machine comes to the place after the last word, with the value, with Overflow by the
-- form, with the samples that the site leaves, and all else but the registers between. Where it has none, the machine
-- stops at the number of the site.
abbrev pub IsAfter : SiteKind → Form → (site : ℕ) → Registers → (end : ℕ) → MachineState → Moment → Option ℤ → Type 0
IsAfter k form site regs end s at (Some value) =
    (t : MachineState) × (at ≡ Running t)
    × Leaves regs.result (makes_calls k) end s t value (flag_after form (site_raises k (register s regs.first) (register s regs.second) (register s regs.third)) (register s OVERFLOW)) (samples_after k s.input)
IsAfter k form site regs end s at None = at ≡ Over (Stopped site) s.output

-- From the first of the words, within 4,096 instructions, the machine is after the site, by words that each stand behind
-- those before them.
abbrev pub DoesSite : SiteKind → Form → Guard → (site : ℕ) → Registers → List Instr → Type 0
DoesSite k form guard site regs words = (code : List ℕ) (place : ℕ) (s : MachineState)
    → StandHere code place words → IsBefore place s
    → AreAsked k form guard (register s regs.first) (register s regs.second) (register s regs.third) s.input
    → (n : ℕ) × (n ≤ 4096) × Ascend place (place + length words) (visited code n (Running s))
    × IsAfter k form site regs (place + length words) s (moment_after code n (Running s)) (site_value k (register s regs.first) (register s regs.second) (register s regs.third) s.input)

-- the kinds whose plain words may compare: the shifts and the norms
abbrev pub may_compare : SiteKind → Bool
may_compare (kind.Call op.Shl) = true
may_compare (kind.Call op.Shr) = true
may_compare (kind.Call op.LShl) = true
may_compare (kind.Call op.LShr) = true
may_compare (kind.Call op.ShrR) = true
may_compare (kind.Call op.LShrR) = true
may_compare (kind.Call op.NormS) = true
may_compare (kind.Call op.NormL) = true
may_compare other = false

-- The words are a template of a site. In form Plain with a guard that is gone none of them compares, but for the shifts
-- and the norms.
pub record TemplateHolds (k : SiteKind) (form : Form) (guard : Guard) (site : ℕ) (regs : Registers) (words : List Instr) : Type 0 where
  pub does : DoesSite k form guard site regs words
  pub fit : All Fits words
  pub short : length words ≤ 96
  pub plain : form ≡ Plain → guard ≡ Gone → may_compare k ≡ false → All (λ instr. is_comparing instr ≡ false) words
