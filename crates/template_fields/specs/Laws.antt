-- What holds of the words of every site.
use Rattle.std.specs.Prelude.{◌≡◌, ◌≢◌, ℕ, ◌≤◌, [], All, filter, length}
use Rattle.operator_meaning.specs.declared.site.SiteKind.{SiteKind}
use Rattle.operator_meaning.specs.declared.site.Form.{Form}
use Rattle.operator_meaning.specs.declared.site.Form.TheVariants.{Flag}
use Rattle.operator_meaning.specs.declared.site.Guard.{Guard}
use Rattle.operator_meaning.specs.declared.site.Guard.TheVariants.{Kept, Gone}
use Rattle.ir_arena.specs.FullForms.{full_guard}
use Rattle.rv_encode.specs.Words.{Fits}
use Rattle.template_runs.specs.declared.registers.Registers.{Registers}
use Rattle.operator_lowering.specs.Template.{ArePlaces}
use Rattle.operator_lowering.specs.Words.{template_words}
use Rattle.template_fields.specs.Writes.{is_overflow_write}

-- each field is in the range of its format, whatever the numbers of sites and the bounds
abbrev pub TemplatesFit : Type 0
TemplatesFit = (k : SiteKind) (form : Form) (guard : Guard) (site : ℕ) (regs : Registers) → ArePlaces regs → All Fits (template_words k form guard site regs)

abbrev pub TemplatesAreShort : Type 0
TemplatesAreShort = (k : SiteKind) (form : Form) (guard : Guard) (site : ℕ) (regs : Registers) → length (template_words k form guard site regs) ≤ 96

-- no word writes Overflow but in form Flag
abbrev pub OnlyFlagsWriteOverflow : Type 0
OnlyFlagsWriteOverflow = (k : SiteKind) (form : Form) (guard : Guard) (site : ℕ) (regs : Registers) → ArePlaces regs → form ≢ Flag
    → filter is_overflow_write (template_words k form guard site regs) ≡ []

-- an operator that cannot stop has the same words with its guard and without
abbrev pub GuardsThatCannotStop : Type 0
GuardsThatCannotStop = (k : SiteKind) (form : Form) (site : ℕ) (regs : Registers) → full_guard k ≡ Gone
    → template_words k form Kept site regs ≡ template_words k form Gone site regs
