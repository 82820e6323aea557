-- Laws of the words of sites.
use Rattle.std.specs.Prelude.{◌≡◌, ℕ, ◌<◌, ◌^◌}
use Rattle.operator_meaning.specs.declared.site.SiteKind.{SiteKind}
use Rattle.operator_meaning.specs.declared.site.SiteKind.TheVariants as kind
use Rattle.operator_meaning.specs.declared.site.Form.{Form}
use Rattle.operator_meaning.specs.declared.site.Form.TheVariants.{Plain}
use Rattle.operator_meaning.specs.declared.site.Guard.{Guard}
use Rattle.template_runs.specs.declared.registers.Registers.{Registers}
use Rattle.operator_lowering.specs.Courses.{IsCourse}
use Rattle.operator_lowering.specs.Template.{ArePlaces, TemplateHolds}
use Rattle.operator_lowering.specs.Words.{template_words}

-- a kind that is no operator has form Plain
abbrev pub IsFormOf : SiteKind → Form → Type 0
IsFormOf (kind.Call op) form = Unit {0}
IsFormOf other form = form ≡ Plain

-- the course of each site, in each form, with its guard and without, comes where the site leads
abbrev pub SitesAreCourses : Type 0
SitesAreCourses = (k : SiteKind) (form : Form) (guard : Guard) → IsFormOf k form → IsCourse k form guard

-- the words of each site are a template of it, over any registers from x8 to x23
abbrev pub TemplatesHold : Type 0
TemplatesHold = (k : SiteKind) (form : Form) (guard : Guard) (site : ℕ) (regs : Registers) → IsFormOf k form → site < 2 ^ 32 → ArePlaces regs
    → TemplateHolds k form guard site regs (template_words k form guard site regs)
