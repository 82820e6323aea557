-- The forms in which nothing is removed.
use Rattle.std.specs.Prelude.{List, map, None}
use Rattle.operator_meaning.specs.declared.object.Site.{Site}
use Rattle.operator_meaning.specs.declared.operator.Op.TheVariants.{DivS}
use Rattle.operator_meaning.specs.declared.site.Form.{Form}
use Rattle.operator_meaning.specs.declared.site.Form.TheVariants.{Plain, Flag}
use Rattle.operator_meaning.specs.declared.site.Guard.{Guard}
use Rattle.operator_meaning.specs.declared.site.Guard.TheVariants.{Kept, Gone}
use Rattle.operator_meaning.specs.declared.site.SiteKind.{SiteKind}
use Rattle.operator_meaning.specs.declared.site.SiteKind.TheVariants.{Call}
use Rattle.ir_arena.specs.declared.forms.Reason.TheVariants.{Nothing}
use Rattle.ir_arena.specs.declared.forms.SiteForm.{SiteForm}

-- operators clip and set Overflow
abbrev pub full_form : SiteKind → Form
full_form (Call op) = Flag
full_form kind = Plain

-- of the operators only `div_s` can stop; every other kind of site can
abbrev pub full_guard : SiteKind → Guard
full_guard (Call DivS) = Kept
full_guard (Call op) = Gone
full_guard kind = Kept

abbrev pub full : Site → SiteForm
full site = record { kind = site.kind; pos = site.pos; form = full_form site.kind; guard = full_guard site.kind; reason = Nothing; reader = None }

abbrev pub full_forms : List Site → List SiteForm
full_forms sites = map full sites
