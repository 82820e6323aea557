-- What the course of each site is.
use Rattle.std.specs.Prelude.{◌≡◌, ℕ, ◌<◌, ◌^◌, ℤ, Bool, true, false, ◌==◌, ◌&&◌, ◌||◌, not, List}
use Rattle.operator_meaning.specs.declared.site.SiteKind.{SiteKind}
use Rattle.operator_meaning.specs.declared.site.Form.{Form}
use Rattle.operator_meaning.specs.declared.site.Guard.{Guard}
use Rattle.template_runs.specs.Courses.{Final, runs}
use Rattle.template_runs.specs.Machine.{begun}
use Rattle.operator_lowering.specs.Sites.{site_final}
use Rattle.operator_lowering.specs.Template.{AreAsked, makes_calls}
use Rattle.operator_lowering.specs.declared.way.Way.{Way}
use Rattle.operator_lowering.specs.declared.way.Way.TheVariants.{Moves, KeepsFirst, KeepsThird, KeepsBoth, Turns}
use Rattle.operator_lowering.specs.Words.{way_of, site_words}

-- the operands that are known to be apart from the result, by whether that has the register of the second one
abbrev pub apart_of : Way → (in_place : Bool) → ℕ → Bool
apart_of KeepsFirst in_place number = (number == 11) || ((number == 12) && not in_place)
apart_of Turns in_place number = (number == 11) || ((number == 12) && not in_place)
apart_of KeepsThird in_place number = number == 13
apart_of KeepsBoth in_place number = (number == 11) || (number == 12)
apart_of way in_place number = false

-- whether the result has the first operand
abbrev pub is_moved : Way → Bool
is_moved Moves = true
is_moved way = false

abbrev pub course : SiteKind → Form → Guard → (in_place : Bool) → (site : ℕ) → (a b c flag : ℤ) → List ℤ → Final
course k form guard in_place site a b c flag input =
    let way = way_of k form guard in runs (site_words k form guard in_place site) 0 (begun (apart_of way in_place) (makes_calls k) (is_moved way) a b c flag input)

-- the course of a site comes where the site leads
abbrev pub IsCourse : SiteKind → Form → Guard → Type 0
IsCourse k form guard = (in_place : Bool) (site : ℕ) (a b c flag : ℤ) (input : List ℤ) → site < 2 ^ 32 → AreAsked k form guard a b c input
    → course k form guard in_place site a b c flag input ≡ site_final k form site a b c flag input
