-- What the way of each site asks, from its course.
use Rattle.std.proofs.Common.{◌≡◌, ℕ, ◌<◌, ◌^◌, ℤ, ◌+ℤ◌, Bool, List, refl, sym, ap, ◌∙◌, subst, arith}
use Rattle.std.specs.Prelude.{FitsSigned}
use Rattle.std.specs.Int.{w16, w32}
use Rattle.std.proofs.lemmas.Int.{ints}
use Rattle.sat_base.specs.Clip.{clip32}
use Rattle.operator_meaning.specs.Clipping.{changes32}
use Rattle.operator_meaning.specs.declared.operator.Op.{Op}
use Rattle.operator_meaning.specs.declared.operator.Op.TheVariants as op
use Rattle.operator_meaning.specs.declared.site.SiteKind.{SiteKind}
use Rattle.operator_meaning.specs.declared.site.SiteKind.TheVariants as kind
use Rattle.operator_meaning.specs.declared.site.Form.{Form}
use Rattle.operator_meaning.specs.declared.site.Form.TheVariants.{Plain, Clamp, Flag}
use Rattle.operator_meaning.specs.declared.site.Guard.{Guard}
use Rattle.operator_meaning.specs.declared.site.Guard.TheVariants.{Kept, Gone}
use Rattle.template_runs.specs.Courses.{Ends}
use Rattle.operator_lowering.specs.Laws.{IsFormOf}
use Rattle.operator_lowering.specs.Sites.{site_final, flag_after, of_32_bits, led_to}
use Rattle.operator_lowering.specs.Template.{AreAsked, makes_calls}
use Rattle.operator_lowering.specs.Words.{way_of, site_words}
use Rattle.operator_lowering.proofs.AllCourses.{all_courses, operator_course}
use Rattle.operator_lowering.proofs.Begins.{Needs, LeadsBy}

abbrev pub IsReady : SiteKind → Form → Guard → Type 0
IsReady k form guard = (in_place : Bool) (site : ℕ) (a b c flag : ℤ) (input : List ℤ) → site < 2 ^ 32 → AreAsked k form guard a b c input
    → Needs (way_of k form guard) a b c × LeadsBy (way_of k form guard) in_place (makes_calls k) (site_words k form guard in_place site) a b c flag input (site_final k form site a b c flag input)

long_of_short : (a : ℤ) → FitsSigned w16 a → FitsSigned w32 a
long_of_short a fits = grind (arith, ints)

turn : (a b : ℤ) → b +ℤ a ≡ a +ℤ b
turn a b = grind (arith, ints)

-- a sum of 32 bits is the same in both orders
turned_asked : (form : Form) (guard : Guard) (a b c : ℤ) (input : List ℤ) → AreAsked (kind.Call op.LAdd) form guard a b c input → AreAsked (kind.Call op.LAdd) form guard b a c input
turned_asked form guard a b c input asked = record {
  fit = (asked.fit.1.0, (asked.fit.0, tt));
  unclipped = λ e. ap changes32 (turn a b) ∙ asked.unclipped e;
  goes_on = λ e none. absurd (let f = none in cc);
  samples = asked.samples;
}

turned_sum_asked : (a b c : ℤ) (input : List ℤ) → AreAsked kind.Sum Plain Kept a b c input → AreAsked kind.Sum Plain Kept b a c input
turned_sum_asked a b c input asked = record {
  fit = (asked.fit.1.0, (asked.fit.0, tt));
  unclipped = asked.unclipped;
  goes_on = λ e. absurd (let f = e in cc);
  samples = asked.samples;
}

operator_ready : (o : Op) (form : Form) (guard : Guard) → IsReady (kind.Call o) form guard
operator_ready op.Add form guard in_place site a b c flag input small asked = (tt, operator_course op.Add form guard in_place site a b c flag input small asked)
operator_ready op.Sub form guard in_place site a b c flag input small asked = (tt, operator_course op.Sub form guard in_place site a b c flag input small asked)
operator_ready op.AbsS Plain guard in_place site a b c flag input small asked = (tt, operator_course op.AbsS Plain guard in_place site a b c flag input small asked)
operator_ready op.AbsS Clamp guard in_place site a b c flag input small asked =
    (long_of_short a asked.fit.0, λ b' c'. operator_course op.AbsS Clamp guard in_place site a b' c' flag input small (record { fit = asked.fit; unclipped = asked.unclipped; goes_on = asked.goes_on; samples = asked.samples }))
operator_ready op.AbsS Flag guard in_place site a b c flag input small asked =
    (long_of_short a asked.fit.0, λ b' c'. operator_course op.AbsS Flag guard in_place site a b' c' flag input small (record { fit = asked.fit; unclipped = asked.unclipped; goes_on = asked.goes_on; samples = asked.samples }))
operator_ready op.Shl form guard in_place site a b c flag input small asked = (tt, operator_course op.Shl form guard in_place site a b c flag input small asked)
operator_ready op.Shr form guard in_place site a b c flag input small asked = (tt, operator_course op.Shr form guard in_place site a b c flag input small asked)
operator_ready op.ExtractH form guard in_place site a b c flag input small asked = (tt, operator_course op.ExtractH form guard in_place site a b c flag input small asked)
operator_ready op.ExtractL form guard in_place site a b c flag input small asked = (tt, operator_course op.ExtractL form guard in_place site a b c flag input small asked)
operator_ready op.Mult form guard in_place site a b c flag input small asked = (tt, operator_course op.Mult form guard in_place site a b c flag input small asked)
operator_ready op.LMult form guard in_place site a b c flag input small asked = (tt, operator_course op.LMult form guard in_place site a b c flag input small asked)
operator_ready op.Negate form guard in_place site a b c flag input small asked = (tt, operator_course op.Negate form guard in_place site a b c flag input small asked)
operator_ready op.Round form guard in_place site a b c flag input small asked = (tt, operator_course op.Round form guard in_place site a b c flag input small asked)
operator_ready op.LMac Plain guard in_place site a b c flag input small asked = (tt, operator_course op.LMac Plain guard in_place site a b c flag input small asked)
operator_ready op.LMac Clamp guard in_place site a b c flag input small asked = (asked.fit.0, operator_course op.LMac Clamp guard in_place site a b c flag input small asked)
operator_ready op.LMac Flag guard in_place site a b c flag input small asked = (asked.fit.0, operator_course op.LMac Flag guard in_place site a b c flag input small asked)
operator_ready op.LMsu Plain guard in_place site a b c flag input small asked = (tt, operator_course op.LMsu Plain guard in_place site a b c flag input small asked)
operator_ready op.LMsu Clamp guard in_place site a b c flag input small asked = (asked.fit.0, operator_course op.LMsu Clamp guard in_place site a b c flag input small asked)
operator_ready op.LMsu Flag guard in_place site a b c flag input small asked = (asked.fit.0, operator_course op.LMsu Flag guard in_place site a b c flag input small asked)
operator_ready op.MacR form guard in_place site a b c flag input small asked = (tt, operator_course op.MacR form guard in_place site a b c flag input small asked)
operator_ready op.MsuR form guard in_place site a b c flag input small asked = (tt, operator_course op.MsuR form guard in_place site a b c flag input small asked)
operator_ready op.LAdd Plain guard in_place site a b c flag input small asked = (tt, operator_course op.LAdd Plain guard in_place site a b c flag input small asked)
operator_ready op.LAdd Clamp guard in_place site a b c flag input small asked = (
  asked.fit.0,
  (
    operator_course op.LAdd Clamp guard in_place site a b c flag input small asked,
    operator_course op.LAdd Clamp guard in_place site b a c flag input small (turned_asked Clamp guard a b c input asked)
        ∙ ap (λ t. Ends (clip32 t) (flag_after Clamp (changes32 t) flag) input) (turn a b),
  ),
)
operator_ready op.LAdd Flag guard in_place site a b c flag input small asked = (
  asked.fit.0,
  (
    operator_course op.LAdd Flag guard in_place site a b c flag input small asked,
    operator_course op.LAdd Flag guard in_place site b a c flag input small (turned_asked Flag guard a b c input asked)
        ∙ ap (λ t. Ends (clip32 t) (flag_after Flag (changes32 t) flag) input) (turn a b),
  ),
)
operator_ready op.LSub Plain guard in_place site a b c flag input small asked = (tt, operator_course op.LSub Plain guard in_place site a b c flag input small asked)
operator_ready op.LSub Clamp guard in_place site a b c flag input small asked = (asked.fit.0, operator_course op.LSub Clamp guard in_place site a b c flag input small asked)
operator_ready op.LSub Flag guard in_place site a b c flag input small asked = (asked.fit.0, operator_course op.LSub Flag guard in_place site a b c flag input small asked)
operator_ready op.LNegate form guard in_place site a b c flag input small asked = (tt, operator_course op.LNegate form guard in_place site a b c flag input small asked)
operator_ready op.MultR form guard in_place site a b c flag input small asked = (tt, operator_course op.MultR form guard in_place site a b c flag input small asked)
operator_ready op.LShl Plain guard in_place site a b c flag input small asked = (tt, operator_course op.LShl Plain guard in_place site a b c flag input small asked)
operator_ready op.LShl Clamp guard in_place site a b c flag input small asked = ((asked.fit.0, long_of_short b asked.fit.1.0), operator_course op.LShl Clamp guard in_place site a b c flag input small asked)
operator_ready op.LShl Flag guard in_place site a b c flag input small asked = ((asked.fit.0, long_of_short b asked.fit.1.0), operator_course op.LShl Flag guard in_place site a b c flag input small asked)
operator_ready op.LShr form guard in_place site a b c flag input small asked = (tt, operator_course op.LShr form guard in_place site a b c flag input small asked)
operator_ready op.ShrR form guard in_place site a b c flag input small asked = (tt, operator_course op.ShrR form guard in_place site a b c flag input small asked)
operator_ready op.LShrR form guard in_place site a b c flag input small asked = (tt, operator_course op.LShrR form guard in_place site a b c flag input small asked)
operator_ready op.LAbs Plain guard in_place site a b c flag input small asked = (tt, operator_course op.LAbs Plain guard in_place site a b c flag input small asked)
operator_ready op.LAbs Clamp guard in_place site a b c flag input small asked =
    (asked.fit.0, λ b' c'. operator_course op.LAbs Clamp guard in_place site a b' c' flag input small (record { fit = asked.fit; unclipped = asked.unclipped; goes_on = asked.goes_on; samples = asked.samples }))
operator_ready op.LAbs Flag guard in_place site a b c flag input small asked =
    (asked.fit.0, λ b' c'. operator_course op.LAbs Flag guard in_place site a b' c' flag input small (record { fit = asked.fit; unclipped = asked.unclipped; goes_on = asked.goes_on; samples = asked.samples }))
operator_ready op.LDepositH form guard in_place site a b c flag input small asked = (tt, operator_course op.LDepositH form guard in_place site a b c flag input small asked)
operator_ready op.LDepositL form guard in_place site a b c flag input small asked =
    (long_of_short a asked.fit.0, λ b' c'. operator_course op.LDepositL form guard in_place site a b' c' flag input small (record { fit = asked.fit; unclipped = asked.unclipped; goes_on = asked.goes_on; samples = asked.samples }))
operator_ready op.NormS form guard in_place site a b c flag input small asked = (tt, operator_course op.NormS form guard in_place site a b c flag input small asked)
operator_ready op.NormL form guard in_place site a b c flag input small asked = (tt, operator_course op.NormL form guard in_place site a b c flag input small asked)
operator_ready op.DivS form Kept in_place site a b c flag input small asked = (tt, operator_course op.DivS form Kept in_place site a b c flag input small asked)
operator_ready op.DivS form Gone in_place site a b c flag input small asked = (tt, operator_course op.DivS form Gone in_place site a b c flag input small asked)

-- what holds in form Plain holds in this form
plainly : (k : SiteKind) (form : Form) (guard : Guard) → form ≡ Plain → IsReady k Plain guard → IsReady k form guard
plainly k form guard is so = subst (λ f. IsReady k f guard) (sym is) so

sum_ready : IsReady kind.Sum Plain Kept
sum_ready in_place site a b c flag input small asked = (
  asked.fit.0,
  (
    all_courses kind.Sum Plain Kept refl in_place site a b c flag input small asked,
    all_courses kind.Sum Plain Kept refl in_place site b a c flag input small (turned_sum_asked a b c input asked) ∙ ap (λ t. led_to (of_32_bits t) site flag input) (turn a b),
  ),
)

pub ready : (k : SiteKind) (form : Form) (guard : Guard) → IsFormOf k form → IsReady k form guard
ready (kind.Call o) form guard allowed = operator_ready o form guard
ready kind.Sum form Kept allowed = plainly kind.Sum form Kept allowed sum_ready
ready kind.Sum form Gone allowed =
    plainly kind.Sum form Gone allowed (λ in_place site a b c flag input small asked. (tt, all_courses kind.Sum Plain Gone refl in_place site a b c flag input small asked))
ready kind.Difference form Kept allowed =
    plainly kind.Difference form Kept allowed (λ in_place site a b c flag input small asked. (asked.fit.0, all_courses kind.Difference Plain Kept refl in_place site a b c flag input small asked))
ready kind.Difference form Gone allowed =
    plainly kind.Difference form Gone allowed (λ in_place site a b c flag input small asked. (tt, all_courses kind.Difference Plain Gone refl in_place site a b c flag input small asked))
ready kind.Product form Kept allowed =
    plainly kind.Product form Kept allowed (λ in_place site a b c flag input small asked. (tt, all_courses kind.Product Plain Kept refl in_place site a b c flag input small asked))
ready kind.Product form Gone allowed =
    plainly kind.Product form Gone allowed (λ in_place site a b c flag input small asked. (tt, all_courses kind.Product Plain Gone refl in_place site a b c flag input small asked))
ready kind.Opposite form Kept allowed =
    plainly kind.Opposite form Kept allowed (λ in_place site a b c flag input small asked. (tt, all_courses kind.Opposite Plain Kept refl in_place site a b c flag input small asked))
ready kind.Opposite form Gone allowed =
    plainly kind.Opposite form Gone allowed (λ in_place site a b c flag input small asked. (tt, all_courses kind.Opposite Plain Gone refl in_place site a b c flag input small asked))
ready kind.ViewBound form Kept allowed =
    plainly kind.ViewBound form Kept allowed (λ in_place site a b c flag input small asked. (asked.fit.1.1.0, all_courses kind.ViewBound Plain Kept refl in_place site a b c flag input small asked))
ready kind.ViewBound form Gone allowed =
    plainly kind.ViewBound form Gone allowed (λ in_place site a b c flag input small asked. (tt, all_courses kind.ViewBound Plain Gone refl in_place site a b c flag input small asked))
ready kind.ViewEdge form Kept allowed =
    plainly kind.ViewEdge form Kept allowed (λ in_place site a b c flag input small asked. (asked.fit.1.1.0, all_courses kind.ViewEdge Plain Kept refl in_place site a b c flag input small asked))
ready kind.ViewEdge form Gone allowed =
    plainly kind.ViewEdge form Gone allowed (λ in_place site a b c flag input small asked. (tt, all_courses kind.ViewEdge Plain Gone refl in_place site a b c flag input small asked))
ready kind.Sample form Kept allowed =
    plainly kind.Sample form Kept allowed (λ in_place site a b c flag input small asked. (tt, all_courses kind.Sample Plain Kept refl in_place site a b c flag input small asked))
ready kind.Sample form Gone allowed =
    plainly kind.Sample form Gone allowed (λ in_place site a b c flag input small asked. (tt, all_courses kind.Sample Plain Gone refl in_place site a b c flag input small asked))
ready (kind.Bound bound) form Kept allowed =
    plainly (kind.Bound bound) form Kept allowed (λ in_place site a b c flag input small asked. (
      asked.fit.0,
      λ b' c'. all_courses (kind.Bound bound) Plain Kept refl in_place site a b' c' flag input small (record { fit = asked.fit; unclipped = asked.unclipped; goes_on = asked.goes_on; samples = asked.samples }),
    ))
ready (kind.Bound bound) form Gone allowed =
    plainly (kind.Bound bound) form Gone allowed (λ in_place site a b c flag input small asked. (
      asked.fit.0,
      λ b' c'. all_courses (kind.Bound bound) Plain Gone refl in_place site a b' c' flag input small (record { fit = asked.fit; unclipped = asked.unclipped; goes_on = asked.goes_on; samples = asked.samples }),
    ))
