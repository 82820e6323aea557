-- The course of each site.
use Rattle.std.proofs.Common.{◌≡◌, sym, subst}
use Rattle.operator_meaning.specs.declared.operator.Op.{Op}
use Rattle.operator_meaning.specs.declared.operator.Op.TheVariants as op
use Rattle.operator_meaning.specs.declared.site.SiteKind.{SiteKind}
use Rattle.operator_meaning.specs.declared.site.SiteKind.TheVariants as kind
use Rattle.operator_meaning.specs.declared.site.Form.{Form}
use Rattle.operator_meaning.specs.declared.site.Form.TheVariants.{Plain}
use Rattle.operator_meaning.specs.declared.site.Guard.{Guard}
use Rattle.operator_meaning.specs.declared.site.Guard.TheVariants.{Kept, Gone}
use Rattle.operator_lowering.specs.Courses.{IsCourse}
use Rattle.operator_lowering.specs.Laws.{SitesAreCourses}
use Rattle.operator_lowering.proofs.AccumulationCourses.{round, l_mac, l_msu, mac_r, msu_r}
use Rattle.operator_lowering.proofs.HalfCourses.{abs_s, extract_h, extract_l, negate, l_negate, l_abs, l_deposit_h, l_deposit_l}
use Rattle.operator_lowering.proofs.NormCourses.{norm_s, norm_l}
use Rattle.operator_lowering.proofs.ProductCourses.{mult, l_mult, mult_r}
use Rattle.operator_lowering.proofs.ShiftCourses.{shl, shr, l_shl, l_shr, shr_r, l_shr_r}
use Rattle.operator_lowering.proofs.SumCourses.{add, sub, l_add, l_sub}
use Rattle.operator_lowering.proofs.CheckCourses.{sum_kept, sum_gone, difference_kept, difference_gone, opposite_kept, opposite_gone}
use Rattle.operator_lowering.proofs.GuardCourses.{product_kept, product_gone, bound_kept, bound_gone, view_kept, view_gone, edge_kept, edge_gone, sample_kept, sample_gone}
use Rattle.operator_lowering.proofs.QuotientCourses.{div_s_kept, div_s_gone}

pub operator_course : (o : Op) (form : Form) (guard : Guard) → IsCourse (kind.Call o) form guard
operator_course op.Add form guard = add form guard
operator_course op.Sub form guard = sub form guard
operator_course op.AbsS form guard = abs_s form guard
operator_course op.Shl form guard = shl form guard
operator_course op.Shr form guard = shr form guard
operator_course op.ExtractH form guard = extract_h form guard
operator_course op.ExtractL form guard = extract_l form guard
operator_course op.Mult form guard = mult form guard
operator_course op.LMult form guard = l_mult form guard
operator_course op.Negate form guard = negate form guard
operator_course op.Round form guard = round form guard
operator_course op.LMac form guard = l_mac form guard
operator_course op.LMsu form guard = l_msu form guard
operator_course op.MacR form guard = mac_r form guard
operator_course op.MsuR form guard = msu_r form guard
operator_course op.LAdd form guard = l_add form guard
operator_course op.LSub form guard = l_sub form guard
operator_course op.LNegate form guard = l_negate form guard
operator_course op.MultR form guard = mult_r form guard
operator_course op.LShl form guard = l_shl form guard
operator_course op.LShr form guard = l_shr form guard
operator_course op.ShrR form guard = shr_r form guard
operator_course op.LShrR form guard = l_shr_r form guard
operator_course op.LAbs form guard = l_abs form guard
operator_course op.LDepositH form guard = l_deposit_h form guard
operator_course op.LDepositL form guard = l_deposit_l form guard
operator_course op.NormS form guard = norm_s form guard
operator_course op.NormL form guard = norm_l form guard
operator_course op.DivS form Kept = div_s_kept form
operator_course op.DivS form Gone = div_s_gone form

-- what holds in form Plain holds in this form
plainly : (k : SiteKind) (form : Form) (guard : Guard) → form ≡ Plain → IsCourse k Plain guard → IsCourse k form guard
plainly k form guard is course = subst (λ f. IsCourse k f guard) (sym is) course

pub all_courses : SitesAreCourses
all_courses (kind.Call o) form guard allowed = operator_course o form guard
all_courses kind.Sum form Kept allowed = plainly kind.Sum form Kept allowed sum_kept
all_courses kind.Sum form Gone allowed = plainly kind.Sum form Gone allowed sum_gone
all_courses kind.Difference form Kept allowed = plainly kind.Difference form Kept allowed difference_kept
all_courses kind.Difference form Gone allowed = plainly kind.Difference form Gone allowed difference_gone
all_courses kind.Product form Kept allowed = plainly kind.Product form Kept allowed product_kept
all_courses kind.Product form Gone allowed = plainly kind.Product form Gone allowed product_gone
all_courses kind.Opposite form Kept allowed = plainly kind.Opposite form Kept allowed opposite_kept
all_courses kind.Opposite form Gone allowed = plainly kind.Opposite form Gone allowed opposite_gone
all_courses kind.ViewBound form Kept allowed = plainly kind.ViewBound form Kept allowed view_kept
all_courses kind.ViewBound form Gone allowed = plainly kind.ViewBound form Gone allowed view_gone
all_courses kind.ViewEdge form Kept allowed = plainly kind.ViewEdge form Kept allowed edge_kept
all_courses kind.ViewEdge form Gone allowed = plainly kind.ViewEdge form Gone allowed edge_gone
all_courses kind.Sample form Kept allowed = plainly kind.Sample form Kept allowed sample_kept
all_courses kind.Sample form Gone allowed = plainly kind.Sample form Gone allowed sample_gone
all_courses (kind.Bound bound) form Kept allowed = plainly (kind.Bound bound) form Kept allowed (bound_kept bound)
all_courses (kind.Bound bound) form Gone allowed = plainly (kind.Bound bound) form Gone allowed (bound_gone bound)
