-- The courses of quotients.
use Rattle.std.proofs.Common.{◌≡◌, ℕ, ◌<◌, ◌^◌, ℤ, pos, Bool, false, List, ◌++◌, Option, Some, None, refl, sym, subst}
use Rattle.std.specs.Prelude.{FitsSigned}
use Rattle.std.specs.Int.{w16}
use Rattle.operator_meaning.specs.Value.{quotient}
use Rattle.operator_meaning.specs.declared.operator.Op.TheVariants as op
use Rattle.operator_meaning.specs.declared.site.SiteKind.TheVariants.{Call}
use Rattle.operator_meaning.specs.declared.site.Form.{Form}
use Rattle.operator_meaning.specs.declared.site.Form.TheVariants.{Plain, Clamp, Flag}
use Rattle.operator_meaning.specs.declared.site.Guard.TheVariants.{Kept, Gone}
use Rattle.template_runs.specs.Courses.{Ends, runs}
use Rattle.template_runs.specs.Machine.{begun}
use Rattle.template_runs.specs.Values.{less, below}
use Rattle.operator_lowering.specs.declared.tables.products.TheConstants.{DIVIDE}
use Rattle.operator_lowering.specs.Courses.{IsCourse, apart_of}
use Rattle.operator_lowering.specs.Sites.{led_to, flag_after}
use Rattle.operator_lowering.specs.declared.way.Way.TheVariants.{Straight}
use Rattle.operator_lowering.specs.Words.{checked_by, quotient_check}
use Rattle.operator_lowering.proofs.Constants.{by_size, five}
use Rattle.operator_lowering.proofs.Leads.{leads, halts}
use Rattle.operator_lowering.proofs.Numbers.{less_true, less_false, below_true, below_false}
use Rattle.operator_lowering.proofs.Quotients.{quotient_words, quotient_gives, none_by_first, none_by_second, some_by_order}
use Rattle.operator_lowering.proofs.Trees.{by_turned}

-- no form sets Overflow
flag_is : (form : Form) (flag : ℤ) → flag_after form false flag ≡ flag
flag_is Plain flag = refl
flag_is Clamp flag = refl
flag_is Flag flag = refl

-- the words give the value where there is one
valued : (a b flag : ℤ) (site : ℕ) (input : List ℤ) → FitsSigned w16 a → FitsSigned w16 b → (o : Option ℤ) → quotient a b ≡ o → (o ≡ None → ⊥)
    → Ends (quotient_words a b) flag input ≡ led_to o site flag input
valued a b flag site input fa fb None is goes_on = absurd (goes_on refl)
valued a b flag site input fa fb (Some w) is goes_on = leads site (quotient_gives a b w fa fb is) refl

gone_to : (in_place : Bool) (a b c flag : ℤ) (site : ℕ) (input : List ℤ) → FitsSigned w16 a → FitsSigned w16 b → (quotient a b ≡ None → ⊥)
    → runs DIVIDE 0 (begun (apart_of Straight in_place) false false a b c flag input) ≡ led_to (quotient a b) site flag input
gone_to in_place a b c flag site input fa fb goes_on = valued a b flag site input fa fb (quotient a b) refl goes_on

kept_to : (in_place : Bool) (a b c flag : ℤ) (site : ℕ) (input : List ℤ) → site < 2 ^ 32 → FitsSigned w16 a → FitsSigned w16 b
    → runs (checked_by (Rattle.operator_lowering.specs.Words.is_small site) quotient_check site ++ DIVIDE) 0 (begun (apart_of Straight in_place) false false a b c flag input) ≡ led_to (quotient a b) site flag input
kept_to in_place a b c flag site input small fa fb =
    let way = λ (b' : Bool). runs (checked_by b' quotient_check site ++ DIVIDE) 0 (begun (apart_of Straight in_place) false false a b c flag input) ≡ led_to (quotient a b) site flag input in
    by_size site
    (λ e number. subst way (sym e)
    (by_turned (less (pos 0) b)
    (λ p. by_turned (below b a) (λ t. rw five (halts site flag input number (none_by_first a b fa fb (below_true _ _ t))))
    (λ t. valued a b flag site input fa fb (quotient a b) refl (some_by_order a b fa fb (less_true _ _ p) (below_false _ _ t))))
    (λ p. rw five (halts site flag input number (none_by_second a b (less_false _ _ p))))))
    (λ e number. subst way (sym e)
    (by_turned (less (pos 0) b)
    (λ p. by_turned (below b a) (λ t. rw five (halts site flag input number (none_by_first a b fa fb (below_true _ _ t))))
    (λ t. valued a b flag site input fa fb (quotient a b) refl (some_by_order a b fa fb (less_true _ _ p) (below_false _ _ t))))
    (λ p. rw five (halts site flag input number (none_by_second a b (less_false _ _ p))))))
    small

pub div_s_gone : (form : Form) → IsCourse (Call op.DivS) form Gone
div_s_gone Plain in_place site a b c flag input small asked = gone_to in_place a b c flag site input asked.fit.0 asked.fit.1.0 (asked.goes_on refl)
div_s_gone Clamp in_place site a b c flag input small asked = gone_to in_place a b c flag site input asked.fit.0 asked.fit.1.0 (asked.goes_on refl)
div_s_gone Flag in_place site a b c flag input small asked = gone_to in_place a b c flag site input asked.fit.0 asked.fit.1.0 (asked.goes_on refl)

pub div_s_kept : (form : Form) → IsCourse (Call op.DivS) form Kept
div_s_kept Plain in_place site a b c flag input small asked = kept_to in_place a b c flag site input small asked.fit.0 asked.fit.1.0
div_s_kept Clamp in_place site a b c flag input small asked = kept_to in_place a b c flag site input small asked.fit.0 asked.fit.1.0
div_s_kept Flag in_place site a b c flag input small asked = kept_to in_place a b c flag site input small asked.fit.0 asked.fit.1.0
