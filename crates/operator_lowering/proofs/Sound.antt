-- The words of each site fit their formats, are few, and in form Plain compare nothing.
use Rattle.std.proofs.Common.{◌≡◌, ℕ, ◌+◌, ◌-◌, ◌/◌, ◌%◌, ◌<◌, ◌≤◌, pos, negsuc, ◌-ℤ◌, Bool, true, false, ◌&&◌, nat_lt, List, [], ◌∷◌, ◌++◌, length, refl, ap, ◌∙◌, arith, ⊎_elim, lit≤}
use Rattle.std.proofs.lemmas.Bool.{cases_lt, lt-ltb}
use Rattle.std.proofs.lemmas.Int.{ints}
use Rattle.operator_meaning.specs.declared.operator.Op.{Op}
use Rattle.operator_meaning.specs.declared.operator.Op.TheVariants as op
use Rattle.operator_meaning.specs.declared.site.SiteKind.{SiteKind}
use Rattle.operator_meaning.specs.declared.site.SiteKind.TheVariants as kind
use Rattle.operator_meaning.specs.declared.site.Form.{Form}
use Rattle.operator_meaning.specs.declared.site.Form.TheVariants.{Plain, Clamp, Flag}
use Rattle.operator_meaning.specs.declared.site.Guard.{Guard}
use Rattle.operator_meaning.specs.declared.site.Guard.TheVariants.{Kept, Gone}
use Rattle.rv_encode.specs.declared.instruction.Instr.{Instr}
use Rattle.template_runs.specs.Fitting.{is_near, is_fit, are_fit}
use Rattle.template_runs.specs.Plainness.{are_plain}
use Rattle.operator_lowering.specs.Template.{may_compare}
use Rattle.operator_lowering.specs.declared.tables.halves.TheConstants.{NEGATE_PLAIN}
use Rattle.operator_lowering.specs.declared.tables.products.TheConstants.{DIVIDE}
use Rattle.operator_lowering.specs.Words.{site_words, operator_words, is_small, bound_of, constant_words, stop_words, checked_by, sum_check, difference_check, product_check, opposite_check, quotient_check, bound_check, view_check, edge_check, sample_check, sample_words}

pub record IsSound (k : SiteKind) (form : Form) (guard : Guard) (words : List Instr) : Type 0 where
  pub fit : are_fit words ≡ true
  pub short : length words ≤ 90
  pub plain : form ≡ Plain → guard ≡ Gone → may_compare k ≡ false → are_plain words ≡ true

-- ---- words with numbers of sites and bounds

fit_append : (xs ys : List Instr) → are_fit xs ≡ true → are_fit ys ≡ true → are_fit (xs ++ ys) ≡ true
fit_append [] ys e f = f
fit_append (x ∷ xs) ys e f = both (is_fit x) (are_fit xs) e (λ g. fit_append xs ys g f)
  where
    both : (p q : Bool) {r : Bool} → (p && q) ≡ true → (q ≡ true → r ≡ true) → (p && r) ≡ true
    both true true {r} e go = go refl
    both true false {r} e go = absurd (let f = e in cc)
    both false q {r} e go = absurd (let f = e in cc)

upper_fits : (n : ℕ) → nat_lt ((n + 2048) / 4096 % 1048576) 1048576 ≡ true
upper_fits n = lt-ltb _ _ (omega arith)

lower_fits : (r : ℕ) → r < 4096 → is_near 2048 (pos r -ℤ pos 2048) ≡ true
lower_fits r less =
    ⊎_elim
    (λ (low : r < 2048). let e : pos r -ℤ pos 2048 ≡ negsuc (2047 - r) = omega (arith, ints) in ap (is_near 2048) e ∙ lt-ltb _ _ (omega arith))
    (λ (high : 2048 ≤ r). let e : pos r -ℤ pos 2048 ≡ pos (r - 2048) = omega (arith, ints) in ap (is_near 2048) e ∙ lt-ltb _ _ (omega arith))
    (cases_lt r 2048)

pub constant_fit5 : (small : Bool) (n : ℕ) → is_small n ≡ small → are_fit (constant_words small 5 n) ≡ true
constant_fit5 true n e = ap (λ b. b && true) e
constant_fit5 false n e = ap (λ b. b && (is_near 2048 (pos ((n + 2048) % 4096) -ℤ pos 2048) && true)) (upper_fits n) ∙ ap (λ b. b && true) (lower_fits ((n + 2048) % 4096) (omega arith))

pub constant_fit10 : (small : Bool) (n : ℕ) → is_small n ≡ small → are_fit (constant_words small 10 n) ≡ true
constant_fit10 true n e = ap (λ b. b && true) e
constant_fit10 false n e = ap (λ b. b && (is_near 2048 (pos ((n + 2048) % 4096) -ℤ pos 2048) && true)) (upper_fits n) ∙ ap (λ b. b && true) (lower_fits ((n + 2048) % 4096) (omega arith))

pub stop_fit : (small : Bool) (site : ℕ) → is_small site ≡ small → are_fit (stop_words small site) ≡ true
stop_fit small site e = fit_append (constant_words small 10 site) _ (constant_fit10 small site e) refl

checked_fit : (check : ℕ → List Instr) (site : ℕ) → are_fit (check 12) ≡ true → are_fit (check 16) ≡ true → (small : Bool) → is_small site ≡ small → are_fit (checked_by small check site) ≡ true
checked_fit check site few many true e = fit_append (check 12) (stop_words true site) few (stop_fit true site e)
checked_fit check site few many false e = fit_append (check 16) (stop_words false site) many (stop_fit false site e)

bound_fit : (m : Bool) (n size : ℕ) → is_small n ≡ m → are_fit (Rattle.rv_encode.specs.declared.instruction.Instr.TheVariants.Bltu 8 5 (pos (size + 4)) ∷ []) ≡ true → are_fit (bound_check m n size) ≡ true
bound_fit m n size e fits = fit_append (constant_words m 5 n) _ (constant_fit5 m n e) fits

-- ---- lengths, whatever the sizes

by_bool : (P : Bool → Type 0) (b : Bool) → P true → P false → P b
by_bool P true one other = one
by_bool P false one other = other

kept_plain : {P : Type 0} → Kept ≡ Gone → P
kept_plain {P} e = absurd (let f = e in cc)

operator_sound : (o : Op) (form : Form) (guard : Guard) (in_place : Bool) (site : ℕ) → IsSound (kind.Call o) form guard (site_words (kind.Call o) form guard in_place site)
operator_sound op.Add Plain guard in_place site = record { fit = refl; short = lit≤ tt; plain = λ e g m. refl }
operator_sound op.Add Clamp guard in_place site = record { fit = refl; short = lit≤ tt; plain = λ e g m. absurd (let f = e in cc) }
operator_sound op.Add Flag guard in_place site = record { fit = refl; short = lit≤ tt; plain = λ e g m. absurd (let f = e in cc) }
operator_sound op.Sub Plain guard in_place site = record { fit = refl; short = lit≤ tt; plain = λ e g m. refl }
operator_sound op.Sub Clamp guard in_place site = record { fit = refl; short = lit≤ tt; plain = λ e g m. absurd (let f = e in cc) }
operator_sound op.Sub Flag guard in_place site = record { fit = refl; short = lit≤ tt; plain = λ e g m. absurd (let f = e in cc) }
operator_sound op.AbsS Plain guard in_place site = record { fit = refl; short = lit≤ tt; plain = λ e g m. refl }
operator_sound op.AbsS Clamp guard in_place site = record { fit = refl; short = lit≤ tt; plain = λ e g m. absurd (let f = e in cc) }
operator_sound op.AbsS Flag guard in_place site = record { fit = refl; short = lit≤ tt; plain = λ e g m. absurd (let f = e in cc) }
operator_sound op.Shl Plain guard in_place site = record { fit = refl; short = lit≤ tt; plain = λ e g m. absurd (let f = m in cc) }
operator_sound op.Shl Clamp guard in_place site = record { fit = refl; short = lit≤ tt; plain = λ e g m. absurd (let f = e in cc) }
operator_sound op.Shl Flag guard in_place site = record { fit = refl; short = lit≤ tt; plain = λ e g m. absurd (let f = e in cc) }
operator_sound op.Shr Plain guard in_place site = record { fit = refl; short = lit≤ tt; plain = λ e g m. absurd (let f = m in cc) }
operator_sound op.Shr Clamp guard in_place site = record { fit = refl; short = lit≤ tt; plain = λ e g m. absurd (let f = e in cc) }
operator_sound op.Shr Flag guard in_place site = record { fit = refl; short = lit≤ tt; plain = λ e g m. absurd (let f = e in cc) }
operator_sound op.ExtractH Plain guard in_place site = record { fit = refl; short = lit≤ tt; plain = λ e g m. refl }
operator_sound op.ExtractH Clamp guard in_place site = record { fit = refl; short = lit≤ tt; plain = λ e g m. absurd (let f = e in cc) }
operator_sound op.ExtractH Flag guard in_place site = record { fit = refl; short = lit≤ tt; plain = λ e g m. absurd (let f = e in cc) }
operator_sound op.ExtractL Plain guard in_place site = record { fit = refl; short = lit≤ tt; plain = λ e g m. refl }
operator_sound op.ExtractL Clamp guard in_place site = record { fit = refl; short = lit≤ tt; plain = λ e g m. absurd (let f = e in cc) }
operator_sound op.ExtractL Flag guard in_place site = record { fit = refl; short = lit≤ tt; plain = λ e g m. absurd (let f = e in cc) }
operator_sound op.Mult Plain guard in_place site = record { fit = refl; short = lit≤ tt; plain = λ e g m. refl }
operator_sound op.Mult Clamp guard in_place site = record { fit = refl; short = lit≤ tt; plain = λ e g m. absurd (let f = e in cc) }
operator_sound op.Mult Flag guard in_place site = record { fit = refl; short = lit≤ tt; plain = λ e g m. absurd (let f = e in cc) }
operator_sound op.LMult Plain guard in_place site = record { fit = refl; short = lit≤ tt; plain = λ e g m. refl }
operator_sound op.LMult Clamp guard in_place site = record { fit = refl; short = lit≤ tt; plain = λ e g m. absurd (let f = e in cc) }
operator_sound op.LMult Flag guard in_place site = record { fit = refl; short = lit≤ tt; plain = λ e g m. absurd (let f = e in cc) }
operator_sound op.Negate Plain guard in_place site = record { fit = refl; short = lit≤ tt; plain = λ e g m. refl }
operator_sound op.Negate Clamp guard in_place site = record { fit = refl; short = lit≤ tt; plain = λ e g m. absurd (let f = e in cc) }
operator_sound op.Negate Flag guard in_place site = record { fit = refl; short = lit≤ tt; plain = λ e g m. absurd (let f = e in cc) }
operator_sound op.Round Plain guard in_place site = record { fit = refl; short = lit≤ tt; plain = λ e g m. refl }
operator_sound op.Round Clamp guard in_place site = record { fit = refl; short = lit≤ tt; plain = λ e g m. absurd (let f = e in cc) }
operator_sound op.Round Flag guard in_place site = record { fit = refl; short = lit≤ tt; plain = λ e g m. absurd (let f = e in cc) }
operator_sound op.LMac Plain guard in_place site = record { fit = refl; short = lit≤ tt; plain = λ e g m. refl }
operator_sound op.LMac Clamp guard in_place site = record { fit = refl; short = lit≤ tt; plain = λ e g m. absurd (let f = e in cc) }
operator_sound op.LMac Flag guard in_place site = record { fit = refl; short = lit≤ tt; plain = λ e g m. absurd (let f = e in cc) }
operator_sound op.LMsu Plain guard in_place site = record { fit = refl; short = lit≤ tt; plain = λ e g m. refl }
operator_sound op.LMsu Clamp guard in_place site = record { fit = refl; short = lit≤ tt; plain = λ e g m. absurd (let f = e in cc) }
operator_sound op.LMsu Flag guard in_place site = record { fit = refl; short = lit≤ tt; plain = λ e g m. absurd (let f = e in cc) }
operator_sound op.MacR Plain guard in_place site = record { fit = refl; short = lit≤ tt; plain = λ e g m. refl }
operator_sound op.MacR Clamp guard in_place site = record { fit = refl; short = lit≤ tt; plain = λ e g m. absurd (let f = e in cc) }
operator_sound op.MacR Flag guard in_place site = record { fit = refl; short = lit≤ tt; plain = λ e g m. absurd (let f = e in cc) }
operator_sound op.MsuR Plain guard in_place site = record { fit = refl; short = lit≤ tt; plain = λ e g m. refl }
operator_sound op.MsuR Clamp guard in_place site = record { fit = refl; short = lit≤ tt; plain = λ e g m. absurd (let f = e in cc) }
operator_sound op.MsuR Flag guard in_place site = record { fit = refl; short = lit≤ tt; plain = λ e g m. absurd (let f = e in cc) }
operator_sound op.LAdd Plain guard in_place site = record { fit = refl; short = lit≤ tt; plain = λ e g m. refl }
operator_sound op.LAdd Clamp guard true site = record { fit = refl; short = lit≤ tt; plain = λ e g m. absurd (let f = e in cc) }
operator_sound op.LAdd Clamp guard false site = record { fit = refl; short = lit≤ tt; plain = λ e g m. absurd (let f = e in cc) }
operator_sound op.LAdd Flag guard true site = record { fit = refl; short = lit≤ tt; plain = λ e g m. absurd (let f = e in cc) }
operator_sound op.LAdd Flag guard false site = record { fit = refl; short = lit≤ tt; plain = λ e g m. absurd (let f = e in cc) }
operator_sound op.LSub Plain guard in_place site = record { fit = refl; short = lit≤ tt; plain = λ e g m. refl }
operator_sound op.LSub Clamp guard true site = record { fit = refl; short = lit≤ tt; plain = λ e g m. absurd (let f = e in cc) }
operator_sound op.LSub Clamp guard false site = record { fit = refl; short = lit≤ tt; plain = λ e g m. absurd (let f = e in cc) }
operator_sound op.LSub Flag guard true site = record { fit = refl; short = lit≤ tt; plain = λ e g m. absurd (let f = e in cc) }
operator_sound op.LSub Flag guard false site = record { fit = refl; short = lit≤ tt; plain = λ e g m. absurd (let f = e in cc) }
operator_sound op.LNegate Plain guard in_place site = record { fit = refl; short = lit≤ tt; plain = λ e g m. refl }
operator_sound op.LNegate Clamp guard in_place site = record { fit = refl; short = lit≤ tt; plain = λ e g m. absurd (let f = e in cc) }
operator_sound op.LNegate Flag guard in_place site = record { fit = refl; short = lit≤ tt; plain = λ e g m. absurd (let f = e in cc) }
operator_sound op.MultR Plain guard in_place site = record { fit = refl; short = lit≤ tt; plain = λ e g m. refl }
operator_sound op.MultR Clamp guard in_place site = record { fit = refl; short = lit≤ tt; plain = λ e g m. absurd (let f = e in cc) }
operator_sound op.MultR Flag guard in_place site = record { fit = refl; short = lit≤ tt; plain = λ e g m. absurd (let f = e in cc) }
operator_sound op.LShl Plain guard in_place site = record { fit = refl; short = lit≤ tt; plain = λ e g m. absurd (let f = m in cc) }
operator_sound op.LShl Clamp guard in_place site = record { fit = refl; short = lit≤ tt; plain = λ e g m. absurd (let f = e in cc) }
operator_sound op.LShl Flag guard in_place site = record { fit = refl; short = lit≤ tt; plain = λ e g m. absurd (let f = e in cc) }
operator_sound op.LShr Plain guard in_place site = record { fit = refl; short = lit≤ tt; plain = λ e g m. absurd (let f = m in cc) }
operator_sound op.LShr Clamp guard in_place site = record { fit = refl; short = lit≤ tt; plain = λ e g m. absurd (let f = e in cc) }
operator_sound op.LShr Flag guard in_place site = record { fit = refl; short = lit≤ tt; plain = λ e g m. absurd (let f = e in cc) }
operator_sound op.ShrR Plain guard in_place site = record { fit = refl; short = lit≤ tt; plain = λ e g m. absurd (let f = m in cc) }
operator_sound op.ShrR Clamp guard in_place site = record { fit = refl; short = lit≤ tt; plain = λ e g m. absurd (let f = e in cc) }
operator_sound op.ShrR Flag guard in_place site = record { fit = refl; short = lit≤ tt; plain = λ e g m. absurd (let f = e in cc) }
operator_sound op.LShrR Plain guard in_place site = record { fit = refl; short = lit≤ tt; plain = λ e g m. absurd (let f = m in cc) }
operator_sound op.LShrR Clamp guard in_place site = record { fit = refl; short = lit≤ tt; plain = λ e g m. absurd (let f = e in cc) }
operator_sound op.LShrR Flag guard in_place site = record { fit = refl; short = lit≤ tt; plain = λ e g m. absurd (let f = e in cc) }
operator_sound op.LAbs Plain guard in_place site = record { fit = refl; short = lit≤ tt; plain = λ e g m. refl }
operator_sound op.LAbs Clamp guard in_place site = record { fit = refl; short = lit≤ tt; plain = λ e g m. absurd (let f = e in cc) }
operator_sound op.LAbs Flag guard in_place site = record { fit = refl; short = lit≤ tt; plain = λ e g m. absurd (let f = e in cc) }
operator_sound op.LDepositH Plain guard in_place site = record { fit = refl; short = lit≤ tt; plain = λ e g m. refl }
operator_sound op.LDepositH Clamp guard in_place site = record { fit = refl; short = lit≤ tt; plain = λ e g m. absurd (let f = e in cc) }
operator_sound op.LDepositH Flag guard in_place site = record { fit = refl; short = lit≤ tt; plain = λ e g m. absurd (let f = e in cc) }
operator_sound op.LDepositL Plain guard in_place site = record { fit = refl; short = lit≤ tt; plain = λ e g m. refl }
operator_sound op.LDepositL Clamp guard in_place site = record { fit = refl; short = lit≤ tt; plain = λ e g m. absurd (let f = e in cc) }
operator_sound op.LDepositL Flag guard in_place site = record { fit = refl; short = lit≤ tt; plain = λ e g m. absurd (let f = e in cc) }
operator_sound op.NormS Plain guard in_place site = record { fit = refl; short = lit≤ tt; plain = λ e g m. absurd (let f = m in cc) }
operator_sound op.NormS Clamp guard in_place site = record { fit = refl; short = lit≤ tt; plain = λ e g m. absurd (let f = e in cc) }
operator_sound op.NormS Flag guard in_place site = record { fit = refl; short = lit≤ tt; plain = λ e g m. absurd (let f = e in cc) }
operator_sound op.NormL Plain guard in_place site = record { fit = refl; short = lit≤ tt; plain = λ e g m. absurd (let f = m in cc) }
operator_sound op.NormL Clamp guard in_place site = record { fit = refl; short = lit≤ tt; plain = λ e g m. absurd (let f = e in cc) }
operator_sound op.NormL Flag guard in_place site = record { fit = refl; short = lit≤ tt; plain = λ e g m. absurd (let f = e in cc) }
operator_sound op.DivS Plain Gone in_place site = record { fit = refl; short = lit≤ tt; plain = λ e g m. refl }
operator_sound op.DivS Clamp Gone in_place site = record { fit = refl; short = lit≤ tt; plain = λ e g m. absurd (let f = e in cc) }
operator_sound op.DivS Flag Gone in_place site = record { fit = refl; short = lit≤ tt; plain = λ e g m. absurd (let f = e in cc) }
operator_sound op.DivS form Kept in_place site = record {
  fit = fit_append (checked_by (is_small site) quotient_check site) DIVIDE (checked_fit quotient_check site refl refl (is_small site) refl) refl;
  short = by_bool (λ b. length (checked_by b quotient_check site ++ DIVIDE) ≤ 90) (is_small site) (lit≤ tt) (lit≤ tt);
  plain = λ e g m. kept_plain g;
}

pub sound : (k : SiteKind) (form : Form) (guard : Guard) (in_place : Bool) (site : ℕ) → IsSound k form guard (site_words k form guard in_place site)
sound (kind.Call o) form guard in_place site = operator_sound o form guard in_place site
sound kind.Sum form Gone in_place site = record { fit = refl; short = lit≤ tt; plain = λ e g m. refl }
sound kind.Sum form Kept true site = record {
  fit = checked_fit (sum_check true) site refl refl (is_small site) refl;
  short = by_bool (λ b. length (checked_by b (sum_check true) site) ≤ 90) (is_small site) (lit≤ tt) (lit≤ tt);
  plain = λ e g m. kept_plain g;
}
sound kind.Sum form Kept false site = record {
  fit = checked_fit (sum_check false) site refl refl (is_small site) refl;
  short = by_bool (λ b. length (checked_by b (sum_check false) site) ≤ 90) (is_small site) (lit≤ tt) (lit≤ tt);
  plain = λ e g m. kept_plain g;
}
sound kind.Difference form Gone in_place site = record { fit = refl; short = lit≤ tt; plain = λ e g m. refl }
sound kind.Difference form Kept true site = record {
  fit = checked_fit (difference_check true) site refl refl (is_small site) refl;
  short = by_bool (λ b. length (checked_by b (difference_check true) site) ≤ 90) (is_small site) (lit≤ tt) (lit≤ tt);
  plain = λ e g m. kept_plain g;
}
sound kind.Difference form Kept false site = record {
  fit = checked_fit (difference_check false) site refl refl (is_small site) refl;
  short = by_bool (λ b. length (checked_by b (difference_check false) site) ≤ 90) (is_small site) (lit≤ tt) (lit≤ tt);
  plain = λ e g m. kept_plain g;
}
sound kind.Product form Gone in_place site = record { fit = refl; short = lit≤ tt; plain = λ e g m. refl }
sound kind.Product form Kept in_place site = record {
  fit = checked_fit product_check site refl refl (is_small site) refl;
  short = by_bool (λ b. length (checked_by b product_check site) ≤ 90) (is_small site) (lit≤ tt) (lit≤ tt);
  plain = λ e g m. kept_plain g;
}
sound kind.Opposite form Gone in_place site = record { fit = refl; short = lit≤ tt; plain = λ e g m. refl }
sound kind.Opposite form Kept in_place site = record {
  fit = fit_append (checked_by (is_small site) opposite_check site) NEGATE_PLAIN (checked_fit opposite_check site refl refl (is_small site) refl) refl;
  short = by_bool (λ b. length (checked_by b opposite_check site ++ NEGATE_PLAIN) ≤ 90) (is_small site) (lit≤ tt) (lit≤ tt);
  plain = λ e g m. kept_plain g;
}
sound kind.ViewBound form Gone in_place site = record { fit = refl; short = lit≤ tt; plain = λ e g m. refl }
sound kind.ViewBound form Kept in_place site = record {
  fit = checked_fit view_check site refl refl (is_small site) refl;
  short = by_bool (λ b. length (checked_by b view_check site) ≤ 90) (is_small site) (lit≤ tt) (lit≤ tt);
  plain = λ e g m. kept_plain g;
}
sound kind.ViewEdge form Gone in_place site = record { fit = refl; short = lit≤ tt; plain = λ e g m. refl }
sound kind.ViewEdge form Kept in_place site = record {
  fit = checked_fit edge_check site refl refl (is_small site) refl;
  short = by_bool (λ b. length (checked_by b edge_check site) ≤ 90) (is_small site) (lit≤ tt) (lit≤ tt);
  plain = λ e g m. kept_plain g;
}
sound kind.Sample form Gone in_place site = record { fit = refl; short = lit≤ tt; plain = λ e g m. refl }
sound kind.Sample form Kept in_place site = record {
  fit = fit_append (checked_by (is_small site) sample_check site) sample_words (checked_fit sample_check site refl refl (is_small site) refl) refl;
  short = by_bool (λ b. length (checked_by b sample_check site ++ sample_words) ≤ 90) (is_small site) (lit≤ tt) (lit≤ tt);
  plain = λ e g m. kept_plain g;
}
sound (kind.Bound bound) form Gone in_place site = record { fit = refl; short = lit≤ tt; plain = λ e g m. refl }
sound (kind.Bound bound) form Kept in_place site =
    let n = bound_of bound in
    record {
      fit =
          checked_fit (bound_check (is_small n) n) site (bound_fit (is_small n) n 12 refl refl) (bound_fit (is_small n) n 16 refl refl) (is_small site) refl;
      short = by_bool (λ m. length (checked_by (is_small site) (bound_check m n) site) ≤ 90) (is_small n)
          (by_bool (λ b. length (checked_by b (bound_check true n) site) ≤ 90) (is_small site) (lit≤ tt) (lit≤ tt))
          (by_bool (λ b. length (checked_by b (bound_check false n) site) ≤ 90) (is_small site) (lit≤ tt) (lit≤ tt));
      plain = λ e g m. kept_plain g;
    }

pub operator_fit : (o : Op) (form : Form) (in_place : Bool) → (are_fit (operator_words o form in_place) ≡ true) × (length (operator_words o form in_place) ≤ 90)
operator_fit op.Add Plain in_place = (refl, lit≤ tt)
operator_fit op.Add Clamp in_place = (refl, lit≤ tt)
operator_fit op.Add Flag in_place = (refl, lit≤ tt)
operator_fit op.Sub Plain in_place = (refl, lit≤ tt)
operator_fit op.Sub Clamp in_place = (refl, lit≤ tt)
operator_fit op.Sub Flag in_place = (refl, lit≤ tt)
operator_fit op.AbsS Plain in_place = (refl, lit≤ tt)
operator_fit op.AbsS Clamp in_place = (refl, lit≤ tt)
operator_fit op.AbsS Flag in_place = (refl, lit≤ tt)
operator_fit op.Shl Plain in_place = (refl, lit≤ tt)
operator_fit op.Shl Clamp in_place = (refl, lit≤ tt)
operator_fit op.Shl Flag in_place = (refl, lit≤ tt)
operator_fit op.Shr Plain in_place = (refl, lit≤ tt)
operator_fit op.Shr Clamp in_place = (refl, lit≤ tt)
operator_fit op.Shr Flag in_place = (refl, lit≤ tt)
operator_fit op.ExtractH Plain in_place = (refl, lit≤ tt)
operator_fit op.ExtractH Clamp in_place = (refl, lit≤ tt)
operator_fit op.ExtractH Flag in_place = (refl, lit≤ tt)
operator_fit op.ExtractL Plain in_place = (refl, lit≤ tt)
operator_fit op.ExtractL Clamp in_place = (refl, lit≤ tt)
operator_fit op.ExtractL Flag in_place = (refl, lit≤ tt)
operator_fit op.Mult Plain in_place = (refl, lit≤ tt)
operator_fit op.Mult Clamp in_place = (refl, lit≤ tt)
operator_fit op.Mult Flag in_place = (refl, lit≤ tt)
operator_fit op.LMult Plain in_place = (refl, lit≤ tt)
operator_fit op.LMult Clamp in_place = (refl, lit≤ tt)
operator_fit op.LMult Flag in_place = (refl, lit≤ tt)
operator_fit op.Negate Plain in_place = (refl, lit≤ tt)
operator_fit op.Negate Clamp in_place = (refl, lit≤ tt)
operator_fit op.Negate Flag in_place = (refl, lit≤ tt)
operator_fit op.Round Plain in_place = (refl, lit≤ tt)
operator_fit op.Round Clamp in_place = (refl, lit≤ tt)
operator_fit op.Round Flag in_place = (refl, lit≤ tt)
operator_fit op.LMac Plain in_place = (refl, lit≤ tt)
operator_fit op.LMac Clamp in_place = (refl, lit≤ tt)
operator_fit op.LMac Flag in_place = (refl, lit≤ tt)
operator_fit op.LMsu Plain in_place = (refl, lit≤ tt)
operator_fit op.LMsu Clamp in_place = (refl, lit≤ tt)
operator_fit op.LMsu Flag in_place = (refl, lit≤ tt)
operator_fit op.MacR Plain in_place = (refl, lit≤ tt)
operator_fit op.MacR Clamp in_place = (refl, lit≤ tt)
operator_fit op.MacR Flag in_place = (refl, lit≤ tt)
operator_fit op.MsuR Plain in_place = (refl, lit≤ tt)
operator_fit op.MsuR Clamp in_place = (refl, lit≤ tt)
operator_fit op.MsuR Flag in_place = (refl, lit≤ tt)
operator_fit op.LAdd Plain in_place = (refl, lit≤ tt)
operator_fit op.LAdd Clamp true = (refl, lit≤ tt)
operator_fit op.LAdd Clamp false = (refl, lit≤ tt)
operator_fit op.LAdd Flag true = (refl, lit≤ tt)
operator_fit op.LAdd Flag false = (refl, lit≤ tt)
operator_fit op.LSub Plain in_place = (refl, lit≤ tt)
operator_fit op.LSub Clamp true = (refl, lit≤ tt)
operator_fit op.LSub Clamp false = (refl, lit≤ tt)
operator_fit op.LSub Flag true = (refl, lit≤ tt)
operator_fit op.LSub Flag false = (refl, lit≤ tt)
operator_fit op.LNegate Plain in_place = (refl, lit≤ tt)
operator_fit op.LNegate Clamp in_place = (refl, lit≤ tt)
operator_fit op.LNegate Flag in_place = (refl, lit≤ tt)
operator_fit op.MultR Plain in_place = (refl, lit≤ tt)
operator_fit op.MultR Clamp in_place = (refl, lit≤ tt)
operator_fit op.MultR Flag in_place = (refl, lit≤ tt)
operator_fit op.LShl Plain in_place = (refl, lit≤ tt)
operator_fit op.LShl Clamp in_place = (refl, lit≤ tt)
operator_fit op.LShl Flag in_place = (refl, lit≤ tt)
operator_fit op.LShr Plain in_place = (refl, lit≤ tt)
operator_fit op.LShr Clamp in_place = (refl, lit≤ tt)
operator_fit op.LShr Flag in_place = (refl, lit≤ tt)
operator_fit op.ShrR Plain in_place = (refl, lit≤ tt)
operator_fit op.ShrR Clamp in_place = (refl, lit≤ tt)
operator_fit op.ShrR Flag in_place = (refl, lit≤ tt)
operator_fit op.LShrR Plain in_place = (refl, lit≤ tt)
operator_fit op.LShrR Clamp in_place = (refl, lit≤ tt)
operator_fit op.LShrR Flag in_place = (refl, lit≤ tt)
operator_fit op.LAbs Plain in_place = (refl, lit≤ tt)
operator_fit op.LAbs Clamp in_place = (refl, lit≤ tt)
operator_fit op.LAbs Flag in_place = (refl, lit≤ tt)
operator_fit op.LDepositH Plain in_place = (refl, lit≤ tt)
operator_fit op.LDepositH Clamp in_place = (refl, lit≤ tt)
operator_fit op.LDepositH Flag in_place = (refl, lit≤ tt)
operator_fit op.LDepositL Plain in_place = (refl, lit≤ tt)
operator_fit op.LDepositL Clamp in_place = (refl, lit≤ tt)
operator_fit op.LDepositL Flag in_place = (refl, lit≤ tt)
operator_fit op.NormS Plain in_place = (refl, lit≤ tt)
operator_fit op.NormS Clamp in_place = (refl, lit≤ tt)
operator_fit op.NormS Flag in_place = (refl, lit≤ tt)
operator_fit op.NormL Plain in_place = (refl, lit≤ tt)
operator_fit op.NormL Clamp in_place = (refl, lit≤ tt)
operator_fit op.NormL Flag in_place = (refl, lit≤ tt)
operator_fit op.DivS Plain in_place = (refl, lit≤ tt)
operator_fit op.DivS Clamp in_place = (refl, lit≤ tt)
operator_fit op.DivS Flag in_place = (refl, lit≤ tt)
