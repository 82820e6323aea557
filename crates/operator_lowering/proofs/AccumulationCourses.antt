-- The courses of sums with twice a product.
use Rattle.std.proofs.Common.{◌≡◌, ℤ, pos, ◌+ℤ◌, ◌-ℤ◌, Bool, true, false, ◌||◌, if◌then◌else◌, List, refl, sym, ap, ◌∙◌}
use Rattle.std.specs.Prelude.{FitsSigned}
use Rattle.std.specs.Int.{w16, w32}
use Rattle.sat_base.specs.Clip.{clip32}
use Rattle.operator_meaning.specs.Clipping.{accumulation_clips, reduction_clips, rounding_clips}
use Rattle.operator_meaning.specs.Value.{product_of, accumulated, reduced, rounded}
use Rattle.operator_meaning.specs.declared.operator.Op.TheVariants as op
use Rattle.operator_meaning.specs.declared.site.SiteKind.TheVariants.{Call}
use Rattle.operator_meaning.specs.declared.site.Form.{Form}
use Rattle.operator_meaning.specs.declared.site.Form.TheVariants.{Plain, Clamp, Flag}
use Rattle.operator_meaning.specs.declared.site.Guard.{Guard}
use Rattle.template_runs.specs.Courses.{Ends}
use Rattle.template_runs.specs.Values.{added, to_right_signed, upper}
use Rattle.operator_lowering.specs.Courses.{IsCourse}
use Rattle.operator_lowering.proofs.Numbers.{clip_fits}
use Rattle.operator_lowering.proofs.Accumulations as Accumulations
use Rattle.operator_lowering.proofs.Reductions as Reductions
use Rattle.operator_lowering.proofs.Accumulations.{no_first, no_second}
use Rattle.operator_lowering.proofs.Rounding.{rounding, rounding_clamp, rounding_flag, rounding_set, plain_rounding}
use Rattle.operator_lowering.proofs.Trees.{ends_same, ends_kept, ends_changed}

-- ---- sums

pub l_mac : (form : Form) (guard : Guard) → IsCourse (Call op.LMac) form guard
l_mac Plain guard in_place site a b c flag input small asked =
    ends_same (Accumulations.plain_keeps a b c asked.fit.0 asked.fit.1.0 asked.fit.1.1.0 (asked.unclipped refl)).0
l_mac Clamp guard in_place site a b c flag input small asked =
    Accumulations.adds a b c asked.fit.0 asked.fit.1.0 asked.fit.1.1.0 (λ v. Ends v flag input) (λ v. Ends v flag input) (λ v k. ends_same k.0) (λ v k. ends_same k.0)
l_mac Flag guard in_place site a b c flag input small asked =
    let clip = accumulation_clips a b c in
    Accumulations.adds a b c asked.fit.0 asked.fit.1.0 asked.fit.1.1.0 (λ v. Ends v flag input) (λ v. Ends v (added (pos 0) (pos 1)) input)
    (λ v k. ends_kept flag clip k.0 k.1) (λ v k. ends_changed flag clip k.0 k.1)

module _ (a b c : ℤ) (fx : FitsSigned w32 a) (fa : FitsSigned w16 b) (fb : FitsSigned w16 c) (flag : ℤ) (input : List ℤ) where
  mac_r_fits : FitsSigned w32 (accumulated a b c)
  mac_r_fits = clip_fits (a +ℤ clip32 (product_of b c))

  -- the rounding of a value between, by what became of Overflow before
  mac_r_clamp : {v : ℤ} → v ≡ accumulated a b c → rounding v flag flag input ≡ Ends (rounded (accumulated a b c)) flag input
  mac_r_clamp {v} is = ap (λ w. rounding w flag flag input) is ∙ rounding_clamp (accumulated a b c) mac_r_fits flag input

  abbrev mac_r_clips : Bool
  mac_r_clips = accumulation_clips a b c || rounding_clips (accumulated a b c)

  mac_r_kept : {v : ℤ} → v ≡ accumulated a b c → accumulation_clips a b c ≡ false → rounding v flag (added (pos 0) (pos 1)) input ≡ Ends (rounded (accumulated a b c)) (if mac_r_clips then pos 1 else flag) input
  mac_r_kept {v} is none =
      ap (λ w. rounding w flag (added (pos 0) (pos 1)) input) is ∙ rounding_flag (accumulated a b c) mac_r_fits flag input
      ∙ ap (λ m. Ends (rounded (accumulated a b c)) (if m || rounding_clips (accumulated a b c) then pos 1 else flag) input) (sym none)

  mac_r_changed : {v : ℤ} → v ≡ accumulated a b c → accumulation_clips a b c ≡ true → rounding v (added (pos 0) (pos 1)) (added (pos 0) (pos 1)) input ≡ Ends (rounded (accumulated a b c)) (if mac_r_clips then pos 1 else flag) input
  mac_r_changed {v} is some =
      ap (λ w. rounding w (added (pos 0) (pos 1)) (added (pos 0) (pos 1)) input) is ∙ rounding_set (accumulated a b c) mac_r_fits input
      ∙ ap (λ m. Ends (rounded (accumulated a b c)) (if m || rounding_clips (accumulated a b c) then pos 1 else flag) input) (sym some)

pub mac_r : (form : Form) (guard : Guard) → IsCourse (Call op.MacR) form guard
mac_r Plain guard in_place site a b c flag input small asked =
    let k = Accumulations.plain_keeps a b c asked.fit.0 asked.fit.1.0 asked.fit.1.1.0 (no_first _ _ (asked.unclipped refl)) in
    ends_same (ap (λ v. to_right_signed (added v (upper 8)) 16) k.0 ∙ plain_rounding (accumulated a b c) (clip_fits (a +ℤ clip32 (product_of b c))) (no_second _ _ (asked.unclipped refl)))
mac_r Clamp guard in_place site a b c flag input small asked =
    Accumulations.adds a b c asked.fit.0 asked.fit.1.0 asked.fit.1.1.0 (λ v. rounding v flag flag input) (λ v. rounding v flag flag input)
    (λ v k. mac_r_clamp a b c asked.fit.0 asked.fit.1.0 asked.fit.1.1.0 flag input k.0) (λ v k. mac_r_clamp a b c asked.fit.0 asked.fit.1.0 asked.fit.1.1.0 flag input k.0)
mac_r Flag guard in_place site a b c flag input small asked =
    Accumulations.adds a b c asked.fit.0 asked.fit.1.0 asked.fit.1.1.0 (λ v. rounding v flag (added (pos 0) (pos 1)) input) (λ v. rounding v (added (pos 0) (pos 1)) (added (pos 0) (pos 1)) input)
    (λ v k. mac_r_kept a b c asked.fit.0 asked.fit.1.0 asked.fit.1.1.0 flag input k.0 k.1) (λ v k. mac_r_changed a b c asked.fit.0 asked.fit.1.0 asked.fit.1.1.0 flag input k.0 k.1)

-- ---- the operand alone

pub round : (form : Form) (guard : Guard) → IsCourse (Call op.Round) form guard
round Plain guard in_place site a b c flag input small asked = ends_same (plain_rounding a asked.fit.0 (asked.unclipped refl))
round Clamp guard in_place site a b c flag input small asked = rounding_clamp a asked.fit.0 flag input
round Flag guard in_place site a b c flag input small asked = rounding_flag a asked.fit.0 flag input

-- ---- differences

pub l_msu : (form : Form) (guard : Guard) → IsCourse (Call op.LMsu) form guard
l_msu Plain guard in_place site a b c flag input small asked =
    ends_same (Reductions.plain_keeps a b c asked.fit.0 asked.fit.1.0 asked.fit.1.1.0 (asked.unclipped refl)).0
l_msu Clamp guard in_place site a b c flag input small asked =
    Reductions.takes a b c asked.fit.0 asked.fit.1.0 asked.fit.1.1.0 (λ v. Ends v flag input) (λ v. Ends v flag input) (λ v k. ends_same k.0) (λ v k. ends_same k.0)
l_msu Flag guard in_place site a b c flag input small asked =
    let clip = reduction_clips a b c in
    Reductions.takes a b c asked.fit.0 asked.fit.1.0 asked.fit.1.1.0 (λ v. Ends v flag input) (λ v. Ends v (added (pos 0) (pos 1)) input)
    (λ v k. ends_kept flag clip k.0 k.1) (λ v k. ends_changed flag clip k.0 k.1)

module _ (a b c : ℤ) (fx : FitsSigned w32 a) (fa : FitsSigned w16 b) (fb : FitsSigned w16 c) (flag : ℤ) (input : List ℤ) where
  msu_r_fits : FitsSigned w32 (reduced a b c)
  msu_r_fits = clip_fits (a -ℤ clip32 (product_of b c))

  -- the rounding of a value between, by what became of Overflow before
  msu_r_clamp : {v : ℤ} → v ≡ reduced a b c → rounding v flag flag input ≡ Ends (rounded (reduced a b c)) flag input
  msu_r_clamp {v} is = ap (λ w. rounding w flag flag input) is ∙ rounding_clamp (reduced a b c) msu_r_fits flag input

  abbrev msu_r_clips : Bool
  msu_r_clips = reduction_clips a b c || rounding_clips (reduced a b c)

  msu_r_kept : {v : ℤ} → v ≡ reduced a b c → reduction_clips a b c ≡ false → rounding v flag (added (pos 0) (pos 1)) input ≡ Ends (rounded (reduced a b c)) (if msu_r_clips then pos 1 else flag) input
  msu_r_kept {v} is none =
      ap (λ w. rounding w flag (added (pos 0) (pos 1)) input) is ∙ rounding_flag (reduced a b c) msu_r_fits flag input
      ∙ ap (λ m. Ends (rounded (reduced a b c)) (if m || rounding_clips (reduced a b c) then pos 1 else flag) input) (sym none)

  msu_r_changed : {v : ℤ} → v ≡ reduced a b c → reduction_clips a b c ≡ true → rounding v (added (pos 0) (pos 1)) (added (pos 0) (pos 1)) input ≡ Ends (rounded (reduced a b c)) (if msu_r_clips then pos 1 else flag) input
  msu_r_changed {v} is some =
      ap (λ w. rounding w (added (pos 0) (pos 1)) (added (pos 0) (pos 1)) input) is ∙ rounding_set (reduced a b c) msu_r_fits input
      ∙ ap (λ m. Ends (rounded (reduced a b c)) (if m || rounding_clips (reduced a b c) then pos 1 else flag) input) (sym some)

pub msu_r : (form : Form) (guard : Guard) → IsCourse (Call op.MsuR) form guard
msu_r Plain guard in_place site a b c flag input small asked =
    let k = Reductions.plain_keeps a b c asked.fit.0 asked.fit.1.0 asked.fit.1.1.0 (no_first _ _ (asked.unclipped refl)) in
    ends_same (ap (λ v. to_right_signed (added v (upper 8)) 16) k.0 ∙ plain_rounding (reduced a b c) (clip_fits (a -ℤ clip32 (product_of b c))) (no_second _ _ (asked.unclipped refl)))
msu_r Clamp guard in_place site a b c flag input small asked =
    Reductions.takes a b c asked.fit.0 asked.fit.1.0 asked.fit.1.1.0 (λ v. rounding v flag flag input) (λ v. rounding v flag flag input)
    (λ v k. msu_r_clamp a b c asked.fit.0 asked.fit.1.0 asked.fit.1.1.0 flag input k.0) (λ v k. msu_r_clamp a b c asked.fit.0 asked.fit.1.0 asked.fit.1.1.0 flag input k.0)
msu_r Flag guard in_place site a b c flag input small asked =
    Reductions.takes a b c asked.fit.0 asked.fit.1.0 asked.fit.1.1.0 (λ v. rounding v flag (added (pos 0) (pos 1)) input) (λ v. rounding v (added (pos 0) (pos 1)) (added (pos 0) (pos 1)) input)
    (λ v k. msu_r_kept a b c asked.fit.0 asked.fit.1.0 asked.fit.1.1.0 flag input k.0 k.1) (λ v k. msu_r_changed a b c asked.fit.0 asked.fit.1.0 asked.fit.1.1.0 flag input k.0 k.1)
