-- An image whose runs end, with what the source ends with, runs as the source does.
use Rattle.std.proofs.Common.{◌≡◌, ℕ, ◌+◌, ◌-◌, ◌<◌, ◌≤◌, ◌⊎◌, inl, inr, ⊎_elim, ℤ, List, refl, sym, ap, ◌∙◌, subst, arith}
use Rattle.std.proofs.lemmas.Bool.{cases_lt}
use Rattle.sat_base.specs.Observation.{Observation, End, Going, output_of}
use Rattle.rv_encode.specs.State.{Ending, Ended, Moment, Running, Over, observation_of, written}
use Rattle.rv_encode.specs.Runs.{moment_after, IsPrefix}
use Rattle.rv_encode.proofs.Runs.{moment_after_add, over_stays}
use Rattle.rv_encode.proofs.Output.{output_grows}
use Rattle.image_format.specs.declared.image.Image.{Image}
use Rattle.image_format.specs.Runs.{loaded, machine_after, machine_observed}
use Rattle.image_format.specs.RunsAlike.{RunsAlike, IsOver}

-- a moment before one at which the run is over: the run goes on with a front of the output, or is over in the same way
before_over : (code : List ℕ) (k : ℕ) (at : Moment) (last : List ℤ) (ending : Ending) → moment_after code k at ≡ Over ending last
    → (observation_of at ≡ observation_of (Over ending last)) ⊎ ((observation_of at ≡ Going (written at)) × IsPrefix (written at) last)
before_over code k (Running s) last ending e =
    inr (refl, subst (IsPrefix s.output) (ap written e) (output_grows code k (Running s)))
before_over code k (Over other output) last ending e =
    inl (ap observation_of (sym (over_stays code k other output) ∙ e))

module _ (source : List ℤ → ℕ → Observation) (image : Image) (last : List ℤ) (overflow : ℤ) (count : ℕ) (steps : List ℤ → ℕ)
    (machine_ends : (input : List ℤ) → machine_after image input (steps input) ≡ Over (Ended overflow count) last)
    (source_ends : (input : List ℤ) (n : ℕ) → source input n ≡ End last overflow count) where
  -- what is observed at any number of instructions
  either : (input : List ℤ) (m : ℕ) → (machine_observed image input m ≡ End last overflow count) ⊎ ((output : List ℤ) × (machine_observed image input m ≡ Going output) × IsPrefix output last)
  either input m =
      let start = Running (loaded image input) in
      ⊎_elim
      (λ (lt : m < steps input).
      let whole : m + (steps input - m) ≡ steps input = omega arith in
      let at = machine_after image input m in
      let e = sym (moment_after_add image.code m (steps input - m) start) ∙ ap (λ k. moment_after image.code k start) whole ∙ machine_ends input in
      ⊎_elim (λ same. inl same) (λ going. inr (written at, going.0, going.1)) (before_over image.code (steps input - m) at last (Ended overflow count) e))
      (λ (le : steps input ≤ m).
      let whole : steps input + (m - steps input) ≡ m = omega arith in
      let e = sym (ap (λ k. moment_after image.code k start) whole) ∙ moment_after_add image.code (steps input) (m - steps input) start ∙ ap (moment_after image.code (m - steps input)) (machine_ends input) ∙ over_stays image.code (m - steps input) (Ended overflow count) last in
      inl (ap observation_of e))
      (cases_lt m (steps input))

  pub runs_alike : RunsAlike source image
  runs_alike = record {
    ends = λ input n samples over. (steps input, ap observation_of (machine_ends input) ∙ sym (source_ends input n));
    goes_on = λ input n output samples going. absurd (let e = source_ends input n in cc);
    ends_only = λ input m samples over.
        ⊎_elim (λ same. source_ends input m ∙ sym same) (λ going. absurd (subst IsOver going.1 over)) (either input m);
    goes_on_only = λ input m output samples going.
        ⊎_elim
        (λ same. absurd (let f = same in let g = going in cc))
        (λ other.
        let same : other.0 ≡ output = let f = other.1 in let g = going in cc in
        let whole : last ≡ output_of (source input m) = ap output_of (sym (source_ends input m)) in
        subst (λ l. IsPrefix output l) whole (subst (λ l. IsPrefix l last) same other.2))
        (either input m);
    never_faults = λ input m pc kind output samples fault.
        ⊎_elim (λ same. let f = same in let g = fault in cc) (λ going. let f = going.1 in let g = fault in cc) (either input m);
  }
