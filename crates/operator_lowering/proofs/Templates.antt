-- The words of each site are a template of it.
use Rattle.std.proofs.Common.{inl, inr, ◌≡◌, ℕ, ◌+◌, ◌<◌, ◌≤◌, ◌^◌, ℤ, pos, Bool, true, false, ◌||◌, ◌==◌, if◌then◌else◌, List, [], ◌++◌, length, Option, Some, None, refl, ap, ◌∙◌, arith, length-append}
use Rattle.std.specs.Prelude.{All}
use Rattle.std.specs.Int.{w32}
use Rattle.std.proofs.lemmas.Int.{ints, of_z-to_z}
use Rattle.std.proofs.lemmas.List.{length-map}
use Rattle.std.proofs.lemmas.List.Elements.{All-nil, All-cons, All-append}
use Rattle.operator_meaning.specs.declared.site.SiteKind.{SiteKind}
use Rattle.operator_meaning.specs.declared.site.Form.{Form}
use Rattle.operator_meaning.specs.declared.site.Guard.{Guard}
use Rattle.rv_encode.specs.declared.instruction.Instr.{Instr}
use Rattle.rv_encode.specs.declared.instruction.Instr.TheVariants.{Addi}
use Rattle.rv_encode.specs.Comparing.{is_comparing}
use Rattle.rv_encode.specs.State.{MachineState, Moment, Running, Over, Stopped, register}
use Rattle.rv_encode.specs.Runs.{moment_after}
use Rattle.rv_encode.specs.Words.{Fits}
use Rattle.template_runs.specs.declared.registers.Registers.{Registers}
use Rattle.template_runs.specs.Machine.{IsFinal}
use Rattle.template_runs.specs.Renaming.{AreInRange, IsPlace, IsOperandPlace, all_over, over}
use Rattle.template_runs.proofs.Fits.{all_fit}
use Rattle.template_runs.proofs.Plain.{plain_stay}
use Rattle.operator_lowering.specs.Laws.{IsFormOf}
use Rattle.operator_lowering.specs.Sites.{site_value, led_to, site_final}
use Rattle.operator_lowering.specs.Template.{ArePlaces, IsAfter, DoesSite, TemplateHolds, makes_calls}
use Rattle.operator_lowering.specs.declared.way.Way.{Way}
use Rattle.operator_lowering.specs.declared.way.Way.TheVariants.{Straight, Moves, KeepsFirst, KeepsThird, KeepsBoth, Turns}
use Rattle.operator_lowering.specs.Words.{front, places, copy, turns, way_of, is_in_place, site_words, template_words}
use Rattle.operator_lowering.proofs.Begins.{begins}
use Rattle.operator_lowering.proofs.Ready.{ready}
use Rattle.operator_lowering.proofs.Sound.{sound}

-- ---- what is done first

abbrev All_copy : (Instr → Type 0) → ℕ → ℕ → Type 0
All_copy P rd rs = P (Addi rd rs (pos 0))

-- what holds of the copies that a way may make holds of all words that it begins with
front_all : (P : Instr → Type 0) (regs : Registers) → All_copy P regs.result regs.first → All_copy P 28 regs.first → All_copy P 28 regs.third → All_copy P 28 regs.result → (way : Way) → All P (front way regs)
front_all P regs to_result of_first of_third of_result Straight = All-nil P
front_all P regs to_result of_first of_third of_result Moves = by_test (regs.result == regs.first)
  where
    by_test : (b : Bool) → All P (if b then [] else copy regs.result regs.first)
    by_test true = All-nil P
    by_test false = All-cons P (Addi regs.result regs.first (pos 0)) [] to_result (All-nil P)
front_all P regs to_result of_first of_third of_result KeepsFirst = by_test (regs.result == regs.first)
  where
    by_test : (b : Bool) → All P (if b then copy 28 regs.first else [])
    by_test false = All-nil P
    by_test true = All-cons P (Addi 28 regs.first (pos 0)) [] of_first (All-nil P)
front_all P regs to_result of_first of_third of_result KeepsThird = by_test (regs.result == regs.third)
  where
    by_test : (b : Bool) → All P (if b then copy 28 regs.third else [])
    by_test false = All-nil P
    by_test true = All-cons P (Addi 28 regs.third (pos 0)) [] of_third (All-nil P)
front_all P regs to_result of_first of_third of_result KeepsBoth = by_test ((regs.result == regs.first) || (regs.result == regs.second))
  where
    by_test : (b : Bool) → All P (if b then copy 28 regs.result else [])
    by_test false = All-nil P
    by_test true = All-cons P (Addi 28 regs.result (pos 0)) [] of_result (All-nil P)
front_all P regs to_result of_first of_third of_result Turns = by_test (turns regs) (regs.result == regs.first)
  where
    by_test : (t b : Bool) → All P (if t then [] else (if b then copy 28 regs.first else []))
    by_test true b = All-nil P
    by_test false false = All-nil P
    by_test false true = All-cons P (Addi 28 regs.first (pos 0)) [] of_first (All-nil P)

front_short : (regs : Registers) (way : Way) → length (front way regs) ≤ 1
front_short regs Straight = omega arith
front_short regs Moves = by_test (regs.result == regs.first)
  where
    by_test : (b : Bool) → length (if b then [] else copy regs.result regs.first) ≤ 1
    by_test true = omega arith
    by_test false = omega arith
front_short regs KeepsFirst = by_test (regs.result == regs.first)
  where
    by_test : (b : Bool) → length (if b then copy 28 regs.first else []) ≤ 1
    by_test true = omega arith
    by_test false = omega arith
front_short regs KeepsThird = by_test (regs.result == regs.third)
  where
    by_test : (b : Bool) → length (if b then copy 28 regs.third else []) ≤ 1
    by_test true = omega arith
    by_test false = omega arith
front_short regs KeepsBoth = by_test ((regs.result == regs.first) || (regs.result == regs.second))
  where
    by_test : (b : Bool) → length (if b then copy 28 regs.result else []) ≤ 1
    by_test true = omega arith
    by_test false = omega arith
front_short regs Turns = by_test (turns regs) (regs.result == regs.first)
  where
    by_test : (t b : Bool) → length (if t then [] else (if b then copy 28 regs.first else [])) ≤ 1
    by_test true b = omega arith
    by_test false true = omega arith
    by_test false false = omega arith

place_fits : (n : ℕ) → IsPlace n → n < 32
place_fits n place = let high = place.1 in omega arith

copy_fits : (rd rs : ℕ) → rd < 32 → rs < 32 → Fits (Addi rd rs (pos 0))
copy_fits rd rs to from = (to, from, (grind (arith, ints), grind (arith, ints)))

-- ---- the registers after that are those of a site, or x28

open_range : (regs : Registers) → ArePlaces regs → (way : Way) → AreInRange (places way regs)
open_range regs own Straight = record { result = own.result; first = inl own.first; second = inl own.second; third = inl own.third }
open_range regs own Moves = record { result = own.result; first = inl own.result; second = inl own.second; third = inl own.third }
open_range regs own KeepsFirst = by_test (regs.result == regs.first)
  where
    by_test : (b : Bool) → AreInRange (if b then record regs { first = 28 } else regs)
    by_test true = record { result = own.result; first = inr refl; second = inl own.second; third = inl own.third }
    by_test false = record { result = own.result; first = inl own.first; second = inl own.second; third = inl own.third }
open_range regs own KeepsThird = by_test (regs.result == regs.third)
  where
    by_test : (b : Bool) → AreInRange (if b then record regs { third = 28 } else regs)
    by_test true = record { result = own.result; first = inl own.first; second = inl own.second; third = inr refl }
    by_test false = record { result = own.result; first = inl own.first; second = inl own.second; third = inl own.third }
open_range regs own KeepsBoth = record { result = own.result; first = by_test (regs.result == regs.first) regs.first own.first; second = by_test (regs.result == regs.second) regs.second own.second; third = inl own.third }
  where
    by_test : (b : Bool) (n : ℕ) → IsPlace n → IsOperandPlace (if b then 28 else n)
    by_test true n place = inr refl
    by_test false n place = inl place
open_range regs own Turns = by_test (turns regs) (regs.result == regs.first)
  where
    by_test : (t b : Bool) → AreInRange (if t then record regs { first = regs.second; second = regs.first } else (if b then record regs { first = 28 } else regs))
    by_test true b = record { result = own.result; first = inl own.second; second = inl own.first; third = inl own.third }
    by_test false true = record { result = own.result; first = inr refl; second = inl own.second; third = inl own.third }
    by_test false false = record { result = own.result; first = inl own.first; second = inl own.second; third = inl own.third }

module _ (k : SiteKind) (form : Form) (guard : Guard) (site : ℕ) (regs : Registers) (allowed : IsFormOf k form) (small : site < 2 ^ 32) (own : ArePlaces regs) where
  abbrev way : Way
  way = way_of k form guard

  abbrev words : List Instr
  words = site_words k form guard (is_in_place (places way regs)) site

  does : DoesSite k form guard site regs (template_words k form guard site regs)
  does code place s stands before asked =
      let a = register s regs.first in
      let b = register s regs.second in
      let c = register s regs.third in
      let flag = register s 27 in
      let lead = ready k form guard allowed (is_in_place (places way regs)) site a b c flag s.input small asked in
      let run = begins regs (is_in_place (places way regs)) (makes_calls k) words code place s (site_final k form site a b c flag s.input) own (sound k form guard (is_in_place (places way regs)) site).short before way refl lead.0 lead.1 stands in
      (run.0, run.1, run.2, finished (place + length (template_words k form guard site regs)) s (moment_after code run.0 (Running s)) (site_value k a b c s.input) run.3)
    where
      finished : (end : ℕ) (s : MachineState) (at : Moment) (o : Option ℤ)
          → IsFinal regs.result (makes_calls k) end s at (led_to o site (Rattle.operator_lowering.specs.Sites.flag_after form (Rattle.operator_lowering.specs.Sites.site_raises k (register s regs.first) (register s regs.second) (register s regs.third)) (register s 27)) (Rattle.operator_lowering.specs.Sites.samples_after k s.input))
          → IsAfter k form site regs end s at o
      finished end s at (Some value) there = there
      finished end s at None there = there ∙ ap (λ n. Over (Stopped n) s.output) (of_z-to_z w32 site small)

  pub holds : TemplateHolds k form guard site regs (template_words k form guard site regs)
  holds = record {
    does = does;
    fit = All-append Fits (front way regs) (all_over (places way regs) words)
        (front_all Fits regs (copy_fits regs.result regs.first (place_fits _ own.result) (place_fits _ own.first)) (copy_fits 28 regs.first (omega arith) (place_fits _ own.first)) (copy_fits 28 regs.third (omega arith) (place_fits _ own.third)) (copy_fits 28 regs.result (omega arith) (place_fits _ own.result)) way)
        (all_fit (places way regs) (open_range regs own way) words (sound k form guard (is_in_place (places way regs)) site).fit);
    short = few (front way regs) (all_over (places way regs) words) (front_short regs way) (length-map words (over (places way regs))) (sound k form guard (is_in_place (places way regs)) site).short;
    plain = λ e g m. All-append (λ i. is_comparing i ≡ false) (front way regs) (all_over (places way regs) words) (front_all (λ i. is_comparing i ≡ false) regs refl refl refl refl way)
        (plain_stay (places way regs) words ((sound k form guard (is_in_place (places way regs)) site).plain e g m));
  }
    where
      few : (xs ys : List Instr) → length xs ≤ 1 → length ys ≡ length words → length words ≤ 90 → length (xs ++ ys) ≤ 96
      few xs ys one same short = let e = length-append xs ys in omega arith
