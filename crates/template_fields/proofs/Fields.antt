-- The words of each site fit their formats, and are few.
use Rattle.std.proofs.Common.{ℕ, ◌<◌, ◌≤◌, pos, [], length, length-append, lit≤, arith}
use Rattle.std.specs.Prelude.{All}
use Rattle.std.proofs.lemmas.Int.{ints}
use Rattle.std.proofs.lemmas.List.{length-map}
use Rattle.std.proofs.lemmas.List.Elements.{All-nil, All-cons, All-append}
use Rattle.rv_encode.specs.declared.instruction.Instr.TheVariants.{Addi}
use Rattle.rv_encode.specs.Words.{Fits}
use Rattle.template_runs.specs.Renaming.{IsPlace, all_over, over}
use Rattle.template_runs.proofs.Fits.{all_fit}
use Rattle.operator_lowering.specs.Words.{copy, front, is_in_place, places, site_words, way_of}
use Rattle.operator_lowering.proofs.Sound.{sound}
use Rattle.template_fields.specs.Laws.{TemplatesAreShort, TemplatesFit}
use Rattle.template_fields.proofs.Fronts.{front_is, places_in_range}

copy_fits : (rd rs : ℕ) → rd < 32 → IsPlace rs → All Fits (copy rd rs)
copy_fits rd rs to place = let high = place.1 in All-cons Fits (Addi rd rs (pos 0)) [] (to, omega arith, (grind (arith, ints), grind (arith, ints))) (All-nil Fits)

pub templates_fit : TemplatesFit
templates_fit k form guard site regs own =
    let way = way_of k form guard in
    let words = site_words k form guard (is_in_place (places way regs)) site in
    let high = own.result.1 in
    let begun = front_is (All Fits) (All-nil Fits) regs (copy_fits regs.result regs.first (omega arith) own.first) (copy_fits 28 regs.first (omega arith) own.first) (copy_fits 28 regs.third (omega arith) own.third) (copy_fits 28 regs.result (omega arith) own.result) way in
    All-append Fits (front way regs) (all_over (places way regs) words) begun (all_fit (places way regs) (places_in_range regs own way) words (sound k form guard (is_in_place (places way regs)) site).fit)

pub templates_are_short : TemplatesAreShort
templates_are_short k form guard site regs =
    let way = way_of k form guard in
    let words = site_words k form guard (is_in_place (places way regs)) site in
    let begun = front_is (λ words. length words ≤ 1) (lit≤ tt) regs (lit≤ tt) (lit≤ tt) (lit≤ tt) (lit≤ tt) way in
    let short = (sound k form guard (is_in_place (places way regs)) site).short in
    omega (arith, length-append (front way regs) (all_over (places way regs) words), length-map words (over (places way regs)))
