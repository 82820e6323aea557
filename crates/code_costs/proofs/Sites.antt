-- The words of sites.
use Rattle.std.proofs.Common.{ℕ, ◌+◌, ◌*◌, ◌≤◌, Bool, true, false, ◌||◌, ◌==◌, if◌then◌else◌, List, [], length, length-append, lit≤, arith}
use Rattle.std.proofs.lemmas.List.{length-map}
use Rattle.operator_meaning.specs.declared.operator.Op.{Op}
use Rattle.operator_meaning.specs.declared.operator.Op.TheVariants as op
use Rattle.operator_meaning.specs.declared.site.Form.TheVariants.{Flag}
use Rattle.operator_meaning.specs.declared.site.Guard.TheVariants.{Kept}
use Rattle.operator_meaning.specs.declared.site.SiteKind.{SiteKind}
use Rattle.operator_meaning.specs.declared.site.SiteKind.TheVariants as kind
use Rattle.operator_meaning.specs.Table.{row_of}
use Rattle.rv_encode.specs.declared.instruction.Instr.{Instr}
use Rattle.template_runs.specs.declared.registers.Registers.{Registers}
use Rattle.template_runs.specs.Renaming.{all_over, over}
use Rattle.operator_lowering.specs.declared.way.Way.{Way}
use Rattle.operator_lowering.specs.declared.way.Way.TheVariants.{Straight, Moves, KeepsFirst, KeepsThird, KeepsBoth, Turns}
use Rattle.operator_lowering.specs.Words.{bound_check, bound_of, checked, checked_by, copy, difference_check, edge_check, front, is_in_place, is_small, keeps_first, opposite_check, places, product_check, sample_check, sample_words, site_words, stop_words, sum_check, template_words, turns, view_check, way_of}
use Rattle.operator_lowering.proofs.Sound.{sound}
use Rattle.ir_arena.specs.Costs.{conversion_words, words_of_site}
use Rattle.code_stacks.specs.Places.{Layout}
use Rattle.code_lines.proofs.Entering.{template_long}
use Rattle.expression_code.specs.Code.{form_of, site_code, site_registers, widths_of, template_code}
use Rattle.code_costs.proofs.Pieces.{around_short, joined, one_of}

-- ---- what a site begins with

kept_short : (b : Bool) (rd rs : ℕ) → length (if b then copy rd rs else []) ≤ 1
kept_short b rd rs = one_of b (copy rd rs) [] 1 (lit≤ tt) (lit≤ tt)

front_short : (regs : Registers) (way : Way) → length (front way regs) ≤ 1
front_short regs Straight = lit≤ tt
front_short regs Moves = one_of (regs.result == regs.first) [] (copy regs.result regs.first) 1 (lit≤ tt) (lit≤ tt)
front_short regs KeepsFirst = kept_short (keeps_first regs) 28 regs.first
front_short regs KeepsThird = kept_short (regs.result == regs.third) 28 regs.third
front_short regs KeepsBoth = kept_short ((regs.result == regs.first) || (regs.result == regs.second)) 28 regs.result
front_short regs Turns = one_of (turns regs) [] (if keeps_first regs then copy 28 regs.first else []) 1 (lit≤ tt) (kept_short (keeps_first regs) 28 regs.first)

-- ---- checks

checked_short : (check : ℕ → List Instr) (site most : ℕ) → ((size : ℕ) → length (check size) ≤ most) → length (checked check site) ≤ most + 4
checked_short check site most few = by_test (is_small site)
  where
    by_test : (small : Bool) → length (checked_by small check site) ≤ most + 4
    by_test true = omega (arith, few 12, length-append (check 12) (stop_words true site))
    by_test false = omega (arith, few 16, length-append (check 16) (stop_words false site))

bound_short : (bound size : ℕ) → length (bound_check (is_small bound) bound size) ≤ 3
bound_short bound size = by_test (is_small bound)
  where
    by_test : (small : Bool) → length (bound_check small bound size) ≤ 3
    by_test true = lit≤ tt
    by_test false = lit≤ tt

-- an operator has many words, and each other kind has few
abbrev most_words : SiteKind → ℕ
most_words (kind.Call op) = 90
most_words other = 15

words_short : (kind : SiteKind) (in_place : Bool) (site : ℕ) → length (site_words kind (form_of kind) Kept in_place site) ≤ most_words kind
words_short (kind.Call op) in_place site = (sound (kind.Call op) Flag Kept in_place site).short
words_short kind.Sum true site = omega (arith, checked_short (sum_check true) site 6 (λ size. lit≤ tt))
words_short kind.Sum false site = omega (arith, checked_short (sum_check false) site 6 (λ size. lit≤ tt))
words_short kind.Difference true site = omega (arith, checked_short (difference_check true) site 6 (λ size. lit≤ tt))
words_short kind.Difference false site = omega (arith, checked_short (difference_check false) site 6 (λ size. lit≤ tt))
words_short kind.Product in_place site = omega (arith, checked_short product_check site 4 (λ size. lit≤ tt))
words_short kind.Opposite in_place site = joined (checked opposite_check site) _ 6 9 (checked_short opposite_check site 2 (λ size. lit≤ tt)) (lit≤ tt)
words_short (kind.Bound bound) in_place site = omega (arith, checked_short (bound_check (is_small (bound_of bound)) (bound_of bound)) site 3 (bound_short (bound_of bound)))
words_short kind.ViewBound in_place site = omega (arith, checked_short view_check site 5 (λ size. lit≤ tt))
words_short kind.ViewEdge in_place site = omega (arith, checked_short edge_check site 5 (λ size. lit≤ tt))
words_short kind.Sample in_place site = joined (checked sample_check site) sample_words 7 8 (checked_short sample_check site 3 (λ size. lit≤ tt)) (lit≤ tt)

-- with what brings the operands of a site and its result to their places
pub site_short : (l : Layout) (depth count site : ℕ) (kind : SiteKind) → length (site_code l depth count site kind) ≤ most_words kind + 9
site_short l depth count site kind =
    let regs = site_registers depth count in
    let way = way_of kind (form_of kind) Kept in
    let words = site_words kind (form_of kind) Kept (is_in_place (places way regs)) site in
    omega (
      arith,
      around_short l depth count (template_code kind (form_of kind) site depth count),
      template_long site (template_words kind (form_of kind) Kept site regs),
      length-append (front way regs) (all_over (places way regs) words),
      front_short regs way,
      length-map words (over (places way regs)),
      words_short kind (is_in_place (places way regs)) site,
    )

-- ---- what a site may cost

takes_few : (op : Op) → length (row_of op).takes ≤ 3
takes_few op.LMac = lit≤ tt
takes_few op = lit≤ tt

-- the code of a site, and a conversion of each operand
pub site_fits : (l : Layout) (depth count site : ℕ) (kind : SiteKind) → length (widths_of kind) * conversion_words + length (site_code l depth count site kind) ≤ words_of_site kind
site_fits l depth count site (kind.Call op) = omega (arith, takes_few op, site_short l depth count site (kind.Call op))
site_fits l depth count site kind = omega (arith, site_short l depth count site kind)
