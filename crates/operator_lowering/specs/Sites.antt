-- What a site gives of its operands, and where it stops.
use Rattle.std.specs.Prelude.{ℕ, ℤ, pos, negsuc, ◌+ℤ◌, ◌-ℤ◌, ◌*ℤ◌, Bool, false, int_lt, if◌then◌else◌, List, [], ◌∷◌, Option, Some, None, take, replicate}
use Rattle.std.proofs.Math.IntN.{neg_ℤ}
use Rattle.std.specs.Int.{w32, cast_signed}
use Rattle.operator_meaning.specs.declared.site.SiteKind.{SiteKind}
use Rattle.operator_meaning.specs.declared.site.SiteKind.TheVariants as kind
use Rattle.operator_meaning.specs.declared.site.Form.{Form}
use Rattle.operator_meaning.specs.declared.site.Form.TheVariants.{Plain, Clamp, Flag}
use Rattle.operator_meaning.specs.Clipping.{clips_of, raises_of}
use Rattle.operator_meaning.specs.Table.{FitWidths, row_of, arity_of}
use Rattle.sat_base.specs.declared.width.Width.{Width}
use Rattle.sat_base.specs.declared.width.Width.TheVariants.{W32}
use Rattle.operator_meaning.specs.Value.{value_of}
use Rattle.template_runs.specs.Courses.{Final, Ends, Stops}

-- how many operands a site has: an operator's arguments, offset, index and length of a view, or none
abbrev pub operand_count : SiteKind → ℕ
operand_count (kind.Call op) = arity_of op
operand_count kind.Sum = 2
operand_count kind.Difference = 2
operand_count kind.Product = 2
operand_count kind.Opposite = 1
operand_count (kind.Bound bound) = 1
operand_count kind.ViewBound = 3
operand_count kind.ViewEdge = 3
operand_count kind.Sample = 0

-- the number, where it lies from the first bound to the second
abbrev pub between : ℤ → ℤ → ℤ → Option ℤ
between low high x = if int_lt x low then None else (if int_lt high x then None else Some x)

-- plain arithmetic gives a number of 32 bits
abbrev pub of_32_bits : ℤ → Option ℤ
of_32_bits x = between (negsuc 2147483647) (pos 2147483647) x

-- the next sample
abbrev pub next_sample : List ℤ → Option ℤ
next_sample [] = None
next_sample (sample ∷ left) = Some sample

-- The value of a site over its operands and the samples that are left; none where the site stops. Of three operands a
-- site takes as many as it has.
abbrev pub site_value : SiteKind → (a b c : ℤ) → List ℤ → Option ℤ
site_value (kind.Call op) a b c input = value_of op (take (arity_of op) (a ∷ b ∷ c ∷ []))
site_value kind.Sum a b c input = of_32_bits (a +ℤ b)
site_value kind.Difference a b c input = of_32_bits (a -ℤ b)
site_value kind.Product a b c input = of_32_bits (a *ℤ b)
site_value kind.Opposite a b c input = of_32_bits (neg_ℤ a)
site_value (kind.Bound bound) a b c input = between (pos 0) (pos bound -ℤ pos 1) a
site_value kind.ViewBound a b c input = between (pos 0) (c -ℤ pos 1) (a +ℤ b)
site_value kind.ViewEdge a b c input = between (pos 0) c (a +ℤ b)
site_value kind.Sample a b c input = next_sample input

-- whether a clip of the site changes a number, and whether the site sets Overflow: operators alone do
abbrev pub site_clips : SiteKind → (a b c : ℤ) → Bool
site_clips (kind.Call op) a b c = clips_of op (take (arity_of op) (a ∷ b ∷ c ∷ []))
site_clips other a b c = false

abbrev pub site_raises : SiteKind → (a b c : ℤ) → Bool
site_raises (kind.Call op) a b c = raises_of op (take (arity_of op) (a ∷ b ∷ c ∷ []))
site_raises other a b c = false

-- the samples that are left after the site
abbrev pub samples_after : SiteKind → List ℤ → List ℤ
samples_after kind.Sample (sample ∷ left) = left
samples_after other input = input

-- the widths of the places of operands: an operator's, and 32 bits elsewhere
abbrev pub site_widths : SiteKind → List Width
site_widths (kind.Call op) = (row_of op).takes
site_widths other = replicate (operand_count other) W32

-- the operands lie in the widths of their places
abbrev pub AreSiteOperands : SiteKind → (a b c : ℤ) → Type 0
AreSiteOperands k a b c = FitWidths (site_widths k) (take (operand_count k) (a ∷ b ∷ c ∷ []))

-- Overflow after a site in a form
abbrev pub flag_after : Form → (raises : Bool) → ℤ → ℤ
flag_after Plain raises flag = flag
flag_after Clamp raises flag = flag
flag_after Flag raises flag = if raises then pos 1 else flag

-- where a site leads: to its value, or to a stop at the site of this number
abbrev pub led_to : Option ℤ → (site : ℕ) → (flag : ℤ) → List ℤ → Final
led_to (Some value) site flag input = Ends value flag input
led_to None site flag input = Stops (cast_signed w32 site)

abbrev pub site_final : SiteKind → Form → (site : ℕ) → (a b c flag : ℤ) → List ℤ → Final
site_final k form site a b c flag input =
    led_to (site_value k a b c input) site (flag_after form (site_raises k a b c) flag) (samples_after k input)
