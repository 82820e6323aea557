-- Which forms of sites are safe for a tree: no run on samples of 16 bits meets what they leave out.
use Rattle.std.specs.Prelude.{◌≡◌, ℕ, ◌^◌, ℤ, pos, Bool, if◌then◌else◌, List, map, length, Option, Some, None, slice_get, FitsSigned}
use Rattle.std.specs.Int.{w16}
use Rattle.std.specs.List.{All}
use Rattle.std.specs.Ordering.{int_eq}
use Rattle.operator_meaning.specs.declared.object.Site.{Site}
use Rattle.operator_meaning.specs.declared.operator.Op.{Op}
use Rattle.operator_meaning.specs.declared.site.Form.{Form}
use Rattle.operator_meaning.specs.declared.site.Form.TheVariants.{Plain, Clamp, Flag}
use Rattle.operator_meaning.specs.declared.site.Guard.{Guard}
use Rattle.operator_meaning.specs.declared.site.Guard.TheVariants.{Kept}
use Rattle.operator_meaning.specs.declared.site.SiteKind.{SiteKind}
use Rattle.operator_meaning.specs.declared.site.SiteKind.TheVariants.{Call}
use Rattle.operator_meaning.specs.Value.{value_of}
use Rattle.operator_meaning.specs.Clipping.{clips_of, raises_of}
use Rattle.source_runs.specs.State as state
use Rattle.source_runs.specs.State.{SourceState, counted, raised, with_overflow}
use Rattle.source_runs.specs.Runs.{Outcome, Stops, Run, gives, ◌>>=◌, ◌>>◌, reading, changing, at_site}
use Rattle.typed_meaning.specs.Observed.{observation_of}
use Rattle.ir_arena.specs.declared.forms.SiteForm.{SiteForm}
use Rattle.ir_arena.specs.Tree.{IrWhole}
use Rattle.tree_meaning.specs.Parts.{Acts}
use Rattle.tree_meaning.specs.Observed.{outcome_with, tree_outcome, tree_observed}

-- ---- runs that stop where something is missed

-- The value of Overflow where a clamped operator should have set it: no number of 32 bits.
abbrev pub missed : ℤ
missed = pos (2 ^ 32)

abbrev is_missed : state.Kept → Bool
is_missed kept = int_eq kept.overflow missed

-- what an operator of this form does with Overflow: where it was missed, only an assignment mends that
abbrev pub flagged : Form → Bool → state.Kept → state.Kept
flagged Plain raises kept = kept
flagged Clamp raises kept = if raises then with_overflow missed kept else kept
flagged Flag raises kept = if is_missed kept then kept else raised raises kept

abbrev form_where : Option SiteForm → Form
form_where None = Flag
form_where (Some site) = site.form

abbrev pub form_at : List SiteForm → ℕ → Form
form_at forms site = form_where (slice_get forms site)

abbrev acted : Form → ℕ → ℕ → Op → List ℤ → Run ℤ
acted form weight site op args = at_site site (value_of op args) >>= (λ value. changing (λ kept. flagged form (raises_of op args) (counted weight kept)) >> gives value)

-- a plain operator on operands that clip stops
abbrev formed : Form → ℕ → ℕ → Op → List ℤ → Run ℤ
formed Plain weight site op args = if clips_of op args then at_site site None else acted Plain weight site op args
formed form weight site op args = acted form weight site op args

-- a read of Overflow that was missed stops, at a number that no site has
abbrev read_or_stop : ℕ → ℤ → Run ℤ
read_or_stop nowhere value = if int_eq value missed then at_site nowhere None else gives value

abbrev pub strict_acts : List SiteForm → Acts
strict_acts forms =
    record {
      operator = λ weight site op args. formed (form_at forms site) weight site op args;
      flag = reading (λ kept. kept.overflow) >>= read_or_stop (length forms);
    }

-- ---- safe

abbrev guard_where : Option SiteForm → Guard
guard_where None = Kept
guard_where (Some site) = site.guard

abbrev pub guard_at : List SiteForm → ℕ → Guard
guard_at forms site = guard_where (slice_get forms site)

-- every kind but the operators is plain
abbrev pub IsPlainOrOperator : SiteForm → Type 0
IsPlainOrOperator site = plain_where site.kind
  where
    plain_where : SiteKind → Type 0
    plain_where (Call op) = Unit {0}
    plain_where kind = site.form ≡ Plain

-- the site at which a run stops
abbrev stop_of : Outcome ℤ → Option ℕ
stop_of (Stops site s) = Some site
stop_of outcome = None

pub record AreSafe (tree : IrWhole) (forms : List SiteForm) : Type 0 where
  -- a form for each site, in order
  pub kinds : map (λ (form : SiteForm). form.kind) forms ≡ map (λ (site : Site). site.kind) tree.sites
  pub places : map (λ (form : SiteForm). form.pos) forms ≡ map (λ (site : Site). site.pos) tree.sites
  pub plain : All IsPlainOrOperator forms
  -- In no run a plain operator is evaluated on operands that clip, and after a clamped one was evaluated on operands for
  -- which it sets Overflow no run reads Overflow or ends before Overflow is assigned: a run that stops there, and one that
  -- ends with Overflow missed, are observed as the run itself.
  pub misses_nothing : (input : List ℤ) (turns : ℕ) → All (FitsSigned w16) input → observation_of (outcome_with (strict_acts forms) tree input turns) ≡ tree_observed tree input turns
  -- a site whose guard is gone never stops
  pub guards_stop : (input : List ℤ) (turns site : ℕ) → All (FitsSigned w16) input → stop_of (tree_outcome tree input turns) ≡ Some site → guard_at forms site ≡ Kept
