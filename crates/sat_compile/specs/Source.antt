-- What a source is to the promise.
use Rattle.std.specs.Prelude.{ℕ, ℤ, List}
use Rattle.sat_base.specs.Observation.{Observation}
use Rattle.operator_meaning.specs.declared.object.Site.{Site}
use Rattle.operator_meaning.specs.declared.site.Form.{Form}
use Rattle.operator_meaning.specs.declared.site.Guard.{Guard}

-- how a site is compiled
pub record Treatment : Type 0 where
  pub form : Form
  pub guard : Guard

pub record Source : Type 0 where
  -- what is observed of it on an input, where each activation of a loop makes at most so many turns
  pub observed : List ℤ → ℕ → Observation
  -- its sites, in the order of their tokens
  pub sites : List Site
  -- how each of them is compiled
  pub treatments : List Treatment
