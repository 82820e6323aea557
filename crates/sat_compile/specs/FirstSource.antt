-- What a source of the first form is to the promise. In a pattern `boxed e` is a box with e in it.
use Rattle.std.specs.Prelude.{ℕ, List, [], ◌∷◌, ◌++◌, map}
use Rattle.std.specs.List.{flat_map}
use Rattle.sat_base.specs.declared.position.Pos.{Pos}
use Rattle.first_form.specs.declared.first.First.{First}
use Rattle.first_form.specs.declared.first.FirstExpr.{FirstExpr, Int, Add', Sub', more_of-FirstExpr as boxed}
use Rattle.first_form.specs.Meaning.{observed}
use Rattle.operator_meaning.specs.declared.object.Site.{Site}
use Rattle.operator_meaning.specs.declared.operator.Op.{Op}
use Rattle.operator_meaning.specs.declared.operator.Op.TheVariants as op
use Rattle.operator_meaning.specs.declared.site.Form.TheVariants.{Flag}
use Rattle.operator_meaning.specs.declared.site.Guard.TheVariants.{Gone}
use Rattle.operator_meaning.specs.declared.site.SiteKind.TheVariants.{Call}
use Rattle.sat_compile.specs.Source.{Source, Treatment}

abbrev pub site : Op → (tok : ℕ) → Pos → Site
site operator tok at = record { tok = tok; pos = at; kind = Call operator }

-- in the order of their tokens
abbrev pub expression_sites : FirstExpr → List Site
expression_sites (Int n) = []
expression_sites (Add' tok at _ (boxed left _) _ (boxed right _)) = site op.Add tok at ∷ (expression_sites left ++ expression_sites right)
expression_sites (Sub' tok at _ (boxed left _) _ (boxed right _)) = site op.Sub tok at ∷ (expression_sites left ++ expression_sites right)

abbrev pub sites_of : First → List Site
sites_of first = flat_map expression_sites first.outs

-- each operator clips and updates Overflow, and none of them can stop
abbrev pub in_full : Site → Treatment
in_full site = record { form = Flag; guard = Gone }

abbrev pub source_of : First → Source
source_of first = record {
  observed = observed first;
  sites = sites_of first;
  treatments = map in_full (sites_of first);
}
