use Rattle.std.proofs.Common.{All, subst}
use Rattle.std.proofs.lemmas.List.{take_all}
use Rattle.std.proofs.lemmas.List.Elements.{All-more}
use Rattle.image_format.specs.declared.image.SiteEntry.{SiteEntry}
use Rattle.sat_compile.specs.Emission.{HasPlace}
use Rattle.sat_compile.proofs.numbers.places_fit.Goals as goal

-- what an item past the end is taken for
abbrev blank : SiteEntry
blank = record { first = 0; line = 0; col = 0; bound = 0; words = 0; kind = 0; form = 0; guard = 0; operands = 0; result = 0; reg_a = 0; reg_b = 0; reg_c = 0 }

pub loop-site-preserved : goal.loop-site-preserved
loop-site-preserved c = All-more HasPlace c.args.sites.now c.loop-site.site-index blank c.loop-site-test.true c.loop-site.invariant (c.number_fits.ensures, c.number_fits-in-loop-site.ensures)

pub returns : goal.returns
returns c = subst (All HasPlace) (take_all c.loop-site.site-index c.args.sites.now c.loop-site-test.false) c.loop-site.invariant
