use Rattle.std.proofs.Common.{All, take}
use Rattle.sat_compile.specs.Emission.{HasPlace}
use Rattle.sat_compile.proofs.numbers.places_fit.Given as goal

abbrev pub invariant-loop-site : goal.invariant-loop-site
invariant-loop-site l = All HasPlace (take l.site-index l.sites)
