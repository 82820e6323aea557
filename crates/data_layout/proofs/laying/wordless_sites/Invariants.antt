use Rattle.std.proofs.Common.{◌≡◌, map, take}
use Rattle.expression_code.specs.Straight.{is_wordless}
use Rattle.data_layout.proofs.laying.wordless_sites.Given as goal

abbrev pub invariant-loop-site : goal.invariant-loop-site
invariant-loop-site l = l.wordless ≡ map (λ site. is_wordless site.kind) (take l.site-index l.sites)
