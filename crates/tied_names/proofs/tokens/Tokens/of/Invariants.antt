use Rattle.std.proofs.Common.{◌≡◌, ◌++◌, drop, map}
use Rattle.tied_names.specs.Numbers.{token_of}
use Rattle.tied_names.proofs.tokens.Tokens.of.Given as goal

abbrev pub invariant-loop-site : goal.invariant-loop-site
invariant-loop-site l = l.tokens.items ++ map token_of (drop l.site-index l.sites) ≡ map token_of l.fn.sites
