use Rattle.std.proofs.Common.{◌≡◌, map, arith, sym, subst}
use Rattle.std.specs.List.Sorted.{IsNonDecreasing}
use Rattle.std.proofs.lemmas.List.{append-nil}
use Rattle.tied_names.specs.Numbers.{token_of}
use Rattle.tied_names.proofs.InOrder.{tokens-in-order, token-end}
use Rattle.tied_names.proofs.tokens.Tokens.of.Goals as goal

pub invariant_of-result : goal.invariant_of-result
invariant_of-result c =
    let all : c.loop-site.tokens.items ≡ map token_of c.args.sites.now = grind (arith, c.loop-site.invariant, c.loop-site-test.false, append-nil, token-end) in
    subst IsNonDecreasing (sym all) (tokens-in-order c.args.sites.now c.requires)
