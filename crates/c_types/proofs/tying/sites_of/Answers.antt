use Rattle.std.proofs.Common.{◌≡◌, List, rules, arith, subst}
use Rattle.std.specs.List.Sorted.{IsStableByKey}
use Rattle.std.specs.Ordering.{nat_cmp}
use Rattle.std.proofs.lemmas.List.{append-nil}
use Rattle.std.proofs.lemmas.List.Sorted.{IsNonDecreasingBy-from_sort_by_key, answers_always}
use Rattle.operator_meaning.specs.declared.object.Site.{Site}
use Rattle.tied_names.specs.Numbers.{sites_in, token_of}
use Rattle.c_types.proofs.Source_equations.{sites-end}
use Rattle.c_types.proofs.tying.sites_of.Goals as goal

pub returns-clause-in_order : goal.returns-clause-in_order
returns-clause-in_order c = IsNonDecreasingBy-from_sort_by_key token_of _ c.in_ok-sort_by_key.ensures.sorted (λ a r q k. search rules)

pub returns-clause-stable : goal.returns-clause-stable
returns-clause-stable c =
    let all : c.loop-note.sites.items ≡ sites_in c.args.notes.now = grind (arith, c.loop-note.invariant, c.loop-note-test.false, append-nil, sites-end) in
    subst (λ (l : List Site). IsStableByKey token_of nat_cmp l c.sort_by_key.new.self.items) all
    (c.in_ok-sort_by_key.ensures.stable token_of (answers_always _ _ _ (λ f a r q k. search rules)))
