use Rattle.std.proofs.Common.{rules}
use Rattle.std.proofs.lemmas.List.Sorted.{IsNonDecreasingBy-from_sort_by_key, answers_always}
use Rattle.register_allocation.specs.Overlaps.{precedes}
use Rattle.register_allocation.proofs.Sorting.{start_of, answered-of}
use Rattle.register_allocation.proofs.spans.are_apart.Goals as goal

pub returns : goal.returns
returns c =
    answered-of c.args.spans.now c.sort_unstable_by_key.new.self c.sort_unstable_by_key.ensures.permutation
    (IsNonDecreasingBy-from_sort_by_key start_of _ c.sort_unstable_by_key.ensures.sorted (λ a r q k. search rules)) c.requires c.is_sorted_by.result
    (c.is_sorted_by.ensures.cases precedes (answers_always _ _ _ (λ f a r q k. search rules)))
