-- How many functions are new, as one is marked.
use Rattle.std.proofs.Common.{◌≡◌, ℕ, ◌<◌, List, length, get_or, sym, ap, ◌∙◌, arith}
use Rattle.std.specs.Prelude.{sum_by, slice_set}
use Rattle.std.proofs.lemmas.List.Sums.{sum_by-set}
use Rattle.std.proofs.lemmas.Option.{unwrap_or-slice_get}
use Rattle.call_graph.specs.declared.search.Mark.{Mark}
use Rattle.call_graph.specs.declared.search.Mark.TheVariants.{New, Open, Done}
use Rattle.call_graph.specs.Search.{new_count}
use Rattle.call_graph.proofs.Places.{read}

pub new-opened : (marks : List Mark) (f : ℕ) → f < length marks → read New marks f ≡ New → sum_by new_count (slice_set marks f Open) < sum_by new_count marks
new-opened marks f own new =
    let is : get_or marks f New ≡ New = sym (unwrap_or-slice_get marks f New) ∙ new in
    let one : new_count (get_or marks f New) ≡ 1 = ap new_count is in
    let sums = sum_by-set new_count marks f Open New own in
    omega arith

pub new-closed : (marks : List Mark) (f : ℕ) → f < length marks → read New marks f ≡ Open → sum_by new_count (slice_set marks f Done) ≡ sum_by new_count marks
new-closed marks f own entered =
    let is : get_or marks f New ≡ Open = sym (unwrap_or-slice_get marks f New) ∙ entered in
    let none : new_count (get_or marks f New) ≡ 0 = ap new_count is in
    let sums = sum_by-set new_count marks f Done New own in
    omega arith
