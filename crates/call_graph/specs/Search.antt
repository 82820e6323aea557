-- How far the search for an order has come.
use Rattle.std.specs.Prelude.{◌≡◌, ◌≢◌, ℕ, ◌<◌, List, length, sum_by, reverse, unwrap_or, slice_get, All, ◌⊎◌}
use Rattle.call_graph.specs.declared.search.Mark.{Mark}
use Rattle.call_graph.specs.declared.search.Mark.TheVariants.{New, Open, Done}
use Rattle.call_graph.specs.declared.search.Search.{Search}
use Rattle.call_graph.specs.Walks.{Reaches}
use Rattle.call_graph.specs.Orders.{AreCallersFirst, count_of}

abbrev pub mark_of : Search → ℕ → Mark
mark_of search f = unwrap_or (slice_get search.marks f) New

abbrev pub done_count : Mark → ℕ
done_count New = 0
done_count Open = 0
done_count Done = 1

abbrev pub new_count : Mark → ℕ
new_count New = 1
new_count Open = 0
new_count Done = 0

-- the number of functions that the search has not come to
abbrev pub new_functions : Search → ℕ
new_functions search = sum_by new_count search.marks

-- those that are done stand each after what it calls
pub record IsSearched (graph : List (List ℕ)) (search : Search) : Type 0 where
  pub marked : length search.marks ≡ length graph
  pub own : All (λ f. f < length graph) (reverse search.done)
  pub once : (f : ℕ) → count_of f search.done ≡ done_count (mark_of search f)
  pub callers_first : AreCallersFirst graph (reverse search.done)

-- a function that the search is at reaches the next one
abbrev pub AllReach : List (List ℕ) → Search → ℕ → Type 0
AllReach graph search f = (g : ℕ) → mark_of search g ≡ Open → Reaches graph g f

-- some function reaches itself
abbrev pub IsRecursive : List (List ℕ) → Type 0
IsRecursive graph = (f : ℕ) × Reaches graph f f

-- functions are done that the search had not come to, and no other mark has changed
abbrev pub DoesMore : (before after : Search) → Type 0
DoesMore before after = (f : ℕ) → (mark_of after f ≡ mark_of before f) ⊎ (mark_of before f ≡ New) × (mark_of after f ≡ Done)

-- the search has done a function, with all that it reaches
pub record Visits (graph : List (List ℕ)) (f : ℕ) (before after : Search) : Type 0 where
  pub searched : IsSearched graph after
  pub done : mark_of after f ≡ Done
  pub others : DoesMore before after
  pub fewer : new_functions after < new_functions before

-- the search is at no function
pub record IsIdle (graph : List (List ℕ)) (search : Search) : Type 0 where
  pub searched : IsSearched graph search
  pub idle : (f : ℕ) → mark_of search f ≢ Open

-- the search has done a function, and all that was done before
pub record Lists (graph : List (List ℕ)) (f : ℕ) (before after : Search) : Type 0 where
  pub idle : IsIdle graph after
  pub done : mark_of after f ≡ Done
  pub kept : (g : ℕ) → mark_of before g ≡ Done → mark_of after g ≡ Done
