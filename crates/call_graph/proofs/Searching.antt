-- The search, as it comes to a function and as it is done with it.
use Rattle.std.proofs.Common.{◌≡◌, ℕ, ◌+◌, ◌<◌, List, [], ◌∷◌, ◌++◌, length, reverse, sym, ap, ◌∙◌, inl, inr, below_more}
use Rattle.std.specs.Prelude.{slice_set}
use Rattle.std.proofs.lemmas.Bool.{cases_eq, cases_lt}
use Rattle.std.proofs.lemmas.List.{reverse-append, length-set, get_or-replicate, length-replicate}
use Rattle.std.proofs.lemmas.Option.{unwrap_or-slice_get}
use Rattle.std.proofs.Math.ListN.{get_or-eq_default, replicate}
use Rattle.std.proofs.lemmas.List.Elements.{All-cons, All-nil}
use Rattle.call_graph.specs.declared.search.Mark.{Mark}
use Rattle.call_graph.specs.declared.search.Mark.TheVariants.{New, Open, Done}
use Rattle.call_graph.specs.declared.search.Search.{Search}
use Rattle.call_graph.specs.Walks.{Calls}
use Rattle.call_graph.specs.Orders.{IsOrder, count_of}
use Rattle.call_graph.proofs.Counts.{count_of-end_same, count_of-end_other, count_of-reverse, counted}
use Rattle.call_graph.specs.Search.{IsSearched, IsIdle, Visits, Lists, mark_of, done_count}
use Rattle.call_graph.proofs.Places.{read, read-set_same, read-set_other}

abbrev pub marked : Search → ℕ → Mark → Search
marked search f mark = record { marks = slice_set search.marks f mark; done = search.done }

abbrev pub listed : Search → ℕ → Search
listed search f = record { marks = slice_set search.marks f Done; done = search.done ++ f ∷ [] }

-- a mark that counts as the one before
pub searched-marked : (graph : List (List ℕ)) (search : Search) (f : ℕ) (mark : Mark) → f < length graph → done_count mark ≡ done_count (mark_of search f) → IsSearched graph search → IsSearched graph (marked search f mark)
searched-marked graph search f mark own same searched =
    let within : f < length search.marks = rw searched.marked own in
    record {
      marked = length-set search.marks f mark ∙ searched.marked;
      own = searched.own;
      once = λ g. searched.once g ∙ elim (cases_eq g f) [
        | inl is ↦ ap (λ h. done_count (mark_of search h)) is ∙ sym same ∙ ap done_count (sym (read-set_same New search.marks f mark within)) ∙ ap (λ h. done_count (mark_of (marked search f mark) h)) (sym is)
        | inr other ↦ ap done_count (sym (read-set_other New search.marks f g mark other))
      ];
      callers_first = searched.callers_first;
    }

pub searched-listed : (graph : List (List ℕ)) (search : Search) (f : ℕ) → f < length graph → IsSearched graph search → mark_of search f ≡ Open → ((g : ℕ) → Calls graph f g → mark_of search g ≡ Done) → IsSearched graph (listed search f)
searched-listed graph search f own searched entered called =
    let within : f < length search.marks = rw searched.marked own in
    record {
      marked = length-set search.marks f Done ∙ searched.marked;
      own = rw (reverse-append search.done (f ∷ [])) (All-cons (λ g. g < length graph) f (reverse search.done) own searched.own);
      once = λ g. elim (cases_eq f g) [
        | inl is ↦
            let none : count_of g search.done ≡ 0 = searched.once g ∙ ap (λ h. done_count (mark_of search h)) (sym is) ∙ ap done_count entered in
            count_of-end_same g f search.done is ∙ ap (λ n. n + 1) none ∙ sym (ap (λ h. done_count (mark_of (listed search f) h)) (sym is) ∙ ap done_count (read-set_same New search.marks f Done within))
        | inr other ↦ count_of-end_other g f search.done other ∙ searched.once g ∙ ap done_count (sym (read-set_other New search.marks f g Done (λ e. other (sym e))))
      ];
      callers_first = rw (reverse-append search.done (f ∷ [])) (λ g calls. counted g (reverse search.done) (count_of-reverse g search.done ∙ searched.once g ∙ ap done_count (called g calls)), searched.callers_first);
    }

pub fresh : (graph : List (List ℕ)) → IsIdle graph (record { marks = replicate (length graph) New; done = [] })
fresh graph =
    let new : (f : ℕ) → read New (replicate (length graph) New) f ≡ New = λ f. unwrap_or-slice_get (replicate (length graph) New) f New ∙ (elim (cases_lt f (length graph)) [
      | inl own ↦ get_or-replicate (length graph) f New New own
      | inr past ↦ get_or-eq_default (replicate (length graph) New) New (rw length-replicate past)
    ]) in
    record {
      searched = record { marked = length-replicate (length graph) New; own = All-nil (λ f. f < length graph); once = λ f. sym (ap done_count (new f)); callers_first = tt };
      idle = λ f entered. let e : New ≡ Open = sym (new f) ∙ entered in cc;
    }

-- an idle search does a function more
pub lists-visited : (graph : List (List ℕ)) (f : ℕ) (before after : Search) → IsIdle graph before → Visits graph f before after → Lists graph f before after
lists-visited graph f before after idle visits = record {
  idle = record {
    searched = visits.searched;
    idle = λ g entered. elim (visits.others g) [ inl same ↦ idle.idle g (sym same ∙ entered) | inr done ↦ let e : Done ≡ Open = sym done.1 ∙ entered in cc ];
  };
  done = visits.done;
  kept = λ g done. elim (visits.others g) [ inl same ↦ same ∙ done | inr new ↦ absurd (let e : New ≡ Done = sym new.0 ∙ done in cc) ];
}

-- all functions are done
pub ordered : (graph : List (List ℕ)) (search : Search) → IsIdle graph search → ((f : ℕ) → f < length graph → mark_of search f ≡ Done) → IsOrder graph (reverse search.done)
ordered graph search idle done = record {
  own = idle.searched.own;
  once = λ f own. count_of-reverse f search.done ∙ idle.searched.once f ∙ ap done_count (done f own);
  callers_first = idle.searched.callers_first;
}

-- the functions before a number are done
pub record AreListed (graph : List (List ℕ)) (search : Search) (count : ℕ) : Type 0 where
  pub idle : IsIdle graph search
  pub done : (f : ℕ) → f < count → mark_of search f ≡ Done

pub list-more : (graph : List (List ℕ)) (before after : Search) (count : ℕ) → AreListed graph before count → Lists graph count before after → AreListed graph after (count + 1)
list-more graph before after count listed lists = record { idle = lists.idle; done = below_more _ _ (λ f less. lists.kept f (listed.done f less)) lists.done }
