-- What a visit of a function keeps while it goes through the calls.
use Rattle.std.proofs.Common.{◌≡◌, ◌≢◌, ℕ, ◌+◌, ◌<◌, ◌≤◌, List, length, get_or, refl, sym, ap, ◌∙◌, subst, inl, inr, arith, below_more}
use Rattle.std.specs.Prelude.{◌⊎◌, Contains}
use Rattle.std.proofs.lemmas.Bool.{cases_eq}
use Rattle.std.proofs.lemmas.List.{get_or_default}
use Rattle.call_graph.specs.declared.search.Mark.TheVariants.{New, Open, Done}
use Rattle.call_graph.specs.declared.search.Search.{Search}
use Rattle.call_graph.specs.Search.{IsSearched, Visits, AllReach, mark_of, new_functions}
use Rattle.call_graph.specs.Walks.{callees, Reaches}
use Rattle.call_graph.proofs.Marks.{new-opened, new-closed}
use Rattle.call_graph.proofs.Places.{read-set_same, read-set_other}
use Rattle.call_graph.proofs.Searching.{marked, listed, searched-marked, searched-listed}
use Rattle.call_graph.proofs.Walking.{reaches-then, called-at}

-- marks as they were but for one function's, or of functions that are done now
abbrev pub Others : (f : ℕ) (before now : Search) → Type 0
Others f before now = (g : ℕ) → g ≢ f → (mark_of now g ≡ mark_of before g) ⊎ (mark_of before g ≡ New) × (mark_of now g ≡ Done)

-- the functions that it calls are done, up to an index
pub record IsVisiting (graph : List (List ℕ)) (f : ℕ) (called : List ℕ) (index : ℕ) (before now : Search) : Type 0 where
  pub searched : IsSearched graph now
  pub called_is : called ≡ callees graph f
  pub entered : mark_of now f ≡ Open
  pub seen : (k : ℕ) → k < index → get_or called k 0 < length graph → mark_of now (get_or called k 0) ≡ Done
  pub others : Others f before now
  pub fewer : new_functions now < new_functions before

pub begun : (graph : List (List ℕ)) (f : ℕ) (called : List ℕ) (search : Search) → called ≡ callees graph f → IsSearched graph search → f < length graph → mark_of search f ≡ New → IsVisiting graph f called 0 search (marked search f Open)
begun graph f called search is searched own new =
    let within : f < length search.marks = rw searched.marked own in
    record {
      searched = searched-marked graph search f Open own (rw new refl) searched;
      called_is = is;
      entered = read-set_same New search.marks f Open within;
      seen = λ k less. absurd (omega (arith, less));
      others = λ g other. inl (read-set_other New search.marks f g Open other);
      fewer = new-opened search.marks f within new;
    }

module _ (graph : List (List ℕ)) (f : ℕ) (called : List ℕ) (index : ℕ) (before now : Search) (visiting : IsVisiting graph f called index before now) where
  -- each function that the search is at reaches the next one
  pub reach-next : AllReach graph before f → index < length called → get_or called index 0 < length graph → AllReach graph now (get_or called index 0)
  reach-next reach within own g entered =
      let calls = called-at graph f called index visiting.called_is within own in
      elim (cases_eq g f) [
        | inl is ↦ subst (λ h. Reaches graph h (get_or called index 0)) (sym is) (0, (get_or called index 0, calls, refl))
        | inr other ↦ elim (visiting.others g other) [
          | inl same ↦ reaches-then graph g f (get_or called index 0) (reach g (sym same ∙ entered)) calls
          | inr done ↦ absurd (let e : Open ≡ Done = sym entered ∙ done.1 in cc)
        ]
      ]

  pub next-done : (get_or called index 0 < length graph → mark_of now (get_or called index 0) ≡ Done) → IsVisiting graph f called (index + 1) before now
  next-done done = record { searched = visiting.searched; called_is = visiting.called_is; entered = visiting.entered; seen = below_more _ _ visiting.seen done; others = visiting.others; fewer = visiting.fewer }

  pub next-visited : (after : Search) → Visits graph (get_or called index 0) now after → IsVisiting graph f called (index + 1) before after
  next-visited after visits = record {
    searched = visits.searched;
    called_is = visiting.called_is;
    entered = elim (visits.others f) [ inl same ↦ same ∙ visiting.entered | inr new ↦ absurd (let e : Open ≡ New = sym visiting.entered ∙ new.0 in cc) ];
    seen = below_more _ _
        (λ k less own. elim (visits.others (get_or called k 0)) [ inl same ↦ same ∙ visiting.seen k less own | inr new ↦ new.1 ])
        (λ own. visits.done);
    others = λ g other. elim (visits.others g) [
      | inl same ↦ elim (visiting.others g other) [ inl was ↦ inl (same ∙ was) | inr new ↦ inr (new.0, same ∙ new.1) ]
      | inr new ↦ elim (visiting.others g other) [ inl was ↦ inr (sym was ∙ new.0, new.1) | inr done ↦ absurd (let e : New ≡ Done = sym new.0 ∙ done.1 in cc) ]
    ];
    fewer = omega (arith, visits.fewer, visiting.fewer);
  }

-- all that it calls is done
pub ended : (graph : List (List ℕ)) (f : ℕ) (called : List ℕ) (index : ℕ) (before now : Search) → f < length graph → mark_of before f ≡ New → length called ≤ index → IsVisiting graph f called index before now → Visits graph f before (listed now f)
ended graph f called index before now own new all visiting =
    let within : f < length now.marks = rw visiting.searched.marked own in
    record {
      searched = searched-listed graph now f own visiting.searched visiting.entered
          (λ g calls.
          let there : Contains called g = subst (λ xs. Contains xs g) (sym visiting.called_is) calls.0 in
          let is : get_or called there.0 0 ≡ g = get_or_default called there.0 0 g there.1 ∙ there.2 in
          subst (λ h. mark_of now h ≡ Done) is (visiting.seen there.0 (omega (arith, there.1, all)) (rw is calls.1)));
      done = read-set_same New now.marks f Done within;
      others = λ g. elim (cases_eq g f) [
        | inl is ↦ inr (ap (mark_of before) is ∙ new, ap (mark_of (listed now f)) is ∙ read-set_same New now.marks f Done within)
        | inr other ↦ elim (visiting.others g other) [
          | inl was ↦ inl (read-set_other New now.marks f g Done other ∙ was)
          | inr done ↦ inr (done.0, read-set_other New now.marks f g Done other ∙ done.1)
        ]
      ];
      fewer = rw (new-closed now.marks f within visiting.entered) visiting.fewer;
    }
