use Rattle.std.proofs.Common.{◌≡◌, ◌<◌, ℕ, suc, ◌+◌, List, [], ◌++◌, length, drop, get_or, Option, Some, None, sym, ap, ◌∙◌, refl, arith, append_assoc, drop-cons}
use Rattle.std.proofs.lemmas.List.{append-nil}
use Rattle.std.specs.List.{filter_map, cons_option}
use Rattle.call_structure.specs.Calls.{place_of}
use Rattle.call_structure.proofs.graph.places_of.Goals as goal
use Rattle.call_structure.proofs.graph.places_of.Goals.{in-Some+in_ok-push-in-Some, in-None}

-- one function more, which has this place or none
next : (h : ℕ → Option ℕ) (xs : List ℕ) (i : ℕ) (found : Option ℕ) (done new whole : List ℕ) → i < length xs → found ≡ h (get_or xs i 0)
    → new ≡ done ++ cons_option found [] → done ++ filter_map h (drop i xs) ≡ whole → new ++ filter_map h (drop (i + 1) xs) ≡ whole
next h xs i found done new whole low is more all =
    let one : i + 1 ≡ suc i = omega arith in
    let rest = filter_map h (drop (suc i) xs) in
    ap (λ k. new ++ filter_map h (drop k xs)) one ∙ ap (λ ys. ys ++ rest) more ∙ append_assoc done (cons_option found []) rest
    ∙ ap (λ ys. done ++ ys) (joins found) ∙ ap (λ o. done ++ cons_option o rest) is ∙ ap (λ ys. done ++ filter_map h ys) (sym (drop-cons xs i 0 low)) ∙ all
  where
    joins : (o : Option ℕ) → cons_option o [] ++ filter_map h (drop (suc i) xs) ≡ cons_option o (filter_map h (drop (suc i) xs))
    joins (Some place) = refl
    joins None = refl

pub loop-number-preserved : goal.loop-number-preserved
loop-number-preserved c =
    let step = λ (found : Option ℕ) (new : List ℕ). next (place_of c.args.definitions.now.entries) c.args.called.now c.loop-number.number-index found
    c.loop-number.places new (filter_map (place_of c.args.definitions.now.entries) c.args.called.now) c.loop-number-test.true in
    elim c.match-place_of.branch [
      | in-Some+in_ok-push-in-Some w ↦ step (Some w.in-Some.place) c.match-place_of.places (sym w.in-Some.is ∙ c.place_of.ensures)
          (w.places-is ∙ w.in_ok-push-in-Some.ensures.ok) c.loop-number.invariant
      | in-None w ↦ step None c.match-place_of.places (sym w.in-None.is ∙ c.place_of.ensures) (w.places-is ∙ sym (append-nil c.loop-number.places)) c.loop-number.invariant
    ]
