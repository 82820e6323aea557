-- The way along a cycle: each step comes one call nearer.
use Rattle.std.proofs.Common.{◌≡◌, ℕ, zero, suc, ◌<◌, ◌≤◌, List, [], ◌∷◌, ◌++◌, length, get_or, refl, sym, ap, ◌∙◌, subst, inl, inr, arith, append_assoc}
use Rattle.std.specs.Prelude.{Option, Some, None, Contains}
use Rattle.std.proofs.lemmas.Bool.{cases_order}
use Rattle.std.proofs.lemmas.List.{get_or_default}
use Rattle.call_graph.specs.Walks.{callees, Calls, Walk, Reaches, IsDistance}
use Rattle.call_graph.specs.Distances.{AreDistances, distance_in}
use Rattle.call_graph.specs.Backwards.{IsReversed}
use Rattle.call_graph.specs.Cycles.{AreDistancesTo, IsNearest, IsNearer, Descends, IsCycleFrom, IsCycle, IsFirstCycle}
use Rattle.call_graph.proofs.Reversal.{caller-own, walk-here, walk-there}

-- distances from a function, backwards
pub distances-to : (graph back : List (List ℕ)) (start : ℕ) (distances : List (Option ℕ)) → IsReversed graph back → AreDistances back start distances → AreDistancesTo graph start distances
distances-to graph back start distances reversed are = record {
  reached = λ f n known. let is = are.reached f n known in record {
    some = is.some;
    walk = walk-there graph back reversed n f start is.walk;
    least = λ m some less walk. is.least m some less (walk-here graph back reversed m f start walk);
  };
  others = λ f unknown (n, walk). are.others f unknown (n, walk-here graph back reversed (suc n) f start walk);
}

distance-unique : (graph : List (List ℕ)) (n m f g : ℕ) → IsDistance graph n f g → IsDistance graph m f g → n ≡ m
distance-unique graph n m f g one other = elim (cases_order n m) [
  | inl same ↦ same
  | inr apart ↦ elim apart [
    | inl less ↦ absurd (other.least n one.some less one.walk)
    | inr more ↦ absurd (one.least m other.some more other.walk)
  ]
]

module _ (graph : List (List ℕ)) (start : ℕ) (distances : List (Option ℕ)) (are : AreDistancesTo graph start distances) where
  known-as : (f n : ℕ) (found : Option ℕ) → distance_in distances f ≡ found → IsDistance graph n f start → distance_in distances f ≡ Some n
  known-as f (suc n) None is distance = absurd (are.others f is (n, distance.walk))
  known-as f zero None is distance = absurd (omega (arith, distance.some))
  known-as f n (Some m) is distance = is ∙ ap Some (distance-unique graph m n f start (are.reached f m is) distance)

  -- a distance is known
  pub known : (f n : ℕ) → IsDistance graph n f start → distance_in distances f ≡ Some n
  known f n distance = known-as f n (distance_in distances f) refl distance

  -- the first step of a shortest walk comes one nearer
  nearer-as : (f h n : ℕ) (found : Option ℕ) → distance_in distances h ≡ found → IsDistance graph (suc (suc n)) f start → Calls graph f h → Walk graph (suc n) h start → distance_in distances h ≡ Some (suc n)
  nearer-as f h n None is distance calls walk = absurd (are.others h is (n, walk))
  nearer-as f h n (Some m) is distance calls walk =
      let at = are.reached h m is in
      elim (cases_order m (suc n)) [
        | inl same ↦ is ∙ ap Some same
        | inr apart ↦ elim apart [
          | inl less ↦ absurd (distance.least (suc m) (omega arith) (omega (arith, less)) (h, calls, at.walk))
          | inr more ↦ absurd (at.least (suc n) (omega arith) more walk)
        ]
      ]

  module _ (f n : ℕ) (called : List ℕ) (is : called ≡ callees graph f) (distance : IsDistance graph (suc (suc n)) f start) where
    -- so one of the functions that it calls is nearer
    pub nearest-some : IsNearest called (length called) distances (suc n) None → ⊥
    nearest-some none =
        let h = distance.walk.0 in
        let calls = distance.walk.1 in
        let at = nearer-as f h n (distance_in distances h) refl distance calls distance.walk.2 in
        let among : Contains called h = subst (λ xs. Contains xs h) (sym is) calls.0 in
        let same : h ≡ get_or called among.0 0 = sym among.2 ∙ get_or_default called among.0 h 0 among.1 in
        none among.0 among.1 (subst (λ g. distance_in distances g ≡ Some (suc n)) same at)

    pub nearest-nearer : (g : ℕ) → IsNearest called (length called) distances (suc n) (Some g) → IsNearer graph start (suc n) f g
    nearest-nearer g nearest =
        let near = are.reached g (suc n) nearest.1 in
        let own = caller-own graph g near.walk.0 near.walk.1.0 in
        record {
          called = (subst (λ xs. Contains xs g) is nearest.0, own);
          near = near;
          first = λ h less calls nearer.
              let among : Contains called h = subst (λ xs. Contains xs h) (sym is) calls.0 in
              let same : h ≡ get_or called among.0 0 = sym among.2 ∙ get_or_default called among.0 h 0 among.1 in
              let above = nearest.2 among.0 among.1 (subst (λ x. distance_in distances x ≡ Some (suc n)) same (known h (suc n) nearer)) in
              omega (arith, above, same, less);
        }

-- the way from a function, so many calls from the start, that goes on along a cycle
abbrev pub Continues : List (List ℕ) → (start length left f : ℕ) → List ℕ → Type 0
Continues graph start length left f cycle = (rest : List ℕ) → Descends graph start left f rest → IsCycleFrom graph start length (cycle ++ rest)

pub continues-begun : (graph : List (List ℕ)) (start length : ℕ) → Continues graph start length length start (start ∷ [])
continues-begun graph start length rest descends = (refl, descends)

pub continues-nearer : (graph : List (List ℕ)) (start length n f g : ℕ) (cycle : List ℕ) → IsNearer graph start (suc n) f g → Continues graph start length (suc (suc n)) f cycle → Continues graph start length (suc n) g (cycle ++ g ∷ [])
continues-nearer graph start length n f g cycle nearer continues rest descends =
    subst (IsCycleFrom graph start length) (sym (append_assoc cycle (g ∷ []) rest)) (continues (g ∷ rest) (nearer, descends))

pub continues-ended : (graph : List (List ℕ)) (start length left f : ℕ) (cycle : List ℕ) → left ≤ 1 → IsDistance graph left f start → Continues graph start length left f cycle → IsCycleFrom graph start length (cycle ++ start ∷ [])
continues-ended graph start length zero f cycle all distance continues = absurd (omega (arith, distance.some))
continues-ended graph start length (suc zero) f cycle all distance continues =
    let walk = distance.walk in
    continues (start ∷ []) (subst (Calls graph f) walk.2 walk.1, refl)
continues-ended graph start length (suc (suc left)) f cycle all distance continues = absurd (omega (arith, all))

-- a cycle from the first function that reaches itself is the one that is told
pub first-found : (graph : List (List ℕ)) (start length : ℕ) (cycle : List ℕ) → IsDistance graph length start start → ((f : ℕ) → f < start → Reaches graph f f → ⊥) → IsCycleFrom graph start length cycle → IsFirstCycle graph cycle
first-found graph start length [] least first cycle = cycle
first-found graph start length (f ∷ rest) least first cycle = subst (λ s. IsCycle graph s rest) (sym cycle.0) (record { length = length; least = least; first = first; way = cycle.1 })

-- where no function reaches itself
pub none-recursive : (graph : List (List ℕ)) (count : ℕ) → length graph ≤ count → ((f : ℕ) → f < count → Reaches graph f f → ⊥) → (f : ℕ) → Reaches graph f f → ⊥
none-recursive graph count all none f reaches =
    let own = caller-own graph f reaches.1.0 reaches.1.1.0 in
    none f (omega (arith, own, all)) reaches

pub record IsOnWay (graph : List (List ℕ)) (start length left f : ℕ) (cycle : List ℕ) : Type 0 where
  pub distance : IsDistance graph left f start
  pub continues : Continues graph start length left f cycle

module _ (graph : List (List ℕ)) (start length' n left less f : ℕ) (cycle called : List ℕ) (distances : List (Option ℕ)) (two : left ≡ suc (suc n)) (one : less ≡ suc n)
    (are : AreDistancesTo graph start distances) (is : called ≡ callees graph f) (way : IsOnWay graph start length' left f cycle) where
  way-on : IsOnWay graph start length' (suc (suc n)) f cycle
  way-on = subst (λ m. IsOnWay graph start length' m f cycle) two way

  pub way-nearer : (g : ℕ) → IsNearest called (length called) distances less (Some g) → IsOnWay graph start length' less g (cycle ++ g ∷ [])
  way-nearer g nearest =
      let nearer = nearest-nearer graph start distances are f n called is way-on.distance g (subst (λ m. IsNearest called (length called) distances m (Some g)) one nearest) in
      subst (λ m. IsOnWay graph start length' m g (cycle ++ g ∷ [])) (sym one) (record { distance = nearer.near; continues = continues-nearer graph start length' n f g cycle nearer way-on.continues })

  pub way-some : IsNearest called (length called) distances less None → ⊥
  way-some nearest = nearest-some graph start distances are f n called is way-on.distance (subst (λ m. IsNearest called (length called) distances m None) one nearest)
